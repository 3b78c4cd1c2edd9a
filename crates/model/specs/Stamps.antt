-- Slip 4's stamps, by computation on the model: a page sent again unchanged, changed and changed back, changed in its last byte; a page past the end of the version
-- before; updates of two pages of which one is unchanged; and a page that two lines share.
-- The theorems that compute them stand in proofs/Stamps.
use Rattle.std.specs.Prelude.{List, [], ◌∷◌, ◌++◌, ℕ, suc, length, replicate}
use Rattle.model.specs.Calls.{Call, BEGIN, PUT, WEAVE, on, WRITE, PUBLISH, BRANCH, STAMP, refused, ticket_is, put_done, version_is, node_is, published_is, line_is, stamp_is, Outcome, says}
use Rattle.model.specs.History.{Page}
use Rattle.model.specs.Example.{page_of}

-- An update of these pages from page f of line l on, by ticket t, woven in n calls and published; and what these calls give back where it is version v and those are its
-- nodes.
abbrev pub puts : ℕ → ℕ → List Page → List Call
puts t i [] = []
puts t i (x ∷ xs) = PUT t i x ∷ puts t (suc i) xs

abbrev pub sends : ℕ → ℕ → ℕ → List Page → ℕ → List Call
sends l t f pages n = BEGIN (length pages) ∷ puts t 0 pages ++ on l (WRITE t f) ∷ replicate n (WEAVE t) ++ on l (PUBLISH 0) ∷ []

abbrev pub given_sends : ℕ → ℕ → ℕ → List Outcome → List Outcome
given_sends t pages v nodes =
    says (ticket_is t) ∷ replicate pages (says put_done) ++ says (version_is v (length nodes)) ∷ nodes ++ says (published_is v) ∷ []

-- One page, in seven versions: sent again twice; changed; changed back, which is a stamp of its own; sent again; and changed in its last byte alone.
unfoldable pub again : List Call
again =
    sends 0 1 0 (page_of 10 ∷ []) 1
    ++ sends 0 2 0 (page_of 10 ∷ []) 1
    ++ sends 0 3 0 (page_of 10 ∷ []) 1
    ++ sends 0 4 0 (page_of 20 ∷ []) 1
    ++ sends 0 5 0 (page_of 10 ∷ []) 1
    ++ sends 0 6 0 (page_of 10 ∷ []) 1
    ++ sends 0 7 0 ((replicate 15 10 ++ 11 ∷ []) ∷ []) 1
    ++ on 0 (STAMP 1 0)
    ∷ on 0 (STAMP 2 0)
    ∷ on 0 (STAMP 3 0)
    ∷ on 0 (STAMP 4 0)
    ∷ on 0 (STAMP 5 0)
    ∷ on 0 (STAMP 6 0)
    ∷ on 0 (STAMP 7 0)
    ∷ on 0 (STAMP 0 0)
    ∷ on 0 (STAMP 8 0)
    ∷ on 0 (STAMP 7 1)
    ∷ []

unfoldable pub given_again : List Outcome
given_again =
    given_sends 1 1 1 (says (node_is 1 0 1 0 0 0) ∷ [])
    ++ given_sends 2 1 2 (says (node_is 2 0 1 1 0 0) ∷ [])
    ++ given_sends 3 1 3 (says (node_is 3 0 1 2 0 0) ∷ [])
    ++ given_sends 4 1 4 (says (node_is 4 0 1 3 0 0) ∷ [])
    ++ given_sends 5 1 5 (says (node_is 5 0 1 4 0 0) ∷ [])
    ++ given_sends 6 1 6 (says (node_is 6 0 1 5 0 0) ∷ [])
    ++ given_sends 7 1 7 (says (node_is 7 0 1 6 0 0) ∷ [])
    ++ says (stamp_is 1)
    ∷ says (stamp_is 1)
    ∷ says (stamp_is 1)
    ∷ says (stamp_is 4)
    ∷ says (stamp_is 5)
    ∷ says (stamp_is 5)
    ∷ says (stamp_is 7)
    ∷ says (refused 17)
    ∷ says (refused 16)
    ∷ says (refused 17)
    ∷ []

-- Page 1 is first in version 2, which sends page 0 unchanged. Version 3 changes page 0 and not page 1, version 4 has page 1 alone, and version 5 sends page 0 as version 3
-- has it.
unfoldable pub pairs : List Call
pairs =
    sends 0 1 0 (page_of 10 ∷ []) 1
    ++ sends 0 2 0 (page_of 10 ∷ page_of 10 ∷ []) 3
    ++ sends 0 3 0 (page_of 30 ∷ page_of 10 ∷ []) 3
    ++ sends 0 4 1 (page_of 11 ∷ []) 2
    ++ sends 0 5 0 (page_of 30 ∷ []) 2
    ++ on 0 (STAMP 1 0)
    ∷ on 0 (STAMP 1 1)
    ∷ on 0 (STAMP 2 0)
    ∷ on 0 (STAMP 2 1)
    ∷ on 0 (STAMP 3 0)
    ∷ on 0 (STAMP 3 1)
    ∷ on 0 (STAMP 4 0)
    ∷ on 0 (STAMP 4 1)
    ∷ on 0 (STAMP 5 0)
    ∷ on 0 (STAMP 5 1)
    ∷ []

unfoldable pub given_pairs : List Outcome
given_pairs =
    given_sends 1 1 1 (says (node_is 1 0 1 0 0 0) ∷ [])
    ++ given_sends 2 2 2 (says (node_is 2 0 2 2 2 2) ∷ says (node_is 2 0 1 1 0 1) ∷ says (node_is 2 1 1 2 0 0) ∷ [])
    ++ given_sends 3 2 3 (says (node_is 3 0 2 3 3 2) ∷ says (node_is 3 0 1 3 0 1) ∷ says (node_is 3 1 1 4 0 0) ∷ [])
    ++ given_sends 4 1 4 (says (node_is 4 0 2 3 4 1) ∷ says (node_is 4 1 1 5 0 0) ∷ [])
    ++ given_sends 5 1 5 (says (node_is 5 0 2 5 4 1) ∷ says (node_is 5 0 1 6 0 0) ∷ [])
    ++ says (stamp_is 1)
    ∷ says (refused 17)
    ∷ says (stamp_is 1)
    ∷ says (stamp_is 2)
    ∷ says (stamp_is 3)
    ∷ says (stamp_is 2)
    ∷ says (stamp_is 3)
    ∷ says (stamp_is 4)
    ∷ says (stamp_is 3)
    ∷ says (stamp_is 4)
    ∷ []

-- Line 1 begins from version 1 and sends its page 0 unchanged, so that its stamp is the shared version's; the live line changes it meanwhile, and changes it back.
unfoldable pub apart : List Call
apart =
    sends 0 1 0 (page_of 10 ∷ page_of 11 ∷ []) 3
    ++ on 0 (BRANCH 1)
    ∷ sends 1 2 0 (page_of 10 ∷ []) 2
    ++ sends 0 3 0 (page_of 30 ∷ []) 2
    ++ sends 0 4 0 (page_of 10 ∷ []) 2
    ++ sends 1 5 0 (page_of 30 ∷ []) 2
    ++ on 1 (STAMP 1 0)
    ∷ on 1 (STAMP 2 0)
    ∷ on 1 (STAMP 2 1)
    ∷ on 1 (STAMP 3 0)
    ∷ on 1 (STAMP 3 1)
    ∷ on 0 (STAMP 2 0)
    ∷ on 0 (STAMP 3 0)
    ∷ on 0 (STAMP 3 1)
    ∷ []

unfoldable pub given_apart : List Outcome
given_apart =
    given_sends 1 2 1 (says (node_is 1 0 2 1 1 2) ∷ says (node_is 1 0 1 0 0 1) ∷ says (node_is 1 1 1 1 0 0) ∷ [])
    ++ says (line_is 1)
    ∷ given_sends 2 1 2 (says (node_is 65538 0 2 65538 1 1) ∷ says (node_is 65538 0 1 2 0 0) ∷ [])
    ++ given_sends 3 1 2 (says (node_is 2 0 2 2 1 1) ∷ says (node_is 2 0 1 3 0 0) ∷ [])
    ++ given_sends 4 1 3 (says (node_is 3 0 2 3 1 1) ∷ says (node_is 3 0 1 4 0 0) ∷ [])
    ++ given_sends 5 1 3 (says (node_is 65539 0 2 65539 1 1) ∷ says (node_is 65539 0 1 5 0 0) ∷ [])
    ++ says (stamp_is 1)
    ∷ says (stamp_is 1)
    ∷ says (stamp_is 1)
    ∷ says (stamp_is 3)
    ∷ says (stamp_is 1)
    ∷ says (stamp_is 2)
    ∷ says (stamp_is 3)
    ∷ says (stamp_is 1)
    ∷ []
