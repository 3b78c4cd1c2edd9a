-- What the isolation of lines gives a client, over any areas that FORMAT accepts: by the theorem alone, since the areas are not given. The live line is compared alone, and
-- beside a planner whose line, tickets, pages and versions are in one of the two lists alone.
use Rattle.std.specs.Prelude.{◌≡◌, List, [], ◌∷◌, ◌++◌, ℕ}
use Rattle.model.specs.Calls.{Call, BEGIN, PUT, WEAVE, on, WRITE, APPEND, BRANCH, READ, SIZE, RECENT, STAMP, VIEW, node_is, Outcome, says}
use Rattle.model.specs.Example.{page_of}
use Rattle.model.specs.Stamps.{sends}
use Rattle.versions.specs.Store.{Areas}
use Rattle.demands.specs.Run.{store_after, asked}
use Rattle.uses.specs.Accepted.{limits}

-- Version 1 of line 0, two pages.
unfoldable pub shared : List Call
shared = sends 0 1 0 (page_of 10 ∷ page_of 11 ∷ []) 3

-- Version 2 of line 0, page 1 anew, and a ticket whose page is put.
unfoldable pub alone : List Call
alone = shared ++ sends 0 2 1 (page_of 21 ∷ []) 2 ++ BEGIN 1 ∷ PUT 3 0 (page_of 30) ∷ []

-- The same, while a planner begins line 1 and makes two versions there: three pages, of which two replace the shared ones, and a fourth. Line 0's tickets are 3 and 5 here.
unfoldable pub beside : List Call
beside =
    shared
    ++ on 0 (BRANCH 1)
    ∷ sends 1 2 0 (page_of 90 ∷ page_of 91 ∷ page_of 92 ∷ []) 6
    ++ sends 0 3 1 (page_of 21 ∷ []) 2
    ++ sends 1 4 3 (page_of 93 ∷ []) 3
    ++ BEGIN 1
    ∷ PUT 5 0 (page_of 30)
    ∷ []

-- A page put to a ticket, alone and after a planner's whole update.
unfoldable pub opened : List Call
opened = BEGIN 1 ∷ PUT 1 0 (page_of 10) ∷ []

unfoldable pub opened_beside : List Call
opened_beside = on 0 (BRANCH 0) ∷ sends 1 1 0 (page_of 90 ∷ page_of 91 ∷ []) 3 ++ BEGIN 1 ∷ PUT 2 0 (page_of 10) ∷ []

module _ (a : Areas) where
  -- What a call gives back after a list of calls.
  abbrev pub gives : List Call → Call → Outcome
  gives cs c = asked (store_after limits a cs) c

  -- From FORMAT on, the first version of the line and its node count are the same.
  pub record FromFormat : Type 0 where
    pub appends : gives opened (on 0 (APPEND 1)) ≡ gives opened_beside (on 0 (APPEND 2))

  -- Two lines give back the same to all that reads them, whatever the version, the page, the range and the buffer: bytes, sizes and stamps, and refusals 16, 17 and 18.
  pub record ReadAlike (l l' : ℕ) (cs cs' : List Call) : Type 0 where
    pub reads : (v offset len : ℕ) (buffer : List ℕ) → gives cs (on l (READ v offset len buffer)) ≡ gives cs' (on l' (READ v offset len buffer))
    pub sizes : (v : ℕ) → gives cs (on l (SIZE v)) ≡ gives cs' (on l' (SIZE v))
    pub recent : gives cs (on l RECENT) ≡ gives cs' (on l' RECENT)
    pub stamps : (v p : ℕ) → gives cs (on l (STAMP v p)) ≡ gives cs' (on l' (STAMP v p))
    pub views : (v p : ℕ) → gives cs (on l (VIEW v p)) ≡ gives cs' (on l' (VIEW v p))

  -- The live line reads the same beside the planner, and its open ticket gets the same version; where it is to be written past the line's two pages it is refused by 13, also
  -- where the planner's line has four.
  pub record Unreached : Type 0 where
    pub read : ReadAlike 0 0 alone beside
    pub appends : gives alone (on 0 (APPEND 3)) ≡ gives beside (on 0 (APPEND 5))
    pub past : gives alone (on 0 (WRITE 3 3)) ≡ gives beside (on 0 (WRITE 5 3))

  -- Its ticket's nodes, page 1 anew: the root has the same versions in it; the leaf has the ticket's first page, which is the fourth page alone, and the eighth beside the planner.
  pub record Woven : Type 0 where
    pub root : gives (alone ++ on 0 (WRITE 3 1) ∷ []) (WEAVE 3) ≡ gives (beside ++ on 0 (WRITE 5 1) ∷ []) (WEAVE 5)
    pub leaf : gives (alone ++ on 0 (WRITE 3 1) ∷ WEAVE 3 ∷ []) (WEAVE 3) ≡ says (node_is 3 1 1 3 0 0)
    pub leaf_beside : gives (beside ++ on 0 (WRITE 5 1) ∷ WEAVE 5 ∷ []) (WEAVE 5) ≡ says (node_is 3 1 1 7 0 0)

  -- A line that begins from version 1, which is line 0's last, reads as one that begins from version 1 where line 0 has gone on.
  pub record BegunAlike : Type 0 where
    pub read : ReadAlike 1 2 (shared ++ on 0 (BRANCH 1) ∷ []) (beside ++ on 0 (BRANCH 1) ∷ [])
