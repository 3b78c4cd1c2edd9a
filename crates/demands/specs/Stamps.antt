-- Slip 4's stamps, by computation: the model's examples on the calls' definitions; and over areas that no run left, where a lower walk that is lost ends the way down at
-- the version that it has come to, with no refusal.
use Rattle.std.specs.Prelude.{◌≡◌, refl, List, [], ◌∷◌, ◌++◌, ℕ, set}
use Rattle.tree.specs.NodeArea.{all_ones, with_node}
use Rattle.register.specs.Register.{no_record, with_record}
use Rattle.model.specs.Calls.{Call, on, STAMP, stamp_is, Outcome, says}
use Rattle.model.specs.OnModel.{on_model}
use Rattle.model.specs.Run.{outcomes, model_after}
use Rattle.model.specs.Example.{limits, page_of}
use Rattle.model.specs.Stamps.{sends, again, given_again, pairs, given_pairs, apart, given_apart}
use Rattle.versions.specs.Store.{Areas, with_pages, with_register}
use Rattle.demands.specs.Computes.{computes}
use Rattle.demands.specs.Run.{on_store, formatted_state, store_after}
use Rattle.demands.specs.Rows.{no, with_areas, nodes_by}
use Rattle.demands.specs.Lines.{areas}

-- ---- the model's examples

pub again-by-calls : outcomes on_store (formatted_state limits areas) again ≡ given_again
unfolding computes limits areas again given_again
again-by-calls = refl

pub pairs-by-calls : outcomes on_store (formatted_state limits areas) pairs ≡ given_pairs
unfolding computes limits areas pairs given_pairs
pairs-by-calls = refl

pub apart-by-calls : outcomes on_store (formatted_state limits areas) apart ≡ given_apart
unfolding computes limits areas apart given_apart
apart-by-calls = refl

-- ---- a lower walk that is lost

-- Two pages as version 1, and page 0 sent again as it is as versions 2 and 3. Version 1's root and leaves lie at node places 0 to 2, version 2's root and leaf at 3 and 4,
-- version 3's at 5 and 6; the page numbers are 0 and 1, then 2, then 3.
unfoldable pub resent : List Call
resent = sends 0 1 0 (page_of 10 ∷ page_of 11 ∷ []) 3 ++ sends 0 2 0 (page_of 10 ∷ []) 2 ++ sends 0 3 0 (page_of 10 ∷ []) 2

-- STAMP of page 0 in versions 1, 2 and 3, and of page 1 in version 3.
abbrev stamps : List Call
stamps = on 0 (STAMP 1 0) ∷ on 0 (STAMP 2 0) ∷ on 0 (STAMP 3 0) ∷ on 0 (STAMP 3 1) ∷ []

abbrev is : ℕ → Outcome
is w = says (stamp_is w)

pub resent-by-model : outcomes (on_model limits) (model_after limits resent) stamps ≡ (is 1 ∷ is 1 ∷ is 1 ∷ is 1 ∷ [])
unfolding computes limits resent
resent-by-model = refl

-- What STAMP answers in the state that these calls leave, with other areas.
abbrev stamps_in : (Areas → Areas) → List Outcome
stamps_in g = outcomes on_store (with_areas (store_after limits areas resent) g) stamps

pub resent-by-calls : stamps_in (λ a. a) ≡ (is 1 ∷ is 1 ∷ is 1 ∷ is 1 ∷ [])
unfolding computes limits areas resent
resent-by-calls = refl

-- A record is lost, of version 1 or of version 2: refused where the walk from v itself needs it, and else the way down ends above it.
pub records-lost :
    stamps_in (λ a. with_register a (with_record a.register 0 no_record)) ≡ (no 19 ∷ is 2 ∷ is 2 ∷ no 19 ∷ [])
    × stamps_in (λ a. with_register a (with_record a.register 1 no_record)) ≡ (is 1 ∷ no 19 ∷ is 3 ∷ is 1 ∷ [])
unfolding computes limits areas resent
records-lost = (refl, refl)

-- A node is lost: version 1's leaf of page 0, its root, version 2's leaf.
pub nodes-lost :
    stamps_in (nodes_by (λ x. with_node x 1 all_ones all_ones)) ≡ (no 19 ∷ is 2 ∷ is 2 ∷ is 1 ∷ [])
    × stamps_in (nodes_by (λ x. with_node x 0 all_ones all_ones)) ≡ (no 19 ∷ is 2 ∷ is 2 ∷ is 1 ∷ [])
    × stamps_in (nodes_by (λ x. with_node x 4 all_ones all_ones)) ≡ (is 1 ∷ no 19 ∷ is 3 ∷ is 1 ∷ [])
unfolding computes limits areas resent
nodes-lost = (refl, refl, refl)

-- A node of version 2 leads elsewhere: its root to version 3's leaf, which is no lower version, or to version 1's, which skips its own; its leaf to a page past the area, or to page 1.
pub nodes-astray :
    stamps_in (nodes_by (λ x. with_node x 3 3 1)) ≡ (is 1 ∷ is 3 ∷ is 3 ∷ is 1 ∷ [])
    × stamps_in (nodes_by (λ x. with_node x 3 1 1)) ≡ (is 1 ∷ is 1 ∷ is 1 ∷ is 1 ∷ [])
    × stamps_in (nodes_by (λ x. with_node x 4 8 0)) ≡ (is 1 ∷ no 19 ∷ is 3 ∷ is 1 ∷ [])
    × stamps_in (nodes_by (λ x. with_node x 4 1 0)) ≡ (is 1 ∷ is 2 ∷ is 3 ∷ is 1 ∷ [])
unfolding computes limits areas resent
nodes-astray = (refl, refl, refl, refl)

-- The last byte of page number 2, which is version 2's page 0, is another.
pub bytes-changed :
    stamps_in (λ a. with_pages a (set a.pages 47 0)) ≡ (is 1 ∷ is 2 ∷ is 3 ∷ is 1 ∷ [])
unfolding computes limits areas resent
bytes-changed = refl
