-- 001's figure 1 by calls on line 0, woven newest version first: pages 0-3, then a write of pages 1-2 inside the blob, then an append of one. Its answers, on the model
-- and on the calls' definitions, and the whole tree of version 3, by the rule and as the node area holds it.
use Rattle.std.specs.Prelude.{◌≡◌, refl, List, [], ◌∷◌, ◌++◌, replicate}
use Rattle.register.specs.Register.{no_record}
use Rattle.model.specs.Calls.{Call, BEGIN, PUT, WEAVE, on, WRITE, APPEND, PUBLISH, READ, STAMP, ticket_is, put_done, version_is, node_is, published_is, waiting, filled, stamp_is, Outcome, says}
use Rattle.model.specs.Model.{Limits, no_model}
use Rattle.model.specs.OnModel.{on_model}
use Rattle.model.specs.Run.{outcomes, model_after}
use Rattle.model.specs.Example.{page_of}
use Rattle.model.specs.Snapshot.{Tree, no_page, leaf, inner, tree_of, tree_in, place_of_number, tree_at}
use Rattle.versions.specs.Store.{Areas}
use Rattle.demands.specs.Computes.{computes}
use Rattle.demands.specs.Run.{on_store, formatted_state, store_after}

unfoldable pub limits : Limits
limits = record { size = 16; pages = 7; nodes = 16; updates = 3 }

unfoldable pub areas : Areas
areas = record { pages = replicate 112 9; nodes = replicate 32 9; register = replicate 3 no_record }

unfoldable pub calls : List Call
calls =
    BEGIN 4
    ∷ BEGIN 2
    ∷ BEGIN 1
    ∷ PUT 1 0 (page_of 1)
    ∷ PUT 1 1 (page_of 2)
    ∷ PUT 1 2 (page_of 3)
    ∷ PUT 1 3 (page_of 4)
    ∷ PUT 2 0 (page_of 5)
    ∷ PUT 2 1 (page_of 6)
    ∷ PUT 3 0 (page_of 7)
    ∷ on 0 (WRITE 1 0)
    ∷ on 0 (WRITE 2 1)
    ∷ on 0 (APPEND 3)
    ∷ WEAVE 3
    ∷ WEAVE 3
    ∷ WEAVE 3
    ∷ WEAVE 3
    ∷ WEAVE 2
    ∷ WEAVE 2
    ∷ WEAVE 2
    ∷ WEAVE 2
    ∷ WEAVE 2
    ∷ on 0 (PUBLISH 0)
    ∷ WEAVE 1
    ∷ WEAVE 1
    ∷ WEAVE 1
    ∷ WEAVE 1
    ∷ WEAVE 1
    ∷ WEAVE 1
    ∷ WEAVE 1
    ∷ on 0 (PUBLISH 0)
    ∷ on 0 (PUBLISH 0)
    ∷ on 0 (PUBLISH 0)
    ∷ on 0 (PUBLISH 0)
    ∷ []

unfoldable pub given : List Outcome
given =
    says (ticket_is 1)
    ∷ says (ticket_is 2)
    ∷ says (ticket_is 3)
    ∷ says put_done
    ∷ says put_done
    ∷ says put_done
    ∷ says put_done
    ∷ says put_done
    ∷ says put_done
    ∷ says put_done
    ∷ says (version_is 1 7)
    ∷ says (version_is 2 5)
    ∷ says (version_is 3 4)
    ∷ says (node_is 3 0 8 2 3 3)
    ∷ says (node_is 3 4 4 3 0 2)
    ∷ says (node_is 3 4 2 3 0 1)
    ∷ says (node_is 3 4 1 6 0 0)
    ∷ says (node_is 2 0 4 2 2 4)
    ∷ says (node_is 2 0 2 1 2 3)
    ∷ says (node_is 2 1 1 4 0 2)
    ∷ says (node_is 2 2 2 2 1 1)
    ∷ says (node_is 2 2 1 5 0 0)
    ∷ says waiting
    ∷ says (node_is 1 0 4 1 1 6)
    ∷ says (node_is 1 0 2 1 1 5)
    ∷ says (node_is 1 0 1 0 0 4)
    ∷ says (node_is 1 1 1 1 0 3)
    ∷ says (node_is 1 2 2 1 1 2)
    ∷ says (node_is 1 2 1 2 0 1)
    ∷ says (node_is 1 3 1 3 0 0)
    ∷ says (published_is 1)
    ∷ says (published_is 2)
    ∷ says (published_is 3)
    ∷ says waiting
    ∷ []

pub figure-by-model : outcomes (on_model limits) no_model calls ≡ given
unfolding computes limits calls given
figure-by-model = refl

pub figure-by-calls : outcomes on_store (formatted_state limits areas) calls ≡ given
unfolding computes limits areas calls given
figure-by-calls = refl

-- Version 3 whole, version 2 over two edges of pages, and the versions since which pages 0, 1 and 4 have had their bytes.
abbrev looks : List Call
looks = on 0 (READ 3 0 80 (replicate 80 0)) ∷ on 0 (READ 2 15 18 (replicate 18 0)) ∷ on 0 (STAMP 3 0) ∷ on 0 (STAMP 3 1) ∷ on 0 (STAMP 3 4) ∷ []

abbrev seen : List Outcome
seen =
    record { answer = filled; buffer = page_of 1 ++ (page_of 5 ++ (page_of 6 ++ (page_of 4 ++ page_of 7))) }
    ∷ record { answer = filled; buffer = 1 ∷ (page_of 5 ++ (6 ∷ [])) }
    ∷ says (stamp_is 1)
    ∷ says (stamp_is 2)
    ∷ says (stamp_is 3)
    ∷ []

pub seen-by-model : outcomes (on_model limits) (model_after limits calls) looks ≡ seen
unfolding computes limits calls
seen-by-model = refl

pub seen-by-calls : outcomes on_store (store_after limits areas calls) looks ≡ seen
unfolding computes limits areas calls
seen-by-calls = refl

-- The figure's tree of version 3; a leaf's page number is by its ticket: 0 to 3 are ticket 1's, 4 and 5 ticket 2's, 6 ticket 3's.
abbrev figure : Tree
figure =
    inner 3 0 3 2 3
    (inner 2 0 2 2 2 (inner 2 0 1 1 2 (leaf 1 0 0 0) (leaf 2 1 4 0)) (inner 2 2 1 2 1 (leaf 2 2 5 0) (leaf 1 3 3 0)))
    (inner 3 4 2 3 0 (inner 3 4 1 3 0 (leaf 3 4 6 0) no_page) no_page)

pub tree-by-rule : tree_at (model_after limits calls) 0 3 ≡ figure
unfolding computes limits calls tree_of
tree-by-rule = refl

pub tree-by-area : tree_in (place_of_number (model_after limits calls)) (store_after limits areas calls).areas.nodes 3 3 0 ≡ figure
unfolding computes limits areas calls tree_in place_of_number
tree-by-area = refl
