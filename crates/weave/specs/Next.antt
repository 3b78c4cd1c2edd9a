-- The next node as the code has it: its name and its halves; and what WEAVE finds.
use Rattle.std.specs.Prelude.{ℕ, zero, suc, ◌+◌, ◌^◌, ◌<◌, List, Option, None, Some}
use Rattle.tree.specs.Tree.{Node, node, nth}
use Rattle.tree.specs.declared.Named.{Named}
use Rattle.register.specs.Register.{no_record}
use Rattle.register.specs.declared.Record.{Record}
use Rattle.versions.specs.declared.Store.{Store}
use Rattle.versions.specs.Store.{Areas}
use Rattle.weave.specs.Weave.{next_place, woven_update, woven_part, node_of, first_page, span_of}
use Rattle.weave.specs.declared.Halves.{Halves}
use Rattle.weave.specs.declared.NextFound.{NextFound}

abbrev pub name_of : Node → Named
name_of x = record { first = record { 0 = first_page x }; span = span_of x }

-- A leaf has no halves.
abbrev pub halves_of : Node → Option Halves
halves_of (node p zero) = None
halves_of (node p (suc h)) = Some (record { left = name_of (node p h); right = name_of (node (p + 2 ^ h) h) })

-- The update of ticket t, and its next node with its place.
abbrev pub next_found : Store → Areas → ℕ → NextFound
next_found s a t = record { update = woven_update a t; place = next_place (woven_part a t); node = node_of s a t }

-- The number is an update's, and its record can count one node more as woven.
abbrev pub Counted : List Record → ℕ → Type 0
Counted rs update = (0 < update) × (suc (nth no_record rs update).woven < 2 ^ 64)
