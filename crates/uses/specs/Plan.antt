-- A plan of updates for which a store is sized by the worst count, by computation: what Sized asks can be had, and its counts are reached.
use Rattle.std.specs.Prelude.{◌≡◌, refl, true, List, [], ◌∷◌, ◌++◌, ℕ, zero, suc, ◌*◌, replicate}
use Rattle.std.proofs.Common.{arith}
use Rattle.tree.specs.Worst.{asked, most_up_to, worst}
use Rattle.register.specs.Register.{no_record}
use Rattle.model.specs.Calls.{Call, BEGIN, PUT, on, WRITE, refused, version_is, Outcome, says}
use Rattle.model.specs.Model.{Limits}
use Rattle.model.specs.OnModel.{on_model}
use Rattle.model.specs.Run.{model_after}
use Rattle.model.specs.Example.{page_of}
use Rattle.model.specs.Stamps.{sends}
use Rattle.format.specs.Format.{format_number}
use Rattle.demands.specs.Run.{fresh_of}
use Rattle.demands.specs.Computes.{computes}
use Rattle.uses.specs.Sized.{AllWithin, Exactly}

-- Places for 8 updates of 5 nodes, which is the worst count of two pages in four. Pages 0 and 1 as version 1, pages 2 and 3 as version 2, and a ticket of two pages.
unfoldable pub places : Limits
places = record { size = 16; pages = 16; nodes = 40; updates = 8 }

unfoldable pub plan : List Call
plan = sends 0 1 0 (page_of 10 ∷ page_of 11 ∷ []) 3 ++ sends 0 2 2 (page_of 12 ∷ page_of 13 ∷ []) 4 ++ BEGIN 2 ∷ PUT 3 0 (page_of 21) ∷ PUT 3 1 (page_of 22) ∷ []

pub plan-places :
    (format_number (fresh_of places) (record { pages = replicate 256 7; nodes = replicate 80 7; register = replicate 8 no_record }) ≡ 0)
    × (asked 4 2 ≡ true)
    × (places.updates * worst 4 2 ≡ places.nodes)
unfolding computes places asked worst most_up_to
plan-places = (refl, refl, refl)

pub plan-within : AllWithin 4 2 (model_after places plan)
unfolding computes places plan
plan-within zero o h = absurd (omega arith)
plan-within (suc zero) o h = record { pages = omega arith; size = omega arith }
plan-within (suc (suc zero)) o h = record { pages = omega arith; size = omega arith }
plan-within (suc (suc (suc k))) o h = absurd (omega arith)

pub plan-exactly : Exactly places plan 0 4 2 3
unfolding computes places plan
plan-exactly = record { pages = refl; size = refl }

-- At page 0 the ticket has 4 nodes, and at page 1 the worst count; with fewer places than the three updates then have, it is refused there.
abbrev pub third : Limits → ℕ → Outcome
third L f = (on_model L (model_after L plan) (on 0 (WRITE 3 f))).1

unfoldable pub too_few : Limits
too_few = record { size = 16; pages = 16; nodes = 11; updates = 8 }

pub plan-counts : (third places 0 ≡ says (version_is 3 4)) × (third places 1 ≡ says (version_is 3 5)) × (third too_few 1 ≡ says (refused 15))
unfolding computes places too_few plan
plan-counts = (refl, refl, refl)
