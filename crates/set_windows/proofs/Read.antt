-- SETWINDOWS by a text that is read already: the text's number follows row 3's, and its windows count only where it is 0.
-- Assumes nothing.
use Rattle.std.proofs.Common.{Result, Ok, Err}
use mathlib.Core.Path.{◌≡◌, refl, sym, ap}
use mathlib.Core.Bool.{true, false, cond}
use mathlib.Core.List.{List}
use Prim.Native.Nat.{ℕ, zero, suc}
use Rattle.table.specs.Refused.{answered}
use Rattle.table.specs.Table.{holds, first_refusal, unless, window_rows}
use Rattle.windows.specs.declared.Windows.{Windows}
use Rattle.windows.specs.Windows.{placed}
use Rattle.windows.specs.Listed.{windows_of, text_number, listed_of}
use Rattle.versions.specs.declared.Store.{Store}
use Rattle.versions.specs.Store.{Areas, areas_differ}
use Rattle.set_windows.specs.SetWindows.{WindowsOut, set_number, set_by, set_out}

-- what is left, by the number: the old windows, or the new ones
refused-by : (n k : ℕ) (w new : Windows) → answered n new ≡ Err k → set_by n w new ≡ record { windows = w; answer = Err k }
unfolding unless
refused-by zero k w new e = cc
refused-by (suc n) k w new e = let m : suc n ≡ k = cc in rw (← m)

read-by : (n : ℕ) (w new x : Windows) → answered n new ≡ Ok x → set_by n w new ≡ record { windows = x; answer = Ok tt }
unfolding unless
read-by zero w new x e = let m : new ≡ x = cc in rw m
read-by (suc n) w new x e = cc

-- a call that leaves these windows and answers so
abbrev Leaves : WindowsOut → Windows → Result Unit ℕ → Type 0
Leaves o w r = (r ≡ o.answer) × (w ≡ o.windows)

leaves : {o : WindowsOut} {w : Windows} {r : Result Unit ℕ} → o ≡ record { windows = w; answer = r } → Leaves o w r
leaves e = (sym (ap (λ (x : WindowsOut). x.answer) e), sym (ap (λ (x : WindowsOut). x.windows) e))

module _ (s : Store) (w : Windows) (a : Areas) (t : List ℕ) where
  set-number : set_number s a t ≡ cond (holds (areas_differ s a)) 3 (text_number t)
  unfolding set_number text_number first_refusal window_rows holds
  set-number = refl

  -- the areas' lengths are not the store's
  pub areas_refuse : holds (areas_differ s a) ≡ true → Leaves (set_out s w a t) w (Err 3)
  unfolding unless
  areas_refuse d = rw (set-number, d) (refl, refl)

  -- they are, and the text is refused, or read
  pub text_refuses : (k : ℕ) → holds (areas_differ s a) ≡ false → listed_of t ≡ Err k → Leaves (set_out s w a t) w (Err k)
  text_refuses k d e = rw (set-number, d) (leaves (refused-by (text_number t) k w (placed (windows_of t)) e))

  pub text_read : (new : Windows) → holds (areas_differ s a) ≡ false → listed_of t ≡ Ok new → Leaves (set_out s w a t) new (Ok tt)
  text_read new d e = rw (set-number, d) (leaves (read-by (text_number t) w (placed (windows_of t)) new e))
