-- A line reads as the line on which one of its versions got its number, up to that version.
-- Assumes nothing.
use mathlib.Core.Path.{refl, sym, subst}
use mathlib.Core.Logic.{inl, inr}
use Prim.Native.Nat.{ℕ, zero, suc, ◌≤◌, ◌<◌}
use native.Mathlib.Omega.{arith}
use lib.ListN.{length}
use Rattle.tree.proofs.Meets.{lt-or-le}
use Rattle.table.proofs.Table.{number-cases}
use Rattle.model.specs.Model.{Limits, Model, line_at, history}
use Rattle.model.proofs.Model.Sound.{Sound}
use Rattle.model.proofs.History.Stay.{SameUpTo, same-less, same_then}
use Rattle.model.proofs.Line.Shared.{same_versions, source-reads}
use Rattle.model.proofs.Line.Owner.{owner_of, source-there, source-has, owner-own, owner-shared}

module _ (L : Limits) (m : Model) (S : Sound L m) (v : ℕ) (o : 0 < v) where
  own-reads : (l : ℕ) → l < length m.lines → v ≤ length (line_at m l).shown → (line_at m l).start < v → SameUpTo (history m l) (history m (owner_of m l v)) v
  own-reads l there h s =
      subst (λ (k : ℕ). SameUpTo (history m l) (history m k) v) (sym (owner-own L m S l v there o h s))
      (same_versions (history m l) (history m l) v refl (λ w q. refl))

  reads_up : (n l : ℕ) → l ≤ n → l < length m.lines → v ≤ length (line_at m l).shown → SameUpTo (history m l) (history m (owner_of m l v)) v
  reads_up zero l q there h = own-reads l there h (omega (arith, (S.lines l there).first (omega arith)))
  reads_up (suc n) l q there h = elim (lt-or-le (line_at m l).start v) [
    | inl s ↦ own-reads l there h s
    | inr s ↦ elim (number-cases l) [
      | inl z ↦ absurd (omega (arith, (S.lines l there).first z))
      | inr p ↦
          let c = (line_at m l).source in
          let up = reads_up n c (omega (arith, (S.lines l there).source p)) (source-there L m S l p there) (source-has L m S l v p there s) in
          let one = same-less (history m l) (history m c) (line_at m l).start v s (source-reads L m S l p there) in
          subst (λ (k : ℕ). SameUpTo (history m l) (history m k) v) (sym (owner-shared L m S l v there o h p s))
          (same_then (history m l) (history m c) (history m (owner_of m c v)) v one up)
    ]
  ]

  pub owner-reads : (l : ℕ) → l < length m.lines → v ≤ length (line_at m l).shown → SameUpTo (history m l) (history m (owner_of m l v)) v
  owner-reads l = reads_up l l (omega arith)
