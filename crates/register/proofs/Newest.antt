-- One turn of the search for the newest of a line's own versions, by the version itself and not by the one before it. Assumes nothing.
use Rattle.std.proofs.Common.{◌≡◌, ℕ, zero, suc, ◌+◌, ◌-◌, ◌^◌, ◌<◌, min, max, leb, List, Bool, true, false, sym, ap, ◌∙◌, arith, sub-one}
use Rattle.tree.specs.Tree.{meets}
use Rattle.lines.specs.Lines.{number_of}
use Rattle.register.specs.Register.{update_of, version_part, newest_own, highest}
use Rattle.register.specs.declared.Record.{Record}
use Rattle.register.specs.declared.Part.{Part}
use Rattle.register.proofs.Records.{newest-own-none, newest-own-met, newest-own-unmet}
use Rattle.register.proofs.Within.{within-meets}

module _ (rs : List Record) (l start a s : ℕ) (some : 0 < s) (q : Part) (fits : q.f.0 < 2 ^ 64) (hi : ℕ) (is : hi ≡ highest a s) where
  -- The test of a part says whether its update meets the pages.
  tested : (c : ℕ) (b : Bool) → q ≡ version_part rs c → leb (max q.f.0 a) (min (max q.f.0 q.last.0) hi) ≡ b
      → let u = update_of (version_part rs c) in meets u.f u.last a s ≡ b
  tested c b e t = ap (λ (r : Part). meets (update_of r).f (update_of r).last a s) (sym e) ∙ sym (within-meets q a s fits some) ∙ (rw is at t)

  pub met : (v : ℕ) → start < v → q ≡ version_part rs (number_of l (v - 1 + 1)) → leb (max q.f.0 a) (min (max q.f.0 q.last.0) hi) ≡ true
      → newest_own rs l start v a s ≡ v - 1 + 1
  met zero own e t = absurd (omega arith)
  met (suc v) own e t =
      let same : suc v - 1 + 1 ≡ suc v = omega arith in
      newest-own-met rs l start a s v own (tested _ true (rw same at e) t) ∙ sym same

  pub unmet : (v : ℕ) → start < v → q ≡ version_part rs (number_of l (v - 1 + 1)) → leb (max q.f.0 a) (min (max q.f.0 q.last.0) hi) ≡ false
      → newest_own rs l start v a s ≡ newest_own rs l start (v - 1) a s
  unmet zero own e t = absurd (omega arith)
  unmet (suc v) own e t =
      let same : suc v - 1 + 1 ≡ suc v = omega arith in
      newest-own-unmet rs l start a s v own (tested _ false (rw same at e) t) ∙ simp sub-one

pub ruleset newest = (met, unmet, newest-own-none)
