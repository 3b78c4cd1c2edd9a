-- The trailing ones are at least n where the low n bits are ones. No mask has more than 64.
use Rattle.std.proofs.Common.{ℕ, zero, suc, ◌+◌, ◌-◌, ◌*◌, ◌/◌, ◌%◌, ◌^◌, ◌<◌, ◌≤◌, ◌≡◌, leb, eqb, sym, ◌∙◌, add-one, rules, arith}
use lib.Count.{count_trailing_zeros, trailing_le, under}
use lib.Pow.{pow_pos}
use native.Mathlib.Decide.{ℕ_discrete}
use Rattle.std.proofs.lemmas.Nat.{mod-pow-add}
use Rattle.std.proofs.Math.Dec.{leb-suc-zero, leb-suc-suc}
use Rattle.versions.proofs.Bits.{never-all}
use borrow.Author.Tests.{le-leb, lt-leb, eq-eqb, ne_eqb}
use Rattle.assign.proofs.all_put.Goals as goal

same : (a b c d : ℕ) → (a ≡ b → c ≡ d) → (c ≡ d → a ≡ b) → eqb a b ≡ eqb c d
same a b c d f g = elim (ℕ_discrete a b) [
  | yes e ↦ rw (eq-eqb a b e, eq-eqb c d (f e))
  | no n ↦ rw (ne_eqb a b n, ne_eqb c d (λ q. n (g q)))
]

-- One bit more, the lowest.
step : (d t x i p : ℕ) → d < 2 → 0 < p → leb i t ≡ eqb x (p - 1) → leb (suc i) (under (1 - d) t) ≡ eqb (x * 2 + d) (2 * p - 1)
step zero t x i p h q e = leb-suc-zero i ∙ sym (ne_eqb (x * 2 + 0) (2 * p - 1) (λ z. omega arith))
step (suc zero) t x i p h q e = leb-suc-suc i t ∙ e ∙ same x (p - 1) (x * 2 + 1) (2 * p - 1) (λ z. omega arith) (λ z. omega arith)
step (suc (suc d)) t x i p h q e = absurd (omega arith)

ones : (k m i : ℕ) → i ≤ k → m < 2 ^ k → leb i (count_trailing_zeros k (2 ^ k - 1 - m)) ≡ eqb (m % 2 ^ i) (2 ^ i - 1)
unfolding count_trailing_zeros
ones k m zero h q = le-leb 0 (count_trailing_zeros k (2 ^ k - 1 - m)) (omega arith) ∙ sym (eq-eqb (m % 2 ^ 0) (2 ^ 0 - 1) (omega arith))
ones zero m (suc i) h q = absurd (omega arith)
ones (suc k) m (suc i) h q =
    let bit : (2 ^ suc k - 1 - m) % 2 ≡ 1 - m % 2 = omega arith in
    let rest : (2 ^ suc k - 1 - m) / 2 ≡ 2 ^ k - 1 - m / 2 = omega arith in
    let low : m / 2 < 2 ^ k = omega arith in
    let split : m % 2 ^ suc i ≡ m / 2 % 2 ^ i * 2 + m % 2 = rw add-one at (mod-pow-add m i 1) in
    let twice : 2 ^ suc i ≡ 2 * 2 ^ i = omega arith in
    rw (split, twice, bit, rest) (step (m % 2) _ (m / 2 % 2 ^ i) i (2 ^ i) (omega arith) (pow_pos i) (ones k (m / 2) i (omega arith) low))

low-ones : (n m x : ℕ) → m < 2 ^ 64 → x ≡ count_trailing_zeros 64 (2 ^ 64 - 1 - m) → leb n x ≡ eqb (m % 2 ^ n) (2 ^ n - 1)
low-ones n m x h e = elim (ℕ_discrete (n - 64) 0) [
  | yes z ↦ rw e (ones 64 m n (omega arith) h)
  | no z ↦ lt-leb n x (omega (arith, trailing_le 64 (2 ^ 64 - 1 - m), e)) ∙ never-all m n h (omega arith)
]

pub returns : goal.returns
returns c = low-ones c.args.r.n c.args.r.put c.from.result (search rules) (c.from.ensures ∙ c.trailing_ones.ensures)
