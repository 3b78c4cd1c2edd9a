-- The write from page r / 2 - 1 on makes the most nodes: at each span it crosses as many borders as any write can.
-- Assumes nothing.
use Rattle.std.proofs.Common.{◌≡◌, ℕ, zero, suc, ◌+◌, ◌-◌, ◌*◌, ◌/◌, ◌^◌, ◌<◌, ◌≤◌, min, Bool, true, false, ◌&&◌, eqb, ltb, leb, sym, refl, ap, ◌∙◌, inl, inr, suc-mul, div-lt_iff_lt-mul, add-mul, arith, pow_pos, pow_mono, ltb-true, lt-ltb, eq-eqb, eqb-true, le-leb, leb-true}
use mathlib.Core.Bool.{and-eq-true_iff}
use native.Mathlib.Nat.{lt-div-mul-add, mul-add-div_right, div-eq_of_lt}
use lib.Pow.{ones_split, shr_mono}
use Rattle.tree.specs.Tree.{count, root_height, node_count}
use Rattle.tree.specs.Contract.{zero_unless}
use Rattle.tree.specs.Worst.{asked, most_up_to, worst, worst_for, Worst, WorstCases}
use Rattle.tree.proofs.Meets.{lt-or-le}
use Rattle.tree.proofs.Root.{root-of-power, root-least, root-low}

-- ---- one span

-- So many borders of span q lie inside m + 1 pages from f on, at most.
span-most : (f m q : ℕ) → 0 < q → (f + m) / q ≤ f / q + (m + q - 1) / q
span-most f m q o =
    let a = f / q in
    let b = (m + q - 1) / q in
    let x = lt-div-mul-add {a = f} {b = q} o in
    let y = lt-div-mul-add {a = m + q - 1} {b = q} o in
    let z : suc (a + b) * q ≡ a * q + b * q + q = suc-mul (a + b) q ∙ ap (λ (t : ℕ). t + q) (add-mul a b q) in
    let w : f + m < suc (a + b) * q = omega (arith, x, y, z, o) in
    let r = (div-lt_iff_lt-mul {k = q} {x = f + m} {y = suc (a + b)} o).1 w in
    omega (arith, r)

-- From the last page of a span on they do.
span-reached : (c m q : ℕ) → 0 < q → (c * q + (q - 1) + m) / q ≡ (c * q + (q - 1)) / q + (m + q - 1) / q
span-reached c m q o =
    let e : c * q + (q - 1) + m ≡ c * q + (m + q - 1) = omega (arith, o) in
    let n : (q - 1) / q ≡ 0 = div-eq_of_lt (omega (arith, o)) in
    let x = mul-add-div_right {m = q} o c (m + q - 1) in
    let y = mul-add-div_right {m = q} o c (q - 1) in
    ap (λ (t : ℕ). t / q) e ∙ x ∙ sym (ap (λ (t : ℕ). t + (m + q - 1) / q) (y ∙ ap (λ (t : ℕ). c + t) n) ∙ omega arith)

-- Page 2 ^ k - 1 is the last page of a span of every height up to k.
span-reached-at : (k m h : ℕ) → h ≤ k → (2 ^ k - 1 + m) / 2 ^ h - (2 ^ k - 1) / 2 ^ h ≡ (suc m + 2 ^ h - 2) / 2 ^ h
span-reached-at k m h p =
    let s : suc m + 2 ^ h - 2 ≡ m + 2 ^ h - 1 = omega (arith, pow_pos h) in
    let k' : k - h + h ≡ k = omega (arith, p) in
    rw (s, sym (ap (λ (j : ℕ). 2 ^ j - 1) k') ∙ ones_split (k - h) h) (omega (arith, span-reached (2 ^ (k - h) - 1) m (2 ^ h) (pow_pos h)))

-- ---- all spans up to a height

count_most : (f m h : ℕ) → count f (f + m) h ≤ most_up_to (suc m) h
unfolding count most_up_to
count_most f m zero =
    let l = span-most f m (2 ^ 0) (pow_pos 0) in
    let e : suc m + 2 ^ 0 - 2 ≡ m + 2 ^ 0 - 1 = omega arith in
    rw e (omega (arith, l))
count_most f m (suc h) =
    let l = span-most f m (2 ^ suc h) (pow_pos (suc h)) in
    let e : suc m + 2 ^ suc h - 2 ≡ m + 2 ^ suc h - 1 = omega (arith, pow_pos (suc h)) in
    rw e (omega (arith, l, count_most f m h))

count-reached : (k m h : ℕ) → h ≤ k → count (2 ^ k - 1) (2 ^ k - 1 + m) h ≡ most_up_to (suc m) h
unfolding count most_up_to
count-reached k m zero p = omega (arith, span-reached-at k m 0 p)
count-reached k m (suc h) p = omega (arith, span-reached-at k m (suc h) p, count-reached k m h (omega (arith, p)))

-- At the root there is one node.
root-one : (f l h : ℕ) → f ≤ l → l < 2 ^ h → l / 2 ^ h - f / 2 ^ h + 1 ≡ 1
root-one f l h p q = rw (div-eq_of_lt {n = l} {m = 2 ^ h} q, div-eq_of_lt {n = f} {m = 2 ^ h} (omega (arith, p, q))) (omega arith)

-- More pages meet no fewer nodes, and a higher root has no fewer below it.
more-pages : (m n h : ℕ) → m ≤ n → most_up_to m h ≤ most_up_to n h
unfolding most_up_to
more-pages m n zero p = omega (arith, shr_mono {a = m + 2 ^ 0 - 2} {b = n + 2 ^ 0 - 2} 0 (omega arith))
more-pages m n (suc h) p = omega (arith, more-pages m n h p, shr_mono {a = m + 2 ^ suc h - 2} {b = n + 2 ^ suc h - 2} (suc h) (omega arith))

count-higher : (f l h k : ℕ) → count f l h ≤ count f l (k + h)
unfolding count
count-higher f l h zero = let e : 0 + h ≡ h = omega arith in rw e (omega arith)
count-higher f l h (suc k) = let e : suc k + h ≡ suc (k + h) = omega arith in rw e (omega (arith, count-higher f l h k))

-- ---- a blob of 2 ^ (h + 1) pages

-- The update of m + 1 pages from f on, where they lie within so many.
count-root : (f m h : ℕ) → f + m < 2 ^ suc h → count f (f + m) (suc h) ≡ suc (count f (f + m) h)
unfolding count
count-root f m h p = omega (arith, root-one f (f + m) (suc h) (omega arith) p)

-- A blob within that has a root no higher.
root-within-power : (s h : ℕ) → s ≤ 2 ^ h → root_height s ≤ h
root-within-power s h p = elim (lt-or-le h (root_height s)) [ inl q ↦ absurd (omega (arith, root-least s h q)) | inr q ↦ q ]

grows-within : (h n f m s : ℕ) → 0 < m → m ≤ n → f + m ≤ s → s ≤ 2 ^ suc h → node_count f m s ≤ 1 + most_up_to n h
unfolding node_count
grows-within h n f zero s o p q r = absurd (omega arith)
grows-within h n f (suc m) s o p q r =
    let last : f + suc m - 1 ≡ f + m = omega arith in
    let low = root-within-power s (suc h) r in
    let up : suc h - root_height s + root_height s ≡ suc h = omega (arith, low) in
    rw last (omega (arith, rw up at (count-higher f (f + m) (root_height s) (suc h - root_height s)), count-root f m h (omega arith), count_most f m h, more-pages (suc m) n h p))

count-is : (f n s : ℕ) → node_count f n s ≡ count f (f + n - 1) (root_height s)
unfolding node_count
count-is f n s = refl

worst-reached : (h n : ℕ) → 0 < n → n ≤ 2 ^ h → node_count (2 ^ h - 1) n (2 ^ suc h) ≡ 1 + most_up_to n h
worst-reached h zero o p = absurd (omega arith)
worst-reached h (suc m) o p =
    let last : 2 ^ h - 1 + suc m - 1 ≡ 2 ^ h - 1 + m = omega arith in
    let root : root_height (2 ^ suc h) ≡ suc h = root-of-power (suc h) in
    let whole : count (2 ^ h - 1) (2 ^ h - 1 + suc m - 1) (root_height (2 ^ suc h)) ≡ count (2 ^ h - 1) (2 ^ h - 1 + m) (suc h) =
    ap (λ (l : ℕ). count (2 ^ h - 1) l (root_height (2 ^ suc h))) last ∙ ap (count (2 ^ h - 1) (2 ^ h - 1 + m)) root in
    count-is (2 ^ h - 1) (suc m) (2 ^ suc h)
    ∙ whole
    ∙ omega (arith, count-root (2 ^ h - 1) m h (omega (arith, pow_pos h)), count-reached h m h (omega arith))

half : (h : ℕ) → 2 ^ suc h / 2 ≡ 2 ^ h
half h = omega arith

worst-is : (h n : ℕ) → worst (2 ^ suc h) n ≡ 1 + most_up_to n h
unfolding worst
worst-is h n = rw (half h, root-of-power h)

worst-of-power : (h n : ℕ) → 0 < n → n ≤ 2 ^ h → Worst (2 ^ suc h) n
worst-of-power h n o p = record {
  inside = omega (arith, pow_pos h);
  reached = rw (half h, worst-is h n) (worst-reached h n o p);
  most = λ f q. rw (worst-is h n) (grows-within h n f n (2 ^ suc h) o (omega arith) q (omega arith));
  growing = λ f m s m-some fewer q r. rw (worst-is h n) (grows-within h n f m s m-some fewer q r);
}

-- ---- every r and n that is asked for

-- These, with r as a power.
pub record Asked (r n : ℕ) : Type 0 where
  pub height : ℕ
  pub power : r ≡ 2 ^ suc height
  pub low : height ≤ 11
  pub some : 0 < n
  pub few : n ≤ 64
  pub half : n ≤ 2 ^ height

pub asked_by : (r n k : ℕ) → r ≡ 2 ^ k → k ≤ 12 → 0 < n → n ≤ min 64 (r / 2) → Asked r n
asked_by r n zero e l o p = absurd (omega arith)
asked_by r n (suc h) e l o p = record { height = h; power = e; low = omega arith; some = o; few = omega arith; half = omega arith }

asked-true : (r n : ℕ) → asked r n ≡ true → Asked r n
unfolding asked
asked-true r n e =
    let a = (and-eq-true_iff (leb 2 r && leb r 4096 && eqb (2 ^ root_height r) r && ltb 0 n) (leb n (min 64 (r / 2)))).0 e in
    let b = (and-eq-true_iff (leb 2 r && leb r 4096 && eqb (2 ^ root_height r) r) (ltb 0 n)).0 a.0 in
    let c = (and-eq-true_iff (leb 2 r && leb r 4096) (eqb (2 ^ root_height r) r)).0 b.0 in
    let d = (and-eq-true_iff (leb 2 r) (leb r 4096)).0 c.0 in
    asked_by r n (root_height r) (sym (eqb-true (2 ^ root_height r) r c.1)) (root-low r (leb-true r 4096 d.1)) (ltb-true 0 n b.1) (leb-true n (min 64 (r / 2)) a.1)

true-asked : (h n : ℕ) → h ≤ 11 → 0 < n → n ≤ 64 → n ≤ 2 ^ h → asked (2 ^ suc h) n ≡ true
unfolding asked
true-asked h n l o p q =
    let e = ap (λ (k : ℕ). 2 ^ k) (root-of-power (suc h)) in
    simp (le-leb 2 (2 ^ suc h) (omega (arith, pow_pos h)), le-leb (2 ^ suc h) 4096 (omega (arith, pow_mono {i = suc h} {j = 12} (omega arith))), eq-eqb (2 ^ root_height (2 ^ suc h)) (2 ^ suc h) e, lt-ltb 0 n o, le-leb n (min 64 (2 ^ suc h / 2)) (omega arith))

pub worst-cases : WorstCases
worst-cases r n e = let t = asked-true r n e in rw t.power (worst-of-power t.height n t.some t.half)

-- Of no other r and n is there a count, and of these it is that of the write from page r / 2 - 1 on.
pub worst-none : (r n : ℕ) → (Asked r n → ⊥) → 0 ≡ worst_for r n
unfolding worst_for
worst-none r n none = go (asked r n) refl
  where
    go : (b : Bool) → asked r n ≡ b → 0 ≡ zero_unless b (worst r n)
    go true e = absurd (none (asked-true r n e))
    go false e = refl

worst-for-is : (r n : ℕ) → asked r n ≡ true → worst r n ≡ worst_for r n
unfolding worst_for
worst-for-is r n e = sym (ap (λ (b : Bool). zero_unless b (worst r n)) e)

pub worst-counted : (r n k : ℕ) (a : Asked r n) → k ≡ suc a.height → count (r / 2 - 1) (r / 2 - 1 + n - 1) k ≡ worst_for r n
worst-counted r n k a e =
    let h = a.height in
    let asked-so : asked r n ≡ true = ap (λ (x : ℕ). asked x n) a.power ∙ true-asked h n a.low a.some a.few a.half in
    let at : r / 2 ≡ 2 ^ h = ap (λ (x : ℕ). x / 2) a.power ∙ half h in
    let same-height : k ≡ root_height (2 ^ suc h) = e ∙ sym (root-of-power (suc h)) in
    ap (λ (q : ℕ). count (q - 1) (q - 1 + n - 1) k) at
    ∙ ap (count (2 ^ h - 1) (2 ^ h - 1 + n - 1)) same-height
    ∙ sym (count-is (2 ^ h - 1) n (2 ^ suc h))
    ∙ worst-reached h n a.some a.half
    ∙ sym (worst-is h n)
    ∙ ap (λ (x : ℕ). worst x n) (sym a.power)
    ∙ worst-for-is r n asked-so
