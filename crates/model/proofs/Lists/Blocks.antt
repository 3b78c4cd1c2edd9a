-- Blocks of one size, one after another: their length, a byte, and a block taken out.
-- Assumes nothing.
use mathlib.Core.Path.{◌≡◌, refl, sym, ap, ◌∙◌}
use mathlib.Core.List.{List, [], ◌∷◌, ◌++◌, append_assoc}
use Prim.Native.Nat.{ℕ, suc, ◌+◌, ◌*◌, ◌/◌, ◌%◌, ◌≤◌, ◌<◌}
use native.Mathlib.Nat.{mul-zero, mul-suc, mul_comm, mul-le-mul_left, div-add-mod, mod-lt, div-lt_iff_lt-mul}
use native.Mathlib.Omega.{arith}
use lib.ListN.{length, get_or, take, drop, length-append, get_or-append}
use lib.Seq.{split_at, take_at, drop_at, length-take-le, get_or-take, get_or-drop}
use Rattle.model.specs.History.{Page}
use Rattle.model.specs.InTurn.{joined}
use Rattle.model.proofs.Lists.Laid.{tab}
use Rattle.model.proofs.Lists.Tab.{length-tab, get_or-tab}

pub joined-append : (xs ys : List Page) → joined (xs ++ ys) ≡ joined xs ++ joined ys
unfolding joined
joined-append [] ys = refl
joined-append (x ∷ xs) ys = rw (joined-append xs ys, append_assoc)

-- Every block is S long.
abbrev pub Blocks : ℕ → List Page → Type 0
Blocks S xs = (i : ℕ) → i < length xs → length (get_or xs i []) ≡ S

pub length-joined : (S : ℕ) (xs : List Page) → Blocks S xs → length (joined xs) ≡ S * length xs
unfolding joined
length-joined S [] h = sym (mul-zero S)
length-joined S (x ∷ xs) h =
    let e = h 0 (omega arith) in
    rw (length-append, length-joined S xs (λ i l. h (suc i) (omega arith)), mul-suc) (omega arith)

pub joined-split : (xs : List Page) (q : ℕ) → q < length xs → joined xs ≡ joined (take q xs) ++ (get_or xs q [] ++ joined (drop (suc q) xs))
unfolding joined
joined-split xs q h = ap joined (split_at xs q [] h) ∙ joined-append (take q xs) (get_or xs q [] ∷ drop (suc q) xs)

module _ (S : ℕ) (xs : List Page) (sized : Blocks S xs) (q : ℕ) (there : q < length xs) where
  pub length_front : length (joined (take q xs)) ≡ S * q
  length_front =
      let e = length-take-le q xs (omega arith) in
      let front : Blocks S (take q xs) = λ i l. let l' : i < q = rw e at l in rw (get_or-take q xs i []) (sized i (omega arith)) in
      length-joined S (take q xs) front ∙ rw e

  pub block-drop : drop (S * q) (joined xs) ≡ get_or xs q [] ++ joined (drop (suc q) xs)
  block-drop = rw (joined-split xs q there) (drop_at (joined (take q xs)) (get_or xs q [] ++ joined (drop (suc q) xs)) (S * q) length_front)

  pub block_room : S * q + S ≤ length (joined xs)
  block_room = rw (length-joined S xs sized, ← mul-suc S q) (mul-le-mul_left S there)

  pub block-byte : (j : ℕ) → j < S → get_or (joined xs) (S * q + j) 0 ≡ get_or (get_or xs q []) j 0
  block-byte j h =
      rw (← get_or-drop (S * q) (joined xs) j 0, block-drop) (get_or-append (get_or xs q []) (joined (drop (suc q) xs)) 0 j (rw (sized q there) h))

  pub block-part : take S (drop (S * q) (joined xs)) ≡ get_or xs q []
  block-part = rw block-drop (take_at (get_or xs q []) (joined (drop (suc q) xs)) S (sized q there))

-- Byte j is byte j % S of block j / S.
abbrev pub page_byte : ℕ → List Page → ℕ → ℕ
page_byte S xs j = get_or (get_or xs (j / S) []) (j % S) 0

pub blocks-byte : (S : ℕ) (xs : List Page) → Blocks S xs → 0 < S → (j : ℕ) → j < S * length xs → get_or (joined xs) j 0 ≡ page_byte S xs j
blocks-byte S xs sized some j h =
    let l : j / S < length xs = (div-lt_iff_lt-mul some).1 (rw mul_comm h) in
    rw (div-add-mod j S) at (block-byte S xs sized (j / S) l (j % S) (mod-lt j some))

-- Blocks by a rule of their number.
module _ (S n : ℕ) (g : ℕ → Page) (sized : (i : ℕ) → i < n → length (g i) ≡ S) where
  pub blocks-tab : Blocks S (tab n g)
  blocks-tab i l = let l' : i < n = rw length-tab at l in rw (get_or-tab n g i [] l') (sized i l')
