-- The leaf that STAMP and VIEW begin with: what the code answers at each return of `page_found`, and STAMP's number, which is VIEW's, by the rows up to 16 and those
-- after them. Assumes nothing.
use mathlib.Core.Path.{◌≡◌, refl, sym, ◌∙◌, ap}
use mathlib.Core.List.{[], ◌∷◌}
use mathlib.Core.Logic.{inl, inr}
use mathlib.Core.Bool.{Bool, true, false}
use Prim.Native.Nat.{ℕ, zero, suc, ◌≤◌, ◌<◌}
use borrow.Author.Tests.{lt-ltb, le-ltb}
use Rattle.std.proofs.Common.{Option, Some, None, Result, Ok, Err}
use Rattle.std.specs.Result.{result_ok}
use Rattle.register.specs.Register.{version_part}
use Rattle.register.specs.declared.Part.{Part}
use Rattle.table.specs.declared.Refusal.{Refusal}
use Rattle.table.specs.Refused.{answered, numbered}
use Rattle.table.specs.Table.{◌≤?◌, ◌and◌, ◌or◌, test, ◌gives◌, or_else, page_rows, size_rows}
use Rattle.table.proofs.Table.{none, hit, skip, first, passed, call-parts}
use Rattle.lines.specs.Lines.{version_of}
use Rattle.tree.specs.declared.Leaf.{Leaf}
use Rattle.tree.proofs.Meets.{lt-or-le}
use Rattle.versions.specs.declared.Store.{Store}
use Rattle.versions.specs.Store.{Areas, areas_differ, lengths_of, lines_in, line_in, number_on, part_on}
use Rattle.versions.specs.Size.{is_there, not_there, pages_by, pages_in, refusal_by, snapshot_refusal, opened_by}
use Rattle.walk.specs.FindPage.{find_page, number_within, page_number_of, is_lost, or_zero}
use Rattle.stamp.specs.Stamp.{stamp_number, page_refusal, leaf_found, page_found, leaf_out, version_found, found_by, leaf_as_of, since, stamp_out}

within-lost : (pages : ℕ) (y : Leaf) → pages ≤ y.page → is_lost (number_within pages (Some y)) ≡ true
within-lost pages y h = rw (le-ltb y.page pages h, is_lost, number_within) refl

within-found : (pages : ℕ) (y : Leaf) → y.page < pages → is_lost (number_within pages (Some y)) ≡ false
within-found pages y h = rw (lt-ltb y.page pages h, is_lost, number_within) refl

-- By the rows passed and the row stopped at. Where the version's record is not there 17 fails on its left, and 19 holds.
module _ (s : Store) (a : Areas) (c v p : ℕ) where
  abbrev q : Part
  q = version_part a.register c

  by : (k : ℕ) → k ≡ page_refusal s.pages q c v p (find_page a c p) → page_found s a c v p ≡ answered k (leaf_found (find_page a c p))
  unfolding page_found
  by k e = ap (λ (i : ℕ). answered i (leaf_found (find_page a c p))) (sym e)

  pub page_not_there : (q.name ≡ c → ⊥) → page_found s a c v p ≡ Err 19
  page_not_there n = by 19 (first (skip (inl n) (hit (inl n))))

  pub page_outside : q.name ≡ c → pages_by v q ≤ p → page_found s a c v p ≡ Err 17
  page_outside e h = by 17 (first (hit (e, h)))

  pub page_lost : q.name ≡ c → p < pages_by v q → find_page a c p ≡ None → page_found s a c v p ≡ Err 19
  page_lost e h x = by 19 (first (skip (inr h) (hit (inr (rw x refl)))))

  pub page_past : (y : Leaf) → q.name ≡ c → p < pages_by v q → find_page a c p ≡ Some y → s.pages ≤ y.page → page_found s a c v p ≡ Err 19
  page_past y e h x l = by 19 (first (skip (inr h) (hit (inr (rw x (within-lost s.pages y l))))))

  pub page_passed : (y : Leaf) → q.name ≡ c → p < pages_by v q → find_page a c p ≡ Some y → y.page < s.pages → page_found s a c v p ≡ Ok y
  page_passed y e h x l = rw x at (by 0 (first (skip (inr h) (skip (e, rw x (within-found s.pages y l)) none))))

pub ruleset pages = (page_not_there, page_outside, page_lost, page_past, page_passed)

-- STAMP's number, which is VIEW's, by the rows up to 16 and those after them.
pub page-number : (s : Store) (a : Areas) (l v p : ℕ)
    → stamp_number s a l v p
    ≡ or_else (snapshot_refusal s (lengths_of a) l v) (page_refusal s.pages (part_on s a l v) (number_on s l v) v p (find_page a (number_on s l v) p))
unfolding stamp_number refusal_by page_rows size_rows page_number_of
page-number s a l v p =
    let c = number_on s l v in
    let q = part_on s a l v in
    call-parts
    (areas_differ s a)
    (size_rows l (lines_in s) v (line_in s l).published.0)
    ((is_there q c and pages_in s a l v ≤? p gives 17) ∷ [])
    (not_there q c or test (is_lost (page_number_of s.pages a c p)))
    tt

-- An answer in two parts, by what the first part says.
answered-refused : {A B : Type 0} (k n i : ℕ) (x : A) (y : B) → answered k x ≡ Err i → answered (or_else k n) y ≡ Err i
unfolding or_else
answered-refused zero n i x y e = cc
answered-refused (suc k) n i x y e = cc

answered-passed : {A B : Type 0} (k n : ℕ) (x z : A) (y : B) → answered k x ≡ Ok z → (answered (or_else k n) y ≡ answered n y) × (x ≡ z)
unfolding or_else
answered-passed zero n x z y e = (refl, cc)
answered-passed (suc k) n x z y e = (cc, cc)

module _ (s : Store) (a : Areas) (l v p : ℕ) where
  pub leaf_refused : (k : ℕ) → opened_by s (lengths_of a) l v ≡ Err k → leaf_out s a l v p ≡ Err k
  unfolding leaf_out
  leaf_refused k e =
      rw (page-number s a l v p)
      (answered-refused (snapshot_refusal s (lengths_of a) l v) _ k (number_on s l v) (leaf_found (find_page a (number_on s l v) p)) e)

  pub leaf_opened : (c : ℕ) → opened_by s (lengths_of a) l v ≡ Ok c → leaf_out s a l v p ≡ page_found s a c v p
  unfolding leaf_out page_found
  leaf_opened c e =
      let r = answered-passed (snapshot_refusal s (lengths_of a) l v) (page_refusal s.pages (part_on s a l v) (number_on s l v) v p (find_page a (number_on s l v) p)) (number_on s l v) c (leaf_found (find_page a (number_on s l v) p)) e in
      rw (page-number s a l v p, ← r.1) r.0

pub ruleset leaves = (leaf_refused, leaf_opened)

-- ---- the leaf as of a version, as the answer's Ok

pub ok_numbered : {A : Type 0} (r : Result A Refusal) → result_ok r ≡ result_ok (numbered r)
ok_numbered (Ok x) = refl
ok_numbered (Err e) = refl

-- A walk whose page is found has a leaf.
pub walked : (pages : ℕ) (q : Part) (c v p : ℕ) (x : Option Leaf) → page_refusal pages q c v p x ≡ 0 → is_lost (number_within pages x) ≡ false
walked pages q c v p x e = (passed _ tt e).1.0.1

as_found : (pages k : ℕ) (x : Option Leaf) → (k ≡ 0 → is_lost (number_within pages x) ≡ false) → found_by k x ≡ result_ok (answered k (leaf_found x))
as_found pages zero None h = let z : ◌≡◌ {A = Bool} true false = h refl in cc
as_found pages zero (Some y) h = refl
as_found pages (suc k) x h = refl

pub leaf_as_found : (s : Store) (a : Areas) (l v p : ℕ) → leaf_as_of s a l v p ≡ result_ok (page_found s a (number_on s l v) v p)
unfolding leaf_as_of page_found
leaf_as_found s a l v p =
    let c = number_on s l v in
    let x = find_page a c p in
    as_found s.pages (page_refusal s.pages (part_on s a l v) c v p x) x (walked s.pages (part_on s a l v) c v p x)

pub ruleset as_of = (ok_numbered, leaf_as_found)

-- ---- the page and the version of the leaf that is found

pub found-page : (pages : ℕ) (x : Option Leaf) → is_lost (number_within pages x) ≡ false → or_zero (number_within pages x) ≡ (leaf_found x).page
found-page pages None e = cc
found-page pages (Some y) e = elim (lt-or-le y.page pages) [
  | inl h ↦ rw (lt-ltb y.page pages h, or_zero) refl
  | inr h ↦ let z = sym (within-lost pages y h) ∙ e in cc
]

found-version : (pages : ℕ) (x : Option Leaf) → is_lost (number_within pages x) ≡ false → version_found x ≡ version_of (leaf_found x).version
found-version pages None e = cc
found-version pages (Some y) e = refl

-- An answer that is a value, or a refusal.
pub answered_ok : {A : Type 0} (k : ℕ) (x y : A) → answered k x ≡ Ok y → (k ≡ 0) × (x ≡ y)
answered_ok zero x y e = (refl, cc)
answered_ok (suc k) x y e = (cc, cc)

pub answered_err : {A B : Type 0} (k i : ℕ) (x : A) (y : B) → answered k x ≡ Err i → answered k y ≡ Err i
answered_err zero i x y e = cc
answered_err (suc k) i x y e = cc

or_else-last : (k n : ℕ) → or_else k n ≡ 0 → n ≡ 0
unfolding or_else
or_else-last zero n e = e
or_else-last (suc k) n e = cc

module _ (s : Store) (a : Areas) (l v p : ℕ) where
  abbrev walk : Option Leaf
  walk = find_page a (number_on s l v) p

  pub number-refused : {A : Type 0} (x : A) (k : ℕ) → leaf_out s a l v p ≡ Err k → answered (stamp_number s a l v p) x ≡ Err k
  unfolding leaf_out
  number-refused x k e = answered_err (stamp_number s a l v p) k (leaf_found walk) x e

  module _ (y : Leaf) (e : leaf_out s a l v p ≡ Ok y) where
    pub number-passed : (stamp_number s a l v p ≡ 0) × (leaf_found walk ≡ y)
    unfolding leaf_out
    number-passed = answered_ok (stamp_number s a l v p) (leaf_found walk) y e

    pub number-found : is_lost (number_within s.pages walk) ≡ false
    number-found =
        let z = sym (page-number s a l v p) ∙ number-passed.0 in
        walked s.pages (part_on s a l v) (number_on s l v) v p walk (or_else-last (snapshot_refusal s (lengths_of a) l v) _ z)

    pub number-page : or_zero (number_within s.pages walk) ≡ y.page
    number-page = found-page s.pages walk number-found ∙ ap (λ (x : Leaf). x.page) number-passed.1

    number-version : version_found walk ≡ version_of y.version
    number-version = found-version s.pages walk number-found ∙ ap (λ (x : Leaf). version_of x.version) number-passed.1

-- What follows the leaf that is found, or its refusal.
abbrev pub on_leaf : {A : Type 0} → (Leaf → A) → Result Leaf ℕ → Result A ℕ
on_leaf f (Ok y) = Ok (f y)
on_leaf f (Err k) = Err k

-- An answer by STAMP's number is that of the leaf, where what it says is the same of the leaf that is found.
pub by-leaf : {A : Type 0} (s : Store) (a : Areas) (l v p : ℕ) (f : Leaf → A) (x : A)
    → ((y : Leaf) → leaf_out s a l v p ≡ Ok y → x ≡ f y) → answered (stamp_number s a l v p) x ≡ on_leaf f (leaf_out s a l v p)
by-leaf s a l v p f x h = go (leaf_out s a l v p) refl
  where
    go : (r : Result Leaf ℕ) → leaf_out s a l v p ≡ r → answered (stamp_number s a l v p) x ≡ on_leaf f r
    go (Ok y) e = rw ((number-passed s a l v p y e).0) (ap Ok (h y e))
    go (Err k) e = number-refused s a l v p x k e

pub stamp_of_leaf : (s : Store) (a : Areas) (l v p : ℕ)
    → stamp_out s a l v p ≡ on_leaf (λ (y : Leaf). record { 0 = since s a l p (version_of y.version) y.page }) (leaf_out s a l v p)
stamp_of_leaf s a l v p =
    by-leaf s a l v p (λ (y : Leaf). record { 0 = since s a l p (version_of y.version) y.page }) _
    (λ y e. rw (number-version s a l v p y e, number-page s a l v p y e) refl)
