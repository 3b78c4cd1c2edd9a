-- The walk one level at a time, as the code goes, and what a level carries down. Assumes nothing.

use Rattle.std.proofs.Common.{◌≡◌, ℕ, zero, suc, ◌+◌, ◌-◌, ◌/◌, ◌%◌, ◌^◌, ◌<◌, ◌≤◌, Bool, true, false, leb, ltb, ◌&&◌, ◌≢◌, List, sym, refl, ap, ◌∙◌, inl, inr, arith, pow_pos, pow_mono, le-ltb, lt-ltb, Option, None, Some}
use Rattle.tree.specs.Place.{first, halvings}
use Rattle.tree.specs.Walk.{reach_by, visit, turns}
use Rattle.tree.specs.Contract.{root_in, height_in}
use Rattle.tree.proofs.First.{first-root, first_leaf}
use Rattle.tree.proofs.Halved.{halved-zero, halved-small, halved-left, halved-right, halved-step}
use Rattle.tree.proofs.Meets.{lt-or-le}
use Rattle.tree.proofs.Word.{own_power, height-in-low, root-in-power, height-in-power}
use Rattle.lines.specs.Lines.{pick}
use Rattle.tree.specs.Tree.{meets}
use Rattle.register.specs.declared.Part.{Part}
use Rattle.register.specs.declared.Record.{Record}
use Rattle.descent.specs.Places.{first_over, has_node_by, place_at}
use Rattle.descent.proofs.Places.{place-most}
use Rattle.tree.specs.declared.Stored.{Stored}
use Rattle.descent.specs.Level.{Carries}
use Rattle.descent.specs.declared.Level.{Level}

-- ---- one level

pub above_zero : (c : ℕ) → c ≢ 0 → 0 < c
above_zero zero n = absurd (n refl)
above_zero (suc c) n = omega arith

module _ (at : ℕ → ℕ → ℕ → Option ℕ) (area : List ℕ) (to p : ℕ) where
  pub reach_here : (h c : ℕ) → h ≤ to → reach_by at area to (h - to) c p ≡ Some c
  unfolding reach_by
  reach_here h c l = let e : h - to ≡ 0 = omega arith in rw e

  pub reach-none : (n : ℕ) → reach_by at area to n 0 p ≡ Some 0
  unfolding reach_by
  reach-none zero = refl
  reach-none (suc n) = refl

  down : (n c : ℕ) → 0 < c
      → reach_by at area to (suc n) c p ≡ turns (visit area (at c p (suc (n + to)))) (ltb p (first p (suc (n + to)) + 2 ^ (n + to))) (λ (d : ℕ). reach_by at area to n d p)
  unfolding reach_by
  down n zero o = absurd (omega arith)
  down n (suc c) o = refl

  -- From a node of a height above: the node at its place, and the half that the page lies in.
  reach_step : (h c : ℕ) → to < h → 0 < c
      → reach_by at area to (h - to) c p ≡ turns (visit area (at c p h)) (ltb p (first p h + 2 ^ (h - 1))) (λ (d : ℕ). reach_by at area to (h - 1 - to) d p)
  reach_step h c l o =
      let n = h - 1 - to in
      let e : h - to ≡ suc n = omega arith in
      let f : suc (n + to) ≡ h = omega arith in
      let g : n + to ≡ h - 1 = omega arith in
      ap (λ (i : ℕ). reach_by at area to i c p) e
      ∙ down n c o
      ∙ ap (λ (i : ℕ). turns (visit area (at c p i)) (ltb p (first p i + 2 ^ (n + to))) (λ (d : ℕ). reach_by at area to n d p)) f
      ∙ ap (λ (i : ℕ). turns (visit area (at c p h)) (ltb p (first p h + 2 ^ i)) (λ (d : ℕ). reach_by at area to n d p)) g

-- ---- what a level carries down

pub height-lt : (j h : ℕ) → 2 ^ j < 2 ^ h → j < h
height-lt j h l = elim (lt-or-le j h) [ inl r ↦ r | inr r ↦ absurd (omega (arith, pow_mono r)) ]

half-span : (span h : ℕ) → span ≡ 2 ^ suc h → span / 2 ≡ 2 ^ h
half-span span h e = omega arith

module _ (p a span halved carried : ℕ) (o : Carries p a span halved carried) where
  -- A span above 1 has a height above 0.
  level-high : 1 < span → 0 < height_in span
  level-high l = go (height_in span) (own_power span o.spans)
    where
      go : (h : ℕ) → span ≡ 2 ^ h → 0 < h
      go zero e = absurd (omega arith)
      go (suc h) e = omega arith

  module _ (h : ℕ) (high : height_in span ≡ suc h) where
    spans : span ≡ 2 ^ suc h
    spans = own_power span o.spans ∙ ap (λ (i : ℕ). 2 ^ i) high

    over : a ≡ first_over p (suc h)
    over = o.over ∙ ap (first_over p) high

    half : span / 2 ≡ 2 ^ h
    half = half-span span h spans

    low : h ≤ 12
    low = omega (arith, height-in-low span)

    root_below : root_in (span / 2) ≡ span / 2
    root_below = rw half (root-in-power h low)

    height-below : height_in (span / 2) ≡ h
    height-below = ap height_in half ∙ height-in-power h low

    left : p < a + span / 2 → Carries p a (span / 2) halved ((carried + 1) % 2 ^ 64)
    left l = record {
      spans = root_below;
      inside = omega (arith, o.inside);
      over = over ∙ sym (halved-left p h (omega (arith, half, over, l))) ∙ ap (first_over p) (sym height-below);
      halvings-of = o.halvings-of;
      less-height = omega (arith, o.less-height, height-below, low);
    }

    right : a + span / 2 ≤ p → Carries p (a + span / 2) (span / 2) (halved + (span - 1)) ((carried + span) % 2 ^ 64)
    right l =
        let step : halvings (a + span / 2) ≡ halvings a + (span - 1) = rw (half, over, spans) (halved-step p h) in
        record {
          spans = root_below;
          inside = omega (arith, o.inside, spans);
          over = rw half (ap (λ (x : ℕ). x + 2 ^ h) over ∙ sym (halved-right p h (omega (arith, half, over, l)))) ∙ ap (first_over p) (sym height-below);
          halvings-of = omega (arith, o.halvings-of);
          less-height = omega (arith, o.less-height, height-below, low, spans, pow_pos (suc h));
        }

  half-height : 1 < span → height_in (span / 2) ≡ height_in span - 1
  half-height l = height-below (height_in span - 1) (omega (arith, level-high l))

  level-half : 1 < span → span / 2 ≡ 2 ^ (height_in span - 1)
  level-half l = half (height_in span - 1) (omega (arith, level-high l))

  pub level-below : 1 < span → (b : Bool) → b ≡ ltb p (a + span / 2) → Carries p (pick b a (a + span / 2)) (span / 2) (pick b halved (halved + (span - 1))) ((carried + pick b 1 span) % 2 ^ 64)
  level-below l b e =
      let high : height_in span ≡ suc (height_in span - 1) = omega (arith, level-high l) in
      elim (lt-or-le p (a + span / 2)) [
        | inl l ↦ rw (e ∙ lt-ltb p (a + span / 2) l) (left (height_in span - 1) high l)
        | inr l ↦ rw (e ∙ le-ltb p (a + span / 2) l) (right (height_in span - 1) high l)
      ]

-- What the root carries.
pub level-root : (p span carried : ℕ) → root_in span ≡ span → p < span → carried ≡ (0 + (2 ^ 64 - height_in span)) % 2 ^ 64 → Carries p 0 span 0 carried
level-root p span carried root r e =
    let power = own_power span root in
    record {
      spans = root;
      inside = omega (arith, power, pow_mono (height-in-low span));
      over = sym (first-root p (height_in span) (omega (arith, power)));
      halvings-of = sym halved-zero;
      less-height = rw halved-zero (omega (arith, height-in-low span));
    }

pub leaf-height : height_in 1 ≡ 0
leaf-height = height-in-power 0 (omega arith)

-- What a leaf's level carries.
pub level-leaf : (p : ℕ) → p < 4096 → Carries p p 1 (halvings p) (halvings p)
level-leaf p l = record {
  spans = root-in-power 0 (omega arith);
  inside = omega arith;
  over = rw leaf-height (sym (first_leaf p));
  halvings-of = refl;
  less-height = rw leaf-height (omega (arith, halved-small p));
}

-- Whether an update has the level's node, by the numbers that the level carries.
pub has_at : (q : Part) (l : Level) → (leb l.span q.span && (ltb q.f.0 (l.first + l.span) && leb l.first q.last.0)) ≡ has_node_by q l.page (height_in l.span)
unfolding has_node_by meets
has_at q l =
    let power = own_power l.span l.carries.spans in
    rw (ap (λ (s : ℕ). leb s q.span) power, ap (λ (a : ℕ). leb a q.last.0) l.carries.over, ap (λ (e : ℕ). ltb q.f.0 e) (ap (λ (a : ℕ). a + l.span) l.carries.over ∙ ap (λ (s : ℕ). first_over l.page (height_in l.span) + s) power)) refl

-- From the largest number no node is reached.
pub reach-most : (rs : List Record) (nodes : List ℕ) (j h p : ℕ) → j < h → reach_by (place_at rs) nodes j (h - j) (2 ^ 64 - 1) p ≡ None
reach-most rs nodes j h p l = reach_step (place_at rs) nodes j p h (2 ^ 64 - 1) l (omega arith) ∙ rw (place-most rs p h) refl

-- One level of the walk, at the node that its level names: from its number on to its child's, of half its span.
pub one_level : (rs : List Record) (nodes : List ℕ) (l : Level) (c to j : ℕ) → 0 < c → to < l.span → to ≡ 2 ^ j
    → reach_by (place_at rs) nodes j (height_in l.span - j) c l.page
    ≡ turns (visit nodes (place_at rs c l.page (height_in l.span))) (ltb l.page (l.first + l.span / 2)) (λ (d : ℕ). reach_by (place_at rs) nodes j (height_in (l.span / 2) - j) d l.page)
one_level rs nodes l c to j o over e =
    let h = height_in l.span in
    let power = own_power l.span l.carries.spans in
    let big : 1 < l.span = omega (arith, e, over, pow_pos j) in
    let half : l.span / 2 ≡ 2 ^ (h - 1) = level-half l.page l.first l.span l.halved l.carried l.carries big in
    let below : height_in (l.span / 2) ≡ h - 1 = half-height l.page l.first l.span l.halved l.carried l.carries big in
    reach_step (place_at rs) nodes j l.page h c (height-lt j h (omega (arith, power, e, over))) o
    ∙ rw (below, half, l.carries.over) refl

-- The same where the node is stored, and the child's number is known.
pub goes_on : (rs : List Record) (nodes : List ℕ) (l : Level) (c d to j : ℕ) (x : Stored) (b : Bool) → 0 < c → to < l.span → to ≡ 2 ^ j
    → Some x ≡ visit nodes (place_at rs c l.page (height_in l.span)) → b ≡ ltb l.page (l.first + l.span / 2) → d ≡ pick b x.left x.right
    → reach_by (place_at rs) nodes j (height_in (l.span / 2) - j) d l.page ≡ reach_by (place_at rs) nodes j (height_in l.span - j) c l.page
goes_on rs nodes l c d to j x b o over e stored left child = rw (one_level rs nodes l c to j o over e, ← stored, ← left, child) (go b)
  where
    go : (b : Bool) → reach_by (place_at rs) nodes j (height_in (l.span / 2) - j) (pick b x.left x.right) l.page ≡ turns (Some x) b (λ (d : ℕ). reach_by (place_at rs) nodes j (height_in (l.span / 2) - j) d l.page)
    go true = refl
    go false = refl
