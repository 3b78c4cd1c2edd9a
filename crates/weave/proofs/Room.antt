-- The next node as the code finds it: it lies within the largest root, so that sums of its pages have room; its halves; and whether it lies past an area.
-- Assumes nothing.
use Rattle.std.proofs.Common.{◌≡◌, ◌≢◌, ℕ, zero, suc, ◌+◌, ◌-◌, ◌/◌, ◌^◌, ◌<◌, ◌≤◌, min, refl, sym, ap, ◌∙◌, inl, inr, arith, pow_pos, Bool, true, false, Option, None, Some, leb, le-leb}
use Rattle.std.proofs.lemmas.Bool.{lt-leb}
use Rattle.std.specs.Option.{is_some}
use Rattle.std.proofs.lemmas.Option.{same_Some, none-some}
use Rattle.tree.specs.Tree.{Node, node}
use Rattle.tree.specs.Contract as Contract
use Rattle.tree.specs.Contract.{Names, first_of, root_in, height_in}
use Rattle.tree.specs.Place.{node_numbered}
use Rattle.tree.specs.declared.Named.{Named}
use Rattle.tree.proofs.Whole.{numbered_within}
use Rattle.tree.proofs.Word.{height-in-low, root-in, root-in-held}
use Rattle.register.specs.Register.{update_of, extent_of}
use Rattle.register.specs.declared.Extent.{Extent}
use Rattle.register.specs.declared.Record.{Record}
use Rattle.register.specs.declared.Part.{Part}
use Rattle.tree.proofs.Meets.{lt-or-le}
use Rattle.table.specs.Table.{holds}
use Rattle.versions.specs.declared.Store.{Store}
use Rattle.register.proofs.Records.{update_of-inside}
use Rattle.weave.specs.Weave.{next_node, leaf_past, first_page, span_of}
use Rattle.weave.specs.Next.{name_of, halves_of}
use Rattle.weave.specs.declared.Halves.{Halves}
use Rattle.weave.specs.declared.Next.{Next}

same_first : (x : Node) → first_of x ≡ first_page x
same_first (node a h) = refl

same_span : (x : Node) → Contract.span_of x ≡ span_of x
same_span (node a h) = refl

-- The node that the code finds by the number of nodes that are woven is the next one.
module _ (q : Part) (x : Named) (e : Extent) (root : ℕ) where
  pub next-named : e ≡ extent_of (update_of q) → root ≡ root_in q.span
      → Names (node_numbered e.f.0 (height_in root) q.past q.woven) x.first.0 x.span → x ≡ name_of (next_node q)
  unfolding next_node
  next-named f r w =
      let y = node_numbered (update_of q).f (height_in q.span) q.past q.woven in
      let found : Names y x.first.0 x.span = rw (f, r, (root-in-held q.span).1) at w in
      rw (← same_first y, ← same_span y, ← found.first, ← found.spans)

pub next-inside : (q : Part) → first_page (next_node q) + span_of (next_node q) ≤ 4096
unfolding next_node
next-inside q =
    let y = node_numbered (update_of q).f (height_in q.span) q.past q.woven in
    let within = numbered_within (update_of q).f (height_in q.span) q.past q.woven (omega (arith, update_of-inside q)) (height-in-low q.span) in
    rw (← same_first y, ← same_span y) (omega (arith, within))

pub named-inside : (q : Part) (x : Named) (e : Extent) (root : ℕ) → e ≡ extent_of (update_of q) → root ≡ root_in q.span
    → Names (node_numbered e.f.0 (height_in root) q.past q.woven) x.first.0 x.span → x.first.0 + x.span < 2 ^ 64
named-inside q x e root f r w = rw (next-named q x e root f r w) (omega (arith, next-inside q))

-- Its halves have pages, and sums of these have room.
abbrev HasRoom : Named → Type 0
HasRoom x = (x.first.0 + x.span < 2 ^ 64) × (0 < x.span)

halves-room : (y : Node) (h : Halves) → first_page y + span_of y ≤ 4096 → Some h ≡ halves_of y → HasRoom h.left × HasRoom h.right
halves-room (node p zero) h i e = absurd (none-some h (sym e))
halves-room (node p (suc k)) h i e =
    let within : p + 2 ^ suc k ≤ 4096 = i in
    let left : p + 2 ^ k < 2 ^ 64 = omega arith in
    let right : p + 2 ^ k + 2 ^ k < 2 ^ 64 = omega arith in
    rw (same_Some h _ e) ((left, pow_pos k), (right, pow_pos k))

pub room : (x : Next) (h : Halves) → x.halves ≡ Some h → HasRoom h.left × HasRoom h.right
room x h e = halves-room (next_node x.part) h (next-inside x.part) (sym e ∙ x.parted)

-- ---- whether the next node lies past

-- A number of 64 bits reaches a sum where it reaches the largest number of them that is no larger.
pub capped : (n m : ℕ) → n < 2 ^ 64 → leb n (min m (2 ^ 64 - 1)) ≡ leb n m
capped n m l = elim (lt-or-le m n) [
  | inl p ↦ lt-leb n (min m (2 ^ 64 - 1)) (omega arith) ∙ sym (lt-leb n m p)
  | inr p ↦ le-leb n (min m (2 ^ 64 - 1)) (omega arith) ∙ sym (le-leb n m p)
]

module _ (s : Store) (r : Record) (q : Part) where
  pub inner-not-past : (y : Node) → is_some (halves_of y) ≡ true → holds (leaf_past s r q y) ≡ false
  unfolding holds
  inner-not-past (node p zero) e = absurd (grind arith)
  inner-not-past (node p (suc h)) e = refl

  pub leaf-past : (y : Node) → is_some (halves_of y) ≡ false → holds (leaf_past s r q y) ≡ leb s.pages (r.number + (first_page y - (update_of q).f))
  unfolding holds
  leaf-past (node p zero) e = refl
  leaf-past (node p (suc h)) e = absurd (grind arith)

pub ruleset past_rules = (capped, inner-not-past, leaf-past)

-- ---- the halves of a node by its name

-- The halves that the code names.
abbrev pub parted : Named → Halves
parted x = record {
  left = record { first = x.first; span = x.span / 2 };
  right = record { first = record { 0 = x.first.0 + x.span / 2 }; span = x.span / 2 };
}

span_is : (x : Named) (y : Node) → x ≡ name_of y → x.span ≡ (name_of y).span
span_is x y e = ap (λ (n : Named). n.span) e

pub halves-none : (x : Named) (y : Node) → x ≡ name_of y → x.span ≡ 1 → None ≡ halves_of y
halves-none x (node p zero) e s = refl
halves-none x (node p (suc h)) e s = let d : x.span ≡ 2 ^ suc h = span_is x (node p (suc h)) e in absurd (omega (arith, pow_pos h))

pub halves-parted : (x : Named) (y : Node) → x ≡ name_of y → x.span ≢ 1 → Some (parted x) ≡ halves_of y
halves-parted x (node p zero) e s = absurd (s (span_is x (node p zero) e))
halves-parted x (node p (suc h)) e s =
    let d : 2 ^ suc h / 2 ≡ 2 ^ h = omega arith in
    rw (e, d)

pub ruleset halves_rules = (halves-none, halves-parted)

pub ruleset root_rules = (root-in, root-in-held, pow_pos)
