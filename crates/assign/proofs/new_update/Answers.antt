-- Sums that are capped say the same of an update within the limits.
use Rattle.std.proofs.Common.{◌≡◌, ap, ◌∙◌, ℕ, ◌+◌, ◌-◌, ◌^◌, min, max, arith}
use lib.Pow.{pow_pos}
use Rattle.tree.specs.Tree.{Update, root_height}
use Rattle.tree.specs.Contract.{root_span}
use Rattle.spans.proofs.Smallest.{span-power}
use Rattle.register.specs.Register.{limited, extent_of}
use Rattle.register.specs.declared.Extent.{Extent}
use Rattle.register.proofs.Counted.{limited-pages, limited-capped}
use Rattle.versions.specs.Store.{line_in}
use Rattle.versions.specs.declared.Store.{Store}
use Rattle.assign.specs.declared.NewUpdate.{NewUpdate}
use Rattle.assign.specs.Assign.{number_by, part_by}
use Rattle.assign.proofs.new_update.Goals as goal

-- Within the limits the span looked up is that of a root, and its height the root's.
spans : (f l z : ℕ) (e : Extent) (s : ℕ) → e ≡ extent_of (limited f l z) → s ≡ root_span e.size → s ≡ 2 ^ root_height e.size
spans f l z e s d i = i ∙ span-power e.size (rw d (omega arith)) (rw d (omega arith))

-- The update, of these pages and this size brought within the limits.
abbrev update_by : Store → ℕ → ℕ → ℕ → ℕ → Update → NewUpdate
update_by s l t f n u =
    let b = line_in s l in
    let end = min (f + n) (2 ^ 64 - 1) in
    record {
      line = record { 0 = l };
      ticket = record { 0 = t };
      n = n;
      part = part_by u (number_by l b) f (end - 1) (max b.blob end) (min (s.places + root_height u.size) (2 ^ 64 - 1));
    }

pub height_of-height-requires : goal.height_of-height-requires
height_of-height-requires c =
    omega (arith, spans _ _ _ _ _ c.within_limits-e.ensures c.root_span-span.ensures, pow_pos (root_height c.within_limits-e.result.size))

pub node_count-requires : goal.node_count-requires
node_count-requires c =
    let e = c.within_limits-e.ensures in
    rw (c.height_of-height.ensures _ (spans _ _ _ _ _ e c.root_span-span.ensures), e) (limited-pages _ _ _)

pub returns : goal.returns
returns c =
    let s = c.args.s.now in
    let l = c.args.l.0 in
    let f = c.args.f.0 in
    let n = c.args.n in
    let e = c.within_limits-e.ensures in
    let h = c.height_of-height.ensures _ (spans _ _ _ _ _ e c.root_span-span.ensures) in
    rw (c.node_count.ensures.exact, c.halvings.ensures.0, c.number_of.ensures, c.saturating_add-2.ensures, c.saturating_add.ensures, h, c.root_span-span.ensures, e, c.max-size.ensures, c.saturating_sub.ensures, c.saturating_add-end.ensures, c.line_state-b.ensures)
    (ap (update_by s l c.args.t.0 f n) (limited-capped f (f + n) (line_in s l).blob))
