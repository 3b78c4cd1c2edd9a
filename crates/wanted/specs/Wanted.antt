-- What a step asks for within the program's own limits, and the lengths of the areas that it is lent.
use Rattle.std.specs.Prelude.{ℕ, ◌*◌, min, Bool, ◌||◌, ltb, Option, None, Some}
use Rattle.text.specs.Text.{pick}
use Rattle.versions.specs.declared.Store.{Store}
use Rattle.versions.specs.declared.Lengths.{Lengths}
use Rattle.format.specs.Format.{fresh}
use Rattle.parse.specs.declared.Step.{Step}
use Rattle.wanted.specs.declared.Wanted.{Wanted}
use Rattle.wanted.specs.declared.Change.TheVariants as Change
use Rattle.wanted.specs.declared.Look.TheVariants as Look

-- The program's own limits: page size, page bytes, nodes and updates of a store.
unfoldable pub beyond : ℕ → ℕ → ℕ → ℕ → Bool
beyond size pages nodes updates = ltb 256 size || (ltb 32768 (size * pages) || (ltb 2048 nodes || ltb 256 updates))

-- FORMAT holds the limits of the store that it would make.
unfoldable pub format_wanted : ℕ → ℕ → ℕ → ℕ → Option Wanted
format_wanted size pages nodes updates = pick (beyond size pages nodes updates) None (Some (Wanted.Format size pages nodes updates))

-- READ gives at most 256 bytes.
unfoldable pub read_wanted : ℕ → ℕ → ℕ → ℕ → Option Wanted
read_wanted l v offset n = pick (ltb 256 n) None (Some (Wanted.Read l v offset n))

-- What a step asks for: nothing where its line is malformed, or it is beyond the program's own limits.
unfoldable pub wanted_by : Option Step → Option Wanted
wanted_by None = None
wanted_by (Some (Step.Format s p n u)) = format_wanted s p n u
wanted_by (Some (Step.Begin n)) = Some (Wanted.Change (Change.Begin n))
wanted_by (Some (Step.Put t i n)) = Some (Wanted.Change (Change.Put t i n))
wanted_by (Some (Step.Write l t f)) = Some (Wanted.Change (Change.Write l t f))
wanted_by (Some (Step.Append l t)) = Some (Wanted.Change (Change.Append l t))
wanted_by (Some (Step.Weave t)) = Some (Wanted.Change (Change.Weave t))
wanted_by (Some (Step.Publish l k)) = Some (Wanted.Look (Look.Publish l k))
wanted_by (Some (Step.Branch l v)) = Some (Wanted.Look (Look.Branch l v))
wanted_by (Some (Step.Read l v o n)) = read_wanted l v o n
wanted_by (Some (Step.Size l v)) = Some (Wanted.Look (Look.Size l v))
wanted_by (Some (Step.Recent l)) = Some (Wanted.Look (Look.Recent l))
wanted_by (Some (Step.Stamp l v p)) = Some (Wanted.Look (Look.Stamp l v p))
wanted_by (Some (Step.Worst r n)) = Some (Wanted.Worst r n)

-- The store whose areas a step is lent: the one that is open, if one is, and for FORMAT the one that it would make.
unfoldable pub store_for : Option Store → Option Wanted → Option Store
store_for k None = k
store_for k (Some (Wanted.Format s p n u)) = Some (fresh s p n u)
store_for k (Some (Wanted.Worst r n)) = k
store_for k (Some (Wanted.Read l v o n)) = k
store_for k (Some (Wanted.Change w)) = k
store_for k (Some (Wanted.Look w)) = k

-- The lengths of a store's areas, none past the array that it lies in; with no store nothing is lent.
unfoldable pub lengths_for : Option Store → Lengths → Lengths
lengths_for None most = record { pages = 0; nodes = 0; register = 0 }
lengths_for (Some s) most = record {
  pages = min (s.size * s.pages) most.pages;
  nodes = min (2 * s.nodes) most.nodes;
  register = min s.updates most.register;
}

-- The lengths of the areas that a step is lent.
unfoldable pub lent_lengths : Option Store → Option Wanted → Lengths → Lengths
lent_lengths k w most = lengths_for (store_for k w) most
