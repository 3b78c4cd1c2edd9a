-- The fields of a line are the parts that `split` gives at its commas. Assumes nothing.
use mathlib.Core.Path.{◌≡◌, refl, ◌∙◌}
use mathlib.Core.Bool.{Bool, true, false, cond}
use mathlib.Core.List.{List, [], ◌∷◌}
use Prim.Native.Nat.{ℕ}
use lib.Dec.{eqb}
use lib.ListN.{get_or}
use denote.Ref.{Bor}
use Rattle.std.proofs.Common.{Option, Some, None}
use Rattle.std.proofs.lemmas.Option.{unwrap_or-slice_get}
use Rattle.std.specs.List.{slice_split, onto_first, slice_get}
use Rattle.std.specs.Option.{option_map, unwrap_or}
use Rattle.text.specs.Text.{pick, comma, joined}
use Rattle.fields.specs.Fields.{fields_of}

-- the parts at the commas
abbrev pub parts : List ℕ → List (List ℕ)
parts l = slice_split (λ b. eqb b comma) l

picked : (t : Bool) (b : ℕ) (fs : List (List ℕ)) → cond t ([] ∷ fs) (onto_first b fs) ≡ pick t ([] ∷ fs) (joined b fs)
picked true b fs = refl
picked false b [] = refl
picked false b (f ∷ fs) = refl

pub parts-fields : (l : List ℕ) → parts l ≡ fields_of l
parts-fields [] = refl
parts-fields (b ∷ l) = rw (parts-fields l) (picked (eqb b comma) b (fields_of l))

read : (r : Option (Bor (List ℕ))) (d : Bor (List ℕ)) → (unwrap_or r d).now ≡ unwrap_or (option_map (λ x. x.now) r) d.now
read None d = refl
read (Some x) d = refl

-- the part at place k, or the empty one
pub part-field : (l : List ℕ) (k : ℕ) (r : Option (Bor (List ℕ))) (d : Bor (List ℕ))
    → option_map (λ x. x.now) r ≡ slice_get (parts l) k → d.now ≡ [] → (unwrap_or r d).now ≡ get_or (fields_of l) k []
part-field l k r d e z = read r d ∙ rw (e, z, unwrap_or-slice_get, parts-fields l)
