-- Lines of WORST, computed from their text to the answer's, whatever is kept: so before any FORMAT too.
use Rattle.std.specs.Prelude.{◌≡◌, refl, List, [], ℕ, Option}
use Rattle.text.specs.Quoted.{text}
use Rattle.tree.specs.Tree.{height_from, root_height}
use Rattle.tree.specs.Worst.{asked, most_up_to, worst, worst_for}
use Rattle.fields.specs.Fields.{field_number}
use Rattle.print.specs.Print.{digits, decimal, reply_line}
use Rattle.versions.specs.Store.{Areas}
use Rattle.parse.specs.Steps.{step_of, meant_of, meant_by, one_of, two_of}
use Rattle.versions.specs.declared.Store.{Store}
use Rattle.wanted.specs.declared.Wanted.{Wanted}
use Rattle.wanted.specs.Wanted.{wanted_by}
use Rattle.wanted.specs.Steps.{step_said, step_areas}

-- What is asked for has this answer, and leaves what is kept and the areas as they were.
pub record Answers (w : Option Wanted) (line : List ℕ) (k : Option Store) (a : Areas) : Type 0 where
  pub says : (step_said k w a []).line ≡ line
  pub keeps : (step_said k w a []).kept ≡ k
  pub leaves : step_areas k w a [] ≡ a

abbrev Always : List ℕ → List ℕ → Type 0
Always l line = (k : Option Store) (a : Areas) → Answers (wanted_by (step_of l)) line k a

worst-lines :
    Always (text "WORST,2,1") (text "worst,2\n")
    × Always (text "WORST,64,2") (text "worst,13\n")
    × Always (text "WORST,4096,64") (text "worst,144\n")
    × Always (text "WORST,4096,65") (text "refused,0\n")
    × Always (text "WORST,64,33") (text "refused,0\n")
    × Always (text "WORST,64,0") (text "refused,0\n")
    × Always (text "WORST,6,1") (text "refused,0\n")
    × Always (text "WORST,64") (text "refused,0\n")
unfolding step_said step_areas wanted_by meant_of meant_by one_of two_of field_number reply_line decimal digits worst_for worst asked most_up_to root_height height_from
worst-lines = (
  λ k a. record { says = refl; keeps = refl; leaves = refl },
  λ k a. record { says = refl; keeps = refl; leaves = refl },
  λ k a. record { says = refl; keeps = refl; leaves = refl },
  λ k a. record { says = refl; keeps = refl; leaves = refl },
  λ k a. record { says = refl; keeps = refl; leaves = refl },
  λ k a. record { says = refl; keeps = refl; leaves = refl },
  λ k a. record { says = refl; keeps = refl; leaves = refl },
  λ k a. record { says = refl; keeps = refl; leaves = refl },
)
