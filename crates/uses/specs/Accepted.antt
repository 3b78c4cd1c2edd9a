-- Any areas that FORMAT accepts, for one set of limits.
use Rattle.std.specs.Prelude.{◌≡◌, refl, replicate}
use Rattle.register.specs.Register.{no_record}
use Rattle.model.specs.Model.{Limits}
use Rattle.versions.specs.Store.{Areas}
use Rattle.format.specs.Format.{format_number}
use Rattle.demands.specs.Run.{fresh_of}
use Rattle.demands.specs.Computes.{computes}

unfoldable pub limits : Limits
limits = record { size = 16; pages = 16; nodes = 32; updates = 8 }

-- In any areas that FORMAT accepts.
abbrev pub InAll : (Areas → Type 0) → Type 0
InAll P = (a : Areas) → format_number (fresh_of limits) a ≡ 0 → P a

-- There are such areas.
pub accepts : format_number (fresh_of limits) (record { pages = replicate 256 7; nodes = replicate 64 7; register = replicate 8 no_record }) ≡ 0
unfolding computes limits
accepts = refl
