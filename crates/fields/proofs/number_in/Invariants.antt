-- The invariant of `fields::number_in`: the number is what the digits that are left make after v.
use Rattle.std.proofs.Common.{◌≡◌, ◌^◌, drop, ◌<◌}
use Rattle.fields.specs.Fields.{field_number}
use Rattle.fields.proofs.Numbers.{finished}
use Rattle.fields.proofs.number_in.Given as goal

abbrev pub invariant-loop-b : goal.invariant-loop-b
invariant-loop-b l = (l.v < 2 ^ 64) × (field_number l.f ≡ finished l.v (drop l.b-index l.f))
