-- After i arguments the values are what so many texts spell.
use Rattle.std.proofs.Common.{◌≡◌, length}
use Rattle.std.specs.Prelude.{Some}
use Rattle.mtrask.specs.Promise.{Said}
use Rattle.mtrask.proofs.numbers_said.Given as goal

abbrev pub invariant-loop-i : goal.invariant-loop-i
invariant-loop-i g l = (length l.values ≡ 192) × Said l.i (Some l.values)
