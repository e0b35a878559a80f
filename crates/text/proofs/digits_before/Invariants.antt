use Prim.Native.Nat.{◌-◌}
use lib.ListN.{length}
use Rattle.text.specs.Decimal.{digits}
use Rattle.text.proofs.Area.{Left}
use Rattle.text.proofs.digits_before.Given as goal

abbrev pub invariant-loop-rest : goal.invariant-loop-rest
invariant-loop-rest l = Left l.initial.area (l.end - length (digits l.n)) (digits l.n) l.area l.at (digits l.rest)

abbrev pub decreases-loop-rest : goal.decreases-loop-rest
decreases-loop-rest l = l.rest
