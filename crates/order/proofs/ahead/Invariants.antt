use Rattle.std.proofs.Common.{◌≡◌, drop}
use Rattle.base.specs.Lists.{before}
use Rattle.order.proofs.ahead.Given as goal

abbrev pub invariant-loop-n : goal.invariant-loop-n
invariant-loop-n l = before l.t l.u l.list ≡ before l.t l.u (drop l.n-index l.list)
