-- `rear` meets its contract: what stands behind the place moves up, and the entry comes last.
use Rattle.std.proofs.Common.{sym, ◌∙◌}
use Rattle.order.proofs.Queue.{requeue-none, requeue-found}
use Rattle.order.proofs.rear.Goals as goal

pub returns-in-Some : goal.returns-in-Some
returns-in-Some c =
    rw c.turn.ensures
    (requeue-found c.args.t c.args.list.now c.in-Some.at (sym c.position.ensures ∙ c.in-Some.is))

pub returns-in_default : goal.returns-in_default
returns-in_default c = requeue-none c.args.t c.args.list.now (sym c.position.ensures ∙ c.in_default.is)
