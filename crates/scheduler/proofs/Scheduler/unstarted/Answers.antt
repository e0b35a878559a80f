-- `unstarted` meets its contract.
use Rattle.rule.specs.Effects.{unstarted}
use Rattle.scheduler.proofs.Scheduler.unstarted.Goals as goal

pub returns : goal.returns
unfolding unstarted
returns c = rw c.default-thread.ensures
