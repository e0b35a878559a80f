-- `wake_given` meets its contract: the number is the refusal's, and where it is 0 the thread is the woken one.
use Rattle.rule.specs.State.{with_thread}
use Rattle.scheduler.specs.View.{view}
use Rattle.scheduler.proofs.threads.Replies.{wake_number, wake_done}
use Rattle.answers.proofs.Refusals.{tested}
use Rattle.answers.specs.Numbers.{number_in}
use mathlib.Core.Path.{◌∙◌}
use Rattle.scheduler.proofs.Scheduler.wake_given.Goals as goal

pub returns : goal.returns
unfolding with_thread
returns c =
    let a = c.args in
    let s = view a.self in
    let r = c.wake_check-check.result in
    let code = number_in r in
    let z = tested r c.is_ok.result c.is_ok.ensures.value in
    wake_done s a.number code (wake_number s a.number a.ok c.requires code c.wake_check-check.ensures)
    c.answered.result c.answered.ensures c.woken-woken.result (c.woken-woken.ensures ∙ rw z)
