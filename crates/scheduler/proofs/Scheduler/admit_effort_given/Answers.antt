-- `admit_effort_given` meets its contract: the number is the refusal's, and where it is 0 the entry is the new thread's.
use Rattle.rule.specs.State.{with_thread}
use Rattle.scheduler.specs.View.{view}
use Rattle.scheduler.proofs.threads.Replies.{effort-number, effort-done}
use Rattle.answers.proofs.Refusals.{tested}
use Rattle.answers.specs.Numbers.{number_in}
use mathlib.Core.Path.{◌∙◌}
use Rattle.scheduler.proofs.Scheduler.admit_effort_given.Goals as goal

pub returns : goal.returns
unfolding with_thread
returns c =
    let a = c.args in
    let s = view a.self in
    let r = c.effort_check-check.result in
    let code = number_in r in
    let z = tested r c.is_ok.result c.is_ok.ensures.value in
    effort-done s a.number a.weight code (effort-number s a.number a.weight a.ok c.requires code c.effort_check-check.ensures)
    c.answered.result c.answered.ensures c.effort_if-thread.result (c.effort_if-thread.ensures ∙ rw z)
