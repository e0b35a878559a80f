-- `Scheduler::close` meets its contract: the code decides, and what is stored is the closed group or the old one.
use mathlib.Core.Path.{refl, ◌∙◌}
use Rattle.answers.proofs.Refusals.{tested}
use Rattle.answers.specs.Numbers.{number_in}
use Rattle.rule.specs.State.{with_group}
use Rattle.soundness.proofs.Whole as whole
use Rattle.scheduler.specs.View.{view}
use Rattle.scheduler.proofs.groups.Stored.{close_done}
use Rattle.scheduler.proofs.Scheduler.close.Goals as goal

pub returns : goal.returns
unfolding with_group
returns c =
    let a = c.args in
    let s = view a.self in
    let test =
    whole.tested s c.tested-sums.result c.tested-sums.ensures c.is_some.result c.is_some.ensures
    c.unwrap_or-reserved.result c.unwrap_or-reserved.ensures in
    let r = c.close_check-check.result in
    let z = tested r c.is_ok.result c.is_ok.ensures.value in
    let number = c.close_check-check.ensures s test.test refl (λ w. c.load_of-used.ensures s refl (test.sums w)) in
    close_done s a.number (number_in r) number c.answered.result c.answered.ensures
    c.closed_if-group.result (c.closed_if-group.ensures ∙ rw z)
