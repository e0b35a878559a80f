-- `mtr_by_value_wake` meets its contract: it hands out the numbers of what the call answers.
use mathlib.Core.Path.{ap, ◌∙◌}
use Rattle.scheduler.specs.View.{view}
use Rattle.rule.specs.Refusals.{wake}
use Rattle.scheduler.proofs.threads.Replies.{call_numbers}
use Rattle.abi.specs.Calls.{reply_out}
use Rattle.abi.proofs.calls.mtr_by_value_wake.Goals as goal

pub returns : goal.returns
returns c =
    let a = c.args in
    let done = c.wake in
    c.handed.ensures ∙ ap reply_out (call_numbers (wake a.number) (view a.state) done.result done.ensures)
