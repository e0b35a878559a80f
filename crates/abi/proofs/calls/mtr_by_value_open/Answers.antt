-- `mtr_by_value_open` meets its contract: it hands out the numbers of what the call answers.
use mathlib.Core.Path.{ap, ◌∙◌}
use Rattle.scheduler.specs.View.{view}
use Rattle.rule.specs.Refusals.{open_group}
use Rattle.scheduler.proofs.threads.Replies.{call_numbers}
use Rattle.abi.specs.Calls.{reply_out}
use Rattle.abi.proofs.calls.mtr_by_value_open.Goals as goal

pub returns : goal.returns
returns c =
    let a = c.args in
    let done = c.open in
    let call = open_group a.number a.parent a.ceiling in
    c.handed.ensures ∙ ap reply_out (call_numbers call (view a.state) done.result done.ensures)
