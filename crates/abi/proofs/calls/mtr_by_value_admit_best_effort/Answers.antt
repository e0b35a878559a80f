-- `mtr_by_value_admit_best_effort` meets its contract: it hands out the numbers of what the call answers.
use mathlib.Core.Path.{ap, ◌∙◌}
use Rattle.scheduler.specs.View.{view}
use Rattle.rule.specs.Refusals.{admit_effort}
use Rattle.scheduler.proofs.threads.Replies.{call_numbers}
use Rattle.abi.specs.Calls.{reply_out}
use Rattle.abi.proofs.calls.mtr_by_value_admit_best_effort.Goals as goal

pub returns : goal.returns
returns c =
    let a = c.args in
    let done = c.admit_effort in
    let call = admit_effort a.number a.weight in
    c.handed.ensures ∙ ap reply_out (call_numbers call (view a.state) done.result done.ensures)
