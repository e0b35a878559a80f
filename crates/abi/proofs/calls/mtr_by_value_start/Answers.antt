-- `mtr_by_value_start` meets its contract: it hands out the numbers of what start answers.
use mathlib.Core.Path.{ap, ◌∙◌}
use Rattle.scheduler.specs.Answers.{reply_of}
use Rattle.scheduler.proofs.threads.Replies.{start-numbers}
use Rattle.abi.specs.Calls.{reply_out}
use Rattle.abi.proofs.calls.mtr_by_value_start.Goals as goal

pub returns : goal.returns
returns c =
    let a = c.args in
    c.handed.ensures ∙ ap reply_out (ap reply_of c.start.ensures ∙ start-numbers a.thousandth a.interval a.overrun)
