-- As many bytes of the text are written as the lines have; where a read failed, none of it.
use Rattle.std.proofs.Common.{sym, ◌∙◌}
use Rattle.mtrask.proofs.Pieces.{handed_text}
use Rattle.mtrask.proofs.tell.Goals as goal

pub returns : goal.returns
returns g c =
    handed_text c.args.questions.now c.look-outcome.new.out c.look-outcome.result c.look-outcome.ensures c.write.result.handed
    (sym c.error.ensures ∙ c.in_default.is) c.write.ensures
