-- As many bytes of the text are written as the answer has; where a read failed, none of it.
use Rattle.mtrwhy.proofs.Pieces.{wrote-text}
use Rattle.mtrwhy.proofs.tell.Goals as goal

pub returns-in-Ok : goal.returns-in-Ok
returns-in-Ok g c = wrote-text c.args.asked c.look-answer.result c.look-answer.ensures c.write.result.handed c.in-Ok.used c.in-Ok.is
    c.write.ensures
