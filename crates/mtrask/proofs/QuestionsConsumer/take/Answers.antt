use Rattle.std.proofs.Common.{arith}
use Rattle.mtrask.proofs.Pieces.{passed_more}
use Rattle.mtrask.proofs.QuestionsConsumer.take.Goals as goal

pub returns-clause-sofar : goal.returns-clause-sofar
returns-clause-sofar c = passed_more _ c.args._read _ c.run.result _ c.requires.sofar (omega (arith, c.requires.whole)) c.run.ensures
