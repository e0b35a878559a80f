use Rattle.std.proofs.Common.{arith}
use Rattle.mtrrun.proofs.Pieces.{sofar_more}
use Rattle.mtrrun.proofs.PrinterConsumer.take.Goals as goal

pub returns-clause-sofar : goal.returns-clause-sofar
returns-clause-sofar g c = sofar_more _ _ _ _ c.requires.sofar (omega (arith, c.requires.whole)) c.run_some-ran.ensures.left
