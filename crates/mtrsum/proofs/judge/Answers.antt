use Rattle.mtrsum.proofs.Pieces.{sofar_none}
use Rattle.mtrsum.proofs.judge.Goals as goal

pub consume-extent-requires-clause-sofar : goal.consume-extent-requires-clause-sofar
consume-extent-requires-clause-sofar c = sofar_none
