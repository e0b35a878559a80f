use Rattle.std.proofs.Common.{ap}
use Rattle.replay.specs.View.{seen}
use Rattle.mtrrun.proofs.Pieces.{sofar_none}
use Rattle.mtrrun.proofs.replay_all.Goals as goal

pub consume-extent-requires-clause-sofar : goal.consume-extent-requires-clause-sofar
consume-extent-requires-clause-sofar g c = sofar_none _ (ap seen c.new.ensures)
