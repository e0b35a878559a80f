-- The pass over the file, the answers at its end, and their lines.
use Rattle.std.proofs.Common.{arith, rules}
use Rattle.mtrask.proofs.Pieces.{passed_none, looked_is}
use Rattle.mtrask.proofs.look.Goals as goal

pub consume-extent-requires-clause-sofar : goal.consume-extent-requires-clause-sofar
consume-extent-requires-clause-sofar c = passed_none _ c.new-pass.result c.new-pass.ensures

pub returns : goal.returns
returns c =
    let end = c.consume-extent in
    looked_is c.args.questions.now end.new.state end.result c.answers-table.result c.args.out.now c.put_answers-used.new.out
    c.put_answers-used.result (search rules) c.args.questions.now.few (omega arith) end.ensures.sofar end.ensures.pieces
    c.answers-table.ensures c.requires c.put_answers-used.ensures
