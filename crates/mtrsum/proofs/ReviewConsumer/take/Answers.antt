use Rattle.std.proofs.Common.{◌/◌, ap, ◌∙◌, arith}
use Rattle.block.specs.Block.{refusal_of}
use Rattle.sector.specs.Places.{blocks_in}
use Rattle.usage.proofs.Firsts.{first_number}
use Rattle.mtrsum.proofs.Pieces.{sofar_more}
use Rattle.mtrsum.proofs.ReviewConsumer.take.Goals as goal

pub returns-clause-taken : goal.returns-clause-taken
returns-clause-taken c =
    let bytes = c.args.bytes.now in
    ap refusal_of c.first_refusal.ensures ∙ first_number (blocks_in bytes) bytes (c.args.read / 512)

pub returns-clause-sofar : goal.returns-clause-sofar
returns-clause-sofar c =
    let bytes = c.args.bytes.now in
    sofar_more c.args.read (refusal_of c.args.refused.now) bytes _ c.requires.sofar c.requires.wanting
    (omega (arith, c.requires.whole)) (omega (arith, c.requires.small)) (returns-clause-taken c)
