-- `text::line_size` meets its contract: before each turn `size` is the length of the first numbers, each with the byte after it.
use Prim.Native.Nat.{◌+◌}
use lib.ListN.{get_or}
use native.Mathlib.Omega.{arith}
use Rattle.text.proofs.Digits.{digits_most}
use Rattle.text.proofs.Lines.{sized_more, sized_over, sized_all}
use Rattle.text.proofs.line_size.Goals as goal

pub overflow_add-more : goal.overflow_add-more
overflow_add-more c =
    omega (arith, digits_most (get_or c.args.numbers.now c.loop-n.n-index 0) (omega (arith, c.type_inv.numbers c.loop-n.n-index)))

pub returns-then-most-size : goal.returns-then-most-size
returns-then-most-size c =
    sized_over c.args.numbers.now c.args.most c.loop-n.size c.loop-n.n-index (c.width-more.result + 1) c.loop-n.invariant (omega arith)
    (omega arith) (omega arith)

pub loop-n-preserved : goal.loop-n-preserved
loop-n-preserved c =
    sized_more c.args.numbers.now c.args.most c.loop-n.size c.loop-n.n-index (c.width-more.result + 1) c.loop-n.invariant (omega arith)
    (omega arith) (omega arith)

pub returns : goal.returns
returns c =
    sized_all c.args.numbers.now c.args.most c.loop-n.size c.loop-n.n-index c.loop-n.invariant (omega arith) (omega arith)
