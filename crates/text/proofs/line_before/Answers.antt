-- `text::line_before` meets its contract: before each turn the first i numbers are left to write, with `after` behind the last.
use native.Mathlib.Omega.{arith}
use Rattle.text.proofs.Lines.{line_all, line_room, line_less, line_none}
use Rattle.text.proofs.line_before.Goals as goal

pub loop-i-init : goal.loop-i-init
loop-i-init c = line_all c.args.area.now c.args.end c.args.numbers.now (omega arith) (omega arith) (omega arith)

pub overflow_sub-at : goal.overflow_sub-at
overflow_sub-at c =
    let s = c.args in
    let l = c.loop-i in
    omega (arith, line_room s.area.now s.end s.numbers.now l.area l.i l.at l.after l.invariant (omega arith))

pub bounds-area-at : goal.bounds-area-at
bounds-area-at c =
    let s = c.args in
    let l = c.loop-i in
    omega (
      arith,
      line_room s.area.now s.end s.numbers.now l.area l.i l.at l.after l.invariant (omega arith),
      l.invariant.left.within,
      l.invariant.left.same,
    )

pub digits_before-at-requires-clause-n_len_bound : goal.digits_before-at-requires-clause-n_len_bound
digits_before-at-requires-clause-n_len_bound c =
    let s = c.args in
    let l = c.loop-i in
    omega (arith, line_room s.area.now s.end s.numbers.now l.area l.i l.at l.after l.invariant (omega arith))

pub loop-i-preserved : goal.loop-i-preserved
loop-i-preserved c =
    let s = c.args in
    let l = c.loop-i in
    line_less s.area.now s.end s.numbers.now l.area l.i l.at l.after c.digits_before-at.new.area c.digits_before-at.result l.invariant
    (omega arith) c.digits_before-at.ensures.value c.digits_before-at.ensures.area_after

pub returns : goal.returns
returns c =
    let s = c.args in
    let l = c.loop-i in
    line_none s.area.now s.end s.numbers.now l.area l.i l.at l.after l.invariant (omega arith)
