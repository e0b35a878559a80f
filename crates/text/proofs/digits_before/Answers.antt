-- `text::digits_before` meets its contract: before each turn the digits of the rest are left to write. Assumes nothing.
use Prim.Native.Nat.{◌-◌, ◌%◌, ◌/◌, ◌+◌}
use mathlib.Core.Path.{refl}
use mathlib.Core.List.{[]}
use lib.ListN.{length, set}
use native.Mathlib.Omega.{arith}
use Rattle.text.specs.Decimal.{digits}
use Rattle.text.proofs.Area.{left_all, left_byte, left-none}
use Rattle.text.proofs.Digits.{digits_small, digits_more, digits_some}
use Rattle.text.proofs.digits_before.Goals as goal

pub loop-rest-init : goal.loop-rest-init
loop-rest-init c = left_all c.args.area.now c.args.end (digits c.args.n) (omega arith) (omega arith)

pub overflow_sub-at : goal.overflow_sub-at
overflow_sub-at c =
    let l = c.loop-rest in
    omega (arith, l.invariant.ends, l.invariant.within, l.invariant.same, digits_some l.rest)

pub bounds-area-at : goal.bounds-area-at
bounds-area-at c =
    let l = c.loop-rest in
    omega (arith, l.invariant.ends, l.invariant.within, l.invariant.same, digits_some l.rest)

pub loop-rest-smaller : goal.loop-rest-smaller
loop-rest-smaller c = omega arith

pub loop-rest-preserved : goal.loop-rest-preserved
loop-rest-preserved c =
    let l = c in
    let s = l.args in
    left_byte s.area.now (s.end - length (digits s.n)) (digits s.n) l.loop-rest.area l.loop-rest.at (digits l.loop-rest.rest)
    (digits (l.loop-rest.rest / 10)) (48 + l.loop-rest.rest % 10) (l.loop-rest.at - 1) l.loop-rest.invariant
    (digits_more l.loop-rest.rest (omega arith)) refl

pub overflow_sub-at-2 : goal.overflow_sub-at-2
overflow_sub-at-2 c =
    let l = c.loop-rest in
    omega (arith, l.invariant.ends, l.invariant.within, l.invariant.same, digits_some l.rest)

pub bounds-area-at-2 : goal.bounds-area-at-2
bounds-area-at-2 c =
    let l = c.loop-rest in
    omega (arith, l.invariant.ends, l.invariant.within, l.invariant.same, digits_some l.rest)

pub shape_of-area : goal.shape_of-area
shape_of-area c =
    let l = c in
    let s = l.args in
    let w = left_byte s.area.now (s.end - length (digits s.n)) (digits s.n) l.loop-rest.area l.loop-rest.at
    (digits l.loop-rest.rest) [] (48 + l.loop-rest.rest) (l.loop-rest.at - 1) l.loop-rest.invariant
    (digits_small l.loop-rest.rest (omega arith)) refl in
    w.same

pub returns : goal.returns
returns c =
    let l = c in
    let s = l.args in
    let w = left_byte s.area.now (s.end - length (digits s.n)) (digits s.n) l.loop-rest.area l.loop-rest.at
    (digits l.loop-rest.rest) [] (48 + l.loop-rest.rest) (l.loop-rest.at - 1) l.loop-rest.invariant
    (digits_small l.loop-rest.rest (omega arith)) refl in record {
      value = omega (arith, w.ends);
      area_after = left-none s.area.now (s.end - length (digits s.n)) (digits s.n)
          (set l.loop-rest.area (l.loop-rest.at - 1) (48 + l.loop-rest.rest)) (l.loop-rest.at - 1) w;
    }
