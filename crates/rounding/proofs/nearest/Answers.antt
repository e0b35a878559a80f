-- `nearest` meets its contract: each way out is one of the ways to round, and the next number is at most n.
use Prim.Native.Nat.{◌+◌, ◌/◌}
use mathlib.Core.Path.{sym}
use native.Mathlib.Omega.{arith}
use mir.Syntax.{w64}
use mir.Val.{Fits}
use Rattle.rounding.proofs.Ways.{none, rest_below, down, up, even, next_fits}
use Rattle.rounding.proofs.nearest.Goals as goal
use Rattle.rounding.proofs.nearest.Goals.{Else-rest-lacking}

-- a remainder that is no less than what it lacks: the next number fits
next : (c : Else-rest-lacking) → Fits w64 (c.args.n / c.args.d + 1)
next c =
    let n = c.args.n in
    let d = c.args.d in
    record { fits = omega (arith, c.ranges.n.fits, next_fits n d c.if-d-eq0.false (omega (arith, c.if-rest-lacking.false))) }

pub returns-then-d-eq0 : goal.returns-then-d-eq0
returns-then-d-eq0 c = sym (none c.args.n c.args.d c.if-d-eq0.true)

pub overflow_sub-lacking : goal.overflow_sub-lacking
overflow_sub-lacking c = omega (arith, rest_below c.args.n c.args.d c.if-d-eq0.false)

pub returns-then-rest-lacking : goal.returns-then-rest-lacking
returns-then-rest-lacking c = sym (down c.args.n c.args.d c.if-d-eq0.false (omega (arith, c.if-rest-lacking.true)))

pub overflow_add-result : goal.overflow_add-result
overflow_add-result c = next (goal.at.overflow_add-result c).Else-rest-lacking

pub returns-then-lacking-rest : goal.returns-then-lacking-rest
returns-then-lacking-rest c = sym (up c.args.n c.args.d c.if-d-eq0.false (omega (arith, c.if-lacking-rest.true)))

pub overflow_add-result-2 : goal.overflow_add-result-2
overflow_add-result-2 c = record { fits = omega (arith, (next (goal.at.overflow_add-result-2 c).Else-rest-lacking).fits) }

pub returns : goal.returns
returns c =
    sym
    (even c.args.n c.args.d c.if-d-eq0.false (omega (arith, c.if-rest-lacking.false)) (omega (arith, c.if-lacking-rest.false)))
