-- `Thread::admitted_if` meets its contract.
use Prim.Native.Nat.{◌≤◌}
use native.Mathlib.Omega.{arith}
use native.Mathlib.Nat.{mul-le-mul}
use mir.Syntax.{w32}
use Rattle.entry.specs.Entry.{slice_most}
use Rattle.entry.specs.Effects.{new_thread}
use Rattle.base.proofs.Signed.{small}
use Rattle.entry.proofs.Thread.admitted_if.Goals as goal
use Rattle.entry.proofs.Thread.admitted_if.Goals.{After-quantum_of}

-- the quantum is at most 1000 × 1000
most : (c : After-quantum_of) → c.quantum_of.result ≤ slice_most
most c =
    let p = c.requires c.if-accepted.true in
    omega (arith, c.quantum_of.ensures, mul-le-mul p.1 p.0)

pub overflow_cast-reservation : goal.overflow_cast-reservation
overflow_cast-reservation c = omega (arith, (c.requires c.if-accepted.true).1)

pub overflow_cast-result : goal.overflow_cast-result
overflow_cast-result c = record { sfits = omega (arith, most c) }

pub overflow_cast-result-then-accepted : goal.overflow_cast-result-then-accepted
overflow_cast-result-then-accepted c = omega (arith, (c.requires c.if-accepted.true).1)

pub returns-then-accepted : goal.returns-then-accepted
unfolding new_thread
returns-then-accepted c =
    let q = (goal.at.returns-then-accepted c).After-quantum_of in
    rw (c.if-accepted.true, c.default.ensures, small w32 c.quantum_of.result (omega (arith, most q)), c.quantum_of.ensures)

pub returns : goal.returns
returns c = rw c.if-accepted.false
