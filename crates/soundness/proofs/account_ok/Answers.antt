-- `account_ok` meets its contract: each return by the tests that led there. Assumes nothing.
use native.Mathlib.Omega.{arith}
use borrow.Author.Tests.{le-leb, lt-leb}
use Rattle.soundness.proofs.account_ok.Goals as goal

pub returns-then-anchor-admission : goal.returns-then-anchor-admission
returns-then-anchor-admission c = rw (lt-leb _ _ c.if-anchor-admission.true)

pub returns-then-meter-anchor : goal.returns-then-meter-anchor
returns-then-meter-anchor c = rw (le-leb _ _ c.if-anchor-admission.false, lt-leb _ _ c.if-meter-anchor.true)

pub overflow_sub-meter : goal.overflow_sub-meter
overflow_sub-meter c = omega arith

pub returns-then-meter-admission : goal.returns-then-meter-admission
returns-then-meter-admission c =
    rw (le-leb _ _ c.if-anchor-admission.false, le-leb _ _ c.if-meter-anchor.false, lt-leb _ _ c.if-meter-admission.true)

pub returns : goal.returns
returns c =
    rw (le-leb _ _ c.if-anchor-admission.false, le-leb _ _ c.if-meter-anchor.false, le-leb _ _ c.if-meter-admission.false)
