-- `unlisted_ok` meets its contract: each return by the tests that led there and what its callees ensure.
use mathlib.Core.Path.{sym, ◌∙◌}
use native.Mathlib.Omega.{arith}
use borrow.Author.Tests.{le-leb, lt-leb, eq-eqb, ne_eqb}
use Rattle.soundness.proofs.unlisted_ok.Goals as goal

pub returns-then-status-eq0 : goal.returns-then-status-eq0
returns-then-status-eq0 c = rw c.if-status-eq0.true

pub returns-then-status-gt2 : goal.returns-then-status-gt2
returns-then-status-gt2 c =
    let x = c.args.t in
    rw (ne_eqb x.status 0 c.if-status-eq0.false, lt-leb x.status 2 c.if-status-gt2.true)

pub returns-then-reservation-gt0 : goal.returns-then-reservation-gt0
returns-then-reservation-gt0 c =
    let x = c.args.t in
    rw (
      ne_eqb x.status 0 c.if-status-eq0.false,
      le-leb x.status 2 c.if-status-gt2.false,
      ne_eqb x.reservation 0 (λ z. omega (arith, c.if-reservation-gt0.true)),
    )

pub returns-then-not-account_ok : goal.returns-then-not-account_ok
returns-then-not-account_ok c =
    let x = c.args.t in
    rw (
      ne_eqb x.status 0 c.if-status-eq0.false,
      le-leb x.status 2 c.if-status-gt2.false,
      eq-eqb x.reservation 0 (omega (arith, c.if-reservation-gt0.false)),
      sym c.account_ok.ensures ∙ c.if-not-account_ok.true,
    )

pub returns : goal.returns
returns c =
    let x = c.args.t in
    rw (
      ne_eqb x.status 0 c.if-status-eq0.false,
      le-leb x.status 2 c.if-status-gt2.false,
      eq-eqb x.reservation 0 (omega (arith, c.if-reservation-gt0.false)),
      sym c.account_ok.ensures ∙ c.if-not-account_ok.false,
      c.tag_ok.ensures,
    )
