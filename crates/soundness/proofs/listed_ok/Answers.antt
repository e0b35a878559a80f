-- `listed_ok` meets its contract: each return by the tests that led there and what its callees ensure. Assumes nothing.
use Prim.Native.Nat.{◌≤◌}
use mathlib.Core.Path.{◌≡◌, sym, ◌∙◌}
use mathlib.Core.Bool.{true, ◌&&◌}
use native.Mathlib.Omega.{arith}
use lib.Dec.{leb}
use borrow.Author.Rules.{rules}
use borrow.Author.Tests.{lt-ltb, le-leb, lt-leb}
use Rattle.entry.specs.declared.Thread.{Thread}
use Rattle.entry.specs.Entry.{is_admitted, quota_ok}
use Rattle.soundness.proofs.listed_ok.Goals as goal

admitted : (t : Thread) → (t.status ≡ 0 → ⊥) → is_admitted t ≡ true
admitted t h = lt-ltb 0 t.status (omega (arith, h))

-- the status is that of an admitted thread
valid : (t : Thread) → (t.status ≡ 0 → ⊥) → t.status ≤ 2 → (is_admitted t && leb t.status 2) ≡ true
valid t h k = rw (admitted t h, le-leb t.status 2 k)

pub returns-then-status-eq0 : goal.returns-then-status-eq0
returns-then-status-eq0 c = rw c.if-status-eq0.true

pub returns-then-status-gt2 : goal.returns-then-status-gt2
returns-then-status-gt2 c = rw (admitted c.args.t c.if-status-eq0.false, lt-leb c.args.t.status 2 c.if-status-gt2.true)

-- the quota is tested on the allotment itself
pub returns-then-not-quota_ok : goal.returns-then-not-quota_ok
returns-then-not-quota_ok c =
    let quota : c.quota_ok.result ≡ quota_ok c.args.m c.args.t = search rules in
    rw (valid c.args.t c.if-status-eq0.false c.if-status-gt2.false, sym quota ∙ c.if-not-quota_ok.true)

pub returns-then-not-account_ok : goal.returns-then-not-account_ok
returns-then-not-account_ok c =
    let quota : c.quota_ok.result ≡ quota_ok c.args.m c.args.t = search rules in
    rw (
      valid c.args.t c.if-status-eq0.false c.if-status-gt2.false,
      sym quota ∙ c.if-not-quota_ok.false,
      sym c.account_ok.ensures ∙ c.if-not-account_ok.true,
    )

pub returns : goal.returns
returns c =
    let quota : c.quota_ok.result ≡ quota_ok c.args.m c.args.t = search rules in
    rw (
      valid c.args.t c.if-status-eq0.false c.if-status-gt2.false,
      sym quota ∙ c.if-not-quota_ok.false,
      sym c.account_ok.ensures ∙ c.if-not-account_ok.false,
    )
