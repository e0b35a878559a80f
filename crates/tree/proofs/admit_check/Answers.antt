-- `admit_check` meets its contract: each return by the checks before it.
use Prim.Native.Nat.{ℕ}
use mathlib.Core.Path.{sym, ap, ◌∙◌}
use native.Mathlib.Omega.{arith}
use Rattle.tree.proofs.Codes.{amount_checks, admit_unsound, admit_high, admit_twice, admit_nowhere, admit_amount}
use Rattle.tree.proofs.admit_check.Goals as goal

pub returns-then-not-ok : goal.returns-then-not-ok
returns-then-not-ok c = λ s w g l q. admit_unsound s c.args.number c.args.group c.args.reservation (sym w ∙ c.if-not-ok.true)

pub returns-then-number : goal.returns-then-number
returns-then-number c = λ s w g l q.
    admit_high s c.args.number c.args.group c.args.reservation (sym w ∙ c.if-not-ok.false) c.if-number.true

pub returns-then-status-gt0 : goal.returns-then-status-gt0
returns-then-status-gt0 c = λ s w g l q.
    admit_twice s c.args.number c.args.group c.args.reservation (sym w ∙ c.if-not-ok.false) c.if-number.false
    (omega (arith, q c.if-number.false, c.if-status-gt0.true))

pub returns-then-not-is_open : goal.returns-then-not-is_open
returns-then-not-is_open c = λ s w g l q.
    admit_nowhere s c.args.number c.args.group c.args.reservation (sym w ∙ c.if-not-ok.false) c.if-number.false
    (omega (arith, q c.if-number.false, c.if-status-gt0.false))
    (sym (c.is_open.ensures s g) ∙ c.if-not-is_open.true)

pub returns : goal.returns
returns c = λ s w g l q.
    c.amount_check.ensures
    ∙ ap (λ (n : ℕ). amount_checks n c.args.reservation) (c.free_in.ensures.1 s g (l c.if-not-ok.false))
    ∙ admit_amount s c.args.number c.args.group c.args.reservation (sym w ∙ c.if-not-ok.false) c.if-number.false
    (omega (arith, q c.if-number.false, c.if-status-gt0.false))
    (sym (c.is_open.ensures s g) ∙ c.if-not-is_open.false)
