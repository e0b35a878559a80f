-- `close_check` meets its contract: each return by the checks before it.
use mathlib.Core.Path.{◌≡◌, sym, ◌∙◌}
use mathlib.Core.Bool.{true}
use native.Mathlib.Omega.{arith}
use Rattle.base.proofs.Bools.{holds}
use Rattle.rule.specs.State.{State, open_at}
use Rattle.rule.proofs.Facts.{open_small}
use Rattle.tree.proofs.Codes.{close_unsound, close_root, close_closed, close_used, close_free}
use Rattle.tree.proofs.close_check.Goals as goal
use Rattle.tree.proofs.close_check.Goals.{Else-not-is_open, then-number-eq0-via-then-number-eq0}
use Rattle.tree.proofs.close_check.Goals.{then-number-eq0-via-else-number-eq0+then-not-is_open}

-- past the test of the group
opened : (c : Else-not-is_open) (s : State) → s.groups ≡ c.args.groups → open_at s c.args.number ≡ true
opened c s g = sym (c.is_open.ensures s g) ∙ c.if-not-is_open.false

pub returns-then-not-ok : goal.returns-then-not-ok
returns-then-not-ok c = λ s w g l. close_unsound s c.args.number (sym w ∙ c.if-not-ok.true)

pub returns-then-number-eq0 : goal.returns-then-number-eq0
returns-then-number-eq0 c = λ s w g l.
    elim c.then-number-eq0.branch [
      | then-number-eq0-via-then-number-eq0 v ↦
          close_root s c.args.number (sym w ∙ c.if-not-ok.false) (omega (arith, v.if-number-eq0.true))
      | then-number-eq0-via-else-number-eq0+then-not-is_open v ↦
          close_closed s c.args.number (sym w ∙ c.if-not-ok.false) v.if-number-eq0.false
          (sym (v.is_open.ensures s g) ∙ v.if-not-is_open.true)
    ]

pub returns-then-used-ne0 : goal.returns-then-used-ne0
returns-then-used-ne0 c = λ s w g l.
    let o = opened (goal.at.returns-then-used-ne0 c).Else-not-is_open s g in
    let q = l c.if-not-ok.false (open_small s c.args.number (holds (open_at s c.args.number) o)) in
    close_used s c.args.number (sym w ∙ c.if-not-ok.false) c.if-number-eq0.false o (λ z. omega (arith, q, c.if-used-ne0.true))

pub returns : goal.returns
returns c = λ s w g l.
    let o = opened (goal.at.returns c).Else-not-is_open s g in
    let q = l c.if-not-ok.false (open_small s c.args.number (holds (open_at s c.args.number) o)) in
    close_free s c.args.number (sym w ∙ c.if-not-ok.false) c.if-number-eq0.false o (omega (arith, q, c.if-used-ne0.false))
