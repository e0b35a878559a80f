-- `open_check` meets its contract: each return by the checks before it.
use Prim.Native.Nat.{ℕ}
use mathlib.Core.Path.{◌≡◌, sym, ap, ◌∙◌}
use mathlib.Core.Bool.{true}
use native.Mathlib.Omega.{arith}
use Rattle.rule.specs.State.{State, open_at}
use Rattle.tree.proofs.Codes.{amount_checks, open_unsound, open_orphan, open_high, open_twice, open_low, open_amount}
use Rattle.tree.proofs.open_check.Goals as goal
use Rattle.tree.proofs.open_check.Goals.{Else-not-is_open, then-number-ge-GROUPS-via-then-number-ge-GROUPS}
use Rattle.tree.proofs.open_check.Goals.{then-number-ge-GROUPS-via-else-number-ge-GROUPS+then-is_open}
use Rattle.tree.proofs.open_check.Goals.{then-number-ge-GROUPS-via-else-number-ge-GROUPS+else-is_open+then-number-parent}

-- past the test of the parent
parent : (c : Else-not-is_open) (s : State) → s.groups ≡ c.args.groups → open_at s c.args.parent ≡ true
parent c s g = sym (c.is_open.ensures s g) ∙ c.if-not-is_open.false

pub returns-then-not-ok : goal.returns-then-not-ok
returns-then-not-ok c = λ s w g l. open_unsound s c.args.number c.args.parent c.args.ceiling (sym w ∙ c.if-not-ok.true)

pub returns-then-not-is_open : goal.returns-then-not-is_open
returns-then-not-is_open c = λ s w g l.
    open_orphan s c.args.number c.args.parent c.args.ceiling (sym w ∙ c.if-not-ok.false)
    (sym (c.is_open.ensures s g) ∙ c.if-not-is_open.true)

pub returns-then-number-ge-GROUPS : goal.returns-then-number-ge-GROUPS
returns-then-number-ge-GROUPS c = λ s w g l.
    let fine = sym w ∙ c.if-not-ok.false in
    let up = parent (goal.at.returns-then-number-ge-GROUPS c).Else-not-is_open s g in
    elim c.then-number-ge-GROUPS.branch [
      | then-number-ge-GROUPS-via-then-number-ge-GROUPS v ↦
          open_high s c.args.number c.args.parent c.args.ceiling fine up v.if-number-ge-GROUPS.true
      | then-number-ge-GROUPS-via-else-number-ge-GROUPS+then-is_open v ↦
          open_twice s c.args.number c.args.parent c.args.ceiling fine up v.if-number-ge-GROUPS.false
          (sym (v.is_open-else-number-ge-GROUPS.ensures s g) ∙ v.if-is_open.true)
      | then-number-ge-GROUPS-via-else-number-ge-GROUPS+else-is_open+then-number-parent v ↦
          open_low s c.args.number c.args.parent c.args.ceiling fine up v.if-number-ge-GROUPS.false
          (sym (v.is_open-else-number-ge-GROUPS.ensures s g) ∙ v.if-is_open.false) (omega (arith, v.if-number-parent.true))
    ]

pub returns : goal.returns
returns c = λ s w g l.
    c.amount_check.ensures
    ∙ ap (λ (n : ℕ). amount_checks n c.args.ceiling) (c.free_in.ensures.1 s g (l c.if-not-ok.false))
    ∙ open_amount s c.args.number c.args.parent c.args.ceiling (sym w ∙ c.if-not-ok.false)
    (parent (goal.at.returns c).Else-not-is_open s g)
    c.if-number-ge-GROUPS.false
    (sym (c.is_open-else-number-ge-GROUPS.ensures s g) ∙ c.if-is_open.false) (omega arith)
