-- `subtree` meets its contract and ends.
use Prim.Native.Nat.{ℕ, ◌+◌}
use native.Mathlib.Omega.{arith}
use lib.ListN.{get_or}
use mathlib.Core.Path.{◌≡◌, sym, ap, subst, ◌∙◌}
use mathlib.Core.Bool.{Bool}
use Rattle.entry.specs.declared.Group.{Group}
use Rattle.rule.proofs.Facts.{open_small}
use Rattle.entry.specs.Entry.{no_group}
use Rattle.tree.proofs.Sums.{under_of}
use Rattle.tree.proofs.Tree.{Below, below_none, below_add, below_skip, below-child, below_most, below_end}
use Rattle.tree.proofs.+subtree.Goals as goal
use Rattle.tree.proofs.+subtree.Goals.{then-under, else-under}

-- what `under` tells, of the group that is asked for
told : {b : Bool} (x : Group) (g p : ℕ) → under_of x p ≡ b → p ≡ g → under_of x g ≡ b
told x g p q e = ap (under_of x) (sym e) ∙ q

pub offset_bounds-reserved-at : goal.offset_bounds-reserved-at
offset_bounds-reserved-at t c = record { fits = omega (arith, open_small c.requires.state c.args.group c.requires.opened) }

pub bounds-reserved-at : goal.bounds-reserved-at
bounds-reserved-at t c = open_small c.requires.state c.args.group c.requires.opened

pub overflow_step-child : goal.overflow_step-child
overflow_step-child t c = record { fits = omega (arith, open_small c.requires.state c.args.group c.requires.opened) }

pub loop-child-init : goal.loop-child-init
loop-child-init t c =
    below_none c.args.groups c.args.reserved c.args.group (open_small c.requires.state c.args.group c.requires.opened)

pub subtree-total-requires : goal.subtree-total-requires
subtree-total-requires t c =
    let l = c.loop-child in
    let x = get_or c.args.groups l.child no_group in
    let u = told x c.args.group _ (sym c.under.ensures ∙ c.if-under.true) (omega arith) in (
      omega (arith, c.decreases, l.invariant.least, c.loop-child-test.true),
      below-child c.args.groups c.args.reserved c.args.group l.child l.total l.invariant c.loop-child-test.true c.requires u,
    )

pub overflow_add-total : goal.overflow_add-total
overflow_add-total t c =
    let l = c.loop-child in
    let x = get_or c.args.groups l.child no_group in
    let u = told x c.args.group _ (sym c.under.ensures ∙ c.if-under.true) (omega arith) in
    record {
      fits = omega (
        arith,
        below_most c.args.groups c.args.reserved c.args.group l.child l.total l.invariant c.loop-child-test.true c.requires
            c.subtree-total.result u c.subtree-total.ensures,
      );
    }

pub loop-child-preserved : goal.loop-child-preserved
loop-child-preserved t c =
    let l = c.loop-child in
    let x = get_or c.args.groups l.child no_group in
    let next : ℕ → Type 0 = Below c.args.groups c.args.reserved c.args.group (l.child + 1) in
    elim c.if-under.branch [
      | then-under w ↦
          let u = told x c.args.group _ (sym c.under.ensures ∙ w.if-under.true) (omega arith) in
          subst next (sym w.total-is)
          (below_add c.args.groups c.args.reserved c.args.group l.child l.total l.invariant c.loop-child-test.true
          w.subtree-total.result u w.subtree-total.ensures)
      | else-under w ↦
          let u = told x c.args.group _ (sym c.under.ensures ∙ w.if-under.false) (omega arith) in
          subst next (sym w.total-is)
          (below_skip c.args.groups c.args.reserved c.args.group l.child l.total l.invariant c.loop-child-test.true u)
    ]

pub returns : goal.returns
returns t c =
    below_end c.args.groups c.args.reserved c.args.group c.loop-child.child c.loop-child.total c.loop-child.invariant
    c.loop-child-test.false
