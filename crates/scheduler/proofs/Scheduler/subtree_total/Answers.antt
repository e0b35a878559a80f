-- `Scheduler::subtree_total` meets its contract: each way out is one case of `total_of`.
use mathlib.Core.Path.{refl, sym, ◌∙◌}
use Rattle.base.proofs.Bools.{holds}
use Rattle.rule.specs.State.{open_at}
use Rattle.rule.specs.Sound.{sound}
use Rattle.scheduler.specs.View.{view}
use Rattle.scheduler.proofs.groups.Totals.{total_unsound, total_closed, total-sum}
use Rattle.scheduler.proofs.Scheduler.subtree_total.Goals as goal

pub returns-in_default : goal.returns-in_default
returns-in_default c = total_unsound (view c.args.self) c.args.group (sym c.in_default.ensures.test)

pub returns-then-not-is_open : goal.returns-then-not-is_open
returns-then-not-is_open c =
    let s = view c.args.self in
    total_closed s c.args.group (sym c.in-Some.ensures.test) (sym (c.is_open.ensures s refl) ∙ c.if-not-is_open.true)

pub subtree-requires : goal.subtree-requires
subtree-requires c =
    let s = view c.args.self in
    record {
      state = s;
      fine = holds (sound s) (sym c.in-Some.ensures.test);
      same = refl;
      sums = c.in-Some.ensures.sums refl;
      opened = holds (open_at s c.args.group) (sym (c.is_open.ensures s refl) ∙ c.if-not-is_open.false);
    }

pub returns : goal.returns
returns c =
    let s = view c.args.self in
    let t = c.in-Some.ensures in
    let opened = sym (c.is_open.ensures s refl) ∙ c.if-not-is_open.false in
    total-sum s c.args.group (sym t.test) opened c.subtree.result (c.subtree.ensures s refl (t.sums refl))
