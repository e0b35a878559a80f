-- `free_in` meets its contract.
use mathlib.Core.Path.{◌∙◌}
use native.Mathlib.Omega.{arith}
use lib.ListN.{get_or}
use mir.Syntax.{w16}
use mir.Val.{Fits}
use borrow.Author.Rules.{rules}
use Rattle.entry.specs.Entry.{no_group}
use Rattle.tree.proofs.Sums.{free_is, free_far, free-over}
use Rattle.tree.proofs.free_in.Goals as goal

pub returns-then-group-ge-GROUPS : goal.returns-then-group-ge-GROUPS
returns-then-group-ge-GROUPS c = (omega arith, λ s e l. free_far c.args.groups (search rules) s e c.args.group c.if-group-ge-GROUPS.true)

pub returns-then-ceiling-used : goal.returns-then-ceiling-used
returns-then-ceiling-used c =
    let b = c in
    let a = c in (
      omega arith,
      λ s e l.
          free-over a.args.groups a.args.group a.args.used c.if-ceiling-used.true
          ∙ free_is a.args.groups s e a.args.group a.args.used (l b.if-group-ge-GROUPS.false),
    )

pub returns : goal.returns
returns c =
    let b = c in
    let a = c in
    let ceiling : Fits w16 (get_or a.args.groups a.args.group no_group).ceiling = search rules in (
      omega (arith, ceiling.fits),
      λ s e l. free_is a.args.groups s e a.args.group a.args.used (l b.if-group-ge-GROUPS.false),
    )
