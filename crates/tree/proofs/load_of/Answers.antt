-- `load_of` meets its contract.
use native.Mathlib.Omega.{arith}
use mir.Syntax.{w32}
use mir.Val.{Fits}
use lib.ListN.{get_or}
use borrow.Author.Rules.{rules}
use Rattle.tree.proofs.Sums.{load_is}
use Rattle.tree.proofs.load_of.Goals as goal

-- no group has this number
pub returns-then-group-ge-GROUPS : goal.returns-then-group-ge-GROUPS
returns-then-group-ge-GROUPS c = λ s e t l. absurd (omega arith)

pub overflow_add-result : goal.overflow_add-result
overflow_add-result c =
    let a = c in
    let own : Fits w32 (get_or a.args.reserved a.args.group 0) = search rules in
    omega (arith, c.ceilings_in.ensures.0, own.fits)

pub returns : goal.returns
returns c = λ s e t l.
    let a = c in
    load_is a.args.reserved s t a.args.group c.ceilings_in.result l (c.ceilings_in.ensures.1 s e)
