-- Each turn moves one entry to the front and the first one behind it.
use Rattle.std.proofs.Common.{◌≡◌, ℕ, ◌+◌, ◌-◌, List, length, ap, sym, ◌∙◌, arith}
use lib.ListN.{get_or, set}
use borrow.Author.Tests.{eqb-false}
use Rattle.std.proofs.lemmas.List.{set-get_or}
use Rattle.order.proofs.Queue.{shifted, shift_none, shift_on, shift_first}
use Rattle.order.proofs.turn.Goals as goal

pub loop-i-init : goal.loop-i-init
loop-i-init c =
    let l = c.args.list.now in
    sym (set-get_or l 0 0) ∙ ap (λ (m : List ℕ). set m 0 (get_or l 0 0)) (shift_none l 0)

pub loop-i-preserved : goal.loop-i-preserved
loop-i-preserved c =
    let l = c.args.list.now in
    let i = c.loop-i.i in
    let first = get_or l 0 0 in
    ap (λ (m : List ℕ). set (set m i (get_or m (i + 1) 0)) (i + 1) first) c.loop-i.invariant
    ∙ shift_on l i first (omega (arith, c.loop-i-test.true))

pub returns : goal.returns
returns c =
    let l = c.args.list.now in
    let last : ℕ = length l - 1 in
    let i : c.loop-i.i ≡ last = omega (arith, c.loop-i-test.false, c.loop-i.auto.i-end) in
    c.loop-i.invariant
    ∙ ap (λ (k : ℕ). set (shifted l 0 k) k (get_or l 0 0)) i
    ∙ shift_first l last (omega (arith, eqb-false (length l) 0 (sym c.is_empty.ensures ∙ c.if-is_empty.false)))
