-- `mtr_by_value_subtree` meets its contract: each case of the answer has its numbers.
use Prim.Native.Nat.{ℕ}
use mathlib.Core.Path.{sym, ap, ◌∙◌}
use Rattle.abi.specs.declared.calls.Total.{Total}
use Rattle.abi.specs.Calls.{total_out}
use Rattle.abi.proofs.calls.mtr_by_value_subtree.Goals as goal

pub returns-in-Ok : goal.returns-in-Ok
unfolding total_out
returns-in-Ok c = ap total_out (sym c.in-Ok.is ∙ c.subtree_total.ensures)

pub returns-in-Err : goal.returns-in-Err
unfolding total_out
returns-in-Err c =
    let refused : ℕ → Total = λ k. record { answer = k; thousandths = 0 } in
    ap refused c.into.ensures ∙ ap total_out (sym c.in-Err.is ∙ c.subtree_total.ensures)
