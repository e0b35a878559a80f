-- `renewed` meets its contract: what is used up is no more than the ticks used.
use mathlib.Core.Path.{◌≡◌, sym, ap, ◌∙◌}
use Prim.Native.Nat.{ℕ}
use lib.Dec.{leb}
use borrow.Author.Rules.{rules}
use Rattle.quota.specs.Quota.{nat_of}
use Rattle.entry.specs.Effects.{renewed}
use Rattle.entry.proofs.Debt.{used_up_lem}
use Rattle.entry.proofs.Thread.renewed.Goals as goal

pub returns-else-names : goal.returns-else-names
unfolding renewed
returns-else-names c =
    let a = c.args in
    let e : c.number_of.result ≡ nat_of a.self.allotment = search rules in
    rw (sym c.names.ensures ∙ c.if-names.false)
    (ap (λ (n : ℕ). leb n a.report.used) (c.from.ensures ∙ e) ∙ sym (used_up_lem a.report.used a.self))
