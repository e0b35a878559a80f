-- By cases; in the rule's numbers by `count_taken`.
use Rattle.std.proofs.Common.{ℕ, ◌+◌, ◌≡◌, sym, ap, ◌∙◌, arith}
use Rattle.std.specs.Prelude.{Option}
use Rattle.fair.specs.Choice.{count_before}
use Rattle.fair.proofs.Dispatch.{count_taken}
use Rattle.fair.proofs.counted.Goals as goal

pub returns-in-Some-clause-numbers : goal.returns-in-Some-clause-numbers
unfolding count_before
returns-in-Some-clause-numbers c = λ apart.
    let a = c.args in
    c.from.ensures ∙ sym (ap (λ (t : Option ℕ). count_before t a.passed a.efforts) c.in-Some.is)
    ∙ count_taken a.taken a.passed a.efforts apart

pub returns-in-None-clause-numbers : goal.returns-in-None-clause-numbers
unfolding count_before
returns-in-None-clause-numbers c = λ apart.
    let a = c.args in
    let both : c.from-in-None.result + c.from-in-None-2.result ≡ a.passed + a.efforts =
    omega (arith, c.from-in-None.ensures, c.from-in-None-2.ensures) in
    both ∙ sym (ap (λ (t : Option ℕ). count_before t a.passed a.efforts) c.in-None.is) ∙ count_taken a.taken a.passed a.efforts apart
