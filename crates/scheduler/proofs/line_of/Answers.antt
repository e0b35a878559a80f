-- `line_of` meets its contract: an answer's numbers are those of its outcome, or of its refusal's number.
use Prim.Native.Nat.{ℕ}
use mathlib.Core.Path.{sym, ap, ◌∙◌}
use Rattle.std.specs.Prelude.{Err}
use Rattle.answers.specs.Numbers.{Answer}
use Rattle.rule.specs.Rule.{numbered_reply, numbers_of}
use Rattle.scheduler.specs.Batch.{line_in}
use Rattle.scheduler.proofs.line_of.Goals as goal

pub returns-in-Ok : goal.returns-in-Ok
returns-in-Ok c = λ s. c.line_numbered.ensures s ∙ ap (λ (a : Answer). line_in (numbers_of a s)) (sym c.in-Ok.is)

pub returns-in-Err : goal.returns-in-Err
returns-in-Err c = λ s.
    c.line_numbered-in-Err.ensures s
    ∙ ap (λ (k : ℕ). line_in (numbered_reply (Err k) s)) c.into.ensures
    ∙ ap (λ (a : Answer). line_in (numbers_of a s)) (sym c.in-Err.is)
