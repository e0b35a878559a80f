-- The line of the refusal, or that of 0 and the ticks.
use Rattle.std.proofs.Common.{◌∷◌, [], sym, subst, ◌∙◌, arith, rules}
use Rattle.text.specs.Decimal.{lines_of}
use Rattle.text.specs.Inner.{Wrote}
use Rattle.summary.specs.Questions.{Answer}
use Rattle.mtrask.specs.Promise.{numbers_of}
use Rattle.mtrask.proofs.Telling.{put_refused, put_told}
use Rattle.mtrask.proofs.put_answer.Goals as goal

pub returns-in-Ok : goal.returns-in-Ok
returns-in-Ok c =
    let o = c.args.out.now in
    subst (λ (a : Answer). Wrote o c.args.at (lines_of (numbers_of a ∷ [])) 42 c.put_line.new.area c.put_line.result) (sym c.in-Ok.is)
    (put_told o c.args.at c.put_line.new.area c.put_line.result c.requires c.in-Ok.ticks (search rules) c.put_line.ensures.value
    c.put_line.ensures.area_after)

pub returns-in-Err : goal.returns-in-Err
returns-in-Err c =
    let o = c.args.out.now in
    let p = c.put_line-in-Err in
    subst (λ (a : Answer). Wrote o c.args.at (lines_of (numbers_of a ∷ [])) 42 p.new.area p.result) (sym c.in-Err.is)
    (put_refused o c.args.at p.new.area p.result c.requires c.in-Err.why c.from-in-Err.result
    (c.from-in-Err.ensures ∙ c.from.ensures) (omega (arith, c.from.ensures)) p.ensures.value p.ensures.area_after)
