-- No block is refused, no read failed, and the file's start was gone back to.
use Rattle.std.proofs.Common.{ℕ, [], ◌∷◌, length, refl, sym, ap, subst, ◌∙◌}
use Rattle.text.specs.Decimal.{line_of}
use Rattle.program.specs.declared.Written.{Written}
use Rattle.program.proofs.Reading.{unfailed_is}
use Rattle.mtrsum.specs.Promise.{Summed, Concluded, refused, summed}
use Rattle.mtrsum.proofs.conclude.Goals as goal

pub returns : goal.returns
returns g c =
    let s = c.write_summary.result in
    summed s c.in_default.is (unfailed_is c.args.verdict.extent.last (sym c.error.ensures ∙ c.in_default-error.is))
    (ap (λ (w : Written). w.handed) c.default-2.ensures) refl (subst (λ (n : ℕ). Summed n s) c.count.ensures c.write_summary.ensures)

pub returns-in-Err : goal.returns-in-Err
returns-in-Err g c =
    subst (Concluded c.args.verdict) (sym c.unsummed.ensures)
    (refused c.in-Err.refusal c.in-Err.is (c.tell.ensures ∙ ap (λ (n : ℕ). length (line_of (n ∷ []))) c.into.ensures) refl)
