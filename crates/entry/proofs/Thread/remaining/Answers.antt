-- `remaining` meets its contract: the allotment after a report fits its field.
use Prim.Native.Nat.{◌*◌}
use mathlib.Core.Path.{◌≡◌, sym, ap, subst, ◌∙◌}
use native.Mathlib.Omega.{arith}
use lib.Dec.{eqb}
use lib.IntN.{ℤ}
use mir.Syntax.{w32, w64}
use mir.Val.{SFits, to_z, of_z}
use mir.Facts.{to_z-of_z}
use borrow.Author.Rules.{rules}
use Rattle.quota.specs.Quota.{after_report}
use Rattle.entry.specs.Effects.{allotment_after}
use Rattle.entry.proofs.Word.{report_fits}
use Rattle.entry.proofs.Thread.remaining.Goals as goal
use Rattle.entry.proofs.Thread.remaining.Goals.{After-after}

module _ (c : After-after) where
  -- the allotment after a report
  abbrev left : ℤ
  left = after_report c.args.self.allotment (c.args.self.reservation * c.args.thousandth) (eqb
      c.args.report.reason 2) c.args.report.used

  made : c.after.result ≡ left
  made = search rules

  fits : SFits w32 left
  fits = report_fits c.args.thousandth c.args.report.reason c.args.report.used c.args.self c.requires

  -- as it is handed over
  read : to_z w64 (of_z w64 c.after.result) ≡ left
  read = ap (λ (z : ℤ). to_z w64 (of_z w64 z)) made ∙ to_z-of_z {w = w64} (record { sfits = omega (arith, fits.sfits) })

pub overflow_cast-result : goal.overflow_cast-result
overflow_cast-result c = subst (SFits w32) (sym (read c)) (fits c)

pub returns : goal.returns
unfolding allotment_after
returns c = ap (λ (z : ℤ). to_z w32 (of_z w32 z)) (read c) ∙ to_z-of_z (fits c)
