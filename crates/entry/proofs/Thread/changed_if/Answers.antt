-- `changed_if` meets its contract: what is cut fits the field that held it.
use Prim.Native.Nat.{◌*◌, ◌%◌}
use mathlib.Core.Path.{◌≡◌, sym, ap, subst, ◌∙◌}
use native.Mathlib.Omega.{arith}
use lib.IntN.{ℤ}
use mir.Syntax.{w32, w64}
use mir.Val.{SFits, to_z, of_z}
use mir.Facts.{to_z-of_z}
use borrow.Author.Rules.{rules}
use Rattle.quota.specs.Quota.{cut_to}
use Rattle.quota.proofs.Word.{cut_fits}
use Rattle.entry.specs.Effects.{changed_thread}
use Rattle.entry.proofs.Thread.changed_if.Goals as goal

-- what a number of 64 bits that fits 32 is, as it is handed over and as it is stored
read : (x z : ℤ) → SFits w32 z → x ≡ z → to_z w64 (of_z w64 x) ≡ z
read x z fits e = ap (λ (y : ℤ). to_z w64 (of_z w64 y)) e ∙ to_z-of_z {w = w64} (record { sfits = omega (arith, fits.sfits) })

kept : (x z : ℤ) → SFits w32 z → x ≡ z → to_z w32 (of_z w32 (to_z w64 (of_z w64 x))) ≡ z
kept x z fits e = ap (λ (y : ℤ). to_z w32 (of_z w32 y)) (read x z fits e) ∙ to_z-of_z fits

pub overflow_cast-allotment : goal.overflow_cast-allotment
overflow_cast-allotment c =
    let held : SFits w32 c.args.self.allotment = search rules in
    let z = cut_to (c.args.reservation % 65536 * c.args.thousandth) c.args.self.allotment in
    let fits : SFits w32 z = cut_fits c.args.self.allotment (c.args.reservation % 65536 * c.args.thousandth) held in
    let made : c.cut-allotment.result ≡ z = search rules in
    subst (SFits w32) (sym (read c.cut-allotment.result z fits made)) fits

pub returns-then-accepted : goal.returns-then-accepted
unfolding changed_thread
returns-then-accepted c =
    let held : SFits w32 c.args.self.allotment = search rules in
    let z = cut_to (c.args.reservation % 65536 * c.args.thousandth) c.args.self.allotment in
    let fits : SFits w32 z = cut_fits c.args.self.allotment (c.args.reservation % 65536 * c.args.thousandth) held in
    let made : c.cut-allotment.result ≡ z = search rules in
    rw (c.if-accepted.true, kept c.cut-allotment.result z fits made)
