-- `text::put_number` meets its contract. Assumes nothing.
use Prim.Native.Nat.{◌+◌, ◌-◌}
use mathlib.Core.Path.{◌≡◌, sym, ap, ◌∙◌}
use lib.ListN.{length}
use native.Mathlib.Omega.{arith}
use Rattle.text.specs.Decimal.{digits, over}
use Rattle.text.proofs.Area.{written_over, next-over, written_none, next-none}
use Rattle.text.proofs.Digits.{digits_some}
use Rattle.text.proofs.put_number.Goals as goal

pub returns-then-saturating_sub-size : goal.returns-then-saturating_sub-size
returns-then-saturating_sub-size c =
    let s = c.args in record {
      value = sym (next-none s.area.now s.at (digits s.n) (omega arith));
      area_after = sym (written_none s.area.now s.at (digits s.n) (omega arith));
    }

pub digits_before-requires : goal.digits_before-requires
digits_before-requires c =
    let s = c.args in record {
      n_len_bound = omega (arith, digits_some s.n);
      end_in_bounds = omega (arith, digits_some s.n);
    }

pub returns : goal.returns
returns c =
    let w = c in
    let s = w.args in
    let e : w.width-size.result ≡ length (digits s.n) = omega arith in
    let k : s.at + w.width-size.result - length (digits s.n) ≡ s.at = omega arith in record {
      value = omega (arith, next-over s.area.now s.at (digits s.n) (omega arith));
      area_after = c.digits_before.ensures.area_after ∙ ap (λ q. over s.area.now q (digits s.n)) k
          ∙ sym (written_over s.area.now s.at (digits s.n) (omega arith));
    }
