-- `text::put_line` meets its contract. Assumes nothing.
use Prim.Native.Nat.{ℕ, ◌+◌, ◌-◌, ◌≤◌}
use mathlib.Core.Path.{◌≡◌, sym, ap, ◌∙◌}
use mathlib.Core.List.{[], ◌∷◌}
use lib.ListN.{length}
use native.Mathlib.Omega.{arith}
use Rattle.text.specs.Decimal.{line_of, over, written, next}
use Rattle.text.proofs.Area.{written_over, next-over, written_none, next-none}
use Rattle.text.proofs.Lines.{line_empty, line_some, size_none, size_some}
use Rattle.std.proofs.Common.{rules}
use Rattle.text.proofs.put_line.Goals as goal

pub returns-then-is_empty : goal.returns-then-is_empty
returns-then-is_empty c =
    let s = c.args in
    let z : length s.numbers.now ≡ 0 = search rules in
    let e : 10 ∷ [] ≡ line_of s.numbers.now = line_empty s.numbers.now z in record {
      value = c.put_text.ensures.value ∙ ap (next s.area.now s.at) e;
      area_after = c.put_text.ensures.area_after ∙ ap (written s.area.now s.at) e;
    }

pub returns-in_default : goal.returns-in_default
returns-in_default c =
    let s = c.args in
    let h = size_none s.numbers.now c.saturating_sub.result (sym c.in_default.is ∙ c.line_size.ensures) in record {
      value = sym (next-none s.area.now s.at (line_of s.numbers.now) (omega arith));
      area_after = sym (written_none s.area.now s.at (line_of s.numbers.now) (omega arith));
    }

pub overflow_add-end : goal.overflow_add-end
overflow_add-end c =
    let h = size_some c.args.numbers.now c.saturating_sub.result c.in-Some.size (sym c.in-Some.is ∙ c.line_size.ensures) in
    omega (arith, h.0, h.1)

pub line_before-requires : goal.line_before-requires
line_before-requires c =
    let h = size_some c.args.numbers.now c.saturating_sub.result c.in-Some.size (sym c.in-Some.is ∙ c.line_size.ensures) in record {
      numbers_nonzero = search rules;
      numbers_len_bound = omega (arith, h.0, h.1);
      end_in_bounds = omega (arith, h.0, h.1, line_some c.args.numbers.now);
    }

pub returns : goal.returns
returns c =
    let s = c.args in
    let h = size_some s.numbers.now c.saturating_sub.result c.in-Some.size (sym c.in-Some.is ∙ c.line_size.ensures) in
    let n : ℕ = length (line_of s.numbers.now) in
    let e : c.in-Some.size ≡ n = h.0 in
    let m : n ≤ c.saturating_sub.result = h.1 in
    let k : s.at + c.in-Some.size - n ≡ s.at = omega arith in record {
      value = omega (arith, next-over s.area.now s.at (line_of s.numbers.now) (omega arith));
      area_after = c.line_before.ensures ∙ ap (λ q. over s.area.now q (line_of s.numbers.now)) k
          ∙ sym (written_over s.area.now s.at (line_of s.numbers.now) (omega arith));
    }
