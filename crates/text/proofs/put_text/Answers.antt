-- `text::put_text` meets its contract. Assumes nothing.
use mathlib.Core.Path.{◌≡◌, sym, ap, ◌∙◌}
use Prim.Native.Nat.{◌+◌, ◌-◌}
use native.Mathlib.Omega.{arith}
use borrow.Rule.Slice.PartMut.{put_mid}
use lib.ListN.{length}
use Rattle.text.proofs.Area.{over_mid, written_over, next-over, written_none, next-none, written_empty}
use Rattle.std.proofs.Common.{rules}
use Rattle.text.proofs.put_text.Goals as goal
use Rattle.text.proofs.put_text.Goals.{then-is_empty-via-then-is_empty, then-is_empty-via-else-is_empty+then-saturating_sub-text}

pub returns-then-is_empty : goal.returns-then-is_empty
returns-then-is_empty c =
    let s = c.args in
    elim c.then-is_empty.branch [
      | then-is_empty-via-then-is_empty w ↦
          let e : length s.text.now ≡ 0 = search rules in record {
            value = omega (arith, next-over s.area.now s.at s.text.now (omega arith));
            area_after = sym (written_empty s.area.now s.at s.text.now e);
          }
      | then-is_empty-via-else-is_empty+then-saturating_sub-text w ↦ record {
        value = sym (next-none s.area.now s.at s.text.now (omega arith));
        area_after = sym (written_none s.area.now s.at s.text.now (omega arith));
      }
    ]

pub returns : goal.returns
returns c =
    let s = c.args in record {
      value = sym (next-over s.area.now s.at s.text.now (omega arith));
      area_after = ap (put_mid s.at (s.at + length s.text.now - s.at) s.area.now) c.copy_from_slice.ensures.after
          ∙ over_mid s.area.now s.at s.text.now ∙ sym (written_over s.area.now s.at s.text.now (omega arith));
    }
