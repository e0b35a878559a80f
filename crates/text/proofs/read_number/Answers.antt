-- `text::read_number` meets its contract: before each turn the bytes read are digits and spell n. Assumes nothing.
use mathlib.Core.Path.{◌≡◌, sym, ◌∙◌}
use lib.ListN.{length}
use Rattle.std.proofs.Common.{rules}
use native.Mathlib.Omega.{arith}
use Rattle.text.proofs.Reading.{no_length, no_digit, room, more, whole}
use Rattle.text.proofs.read_number.Goals as goal
use Rattle.text.proofs.read_number.Goals.{then-is_empty-via-then-is_empty, then-is_empty-via-else-is_empty+then-text-gt19}

pub returns-then-is_empty : goal.returns-then-is_empty
returns-then-is_empty c =
    elim c.then-is_empty.branch [
      | then-is_empty-via-then-is_empty w ↦
          let e : length c.args.text.now ≡ 0 = search rules in
          no_length c.args.text.now (λ h. absurd (omega arith))
      | then-is_empty-via-else-is_empty+then-text-gt19 w ↦ no_length c.args.text.now (λ h. omega arith)
    ]

pub returns-then-not-is_ascii_digit : goal.returns-then-not-is_ascii_digit
returns-then-not-is_ascii_digit c =
    no_digit c.args.text.now c.loop-b.n c.loop-b.b-index c.loop-b.invariant (omega arith) (sym c.is_ascii_digit.ensures.value
    ∙ c.if-not-is_ascii_digit.true)

pub overflow_mul-n : goal.overflow_mul-n
overflow_mul-n c = omega (arith, room c.args.text.now c.loop-b.n c.loop-b.b-index c.loop-b.invariant (omega arith))

pub overflow_add-n : goal.overflow_add-n
overflow_add-n c =
    omega (
      arith,
      room c.args.text.now c.loop-b.n c.loop-b.b-index c.loop-b.invariant
          (omega arith),
      c.if-not-is_ascii_digit.ensures.cases.1,
    )

pub loop-b-preserved : goal.loop-b-preserved
loop-b-preserved c =
    rw c.from.ensures (more c.args.text.now c.loop-b.n c.loop-b.b-index c.loop-b.invariant (omega arith)
    c.if-not-is_ascii_digit.ensures.cases.0 c.if-not-is_ascii_digit.ensures.cases.1)

pub returns : goal.returns
returns c = whole c.args.text.now c.loop-b.n c.loop-b.b-index c.loop-b.invariant (omega arith)
