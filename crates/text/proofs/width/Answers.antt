-- `text::width` meets its contract: a number from 10 ^ k on and below 10 ^ (k + 1) has k + 1 digits. Assumes nothing.
use native.Mathlib.Omega.{arith}
use Rattle.text.proofs.Digits.{small_length, digits_log}
use Rattle.text.proofs.width.Goals as goal

pub returns-in-Some : goal.returns-in-Some
returns-in-Some c = digits_log c.args.n c.in-Some.k c.in-Some.ensures.power_le c.in-Some.ensures.next_power_gt

pub returns-in-None : goal.returns-in-None
returns-in-None c = omega (arith, c.in-None.ensures.none, small_length c.args.n)
