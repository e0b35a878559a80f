-- An argument that is missing or too long is none, as the empty text is.
use Rattle.std.proofs.Common.{[], arith, rules}
use Rattle.text.specs.Decimal.{number_of}
use Rattle.program.proofs.number.Goals as goal

pub returns-in_err-n : goal.returns-in_err-n
unfolding number_of
returns-in_err-n g c = record { text = []; few = omega arith; spelt = search rules }
