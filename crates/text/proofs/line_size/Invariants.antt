use Rattle.text.proofs.Lines.{Sized}
use Rattle.text.proofs.line_size.Given as goal

abbrev pub invariant-loop-n : goal.invariant-loop-n
invariant-loop-n l = Sized l.numbers l.most l.size l.n-index
