use Rattle.text.proofs.Lines.{Line}
use Rattle.text.proofs.line_before.Given as goal

abbrev pub invariant-loop-i : goal.invariant-loop-i
invariant-loop-i l = Line l.initial.area l.end l.numbers l.area l.i l.at l.after
