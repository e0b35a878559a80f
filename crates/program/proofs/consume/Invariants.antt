-- What is promised of the state holds after the bytes judged so far, and more are needed; every piece so far was full.
use Rattle.std.proofs.Common.{ℕ, ◌≡◌, ◌+◌, ◌*◌, false}
use Rattle.program.specs.Pieces.{judged_of}
use Rattle.program.proofs.consume.Given as goal

abbrev pub invariant-loop : goal.invariant-loop
invariant-loop g l =
    g.C.Consumer.Sofar l.by l.state l.read × (g.C.Consumer.is_enough l.by l.state ≡ false) × (l.read ≡ 16384 * l.counter)
    × ((full : ℕ) × (l.read ≡ 16384 * full + judged_of l.last))
