use Rattle.soundness.proofs.Threads.{ThreadsInv}
use Rattle.soundness.proofs.threads_pass.Given as goal

abbrev pub invariant-loop-i : goal.invariant-loop-i
invariant-loop-i l =
    ThreadsInv l.threads l.seen l.m l.limit l.meter l.time l.most l.count l.running l.i l.used
