-- The area has room, and the text at its front is what is handed to the write.
use Rattle.std.proofs.Common.{◌≡◌, ℕ, ◌≤◌, length, take, ap, sym, subst, ◌∙◌, arith}
use Rattle.std.specs.Prelude.{Option, Some, IsSome, IfSome}
use lib.Seq.{length-take-le}
use Rattle.replay.specs.View.{seen}
use Rattle.replay.specs.declared.Ran.{Ran}
use Rattle.mtrrun.proofs.Pieces.{run-some, run-left, run-used, run-text}
use Rattle.mtrrun.proofs.run_some.Goals as goal

pub unwrap-ran-requires : goal.unwrap-ran-requires
unwrap-ran-requires g c =
    subst IsSome (sym c.run.ensures.value)
    (run-some c.args.bytes.now c.args.output.now (seen c.args.replay) c.requires.0 c.requires.1)

pub returns : goal.returns
returns g c =
    let bytes = c.args.bytes.now in
    let o = c.args.output.now in
    let p = seen c.args.replay in
    let out = c.run.new.out in
    let x = c.unwrap-ran.result in
    let value = sym c.run.ensures.value ∙ c.unwrap-ran.ensures in
    let bounds : IfSome (Some x) (λ (y : Ran). y.used ≤ length o) =
    subst (λ (r : Option Ran). IfSome r (λ (y : Ran). y.used ≤ length o)) c.unwrap-ran.ensures c.run.ensures.used_in_bounds in
    let used : c.write-written.result.handed ≡ x.used =
    c.write-written.ensures ∙ length-take-le x.used out (omega (arith, bounds, c.run.auto.out)) in
    record {
      left = run-left bytes o p c.requires.0 c.requires.1 x value;
      handed = used ∙ run-used bytes o p c.requires.0 c.requires.1 x value;
      text =
          ap (λ (n : ℕ). take n out) used ∙ run-text bytes o p c.requires.0 c.requires.1 x value _ c.run.ensures.out_after;
    }
