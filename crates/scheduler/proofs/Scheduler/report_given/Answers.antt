-- `report_given` meets its contract: the number is the refusal's, and where it is 0 the state is the reported one.
use Prim.Native.Nat.{ℕ, ◌%◌}
use mathlib.Core.Path.{◌≡◌, sym, subst, ◌∙◌}
use mathlib.Core.Bool.{true, ◌&&◌}
use Rattle.answers.proofs.Refusals.{tested}
use Rattle.answers.specs.Numbers.{number_in}
use lib.Dec.{T, eqb}
use borrow.Author.Tests.{eqb-true}
use Rattle.base.proofs.Bools.{and_l, and_r, is, holds}
use Rattle.rule.specs.State.{State, thread_at}
use Rattle.entry.specs.Entry.{has_reservation}
use Rattle.rule.specs.Refusals.{report, refusal}
use Rattle.scheduler.specs.View.{view}
use Rattle.scheduler.proofs.threads.Report.{report_number, Ready, ready, report_done}
use Rattle.scheduler.proofs.Scheduler.report_given.Goals as goal
use Rattle.scheduler.proofs.Scheduler.report_given.Goals.{After-is_ok-charges}

-- the number
module _ (c : After-is_ok-charges) where
  abbrev S : State
  S = view c.args.self

  abbrev K : ℕ
  K = number_in c.report_check-check.result

  ok : c.is_ok-charges.result ≡ eqb K 0
  ok = tested c.report_check-check.result c.is_ok-charges.result c.is_ok-charges.ensures.value

  number : K ≡ refusal (report c.args.reason c.args.used) S
  number =
      c.report_check-check.ensures
      ∙ report_number S c.args.reason c.args.used c.args.ok c.requires c.slice-slice.result c.slice-slice.ensures

  -- what soundness gives where there is no refusal
  known : c.is_ok-charges.result ≡ true → Ready S c.args.reason c.args.used
  known z = ready S c.args.reason c.args.used (sym number ∙ eqb-true K 0 (sym ok ∙ z))

pub meter_after-meter-requires : goal.meter_after-meter-requires
meter_after-meter-requires c = λ z.
    let r = known (goal.at.meter_after-meter-requires c).After-is_ok-charges z in
    (r.meter, r.short)

pub reported-reported-requires : goal.reported-reported-requires
reported-reported-requires c = λ z. (known (goal.at.reported-reported-requires c).After-is_ok-charges z).bounds

pub count_after-requires : goal.count_after-requires
count_after-requires c = λ z.
    let k = (goal.at.count_after-requires c).After-is_ok-charges in
    let b = c.is_ok-charges.result in
    let l = c.leaves in
    let t = holds (b && l.result) z in
    let h = has_reservation (thread_at (S k) ((S k).running % 64)) in
    let left : T (h && eqb c.args.reason 3) = subst T l.ensures (and_r b l.result t) in
    ((known k (is b (and_l b l.result t))).list (is h (and_l h (eqb c.args.reason 3) left))).some

pub returns : goal.returns
returns c =
    let k = (goal.at.returns c).After-is_ok-charges in
    report_done (S k) c.args.reason c.args.used (K k) (number k) c.answered.result c.answered.ensures
    c.reported-reported.result c.meter_after-meter.result (c.reported-reported.ensures ∙ rw (ok k))
    c.moves.result c.moves.ensures c.requeued-moved.result (c.requeued-moved.ensures ∙ rw (ok k))
    (c.meter_after-meter.ensures ∙ rw (ok k)) c.leaves.result c.leaves.ensures
    c.count_after.result (c.count_after.ensures ∙ rw (ok k))
    c.either.result (c.either.ensures ∙ rw (ok k))
