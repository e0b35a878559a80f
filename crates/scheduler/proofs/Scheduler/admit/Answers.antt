-- `Scheduler::admit` meets its contract: the code decides, and what is stored are the new values or the old ones.
use mathlib.Core.Path.{◌≡◌, refl, sym, ap, ◌∙◌}
use lib.Dec.{eqb}
use Rattle.answers.proofs.Refusals.{tested}
use Rattle.answers.specs.Numbers.{number_in}
use Prim.Native.Nat.{ℕ}
use Rattle.rule.specs.State.{State, thread_at}
use Rattle.rule.specs.Refusals.{admit, refusal}
use Rattle.soundness.proofs.Whole as whole
use Rattle.scheduler.specs.View.{view}
use Rattle.scheduler.proofs.threads.Replies.{rest}
use Rattle.scheduler.proofs.groups.Stored.{admit_fits, admit_room, admit_done}
use Rattle.scheduler.proofs.Scheduler.admit.Goals as goal
use Rattle.scheduler.proofs.Scheduler.admit.Goals.{After-is_ok-accepted}

module _ (c : After-is_ok-accepted) where
  abbrev S : State
  S = view c.args.self

  abbrev N : ℕ
  N = c.args.number

  abbrev G : ℕ
  G = c.args.group

  abbrev F : ℕ
  F = c.args.reservation

  abbrev K : ℕ
  K = number_in c.admit_check-check.result

  ok : c.is_ok-accepted.result ≡ eqb K 0
  ok = tested c.admit_check-check.result c.is_ok-accepted.result c.is_ok-accepted.ensures.value

  number : K ≡ refusal (admit N G F) S
  number =
      let test =
      whole.tested S c.tested-sums.result c.tested-sums.ensures c.is_some.result c.is_some.ensures
      c.unwrap_or-reserved.result c.unwrap_or-reserved.ensures in
      c.admit_check-check.ensures S test.test refl (λ w. c.load_of-used.ensures S refl (test.sums w))
      (λ h. ap (λ (n : ℕ). (thread_at S n).status) (rest N h))

pub admitted_if-thread-requires : goal.admitted_if-thread-requires
admitted_if-thread-requires c = λ z.
    let k = (goal.at.admitted_if-thread-requires c).After-is_ok-accepted in
    admit_fits (S k) (N k) (G k) (F k) (K k) (number k) (sym (ok k) ∙ z)

pub count_if-requires : goal.count_if-requires
count_if-requires c = λ z.
    let k = (goal.at.count_if-requires c).After-is_ok-accepted in
    admit_room (S k) (N k) (G k) (F k) (K k) (number k) (sym (ok k) ∙ z)

pub returns : goal.returns
returns c =
    let k = (goal.at.returns c).After-is_ok-accepted in
    admit_done (S k) (N k) (G k) (F k) (K k) (number k) c.answered.result c.answered.ensures
    c.admitted_if-thread.result (c.admitted_if-thread.ensures ∙ rw (ok k))
    c.either.result (c.either.ensures ∙ rw (ok k))
    c.count_if.result (c.count_if.ensures ∙ rw (ok k))
