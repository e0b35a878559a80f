-- `start` meets its contract: the number is the refusal's, and where it is 0 the zeros get the settings, group 0 and no running thread.
use Prim.Native.Nat.{ℕ}
use mathlib.Core.Path.{◌≡◌, sym, ap, ◌∙◌}
use native.Mathlib.Omega.{arith}
use borrow.Author.Tests.{eqb-true, eqb-false}
use Rattle.answers.specs.Numbers.{number_in}
use Rattle.answers.proofs.Refusals.{tested}
use Rattle.entry.specs.Entry.{settings_ok}
use Rattle.rule.specs.Refusals.{start_refusal}
use Rattle.scheduler.specs.declared.Scheduler.{Scheduler}
use Rattle.scheduler.specs.declared.Answered.{Answered}
use Rattle.scheduler.specs.View.{view}
use Rattle.scheduler.proofs.threads.Started.{start_bounds, start-done, start-refused}
use Rattle.scheduler.proofs.Scheduler.start.Goals as goal
use Rattle.scheduler.proofs.Scheduler.start.Goals.{Then-is_ok, then-is_ok, else-is_ok}

-- no refusal
module _ (c : Then-is_ok) where
  abbrev M : ℕ
  M = c.args.thousandth

  abbrev P : ℕ
  P = c.args.interval

  abbrev O : ℕ
  O = c.args.overrun

  clear : start_refusal M P O ≡ 0
  unfolding start_refusal settings_ok
  clear =
      sym c.start_check-check.ensures
      ∙ eqb-true (number_in c.start_check-check.result) 0
      (sym (tested c.start_check-check.result c.is_ok.result c.is_ok.ensures.value) ∙ c.if-is_ok.true)

pub overflow_cast-settings : goal.overflow_cast-settings
overflow_cast-settings c =
    let k = (goal.at.overflow_cast-settings c).Then-is_ok in omega (arith, start_bounds (M k) (P k) (O k) (clear k))

pub overflow_cast-settings-then-is_ok : goal.overflow_cast-settings-then-is_ok
overflow_cast-settings-then-is_ok c =
    let k = (goal.at.overflow_cast-settings-then-is_ok c).Then-is_ok in
    omega (arith, start_bounds (M k) (P k) (O k) (clear k))

pub overflow_cast-settings-then-is_ok-2 : goal.overflow_cast-settings-then-is_ok-2
overflow_cast-settings-then-is_ok-2 c =
    let k = (goal.at.overflow_cast-settings-then-is_ok-2 c).Then-is_ok in
    omega (arith, start_bounds (M k) (P k) (O k) (clear k))

pub returns : goal.returns
unfolding start_refusal settings_ok
returns c =
    let a = c.args in
    let r = c.start_check-check.result in
    let zeros = view c.unstarted-state.result in
    let e = ap view c.unstarted-state.ensures in
    let told = tested r c.is_ok.result c.is_ok.ensures.value in
    let held : Scheduler → Answered = λ s. record { answer = c.answered.result; state = s } in
    elim c.if-is_ok.branch [
      | then-is_ok w ↦
          ap held w.state-is
          ∙ start-done a.thousandth a.interval a.overrun zeros e
          (sym c.start_check-check.ensures ∙ eqb-true (number_in r) 0 (sym told ∙ w.if-is_ok.true))
          (number_in r) c.start_check-check.ensures c.answered.result c.answered.ensures
      | else-is_ok w ↦
          ap held w.state-is
          ∙ start-refused a.thousandth a.interval a.overrun zeros e (number_in r) c.start_check-check.ensures
          (eqb-false (number_in r) 0 (sym told ∙ w.if-is_ok.false)) c.answered.result c.answered.ensures
    ]
