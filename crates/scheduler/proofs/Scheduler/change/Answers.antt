-- `Scheduler::change` meets its contract: the code decides, and what is stored is the changed thread or the old one.
use Prim.Native.Nat.{ℕ, ◌+◌, ◌%◌}
use mathlib.Core.Path.{◌≡◌, refl, ap, ◌∙◌}
use mathlib.Core.List.{[], ◌∷◌}
use mathlib.Core.Bool.{Bool, not, ◌||◌}
use Rattle.answers.proofs.Refusals.{tested}
use Rattle.answers.specs.Numbers.{number_in}
use native.Mathlib.Omega.{arith}
use lib.Dec.{ltb, eqb}
use Rattle.base.specs.Checks.{within, ◌⇒◌, first_of}
use Rattle.entry.specs.Entry.{is_reserved}
use Rattle.rule.specs.State.{State, thread_at, with_thread}
use Rattle.rule.specs.Refusals.{change, refusal}
use Rattle.soundness.proofs.Whole as whole
use Rattle.scheduler.specs.View.{view}
use Rattle.scheduler.proofs.change.Laws.{change_number, change_done}
use Rattle.scheduler.proofs.Scheduler.change.Goals as goal
use Rattle.scheduler.proofs.Scheduler.change.Goals.{After-change_check-check}

module _ (c : After-change_check-check) where
  abbrev S : State
  S = view c.args.self

  abbrev N : ℕ
  N = c.args.number

  abbrev F : ℕ
  F = c.args.reservation

  -- what the group has free, the thread's own counted as free
  abbrev room : ℕ
  room = c.free_in-free.result + (thread_at S (N % 64)).reservation

  -- the checks, with the room and the kind as the code finds them
  abbrev checked : ℕ → Bool → ℕ
  checked space reserved =
      first_of ((not c.is_some.result ⇒ 16) ∷ (ltb 63 N || not reserved ⇒ 7) ∷ (eqb S.running N ⇒ 9)
      ∷ (not (within 1 1000 F) ⇒ 4) ∷ (ltb space F ⇒ 5) ∷ [])

  abbrev K : ℕ
  K = number_in c.change_check-check.result

  roomed : (space : ℕ) → K ≡ checked space c.is_reserved.result → space ≡ room
      → K ≡ checked room (is_reserved (thread_at S (N % 64)))
  roomed space q e = q ∙ ap (λ (j : ℕ). checked j c.is_reserved.result) e ∙ ap (checked room) c.is_reserved.ensures

  number : K ≡ refusal (change N F) S
  number =
      let test =
      whole.tested S c.tested-sums.result c.tested-sums.ensures c.is_some.result c.is_some.ensures
      c.unwrap_or-reserved.result c.unwrap_or-reserved.ensures in
      let own = (thread_at S (N % 64)).reservation in
      change_number S N F c.is_some.result test.test room
      (λ w. ap (λ (j : ℕ). j + own) (c.free_in-free.ensures.1 S refl (λ h. c.load_of-used.ensures S refl (test.sums w) h)))
      K (roomed _ c.change_check-check.ensures (omega arith))

pub returns : goal.returns
unfolding with_thread
returns c =
    let k = (goal.at.returns c).After-change_check-check in
    change_done (S k) (N k) (F k) (K k) (number k) c.answered.result c.answered.ensures
    c.changed_if-thread.result (c.changed_if-thread.ensures
    ∙ rw (tested c.change_check-check.result c.is_ok.result c.is_ok.ensures.value))
