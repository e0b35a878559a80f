-- Demand 3 of the code: what `Scheduler::run` leaves and answers for records that ask for calls is the final state and the replies of the
-- stretch of these calls, and so for batches one after the other. So `owed`, `second` and `fairness` are about what it answers.
use Prim.Native.Nat.{ℕ, suc, ◌-◌}
use mathlib.Core.Path.{◌≡◌, refl, sym, ap, ◌∙◌}
use mathlib.Core.List.{List, [], ◌∷◌, ◌++◌}
use lib.ListN.{length, take, replicate}
use Rattle.record.specs.declared.Record.{Record}
use Rattle.rule.specs.State.{State}
use Rattle.rule.specs.Refusals.{Call}
use Rattle.rule.specs.Rule.{step}
use Rattle.rule.specs.Requests.{Request, calls, request_of, served, halted_by}
use Rattle.scheduler.specs.declared.batch.Line.{Line}
use Rattle.scheduler.specs.Batch.{line_in, no_line, batch_lines, batch_halted, batch_left, batch_of}
use Rattle.scheduler.specs.View.{view}
use Rattle.guarantee.specs.Stretch.{trace, final}
use Rattle.batches.specs.Batches.{Asks, lines_of, Given, served_of, after_batches, batch_answers, AskAll}

-- what the records of a batch leave and answer, and that it is not halted
pub record Stretched (rs : List Record) (cs : List Call) (s : State) : Type 0 where
  pub left : batch_left 0 rs s ≡ final s cs
  pub lines : batch_lines 0 rs s ≡ lines_of (trace s cs)
  pub halted : batch_halted 0 rs ≡ 0

-- a record that asks for a call is served by it, and halts nothing
one : (r : Record) (c : Call) (s : State) → request_of r ≡ calls c
    → (served 0 (request_of r) s ≡ step c s) × (halted_by 0 (request_of r) ≡ 0)
unfolding served halted_by
one r c s e = (ap (λ (q : Request). served 0 q s) e, ap (λ (q : Request). halted_by 0 q) e)

pub stretched : (rs : List Record) (cs : List Call) (s : State) → Asks rs cs → Stretched rs cs s
unfolding Asks lines_of batch_left batch_lines batch_halted trace final
stretched [] [] s a = record { left = refl; lines = refl; halted = refl }
stretched [] (c ∷ cs) s a = absurd a
stretched (r ∷ rs) [] s a = absurd a
stretched (r ∷ rs) (c ∷ cs) s a =
    let q = one r c s a.0 in
    let k = stretched rs cs (step c s).state a.1 in
    record {
      left = rw (q.0, q.1) k.left;
      lines = rw (q.0, q.1) (ap (λ (l : List Line). line_in (step c s) ∷ l) k.lines);
      halted = rw q.1 k.halted;
    }

lines_length : (cs : List Call) (s : State) → length (lines_of (trace s cs)) ≡ length cs
unfolding lines_of trace
lines_length [] s = refl
lines_length (c ∷ cs) s = ap suc (lines_length cs (step c s).state)

take-front : {A : Type 0} (xs ys : List A) → take (length xs) (xs ++ ys) ≡ xs
take-front [] ys = refl
take-front (x ∷ xs) ys = ap (λ (l : List _). x ∷ l) (take-front xs ys)

-- what `Scheduler::run` promises, for the first `count` records: as many lines as calls, and the rest of the lines are zeros
pub run_stretch : (records : List Record) (count : ℕ) (s : State) (cs : List Call) → Asks (take count records) cs
    → (view (batch_of 0 records count s).state ≡ final s cs)
    × (take (length cs) (batch_of 0 records count s).lines ≡ lines_of (trace s cs))
    × ((batch_of 0 records count s).halted ≡ 0)
unfolding batch_of
run_stretch records count s cs a =
    let k = stretched (take count records) cs s a in
    let rs = take count records in
    let zeros = replicate (31 - length rs) no_line in (
      k.left,
      rw (sym (lines_length cs s), k.lines) (take-front (lines_of (trace s cs)) zeros),
      k.halted,
    )

final-append : (xs ys : List Call) (s : State) → final s (xs ++ ys) ≡ final (final s xs) ys
unfolding final
final-append [] ys s = refl
final-append (c ∷ xs) ys s = final-append xs ys (step c s).state

lines_append : (xs ys : List Call) (s : State) → lines_of (trace s (xs ++ ys)) ≡ lines_of (trace s xs) ++ lines_of (trace (final s xs) ys)
unfolding final trace lines_of
lines_append [] ys s = refl
lines_append (c ∷ xs) ys s = ap (λ (l : List Line). line_in (step c s) ∷ l) (lines_append xs ys (step c s).state)

as_many : (rs : List Record) (cs : List Call) → Asks rs cs → length rs ≡ length cs
unfolding Asks
as_many [] [] a = refl
as_many [] (c ∷ cs) a = absurd a
as_many (r ∷ rs) [] a = absurd a
as_many (r ∷ rs) (c ∷ cs) a = ap suc (as_many rs cs a.1)

none : (s : State) → (s ≡ final s []) × ([] ≡ lines_of (trace s []))
unfolding final trace lines_of
none s = (refl, refl)

pub runs_stretch : (bs : List Given) (cs : List Call) (s : State) → AskAll bs cs
    → (after_batches s bs ≡ final s cs) × (batch_answers s bs ≡ lines_of (trace s cs))
unfolding AskAll after_batches batch_answers
runs_stretch [] cs s a = rw a (none s)
runs_stretch (b ∷ more) cs s a =
    let front = a.0 in
    let rest = a.1 in
    let k = run_stretch b.records b.count s front a.3 in
    let r = runs_stretch more rest (final s front) a.4 in
    rw (k.0, as_many (served_of b) front a.3, k.1, r.0, r.1) (
      sym (final-append front rest s) ∙ ap (final s) (sym a.2),
      sym (lines_append front rest s) ∙ ap (λ (l : List Call). lines_of (trace s l)) (sym a.2),
    )
