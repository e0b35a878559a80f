-- Concrete stretches, on which the definitions compute: the states that they begin in, and their calls.
use Rattle.std.specs.Prelude.{List, [], ◌∷◌, ◌++◌, take, drop, pos}
use Rattle.rule.specs.State.{State, with_thread, with_run}
use Rattle.rule.specs.Refusals.{Call, admit, wake, dispatch, report, change, admit_effort}
use Rattle.rule.specs.Effects.{started}
use Rattle.guarantee.specs.Stretch.{final}

-- the calls of the listing after its start
unfoldable pub calls : List Call
calls =
    admit 5 0 500 ∷ admit 7 0 100 ∷ dispatch ∷ report 0 20000 ∷ dispatch ∷ report 1 12000 ∷ dispatch ∷ wake 5 ∷ report 0 10000
    ∷ dispatch ∷ dispatch ∷ report 0 18001 ∷ report 0 18000 ∷ dispatch ∷ []

-- the state with both threads admitted, and the calls from there
unfoldable pub two : State
two = final (started 100 20000 0) (take 2 calls)

unfoldable pub rest : List Call
rest = drop 2 calls

-- the worked example with an overrun limit
unfoldable pub late : List Call
late = admit 3 0 10 ∷ dispatch ∷ report 0 110 ∷ report 0 109 ∷ dispatch ∷ report 2 95 ∷ dispatch ∷ []

-- overruns: 5 of one thousandth and 7 with one tick left, each run beyond its slice
unfoldable pub tardy : State
tardy =
    let s = final (started 10 1 9) (admit 5 0 1 ∷ admit 7 0 999 ∷ []) in
    with_thread s 7 (record {
      admission = 0;
      anchor = 0;
      ticks = 0;
      since = 0;
      allotment = pos 1;
      reservation = 999;
      group_or_weight = 0;
      status = 1;
      tag = 0;
    })

unfoldable pub overdue : List Call
overdue = dispatch ∷ report 0 9 ∷ dispatch ∷ report 0 10 ∷ dispatch ∷ report 0 3 ∷ dispatch ∷ report 0 10 ∷ dispatch ∷ []

-- changes of 5, refused and accepted, and one of 7 to what it has
unfoldable pub shifts : List Call
shifts =
    change 5 300 ∷ dispatch ∷ change 5 400 ∷ report 0 20000 ∷ change 7 100 ∷ change 5 901 ∷ change 5 900 ∷ dispatch ∷ report 0 10000
    ∷ dispatch ∷ []

-- a reservation that is the same at both ends, but not in between: that of the protected thread, and that of the second
unfoldable pub halves : State
halves = final (started 1 500 0) (admit 7 0 500 ∷ admit 5 0 500 ∷ [])

unfoldable pub swing : List Call
swing = change 7 1 ∷ change 7 500 ∷ dispatch ∷ report 0 1 ∷ dispatch ∷ report 0 500 ∷ []

unfoldable pub swings : List Call
swings = swing ++ swing ++ swing ++ swing

unfoldable pub thin : State
thin = final (started 1 500 0) (admit 5 0 1 ∷ admit 7 0 500 ∷ [])

unfoldable pub bulge : List Call
bulge = change 5 500 ∷ dispatch ∷ report 0 1 ∷ dispatch ∷ report 0 500 ∷ dispatch ∷ report 0 500 ∷ change 5 1 ∷ []

-- a best-effort thread runs at the opening
unfoldable pub taken : State
taken =
    final (started 1 1000 0) (admit 5 0 500 ∷ admit 7 0 500 ∷ admit_effort 3 1 ∷ dispatch ∷ report 1 0 ∷ dispatch ∷ report 1 499 ∷ dispatch
    ∷ wake 5 ∷ wake 7 ∷ [])

-- 3 uses all of P, 5 its quantum, 7 its tick, 5 its next quantum; and 9, admitted meanwhile, is not dispatched, nor is 3 again
unfoldable pub waits : List Call
waits =
    admit_effort 9 16 ∷ report 0 1000 ∷ dispatch ∷ report 0 500 ∷ dispatch ∷ report 0 1 ∷ dispatch ∷ report 0 500 ∷ dispatch ∷ []

-- stretches that fairness just allows
unfoldable pub late_comer : State
late_comer = final (started 1 1 0) (admit_effort 1 1 ∷ dispatch ∷ report 0 1 ∷ admit_effort 0 1 ∷ [])

unfoldable pub catches_up : List Call
catches_up = dispatch ∷ report 0 1 ∷ dispatch ∷ report 2 1 ∷ []

unfoldable pub heavy : State
heavy = final (started 2 1 1) (admit_effort 1 1 ∷ dispatch ∷ report 0 2 ∷ admit_effort 0 2 ∷ [])

unfoldable pub gains : List Call
gains = dispatch ∷ report 0 2 ∷ dispatch ∷ report 2 2 ∷ dispatch ∷ report 0 2 ∷ []

-- two best-effort threads in idle time
unfoldable pub idles : State
idles = final (started 100 20000 0) (admit 5 0 500 ∷ admit_effort 3 1 ∷ admit_effort 9 2 ∷ dispatch ∷ report 1 100 ∷ [])

unfoldable pub shares : List Call
shares =
    admit_effort 4 17 ∷ admit_effort 3 17 ∷ admit_effort 64 17 ∷ change 9 100 ∷ dispatch ∷ report 0 20000 ∷ dispatch ∷ report 2 20000
    ∷ dispatch ∷ report 0 20000 ∷ dispatch ∷ report 0 20000 ∷ dispatch ∷ report 0 20000 ∷ wake 5 ∷ dispatch ∷ []

-- a thread with all of the core, the longest quantum and slice, the largest overrun limit; one tick is left below the meter's limit
unfoldable pub brim : State
brim = with_run (final (started 1000 1000000 999) (admit 0 0 1000 ∷ [])) 64 9999999999999 0
