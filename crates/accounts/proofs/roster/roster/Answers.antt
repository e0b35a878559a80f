-- `accounts::roster::roster` meets its contract: its tests are those of the refusal, in their order, and the loop stores the records.
use mathlib.Core.Path.{sym, ap, ◌∙◌}
use native.Mathlib.Omega.{arith}
use lib.IntN.{ℤ}
use mir.Syntax.{w32}
use mir.Val.{to_z, of_z}
use mir.Facts.{to_z-of_z}
use Rattle.scheduler.specs.View.{view}
use Rattle.accounts.proofs.Signed.{lag_bits}
use Rattle.accounts.proofs.Keys.{key_lag}
use Rattle.accounts.proofs.Overlay.{overlaid-none}
use Rattle.accounts.proofs.Rows.{not_sound, table-refused, too_short, accepts, key_at, key_bounded, key_allotment, stores, all-stored}
use Rattle.accounts.proofs.Rows.{entry_is}
use Rattle.accounts.proofs.roster.roster.Goals as goal

pub returns-then-not-sound-clause-answer : goal.returns-then-not-sound-clause-answer
returns-then-not-sound-clause-answer c = sym (not_sound (view c.args.s) _ (sym c.sound.ensures ∙ c.if-not-sound.true))

pub returns-then-not-sound-clause-after : goal.returns-then-not-sound-clause-after
returns-then-not-sound-clause-after c =
    table-refused (view c.args.s) c.args.table.now 15 (not_sound (view c.args.s) _ (sym c.sound.ensures ∙ c.if-not-sound.true))

pub returns-then-table-count-clause-answer : goal.returns-then-table-count-clause-answer
returns-then-table-count-clause-answer c =
    sym (too_short (view c.args.s) c.order-k.result c.order-k.ensures c.args.table.now c.if-table-count.true)

pub returns-then-table-count-clause-after : goal.returns-then-table-count-clause-after
returns-then-table-count-clause-after c =
    table-refused (view c.args.s) c.args.table.now 16
    (too_short (view c.args.s) c.order-k.result c.order-k.ensures c.args.table.now c.if-table-count.true)

pub loop-i-init : goal.loop-i-init
loop-i-init c = sym (overlaid-none _ _)

pub overflow_cast-t : goal.overflow_cast-t
overflow_cast-t c =
    record { fits = omega (arith, (key_at (view c.args.s) c.order-k.result c.order-k.ensures c.loop-i.i c.loop-i-test.true).low) }

pub offset_bounds-s-n : goal.offset_bounds-s-n
offset_bounds-s-n c =
    record { fits = omega (arith, (key_at (view c.args.s) c.order-k.result c.order-k.ensures c.loop-i.i c.loop-i-test.true).low) }

pub bounds-s-n : goal.bounds-s-n
bounds-s-n c = (key_at (view c.args.s) c.order-k.result c.order-k.ensures _ c.loop-i-test.true).low

pub share_of-requires : goal.share_of-requires
share_of-requires c = key_bounded (view c.args.s) c.order-k.result c.order-k.ensures _ c.loop-i-test.true

pub loop-i-preserved : goal.loop-i-preserved
loop-i-preserved c =
    let v = view c.args.s in
    let k = c.order-k.result in
    let h = c.order-k.ensures in
    let here = c.loop-i-test.true in
    let within = key_bounded v k h _ here in
    stores v k h c.loop-i.i c.loop-i.table c.args.table.now here c.if-table-count.false c.loop-i.invariant _
    (entry_is v _ _ _ _ _ c.state_of.ensures c.share_of.ensures
    (ap (λ (z : ℤ). to_z w32 (of_z w32 z)) c.allotment_of.ensures ∙ to_z-of_z (key_allotment v k h _ here))
    (lag_bits _ _ within _ (key_lag v _ _ (key_at v k h _ here))))

pub returns-clause-answer : goal.returns-clause-answer
returns-clause-answer c =
    sym (accepts (view c.args.s) c.order-k.result c.order-k.ensures c.args.table.now c.if-table-count.false)

pub returns-clause-after : goal.returns-clause-after
returns-clause-after c =
    all-stored (view c.args.s) c.order-k.result c.order-k.ensures c.loop-i.i c.loop-i.table c.args.table.now (omega arith)
    c.if-table-count.false c.loop-i.invariant
