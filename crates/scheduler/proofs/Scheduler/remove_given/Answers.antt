-- `remove_given` meets its contract: the number is the refusal's, and where it is 0 the thread is off the list and its entry is free.
use mathlib.Core.Path.{sym, ◌∙◌}
use mathlib.Core.Bool.{◌&&◌}
use Rattle.answers.proofs.Refusals.{tested}
use Rattle.answers.specs.Numbers.{number_in}
use borrow.Author.Tests.{eqb-true}
use Rattle.base.proofs.Bools.{and_l, and_r, is, holds}
use Rattle.scheduler.specs.View.{view}
use Rattle.scheduler.proofs.threads.Replies.{remove_number, remove_listed, remove_done}
use Rattle.scheduler.proofs.Scheduler.remove_given.Goals as goal

pub count_after-requires : goal.count_after-requires
count_after-requires c = λ z.
    let a = c.args in
    let s = view a.self in
    let code = number_in c.remove_check-check.result in
    let number = remove_number s a.number a.ok c.requires code c.remove_check-check.ensures in
    let h = c.has_reservation in
    let y = tested c.remove_check-check.result c.is_ok-accepted.result c.is_ok-accepted.ensures.value in
    let b = c.is_ok-accepted.result in
    let t = holds (b && h.result) z in
    (remove_listed s a.number (sym number ∙ eqb-true code 0 (sym y ∙ is b (and_l b h.result t)))
    (sym h.ensures ∙ is h.result (and_r b h.result t))).some

pub returns : goal.returns
returns c =
    let a = c.args in
    let s = view a.self in
    let code = number_in c.remove_check-check.result in
    let y = tested c.remove_check-check.result c.is_ok-accepted.result c.is_ok-accepted.ensures.value in
    remove_done s a.number code (remove_number s a.number a.ok c.requires code c.remove_check-check.ensures)
    c.answered.result c.answered.ensures
    c.has_reservation.result c.has_reservation.ensures c.freed-freed.result (c.freed-freed.ensures ∙ rw y)
    c.requeued-moved.result (c.requeued-moved.ensures ∙ rw y) c.count_after.result (c.count_after.ensures ∙ rw y)
