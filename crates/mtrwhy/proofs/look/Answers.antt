-- By what was found in the pieces, and whether a read failed.
use Rattle.std.proofs.Common.{sym, ◌∙◌, rules}
use Rattle.mtrwhy.proofs.Pieces.{sofar_none, told-found, told_failed, told-absent}
use Rattle.mtrwhy.proofs.look.Goals as goal

pub consume-extent-requires-clause-sofar : goal.consume-extent-requires-clause-sofar
consume-extent-requires-clause-sofar c = sofar_none c.args.asked c.new.result _ c.new.ensures

pub returns-in-Some : goal.returns-in-Some
returns-in-Some c =
    let end = c.consume-extent in
    told-found c.args.asked end.result _ end.new.state.found end.new.state.text end.ensures.sofar end.ensures.pieces c.in-Some.used
    c.in-Some.is

pub returns-in-Some-error : goal.returns-in-Some-error
returns-in-Some-error c =
    let end = c.consume-extent in
    told_failed c.args.asked end.result _ end.new.state.found end.new.state.text end.ensures.sofar end.ensures.pieces c.in-Some-error.error
    c.in_default.is (sym c.error.ensures ∙ c.in-Some-error.is)

pub returns : goal.returns
returns c =
    let end = c.consume-extent in
    told-absent c.args.asked end.result _ end.new.state.found end.new.state.text end.ensures.sofar end.ensures.pieces c.in_default.is
    (sym c.error.ensures ∙ c.in_default-error.is) (search rules) _ c.put_line-end.result c.put_line-end.ensures.value
    c.put_line-end.ensures.area_after
