-- The bytes of the piece are searched, and the area has room.
use Rattle.std.proofs.Common.{ℕ, ◌≤◌, length, sym, subst, ◌∙◌, arith, rules}
use Rattle.std.specs.Prelude.{Option, Some, IsSome, IfSome}
use Rattle.why.specs.declared.Looked.{Looked}
use Rattle.mtrwhy.proofs.Pieces.{has_room_lem, sofar_more, full}
use Rattle.mtrwhy.proofs.AskedConsumer.take.Goals as goal

pub unwrap-looked-requires : goal.unwrap-looked-requires
unwrap-looked-requires c =
    subst IsSome (sym c.run.ensures.value)
    (has_room_lem c.args.bytes.now c.args.self.now.record c.args.seek.now.text c.args.seek.now.search (search rules))

pub returns-clause-sofar : goal.returns-clause-sofar
returns-clause-sofar c =
    let x = c.unwrap-looked.result in
    let o = c.args.seek.now.text in
    let bounds : IfSome (Some x) (λ (l : Looked). IfSome l.used (λ (u : ℕ). u ≤ length o)) =
    subst (λ (r : Option Looked). IfSome r (λ (l : Looked). IfSome l.used (λ (u : ℕ). u ≤ length o))) c.unwrap-looked.ensures
    c.run.ensures.used_in_bounds in
    sofar_more c.args.self.now.record c.args._read c.args.seek.now.search _ o _ (search rules) (search rules) c.requires.sofar
    c.requires.wanting (omega (arith, c.requires.whole)) c.args.bytes.now _ x (sym c.unwrap-looked.ensures ∙ c.run.ensures.value)
    c.run.ensures.out_after bounds c.args._piece c.requires.fetched c.requires.judged

pub returns-clause-full : goal.returns-clause-full
returns-clause-full c =
    let x = c.unwrap-looked.result in
    let o = c.args.seek.now.text in
    let bounds : IfSome (Some x) (λ (l : Looked). IfSome l.used (λ (u : ℕ). u ≤ length o)) =
    subst (λ (r : Option Looked). IfSome r (λ (l : Looked). IfSome l.used (λ (u : ℕ). u ≤ length o))) c.unwrap-looked.ensures
    c.run.ensures.used_in_bounds in
    full c.args.self.now.record c.args._read c.args.seek.now.search _ o _ (search rules) (search rules) c.requires.sofar
    c.requires.wanting (omega (arith, c.requires.whole)) c.args.bytes.now _ x (sym c.unwrap-looked.ensures ∙ c.run.ensures.value)
    c.run.ensures.out_after bounds c.args._piece c.requires.fetched c.requires.judged
