-- No more than 64 questions are asked, each by three arguments.
use Rattle.std.proofs.Common.{refl, sym, ◌∙◌, arith}
use Rattle.mtrask.specs.Promise.{uncounted}
use Rattle.mtrask.proofs.Arguments.{count_most, unspelt, spelt}
use Rattle.mtrask.proofs.parse.Goals as goal

pub returns-in_err-count : goal.returns-in_err-count
returns-in_err-count g c =
    uncounted c.argument_count.result (sym c.question_count.ensures ∙ c.in_err-count.was) c.from_residual.ensures

pub overflow_mul-count : goal.overflow_mul-count
overflow_mul-count g c =
    omega (arith, count_most c.argument_count.result c.in_ok-count.count (sym c.question_count.ensures ∙ c.in_ok-count.was))

pub numbers_said-requires : goal.numbers_said-requires
numbers_said-requires g c =
    omega (arith, count_most c.argument_count.result c.in_ok-count.count (sym c.question_count.ensures ∙ c.in_ok-count.was))

pub returns-in_err-values : goal.returns-in_err-values
returns-in_err-values g c =
    unspelt c.argument_count.result c.in_ok-count.count _ _ (sym c.question_count.ensures ∙ c.in_ok-count.was) c.numbers_said.ensures
    c.in_err-values.was c.from_residual-in_err-values.ensures

pub questions_from-requires : goal.questions_from-requires
questions_from-requires g c =
    count_most c.argument_count.result c.in_ok-count.count (sym c.question_count.ensures ∙ c.in_ok-count.was)

pub invariant_of-result : goal.invariant_of-result
invariant_of-result g c = record {
  few = count_most c.argument_count.result c.in_ok-count.count (sym c.question_count.ensures ∙ c.in_ok-count.was);
}

pub returns : goal.returns
returns g c =
    spelt c.argument_count.result c.in_ok-count.count _ c.in_ok-values.values _ (sym c.question_count.ensures ∙ c.in_ok-count.was)
    c.numbers_said.ensures c.in_ok-values.was c.questions_from.ensures refl
