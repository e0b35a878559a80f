-- The text of the answers, line after line.
use Prim.Native.Nat.{ℕ, ◌+◌, ◌*◌, ◌≤◌, ◌<◌, ◌^◌}
use mathlib.Core.Path.{◌≡◌, refl, sym, ap, subst, ◌∙◌}
use mathlib.Core.List.{List, [], ◌∷◌, ◌++◌, map}
use native.Mathlib.Omega.{arith}
use native.Mathlib.Numerals.{add-one}
use lib.ListN.{length, get_or, take}
use lib.Seq.{take-suc}
use Rattle.text.specs.Decimal.{line_of, lines_of, written, next}
use Rattle.text.proofs.Lines.{line_one}
use Rattle.text.specs.Inner.{Wrote}
use Rattle.text.proofs.Writing.{nothing, further, looser, put, two_most, text-append, one_line}
use Rattle.std.specs.Prelude.{Ok, Err}
use Rattle.summary.specs.declared.questions.Unanswered.{Unanswered}
use Rattle.summary.specs.Questions.{Answer, number_of}
use Rattle.mtrask.specs.Promise.{numbers_of, answer_text}

module _ (o : List ℕ) (at : ℕ) (out : List ℕ) (used : ℕ) (room : at + 42 ≤ length o) where
  pub put_refused : (why : Unanswered) (n : ℕ) → n ≡ number_of why → number_of why < 2 ^ 64 → used ≡ next o at (line_of (n ∷ []))
      → out ≡ written o at (line_of (n ∷ [])) → Wrote o at (lines_of (numbers_of (Err why) ∷ [])) 42 out used
  unfolding numbers_of
  put_refused why n en h e t =
      let line : line_of (n ∷ []) ≡ line_of (number_of why ∷ []) = ap (λ (k : ℕ). line_of (k ∷ [])) en in
      subst (λ (x : List ℕ). Wrote o at x 42 out used) (sym (one_line (number_of why ∷ [])))
      (put o at (line_of (number_of why ∷ [])) 42 out used (omega (arith, line_one (number_of why) h)) room (e ∙ ap (next o at) line)
      (t ∙ ap (written o at) line))

  pub put_told : (n : ℕ) → n < 2 ^ 64 → used ≡ next o at (line_of (0 ∷ n ∷ [])) → out ≡ written o at (line_of (0 ∷ n ∷ []))
      → Wrote o at (lines_of (numbers_of (Ok n) ∷ [])) 42 out used
  unfolding numbers_of
  put_told n h e t =
      subst (λ (x : List ℕ). Wrote o at x 42 out used) (sym (one_line (0 ∷ n ∷ [])))
      (put o at (line_of (0 ∷ n ∷ [])) 42 out used (two_most 0 n (omega arith) h) room e t)

map_more : (l : List Answer) (a : Answer) → map numbers_of (l ++ (a ∷ [])) ≡ map numbers_of l ++ (numbers_of a ∷ [])
map_more [] a = refl
map_more (x ∷ l) a = ap (λ (z : List (List ℕ)). numbers_of x ∷ z) (map_more l a)

abbrev none : Answer
none = Ok 0

pub answers-none : (o : List ℕ) (answers : List Answer) → Wrote o 0 (answer_text (take 0 answers)) (42 * 0) o 0
unfolding answer_text lines_of
answers-none o l = nothing o 0

pub answers-more : (o : List ℕ) (answers : List Answer) (i : ℕ) (out : List ℕ) (used : ℕ) (out' : List ℕ) (used' : ℕ) → i < length answers
    → 42 * (i + 1) ≤ length o
    → Wrote o 0 (answer_text (take i answers)) (42 * i) out used
    → Wrote out used (lines_of (numbers_of (get_or answers i none) ∷ [])) 42 out' used'
    → Wrote o 0 (answer_text (take (i + 1) answers)) (42 * (i + 1)) out' used'
unfolding answer_text
answers-more o answers i out used out' used' here room w v =
    let a = get_or answers i none in
    let before = map numbers_of (take i answers) in
    let one : take (i + 1) answers ≡ take i answers ++ (a ∷ []) = ap (λ (k : ℕ). take k answers) (add-one i)
    ∙ take-suc answers i none here in
    let text : lines_of before ++ lines_of (numbers_of a ∷ []) ≡ lines_of (map numbers_of (take (i + 1) answers)) =
    sym (text-append before (numbers_of a ∷ [])) ∙ ap lines_of (sym (map_more (take i answers) a) ∙ ap (map numbers_of) (sym one)) in
    let most : 42 * i + 42 ≡ 42 * (i + 1) = omega arith in
    subst (λ (l : List ℕ). Wrote o 0 l (42 * (i + 1)) out' used') text
    (subst (λ (k : ℕ). Wrote o 0 (lines_of before ++ lines_of (numbers_of a ∷ [])) k out' used') most
    (further o 0 (lines_of before) (42 * i) out used (lines_of (numbers_of a ∷ [])) 42 out' used' w v (omega (arith, room))))

pub answers_all : (o : List ℕ) (answers : List Answer) (i count : ℕ) (out : List ℕ) (used : ℕ) → i ≡ count → count ≤ 64
    → Wrote o 0 (answer_text (take i answers)) (42 * i) out used → Wrote o 0 (answer_text (take count answers)) 2688 out used
answers_all o answers i count out used e h w =
    subst (λ (k : ℕ). Wrote o 0 (answer_text (take k answers)) 2688 out used) e
    (looser o 0 (answer_text (take i answers)) (42 * i) 2688 out used w (omega (arith, e, h)))
