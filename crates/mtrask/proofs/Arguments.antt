-- The arguments: how many questions they ask, the numbers that they spell, and the questions that numbers make.
use Prim.Native.Nat.{ℕ, zero, suc, ◌+◌, ◌*◌, ◌-◌, ◌/◌, ◌%◌, ◌≤◌, ◌<◌}
use mathlib.Core.Path.{◌≡◌, refl, sym, ap, ◌∙◌}
use mathlib.Core.List.{List, [], ◌∷◌, ◌++◌}
use mathlib.Core.Bool.{Bool, true, false, cond, ◌&&◌}
use native.Mathlib.Omega.{arith}
use native.Mathlib.Numerals.{add-one}
use lib.Dec.{leb, eqb}
use Rattle.std.specs.Prelude.{Some, None}
use Rattle.std.proofs.Common.{replicate}
use Rattle.std.proofs.lemmas.List.{length-replicate}
use lib.ListN.{length, get_or, set, take, length-append}
use lib.Seq.{take-suc-set}
use borrow.Author.Tests.{le-leb, lt-leb, eq-eqb, ne_eqb, leb-true}
use Rattle.std.specs.Prelude.{Option}
use Rattle.text.specs.Decimal.{number_of}
use Rattle.summary.specs.declared.questions.Question.{Question}
use Rattle.program.specs.Program.{Spelt}
use Rattle.mtrask.specs.declared.questions.Questions.{Questions}
use Rattle.mtrask.specs.Promise.{question_count, joined, numbers_spelt, questions_of, Said, front_of, asked_by, all_asked, Parsed, counted}

some_is : (m n : ℕ) → Some m ≡ Some n → m ≡ n
some_is m n e = cc

some_of : (p q : Questions) → Some p ≡ Some q → p ≡ q
some_of p q e = cc

none_some : (q : Questions) → None ≡ Some q → ⊥
none_some q e = cc

-- How many questions.

abbrev of_tests : (a b c : Bool) (n : ℕ) → Option ℕ
of_tests a b c n = cond (a && (b && c)) (Some n) None

second_fails : (a c : Bool) (n : ℕ) → None ≡ of_tests a false c n
second_fails true c n = refl
second_fails false c n = refl

third_fails : (a b : Bool) (n : ℕ) → None ≡ of_tests a b false n
third_fails true true n = refl
third_fails true false n = refl
third_fails false b n = refl

module _ (all : ℕ) where
  abbrev third : Bool
  third = eqb ((all - 2) % 3) 0

  abbrev n : ℕ
  n = (all - 2) / 3

  pub count_few : all < 5 → None ≡ question_count all
  unfolding question_count
  count_few h = sym (ap (λ (x : Bool). of_tests x (leb all 194) third n) (lt-leb 5 all h))

  pub count_many : 194 < all → None ≡ question_count all
  unfolding question_count
  count_many h = second_fails (leb 5 all) third n ∙ sym (ap (λ (x : Bool). of_tests (leb 5 all) x third n) (lt-leb all 194 h))

  pub count_parts : ((all - 2) % 3 ≡ 0 → ⊥) → None ≡ question_count all
  unfolding question_count
  count_parts f =
      third_fails (leb 5 all) (leb all 194) n ∙ sym (ap (λ (x : Bool). of_tests (leb 5 all) (leb all 194) x n) (ne_eqb ((all - 2) % 3) 0 f))

  pub count_is : 5 ≤ all → all ≤ 194 → (all - 2) % 3 ≡ 0 → Some n ≡ question_count all
  unfolding question_count
  count_is a b c =
      sym
      (ap (λ (x : Bool). of_tests x (leb all 194) third n) (le-leb 5 all a)
      ∙ ap (λ (x : Bool). of_tests true x third n) (le-leb all 194 b)
      ∙ ap (λ (x : Bool). of_tests true true x n) (eq-eqb ((all - 2) % 3) 0 c))

-- no more than 64
pub count_most : (all n : ℕ) → question_count all ≡ Some n → n ≤ 64
unfolding question_count
count_most all n e = most_of (leb 5 all) (leb all 194) (eqb ((all - 2) % 3) 0) (λ t. leb-true all 194 t) e
  where
    most_of : (a b c : Bool) → (b ≡ true → all ≤ 194) → cond (a && (b && c)) (Some ((all - 2) / 3)) None ≡ Some n → n ≤ 64
    most_of false b c h e = cc
    most_of true false c h e = cc
    most_of true true false h e = cc
    most_of true true true h e = omega (arith, h refl, some_is ((all - 2) / 3) n e)

-- The numbers that the arguments spell.

pub said-none : (values : List ℕ) → Said 0 (Some values)
unfolding numbers_spelt
said-none values = record { texts = []; size = refl; values = refl }

abbrev appended : Option (List ℕ) → Option ℕ → Option (List ℕ)
appended (Some l) (Some n) = Some (l ++ (n ∷ []))
appended (Some l) None = None
appended None o = None

joined-appended : (o : Option ℕ) (l : Option (List ℕ)) (p : Option ℕ) → joined o (appended l p) ≡ appended (joined o l) p
joined-appended (Some n) (Some l) (Some m) = refl
joined-appended (Some n) (Some l) None = refl
joined-appended (Some n) None p = refl
joined-appended None l p = refl

joined-first : (o : Option ℕ) → joined o (Some []) ≡ appended (Some []) o
joined-first (Some n) = refl
joined-first None = refl

joined-none : (o : Option ℕ) → joined o None ≡ None
joined-none (Some n) = refl
joined-none None = refl

spelt-more : (ts : List (List ℕ)) (t : List ℕ) → numbers_spelt (ts ++ (t ∷ [])) ≡ appended (numbers_spelt ts) (number_of t)
unfolding numbers_spelt
spelt-more [] t = joined-first (number_of t)
spelt-more (x ∷ ts) t =
    ap (joined (number_of x)) (spelt-more ts t) ∙ joined-appended (number_of x) (numbers_spelt ts) (number_of t)

spelt-none : (ts : List (List ℕ)) (t : List ℕ) (us : List (List ℕ)) → number_of t ≡ None → numbers_spelt (ts ++ (t ∷ us)) ≡ None
unfolding numbers_spelt
spelt-none [] t us e = ap (λ (o : Option ℕ). joined o (numbers_spelt us)) e
spelt-none (x ∷ ts) t us e = ap (joined (number_of x)) (spelt-none ts t us e) ∙ joined-none (number_of x)

-- one argument more, which spells a number, or none
pub said_more : (i : ℕ) (values : List ℕ) (n : ℕ) (o : Option ℕ) → Said i (Some values) → i < length values → Spelt o → o ≡ Some n
    → Said (i + 1) (Some (set values i n))
said_more i values n o w h s e =
    let ts = w.texts in
    record {
      texts = ts ++ (s.text ∷ []);
      size = length-append ts (s.text ∷ []) ∙ ap (λ (k : ℕ). k + 1) w.size;
      values =
          ap (λ (k : ℕ). Some (take k (set values i n))) (add-one i) ∙ ap Some (take-suc-set values i n h)
          ∙ ap (λ (l : Option (List ℕ)). appended l (Some n)) w.values
          ∙ ap (appended (numbers_spelt ts)) (sym e ∙ s.spelt) ∙ sym (spelt-more ts s.text);
    }

pub said_bad : (i count : ℕ) (values : List ℕ) (o : Option ℕ) (r : Option (List ℕ)) → Said i (Some values) → i < count → Spelt o
    → o ≡ None → r ≡ None → Said count r
said_bad i count values o r w h s e f =
    let rest = replicate (count - i - 1) [] in
    record {
      texts = w.texts ++ (s.text ∷ rest);
      size = length-append w.texts (s.text ∷ rest) ∙ omega (arith, w.size, length-replicate {A = List ℕ} (count - i - 1) [], h);
      values = ap (front_of count) f ∙ sym (spelt-none w.texts s.text rest (sym s.spelt ∙ e));
    }

-- The questions that numbers make.

abbrev pub triple : ℕ → ℕ → ℕ → Question
triple t a b = record { thread = t; first = a; second = b }

abbrev thrice : ℕ → ℕ
thrice zero = zero
thrice (suc i) = suc (suc (suc (thrice i)))

thrice_is : (i : ℕ) → thrice i ≡ 3 * i
thrice_is zero = refl
thrice_is (suc i) = omega (arith, thrice_is i)

next-triple : (i : ℕ) (l : List ℕ) → thrice i + 2 < length l
    → questions_of (take (thrice (suc i)) l)
    ≡ questions_of (take (thrice i) l)
    ++ (triple (get_or l (thrice i) 0) (get_or l (suc (thrice i)) 0) (get_or l (suc (suc (thrice i))) 0) ∷ [])
unfolding questions_of
next-triple i [] h = absurd (omega arith)
next-triple i (t ∷ []) h = absurd (omega arith)
next-triple i (t ∷ a ∷ []) h = absurd (omega arith)
next-triple zero (t ∷ a ∷ b ∷ l) h = refl
next-triple (suc i) (t ∷ a ∷ b ∷ l) h = ap (λ (x : List Question). triple t a b ∷ x) (next-triple i l (omega arith))

pub asked-none : (values : List ℕ) → [] ≡ questions_of (take (3 * 0) values)
unfolding questions_of
asked-none values = refl

-- one question more
pub asked-more : {x y z : ℕ} (i : ℕ) (values : List ℕ) (questions : List Question) → i < length questions → 3 * i + 2 < length values
    → x ≡ 3 * i → y ≡ 3 * i + 1 → z ≡ 3 * i + 2 → take i questions ≡ questions_of (take (3 * i) values)
    → take (i + 1) (set questions i (triple (get_or values x 0) (get_or values y 0) (get_or values z 0)))
    ≡ questions_of (take (3 * (i + 1)) values)
asked-more {x} {y} {z} i values questions h room ex ey ez e =
    let q = triple (get_or values x 0) (get_or values y 0) (get_or values z 0) in
    let at = thrice_is i in
    let dx : thrice i ≡ x = omega (arith, at, ex) in
    let dy : suc (thrice i) ≡ y = omega (arith, at, ey) in
    let dz : suc (suc (thrice i)) ≡ z = omega (arith, at, ez) in
    let all : thrice (suc i) ≡ 3 * (i + 1) = omega (arith, at) in
    let here : triple (get_or values (thrice i) 0) (get_or values (suc (thrice i)) 0) (get_or values (suc (suc (thrice i))) 0) ≡ q =
    ap (λ (n : ℕ). triple (get_or values n 0) (get_or values (suc (thrice i)) 0) (get_or values (suc (suc (thrice i))) 0)) dx
    ∙ ap (λ (n : ℕ). triple (get_or values x 0) (get_or values n 0) (get_or values (suc (suc (thrice i))) 0)) dy
    ∙ ap (λ (n : ℕ). triple (get_or values x 0) (get_or values y 0) (get_or values n 0)) dz in
    ap (λ (n : ℕ). take n (set questions i q)) (add-one i) ∙ take-suc-set questions i q h
    ∙ ap (λ (l : List Question). l ++ (q ∷ [])) (e ∙ ap (λ (n : ℕ). questions_of (take n values)) (sym at))
    ∙ ap (λ (p : Question). questions_of (take (thrice i) values) ++ (p ∷ [])) (sym here)
    ∙ sym (next-triple i values (omega (arith, at, room)))
    ∙ ap (λ (n : ℕ). questions_of (take n values)) all

-- all of it
pub unspelt : (all count : ℕ) (v : Option (List ℕ)) (r : Option Questions) → question_count all ≡ Some count → Said (3 * count) v
    → v ≡ None → r ≡ None → Parsed r
unspelt all count v r e w n f =
    counted all count w.texts e w.size (ap all_asked f ∙ ap (λ (o : Option (List ℕ)). asked_by (front_of (3 * count) o)) (sym n)
    ∙ ap asked_by w.values)
    (λ q h. absurd (none_some q (sym f ∙ h)))

pub spelt : (all count : ℕ) (v : Option (List ℕ)) (values : List ℕ) (q : Questions) → question_count all ≡ Some count
    → Said (3 * count) v → v ≡ Some values → take count q.all ≡ questions_of (take (3 * count) values) → q.count ≡ count → Parsed (Some q)
spelt all count v values q e w n f c =
    counted all count w.texts e w.size
    (ap (λ (k : ℕ). Some (take k q.all)) c ∙ ap Some f
    ∙ ap (λ (o : Option (List ℕ)). asked_by (front_of (3 * count) o)) (sym n) ∙ ap asked_by w.values)
    (λ p h. ap (λ (r : Questions). r.count) (sym (some_of q p h)) ∙ c)
