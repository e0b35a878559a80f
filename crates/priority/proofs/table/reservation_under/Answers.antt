-- `reservation_under` meets its contract: each check is that of the definition, in its order.
use mathlib.Core.Path.{◌≡◌, sym, ap, ◌∙◌}
use mathlib.Core.Bool.{true, false, cond, not}
use Prim.Native.Nat.{ℕ, ◌≤◌, ◌<◌}
use native.Mathlib.Omega.{arith}
use lib.Dec.{ltb, leb}
use lib.ListN.{length, length-take}
use borrow.Author.Tests.{ltb-true, ltb-false, leb-true, leb-false, le-ltb, lt-leb}
use Rattle.std.specs.Prelude.{Some, None, Ok, Err, position}
use Rattle.base.specs.Checks.{within}
use Rattle.base.proofs.Bools.{cases, holds}
use Rattle.priority.specs.declared.table.PriorityTable.{PriorityTable}
use Rattle.priority.specs.declared.table.TableRefusal.TheVariants.{Rows, Row, Cover, Priority}
use Rattle.priority.specs.declared.table.Held.TheVariants.{One}
use Rattle.priority.specs.Table.{well_formed, well_formed_rows, rows_with, lowest_bad, rows_of, lookup}
use Rattle.priority.specs.Inner.{held_of}
use Rattle.priority.specs.Usable.{Within}
use Rattle.priority.proofs.Formed.{is_within}
use Rattle.priority.proofs.Lookup.{bad_row_lem, bad_cover_lem, given}
use Rattle.priority.proofs.Cover.{bad_before}
use Rattle.priority.proofs.Held.{one-held, held-one, fits}
use Rattle.priority.proofs.Rows.{first_bad}
use Rattle.priority.proofs.table.reservation_under.Goals as goal

-- what an answer tells of the number that it is made of
below-some : (n m i : ℕ) → cond (ltb n m) (Some n) None ≡ Some i → (n < m) × (i ≡ n)
below-some n m i e =
    cases (ltb n m)
    (λ b. let k : Some n ≡ Some i = sym (ap (λ b. cond b (Some n) None) b) ∙ e in (ltb-true n m b, cc))
    (λ b. let k : None ≡ Some i = sym (ap (λ b. cond b (Some n) None) b) ∙ e in absurd (cc))

below-none : (n m : ℕ) → cond (ltb n m) (Some n) None ≡ None → m ≤ n
below-none n m e =
    cases (ltb n m)
    (λ b. let k : Some n ≡ None = sym (ap (λ b. cond b (Some n) None) b) ∙ e in absurd (cc))
    (λ b. ltb-false n m b)

upto-some : (n m i : ℕ) → cond (leb n m) (Some n) None ≡ Some i → (n ≤ m) × (i ≡ n)
upto-some n m i e =
    cases (leb n m)
    (λ b. let k : Some n ≡ Some i = sym (ap (λ b. cond b (Some n) None) b) ∙ e in (leb-true n m b, cc))
    (λ b. let k : None ≡ Some i = sym (ap (λ b. cond b (Some n) None) b) ∙ e in absurd (cc))

upto-none : (n m : ℕ) → cond (leb n m) (Some n) None ≡ None → m < n
upto-none n m e =
    cases (leb n m)
    (λ b. let k : Some n ≡ None = sym (ap (λ b. cond b (Some n) None) b) ∙ e in absurd (cc))
    (λ b. leb-false n m b)

module _ (t : PriorityTable) (p : ℕ) where
  no_rows : within 1 10 t.count ≡ false → Err Rows ≡ lookup t p
  unfolding lookup
  no_rows e = rw e

  module _ (long : length t.rows ≡ 10) (counted : within 1 10 t.count ≡ true) where
    range : Within 1 10 t.count
    range = is_within 1 10 t.count (holds (within 1 10 t.count) counted)

    size : length (rows_of t) ≡ t.count
    size = let r = range.1 in simp length-take (omega (arith, long))

    row : (i : ℕ) → position (λ w. not (well_formed w)) (rows_of t) ≡ Some i → Err (Row i) ≡ lookup t p
    row i e =
        let f = first_bad (rows_of t) in
        let k = below-some (well_formed_rows (rows_of t)) (length (rows_of t)) i
        (ap (λ (n : ℕ). cond (ltb n (length (rows_of t))) (Some n) None) (sym f) ∙ e) in
        ap (λ (n : ℕ). Err (Row n)) k.1 ∙ sym (bad_row_lem t p range.0 range.1 (omega (arith, k.0, size)))

    module _ (none : position (λ w. not (well_formed w)) (rows_of t) ≡ None) where
      formed : t.count ≤ well_formed_rows (rows_of t)
      formed =
          let f = first_bad (rows_of t) in
          omega (
            arith,
            size,
            below-none (well_formed_rows (rows_of t)) (length (rows_of t))
                (ap (λ (n : ℕ). cond (ltb n (length (rows_of t))) (Some n) None) (sym f) ∙ none),
          )

      cover : (q : ℕ) → cond (leb (lowest_bad (rows_of t)) 10) (Some (lowest_bad (rows_of t))) None ≡ Some q → Err (Cover q) ≡ lookup t p
      cover q e =
          let k = upto-some (lowest_bad (rows_of t)) 10 q e in
          ap (λ (n : ℕ). Err (Cover n)) k.1 ∙ sym (bad_cover_lem t p range.0 range.1 formed k.0)

      module _ (all : cond (leb (lowest_bad (rows_of t)) 10) (Some (lowest_bad (rows_of t))) None ≡ None) where
        covered : 10 < lowest_bad (rows_of t)
        covered = upto-none (lowest_bad (rows_of t)) 10 all

        asked : within 1 10 p ≡ false → Err Priority ≡ lookup t p
        unfolding lookup
        asked e =
            rw (
              counted,
              le-ltb (well_formed_rows (rows_of t)) t.count formed,
              lt-leb (lowest_bad (rows_of t)) 10 covered,
              e,
            )

        module _ (inside : within 1 10 p ≡ true) where
          own : Within 1 10 p
          own = is_within 1 10 p (holds (within 1 10 p) inside)

          one : rows_with p (rows_of t) ≡ 1
          one = bad_before 10 1 (rows_of t) p own.0 (omega (arith, own.1, covered))

          found : (f : ℕ) → held_of p (rows_of t) ≡ One f → Ok f ≡ lookup t p
          found f e =
              ap Ok (held-one p f (rows_of t) e).1 ∙ sym (given t p range.0 range.1 formed covered own.0 own.1)

          small : (f : ℕ) → held_of p (rows_of t) ≡ One f → Within 1 1000 f
          small f e = rw (held-one p f (rows_of t) e).1 (fits p (rows_of t) (omega (arith, size, formed)) one)

pub returns-then-not-within : goal.returns-then-not-within
returns-then-not-within c = no_rows c.args.table c.args.priority (sym c.within.ensures ∙ c.if-not-within.true)

pub shared_ref_as_front-rows : goal.shared_ref_as_front-rows
shared_ref_as_front-rows c =
    let k : length c.args.table.rows ≡ 10 = search in
    (range c.args.table c.args.priority k (sym c.within.ensures ∙ c.if-not-within.false)).1

pub returns-in-Some : goal.returns-in-Some
returns-in-Some c =
    let k : length c.args.table.rows ≡ 10 = search in
    row c.args.table c.args.priority k (sym c.within.ensures ∙ c.if-not-within.false) c.in-Some.row (sym c.bad_row.ensures ∙ c.in-Some.is)

pub returns-in-Some-lowest_bad : goal.returns-in-Some-lowest_bad
returns-in-Some-lowest_bad c =
    let k : length c.args.table.rows ≡ 10 = search in
    cover c.args.table c.args.priority k (sym c.within.ensures ∙ c.if-not-within.false) (sym c.bad_row.ensures ∙ c.in_default.is)
    c.in-Some-lowest_bad.lowest (sym c.lowest_bad.ensures ∙ c.in-Some-lowest_bad.is)

pub returns-then-not-within-2 : goal.returns-then-not-within-2
returns-then-not-within-2 c =
    let k : length c.args.table.rows ≡ 10 = search in
    asked c.args.table c.args.priority k (sym c.within.ensures ∙ c.if-not-within.false) (sym c.bad_row.ensures ∙ c.in_default.is)
    (sym c.lowest_bad.ensures ∙ c.in_default-lowest_bad.is) (sym c.within-2.ensures ∙ c.if-not-within-2.true)

pub overflow_cast-result-in-One : goal.overflow_cast-result-in-One
overflow_cast-result-in-One c =
    let k : length c.args.table.rows ≡ 10 = search in
    let s = small c.args.table c.args.priority k (sym c.within.ensures ∙ c.if-not-within.false) (sym c.bad_row.ensures ∙ c.in_default.is)
    (sym c.lowest_bad.ensures ∙ c.in_default-lowest_bad.is) (sym c.within-2.ensures ∙ c.if-not-within-2.false)
    c.in-One.reservation (sym c.held_in.ensures ∙ c.in-One.is) in
    record { fits = omega (arith, s.1) }

pub overflow_cast-result-in_default-held_in : goal.overflow_cast-result-in_default-held_in
overflow_cast-result-in_default-held_in c =
    let s = is_within 1 10 c.args.priority (holds (within 1 10 c.args.priority) (sym c.within-2.ensures ∙ c.if-not-within-2.false)) in
    record { fits = omega (arith, s.1) }

pub returns-in-One : goal.returns-in-One
returns-in-One c =
    let k : length c.args.table.rows ≡ 10 = search in
    found c.args.table c.args.priority k (sym c.within.ensures ∙ c.if-not-within.false) (sym c.bad_row.ensures ∙ c.in_default.is)
    (sym c.lowest_bad.ensures ∙ c.in_default-lowest_bad.is) (sym c.within-2.ensures ∙ c.if-not-within-2.false)
    c.in-One.reservation (sym c.held_in.ensures ∙ c.in-One.is)

pub returns-in_default-held_in : goal.returns-in_default-held_in
returns-in_default-held_in c =
    let k : length c.args.table.rows ≡ 10 = search in
    let e = one c.args.table c.args.priority k (sym c.within.ensures ∙ c.if-not-within.false) (sym c.bad_row.ensures ∙ c.in_default.is)
    (sym c.lowest_bad.ensures ∙ c.in_default-lowest_bad.is) (sym c.within-2.ensures ∙ c.if-not-within-2.false) in
    absurd (c.in_default-held_in.not-One _ (c.held_in.ensures ∙ one-held c.args.priority (rows_of c.args.table) e))
