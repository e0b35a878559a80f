-- RULE 6.9: a call, a start and the question for a subtree are refused with the number of a named refusal.
use Prim.Native.Nat.{ℕ}
use mathlib.Core.Path.{refl}
use mathlib.Core.List.{List, [], ◌∷◌}
use mathlib.Core.Bool.{Bool, true, not, ◌&&◌}
use lib.Dec.{T, eqb}
use borrow.Author.Tests.{eqb-true}
use Rattle.base.specs.Checks.{Check, ◌⇒◌, first_of}
use Rattle.base.proofs.Bools.{is, and_l, and_r}
use Rattle.answers.specs.Numbers.{refusal_named, number_in, refused_or}
use Rattle.answers.proofs.Refusals.{Named, either}
use Rattle.rule.specs.State.{State, open_at}
use Rattle.rule.specs.Sound.{sound}
use Rattle.rule.specs.Refusals.{Call, open_group, close_group, admit, remove, wake, dispatch, report, change, admit_effort}
use Rattle.rule.specs.Refusals.{checks, refusal, start_refusal}
use Rattle.rule.specs.Tree.{subtree_refusal}

abbrev is_named : Check → Bool
is_named c = eqb (number_in (refused_or c.number (tt {0}))) c.number

abbrev are_named : List Check → Bool
are_named [] = true
are_named (c ∷ cs) = is_named c && are_named cs

-- the number of the first check that applies, of checks that have the numbers of refusals
first_named : (cs : List Check) → T (are_named cs) → Named (first_of cs)
unfolding first_of
first_named [] t = refl
first_named (c ∷ cs) t =
    either c.applies c.number (first_of cs)
    (eqb-true (number_in (refused_or c.number (tt {0}))) c.number (is (is_named c) (and_l (is_named c) (are_named cs) t)))
    (first_named cs (and_r (is_named c) (are_named cs) t))

all_named : (c : Call) (s : State) → T (are_named ((not (sound s) ⇒ 16) ∷ checks c s))
unfolding checks refusal_named
all_named (open_group n p d) s = tt
all_named (close_group n) s = tt
all_named (admit n g f) s = tt
all_named (remove n) s = tt
all_named (wake n) s = tt
all_named dispatch s = tt
all_named (report reason used) s = tt
all_named (change n f) s = tt
all_named (admit_effort n w) s = tt

pub call_named : (c : Call) (s : State) → Named (refusal c s)
unfolding refusal
call_named c s = first_named ((not (sound s) ⇒ 16) ∷ checks c s) (all_named c s)

pub start_named : (m p o : ℕ) → Named (start_refusal m p o)
unfolding start_refusal refusal_named
start_named m p o = first_named _ tt

pub subtree_named : (s : State) (g : ℕ) → Named (subtree_refusal s g)
unfolding subtree_refusal refusal_named
subtree_named s g = first_named ((not (sound s) ⇒ 16) ∷ (not (open_at s g) ⇒ 2) ∷ []) tt
