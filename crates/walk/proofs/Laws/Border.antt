-- The two groups of a walk: what is found in the first, between them and in the second is, together, that the certificate is not as the rules ask.
use Rattle.std.specs.Prelude.{ℕ, zero, suc, ◌+◌, ◌-◌, ◌*◌, Bool, ◌&&◌, ◌||◌, ◌≡◌, ltb, length}
use Rattle.std.proofs.Math.Bool.{true, false, not}
use mathlib.Core.List.{List, [], ◌∷◌}
use Rattle.std.proofs.Math.Path.{refl, sym, ap}
use Rattle.std.proofs.Common.{◌∙◌, arith, eq-eqb, ne_eqb, eqb-true, ltb-false}
use Rattle.std.proofs.Math.Nat.{sub-zero}
use Rattle.std.proofs.Math.Dec.{eqb}
use Rattle.std.proofs.lemmas.Bool.{eqb-false}
use Rattle.laws.specs.Pick.{pick, here, skip}
use Rattle.laws.specs.Bools.{and_assoc, or_assoc}
use Rattle.laws.specs.Least.{least}
use Rattle.format.specs.Form.{present_form}
use Rattle.format.specs.Numbers.{kind_init}
use Rattle.format.specs.Words.{fields_of}
use Rattle.format.specs.Statement.{Statement}
use Rattle.format.specs.Lists.{some}
use Rattle.rules.specs.declared.Group.{Group}
use Rattle.rules.specs.Rules.{some_d_get}
use Rattle.rules.specs.Test.{in_order, holds, first_group, second_group, has_second, early_toss, rest_holds, spread, groups_hold, rule}
use Rattle.walk.specs.Walk.{first_size, second_size}
use Rattle.format.proofs.Laws.Parts.{parts_length, parts_take, parts_drop}
use Rattle.format.specs.Present.{place_of, statement_words, formed, statement, statements, fields_at, all_formed, main_of}

-- ---- a certificate in two parts
pub formed_split : (n : ℕ) (ws : List ℕ) (at k j : ℕ) → all_formed n ws at (k + j) ≡ (all_formed n ws at k && all_formed n ws (at + k * statement_words) j)
unfolding Rattle.format.specs.Bundle.all_formed
formed_split n ws at zero j =
    let e : at + 0 * statement_words ≡ at = omega arith in
    let z : 0 + j ≡ j = omega arith in
    rw (e, z)
formed_split n ws at (suc k) j =
    let e : at + suc k * statement_words ≡ at + statement_words + k * statement_words = omega arith in
    let f : suc k + j ≡ suc (k + j) = omega arith in
    rw (e, f, formed_split n ws (at + statement_words) k j) (sym (and_assoc (formed n (fields_at ws at)) (all_formed n ws (at + statement_words) k) (all_formed n ws (at + statement_words + k * statement_words) j)))

pub some_split : (p : Statement → Bool) (ws : List ℕ) (at k j : ℕ)
    → some p (statements ws at (k + j)) ≡ (some p (statements ws at k) || some p (statements ws (at + k * statement_words) j))
unfolding some Rattle.format.specs.Statement.statements
some_split p ws at zero j =
    let e : at + 0 * statement_words ≡ at = omega arith in
    let z : 0 + j ≡ j = omega arith in
    rw (e, z)
some_split p ws at (suc k) j =
    let e : at + suc k * statement_words ≡ at + statement_words + k * statement_words = omega arith in
    let f : suc k + j ≡ suc (k + j) = omega arith in
    rw (e, f, some_split p ws (at + statement_words) k j) (sym (or_assoc (p (statement ws at)) (some p (statements ws (at + statement_words) k)) (some p (statements ws (at + statement_words + k * statement_words) j))))

-- ---- the rules
least_zero : (b : ℕ) → least 0 b ≡ 0
unfolding least pick
least_zero b = go (ltb 0 b) refl
  where
    go : (t : Bool) → ltb 0 b ≡ t → pick t 0 b ≡ 0
    go true e = refl
    go false e = omega (arith, ltb-false 0 b e)

-- in a list that is empty all stations rise
empty_rises : (g : Group) (c : List Statement) → eqb (length c) 0 ≡ (eqb (length c) 0 && in_order g 0 c)
unfolding in_order
empty_rises g [] = refl
empty_rises g (s ∷ c) = rw (ne_eqb (suc (length c)) 0 (λ e. omega arith))

not_both : (a b : Bool) → (not a || not b) ≡ not (a && b)
not_both true b = refl
not_both false b = refl

-- the faults of 6, one behind the other, and the rules' tests
tidy : (a b c d e f : Bool) → (a || not b || not (c && d && e) || not f) ≡ not (not a && (c && b && d && (e && f)))
tidy true b c d e f = refl
tidy false true true true true f = refl
tidy false true true true false f = refl
tidy false true true false e f = refl
tidy false true false d e f = refl
tidy false false true d e f = refl
tidy false false false d e f = refl

module _ (n : ℕ) (ws : List ℕ) where
  -- the groups that the main statement asks for
  abbrev pub one : Group
  one = first_group n (main_of ws).kind (main_of ws).value (main_of ws).flag (main_of ws).round

  abbrev pub two : Group
  two = second_group n (main_of ws).value (main_of ws).round

  -- what is found of 6 where the first group is c, and d, of `rest` statements, behind it
  abbrev pub missed : ℕ → List Statement → ℕ → List Statement → Bool
  missed have c rest d =
      early_toss (main_of ws).kind (main_of ws).flag (main_of ws).round
      || not (in_order one 0 c)
      || not (eqb have (first_size (fields_at ws (place_of 0)) one) && spread (main_of ws) c && eqb rest (second_size (fields_at ws (place_of 0)) two (some_d_get c)))
      || not (in_order two 0 d)

  rest_is : (c d : List Statement) → rest_holds n (main_of ws) c d ≡ (eqb (length d) (second_size (fields_at ws (place_of 0)) two (some_d_get c)) && in_order two 0 d)
  unfolding rest_holds second_size holds fields_of pick
  rest_is c d = go (has_second (main_of ws).kind (main_of ws).value (main_of ws).round (some_d_get c))
    where
      go : (b : Bool) → pick b (eqb (length d) two.size && in_order two 0 d) (eqb (length d) 0) ≡ (eqb (length d) (pick b two.size 0) && in_order two 0 d)
      go true = refl
      go false = empty_rises two d

  module _ (count : ℕ) where
    groups_are : (have : ℕ) → least one.size count ≡ have
        → groups_hold n (main_of ws) one (statements ws (place_of 1) count)
        ≡ (eqb have one.size && in_order one 0 (statements ws (place_of 1) have) && spread (main_of ws) (statements ws (place_of 1) have)
        && (eqb (count - have) (second_size (fields_at ws (place_of 0)) two (some_d_get (statements ws (place_of 1) have))) && in_order two 0 (statements ws (place_of 1 + have * statement_words) (count - have))))
    unfolding groups_hold holds
    groups_are have e =
        let c : List Statement = statements ws 11 have in
        let d : List Statement = statements ws (place_of 1 + have * statement_words) (count - have) in
        rw (parts_take present_form ws (place_of 1) one.size count, parts_drop present_form ws (place_of 1) one.size count, e, rest_is c d, parts_length present_form ws (place_of 1) have, parts_length present_form ws (place_of 1 + have * statement_words) (count - have))

    -- the main statement is no INIT
    module _ (k : (main_of ws).kind ≡ kind_init → ⊥) where
      size_is : first_size (fields_at ws (place_of 0)) one ≡ one.size
      unfolding first_size fields_of
      size_is = sym (skip _ _ _ _ (ne_eqb _ _ k) refl)

      rule_is : (c : List Statement) → rule n (main_of ws) c ≡ (not (early_toss (main_of ws).kind (main_of ws).flag (main_of ws).round) && groups_hold n (main_of ws) one c)
      unfolding rule
      rule_is c = sym (skip _ _ _ _ (ne_eqb _ _ k) refl)

      of_others : (have : ℕ) → least (first_size (fields_at ws (place_of 0)) one) count ≡ have
          → missed have (statements ws (place_of 1) have) (count - have) (statements ws (place_of 1 + have * statement_words) (count - have))
          ≡ not (rule n (main_of ws) (statements ws (place_of 1) count))
      of_others have e =
          let c : List Statement = statements ws 11 have in
          rw (rule_is (statements ws 11 count), groups_are have (ap (λ x. least x count) (sym size_is) ∙ e), size_is)
          (tidy (early_toss (main_of ws).kind (main_of ws).flag (main_of ws).round) (in_order one 0 c) (eqb have one.size) (spread (main_of ws) c)
          (eqb (count - have) (second_size (fields_at ws 1) two (some_d_get c))) (in_order two 0 (statements ws (place_of 1 + have * statement_words) (count - have))))

    -- it is one, and asks for an empty certificate
    module _ (k : (main_of ws).kind ≡ kind_init) where
      no_size : first_size (fields_at ws (place_of 0)) one ≡ 0
      unfolding first_size fields_of
      no_size = sym (here _ _ _ (eq-eqb _ _ k))

      no_second : (dget : Bool) → second_size (fields_at ws (place_of 0)) two dget ≡ 0
      unfolding second_size has_second fields_of
      no_second dget = sym (skip _ _ _ _ (rw k) refl)

      no_toss : early_toss (main_of ws).kind (main_of ws).flag (main_of ws).round ≡ false
      unfolding early_toss
      no_toss = rw k

      no_spread : (c : List Statement) → spread (main_of ws) c ≡ true
      unfolding spread
      no_spread c = rw k

      init_rule : (c : List Statement) → rule n (main_of ws) c ≡ eqb (length c) 0
      unfolding rule
      init_rule c = sym (here _ _ _ (eq-eqb _ _ k))

      of_init : (have : ℕ) → 0 ≡ have
          → missed have (statements ws (place_of 1) have) (count - have) (statements ws (place_of 1 + have * statement_words) (count - have))
          ≡ not (rule n (main_of ws) (statements ws (place_of 1) count))
      unfolding Rattle.format.specs.Statement.statements in_order some
      of_init have e =
          let d : List Statement = statements ws 11 count in
          let rises : eqb count 0 ≡ (eqb count 0 && in_order two 0 d) = rw (parts_length present_form ws (place_of 1) count) at (empty_rises two d) in
          rw (← e, no_toss, no_spread [], no_size, no_second false, init_rule d, parts_length present_form ws (place_of 1) count, sub-zero count)
          (not_both (eqb count 0) (in_order two 0 d) ∙ ap not (sym rises))

    pub missed_is : (have : ℕ) → least (first_size (fields_at ws (place_of 0)) one) count ≡ have
        → missed have (statements ws (place_of 1) have) (count - have) (statements ws (place_of 1 + have * statement_words) (count - have))
        ≡ not (rule n (main_of ws) (statements ws (place_of 1) count))
    missed_is have e = go (eqb (main_of ws).kind kind_init) refl
      where
        go : (b : Bool) → eqb (main_of ws).kind kind_init ≡ b
            → missed have (statements ws (place_of 1) have) (count - have) (statements ws (place_of 1 + have * statement_words) (count - have))
            ≡ not (rule n (main_of ws) (statements ws (place_of 1) count))
        go true k = of_init (eqb-true _ _ k) have (sym (ap (λ x. least x count) (no_size (eqb-true _ _ k)) ∙ least_zero count) ∙ e)
        go false k = of_others (eqb-false _ _ k) have e
