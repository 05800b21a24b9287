-- Statements of words, taken, dropped and counted, and how many a bundle has.
use Prim.Native.Nat.{ℕ, zero, suc, ◌+◌, ◌-◌, ◌*◌, ◌/◌, ◌%◌, ◌^◌, ◌≤◌}
use Rattle.std.specs.Prelude.{Bool, ◌&&◌, ◌≡◌, get_or}
use Rattle.std.proofs.Math.Bool.{true, false}
use mathlib.Core.List.{List, [], ◌∷◌}
use Rattle.std.proofs.Math.Path.{refl, ap}
use Rattle.std.proofs.Math.Nat.{sub-zero}
use native.Mathlib.Omega.{arith}
use Rattle.std.proofs.Math.Dec.{eqb, ltb}
use Rattle.std.proofs.Math.ListN.{length, take, drop}
use borrow.Author.Tests.{eqb-true, ltb-true, ltb-false, leb-true}
use Rattle.laws.specs.Pick.{pick}
use Rattle.laws.specs.Bools.{both}
use Rattle.format.specs.Numbers.{head_mark, mark_bit, middle_bits, count_bits}
use Rattle.format.specs.Form.{Form, most_statements, head_bits, statement_words, place_of, bundle_words}
use Rattle.format.specs.Statement.{Statement, statement, statements}
use Rattle.format.specs.Bundle.{head_fits, count_in, laid_out}
use Rattle.laws.specs.Least.{least}

module _ (form : Form) where
  pub parts_length : (ws : List ℕ) (at c : ℕ) → length (statements form ws at c) ≡ c
  unfolding statements
  parts_length ws at zero = refl
  parts_length ws at (suc c) = ap suc (parts_length ws (at + statement_words form) c)

  take_few : (ws : List ℕ) (at k c : ℕ) → k ≤ c → take k (statements form ws at c) ≡ statements form ws at k
  unfolding statements
  take_few ws at zero c h = refl
  take_few ws at (suc k) zero h = absurd (omega arith)
  take_few ws at (suc k) (suc c) h = ap (λ (l : List Statement). statement form ws at ∷ l) (take_few ws (at + statement_words form) k c (omega arith))

  take_many : (ws : List ℕ) (at k c : ℕ) → c ≤ k → take k (statements form ws at c) ≡ statements form ws at c
  unfolding statements
  take_many ws at zero zero h = refl
  take_many ws at zero (suc c) h = absurd (omega arith)
  take_many ws at (suc k) zero h = refl
  take_many ws at (suc k) (suc c) h = ap (λ (l : List Statement). statement form ws at ∷ l) (take_many ws (at + statement_words form) k c (omega arith))

  drop_few : (ws : List ℕ) (at k c : ℕ) → k ≤ c → drop k (statements form ws at c) ≡ statements form ws (at + k * statement_words form) (c - k)
  unfolding statements
  drop_few ws at zero c h =
      let e : at + 0 * statement_words form ≡ at = omega arith in
      rw (e, sub-zero)
  drop_few ws at (suc k) zero h = absurd (omega arith)
  drop_few ws at (suc k) (suc c) h =
      let e : at + suc k * statement_words form ≡ at + statement_words form + k * statement_words form = omega arith in
      let f : suc c - suc k ≡ c - k = omega arith in
      rw (e, f) (drop_few ws (at + statement_words form) k c (omega arith))

  drop_many : (ws : List ℕ) (at k c : ℕ) → c ≤ k → drop k (statements form ws at c) ≡ []
  unfolding statements
  drop_many ws at zero zero h = refl
  drop_many ws at zero (suc c) h = absurd (omega arith)
  drop_many ws at (suc k) zero h = refl
  drop_many ws at (suc k) (suc c) h = drop_many ws (at + statement_words form) k c (omega arith)

  -- the first k of c statements
  pub parts_take : (ws : List ℕ) (at k c : ℕ) → take k (statements form ws at c) ≡ statements form ws at (least k c)
  unfolding least pick
  parts_take ws at k c = go (ltb k c) refl
    where
      go : (t : Bool) → ltb k c ≡ t → take k (statements form ws at c) ≡ statements form ws at (pick t k c)
      go true e = take_few ws at k c (omega (arith, ltb-true k c e))
      go false e = take_many ws at k c (omega (arith, ltb-false k c e))

  -- the statements behind the first k of c
  pub parts_drop : (ws : List ℕ) (at k c : ℕ) → drop k (statements form ws at c) ≡ statements form ws (at + least k c * statement_words form) (c - least k c)
  unfolding least pick statements
  parts_drop ws at k c = go (ltb k c) refl
    where
      go : (t : Bool) → ltb k c ≡ t → drop k (statements form ws at c) ≡ statements form ws (at + pick t k c * statement_words form) (c - pick t k c)
      go true e = drop_few ws at k c (omega (arith, ltb-true k c e))
      go false e =
          let z : c - c ≡ 0 = omega arith in
          rw z (drop_many ws at k c (omega (arith, ltb-false k c e)))

  -- where the words are laid out as a bundle: how many statements, and how many words
  pub sizes : (ws : List ℕ) → laid_out form ws ≡ true → (count_in ws ≤ most_statements form) × (length ws ≡ place_of form 1 + count_in ws * statement_words form)
  unfolding laid_out
  sizes ws h =
      let b = both (head_fits form (get_or ws 0 0)) _ h in
      let f = both (eqb (get_or ws 0 0 / 2 ^ mark_bit) head_mark && eqb (get_or ws 0 0 / 2 ^ count_bits % 2 ^ middle_bits) (head_bits form)) _ b.0 in
      let l : length ws ≡ bundle_words form (count_in ws) = eqb-true _ _ b.1 in
      (leb-true _ _ f.1, omega arith)
