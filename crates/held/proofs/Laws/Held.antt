-- The statements that a scan finds are those of the held ones that its test takes: whether there is one, how many, whether all, and the value of the first.
use Prim.Native.Nat.{ℕ, zero, suc, ◌+◌, ◌*◌, ◌/◌, ◌%◌, ◌^◌, ◌≤◌, ◌<◌}
use Rattle.std.specs.Prelude.{Bool, ◌&&◌, ◌||◌, ◌≡◌, length, get_or}
use Rattle.std.proofs.Math.Bool.{true, false}
use mathlib.Core.List.{List, ◌∷◌}
use Rattle.std.proofs.Math.Path.{refl, sym, ap}
use Rattle.std.proofs.Common.{◌∙◌, div-one, zero-add, arith}
use Rattle.std.specs.Int.Count.{ones, under, count_trailing_zeros}
use Rattle.std.proofs.Math.Dec.{eqb, ltb}
use borrow.Author.Tests.{eqb-true, eqb-false, eq-eqb, ne_eqb, lt-ltb, le-ltb, ltb-true, ltb-false}
use Rattle.laws.specs.Pick.{pick}
use Rattle.laws.specs.Count.{one_if}
use Rattle.laws.specs.Sets.{bit}
use Rattle.format.specs.Form.{present_form}
use Rattle.format.specs.Numbers.{d_get, r_get}
use Rattle.format.specs.declared.Fields.{Fields}
use Rattle.format.specs.Words.{fields_of}
use Rattle.format.specs.Statement.{Statement}
use Rattle.format.specs.Lists.{some, every, number_of, those, leading}
use Rattle.format.specs.Present.{statement_words, statement}
use Rattle.rules.specs.declared.Which.{Which}
use Rattle.rules.specs.declared.Which.TheVariants.{Any, Only}
use Rattle.rules.specs.Rules.{which}
use Rattle.station.specs.Machine.{has_value}
use Rattle.station.proofs.Laws.Pieces.{those_length}
use Rattle.station.proofs.Laws.FitSane.{held_count}
use Rattle.station.specs.Present.{sites, held_in}
use Rattle.held.specs.Scan.{gathered, scan, such}
use Rattle.held.proofs.Laws.Sets.{gathered_low, gathered_none, gathered_two, bit_of}

-- what is read of a slot's first word
pub read_such : (value flag : Which) (slots : List ℕ) (i : ℕ) (f : Fields) (a b : Bool) → f ≡ fields_of (get_or slots (i * statement_words) 0)
    → a ≡ which value f.value → b ≡ which flag f.flag → (a && b) ≡ such value flag (statement slots (i * statement_words))
unfolding fields_of
read_such value flag slots i f a b e p q = rw (p, q, e)

module _ (p : Statement → Bool) (set : ℕ) (slots : List ℕ) where
  -- the test of a number: it is in the set, and its slot's statement is one of those
  abbrev pub found : ℕ → Bool
  found i = bit set i && p (statement slots (i * statement_words))

  pub scan_low : scan p set slots < 2 ^ sites
  unfolding scan
  scan_low = gathered_low found sites 0

  pub scan_bit : (j : ℕ) → j < sites → bit (scan p set slots) j ≡ found j
  unfolding scan
  scan_bit j l = bit_of found j l

  -- ---- the statements found
  held_found : (x m i : ℕ) → ((j : ℕ) → i ≤ j → j < i + m → bit x j ≡ found j) → held_in x slots i m ≡ those p (held_in set slots i m)
  unfolding Rattle.station.specs.Words.held_in those pick
  held_found x zero i h = refl
  held_found x (suc m) i h =
      rw (h i (omega arith) (omega arith)) (go (bit set i) (p (statement slots (i * statement_words))) refl (held_found x m (suc i) (λ j a b. h j (omega arith) (omega arith))))
    where
      go : (b c : Bool) → p (statement slots (i * statement_words)) ≡ c → held_in x slots (suc i) m ≡ those p (held_in set slots (suc i) m)
          → pick (b && c) (statement slots (i * statement_words) ∷ held_in x slots (suc i) m) (held_in x slots (suc i) m)
          ≡ those p (pick b (statement slots (i * statement_words) ∷ held_in set slots (suc i) m) (held_in set slots (suc i) m))
      go true true e ih = rw e (ap (λ (c : List Statement). statement slots (i * statement_words) ∷ c) ih)
      go true false e ih = rw e ih
      go false c e ih = ih

  pub scan_held : held_in (scan p set slots) slots 0 sites ≡ those p (held_in set slots 0 sites)
  scan_held = held_found (scan p set slots) sites 0 (λ j a b. scan_bit j (omega arith))

  pub scan_number : ones (scan p set slots) ≡ number_of p (held_in set slots 0 sites)
  scan_number =
      ap ones (sym (div-one (scan p set slots))) ∙ sym (held_count present_form (scan p set slots) slots sites 0 scan_low) ∙ ap length scan_held
      ∙ those_length p (held_in set slots 0 sites)

  -- ---- whether there is one
  some_from : (m i : ℕ) → ltb 0 (gathered found i m) ≡ some p (held_in set slots i m)
  unfolding gathered Rattle.station.specs.Words.held_in some pick
  some_from zero i = refl
  some_from (suc m) i = go (bit set i) (p (statement slots (i * statement_words))) refl (some_from m (suc i))
    where
      twice : (x : ℕ) (t : Bool) → ltb 0 x ≡ t → ltb 0 (2 * x + 0) ≡ t
      twice x true e = lt-ltb 0 (2 * x + 0) (omega (arith, ltb-true 0 x e))
      twice x false e = let z : 2 * x + 0 ≡ 0 = omega (arith, ltb-false 0 x e) in ap (ltb 0) z

      go : (b c : Bool) → p (statement slots (i * statement_words)) ≡ c → ltb 0 (gathered found (suc i) m) ≡ some p (held_in set slots (suc i) m)
          → ltb 0 (2 * gathered found (suc i) m + one_if (b && c))
          ≡ some p (pick b (statement slots (i * statement_words) ∷ held_in set slots (suc i) m) (held_in set slots (suc i) m))
      go true true e ih = rw e (lt-ltb 0 (2 * gathered found (suc i) m + 1) (omega arith))
      go true false e ih = rw e (twice (gathered found (suc i) m) _ ih)
      go false c e ih = twice (gathered found (suc i) m) _ ih

  pub scan_some : ltb 0 (scan p set slots) ≡ some p (held_in set slots 0 sites)
  unfolding scan
  scan_some = some_from sites 0

  -- ---- whether all are, where the scan for any statement finds them all
  all_from : (m i : ℕ) → eqb (gathered found i m) (gathered (λ j. bit set j && such Any Any (statement slots (j * statement_words))) i m) ≡ every p (held_in set slots i m)
  unfolding gathered Rattle.station.specs.Words.held_in every pick
  all_from zero i = refl
  all_from (suc m) i = go (bit set i) (p (statement slots (i * statement_words))) refl (all_from m (suc i))
    where
      all : ℕ
      all = gathered (λ j. bit set j && such Any Any (statement slots (j * statement_words))) (suc i) m

      twice : (x y b : ℕ) (t : Bool) → eqb x y ≡ t → eqb (2 * x + b) (2 * y + b) ≡ t
      twice x y b true e = eq-eqb (2 * x + b) (2 * y + b) (omega (arith, eqb-true x y e))
      twice x y b false e = ne_eqb (2 * x + b) (2 * y + b) (λ z. omega (arith, eqb-false x y e))

      go : (b c : Bool) → p (statement slots (i * statement_words)) ≡ c → eqb (gathered found (suc i) m) all ≡ every p (held_in set slots (suc i) m)
          → eqb (2 * gathered found (suc i) m + one_if (b && c)) (2 * all + one_if (b && such Any Any (statement slots (i * statement_words))))
          ≡ every p (pick b (statement slots (i * statement_words) ∷ held_in set slots (suc i) m) (held_in set slots (suc i) m))
      go true true e ih = rw e (twice (gathered found (suc i) m) all 1 _ ih)
      go true false e ih = rw e (ne_eqb (2 * gathered found (suc i) m + 0) (2 * all + 1) (λ z. omega arith))
      go false c e ih = twice (gathered found (suc i) m) all 0 _ ih

  pub scan_every : eqb (scan p set slots) (scan (such Any Any) set slots) ≡ every p (held_in set slots 0 sites)
  unfolding scan
  scan_every = all_from sites 0

  -- ---- the first of them, by the lowest bit
  first_from : (m i : ℕ) → 0 < gathered found i m
      → (count_trailing_zeros (suc m) (gathered found i m) < m)
      × (leading p (held_in set slots i m) ≡ (statement slots ((i + count_trailing_zeros (suc m) (gathered found i m)) * statement_words)).value)
  unfolding gathered Rattle.station.specs.Words.held_in leading pick count_trailing_zeros
  first_from zero i h = absurd (omega arith)
  first_from (suc m) i h = go (bit set i) (p (statement slots (i * statement_words))) refl h (first_from m (suc i))
    where
      rest : ℕ
      rest = gathered found (suc i) m

      First : ℕ → List Statement → Type 0
      First n l = (under (n % 2) (count_trailing_zeros (suc m) (n / 2)) < suc m) × (leading p l ≡ (statement slots ((i + under (n % 2) (count_trailing_zeros (suc m) (n / 2))) * statement_words)).value)

      Rest : Type 0
      Rest = 0 < rest → (count_trailing_zeros (suc m) rest < m) × (leading p (held_in set slots (suc i) m) ≡ (statement slots ((suc i + count_trailing_zeros (suc m) rest) * statement_words)).value)

      -- it is further on
      later : Rest → 0 < 2 * rest + 0 → First (2 * rest + 0) (held_in set slots (suc i) m)
      later ih h =
          let a : (2 * rest + 0) % 2 ≡ 0 = omega arith in
          let b : (2 * rest + 0) / 2 ≡ rest = omega arith in
          let r = ih (omega arith) in
          let e : i + suc (count_trailing_zeros (suc m) rest) ≡ suc i + count_trailing_zeros (suc m) rest = omega arith in
          rw (a, b, e) (omega (arith, r.0), r.1)

      go : (b c : Bool) → p (statement slots (i * statement_words)) ≡ c → 0 < 2 * rest + one_if (b && c) → Rest
          → First (2 * rest + one_if (b && c)) (pick b (statement slots (i * statement_words) ∷ held_in set slots (suc i) m) (held_in set slots (suc i) m))
      go true true e h ih =
          let a : (2 * rest + 1) % 2 ≡ 1 = omega arith in
          let b : i + 0 ≡ i = omega arith in
          rw (a, b, e) (omega arith, refl)
      go true false e h ih = rw e (later ih h)
      go false c e h ih = later ih h

  pub scan_first : 0 < scan p set slots
      → (count_trailing_zeros 32 (scan p set slots) < sites) × (leading p (held_in set slots 0 sites) ≡ (statement slots (count_trailing_zeros 32 (scan p set slots) * statement_words)).value)
  unfolding scan
  scan_first h =
      let r = first_from sites 0 h in
      (r.0, r.1 ∙ ap (λ (k : ℕ). (statement slots (k * statement_words)).value) (zero-add (count_trailing_zeros 32 (gathered found 0 sites))))

-- ---- scans put together
module _ (set : ℕ) (slots : List ℕ) where
  pub scan_nothing : (p : Statement → Bool) → ((s : Statement) → p s ≡ false) → 0 ≡ scan p set slots
  unfolding scan
  scan_nothing p h = sym (gathered_none (found p set slots) sites 0 (λ j. go (bit set j) (p (statement slots (j * statement_words))) (h (statement slots (j * statement_words)))))
    where
      go : (b c : Bool) → c ≡ false → (b && c) ≡ false
      go true c e = e
      go false c e = refl

  -- the D-GET proposals, and in round 1 all
  pub scan_first_round : (r : ℕ) → r ≡ 1 → scan (such Any Any) set slots ≡ scan (λ s. eqb r 1 || eqb s.flag d_get) set slots
  scan_first_round r e = rw (eq-eqb r 1 e)

  pub scan_d_get : (r : ℕ) → (r ≡ 1 → ⊥) → scan (such Any (Only d_get)) set slots ≡ scan (λ s. eqb r 1 || eqb s.flag d_get) set slots
  scan_d_get r e = rw (ne_eqb r 1 e)

  -- the R-GET proposals, where they are of a round over 1
  pub scan_r_get : (r : ℕ) → 1 < r → scan (such Any (Only r_get)) set slots ≡ scan (λ s. ltb 1 r && eqb s.flag r_get) set slots
  scan_r_get r l = rw (lt-ltb 1 r l)

  pub scan_early : (r : ℕ) → r ≤ 1 → 0 ≡ scan (λ s. ltb 1 r && eqb s.flag r_get) set slots
  scan_early r l = scan_nothing (λ s. ltb 1 r && eqb s.flag r_get) (λ s. rw (le-ltb 1 r l))

  -- the votes for 0, and those for 1
  pub scan_values : scan (such (Only 0) Any) set slots + scan (such (Only 1) Any) set slots ≡ scan (λ s. ltb s.value 2) set slots
  unfolding scan
  scan_values =
      gathered_two (found (such (Only 0) Any) set slots) (found (such (Only 1) Any) set slots) (found (λ s. ltb s.value 2) set slots) sites 0
      (λ j. go (bit set j) (statement slots (j * statement_words)).value)
    where
      one : (v : ℕ) (a b c : Bool) → ltb v 2 ≡ a → eqb v 0 ≡ b → eqb v 1 ≡ c → one_if a ≡ one_if (b && true) + one_if (c && true)
      one v true true true p q r = absurd (omega (arith, eqb-true v 0 q, eqb-true v 1 r))
      one v true true false p q r = refl
      one v true false true p q r = refl
      one v true false false p q r = absurd (omega (arith, ltb-true v 2 p, eqb-false v 0 q, eqb-false v 1 r))
      one v false true true p q r = absurd (omega (arith, eqb-true v 0 q, eqb-true v 1 r))
      one v false true false p q r = absurd (omega (arith, ltb-false v 2 p, eqb-true v 0 q))
      one v false false true p q r = absurd (omega (arith, ltb-false v 2 p, eqb-true v 1 r))
      one v false false false p q r = refl

      go : (b : Bool) (v : ℕ) → one_if (b && ltb v 2) ≡ one_if (b && (eqb v 0 && true)) + one_if (b && (eqb v 1 && true))
      go true v = one v (ltb v 2) (eqb v 0) (eqb v 1) refl refl refl
      go false v = refl

  -- a scan for a value alone
  and_true : (b : Bool) → (b && true) ≡ b
  and_true true = refl
  and_true false = refl

  pub scan_value : (v : ℕ) → scan (such (Only v) Any) set slots ≡ scan (has_value v) set slots
  scan_value v = ap (λ (p : Statement → Bool). scan p set slots) (λ i s. and_true (eqb s.value v) i)
