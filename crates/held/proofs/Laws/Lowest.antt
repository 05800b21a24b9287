-- The k lowest of a set are the first k statements; and a set of held statements is the set of their stations, where each slot holds its own station's.
use Prim.Native.Nat.{ℕ, zero, suc, ◌+◌, ◌-◌, ◌*◌, ◌/◌, ◌%◌, ◌^◌, ◌≤◌, ◌<◌}
use Rattle.std.specs.Prelude.{Bool, ◌&&◌, ◌≡◌}
use Rattle.std.proofs.Math.Bool.{true, false}
use mathlib.Core.List.{List, [], ◌∷◌, ◌++◌}
use Rattle.std.proofs.Math.Path.{refl, sym, ap}
use Rattle.std.proofs.Common.{◌∙◌, pow-suc, add-mul, mul_assoc, div-one, mod-lt, one-add, pow_pos}
use Rattle.std.proofs.Math.Nat.{add-zero, mul_comm, div-eq_of_lt, mod-one}
use native.Mathlib.Omega.{arith}
use Rattle.std.specs.Int.Count.{ones, ones-ones}
use Rattle.std.proofs.lemmas.Nat.{ones_cat, mod-pow-add}
use Rattle.std.proofs.Math.Dec.{ltb}
use Rattle.std.proofs.Math.ListN.{take}
use borrow.Author.Tests.{eqb-true, eqb-false, ltb-true, ltb-false}
use Rattle.laws.specs.Pick.{pick}
use Rattle.laws.specs.Bools.{both}
use Rattle.laws.specs.All.{All, all_two}
use Rattle.laws.specs.Sets.{bit}
use Rattle.format.specs.Form.{present_form}
use Rattle.format.specs.Statement.{Statement}
use Rattle.format.specs.Lists.{those}
use Rattle.format.proofs.Laws.ReadBack.{Proper, statement_drop, statement_back}
use Rattle.format.specs.Present.{most_stations, statement_words, statement, written}
use Rattle.rules.specs.Rules.{Rising}
use Rattle.station.specs.Words.{set_of}
use Rattle.station.proofs.Laws.Slots.{bit_set, slot_held, slot_at, held_back}
use Rattle.station.proofs.Laws.Sane.{find}
use Rattle.station.specs.Present.{sites, held_in, slot_of, slots_of}
use Rattle.held.specs.Scan.{scan, lowest}
use Rattle.held.proofs.Laws.Sets.{half, gathered_low, bit_of}
use Rattle.held.proofs.Laws.Held.{scan_bit, scan_held}

-- ---- the k lowest
module _ (set k : ℕ) where
  pub lowest_bit : (j : ℕ) → j < sites → bit (lowest set k) j ≡ (bit set j && ltb (ones (set % 2 ^ j)) k)
  unfolding lowest
  lowest_bit j l = bit_of (λ i. bit set i && ltb (ones (set % 2 ^ i)) k) j l

  pub lowest_low : lowest set k < 2 ^ sites
  unfolding lowest
  lowest_low = gathered_low (λ i. bit set i && ltb (ones (set % 2 ^ i)) k) sites 0

  one_more : (i : ℕ) → ones (set % 2 ^ suc i) ≡ ones (set / 2 ^ i % 2) + ones (set % 2 ^ i)
  one_more i =
      let m : set % 2 ^ (1 + i) ≡ (set / 2 ^ i % 2) * 2 ^ i + set % 2 ^ i = mod-pow-add set 1 i in
      let n : set % 2 ^ suc i ≡ (set / 2 ^ i % 2) * 2 ^ i + set % 2 ^ i = rw (one-add i) at m in
      ap ones n ∙ ones_cat i (set / 2 ^ i % 2) (set % 2 ^ i) (mod-lt set (pow_pos i))

  more_there : (i : ℕ) → bit set i ≡ true → ones (set % 2 ^ suc i) ≡ suc (ones (set % 2 ^ i))
  more_there i e =
      let d : set / 2 ^ i % 2 ≡ 1 = eqb-true (set / 2 ^ i % 2) 1 e in
      one_more i ∙ rw (d, ones-ones 1) (omega arith)

  more_missing : (i : ℕ) → bit set i ≡ false → ones (set % 2 ^ suc i) ≡ ones (set % 2 ^ i)
  more_missing i e =
      let d : set / 2 ^ i % 2 ≡ 0 = omega (arith, eqb-false (set / 2 ^ i % 2) 1 e) in
      one_more i ∙ rw (d, ones-ones 0) (omega arith)

  module _ (slots : List ℕ) where
    first_held : (m i : ℕ) → i + m ≤ sites → held_in (lowest set k) slots i m ≡ take (k - ones (set % 2 ^ i)) (held_in set slots i m)
    unfolding Rattle.station.specs.Words.held_in pick
    first_held zero i room = sym (take_none (k - ones (set % 2 ^ i)))
      where
        take_none : (j : ℕ) → take {A = Statement} j [] ≡ []
        take_none zero = refl
        take_none (suc j) = refl
    first_held (suc m) i room =
        rw (lowest_bit i (omega arith)) (go (bit set i) refl (ltb (ones (set % 2 ^ i)) k) refl (first_held m (suc i) (omega arith)))
      where
        go : (b : Bool) → bit set i ≡ b → (c : Bool) → ltb (ones (set % 2 ^ i)) k ≡ c
            → held_in (lowest set k) slots (suc i) m ≡ take (k - ones (set % 2 ^ suc i)) (held_in set slots (suc i) m)
            → pick (b && c) (statement slots (i * statement_words) ∷ held_in (lowest set k) slots (suc i) m) (held_in (lowest set k) slots (suc i) m)
            ≡ take (k - ones (set % 2 ^ i)) (pick b (statement slots (i * statement_words) ∷ held_in set slots (suc i) m) (held_in set slots (suc i) m))
        go true x true y ih =
            let e : k - ones (set % 2 ^ i) ≡ suc (k - ones (set % 2 ^ suc i)) = omega (arith, ltb-true (ones (set % 2 ^ i)) k y, more_there i x) in
            rw e (ap (λ (c : List Statement). statement slots (i * statement_words) ∷ c) ih)
        go true x false y ih =
            let e : k - ones (set % 2 ^ i) ≡ 0 = omega (arith, ltb-false (ones (set % 2 ^ i)) k y) in
            let f : k - ones (set % 2 ^ suc i) ≡ 0 = omega (arith, ltb-false (ones (set % 2 ^ i)) k y, more_there i x) in
            rw e (ih ∙ ap (λ (j : ℕ). take j (held_in set slots (suc i) m)) f)
        go false x c y ih = ih ∙ ap (λ (j : ℕ). take (k - j) (held_in set slots (suc i) m)) (more_missing i x)

    pub lowest_held : held_in (lowest set k) slots 0 sites ≡ take k (held_in set slots 0 sites)
    lowest_held =
        let z : set % 2 ^ 0 ≡ 0 = mod-one set in
        let e : k - ones (set % 2 ^ 0) ≡ k = rw (z, ones-ones 0) (omega arith) in
        first_held sites 0 (omega arith) ∙ ap (λ (j : ℕ). take j (held_in set slots 0 sites)) e

-- ---- the set of the stations held
-- each slot of the set holds a statement of its own station
abbrev pub Own : ℕ → List ℕ → Type 0
Own set slots = (j : ℕ) → j < sites → bit set j ≡ true → (statement slots (j * statement_words)).station ≡ suc j

module _ (set : ℕ) (slots : List ℕ) (own : Own set slots) where
  set_from : (k i : ℕ) → i + k ≤ sites → set < 2 ^ (i + k) → set_of (held_in set slots i k) ≡ set / 2 ^ i * 2 ^ i
  unfolding Rattle.station.specs.Words.held_in pick set_of
  set_from zero i room low =
      let z : set / 2 ^ i ≡ 0 = div-eq_of_lt (rw add-zero at low) in
      rw z (omega arith)
  set_from (suc k) i room low =
      let e : i + suc k ≡ suc i + k = omega arith in
      go (bit set i) refl (set_from k (suc i) (omega arith) (rw e at low))
    where
      above : set / 2 ^ suc i * 2 ^ suc i ≡ set / 2 ^ suc i * 2 * 2 ^ i
      above = ap (λ (z : ℕ). set / 2 ^ suc i * z) (pow-suc 2 i ∙ mul_comm (2 ^ i) 2) ∙ sym (mul_assoc (set / 2 ^ suc i) 2 (2 ^ i))

      from : (b : ℕ) → set / 2 ^ i ≡ set / 2 ^ suc i * 2 + b → set / 2 ^ i * 2 ^ i ≡ set / 2 ^ suc i * 2 * 2 ^ i + b * 2 ^ i
      from b e = ap (λ (z : ℕ). z * 2 ^ i) e ∙ add-mul (set / 2 ^ suc i * 2) b (2 ^ i)

      go : (b : Bool) → bit set i ≡ b → set_of (held_in set slots (suc i) k) ≡ set / 2 ^ suc i * 2 ^ suc i
          → set_of (pick b (statement slots (i * statement_words) ∷ held_in set slots (suc i) k) (held_in set slots (suc i) k)) ≡ set / 2 ^ i * 2 ^ i
      go true e ih =
          let s : (statement slots (i * statement_words)).station - 1 ≡ i = omega (arith, own i (omega arith) e) in
          let d : set / 2 ^ i % 2 ≡ 1 = eqb-true (set / 2 ^ i % 2) 1 e in
          let w : set / 2 ^ i * 2 ^ i ≡ set / 2 ^ suc i * 2 * 2 ^ i + 1 * 2 ^ i = from 1 (omega (arith, half set i)) in
          rw s (omega (arith, above))
      go false e ih =
          let d : (set / 2 ^ i % 2 ≡ 1 → ⊥) = eqb-false (set / 2 ^ i % 2) 1 e in
          let w : set / 2 ^ i * 2 ^ i ≡ set / 2 ^ suc i * 2 * 2 ^ i + 0 * 2 ^ i = from 0 (omega (arith, half set i, d)) in
          omega (arith, above)

  pub set_held : set < 2 ^ sites → set_of (held_in set slots 0 sites) ≡ set
  set_held low = set_from sites 0 (omega arith) low ∙ omega (arith, div-one set)

-- ---- written from a list of statements by rising station
-- a slot of the set of statements holds one of its own station
own_slot : (n : ℕ) (h : List Statement) → n ≤ most_stations → Rising 0 h → All (Proper present_form n) h → Own (set_of h) (slots_of h 1 sites)
own_slot n h top r a j few e =
    let f = find (λ s. (slot_of h s.station ≡ written s) × Proper present_form n s) (suc j) h
    (all_two (λ s. slot_of h s.station ≡ written s) (Proper present_form n) h (slot_held present_form 0 h r) a) (sym (bit_set h r j) ∙ e) in
    let w : slot_of h (suc j) ≡ written f.one = ap (slot_of h) (sym f.of_station) ∙ f.has.0 in
    let d : statement (slots_of h 1 sites) (j * statement_words) ≡ f.one
    = statement_drop present_form (slots_of h 1 sites) (j * statement_words)
    ∙ ap (λ (l : List ℕ). statement l 0) (slot_at present_form n h j a few ∙ ap (λ (l : List ℕ). l ++ slots_of h (suc (suc j)) (sites - suc j)) w)
    ∙ statement_back present_form n f.one (slots_of h (suc (suc j)) (sites - suc j)) top f.has.1 in
    ap (λ (s : Statement). s.station) d ∙ f.of_station

-- the set of the k lowest-numbered that a test takes
pub lowest_set : (n : ℕ) (p : Statement → Bool) (h : List Statement) (k : ℕ) → n ≤ most_stations → Rising 0 h → All (Proper present_form n) h
    → lowest (scan p (set_of h) (slots_of h 1 sites)) k ≡ set_of (take k (those p h))
lowest_set n p h k top r a =
    sym (set_held (lowest found k) slots own (lowest_low found k))
    ∙ ap set_of (lowest_held found k slots ∙ ap (take k) (scan_held p (set_of h) slots) ∙ ap (λ (l : List Statement). take k (those p l)) (held_back present_form n h top r a))
  where
    slots : List ℕ
    slots = slots_of h 1 sites

    found : ℕ
    found = scan p (set_of h) slots

    own : Own (lowest found k) slots
    own j l e =
        let b = both (bit found j) (ltb (ones (found % 2 ^ j)) k) (sym (lowest_bit found k j l) ∙ e) in
        let d = both (bit (set_of h) j) (p (statement slots (j * statement_words))) (sym (scan_bit p (set_of h) slots j l) ∙ b.0) in
        own_slot n h top r a j l d.0
