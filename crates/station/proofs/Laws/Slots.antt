-- A station's set and slots, written from the statements held, are read back as these.
use Prim.Native.Nat.{ℕ, zero, suc, ◌+◌, ◌-◌, ◌*◌, ◌^◌, ◌≤◌, ◌<◌}
use Rattle.std.specs.Prelude.{Bool, ◌≡◌, eqb}
use Rattle.std.proofs.Math.Bool.{true, false}
use mathlib.Core.List.{List, [], ◌∷◌, ◌++◌}
use Rattle.std.proofs.Math.Path.{refl, ap}
use Rattle.std.proofs.Common.{sym, ◌∙◌, subst, add-zero, pow_pos, drop_at, eqb-true, eq-eqb, ne_eqb}
use Rattle.std.proofs.Math.Nat.{zero-add, zero-div}
use native.Mathlib.Omega.{arith}
use Rattle.std.specs.Int.Count.{ones, ones-ones}
use Rattle.std.proofs.Math.ListN.{length, drop, length-append, length-replicate}
use Rattle.std.proofs.Math.Seq.{drop-drop}
use Rattle.std.proofs.lemmas.Bool.{eqb-false}
use Rattle.laws.specs.Pick.{pick}
use Rattle.laws.specs.All.{All, all_map, all_two}
use Rattle.laws.specs.Sets.{bit, set_same, set_other, ones_bit_set, bit_fits}
use Rattle.format.specs.Form.{Form, most_stations, statement_words}
use Rattle.format.specs.Statement.{Statement, statement, written}
use Rattle.format.specs.Lists.{some}
use Rattle.format.proofs.Laws.Shape.{formed_out}
use Rattle.rules.specs.Rules.{Rising}
use Rattle.station.specs.Machine.{held_of}
use Rattle.station.specs.Words.{held_in, set_of, slot_of, slots_of, sites}
use Rattle.format.proofs.Laws.ReadBack.{Proper, statement_drop, statement_back, length_written}

-- ---- rising stations
pub rising_from : (a b : ℕ) (h : List Statement) → b ≤ a → Rising a h → Rising b h
rising_from a b [] e r = tt
rising_from a b (s ∷ h) e r = (omega (arith, r.0), r.1)

pub rising_above : (a : ℕ) (h : List Statement) → Rising a h → All (λ s. a < s.station) h
rising_above a [] r = tt
rising_above a (s ∷ h) r = (r.0, all_map (λ t e. omega (arith, r.0)) h (rising_above s.station h r.1))

pub below_not_held : (a j : ℕ) (h : List Statement) → Rising a h → j ≤ a → held_of j h ≡ false
unfolding some
below_not_held a j [] r e = refl
below_not_held a j (s ∷ h) r e = rw (ne_eqb s.station j (λ z. omega (arith, r.0))) (below_not_held s.station j h r.1 (omega (arith, r.0)))

-- ---- the set
no_bits : (j : ℕ) → bit 0 j ≡ false
no_bits j = rw (zero-div (2 ^ j))

module _ (s : Statement) (h : List Statement) (low : 1 ≤ s.station) (r : Rising s.station h) where
  -- the station's bit is not there yet
  fresh : ((j : ℕ) → bit (set_of h) j ≡ held_of (suc j) h) → bit (set_of h) (s.station - 1) ≡ false
  fresh ih =
      let e : suc (s.station - 1) ≡ s.station = omega arith in
      ih (s.station - 1) ∙ ap (λ (k : ℕ). held_of k h) e ∙ below_not_held s.station s.station h r (omega arith)

pub bit_set : (h : List Statement) → Rising 0 h → (j : ℕ) → bit (set_of h) j ≡ held_of (suc j) h
unfolding set_of some
bit_set [] r j = no_bits j
bit_set (s ∷ h) r j = go (eqb j (s.station - 1)) refl (bit_set h (rising_from s.station 0 h (omega arith) r.1))
  where
    go : (b : Bool) → eqb j (s.station - 1) ≡ b → ((j : ℕ) → bit (set_of h) j ≡ held_of (suc j) h) → bit (set_of h + 2 ^ (s.station - 1)) j ≡ held_of (suc j) (s ∷ h)
    go true e ih =
        let x : j ≡ s.station - 1 = eqb-true _ _ e in
        let y : s.station ≡ suc j = omega (arith, r.0) in
        rw (eq-eqb s.station (suc j) y) (ap (λ (k : ℕ). bit (set_of h + 2 ^ (s.station - 1)) k) x ∙ set_same (set_of h) (s.station - 1) (fresh s h r.0 r.1 ih))
    go false e ih =
        rw (ne_eqb s.station (suc j) (λ z. eqb-false j (s.station - 1) e (omega (arith, r.0))))
        (set_other (set_of h) (s.station - 1) j (fresh s h r.0 r.1 ih) (eqb-false _ _ e) ∙ ih j)

pub ones_set : (h : List Statement) → Rising 0 h → ones (set_of h) ≡ length h
unfolding set_of
ones_set [] r = ones-ones 0
ones_set (s ∷ h) r =
    let low : Rising 0 h = rising_from s.station 0 h (omega arith) r.1 in
    omega (arith, ones_bit_set (set_of h) (s.station - 1) (fresh s h r.0 r.1 (bit_set h low)), ones_set h low)

pub set_low : (k : ℕ) (h : List Statement) → Rising 0 h → All (λ s. s.station ≤ k) h → set_of h < 2 ^ k
unfolding set_of
set_low k [] r a = pow_pos k
set_low k (s ∷ h) r a =
    let low : Rising 0 h = rising_from s.station 0 h (omega arith) r.1 in
    bit_fits (set_of h) (s.station - 1) (fresh s h r.0 r.1 (bit_set h low)) k (omega (arith, r.0, a.0)) (set_low k h low a.1)

module _ (form : Form) where
  -- ---- the slots
  pub slot_length : (n : ℕ) (h : List Statement) (i : ℕ) → All (Proper form n) h → length (slot_of form h i) ≡ statement_words form
  unfolding slot_of pick
  slot_length n [] i a = length-replicate {A = ℕ} (statement_words form) 0
  slot_length n (s ∷ h) i a = go (eqb s.station i) (slot_length n h i a.1)
    where
      go : (b : Bool) → length (slot_of form h i) ≡ statement_words form → length (pick b (written form s) (slot_of form h i)) ≡ statement_words form
      go true ih = length_written form n s a.0
      go false ih = ih

  pub slots_length : (n : ℕ) (h : List Statement) (i k : ℕ) → All (Proper form n) h → length (slots_of form h i k) ≡ k * statement_words form
  unfolding slots_of
  slots_length n h i zero a = omega arith
  slots_length n h i (suc k) a = length-append (slot_of form h i) (slots_of form h (suc i) k) ∙ omega (arith, slot_length n h i a, slots_length n h (suc i) k a)

  pub slots_drop : (n : ℕ) (h : List Statement) (j i k : ℕ) → All (Proper form n) h → drop (j * statement_words form) (slots_of form h i (j + k)) ≡ slots_of form h (i + j) k
  unfolding slots_of
  slots_drop n h zero i k a =
      let e : 0 * statement_words form ≡ 0 = omega arith in
      rw (e, zero-add, add-zero)
  slots_drop n h (suc j) i k a =
      let e : suc j * statement_words form ≡ statement_words form + j * statement_words form = omega arith in
      let f : suc j + k ≡ suc (j + k) = omega arith in
      let g : i + suc j ≡ suc i + j = omega arith in
      rw (e, f, g, ← drop-drop (j * statement_words form) (statement_words form) (slots_of form h i (suc (j + k))))
      (ap (drop (j * statement_words form)) (drop_at (slot_of form h i) (slots_of form h (suc i) (j + k)) (statement_words form) (slot_length n h i a)) ∙ slots_drop n h j (suc i) k a)

  -- slot j begins with station j + 1's words
  pub slot_at : (n : ℕ) (h : List Statement) (j : ℕ) → All (Proper form n) h → j < sites form → drop (j * statement_words form) (slots_of form h 1 (sites form)) ≡ slot_of form h (suc j) ++ slots_of form h (suc (suc j)) (sites form - suc j)
  unfolding slots_of
  slot_at n h j a low =
      let e : sites form ≡ j + suc (sites form - suc j) = omega arith in
      let f : 1 + j ≡ suc j = omega arith in
      ap (λ (k : ℕ). drop (j * statement_words form) (slots_of form h 1 k)) e ∙ slots_drop n h j 1 (suc (sites form - suc j)) a ∙ ap (λ (k : ℕ). slots_of form h k (suc (sites form - suc j))) f

  -- the slot of a held statement's station has its words
  pub slot_held : (a : ℕ) (h : List Statement) → Rising a h → All (λ s. slot_of form h s.station ≡ written form s) h
  unfolding slot_of pick
  slot_held a [] r = tt
  slot_held a (s ∷ h) r = (
    rw (eq-eqb s.station s.station refl),
    all_map (λ t p. rw (ne_eqb s.station t.station (λ e. omega (arith, p.0))) p.1) h
        (all_two (λ t. s.station < t.station) (λ t. slot_of form h t.station ≡ written form t) h (rising_above s.station h r.1) (slot_held s.station h r.1)),
  )

  -- ---- reading the slots
  collect : (set : ℕ) (slots : List ℕ) (k i : ℕ) (h : List Statement) → Rising i h → All (λ s. s.station ≤ i + k) h
      → ((j : ℕ) → i ≤ j → bit set j ≡ held_of (suc j) h) → All (λ s. statement form slots ((s.station - 1) * statement_words form) ≡ s) h → held_in form set slots i k ≡ h
  unfolding held_in pick some
  collect set slots zero i [] r a b w = refl
  collect set slots zero i (s ∷ h) r a b w = absurd (omega (arith, r.0, a.0))
  collect set slots (suc k) i [] r a b w = rw (b i (omega arith)) (collect set slots k (suc i) [] tt tt (λ j e. b j (omega arith)) tt)
  collect set slots (suc k) i (s ∷ h) r a b w = go (eqb s.station (suc i)) refl (collect set slots k (suc i))
    where
      Rest : Type 0
      Rest = (l : List Statement) → Rising (suc i) l → All (λ s. s.station ≤ suc i + k) l
          → ((j : ℕ) → suc i ≤ j → bit set j ≡ held_of (suc j) l) → All (λ s. statement form slots ((s.station - 1) * statement_words form) ≡ s) l → held_in form set slots (suc i) k ≡ l

      go : (c : Bool) → eqb s.station (suc i) ≡ c → Rest
          → pick (bit set i) (statement form slots (i * statement_words form) ∷ held_in form set slots (suc i) k) (held_in form set slots (suc i) k) ≡ s ∷ h
      go true e ih =
          let x : s.station ≡ suc i = eqb-true _ _ e in
          let y : bit set i ≡ true = b i (omega arith) ∙ rw e in
          let p : (s.station - 1) * statement_words form ≡ i * statement_words form = ap (λ (z : ℕ). z * statement_words form) (omega arith) in
          let one : statement form slots (i * statement_words form) ≡ s = ap (statement form slots) (sym p) ∙ w.0 in
          let more : held_in form set slots (suc i) k ≡ h
          = ih h (subst (λ (z : ℕ). Rising z h) x r.1) (all_map (λ t z. omega arith) h a.1)
          (λ j z. b j (omega arith) ∙ rw (ne_eqb s.station (suc j) (λ q. omega arith))) w.1 in
          rw y (λ j. one j ∷ more j)
      go false e ih =
          let x : suc i < s.station = omega (arith, r.0, eqb-false s.station (suc i) e) in
          let y : bit set i ≡ false = b i (omega arith) ∙ below_not_held (suc i) (suc i) (s ∷ h) (x, r.1) (omega arith) in
          rw y (ih (s ∷ h) (x, r.1) (all_map (λ t z. omega arith) (s ∷ h) a) (λ j z. b j (omega arith)) w)

  pub held_back : (n : ℕ) (h : List Statement) → n ≤ most_stations form → Rising 0 h → All (Proper form n) h → held_in form (set_of h) (slots_of form h 1 (sites form)) 0 (sites form) ≡ h
  held_back n h top r a =
      collect (set_of h) (slots_of form h 1 (sites form)) (sites form) 0 h r (all_map (λ s p. omega (arith, (formed_out form n s p.formed).high)) h a)
      (λ j e. bit_set h r j)
      (all_map at h (all_two (λ s. 0 < s.station) (λ s. Proper form n s × (slot_of form h s.station ≡ written form s)) h (rising_above 0 h r)
      (all_two (Proper form n) (λ s. slot_of form h s.station ≡ written form s) h a (slot_held 0 h r))))
    where
      at : (s : Statement) → (0 < s.station) × (Proper form n s × (slot_of form h s.station ≡ written form s)) → statement form (slots_of form h 1 (sites form)) ((s.station - 1) * statement_words form) ≡ s
      at s p =
          let j : ℕ = s.station - 1 in
          let e : suc (s.station - 1) ≡ s.station = omega (arith, p.0) in
          let low : s.station - 1 < sites form = omega (arith, (formed_out form n s p.1.0.formed).high) in
          let d : drop ((s.station - 1) * statement_words form) (slots_of form h 1 (sites form)) ≡ written form s ++ slots_of form h (suc (suc (s.station - 1))) (sites form - suc (s.station - 1))
          = slot_at n h (s.station - 1) a low ∙ ap (λ (l : List ℕ). l ++ slots_of form h (suc (suc (s.station - 1))) (sites form - suc (s.station - 1))) (ap (slot_of form h) e ∙ p.1.1) in
          statement_drop form (slots_of form h 1 (sites form)) ((s.station - 1) * statement_words form)
          ∙ ap (λ (l : List ℕ). statement form l 0) d
          ∙ statement_back form n s (slots_of form h (suc (suc (s.station - 1))) (sites form - suc (s.station - 1))) top p.1.0
