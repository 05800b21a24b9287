-- Sets that are gathered by a test: one turn of the loop that gathers them, their bits, and their size as words.
use Prim.Native.Nat.{ℕ, zero, suc, ◌+◌, ◌-◌, ◌*◌, ◌/◌, ◌%◌, ◌^◌, ◌≤◌, ◌<◌}
use Rattle.std.specs.Prelude.{Bool, not, ◌&&◌, ◌≡◌, eqb, leb}
use Rattle.std.proofs.Math.Bool.{true, false}
use Rattle.std.proofs.Math.Path.{refl}
use Rattle.std.proofs.Common.{sym, ap, ◌∙◌, div-one, lt_of_lt_of_le, one-mul, lit<, pow_pos, pow_mono, shl_exact, eqb-true, eq-eqb, ne_eqb, leb-true}
use Rattle.std.proofs.Math.Nat.{pow-suc, div-div-eq-div-mul, div-eq_of_lt}
use native.Mathlib.Omega.{arith}
use mir.Val.{bool_byte}
use Rattle.std.proofs.lemmas.Bool.{eqb-false, not-false}
use Rattle.laws.specs.Bools.{both}
use Rattle.laws.specs.Count.{one_if}
use Rattle.laws.specs.Sets.{bit}
use Rattle.format.specs.Present.{most_stations}
use Rattle.station.specs.Present.{sites}
use Rattle.held.specs.Scan.{gathered}

-- a test as a number, as `u32::from` makes it
pub as_number : (b : Bool) → bool_byte b ≡ one_if b
as_number true = refl
as_number false = refl

-- no number above 31 is in the set that a word holds
pub none_above : (h i : ℕ) → h < 2 ^ 32 → 31 < i → false ≡ bit h i
none_above h i b l =
    let z : h / 2 ^ i ≡ 0 = div-eq_of_lt (lt_of_lt_of_le b (pow_mono l)) in
    rw z

-- the empty set has no number
pub no_bit : (i : ℕ) → bit 0 i ≡ false
no_bit i = let e : 0 / 2 ^ i ≡ 0 = div-eq_of_lt (pow_pos i) in rw e

-- a number that passed the test is a station's
pub is_station : (s : ℕ) → not (leb 1 s && leb s most_stations) ≡ false → (1 ≤ s) × (s ≤ most_stations)
is_station s e = let b = both (leb 1 s) _ (not-false _ e) in (leb-true _ _ b.0, leb-true _ _ b.1)

-- one bit as a word
pub one_bit : (i : ℕ) → i ≤ 31 → 1 * 2 ^ i % 2 ^ 32 ≡ 2 ^ i
one_bit i h = shl_exact 1 i 32 (lit< tt) (omega arith) ∙ one-mul (2 ^ i)

pub half : (x i : ℕ) → x / 2 ^ i / 2 ≡ x / 2 ^ suc i
half x i = div-div-eq-div-mul x (2 ^ i) 2 ∙ ap (λ (z : ℕ). x / z) (sym (pow-suc 2 i))

module _ (f : ℕ → Bool) where
  pub gathered_low : (m i : ℕ) → gathered f i m < 2 ^ m
  unfolding gathered
  gathered_low zero i = omega arith
  gathered_low (suc m) i = rw pow-suc (go (f i) (gathered_low m (suc i)))
    where
      go : (b : Bool) → gathered f (suc i) m < 2 ^ m → 2 * gathered f (suc i) m + one_if b < 2 ^ m * 2
      go true h = omega arith
      go false h = omega arith

  -- there is room for one bit more in the loop that gathers them, which comes down from the last
  pub gathered_room : (i out : ℕ) → i ≤ sites → out ≡ gathered f i (sites - i) → 2 * out < 2 ^ 32
  gathered_room i out h e =
      let l : gathered f i (sites - i) < 2 ^ 31 = lt_of_lt_of_le (gathered_low (sites - i) i) (pow_mono {j = 31} (omega arith)) in
      omega (arith, l)

  turn : (j m k : ℕ) → suc j ≡ k → 2 * gathered f k m + one_if (f j) ≡ gathered f j (suc m)
  unfolding gathered
  turn j m k e = rw (← e)

  -- the turn of the loop that comes to the number i - 1, of which `one` says whether it is taken
  pub gathered_turn : (i out one : ℕ) → 0 < i → i ≤ sites → out ≡ gathered f i (sites - i) → one ≡ one_if (f (i - 1))
      → (2 * out + one < 2 ^ 32) × (2 * out + one ≡ gathered f (i - 1) (sites - (i - 1)))
  gathered_turn i out one low high e g =
      let n : sites - (i - 1) ≡ suc (sites - i) = omega arith in
      let s : suc (i - 1) ≡ i = omega arith in
      let t : 2 * out + one ≡ gathered f (i - 1) (sites - (i - 1)) = rw (n, e, g) (turn (i - 1) (sites - i) i s) in
      let l : gathered f (i - 1) (sites - (i - 1)) < 2 ^ 32 = lt_of_lt_of_le (gathered_low (sites - (i - 1)) (i - 1)) (pow_mono {j = 32} (omega arith)) in
      (omega arith, t)

  pub gathered_end : (i : ℕ) → i ≤ 0 → gathered f i (sites - i) ≡ gathered f 0 sites
  gathered_end i h = let e : i ≡ 0 = omega arith in rw e

  -- whether a number is in it
  pub gathered_bit : (m i x j : ℕ) → x / 2 ^ i ≡ gathered f i m → i ≤ j → j < i + m → bit x j ≡ f j
  unfolding gathered
  gathered_bit zero i x j e lo hi = absurd (omega arith)
  gathered_bit (suc m) i x j e lo hi = go (eqb j i) refl (λ z. gathered_bit m (suc i) x j next z (omega arith))
    where
      digit : (b : Bool) → x / 2 ^ i ≡ 2 * gathered f (suc i) m + one_if b → x / 2 ^ i % 2 ≡ one_if b
      digit true e = omega arith
      digit false e = omega arith

      rest : (b : Bool) → x / 2 ^ i ≡ 2 * gathered f (suc i) m + one_if b → x / 2 ^ i / 2 ≡ gathered f (suc i) m
      rest true e = omega arith
      rest false e = omega arith

      next : x / 2 ^ suc i ≡ gathered f (suc i) m
      next = sym (half x i) ∙ rest (f i) e

      is_digit : (b : Bool) → x / 2 ^ i % 2 ≡ one_if b → bit x i ≡ b
      is_digit true d = eq-eqb _ 1 d
      is_digit false d = ne_eqb (x / 2 ^ i % 2) 1 (λ z. omega (arith, d))

      go : (b : Bool) → eqb j i ≡ b → (suc i ≤ j → bit x j ≡ f j) → bit x j ≡ f j
      go true s ih = let z : j ≡ i = eqb-true j i s in rw z (is_digit (f i) (digit (f i) e))
      go false s ih = ih (omega (arith, eqb-false j i s))

  pub bit_of : (j : ℕ) → j < sites → bit (gathered f 0 sites) j ≡ f j
  bit_of j l = gathered_bit sites 0 (gathered f 0 sites) j (div-one (gathered f 0 sites)) (omega arith) (omega arith)

pub gathered_none : (f : ℕ → Bool) (m i : ℕ) → ((j : ℕ) → f j ≡ false) → gathered f i m ≡ 0
unfolding gathered
gathered_none f zero i h = refl
gathered_none f (suc m) i h = rw (h i, gathered_none f m (suc i) h)

-- two tests of which no number passes both
pub gathered_two : (f g h : ℕ → Bool) (m i : ℕ) → ((j : ℕ) → one_if (h j) ≡ one_if (f j) + one_if (g j)) → gathered f i m + gathered g i m ≡ gathered h i m
unfolding gathered
gathered_two f g h zero i e = refl
gathered_two f g h (suc m) i e = omega (arith, gathered_two f g h m (suc i) e, e i)
