-- Whether the fields of a word are in place, from its top five bits and its round: `formed_word`.
use Rattle.std.specs.Prelude.{ℕ, zero, suc, ◌/◌, ◌%◌, ◌^◌, ◌<◌, Bool, true, false, not, ◌&&◌, ◌||◌, ◌≡◌, refl, eqb, leb}
use Rattle.std.proofs.Common.{ap, ◌∙◌, arith, eqb-true, le-leb}
use Rattle.std.proofs.lemmas.Bool.{eqb-false}
use Rattle.laws.specs.Bools.{never, both, or_nothing}
use Rattle.format.specs.Words.{kind_bit, value_bit, station_bit, value_size, flag_size, spare_of, station_of, round_of, fields_of, of_group}
use Rattle.format.specs.Present.{last_round, shaped, formed}
use Rattle.glance.proofs.Theorems.Shapes.{top, kind_at, shapes, of_init, of_later}

-- ---- a test of all numbers below one, computed
unfoldable each : (ℕ → Bool) → ℕ → Bool
each p zero = true
each p (suc m) = p m && each p m

each_at : (p : ℕ → Bool) (m k : ℕ) → each p m ≡ true → k < m → p k ≡ true
unfolding each
each_at p zero k h l = absurd (omega (arith, l))
each_at p (suc m) k h l = go (eqb k m) refl (λ b. each_at p m k (both (p m) (each p m) h).1 b)
  where
    go : (b : Bool) → eqb k m ≡ b → (k < m → p k ≡ true) → p k ≡ true
    go true e ih = ap p (eqb-true k m e) ∙ (both (p m) (each p m) h).0
    go false e ih = ih (omega (arith, l, eqb-false k m e))

abbrev alike : Bool → Bool → Bool
alike true b = b
alike false b = not b

alike_is : (a b : Bool) → alike a b ≡ true → a ≡ b
alike_is true true h = refl
alike_is true false h = never false refl h
alike_is false true h = never false refl h
alike_is false false h = refl

-- the shapes by the top bits k: in round 0, and in a later one
abbrev at_0 : ℕ → Bool
at_0 k = alike (shaped (k / kind_at) (k / flag_size % value_size) (k % flag_size) 0) (of_init k)

abbrev at_1 : ℕ → Bool
at_1 k = alike (shaped (k / kind_at) (k / flag_size % value_size) (k % flag_size) 1) (of_later k)

all_0 : each at_0 (shapes) ≡ true
unfolding each
all_0 = refl

all_1 : each at_1 (shapes) ≡ true
unfolding each
all_1 = refl

-- a round of the bits below the station is 0, or as good as 1
by_round : (k r : ℕ) → k < shapes → r < 2 ^ station_bit → shaped (k / kind_at) (k / flag_size % value_size) (k % flag_size) r ≡ ((eqb r 0 && of_init k) || (leb 1 r && of_later k))
by_round k r low high = go (eqb r 0) refl
  where
    go : (b : Bool) → eqb r 0 ≡ b → shaped (k / kind_at) (k / flag_size % value_size) (k % flag_size) r ≡ ((eqb r 0 && of_init k) || (leb 1 r && of_later k))
    go true e =
        let z : r ≡ 0 = eqb-true r 0 e in
        rw z (alike_is _ _ (each_at at_0 (shapes) k all_0 low) ∙ or_nothing (of_init k))
    go false e = rw (e, le-leb 1 r (omega (arith, eqb-false r 0 e)), le-leb r last_round (omega (arith, high))) (alike_is _ _ (each_at at_1 (shapes) k all_1 low))

pub formed_word : (n w : ℕ) → w < 2 ^ 32
    → (eqb (spare_of w) 0 && (of_group n (station_of w) && ((eqb (round_of w) 0 && of_init (top w)) || (leb 1 (round_of w) && of_later (top w))))) ≡ formed n (fields_of w)
unfolding Rattle.format.specs.Statement.formed fields_of
formed_word n w h =
    let a : w / 2 ^ kind_bit ≡ top w / kind_at = omega arith in
    let b : w / 2 ^ value_bit % value_size ≡ top w / flag_size % value_size = omega arith in
    rw (a, b, by_round (top w) (round_of w) (omega (arith, h)) (omega arith))
