-- The digits that the library's `decimal` puts are those of the definition.
use Rattle.std.specs.Prelude.{ℕ, zero, suc, ◌-◌, ◌/◌, ◌%◌, ◌^◌, ◌≤◌, ◌<◌, ◌≡◌, refl, Bool, true, false, List, [], ◌∷◌, ◌++◌, ltb, length, take}
use Rattle.std.proofs.Common.{ap, ◌∙◌, pow-suc, arith, ltb-true, ltb-false, lt-ltb}
use Rattle.std.proofs.Math.Nat.{one-le-pow}
use Rattle.io.specs.Digits.{hex_digit_ascii, last_digits, IsDigitCount}
use Rattle.laws.specs.Pick.{pick}
use Rattle.valley_printing.specs.Print.{digit, decimal_in, decimal}

glyph_digit : (d : ℕ) → d < 10 → hex_digit_ascii d ≡ digit d
glyph_digit d h = rw (lt-ltb d 10 h)

spelled_in : (most k n : ℕ) → n < most → IsDigitCount 10 1 n k → last_digits 10 k n ≡ decimal_in most n
unfolding decimal_in pick
spelled_in zero k n h f = absurd (omega arith)
spelled_in (suc most) zero n h f = absurd (omega (arith, f.0))
spelled_in (suc most) (suc k) n h f = go k f (ltb n 10) refl (spelled_in most)
  where
    go : (k : ℕ) → IsDigitCount 10 1 n (suc k) → (t : Bool) → ltb n 10 ≡ t
        → ((k n : ℕ) → n < most → IsDigitCount 10 1 n k → last_digits 10 k n ≡ decimal_in most n)
        → last_digits 10 (suc k) n ≡ pick t (digit n ∷ []) (decimal_in most (n / 10) ++ (digit (n % 10) ∷ []))
    go zero f true e ih =
        let small : n < 10 = ltb-true n 10 e in
        let whole : n % 10 ≡ n = omega arith in
        rw (whole, glyph_digit n small)
    go (suc k) f true e ih =
        let some : 1 ≤ 10 ^ k = one-le-pow k 10 (omega arith) in
        let large : 10 ^ suc k ≤ n = let e : suc (suc k) - 1 ≡ suc k = omega arith in rw e at (f.2 (omega arith)) in
        absurd (omega (arith, ltb-true n 10 e, pow-suc 10 k))
    go zero f false e ih = absurd (omega (arith, ltb-false n 10 e, f.1))
    go (suc k) f false e ih =
        let below : n / 10 < most = omega (arith, ltb-false n 10 e) in
        let held : n < 10 ^ suc (suc k) = f.1 in
        let large : 10 ^ suc k ≤ n = let e : suc (suc k) - 1 ≡ suc k = omega arith in rw e at (f.2 (omega arith)) in
        let few : IsDigitCount 10 1 (n / 10) (suc k) = (omega arith, omega (arith, pow-suc 10 (suc k)), λ more. shorter k large) in
        rw (ih (suc k) (n / 10) below few, glyph_digit (n % 10) (omega arith))
      where
        shorter : (k : ℕ) → 10 ^ suc k ≤ n → 10 ^ (suc k - 1) ≤ n / 10
        shorter k large = let e : suc k - 1 ≡ k = omega arith in rw e (omega (arith, pow-suc 10 k))

pub spelled : (k n : ℕ) → IsDigitCount 10 1 n k → last_digits 10 k n ≡ decimal n
unfolding decimal
spelled k n f = spelled_in (suc n) k n (omega arith) f

-- what the library leaves at the front of a buffer
pub spelled_text : (n k : ℕ) (buffer : List ℕ) → k ≡ length (take k buffer) → IsDigitCount 10 1 n k → take k buffer ≡ last_digits 10 k n
    → (take k buffer ≡ decimal n) × (k ≡ length (decimal n))
spelled_text n k buffer counted few put =
    let e : take k buffer ≡ decimal n = put ∙ spelled k n few in
    (e, counted ∙ ap length e)
