-- How many bytes the printed lines have.
use Rattle.std.specs.Prelude.{ℕ, zero, suc, ◌+◌, ◌/◌, ◌%◌, ◌^◌, ◌≤◌, ◌<◌, ◌≡◌, refl, Bool, true, false, [], ◌∷◌, ◌++◌, ltb, length}
use Rattle.std.proofs.Common.{pow-suc, arith, length-append, ltb-false}
use Rattle.laws.specs.Pick.{pick}
use Rattle.valley_printing.specs.Print.{digit, decimal_in, decimal, event_line, bad_line}

-- a number below 10 ^ (k + 1) has at most k + 1 digits
decimal_in_fits : (most k n : ℕ) → n < 10 ^ suc k → length (decimal_in most n) ≤ suc k
unfolding decimal_in pick
decimal_in_fits zero k n h = omega arith
decimal_in_fits (suc most) k n h = go k h (ltb n 10) refl (decimal_in_fits most)
  where
    go : (k : ℕ) → n < 10 ^ suc k → (t : Bool) → ltb n 10 ≡ t → ((k n : ℕ) → n < 10 ^ suc k → length (decimal_in most n) ≤ suc k)
        → length (pick t (digit n ∷ []) (decimal_in most (n / 10) ++ (digit (n % 10) ∷ []))) ≤ suc k
    go k h true e ih = omega arith
    go zero h false e ih = absurd (omega (arith, ltb-false n 10 e))
    go (suc k) h false e ih =
        rw (length-append (decimal_in most (n / 10)) (digit (n % 10) ∷ [])) (
        let below : n / 10 < 10 ^ suc k = omega (arith, pow-suc 10 (suc k)) in
        omega (arith, ih k (n / 10) below))

pub decimal_fits : (k n : ℕ) → n < 10 ^ suc k → length (decimal n) ≤ suc k
unfolding decimal
decimal_fits k n h = decimal_in_fits (suc n) k n h

-- a number has a digit
pub decimal_some : (n : ℕ) → 1 ≤ length (decimal n)
unfolding decimal decimal_in pick
decimal_some n = go (ltb n 10)
  where
    go : (t : Bool) → 1 ≤ length (pick t (digit n ∷ []) (decimal_in n (n / 10) ++ (digit (n % 10) ∷ [])))
    go true = omega arith
    go false = rw (length-append (decimal_in n (n / 10)) (digit (n % 10) ∷ [])) (omega arith)

pub decimal_64 : (n : ℕ) → n < 2 ^ 64 → length (decimal n) ≤ 20
decimal_64 n h = decimal_fits 19 n (omega arith)

pub decimal_32 : (n : ℕ) → n < 2 ^ 32 → length (decimal n) ≤ 10
decimal_32 n h = decimal_fits 9 n (omega arith)

pub event_line_length : (event number step decision : ℕ)
    → length (event_line event number step decision) ≡ length (decimal event) + length (decimal number) + length (decimal step) + length (decimal decision) + 4
unfolding event_line
event_line_length event number step decision = simp length-append (omega arith)

pub event_line_fits : (event number step decision : ℕ) → event < 2 ^ 64 → number < 2 ^ 32 → step < 2 ^ 64 → decision < 2 ^ 32
    → length (event_line event number step decision) ≤ 64
event_line_fits event number step decision a b c d =
    omega (arith, event_line_length event number step decision, decimal_64 event a, decimal_32 number b, decimal_64 step c, decimal_32 decision d)

pub bad_line_length : (number : ℕ) → length (bad_line number) ≡ length (decimal number) + 10
unfolding bad_line
bad_line_length number = simp length-append (omega arith)

pub bad_line_fits : (number : ℕ) → number < 2 ^ 64 → length (bad_line number) ≤ 64
bad_line_fits number h = omega (arith, bad_line_length number, decimal_64 number h)
