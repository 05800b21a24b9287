-- The shape of a compressed state: eight words, each below 2 ^ 32.
use Rattle.std.specs.Prelude.{◌≡◌, ℕ, zero, suc, ◌+◌, ◌≤◌, List, [], ◌∷◌, ◌++◌, length, slice_index, refl}
use Rattle.std.proofs.Common.{ap, ◌∙◌, arith, length-append}
use Rattle.compression.specs.Compression.{plus, next, extended, constants, t1, t2, rounds, rounds_from, summed, compressed}
use Rattle.laws.specs.Below.{Below}

pub extended_length : (n : ℕ) (ws : List ℕ) → length (extended n ws) ≡ n + length ws
unfolding extended
extended_length zero ws = omega arith
extended_length (suc n) ws =
    let r = extended_length n (ws ++ (next ws ∷ [])) in
    let e : length (ws ++ (next ws ∷ [])) ≡ length ws + 1 = length-append ws (next ws ∷ []) in
    omega arith

rounds_length : (ks ws : List ℕ) (a b c d e f g h : ℕ) → length ks ≤ length ws → length (rounds ks ws a b c d e f g h) ≡ 8
unfolding rounds
rounds_length [] ws a b c d e f g h p = refl
rounds_length (k ∷ ks) [] a b c d e f g h p = absurd (omega arith)
rounds_length (k ∷ ks) (w ∷ ws) a b c d e f g h p =
    rounds_length ks ws (plus (t1 e f g h k w) (t2 a b c)) a b c (plus d (t1 e f g h k w)) e f g (omega arith)

pub summed_length : (s t : List ℕ) → length s ≤ length t → length (summed s t) ≡ length s
unfolding summed
summed_length [] t p = refl
summed_length (x ∷ s) [] p = absurd (omega arith)
summed_length (x ∷ s) (y ∷ t) p = ap suc (summed_length s t (omega arith))

pub compressed_length : (s block : List ℕ) → length s ≡ 8 → length block ≡ 16 → length (compressed s block) ≡ 8
unfolding compressed rounds_from constants
compressed_length s block p q =
    let e : length (extended 48 block) ≡ 48 + length block = extended_length 48 block in
    let r : length (rounds_from (extended 48 block) s) ≡ 8
    = rounds_length constants (extended 48 block) (slice_index s 0) (slice_index s 1) (slice_index s 2) (slice_index s 3) (slice_index s 4) (slice_index s 5) (slice_index s 6) (slice_index s 7) (omega arith) in
    summed_length s (rounds_from (extended 48 block) s) (omega arith) ∙ p

summed_below : (s t : List ℕ) → Below (summed s t)
unfolding summed
summed_below [] t i = omega arith
summed_below (x ∷ s) [] i = omega arith
summed_below (x ∷ s) (y ∷ t) zero = omega arith
summed_below (x ∷ s) (y ∷ t) (suc i) = summed_below s t i

pub compressed_below : (s block : List ℕ) → Below (compressed s block)
unfolding compressed
compressed_below s block = summed_below s (rounds_from (extended 48 block) s)
