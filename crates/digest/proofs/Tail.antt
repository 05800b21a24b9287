-- The last one or two blocks as the code builds them in a buffer of zeros: the rest of the message, 128, and the length at its place.
use Rattle.std.proofs.Common.{◌≡◌, refl, sym, ◌∙◌, List, ◌∷◌, ◌++◌, append_assoc, ℕ, ◌+◌, ◌-◌, ◌*◌, ◌%◌, ◌≤◌, ◌<◌, arith, length, take, drop, replicate, length-append, take_at}
use Rattle.std.proofs.lemmas.List.{length-replicate}
use lib.ListN.{replicate-append-replicate}
use Rattle.std.specs.Int.{to_be_bytes, w64}
use Rattle.std.proofs.lemmas.Slice.{put_mid-paste}
use borrow.Rule.Slice.PartMut.{put_mid}
use Rattle.sha256.specs.Sha256.{big64, padding}

pub put64 : (b eight : List ℕ) (at n k : ℕ) → at + 8 ≤ length b → eight ≡ to_be_bytes w64 n → 8 ≡ k → put_mid at k b eight ≡ take at b ++ (big64 n ++ drop (at + 8) b)
unfolding big64
put64 b eight at n k h eight_is k_is =
    put_mid-paste at k b eight (big64 n) 8 eight_is k_is refl ∙ append_assoc (take at b) (big64 n) (drop (at + 8) b)

front : (d : List ℕ) (left m : ℕ) → length d ≡ left → left < m → m ≤ 128 → take m (d ++ (128 ∷ replicate (127 - left) 0)) ≡ d ++ (128 ∷ replicate (m - 1 - left) 0)
front d left m long p q =
    let e : 127 - left ≡ (m - 1 - left) + (128 - m) = omega arith in
    let f : replicate {A = ℕ} (127 - left) 0 ≡ replicate (m - 1 - left) 0 ++ replicate (128 - m) 0 = rw e (sym (replicate-append-replicate (m - 1 - left) (128 - m) 0)) in
    let l : length (d ++ (128 ∷ replicate {A = ℕ} (m - 1 - left) 0)) ≡ m = rw (length-append, length-replicate) (omega arith) in
    rw f (rw (← append_assoc d (128 ∷ replicate (m - 1 - left) 0) (replicate (128 - m) 0)) (take_at (d ++ (128 ∷ replicate (m - 1 - left) 0)) (replicate (128 - m) 0) m l))

eight : (n : ℕ) → length (big64 n) ≡ 8
unfolding big64
eight n = refl

-- the length stands at `at`, and the padding ends after it
pub padded : (d b c : List ℕ) (total left at : ℕ) → length d ≡ left → left < at → at ≤ 120 → total % 64 ≡ left → (119 - left) % 64 ≡ at - 1 - left
    → b ≡ d ++ (128 ∷ replicate (127 - left) 0) → c ≡ take at b ++ (big64 (total * 8) ++ drop (at + 8) b) → take (at + 8) c ≡ d ++ padding total
unfolding padding
padded d b c total left at long p q rem zeros b_is c_is =
    let f : take at b ≡ d ++ (128 ∷ replicate (at - 1 - left) 0) = rw b_is (front d left at long p (omega arith)) in
    let l : length (d ++ (128 ∷ replicate {A = ℕ} (at - 1 - left) 0) ++ big64 (total * 8)) ≡ at + 8
    = rw (length-append, length-append, length-replicate, eight) (omega arith) in
    rw (c_is, f, rem, zeros, ← append_assoc (d ++ (128 ∷ replicate (at - 1 - left) 0)) (big64 (total * 8)) (drop (at + 8) b))
    (take_at (d ++ (128 ∷ replicate (at - 1 - left) 0) ++ big64 (total * 8)) (drop (at + 8) b) (at + 8) l
    ∙ append_assoc d (128 ∷ replicate (at - 1 - left) 0) (big64 (total * 8)))
