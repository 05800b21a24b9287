-- The shape of hashes: a state has eight words, a hash 32 bytes.
use Rattle.std.specs.Prelude.{◌≡◌, refl, List, [], ◌∷◌, ◌++◌, ℕ, zero, suc, ◌*◌, ◌/◌, ◌≤◌, length, take, drop}
use Rattle.std.proofs.Common.{ap, ◌∙◌, arith, length-drop, length-take-le}
use Rattle.compression.specs.Compression.{compressed}
use Rattle.compression.proofs.Laws.Shape.{compressed_length, compressed_below}
use Rattle.laws.specs.Below.{Below}
use Rattle.sha256.specs.Sha256.{words, padding, initial, blocks, hashed, sha256}
use Rattle.sha256.proofs.Laws.Words.{length_bytes}

pub words_length : (n : ℕ) (m : List ℕ) → length m ≡ n * 4 → length (words m) ≡ n
unfolding words
words_length zero [] p = refl
words_length zero (a ∷ m) p = absurd (omega arith)
words_length (suc n) (a ∷ b ∷ c ∷ d ∷ m) p = ap suc (words_length n m (omega arith))
words_length (suc n) [] p = absurd (omega arith)
words_length (suc n) (a ∷ []) p = absurd (omega arith)
words_length (suc n) (a ∷ b ∷ []) p = absurd (omega arith)
words_length (suc n) (a ∷ b ∷ c ∷ []) p = absurd (omega arith)

blocks_length : (n : ℕ) (s m : List ℕ) → length s ≡ 8 → n * 64 ≤ length m → length (blocks n s m) ≡ 8
unfolding blocks
blocks_length zero s m p q = p
blocks_length (suc n) s m p q =
    let w : length (words (take 64 m)) ≡ 16 = words_length 16 (take 64 m) (length-take-le 64 m (omega arith)) in
    blocks_length n (compressed s (words (take 64 m))) (drop 64 m) (compressed_length s (words (take 64 m)) p w) (rw length-drop (omega arith))

pub hashed_length : (s m : List ℕ) → length s ≡ 8 → length (hashed s m) ≡ 8
unfolding hashed
hashed_length s m p = blocks_length (length m / 64) s m p (omega arith)

blocks_below : (n : ℕ) (s m : List ℕ) → Below s → Below (blocks n s m)
unfolding blocks
blocks_below zero s m p = p
blocks_below (suc n) s m p = blocks_below n (compressed s (words (take 64 m))) (drop 64 m) (compressed_below s (words (take 64 m)))

pub hashed_below : (s m : List ℕ) → Below s → Below (hashed s m)
unfolding hashed
hashed_below s m p = blocks_below (length m / 64) s m p

pub sha256_length : (m : List ℕ) → length (sha256 m) ≡ 32
unfolding sha256 initial
sha256_length m =
    let e : length (hashed initial (m ++ padding (length m))) ≡ 8 = hashed_length initial (m ++ padding (length m)) refl in
    length_bytes (hashed initial (m ++ padding (length m))) ∙ ap (λ (n : ℕ). n * 4) e
