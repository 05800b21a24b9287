-- Laws of the chain of blocks: a message may be hashed in parts, as long as each part but the last is of whole blocks.
use Rattle.std.specs.Prelude.{◌≡◌, refl, List, [], ◌++◌, ℕ, zero, suc, ◌+◌, ◌-◌, ◌*◌, ◌/◌, ◌%◌, ◌≤◌, length, take, drop}
use Rattle.std.proofs.Common.{sym, ap, ◌∙◌, append_assoc, zero-add, suc-add, arith, length-append, length-drop, drop_of_length-le, drop-drop, take_all}
use Rattle.std.proofs.lemmas.List.{take-append-le, drop-append-le}
use Rattle.compression.specs.Compression.{compressed}
use Rattle.sha256.specs.Sha256.{words, bytes, padding, initial, blocks, hashed, sha256}

next_block : (n : ℕ) (st m : List ℕ) → blocks (suc n) st m ≡ blocks n (compressed st (words (take 64 m))) (drop 64 m)
unfolding blocks
next_block n st m = refl

no_block : (st m : List ℕ) → blocks zero st m ≡ st
unfolding blocks
no_block st m = refl

-- k blocks of s, and then what is left of s with p behind it
parted : (k n : ℕ) (st s p : List ℕ) → k * 64 ≤ length s → blocks (k + n) st (s ++ p) ≡ blocks n (blocks k st s) (drop (k * 64) s ++ p)
parted zero n st s p h = rw (zero-add, no_block)
parted (suc k) n st s p h =
    let l : 64 ≤ length s = omega arith in
    let e : suc k * 64 ≡ 64 + k * 64 = omega arith in
    rw (suc-add, next_block (k + n), next_block k, take-append-le 64 s p, drop-append-le 64 s p, e, ← drop-drop (k * 64) 64 s)
    (parted k n (compressed st (words (take 64 s))) (drop 64 s) p (rw length-drop (omega arith)))

-- the whole blocks of s first, then the rest of s with p behind it
pub finished : (st s h d t p r : List ℕ) → d ≡ drop (length s - length s % 64) s → h ≡ blocks (length s / 64) st s → t ≡ d ++ p → r ≡ blocks (length t / 64) h t
    → r ≡ hashed st (s ++ p)
unfolding hashed
finished st s h d t p r d_is h_is t_is r_is =
    let e : length s / 64 * 64 ≡ length s - length s % 64 = omega arith in
    let k : length d ≡ length s % 64 = ap length d_is ∙ rw length-drop (omega arith) in
    let n : length (s ++ p) / 64 ≡ length s / 64 + length (d ++ p) / 64 = rw (length-append, length-append d p) (omega arith) in
    let f : d ≡ drop (length s / 64 * 64) s = rw e d_is in
    let g : blocks (length s / 64 + length (d ++ p) / 64) st (s ++ p) ≡ blocks (length (d ++ p) / 64) (blocks (length s / 64) st s) (drop (length s / 64 * 64) s ++ p)
    = parted (length s / 64) (length (d ++ p) / 64) st s p (omega arith) in
    r_is ∙ rw (t_is, h_is, n, g, ← f)

-- one whole block
pub one_block : (s m : List ℕ) → length m ≡ 64 → hashed s m ≡ compressed s (words m)
unfolding hashed blocks
one_block s m long =
    let h : length m ≤ 64 = omega arith in
    rw (long, take_all 64 m)

hashed_is : (s m : List ℕ) → hashed s m ≡ blocks (length m / 64) s m
unfolding hashed
hashed_is s m = refl

-- the hash of a block with a message behind it, from the state after the block
pub after_block : (k m : List ℕ) → length k ≡ 64 → sha256 (k ++ m) ≡ bytes (hashed (compressed initial (words k)) (m ++ padding (64 + length m)))
unfolding sha256
after_block k m long =
    let e : length (k ++ m) ≡ 64 + length m = rw (length-append, long) in
    let p : List ℕ = m ++ padding (64 + length m) in
    let n : length k ≤ length k - length k % 64 = omega arith in
    let d : [] ≡ drop (length k - length k % 64) k = sym (drop_of_length-le k n) in
    let f : hashed (hashed initial k) p ≡ hashed initial (k ++ p)
    = finished initial k (hashed initial k) [] p p (hashed (hashed initial k) p) d (hashed_is initial k) refl (hashed_is (hashed initial k) p) in
    ap bytes (rw (e, append_assoc k m (padding (64 + length m)), ← one_block initial k long) (sym f))
