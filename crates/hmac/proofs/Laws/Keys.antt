-- Laws of the prepared key: its two states are those behind the key's blocks, so that HMAC goes on from them.
use Rattle.std.specs.Prelude.{◌≡◌, refl, Bool, true, false, List, [], ◌∷◌, ◌++◌, ℕ, suc, ◌+◌, ◌*◌, ◌≤◌, ◌<◌, length, leb, Ok}
use Rattle.std.proofs.Common.{ap, ◌∙◌, arith, length-append, leb-true, lt-ltb}
use Rattle.std.proofs.lemmas.List.{length-replicate}
use Rattle.laws.specs.Pick.{pick}
use Rattle.compression.specs.Compression.{compressed}
use Rattle.compression.proofs.Laws.Shape.{compressed_below}
use Rattle.laws.specs.Below.{Below}
use Rattle.sha256.specs.Sha256.{words, bytes, padding, initial, hashed, sha256, limit}
use Rattle.sha256.proofs.Laws.Chain.{after_block}
use Rattle.sha256.proofs.Laws.Words.{length_bytes}
use Rattle.sha256.proofs.Laws.Shape.{hashed_below, sha256_length}
use Rattle.hmac.specs.Hmac.{zero_filled, key_block, masked, ipad, opad, hmac, prepared, keyed, closed}

filled_length : (k : List ℕ) → length k ≤ 64 → length (zero_filled k) ≡ 64
unfolding zero_filled
filled_length k h = simp (length-append, length-replicate) (omega arith)

block_length : (k : List ℕ) → length (key_block k) ≡ 64
unfolding key_block pick
block_length k = go (leb (length k) 64) refl
  where
    go : (b : Bool) → leb (length k) 64 ≡ b → length (pick b (zero_filled k) (zero_filled (sha256 k))) ≡ 64
    go true e = filled_length k (leb-true (length k) 64 e)
    go false e = filled_length (sha256 k) (rw sha256_length (omega arith))

masked_length : (p : ℕ) (k : List ℕ) → length (masked p k) ≡ length k
unfolding masked
masked_length p [] = refl
masked_length p (x ∷ k) = ap suc (masked_length p k)

-- the key's block with p is one block
pad_length : (p : ℕ) (k : List ℕ) → length (masked p (key_block k)) ≡ 64
pad_length p k = masked_length p (key_block k) ∙ block_length k

-- the hash behind the key's block with p
behind : (p : ℕ) (k m : List ℕ) → sha256 (masked p (key_block k) ++ m) ≡ bytes (hashed (compressed initial (words (masked p (key_block k)))) (m ++ padding (64 + length m)))
behind p k m = after_block (masked p (key_block k)) m (pad_length p k)

pub closed_is : (s ws : List ℕ) → hashed s (bytes ws ++ padding (64 + length (bytes ws))) ≡ closed s ws
unfolding closed
closed_is s ws = rw length_bytes

-- HMAC of any message, by the states of the prepared key
pub hmac_from : (k m : List ℕ) → bytes (closed (prepared k).outer (hashed (prepared k).inner (m ++ padding (64 + length m)))) ≡ hmac k m
unfolding hmac prepared
hmac_from k m =
    rw (behind ipad k m, behind opad k (bytes (hashed (compressed initial (words (masked ipad (key_block k)))) (m ++ padding (64 + length m)))), closed_is)

pub closed_below : (s ws : List ℕ) → Below s → Below (closed s ws)
unfolding closed
closed_below s ws below = hashed_below s (bytes ws ++ padding (64 + length ws * 4)) below

pub outer_below : (k : List ℕ) → Below (prepared k).outer
unfolding prepared
outer_below k = compressed_below initial (words (masked opad (key_block k)))

-- preparing a key that is short enough
pub keyed_short : (k : List ℕ) → length k < limit → keyed k ≡ Ok (prepared k)
unfolding keyed pick
keyed_short k h = rw (lt-ltb (length k) limit h)
