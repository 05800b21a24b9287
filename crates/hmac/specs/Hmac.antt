-- HMAC (RFC 2104) with SHA-256, and the code from a prepared key. B, the block's length in bytes, is 64, and L, the hash's, is 32.
use Rattle.std.specs.Prelude.{ℕ, ◌+◌, ◌-◌, ◌*◌, ◌&&◌, List, [], ◌∷◌, ◌++◌, length, replicate, leb, ltb, Result, Ok, Err}
use Rattle.std.specs.Int.Bits.{bit_xor}
use Rattle.laws.specs.Pick.{pick}
use Rattle.compression.specs.Compression.{compressed}
use Rattle.sha256.specs.Sha256.{words, bytes, padding, initial, hashed, sha256, limit}
use Rattle.sha256.specs.declared.HashError.{HashError}
use Rattle.sha256.specs.declared.HashError.TheVariants.{TooLong, TooManyWords}
use Rattle.hmac.specs.declared.Prepared.{Prepared}

unfoldable pub zero_filled : List ℕ → List ℕ
zero_filled k = k ++ replicate (64 - length k) 0  -- 2, step 1: "append zeros to the end of K to create a B byte string"

-- 2: "Applications that use keys longer than B bytes will first hash the key using H and then use the resultant L byte string"
unfoldable pub key_block : List ℕ → List ℕ
key_block k = pick (leb (length k) 64) (zero_filled k) (zero_filled (sha256 k))

-- 2, steps 2 and 5: "XOR (bitwise exclusive-OR)" of each byte with the byte p, 0x36 in ipad and 0x5c in opad
unfoldable pub masked : ℕ → List ℕ → List ℕ
masked p [] = []
masked p (x ∷ k) = bit_xor x p ∷ masked p k

abbrev pub ipad : ℕ
ipad = 0x36

abbrev pub opad : ℕ
opad = 0x5c

unfoldable pub hmac : List ℕ → List ℕ → List ℕ
hmac k m = sha256 (masked opad (key_block k) ++ sha256 (masked ipad (key_block k) ++ m))  -- 2: H(K XOR opad, H(K XOR ipad, text))

-- the public code function: the code; the refusal 3 where a hashed input would reach the limit, which are the inner one, of one block and
-- the message, and a key over 64 bytes
unfoldable pub code_of : List ℕ → List ℕ → Result (List ℕ) HashError
code_of k m = pick (ltb (length k) limit && ltb (64 + length m) limit) (Ok (hmac k m)) (Err TooLong)

-- 4: the states "after the compression function has been applied to the first block of each", (K XOR ipad) and (K XOR opad)
unfoldable pub prepared : List ℕ → Prepared
prepared k =
    record {
      inner = compressed initial (words (masked ipad (key_block k)));
      outer = compressed initial (words (masked opad (key_block k)));
    }

-- the public preparation: the two states; the refusal 3 where the key is too long to be hashed
unfoldable pub keyed : List ℕ → Result Prepared HashError
keyed k = pick (ltb (length k) limit) (Ok (prepared k)) (Err TooLong)

-- the state after the bytes of words, where one block, of the key, went before
unfoldable pub closed : List ℕ → List ℕ → List ℕ
closed s ws = hashed s (bytes ws ++ padding (64 + length ws * 4))

-- 4: the code over a list of words, from a prepared key. `code_is_hmac` in Prepared: from the key's own states this is HMAC
unfoldable pub code_from : Prepared → List ℕ → List ℕ
code_from p ws = closed p.outer (closed p.inner ws)

-- the public code from a prepared key: the code's eight words; the refusal 3 for more than 13 words, which need a second block
unfoldable pub short_code : Prepared → List ℕ → Result (List ℕ) HashError
short_code p ws = pick (leb (length ws) 13) (Ok (code_from p ws)) (Err TooManyWords)
