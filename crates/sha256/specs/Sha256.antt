-- SHA-256 of a list of bytes, as FIPS 180-4 gives it, in whole bytes. The compression of a block is that of crate compression.
use Rattle.std.specs.Prelude.{ℕ, zero, suc, ◌+◌, ◌-◌, ◌*◌, ◌/◌, ◌%◌, ◌^◌, List, [], ◌∷◌, ◌++◌, length, take, drop, replicate, ltb, Result, Ok, Err}
use Rattle.laws.specs.Pick.{pick}
use Rattle.compression.specs.Compression.{compressed}
use Rattle.sha256.specs.declared.HashError.{HashError}
use Rattle.sha256.specs.declared.HashError.TheVariants.{TooLong, TooManyWords}

-- 3.1: a word of four bytes, the top byte first; a word's four bytes
unfoldable pub words : List ℕ → List ℕ
words [] = []
words (a ∷ []) = []
words (a ∷ b ∷ []) = []
words (a ∷ b ∷ c ∷ []) = []
words (a ∷ b ∷ c ∷ d ∷ m) = (a * 2 ^ 24 + b * 2 ^ 16 + c * 2 ^ 8 + d) ∷ words m

unfoldable pub big32 : ℕ → List ℕ
big32 w = w / 2 ^ 24 % 256 ∷ w / 2 ^ 16 % 256 ∷ w / 2 ^ 8 % 256 ∷ w % 256 ∷ []

unfoldable pub bytes : List ℕ → List ℕ
bytes [] = []
bytes (w ∷ ws) = big32 w ++ bytes ws

-- 3.1: a number's eight bytes, the top byte first
unfoldable pub big64 : ℕ → List ℕ
big64 n =
    n / 2 ^ 56 % 256 ∷ n / 2 ^ 48 % 256 ∷ n / 2 ^ 40 % 256 ∷ n / 2 ^ 32 % 256
    ∷ n / 2 ^ 24 % 256 ∷ n / 2 ^ 16 % 256 ∷ n / 2 ^ 8 % 256 ∷ n % 256 ∷ []

-- 5.1.1: the fewest zero bytes behind a message of n bytes and the byte 128, so that 8 bytes are left of the last block
-- (`zeros_fill` and `zeros_few` in Padding say so)
abbrev pub zeros : ℕ → ℕ
zeros n = (119 - n % 64) % 64

-- 5.1.1: what is put behind a message of n bytes: the bit 1 and zero bits, then the message's length in bits
unfoldable pub padding : ℕ → List ℕ
padding n = 128 ∷ (replicate (zeros n) 0 ++ big64 (n * 8))

-- 5.3.3: the initial hash value
unfoldable pub initial : List ℕ
initial = 0x6a09e667 ∷ 0xbb67ae85 ∷ 0x3c6ef372 ∷ 0xa54ff53a ∷ 0x510e527f ∷ 0x9b05688c ∷ 0x1f83d9ab ∷ 0x5be0cd19 ∷ []

-- 5.2.1, 6.2.2: the state after n blocks of 64 bytes, from a state
unfoldable pub blocks : ℕ → List ℕ → List ℕ → List ℕ
blocks zero s m = s
blocks (suc n) s m = blocks n (compressed s (words (take 64 m))) (drop 64 m)

unfoldable pub hashed : List ℕ → List ℕ → List ℕ
hashed s m = blocks (length m / 64) s m  -- 6.2.2: the state after all blocks of a padded message

unfoldable pub sha256 : List ℕ → List ℕ
sha256 m = bytes (hashed initial (m ++ padding (length m)))  -- 6.2: the hash of a message

-- 1, table 1: a message has fewer than 2 ^ 64 bits. Document 01: "where a hashed input, the code's own 64-byte block included, would reach
-- 2^61 bytes, 3 is returned"
abbrev pub limit : ℕ
limit = 2 ^ 61

-- the number of a refusal: "where a hashed input .. would reach 2^61 bytes, 3 is returned"
abbrev pub error_number : HashError → ℕ
error_number TooLong = 3
error_number TooManyWords = 3

-- the public hash: the digest, or the refusal 3
unfoldable pub digest : List ℕ → Result (List ℕ) HashError
digest m = pick (ltb (length m) limit) (Ok (sha256 m)) (Err TooLong)

-- the hash of a message that n whole blocks went before, from the state after these: the state, or the refusal 3
unfoldable pub hash_after : List ℕ → ℕ → List ℕ → Result (List ℕ) HashError
hash_after s n m = pick (ltb (n * 64 + length m) limit) (Ok (hashed s (m ++ padding (n * 64 + length m)))) (Err TooLong)
