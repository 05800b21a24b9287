-- The compression function of SHA-256, as FIPS 180-4 gives it: words, functions, constants, one block. A word is a number below 2 ^ 32, a
-- state a list of eight words, a block of sixteen.
use Rattle.std.specs.Prelude.{ℕ, zero, suc, ◌+◌, ◌-◌, ◌*◌, ◌/◌, ◌%◌, ◌^◌, List, [], ◌∷◌, ◌++◌, length, bit_and, bit_or, bit_xor, slice_index}

abbrev pub plus : ℕ → ℕ → ℕ
plus a b = (a + b) % 2 ^ 32  -- 2.2.2: "+": addition modulo 2 ^ 32

abbrev pub rotr : ℕ → ℕ → ℕ
rotr n x = bit_or (x / 2 ^ n) (x * 2 ^ (32 - n) % 2 ^ 32)  -- 3.2: ROTR n (x) = (x >> n) ∨ (x << w - n)

abbrev pub shr : ℕ → ℕ → ℕ
shr n x = x / 2 ^ n  -- 3.2: SHR n (x) = x >> n

abbrev pub ch : ℕ → ℕ → ℕ → ℕ
ch x y z = bit_xor (bit_and x y) (bit_and (2 ^ 32 - 1 - x) z)  -- 4.1.2 (4.2): Ch (x, y, z) = (x ∧ y) ⊕ (¬x ∧ z)

abbrev pub maj : ℕ → ℕ → ℕ → ℕ
maj x y z = bit_xor (bit_xor (bit_and x y) (bit_and x z)) (bit_and y z)  -- 4.1.2 (4.3): Maj (x, y, z) = (x ∧ y) ⊕ (x ∧ z) ⊕ (y ∧ z)

abbrev pub Σ0 : ℕ → ℕ
Σ0 x = bit_xor (bit_xor (rotr 2 x) (rotr 13 x)) (rotr 22 x)  -- 4.1.2 (4.4): Σ0 (x) = ROTR 2 (x) ⊕ ROTR 13 (x) ⊕ ROTR 22 (x)

abbrev pub Σ1 : ℕ → ℕ
Σ1 x = bit_xor (bit_xor (rotr 6 x) (rotr 11 x)) (rotr 25 x)  -- 4.1.2 (4.5): Σ1 (x) = ROTR 6 (x) ⊕ ROTR 11 (x) ⊕ ROTR 25 (x)

abbrev pub σ0 : ℕ → ℕ
σ0 x = bit_xor (bit_xor (rotr 7 x) (rotr 18 x)) (shr 3 x)  -- 4.1.2 (4.6): σ0 (x) = ROTR 7 (x) ⊕ ROTR 18 (x) ⊕ SHR 3 (x)

abbrev pub σ1 : ℕ → ℕ
σ1 x = bit_xor (bit_xor (rotr 17 x) (rotr 19 x)) (shr 10 x)  -- 4.1.2 (4.7): σ1 (x) = ROTR 17 (x) ⊕ ROTR 19 (x) ⊕ SHR 10 (x)

-- 4.2.2: the sixty-four constants K
unfoldable pub constants : List ℕ
constants =
    0x428a2f98 ∷ 0x71374491 ∷ 0xb5c0fbcf ∷ 0xe9b5dba5 ∷ 0x3956c25b ∷ 0x59f111f1 ∷ 0x923f82a4 ∷ 0xab1c5ed5 ∷
    0xd807aa98 ∷ 0x12835b01 ∷ 0x243185be ∷ 0x550c7dc3 ∷ 0x72be5d74 ∷ 0x80deb1fe ∷ 0x9bdc06a7 ∷ 0xc19bf174 ∷
    0xe49b69c1 ∷ 0xefbe4786 ∷ 0x0fc19dc6 ∷ 0x240ca1cc ∷ 0x2de92c6f ∷ 0x4a7484aa ∷ 0x5cb0a9dc ∷ 0x76f988da ∷
    0x983e5152 ∷ 0xa831c66d ∷ 0xb00327c8 ∷ 0xbf597fc7 ∷ 0xc6e00bf3 ∷ 0xd5a79147 ∷ 0x06ca6351 ∷ 0x14292967 ∷
    0x27b70a85 ∷ 0x2e1b2138 ∷ 0x4d2c6dfc ∷ 0x53380d13 ∷ 0x650a7354 ∷ 0x766a0abb ∷ 0x81c2c92e ∷ 0x92722c85 ∷
    0xa2bfe8a1 ∷ 0xa81a664b ∷ 0xc24b8b70 ∷ 0xc76c51a3 ∷ 0xd192e819 ∷ 0xd6990624 ∷ 0xf40e3585 ∷ 0x106aa070 ∷
    0x19a4c116 ∷ 0x1e376c08 ∷ 0x2748774c ∷ 0x34b0bcb5 ∷ 0x391c0cb3 ∷ 0x4ed8aa4a ∷ 0x5b9cca4f ∷ 0x682e6ff3 ∷
    0x748f82ee ∷ 0x78a5636f ∷ 0x84c87814 ∷ 0x8cc70208 ∷ 0x90befffa ∷ 0xa4506ceb ∷ 0xbef9a3f7 ∷ 0xc67178f2 ∷ []

-- 6.2.2, step 1: W t = σ1 (W (t - 2)) + W (t - 7) + σ0 (W (t - 15)) + W (t - 16), where t words are there already
unfoldable pub next : List ℕ → ℕ
next ws =
    plus (plus (plus (σ1 (slice_index ws (length ws - 2))) (slice_index ws (length ws - 7))) (σ0 (slice_index ws (length ws - 15))))
    (slice_index ws (length ws - 16))

-- 6.2.2, step 1: n words more
unfoldable pub extended : ℕ → List ℕ → List ℕ
extended zero ws = ws
extended (suc n) ws = extended n (ws ++ (next ws ∷ []))

unfoldable pub t1 : ℕ → ℕ → ℕ → ℕ → ℕ → ℕ → ℕ
t1 e f g h k w = plus (plus (plus (plus h (Σ1 e)) (ch e f g)) k) w  -- 6.2.2, step 3: T1 = h + Σ1 (e) + Ch (e, f, g) + K t + W t

unfoldable pub t2 : ℕ → ℕ → ℕ → ℕ
t2 a b c = plus (Σ0 a) (maj a b c)  -- 6.2.2, step 3: T2 = Σ0 (a) + Maj (a, b, c)

-- 6.2.2, step 3, for each constant and each word of the schedule: h = g, g = f, f = e, e = d + T1, d = c, c = b, b = a, a = T1 + T2
unfoldable pub rounds : List ℕ → List ℕ → ℕ → ℕ → ℕ → ℕ → ℕ → ℕ → ℕ → ℕ → List ℕ
rounds [] ws a b c d e f g h = a ∷ b ∷ c ∷ d ∷ e ∷ f ∷ g ∷ h ∷ []
rounds (k ∷ ks) [] a b c d e f g h = []
rounds (k ∷ ks) (w ∷ ws) a b c d e f g h =
    rounds ks ws (plus (t1 e f g h k w) (t2 a b c)) a b c (plus d (t1 e f g h k w)) e f g

-- 6.2.2, step 2: the eight working variables are the state's words
unfoldable pub rounds_from : List ℕ → List ℕ → List ℕ
rounds_from ws s =
    rounds constants ws (slice_index s 0) (slice_index s 1) (slice_index s 2) (slice_index s 3) (slice_index s 4) (slice_index s 5) (slice_index s 6) (slice_index s 7)

-- 6.2.2, step 4: word by word sums
unfoldable pub summed : List ℕ → List ℕ → List ℕ
summed [] t = []
summed (x ∷ s) [] = []
summed (x ∷ s) (y ∷ t) = plus x y ∷ summed s t

unfoldable pub compressed : List ℕ → List ℕ → List ℕ
compressed s block = summed s (rounds_from (extended 48 block) s)  -- 6.2.2: the state after a block
