-- A turn of the loop that masks the key's block masks one byte.
use Rattle.std.proofs.Common.{◌≡◌, refl, List, [], ◌∷◌, ◌++◌, append-nil, append_assoc, ℕ, ◌+◌, ◌≤◌, ◌<◌, add-one, arith, length, get_or, take, drop, set, drop_of_length-le, drop-cons, take-suc-set, take_all, drop-set-lt}
use lib.Bits.{bit_xor}
use Rattle.hmac.specs.Hmac.{masked}

masked_cons : (p x : ℕ) (k : List ℕ) → masked p (x ∷ k) ≡ bit_xor x p ∷ masked p k
unfolding masked
masked_cons p x k = refl

-- the bytes before place i as they are, and those from it on masked
abbrev pub rest_masked : ℕ → List ℕ → ℕ → List ℕ
rest_masked p r i = take i r ++ masked p (drop i r)

pub one_masked : (r : List ℕ) (i p v : ℕ) → i < length r → v ≡ bit_xor (get_or r i 0) p → rest_masked p (set r i v) (i + 1) ≡ rest_masked p r i
one_masked r i p v low v_is =
    let g : drop i r ≡ get_or r i 0 ∷ drop (i + 1) r = rw add-one (drop-cons r i 0 (omega arith)) in
    let f : take (i + 1) (set r i v) ≡ take i r ++ (v ∷ []) = rw add-one (take-suc-set r i v low) in
    let d : drop (i + 1) (set r i v) ≡ drop (i + 1) r = drop-set-lt (i + 1) r i v (omega arith) in
    rw (g, f, d, masked_cons p (get_or r i 0) (drop (i + 1) r), ← v_is) (append_assoc (take i r) (v ∷ []) (masked p (drop (i + 1) r)))

pub all_masked : (r : List ℕ) (i p : ℕ) → length r ≤ i → rest_masked p r i ≡ r
unfolding masked
all_masked r i p h = rw (drop_of_length-le r h, take_all i r h) (append-nil r)
