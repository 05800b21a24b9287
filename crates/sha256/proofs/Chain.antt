-- The turns of two loops: a block's words are loaded one by one, and the blocks are compressed one by one.
use Rattle.std.proofs.Common.{◌≡◌, ap, ◌∙◌, List, [], ◌∷◌, ◌++◌, append-nil, append_assoc, ℕ, suc, ◌+◌, ◌-◌, ◌*◌, ◌^◌, ◌≤◌, ◌<◌, add-one, arith, length, get_or, take, drop, set, drop-cons, drop-drop, take-suc-set, take_all}
use Rattle.std.specs.Int.{from_be_bytes, w32}
use Rattle.compression.specs.Compression.{compressed}
use Rattle.sha256.specs.Sha256.{words, blocks}

abbrev big : List ℕ → ℕ → ℕ
big s p = get_or s p 0 * 2 ^ 24 + get_or s (p + 1) 0 * 2 ^ 16 + get_or s (p + 2) 0 * 2 ^ 8 + get_or s (p + 3) 0

cut : (s : List ℕ) (p : ℕ) → p + 4 ≤ length s → drop p s ≡ get_or s p 0 ∷ get_or s (p + 1) 0 ∷ get_or s (p + 2) 0 ∷ get_or s (p + 3) 0 ∷ drop (p + 4) s
cut s p h =
    let e1 : p + 1 ≡ suc p = omega arith in
    let e2 : p + 2 ≡ suc (suc p) = omega arith in
    let e3 : p + 3 ≡ suc (suc (suc p)) = omega arith in
    let e4 : p + 4 ≡ suc (suc (suc (suc p))) = omega arith in
    rw (e1, e2, e3, e4) (drop-cons s p 0 (omega arith)
    ∙ ap (λ (l : List ℕ). get_or s p 0 ∷ l) (drop-cons s (suc p) 0 (omega arith)
    ∙ ap (λ (l : List ℕ). get_or s (suc p) 0 ∷ l) (drop-cons s (suc (suc p)) 0 (omega arith)
    ∙ ap (λ (l : List ℕ). get_or s (suc (suc p)) 0 ∷ l) (drop-cons s (suc (suc (suc p))) 0 (omega arith)))))

four : (s : List ℕ) (p n : ℕ) → p + 4 ≤ length s → words (take (suc (suc (suc (suc n)))) (drop p s)) ≡ big s p ∷ words (take n (drop (p + 4) s))
unfolding words
four s p n h = ap (λ (l : List ℕ). words (take (suc (suc (suc (suc n)))) l)) (cut s p h)

joined : (a b c d : ℕ) → from_be_bytes w32 (a ∷ b ∷ c ∷ d ∷ []) ≡ a * 2 ^ 24 + b * 2 ^ 16 + c * 2 ^ 8 + d
joined a b c d = omega arith

abbrev read : List ℕ → ℕ → ℕ
read s p = from_be_bytes w32 (get_or s p 0 ∷ get_or s (p + 1) 0 ∷ get_or s (p + 2) 0 ∷ get_or s (p + 3) 0 ∷ [])

pub loaded : (s w : List ℕ) (at j v : ℕ) → at + 64 ≤ length s → j < 16 → length w ≡ 16 → v ≡ read s (at + j * 4)
    → take (j + 1) (set w j v) ++ words (take (64 - (j + 1) * 4) (drop (at + (j + 1) * 4) s)) ≡ take j w ++ words (take (64 - j * 4) (drop (at + j * 4) s))
loaded s w at j v room low long read_is =
    let p : ℕ = at + j * 4 in
    let v_is : v ≡ big s p = read_is ∙ joined (get_or s p 0) (get_or s (p + 1) 0) (get_or s (p + 2) 0) (get_or s (p + 3) 0) in
    let h : j < length w = omega arith in
    let e1 : 64 - j * 4 ≡ suc (suc (suc (suc (64 - (j + 1) * 4)))) = omega arith in
    let e2 : at + (j + 1) * 4 ≡ (at + j * 4) + 4 = omega arith in
    let f = four s (at + j * 4) (64 - (j + 1) * 4) (omega arith) in
    let g : take (j + 1) (set w j v) ≡ take j w ++ (v ∷ []) = rw add-one (take-suc-set w j v h) in
    rw (e1, e2, f, ← v_is, g) (append_assoc (take j w) (v ∷ []) (words (take (64 - (j + 1) * 4) (drop ((at + j * 4) + 4) s))))

pub all_loaded : (s w : List ℕ) (at j : ℕ) → 16 ≤ j → j ≤ 16 → length w ≡ 16 → take j w ++ words (take (64 - j * 4) (drop (at + j * 4) s)) ≡ w
unfolding words
all_loaded s w at j p q long =
    let e : j ≡ 16 = omega arith in
    let h : length w ≤ 16 = omega arith in
    rw (e, take_all 16 w) (append-nil w)

-- ---- blocks
pub block_turn : (n i : ℕ) (h h' b s r : List ℕ) → i < n → b ≡ words (take 64 (drop (i * 64) s)) → h' ≡ compressed h b
    → blocks (n - i) h (drop (i * 64) s) ≡ r → blocks (n - (i + 1)) h' (drop ((i + 1) * 64) s) ≡ r
unfolding blocks
block_turn n i h h' b s r p b_is h_is inv =
    let e1 : n - i ≡ suc (n - (i + 1)) = omega arith in
    let e2 : (i + 1) * 64 ≡ i * 64 + 64 = omega arith in
    rw (h_is, b_is, e2, ← drop-drop 64 (i * 64) s) (rw e1 at inv)

pub block_end : (n i : ℕ) (h s r : List ℕ) → n ≤ i → blocks (n - i) h (drop (i * 64) s) ≡ r → h ≡ r
unfolding blocks
block_end n i h s r p inv =
    let e : n - i ≡ 0 = omega arith in
    rw e at inv
