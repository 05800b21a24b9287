-- Laws of words and bytes: words are read back from their bytes, and the padding behind a few words is a few words.
use Rattle.std.specs.Prelude.{◌≡◌, refl, List, [], ◌∷◌, ◌++◌, ℕ, zero, suc, ◌+◌, ◌-◌, ◌*◌, ◌/◌, ◌%◌, ◌^◌, ◌≤◌, ◌<◌, length, replicate}
use Rattle.std.proofs.Common.{sym, ap, ◌∙◌, append-nil, arith, length-append}
use Rattle.std.proofs.lemmas.List.{length-replicate}
use Rattle.laws.specs.Below.{Below}
use Rattle.sha256.specs.Sha256.{words, big32, bytes, big64, zeros, padding}

same_word : (w : ℕ) → w < 2 ^ 32 → w / 2 ^ 24 % 256 * 2 ^ 24 + w / 2 ^ 16 % 256 * 2 ^ 16 + w / 2 ^ 8 % 256 * 2 ^ 8 + w % 256 ≡ w
same_word w h =
    let top : w / 2 ^ 24 % 256 ≡ w / 2 ^ 24 = omega arith in
    let e3 : w / 2 ^ 24 ≡ w / 2 ^ 16 / 256 = omega arith in
    let e2 : w / 2 ^ 16 ≡ w / 2 ^ 8 / 256 = omega arith in
    glue w (w / 2 ^ 8) (w / 2 ^ 16) (w / 2 ^ 24 % 256) (w % 256) (w / 2 ^ 8 % 256) (w / 2 ^ 16 % 256) (omega arith) (omega arith) (omega arith)
  where
    glue : (w x y a d c b : ℕ) → w ≡ x * 256 + d → x ≡ y * 256 + c → y ≡ a * 256 + b → a * 2 ^ 24 + b * 2 ^ 16 + c * 2 ^ 8 + d ≡ w
    glue w x y a d c b p q r = omega arith

-- words that anything stands behind
pub read_back : (ws m : List ℕ) → Below ws → words (bytes ws ++ m) ≡ ws ++ words m
unfolding words bytes big32
read_back [] m below = refl
read_back (w ∷ ws) m below = λ i. same_word w (below 0) i ∷ read_back ws m (λ j. below (suc j)) i

pub words_bytes : (ws : List ℕ) → Below ws → words (bytes ws) ≡ ws
unfolding words
words_bytes ws below = ap words (sym (append-nil (bytes ws))) ∙ read_back ws [] below ∙ append-nil ws

pub length_bytes : (ws : List ℕ) → length (bytes ws) ≡ length ws * 4
unfolding bytes big32
length_bytes [] = refl
length_bytes (w ∷ ws) = let r = length_bytes ws in omega arith

-- four zero bytes are a zero word
zero_words : (k : ℕ) (m : List ℕ) → words (replicate (k * 4) 0 ++ m) ≡ replicate k 0 ++ words m
unfolding words
zero_words zero m = refl
zero_words (suc k) m =
    let e : suc k * 4 ≡ suc (suc (suc (suc (k * 4)))) = omega arith in
    rw e (ap (λ (l : List ℕ). 0 ∷ l) (zero_words k m))

-- a small number's eight bytes are a zero word and the number
small_word : (x : ℕ) → x < 2 ^ 32 → words (big64 x) ≡ 0 ∷ x ∷ []
unfolding words big64
small_word x h =
    let a : x / 2 ^ 56 % 256 ≡ 0 = omega arith in
    let b : x / 2 ^ 48 % 256 ≡ 0 = omega arith in
    let c : x / 2 ^ 40 % 256 ≡ 0 = omega arith in
    let d : x / 2 ^ 32 % 256 ≡ 0 = omega arith in
    rw (a, b, c, d, same_word x h)

zeros_on : (k : ℕ) (m : List ℕ) → replicate k 0 ++ (0 ∷ m) ≡ replicate (suc k) 0 ++ m
zeros_on zero m = refl
zeros_on (suc k) m = ap (λ (l : List ℕ). 0 ∷ l) (zeros_on k m)

-- the padding behind a block and n words more, as words: the top bit, zeros, and the length in bits
pub short_padding : (n : ℕ) → n ≤ 13 → words (padding (64 + n * 4)) ≡ 2 ^ 31 ∷ (replicate (14 - n) 0 ++ ((64 + n * 4) * 8 ∷ []))
unfolding words padding
short_padding n h =
    let e : zeros (64 + n * 4) ≡ suc (suc (suc ((13 - n) * 4))) = omega arith in
    let k : 14 - n ≡ suc (13 - n) = omega arith in
    let s = small_word ((64 + n * 4) * 8) (omega arith) in
    rw (e, k, zero_words (13 - n) (big64 ((64 + n * 4) * 8)), s, zeros_on (13 - n) ((64 + n * 4) * 8 ∷ []))

pub length_padding : (n : ℕ) → length (padding n) ≡ 9 + zeros n
unfolding padding big64
length_padding n = simp (length-append, length-replicate) (omega arith)
