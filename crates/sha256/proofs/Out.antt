-- A turn of the loop that writes a state's bytes writes the four bytes of one word.
use Rattle.std.proofs.Common.{◌≡◌, refl, sym, ap, ◌∙◌, List, [], ◌∷◌, ◌++◌, append-nil, append_assoc, ℕ, ◌+◌, ◌*◌, ◌≤◌, ◌<◌, add-one, arith, length, get_or, take, drop, drop_of_length-le, drop-cons, take_all}
use Rattle.std.specs.Int.{to_be_bytes, w32}
use Rattle.std.proofs.lemmas.Slice.{take-put_mid, put_mid-paste}
use Rattle.std.proofs.lemmas.List.Edits.{length-paste}
use borrow.Rule.Slice.PartMut.{put_mid}
use Rattle.sha256.specs.Sha256.{big32, bytes}

bytes_cons : (w : ℕ) (ws : List ℕ) → bytes (w ∷ ws) ≡ big32 w ++ bytes ws
unfolding bytes
bytes_cons w ws = refl

four_bytes : (w : ℕ) → to_be_bytes w32 w ≡ big32 w
unfolding big32
four_bytes w = refl

length_big32 : (w : ℕ) → length (big32 w) ≡ 4
unfolding big32
length_big32 w = refl

pub spelt : (h r four : List ℕ) (i n : ℕ) → i < 8 → length h ≡ 8 → length r ≡ 32 → four ≡ to_be_bytes w32 (get_or h i 0)
    → take ((i + 1) * 4) (put_mid (i * 4) n r four) ++ bytes (drop (i + 1) h) ≡ take (i * 4) r ++ bytes (drop i h)
spelt h r four i n low hl rl four_is =
    let w : ℕ = get_or h i 0 in
    let b : four ≡ big32 w = four_is ∙ four_bytes w in
    let l : length four ≡ 4 = ap length b ∙ length_big32 w in
    let g : drop i h ≡ w ∷ drop (i + 1) h = rw add-one (drop-cons h i 0 (omega arith)) in
    let t : take ((i + 1) * 4) (put_mid (i * 4) n r four) ≡ take (i * 4) r ++ four = take-put_mid (i * 4) n r four ((i + 1) * 4) (omega arith) (omega arith) in
    rw (t, g, bytes_cons w (drop (i + 1) h), b) (append_assoc (take (i * 4) r) (big32 w) (bytes (drop (i + 1) h)))

-- the room stays
pub kept : (r four : List ℕ) (i n : ℕ) → i < 8 → length r ≡ 32 → length four ≡ 4 → 4 ≡ n → length (put_mid (i * 4) n r four) ≡ 32
kept r four i n low long l e =
    ap length (put_mid-paste (i * 4) n r four four 4 refl e (sym l)) ∙ length-paste r (i * 4) four 4 (omega arith) (omega arith) ∙ long

pub all_spelt : (h r : List ℕ) (i : ℕ) → 8 ≤ i → i ≤ 8 → length h ≡ 8 → length r ≡ 32 → take (i * 4) r ++ bytes (drop i h) ≡ r
unfolding bytes
all_spelt h r i p q hl rl =
    let e : i ≡ 8 = omega arith in
    let n : length h ≤ 8 = omega arith in
    let d : drop 8 h ≡ [] = drop_of_length-le h n in
    rw (e, d, take_all 32 r (omega arith)) (append-nil r)
