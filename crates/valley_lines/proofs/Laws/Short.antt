-- A line that can be read has at most 22 bytes: a keyword of at most 4, three numbers of at most 5, three spaces.
use Rattle.std.specs.Prelude.{ℕ, suc, ◌+◌, ◌≤◌, ◌<◌, ◌≡◌, refl, Bool, true, false, ◌&&◌, List, [], ◌∷◌, Some, None, eqb, leb, length, take}
use Rattle.std.proofs.Common.{sym, ap, ◌∙◌, arith, take_all, length-take-le, leb-true}
use Rattle.std.proofs.Math.Decide.{dec_lt}
use Rattle.laws.specs.Pick.{pick}
use Rattle.laws.specs.Bools.{both, never}
use Rattle.valley_lines.specs.declared.Line.TheVariants.{Group, Open, Give}
use Rattle.valley_lines.specs.Read.{space, longer, split, is_number, value, same, word_n, word_open, word_give, all_digits, read_words, read_line}

-- the bytes of the words, and one more for each word
unfoldable pub total : List (List ℕ) → ℕ
total [] = 0
total (word ∷ words) = suc (length word + total words)

total_longer : (b : ℕ) (words : List (List ℕ)) (n : ℕ) → total words ≡ suc n → total (longer b words) ≡ suc (suc n)
unfolding total
total_longer b [] n e = absurd (omega arith)
total_longer b (word ∷ words) n e = omega arith

pub total_split : (separator : ℕ) (text : List ℕ) → total (split separator text) ≡ suc (length text)
unfolding total split pick
total_split separator [] = refl
total_split separator (b ∷ text) = go (eqb b separator) (total_split separator text)
  where
    go : (t : Bool) → total (split separator text) ≡ suc (length text)
        → total (pick t ([] ∷ split separator text) (longer b (split separator text))) ≡ suc (suc (length text))
    go true ih = omega arith
    go false ih = total_longer b (split separator text) (length text) ih

pub same_length : (text other : List ℕ) → same text other ≡ true → length text ≡ length other
unfolding same
same_length [] [] e = refl
same_length [] (c ∷ other) e = never false refl e
same_length (b ∷ text) [] e = never false refl e
same_length (b ∷ text) (c ∷ other) e = ap suc (same_length text other (both (eqb b c) (same text other) e).1)

pub number_short : (word : List ℕ) → is_number word ≡ true → length word ≤ 5
unfolding is_number
number_short word e =
    leb-true (length word) 5 (both (leb 1 (length word)) (leb (length word) 5) (both (leb 1 (length word) && leb (length word) 5) (all_digits word) e).0).1

-- a choice whose test can't be true
not_picked : {A : Type 0} (b : Bool) (x y : A) → (b ≡ true → ⊥) → pick b x y ≡ y
unfolding pick
not_picked true x y h = absurd (h refl)
not_picked false x y h = refl

long_words : (words : List (List ℕ)) → 23 < total words → read_words words ≡ None
unfolding read_words total
long_words [] h = refl
long_words (k ∷ []) h = refl
long_words (k ∷ n ∷ []) h = not_picked (same k word_n && is_number n) (Some (Group (value n))) None (λ t.
    let p : (same k word_n ≡ true) × (is_number n ≡ true) = both (same k word_n) (is_number n) t in
    omega (arith, same_length k word_n p.0, number_short n p.1))
long_words (k ∷ s ∷ v ∷ []) h = not_picked (same k word_open && is_number s && is_number v) (Some (Open (value s) (value v))) None (λ t.
    let q : ((same k word_open && is_number s) ≡ true) × (is_number v ≡ true) = both (same k word_open && is_number s) (is_number v) t in
    let p : (same k word_open ≡ true) × (is_number s ≡ true) = both (same k word_open) (is_number s) q.0 in
    omega (arith, same_length k word_open p.0, number_short s p.1, number_short v q.1))
long_words (k ∷ s ∷ b ∷ c ∷ []) h = not_picked (same k word_give && is_number s && is_number b && is_number c) (Some (Give (value s) (value b) (value c))) None (λ t.
    let r : ((same k word_give && is_number s && is_number b) ≡ true) × (is_number c ≡ true) = both (same k word_give && is_number s && is_number b) (is_number c) t in
    let q : ((same k word_give && is_number s) ≡ true) × (is_number b ≡ true) = both (same k word_give && is_number s) (is_number b) r.0 in
    let p : (same k word_give ≡ true) × (is_number s ≡ true) = both (same k word_give) (is_number s) q.0 in
    omega (arith, same_length k word_give p.0, number_short s p.1, number_short b q.1, number_short c r.1))
long_words (k ∷ s ∷ b ∷ c ∷ d ∷ more) h = refl

pub unreadable_long : (text : List ℕ) → 22 < length text → read_line text ≡ None
unfolding read_line
unreadable_long text h = long_words (split space text) (omega (arith, total_split space text))

-- so a reader needs at most the first 23 bytes of a line
pub capped : (text : List ℕ) → read_line (take 23 text) ≡ read_line text
capped text = go (dec_lt 22 (length text))
  where
    go : Dec (22 < length text) → read_line (take 23 text) ≡ read_line text
    go (yes h) =
        unreadable_long (take 23 text) (omega (arith, length-take-le 23 text (omega arith))) ∙ sym (unreadable_long text h)
    go (no h) = ap read_line (take_all 23 text (omega (arith, h)))
