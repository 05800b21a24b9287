-- Laws of the words of a line: one after the other, and what is left from an index on.
use Rattle.std.specs.Prelude.{ℕ, suc, ◌+◌, ◌-◌, ◌*◌, ◌^◌, ◌≤◌, ◌<◌, ◌≡◌, refl, Bool, true, false, ◌&&◌, List, [], ◌∷◌, eqb, leb, length, take, drop, get_or, cond, Option, Some, None, nat_eq, nat_lt}
use Rattle.std.proofs.Common.{sym, ◌∙◌, pow-suc, add-one, arith, take_all, length-drop, drop_of_length-le, drop-cons, drop-drop, leb-true, le-leb, ltb-false}
use Rattle.std.specs.List.{position_or_len}
use Rattle.std.proofs.lemmas.List.Recursion.{is_position_or_len}
use Rattle.std.specs.Cmp.Lexicographic.{pointwise}
use Rattle.laws.specs.Pick.{pick}
use Rattle.laws.specs.Bools.{both, never, is_false}
use Rattle.valley_lines.specs.Read.{space, longer, split, is_digit, all_digits, is_number, value_behind, value, same}
use Rattle.valley_lines.specs.Words.{word_length}
use Rattle.valley_lines.proofs.Laws.Short.{number_short}

pub word_length_le : (text : List ℕ) → word_length text ≤ length text
unfolding word_length pick
word_length_le [] = omega arith
word_length_le (b ∷ text) = go (eqb b space) (word_length_le text)
  where
    go : (t : Bool) → word_length text ≤ length text → pick t 0 (suc (word_length text)) ≤ suc (length text)
    go true h = omega arith
    go false h = omega arith

-- the last word is the whole text
split_last : (text : List ℕ) → word_length text ≡ length text → split space text ≡ take (word_length text) text ∷ []
unfolding split word_length pick
split_last [] e = refl
split_last (b ∷ text) e = go (eqb b space) e (split_last text)
  where
    go : (t : Bool) → pick t 0 (suc (word_length text)) ≡ suc (length text) → (word_length text ≡ length text → split space text ≡ take (word_length text) text ∷ [])
        → pick t ([] ∷ split space text) (longer b (split space text)) ≡ take (pick t 0 (suc (word_length text))) (b ∷ text) ∷ []
    go true e ih = absurd (omega arith)
    go false e ih = rw (ih (omega arith))

-- any other word ends before a space, and the next starts behind it
split_more : (text : List ℕ) → word_length text < length text
    → split space text ≡ take (word_length text) text ∷ split space (drop (suc (word_length text)) text)
unfolding split word_length pick
split_more [] h = absurd (omega arith)
split_more (b ∷ text) h = go (eqb b space) h (split_more text)
  where
    go : (t : Bool) → pick t 0 (suc (word_length text)) < suc (length text)
        → (word_length text < length text → split space text ≡ take (word_length text) text ∷ split space (drop (suc (word_length text)) text))
        → pick t ([] ∷ split space text) (longer b (split space text))
        ≡ take (pick t 0 (suc (word_length text))) (b ∷ text) ∷ split space (drop (suc (pick t 0 (suc (word_length text)))) (b ∷ text))
    go true h ih = refl
    go false h ih = rw (ih (omega arith))

-- a text from an index on
pub rest_all : (text : List ℕ) (from : ℕ) → take (length text - from) (drop from text) ≡ drop from text
rest_all text from = take_all (length text - from) (drop from text) (omega (arith, length-drop from text))

-- the first space stands where the first word ends
is_position : (text : List ℕ) → word_length text ≡ position_or_len (λ b. nat_eq b space) text
unfolding word_length pick
is_position = is_position_or_len word_length (λ b. nat_eq b space) none more
  where
    none : word_length [] ≡ 0
    none = refl

    more : (b : ℕ) (text : List ℕ) → word_length (b ∷ text) ≡ cond (nat_eq b space) 0 (1 + word_length text)
    more b text = go (nat_eq b space)
      where
        go : (t : Bool) → pick t 0 (suc (word_length text)) ≡ cond t 0 (1 + word_length text)
        go true = refl
        go false = omega arith

-- what the library's search for a space found
abbrev pub Found : List ℕ → Option ℕ → Type 0
Found text r =
    r ≡ cond (nat_lt (position_or_len (λ b. nat_eq b space) text) (length text)) (Some (position_or_len (λ b. nat_eq b space) text)) None

pub space_found : (text : List ℕ) (n : ℕ) → Found text (Some n) → n ≡ word_length text
space_found text n = rw (is_position text) (go (nat_lt (position_or_len (λ b. nat_eq b space) text) (length text)))
  where
    go : (t : Bool) → Some n ≡ cond t (Some (position_or_len (λ b. nat_eq b space) text)) None → n ≡ position_or_len (λ b. nat_eq b space) text
    go true e = cc
    go false e = cc

pub no_space : (text : List ℕ) → Found text None → word_length text ≡ length text
no_space text = rw (is_position text) (go (nat_lt (position_or_len (λ b. nat_eq b space) text) (length text)) refl)
  where
    go : (t : Bool) → nat_lt (position_or_len (λ b. nat_eq b space) text) (length text) ≡ t
        → None ≡ cond t (Some (position_or_len (λ b. nat_eq b space) text)) None → position_or_len (λ b. nat_eq b space) text ≡ length text
    go true h e = cc
    go false h e =
        omega (arith, ltb-false (position_or_len (λ b. nat_eq b space) text) (length text) h, is_position text, word_length_le text)

pub end_whole : (text : List ℕ) (from : ℕ) → from ≤ length text → word_length (drop from text) ≡ length (drop from text)
    → length text ≡ from + word_length (drop from text)
end_whole text from h e = omega (arith, length-drop from text)

-- the end of a word that starts inside the text
pub end_inside : (text : List ℕ) (from end : ℕ) → from ≤ length text → end ≡ from + word_length (drop from text) → (from ≤ end) × (end ≤ length text)
end_inside text from end h e = omega (arith, word_length_le (drop from text), length-drop from text)

-- the words from an index on, where the first of them ends at `end`
pub last_word : (text : List ℕ) (from end : ℕ) → from ≤ length text → end ≡ from + word_length (drop from text) → end ≡ length text
    → split space (drop from text) ≡ take (end - from) (drop from text) ∷ []
last_word text from end h e whole =
    let n : end - from ≡ word_length (drop from text) = omega arith in
    rw n (split_last (drop from text) (omega (arith, length-drop from text)))

pub next_word : (text : List ℕ) (from end : ℕ) → from ≤ length text → end ≡ from + word_length (drop from text) → end < length text
    → split space (drop from text) ≡ take (end - from) (drop from text) ∷ split space (drop (end + 1) text)
next_word text from end h e more =
    let n : end - from ≡ word_length (drop from text) = omega arith in
    let k : from + suc (word_length (drop from text)) ≡ end + 1 = omega arith in
    let d : drop (suc (word_length (drop from text))) (drop from text) ≡ drop (end + 1) text =
    drop-drop (suc (word_length (drop from text))) from text ∙ rw k in
    rw (n, ← d) (split_more (drop from text) (omega (arith, length-drop from text)))

-- the library compares two texts byte by byte too
pub same_is : (text other : List ℕ) → pointwise nat_eq text other ≡ same text other
unfolding same
same_is [] [] = refl
same_is [] (c ∷ other) = refl
same_is (b ∷ text) [] = refl
same_is (b ∷ text) (c ∷ other) = rw (same_is text other)

-- looking for a byte that is no digit: at a digit, at another byte, and at the end
pub digits_turn : (word : List ℕ) (i : ℕ) → i < length word → is_digit (get_or word i 0) ≡ true → all_digits (drop i word) ≡ all_digits (drop (i + 1) word)
unfolding all_digits
digits_turn word i h e = rw (add-one i, drop-cons word i 0 h, e)

pub digits_stop : (word : List ℕ) (i : ℕ) → i < length word → is_digit (get_or word i 0) ≡ false → false ≡ all_digits (drop i word)
unfolding all_digits
digits_stop word i h e = rw (drop-cons word i 0 h, e)

pub digits_end : (word : List ℕ) (i : ℕ) → length word ≤ i → true ≡ all_digits (drop i word)
unfolding all_digits
digits_end word i h = rw (drop_of_length-le word h)

-- what a digit tells
pub digit_range : (b : ℕ) → is_digit b ≡ true → (48 ≤ b) × (b ≤ 57)
digit_range b e =
    let q : (leb 48 b ≡ true) × (leb b 57 ≡ true) = both (leb 48 b) (leb b 57) e in
    (leb-true 48 b q.0, leb-true b 57 q.1)

-- the number that digits spell: a digit more, and the end
pub value_turn : (word : List ℕ) (i v : ℕ) → i < length word
    → value_behind v (drop i word) ≡ value_behind (v * 10 + (get_or word i 0 - 48)) (drop (i + 1) word)
unfolding value_behind
value_turn word i v h = rw (add-one i, drop-cons word i 0 h)

pub value_end : (word : List ℕ) (i v : ℕ) → length word ≤ i → value_behind v (drop i word) ≡ v
unfolding value_behind
value_end word i v h = rw (drop_of_length-le word h)

-- the number of a word, or none, as the code reads it
abbrev pub spelled : List ℕ → Option ℕ
spelled word = pick (is_number word) (Some (value word)) None

wrong : (word : List ℕ) → (is_number word ≡ true → ⊥) → None ≡ spelled word
unfolding pick
wrong word h = rw (is_false (is_number word) h)

pub wrong_length : (word : List ℕ) → (1 ≤ length word → 5 < length word) → None ≡ spelled word
unfolding is_number
wrong_length word h = wrong word (λ e.
    let some : 1 ≤ length word = leb-true 1 (length word) (both (leb 1 (length word)) (leb (length word) 5) (both (leb 1 (length word) && leb (length word) 5) (all_digits word) e).0).0 in
    omega (arith, number_short word e, h some))

pub no_digit : (word : List ℕ) (i : ℕ) → i < length word → is_digit (get_or word i 0) ≡ false
    → all_digits (drop i word) ≡ all_digits word → None ≡ spelled word
unfolding is_number
no_digit word i h e same_digits = wrong word (λ t.
    never (all_digits word) (sym (digits_stop word i h e ∙ same_digits)) (both (leb 1 (length word) && leb (length word) 5) (all_digits word) t).1)

pub right : (word : List ℕ) (i v : ℕ) → length word ≤ i → 1 ≤ length word → length word ≤ 5
    → all_digits (drop i word) ≡ all_digits word → value_behind v (drop i word) ≡ value word → Some v ≡ spelled word
unfolding is_number pick
right word i v h some few digits spells =
    let v_is : v ≡ value word = sym (value_end word i v h) ∙ spells in
    rw (le-leb 1 (length word) some, le-leb (length word) 5 few, ← digits, ← digits_end word i h, v_is)

-- what the answers of `number` tell
pub not_spelled : (word : List ℕ) → None ≡ spelled word → is_number word ≡ true → ⊥
unfolding pick
not_spelled word = go (is_number word)
  where
    go : (t : Bool) → None ≡ pick t (Some (value word)) None → t ≡ true → ⊥
    go true e h = cc
    go false e h = cc

pub was_spelled : (word : List ℕ) (v : ℕ) → Some v ≡ spelled word → (is_number word ≡ true) × (v ≡ value word)
unfolding pick
was_spelled word v = go (is_number word)
  where
    go : (t : Bool) → Some v ≡ pick t (Some (value word)) None → (t ≡ true) × (v ≡ value word)
    go true e = (refl, cc)
    go false e = cc

-- i digits spell less than 10 ^ i
pub below_turn : (v d i : ℕ) → v < 10 ^ i → d ≤ 9 → v * 10 + d < 10 ^ (i + 1)
below_turn v d i h k = rw (add-one i, pow-suc 10 i) (omega arith)
