-- What a line says, from the ends of its words on, as the code goes by them.
use Rattle.std.specs.Prelude.{ℕ, ◌+◌, ◌-◌, ◌≤◌, ◌<◌, ◌≡◌, refl, Bool, true, false, ◌&&◌, List, [], ◌∷◌, length, take, drop, Option, Some, None, nat_eq}
use Rattle.std.proofs.Common.{sym, ap, ◌∙◌, arith}
use Rattle.std.specs.Bool.{then_some}
use Rattle.std.specs.Cmp.Lexicographic.{pointwise}
use Rattle.laws.specs.Pick.{pick}
use Rattle.laws.specs.Bools.{both, is_false}
use Rattle.valley_lines.specs.declared.Line.{Line}
use Rattle.valley_lines.specs.declared.Line.TheVariants.{Group, Open, Give}
use Rattle.valley_lines.specs.Read.{space, split, is_number, same, word_n, word_open, word_give, read_words, read_line}
use Rattle.valley_lines.proofs.Laws.Short.{total, total_split}
use Rattle.valley_lines.specs.Words.{word_length}
use Rattle.valley_lines.proofs.Laws.Words.{same_is, spelled, was_spelled, end_inside, last_word, next_word}

-- what the library's comparison tells of the keyword
pub keyword_is : (k w l : List ℕ) (r t : Bool) → r ≡ pointwise nat_eq k l → l ≡ w → r ≡ t → same k w ≡ t
keyword_is k w l r t r_is l_is e = sym (same_is k w) ∙ rw (← l_is) (sym r_is ∙ e)

-- two words
pub group_read : (k n : List ℕ) (v : ℕ) (t : Bool) → same k word_n ≡ t → Some v ≡ spelled n → then_some t (Group v) ≡ read_words (k ∷ n ∷ [])
unfolding read_words pick
group_read k n v true k_is n_is = let p = was_spelled n v n_is in rw (k_is, p.0, p.1)
group_read k n v false k_is n_is = rw k_is

pub group_not : (k n : List ℕ) → (is_number n ≡ true → ⊥) → None ≡ read_words (k ∷ n ∷ [])
unfolding read_words pick
group_not k n h = rw (is_false (same k word_n && is_number n) (λ t. h (both (same k word_n) (is_number n) t).1))

-- three words
pub open_read : (k s v : List ℕ) (x y : ℕ) (t : Bool) → same k word_open ≡ t → Some x ≡ spelled s → Some y ≡ spelled v
    → then_some t (Open x y) ≡ read_words (k ∷ s ∷ v ∷ [])
unfolding read_words pick
open_read k s v x y true k_is s_is v_is =
    let p = was_spelled s x s_is in
    let q = was_spelled v y v_is in
    rw (k_is, p.0, q.0, p.1, q.1)
open_read k s v x y false k_is s_is v_is = rw k_is

pub open_not : (k s v : List ℕ) → (is_number s ≡ true → is_number v ≡ true → ⊥) → None ≡ read_words (k ∷ s ∷ v ∷ [])
unfolding read_words pick
open_not k s v h = rw (is_false (same k word_open && is_number s && is_number v) (λ t.
    let q = both (same k word_open && is_number s) (is_number v) t in
    h (both (same k word_open) (is_number s) q.0).1 q.1))

-- four words
pub give_read : (k s m n : List ℕ) (x y z : ℕ) (t : Bool) → same k word_give ≡ t → Some x ≡ spelled s → Some y ≡ spelled m → Some z ≡ spelled n
    → then_some t (Give x y z) ≡ read_words (k ∷ s ∷ m ∷ n ∷ [])
unfolding read_words pick
give_read k s m n x y z true k_is s_is m_is n_is =
    let p = was_spelled s x s_is in
    let q = was_spelled m y m_is in
    let r = was_spelled n z n_is in
    rw (k_is, p.0, q.0, r.0, p.1, q.1, r.1)
give_read k s m n x y z false k_is s_is m_is n_is = rw k_is

pub give_not : (k s m n : List ℕ) → (is_number s ≡ true → is_number m ≡ true → is_number n ≡ true → ⊥)
    → None ≡ read_words (k ∷ s ∷ m ∷ n ∷ [])
unfolding read_words pick
give_not k s m n h = rw (is_false (same k word_give && is_number s && is_number m && is_number n) (λ t.
    let r = both (same k word_give && is_number s && is_number m) (is_number n) t in
    let q = both (same k word_give && is_number s) (is_number m) r.0 in
    h (both (same k word_give) (is_number s) q.0).1 q.1 r.1))

-- five words or more
too_many : (k s b c : List ℕ) (words : List (List ℕ)) → 0 < total words → None ≡ read_words (k ∷ s ∷ b ∷ c ∷ words)
unfolding read_words total
too_many k s b c [] h = absurd (omega arith)
too_many k s b c (d ∷ more) h = refl

-- the words of a whole line
pub one_word : (text : List ℕ) (a : ℕ) → a ≡ 0 + word_length (drop 0 text) → a ≡ length text → None ≡ read_line text
unfolding read_line read_words
one_word text a a_is whole = sym (ap read_words (last_word text 0 a (omega arith) a_is whole))

first_word : (text : List ℕ) (a : ℕ) → a ≡ 0 + word_length (drop 0 text) → (a ≡ length text → ⊥) → read_words (take a text ∷ split space (drop (a + 1) text)) ≡ read_line text
unfolding read_line
first_word text a a_is more =
    let n : a - 0 ≡ a = omega arith in
    let in_text : (0 ≤ a) × (a ≤ length text) = end_inside text 0 a (omega arith) a_is in
    sym (ap read_words (next_word text 0 a (omega arith) a_is (omega (arith, more)) ∙ rw n))

pub two_words : (text : List ℕ) (a b : ℕ) (r : Option Line) → a ≡ 0 + word_length (drop 0 text) → (a ≡ length text → ⊥) → b ≡ a + 1 + word_length (drop (a + 1) text)
    → b ≡ length text → r ≡ read_words (take a text ∷ take (b - (a + 1)) (drop (a + 1) text) ∷ []) → r ≡ read_line text
two_words text a b r a_is more b_is whole r_is =
    let in_text : (0 ≤ a) × (a ≤ length text) = end_inside text 0 a (omega arith) a_is in
    r_is ∙ rw (← last_word text (a + 1) b (omega (arith, more)) b_is whole) (first_word text a a_is more)

pub longer_line : (text : List ℕ) (a b : ℕ) (r : Option Line) → a ≡ 0 + word_length (drop 0 text) → (a ≡ length text → ⊥) → b ≡ a + 1 + word_length (drop (a + 1) text)
    → (b ≡ length text → ⊥) → r ≡ read_words (take a text ∷ take (b - (a + 1)) (drop (a + 1) text) ∷ split space (drop (b + 1) text)) → r ≡ read_line text
longer_line text a b r a_is more b_is further r_is =
    let in_text : (0 ≤ a) × (a ≤ length text) = end_inside text 0 a (omega arith) a_is in
    let b_in : (a + 1 ≤ b) × (b ≤ length text) = end_inside text (a + 1) b (omega (arith, more)) b_is in
    r_is ∙ rw (← next_word text (a + 1) b (omega (arith, more)) b_is (omega (arith, further))) (first_word text a a_is more)

-- the words of what is left behind two words
module _ (text : List ℕ) (keyword word : List ℕ) (b c : ℕ) (b_in : b < length text) (c_is : c ≡ b + 1 + word_length (drop (b + 1) text)) where
  pub three_words : (r : Option Line) → c ≡ length text → r ≡ read_words (keyword ∷ word ∷ take (c - (b + 1)) (drop (b + 1) text) ∷ [])
      → r ≡ read_words (keyword ∷ word ∷ split space (drop (b + 1) text))
  three_words r whole r_is = r_is ∙ rw (last_word text (b + 1) c (omega arith) c_is whole)

  c_in : (b + 1 ≤ c) × (c ≤ length text)
  c_in = end_inside text (b + 1) c (omega arith) c_is

  pub four_words : (d : ℕ) (r : Option Line) → (c ≡ length text → ⊥) → d ≡ c + 1 + word_length (drop (c + 1) text) → d ≡ length text
      → r ≡ read_words (keyword ∷ word ∷ take (c - (b + 1)) (drop (b + 1) text) ∷ take (d - (c + 1)) (drop (c + 1) text) ∷ [])
      → r ≡ read_words (keyword ∷ word ∷ split space (drop (b + 1) text))
  four_words d r more d_is whole r_is =
      r_is ∙ rw (next_word text (b + 1) c (omega arith) c_is (omega (arith, more, c_in)), last_word text (c + 1) d (omega (arith, more, c_in)) d_is whole)

  pub more_words : (d : ℕ) → (c ≡ length text → ⊥) → d ≡ c + 1 + word_length (drop (c + 1) text) → (d ≡ length text → ⊥)
      → None ≡ read_words (keyword ∷ word ∷ split space (drop (b + 1) text))
  more_words d more d_is further =
      let d_in : (c + 1 ≤ d) × (d ≤ length text) = end_inside text (c + 1) d (omega (arith, more, c_in)) d_is in
      rw (next_word text (b + 1) c (omega arith) c_is (omega (arith, more, c_in)), next_word text (c + 1) d (omega (arith, more, c_in)) d_is (omega (arith, further)))
      (too_many
      keyword
      word
      (take (c - (b + 1)) (drop (b + 1) text))
      (take (d - (c + 1)) (drop (c + 1) text))
      (split space (drop (d + 1) text))
      (omega (arith, total_split space (drop (d + 1) text))))
