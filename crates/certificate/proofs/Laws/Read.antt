-- A statement's ten words, read from a bundle; and the code from a prepared key.
use Rattle.std.specs.Prelude.{ℕ, ◌+◌, ◌≤◌, ◌<◌, List, [], ◌∷◌, ◌≡◌, refl, length, get_or, set, take, drop}
use Rattle.std.proofs.Common.{sym, ap, ◌∙◌, add-one, arith, length-drop, drop-drop, get_or-drop, get_or-take, take_all, take-suc, take-suc-set, take-take}
use Rattle.format.specs.Numbers.{code_words}
use Rattle.hmac.specs.Hmac.{prepared, code_from}
use Rattle.hmac.proofs.Theorems.Prepared.{code_is_hmac}
use Rattle.format.specs.Words.{fields_of}
use Rattle.format.specs.Present.{covered_words, statement_words, statement, words_at, code_at, fields_at}
use Rattle.hmac.specs.Code.{hmac_code}

-- ---- a statement read
-- its words, copied one after the other
pub one_copied : (ws : List ℕ) (at : ℕ) (t : List ℕ) (i : ℕ) → i < length t → at + i < length ws → take i t ≡ take i (drop at ws)
    → take (i + 1) (set t i (get_or ws (at + i) 0)) ≡ take (i + 1) (drop at ws)
one_copied ws at t i h room e =
    let l : i < length (drop at ws) = omega (arith, length-drop at ws) in
    rw (add-one i, take-suc-set t i (get_or ws (at + i) 0) h, take-suc (drop at ws) i 0 l, e, get_or-drop at ws i 0)

pub all_copied : (l t : List ℕ) (i : ℕ) → statement_words ≤ i → i ≤ statement_words → length t ≡ statement_words → take i t ≡ take i l → t ≡ take statement_words l
all_copied l t i p q h e =
    let z : i ≡ statement_words = omega arith in
    sym (take_all statement_words t (omega (arith, h))) ∙ rw z at e

word_read : (ws : List ℕ) (at i : ℕ) → i < statement_words → get_or (words_at ws at) i 0 ≡ get_or ws (at + i) 0
word_read ws at i h = get_or-take statement_words (drop at ws) i 0 h ∙ get_or-drop at ws i 0

behind_two : (l : List ℕ) → take code_words (drop covered_words (take statement_words l)) ≡ take code_words (drop covered_words l)
behind_two [] = refl
behind_two (x ∷ []) = refl
behind_two (x ∷ y ∷ l) = take-take code_words code_words l (omega arith)

pub word_0_read : (ws : List ℕ) (at : ℕ) → get_or (words_at ws at) 0 0 ≡ get_or ws at 0
word_0_read ws at =
    let e : at + 0 ≡ at = omega arith in
    word_read ws at 0 (omega arith) ∙ ap (λ i. get_or ws i 0) e

pub word_1_read : (ws : List ℕ) (at : ℕ) → get_or (words_at ws at) 1 0 ≡ get_or ws (at + 1) 0
word_1_read ws at = word_read ws at 1 (omega arith)

pub fields_read : (ws : List ℕ) (at : ℕ) → fields_at (words_at ws at) 0 ≡ fields_at ws at
fields_read ws at = ap fields_of (word_0_read ws at)

pub statement_read : (ws : List ℕ) (at : ℕ) → statement (words_at ws at) 0 ≡ statement ws at
statement_read ws at =
    let c : code_at (words_at ws at) 0 ≡ code_at ws at = behind_two (drop at ws) ∙ ap (take code_words) (drop-drop covered_words at ws) in
    rw (word_0_read ws at, word_1_read ws at, c)

-- from a prepared key the code is HMAC
pub code_is : (k : List ℕ) → code_from (prepared k) ≡ hmac_code k
unfolding hmac_code
code_is k = λ i ws. code_is_hmac k ws i
