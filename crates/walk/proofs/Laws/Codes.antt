-- A statement's code: the code over two words from a prepared key, compared with the eight words behind them.
use Rattle.std.specs.Prelude.{ℕ, suc, ◌+◌, ◌-◌, ◌<◌, ◌≤◌, Bool, true, false, not, ◌&&◌, ◌||◌, List, [], ◌∷◌, ◌≡◌, refl, eqb, length, get_or, take, drop, Ok}
use Rattle.std.proofs.Common.{sym, ◌∙◌, add-one, arith, drop-cons}
use Rattle.std.proofs.Math.Seq.{drop-length}
use Rattle.std.proofs.lemmas.Bool.{not-false}
use Rattle.laws.specs.Pick.{pick}
use Rattle.laws.proofs.Chosen.{same_ok}
use Rattle.laws.specs.Bools.{neither, and_assoc, or_nothing}
use Rattle.hmac.specs.declared.Prepared.{Prepared}
use Rattle.hmac.specs.Hmac.{code_from, short_code}
use Rattle.format.specs.Form.{present_form}
use Rattle.format.specs.Numbers.{code_words}
use Rattle.format.specs.declared.Fields.{Fields}
use Rattle.format.specs.Words.{fields_of}
use Rattle.format.specs.Statement.{same_words}
use Rattle.format.proofs.Laws.Layout.{covered_formed, two_words}
use Rattle.format.specs.Present.{covered_words, statement_words, formed, statement, code_at, covered, verifies}

-- the code over two words is never refused
pub two_coded : (p : Prepared) (t : List ℕ) → length t ≡ statement_words → short_code p (take covered_words (drop 0 t)) ≡ Ok (code_from p (get_or t 0 0 ∷ get_or t 1 0 ∷ []))
unfolding short_code pick
two_coded p t h = rw (two_words t 0 (omega (arith, h)))

-- what a code that does not match tells
pub failed : (p : Prepared) (t code : List ℕ) (r : Bool) → length t ≡ statement_words → covered (statement t 0) ≡ get_or t 0 0 ∷ get_or t 1 0 ∷ []
    → short_code p (take covered_words (drop 0 t)) ≡ Ok code → r ≡ same_words (code_at t 0) code
    → not r ≡ not (verifies (code_from p) (statement t 0))
unfolding Rattle.format.specs.Statement.verifies
failed p t code r h c e m =
    let k = same_ok (code_from p (get_or t 0 0 ∷ get_or t 1 0 ∷ [])) code (sym (two_coded p t h) ∙ e) in
    rw (m, ← k, c)

-- a code is computed only where the fields are in place, and then covers the words read
pub covers : (n : ℕ) (t : List ℕ) (s : Fields) (b o : Bool) → s ≡ fields_of (get_or t 0 0) → b ≡ formed n s → (not b || o) ≡ false
    → covered (statement t 0) ≡ get_or t 0 0 ∷ get_or t 1 0 ∷ []
covers n t s b o read good h = covered_formed present_form n t 0 (sym (rw read at good) ∙ not-false b (neither (not b) o h).0)

-- a second group has its size, or there is none and nothing follows
pub chosen : (due : Bool) (rest size : ℕ) → (due && eqb rest size || not due && eqb rest 0) ≡ eqb rest (pick due size 0)
unfolding pick
chosen true rest size = sym (or_nothing (eqb rest size))
chosen false rest size = refl

-- ---- comparing eight words
pub same_turn : (t code : List ℕ) (i : ℕ) (ok : Bool) → i < code_words → length code ≡ code_words → length t ≡ statement_words
    → (ok && same_words (take (code_words - i) (drop (covered_words + i) t)) (drop i code))
    ≡ ((ok && eqb (get_or t (covered_words + i) 0) (get_or code i 0)) && same_words (take (code_words - (i + 1)) (drop (covered_words + (i + 1)) t)) (drop (i + 1) code))
unfolding same_words
same_turn t code i ok h l m =
    let e : code_words - i ≡ suc (code_words - (i + 1)) = omega arith in
    let f : covered_words + (i + 1) ≡ suc (covered_words + i) = omega arith in
    let p : covered_words + i < length t = omega arith in
    let q : i < length code = omega arith in
    rw (e, drop-cons t (covered_words + i) 0 p, drop-cons code i 0 q, f, add-one)
    (sym (and_assoc ok (eqb (get_or t (covered_words + i) 0) (get_or code i 0)) (same_words (take (code_words - suc i) (drop (suc (covered_words + i)) t)) (drop (suc i) code))))

pub same_end : (l code : List ℕ) (i : ℕ) (ok : Bool) → code_words ≤ i → i ≤ code_words → length code ≡ code_words
    → ok ≡ (ok && same_words (take (code_words - i) l) (drop i code))
unfolding same_words
same_end l code i ok p q e =
    let z : code_words - i ≡ 0 = omega arith in
    let d : i ≡ length code = omega arith in
    rw (z, d, drop-length code) (and_true ok)
  where
    and_true : (b : Bool) → b ≡ (b && true)
    and_true true = refl
    and_true false = refl
