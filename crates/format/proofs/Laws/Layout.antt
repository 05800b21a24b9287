-- Laws of the layout: what is formed in words is a well-formed statement, whose covered words are those that were read.
use Prim.Native.Nat.{ℕ, zero, suc, ◌+◌, ◌-◌, ◌^◌, ◌≤◌, ◌<◌}
use Rattle.std.specs.Prelude.{true, List, [], ◌∷◌, ◌≡◌, refl, eqb, length, take, drop}
use Rattle.std.proofs.Common.{sym, ◌∙◌, add-one, arith, drop-cons, eqb-true}
use Rattle.std.proofs.Math.Path.{ap}
use Rattle.std.proofs.Math.ListN.{get_or}
use Rattle.laws.specs.Bools.{both}
use Rattle.laws.specs.All.{All}
use Rattle.format.specs.Form.{Form, first_form, wide_form, covered_words, low_bits, with_round, round_at, fields_at, statement_words}
use Rattle.format.specs.declared.Fields.{Fields}
use Rattle.format.specs.Words.{kind_of, value_of, flag_of, spare_of, station_of, low_of, fields_of, wide_fields, word_of}
use Rattle.format.proofs.Laws.Word0.{written_read}
use Rattle.format.proofs.Laws.Shape.{formed_out, small}
use Rattle.format.specs.Statement.{statement, statements, word_0, covered, covered_at, same_words, well_formed, formed}
use Rattle.format.specs.Bundle.{all_formed}

-- ---- shown for each form
pub formed_well : (form : Form) (n : ℕ) (ws : List ℕ) (at : ℕ) → formed form n (fields_at form ws at) ≡ true → well_formed form n (statement form ws at) ≡ true
unfolding formed fields_of wide_fields well_formed
formed_well first_form n ws at h = (both (eqb (fields_at first_form ws at).spare 0) _ h).1
formed_well wide_form n ws at h = (both (eqb (fields_at wide_form ws at).spare 0) _ h).1

-- bits 26..24 are zero, and bits 15..0 as the form has them
zeros : (form : Form) (n : ℕ) (ws : List ℕ) (at : ℕ) → formed form n (fields_at form ws at) ≡ true
    → (spare_of (get_or ws at 0) ≡ 0) × (low_of (get_or ws at 0) ≡ low_bits form (round_at form ws at))
unfolding formed fields_of wide_fields
zeros first_form n ws at h = (eqb-true _ _ (both (eqb (fields_at first_form ws at).spare 0) _ h).0, refl)
zeros wide_form n ws at h =
    let z : (fields_at wide_form ws at).spare ≡ 0 = eqb-true _ _ (both (eqb (fields_at wide_form ws at).spare 0) _ h).0 in
    (omega arith, omega arith)

-- the covered words, from a place on
pub covered_taken : (form : Form) (ws : List ℕ) (at : ℕ) → at + covered_words form ≤ length ws
    → covered_at form ws at ≡ get_or ws at 0 ∷ get_or ws (at + 1) 0 ∷ with_round form (round_at form ws at) []
covered_taken first_form ws at h =
    let p : at < length ws = omega arith in
    let q : suc at < length ws = omega arith in
    rw (drop-cons ws at 0 p, drop-cons ws (suc at) 0 q, add-one)
covered_taken wide_form ws at h =
    let p : at < length ws = omega arith in
    let q : suc at < length ws = omega arith in
    let r : suc (suc at) < length ws = omega arith in
    let e : at + 2 ≡ suc (suc at) = omega arith in
    rw (drop-cons ws at 0 p, drop-cons ws (suc at) 0 q, drop-cons ws (suc (suc at)) 0 r, add-one, e)

-- ---- for both
module _ (form : Form) where
  pub covered_read : (n : ℕ) (ws : List ℕ) (at : ℕ) → get_or ws at 0 < 2 ^ 32 → formed form n (fields_at form ws at) ≡ true
      → covered form (statement form ws at) ≡ get_or ws at 0 ∷ get_or ws (at + 1) 0 ∷ with_round form (round_at form ws at) []
  unfolding fields_of
  covered_read n ws at low h =
      let x = zeros form n ws at h in
      let z : spare_of (get_or ws at 0) ≡ 0 = x.0 in
      let y : low_of (get_or ws at 0) ≡ low_bits form (round_at form ws at) = x.1 in
      let w : ℕ = get_or ws at 0 in
      let cut : (spare low : ℕ) → Fields = λ spare low.
      record { kind = kind_of w; value = value_of w; flag = flag_of w; spare = spare; station = station_of w; round = record { 0 = low } } in
      let e : word_0 form (statement form ws at) ≡ get_or ws at 0
      = ap (λ (spare : ℕ). word_of (cut spare (low_bits form (round_at form ws at)))) (sym z) ∙ ap (λ (l : ℕ). word_of (cut (spare_of w) l)) (sym y) ∙ written_read (get_or ws at 0) low in
      rw e

  -- the fields that are in place are those of a word
  pub covered_formed : (n : ℕ) (ws : List ℕ) (at : ℕ) → formed form n (fields_at form ws at) ≡ true
      → covered form (statement form ws at) ≡ get_or ws at 0 ∷ get_or ws (at + 1) 0 ∷ with_round form (round_at form ws at) []
  covered_formed n ws at h =
      let k = (small form (statement form ws at) (formed_out form n (statement form ws at) (formed_well form n ws at h)).shape).kind in
      covered_read n ws at (omega arith) h

  -- the same for all statements of a bundle
  pub all_well : (n : ℕ) (ws : List ℕ) (at k : ℕ) → all_formed form n ws at k ≡ true → All (λ s. well_formed form n s ≡ true) (statements form ws at k)
  unfolding all_formed statements
  all_well n ws at zero h = tt
  all_well n ws at (suc k) h =
      let b = both (formed form n (fields_at form ws at)) _ h in
      (formed_well form n ws at b.0, all_well n ws (at + statement_words form) k b.1)

-- equal lists, by the test
pub same_out : (x y : List ℕ) → same_words x y ≡ true → x ≡ y
unfolding same_words
same_out [] [] h = refl
same_out [] (b ∷ y) h = absurd (let z : ◌≡◌ {A = ℕ} 0 1 = cc in omega arith)
same_out (a ∷ x) [] h = absurd (let z : ◌≡◌ {A = ℕ} 0 1 = cc in omega arith)
same_out (a ∷ x) (b ∷ y) h = let e = both (eqb a b) _ h in λ i. eqb-true a b e.0 i ∷ same_out x y e.1 i

-- the two words from a place on
pub two_words : (ws : List ℕ) (at : ℕ) → at + 2 ≤ length ws → take (at + 2 - at) (drop at ws) ≡ get_or ws at 0 ∷ get_or ws (at + 1) 0 ∷ []
two_words ws at h =
    let e : at + 2 - at ≡ suc (suc zero) = omega arith in
    let p : at < length ws = omega arith in
    let q : suc at < length ws = omega arith in
    rw (e, drop-cons ws at 0 p, drop-cons ws (suc at) 0 q, add-one)
