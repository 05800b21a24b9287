-- Statements that are read from words and written again give the words that they were read from; so do the set, the slots and the groups of a station.
use Prim.Native.Nat.{ℕ, zero, suc, ◌+◌, ◌-◌, ◌*◌, ◌^◌, ◌≤◌, ◌<◌}
use Rattle.std.specs.Prelude.{Bool, ◌&&◌, List, ◌∷◌, ◌++◌, ◌≡◌, length, get_or, drop, replicate}
use Rattle.std.proofs.Math.Bool.{true, false}
use Rattle.std.proofs.Math.Path.{refl, sym}
use Rattle.std.proofs.Common.{ap, ◌∙◌, length-drop, take-append-drop, drop-cons, drop-drop, take-add, take_all}
use native.Mathlib.Omega.{arith}
use Rattle.std.proofs.Math.Dec.{eqb}
use Rattle.std.proofs.Math.ListN.{take}
use borrow.Author.Tests.{eqb-true, eqb-false}
use Rattle.laws.specs.Pick.{pick}
use Rattle.laws.specs.Bools.{both}
use Rattle.laws.specs.Sets.{bit}
use Rattle.laws.specs.Below.{Below}
use Rattle.format.specs.Form.{present_form}
use Rattle.format.specs.Group.{quorum}
use Rattle.format.specs.Words.{fields_of, station_of}
use Rattle.format.specs.Statement.{Statement}
use Rattle.format.specs.Bundle.{count_in}
use Rattle.format.proofs.Laws.Layout.{covered_read}
use Rattle.certificate.specs.Present.{IsBundle}
use Rattle.format.proofs.Laws.Parts.{parts_length}
use Rattle.format.specs.Present.{statement_words, formed, statement, statements, word_0, written, main_of, certificate_of, all_formed, all_written, bundle_of, place_of}
use Rattle.format.specs.Numbers.{code_words, head_mark, mark_bit}
use Rattle.station.specs.Words.{set_of}
use Rattle.station.specs.Fit.{zeros}
use Rattle.station.specs.Present.{held_in, slot_of, slots_of, group_words, sites, kept_words, slots_words, slot_fits, slots_fit}
use Rattle.held.proofs.Laws.Lowest.{Own, set_held}

-- ---- a statement, and a list of them
pub written_back : (n : ℕ) (ws : List ℕ) (at : ℕ) → Below ws → at + statement_words ≤ length ws → formed n (fields_of (get_or ws at 0)) ≡ true
    → written (statement ws at) ≡ take statement_words (drop at ws)
written_back n ws at low room f =
    let w : word_0 (statement ws at) ≡ get_or ws at 0 = ap (λ (l : List ℕ). get_or l 0 0) (covered_read present_form n ws at (low at) f) in
    let e : suc at ≡ at + 1 = omega arith in
    let g : suc (at + 1) ≡ at + 2 = omega arith in
    let one : drop at ws ≡ get_or ws at 0 ∷ drop (at + 1) ws = drop-cons ws at 0 (omega arith) ∙ ap (λ (k : ℕ). get_or ws at 0 ∷ drop k ws) e in
    let two : drop (at + 1) ws ≡ get_or ws (at + 1) 0 ∷ drop (at + 2) ws
    = drop-cons ws (at + 1) 0 (omega arith) ∙ ap (λ (k : ℕ). get_or ws (at + 1) 0 ∷ drop k ws) g in
    ap (λ (z : ℕ). z ∷ get_or ws (at + 1) 0 ∷ take code_words (drop (at + 2) ws)) w ∙ sym (ap (take statement_words) (one ∙ ap (λ (l : List ℕ). get_or ws at 0 ∷ l) two))

pub all_back : (n : ℕ) (ws : List ℕ) → Below ws → (k at : ℕ) → at + k * statement_words ≤ length ws → all_formed n ws at k ≡ true
    → all_written (statements ws at k) ≡ take (k * statement_words) (drop at ws)
unfolding Rattle.format.specs.Bundle.all_formed Rattle.format.specs.Statement.statements Rattle.format.specs.Bundle.all_written
all_back n ws low zero at room h = refl
all_back n ws low (suc k) at room h =
    let b = both (formed n (fields_of (get_or ws at 0))) _ h in
    let e : suc k * statement_words ≡ statement_words + k * statement_words = omega arith in
    let one : written (statement ws at) ≡ take statement_words (drop at ws) = written_back n ws at low (omega arith) b.0 in
    let more : all_written (statements ws (at + statement_words) k) ≡ take (k * statement_words) (drop statement_words (drop at ws))
    = all_back n ws low k (at + statement_words) (omega arith) b.1 ∙ ap (take (k * statement_words)) (sym (drop-drop statement_words at ws)) in
    rw (e, take-add statement_words (k * statement_words) (drop at ws)) (λ i. one i ++ more i)

-- the words of a bundle, which is read and written again
pub bundle_back : (n : ℕ) (ws : List ℕ) → Below ws → IsBundle n ws → ws ≡ bundle_of (main_of ws) (certificate_of ws)
unfolding Rattle.format.specs.Bundle.bundle_of Rattle.format.specs.Bundle.all_formed
bundle_back n ws low B =
    let b = both (formed n (fields_of (get_or ws 1 0))) _ B.fields in
    let head : get_or ws 0 0 ≡ head_mark * 2 ^ mark_bit + length (certificate_of ws) = omega (arith, B.head_kind, B.head_middle, parts_length present_form ws (place_of 1) (count_in ws)) in
    let one : written (main_of ws) ≡ take statement_words (drop 1 ws) = written_back n ws 1 low (omega (arith, B.size)) b.0 in
    let few : length (drop (place_of 1) ws) ≤ count_in ws * statement_words = rw length-drop (omega (arith, B.size)) in
    let rest : all_written (certificate_of ws) ≡ drop statement_words (drop 1 ws)
    = all_back n ws low (count_in ws) (place_of 1) (omega (arith, B.size)) b.1 ∙ take_all (count_in ws * statement_words) (drop (place_of 1) ws) few ∙ sym (drop-drop statement_words 1 ws) in
    drop-cons ws 0 0 (omega (arith, B.size))
    ∙ (λ i. head i ∷ sym (take-append-drop statement_words (drop 1 ws)) i)
    ∙ (λ i. (head_mark * 2 ^ mark_bit + length (certificate_of ws)) ∷ (sym one i ++ sym rest i))

pub zeros_back : (ws : List ℕ) (k at : ℕ) → at + k ≤ length ws → zeros ws at k ≡ true → take k (drop at ws) ≡ replicate k 0
unfolding zeros
zeros_back ws zero at room h = refl
zeros_back ws (suc k) at room h =
    let b = both (eqb (get_or ws at 0) 0) _ h in
    let z : get_or ws at 0 ≡ 0 = eqb-true _ _ b.0 in
    let more : take k (drop (suc at) ws) ≡ replicate k 0 = zeros_back ws k (suc at) (omega arith) b.1 in
    ap (take (suc k)) (drop-cons ws at 0 (omega arith)) ∙ (λ i. z i ∷ more i)

-- a group's array: k statements, and zeros behind them
pub group_back : (n : ℕ) (ws : List ℕ) (k : ℕ) → Below ws → length ws ≡ kept_words → k ≤ quorum sites → all_formed n ws 0 k ≡ true → zeros ws (k * statement_words) (kept_words - k * statement_words) ≡ true
    → ws ≡ group_words (statements ws 0 k)
group_back n ws k low long few f z =
    let front : all_written (statements ws 0 k) ≡ take (k * statement_words) ws = all_back n ws low k 0 (omega arith) f in
    let l : length (drop (k * statement_words) ws) ≤ kept_words - k * statement_words = rw length-drop (omega arith) in
    let back : drop (k * statement_words) ws ≡ replicate (kept_words - k * statement_words) 0
    = sym (take_all (kept_words - k * statement_words) (drop (k * statement_words) ws) l) ∙ zeros_back ws (kept_words - k * statement_words) (k * statement_words) (omega arith) z in
    sym (take-append-drop (k * statement_words) ws) ∙ rw (front, back, parts_length present_form ws 0 k)

-- ---- the set and the slots
module _ (n question st set : ℕ) (slots : List ℕ) where
  slot_facts : (i : ℕ) → slot_fits n question st i slots ≡ true → (formed n (fields_of (get_or slots (i * statement_words) 0)) ≡ true) × (station_of (get_or slots (i * statement_words) 0) ≡ i + 1)
  slot_facts i h =
      let w = get_or slots (i * statement_words) 0 in
      let a = both (formed n (fields_of w) && eqb (station_of w) (i + 1) && eqb (get_or slots (i * statement_words + 1) 0) question) _ h in
      let b = both (formed n (fields_of w) && eqb (station_of w) (i + 1)) _ a.0 in
      let c = both (formed n (fields_of w)) _ b.0 in
      (c.0, eqb-true _ _ c.1)

  -- what is said of one slot
  fit_at : (k i j : ℕ) → slots_fit n question st set slots i k ≡ true → i ≤ j → j < i + k
      → pick (bit set j) (slot_fits n question st j slots) (zeros slots (j * statement_words) statement_words) ≡ true
  unfolding Rattle.station.specs.Fit.slots_fit
  fit_at zero i j h lo hi = absurd (omega arith)
  fit_at (suc k) i j h lo hi =
      let a = both (pick (bit set i) (slot_fits n question st i slots) (zeros slots (i * statement_words) statement_words)) _ h in
      go (eqb j i) refl a.0 (λ z. fit_at k (suc i) j a.1 z (omega arith))
    where
      go : (b : Bool) → eqb j i ≡ b → pick (bit set i) (slot_fits n question st i slots) (zeros slots (i * statement_words) statement_words) ≡ true
          → (suc i ≤ j → pick (bit set j) (slot_fits n question st j slots) (zeros slots (j * statement_words) statement_words) ≡ true)
          → pick (bit set j) (slot_fits n question st j slots) (zeros slots (j * statement_words) statement_words) ≡ true
      go true e f ih = let z : j ≡ i = eqb-true j i e in rw z f
      go false e f ih = ih (omega (arith, eqb-false j i e))

  -- the set is the sum of the bits of the stations held
  pub set_back : slots_fit n question st set slots 0 sites ≡ true → set < 2 ^ sites → set_of (held_in set slots 0 sites) ≡ set
  unfolding pick
  set_back h low = set_held set slots own low
    where
      own : Own set slots
      own j few e =
          let f : slot_fits n question st j slots ≡ true = rw e at (fit_at sites 0 j h (omega arith) (omega arith)) in
          (slot_facts j f).1 ∙ omega arith

  -- a slot's ten words, by its bit
  pub slot_words : (i : ℕ) → Below slots → length slots ≡ slots_words → slots_fit n question st set slots 0 sites ≡ true → i < sites
      → take statement_words (drop (i * statement_words) slots) ≡ pick (bit set i) (written (statement slots (i * statement_words))) (replicate statement_words 0)
  unfolding pick
  slot_words i low long h few = go (bit set i) (fit_at sites 0 i h (omega arith) (omega arith))
    where
      go : (b : Bool) → pick b (slot_fits n question st i slots) (zeros slots (i * statement_words) statement_words) ≡ true
          → take statement_words (drop (i * statement_words) slots) ≡ pick b (written (statement slots (i * statement_words))) (replicate statement_words 0)
      go true f = sym (written_back n slots (i * statement_words) low (omega arith) (slot_facts i f).0)
      go false f = zeros_back slots statement_words (i * statement_words) (omega arith) f

-- slots that are, one by one, the words of an array
pub slots_are : (h : List Statement) (ws : List ℕ) (k i : ℕ) → ((j : ℕ) → i ≤ j → j < i + k → slot_of h (suc j) ≡ take statement_words (drop (j * statement_words) ws))
    → slots_of h (suc i) k ≡ take (k * statement_words) (drop (i * statement_words) ws)
unfolding Rattle.station.specs.Words.slots_of
slots_are h ws zero i s = refl
slots_are h ws (suc k) i s =
    let e : suc k * statement_words ≡ statement_words + k * statement_words = omega arith in
    let f : suc i * statement_words ≡ i * statement_words + statement_words = omega arith in
    let one : slot_of h (suc i) ≡ take statement_words (drop (i * statement_words) ws) = s i (omega arith) (omega arith) in
    let more : slots_of h (suc (suc i)) k ≡ take (k * statement_words) (drop statement_words (drop (i * statement_words) ws))
    = slots_are h ws k (suc i) (λ j lo hi. s j (omega arith) (omega arith))
    ∙ ap (λ (z : ℕ). take (k * statement_words) (drop z ws)) f ∙ ap (take (k * statement_words)) (sym (drop-drop statement_words (i * statement_words) ws)) in
    rw (e, take-add statement_words (k * statement_words) (drop (i * statement_words) ws)) (λ i. one i ++ more i)

pub all_slots : (h : List Statement) (ws : List ℕ) → length ws ≡ slots_words → ((j : ℕ) → j < sites → slot_of h (suc j) ≡ take statement_words (drop (j * statement_words) ws)) → slots_of h 1 sites ≡ ws
all_slots h ws long s = slots_are h ws sites 0 (λ j lo hi. s j (omega arith)) ∙ take_all slots_words ws (omega arith)
