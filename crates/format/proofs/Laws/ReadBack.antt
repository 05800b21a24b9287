-- What is written is read back: a statement's words hold it whole.
use Rattle.std.specs.Prelude.{ℕ, ◌+◌, ◌≤◌, true, List, [], ◌++◌, ◌≡◌, refl, length, get_or, take, drop}
use Rattle.std.proofs.Common.{append-nil, sym, subst, ◌∙◌, add-zero, arith, get_or-drop}
use Rattle.std.proofs.Math.Path.{ap}
use Rattle.std.proofs.Math.Seq.{take_at}
use Rattle.format.specs.Form.{Form, first_form, wide_form, most_stations, low_bits, round_at, fields_at, statement_words}
use Rattle.format.proofs.Form.{stations_fit, low_in_bits, with_round_length}
use Rattle.format.specs.Numbers.{code_words}
use Rattle.format.specs.declared.Fields.{Fields}
use Rattle.format.specs.Words.{fields_of, kind_of, value_of, flag_of, station_of, low_of, spare_of, wide_fields}
use Rattle.format.proofs.Laws.Word0.{InBits, read_written}
use Rattle.format.specs.Statement.{Statement, statement, word_0, written, well_formed, code_at, formed}
use Rattle.format.proofs.Laws.Drops.{round_drop, code_drop, fields_drop}
use Rattle.format.proofs.Laws.Shape.{formed_out, small}

-- ---- shown for each form
round_back : (form : Form) (s : Statement) (rest : List ℕ) → low_of (word_0 form s) ≡ low_bits form s.round → round_at form (written form s ++ rest) 0 ≡ s.round
round_back first_form s rest e = e
round_back wide_form s rest e = refl

code_back : (form : Form) (s : Statement) (rest : List ℕ) → code_at form (written form s ++ rest) 0 ≡ take code_words (s.code ++ rest)
code_back first_form s rest = refl
code_back wide_form s rest = refl

-- ---- for both
module _ (form : Form) where
  -- a statement that its words hold whole
  pub record Proper (n : ℕ) (s : Statement) : Type 0 where
    pub formed : well_formed form n s ≡ true
    pub eight : length s.code ≡ code_words

  abbrev pub fields_in : Statement → Fields
  fields_in s = record { kind = s.kind; value = s.value; flag = s.flag; spare = 0; station = s.station; round = record { 0 = low_bits form s.round } }

  pub fit_bits : (n : ℕ) (s : Statement) → n ≤ most_stations form → well_formed form n s ≡ true → InBits (fields_in s)
  fit_bits n s top h =
      let f = formed_out form n s h in
      let b = small form s f.shape in
      record {
        kind = omega (arith, b.kind);
        value = omega (arith, b.value);
        flag = b.flag;
        spare = omega arith;
        station = omega (arith, f.high, stations_fit form);
        round = low_in_bits form s.round b.round;
      }

  pub fields_back : (n : ℕ) (s : Statement) → n ≤ most_stations form → well_formed form n s ≡ true → fields_of (word_0 form s) ≡ fields_in s
  fields_back n s top h = read_written (fields_in s) (fit_bits n s top h)

  pub formed_drop : (n : ℕ) (ws : List ℕ) (at : ℕ) → formed form n (fields_at form ws at) ≡ formed form n (fields_at form (drop at ws) 0)
  formed_drop n ws at = ap (formed form n) (fields_drop form ws at)

  -- each field of a written word 0
  pub record Back (s : Statement) : Type 0 where
    pub kind : kind_of (word_0 form s) ≡ s.kind
    pub value : value_of (word_0 form s) ≡ s.value
    pub flag : flag_of (word_0 form s) ≡ s.flag
    pub station : station_of (word_0 form s) ≡ s.station
    pub low : low_of (word_0 form s) ≡ low_bits form s.round
    pub spare : spare_of (word_0 form s) ≡ 0

  pub word_back : (n : ℕ) (s : Statement) → n ≤ most_stations form → well_formed form n s ≡ true → Back s
  unfolding fields_of
  word_back n s top h =
      let b : fields_of (word_0 form s) ≡ fields_in s = fields_back n s top h in
      record {
        kind = ap (λ (f : Fields). f.kind) b;
        value = ap (λ (f : Fields). f.value) b;
        flag = ap (λ (f : Fields). f.flag) b;
        station = ap (λ (f : Fields). f.station) b;
        low = ap (λ (f : Fields). f.round.0) b;
        spare = ap (λ (f : Fields). f.spare) b;
      }

  pub length_written : (n : ℕ) (s : Statement) → Proper n s → length (written form s) ≡ statement_words form
  length_written n s p = omega (arith, with_round_length form s.round s.code, p.eight)

  -- a statement in words depends on the words from its place on
  pub statement_drop : (ws : List ℕ) (at : ℕ) → statement form ws at ≡ statement form (drop at ws) 0
  statement_drop ws at =
      let w : get_or ws at 0 ≡ get_or (drop at ws) 0 0 = sym (get_or-drop at ws 0 0 ∙ ap (λ (k : ℕ). get_or ws k 0) (add-zero at)) in
      let q : get_or ws (at + 1) 0 ≡ get_or (drop at ws) 1 0 = sym (get_or-drop at ws 1 0) in
      λ i. record {
        kind = kind_of (w i);
        value = value_of (w i);
        flag = flag_of (w i);
        station = station_of (w i);
        round = round_drop form ws at i;
        question = q i;
        code = code_drop form ws at i;
      }

  pub statement_back : (n : ℕ) (s : Statement) (rest : List ℕ) → n ≤ most_stations form → Proper n s → statement form (written form s ++ rest) 0 ≡ s
  unfolding fields_of
  statement_back n s rest top p =
      let f : fields_of (word_0 form s) ≡ fields_in s = fields_back n s top p.formed in
      let c : code_at form (written form s ++ rest) 0 ≡ s.code = code_back form s rest ∙ take_at s.code rest code_words p.eight in
      let r : round_at form (written form s ++ rest) 0 ≡ s.round = round_back form s rest (ap (λ (x : Fields). x.round.0) f) in
      λ i. record {
        kind = (f i).kind;
        value = (f i).value;
        flag = (f i).flag;
        station = (f i).station;
        round = r i;
        question = s.question;
        code = c i;
      }

-- a written statement is formed
read_fields_back : (form : Form) (n : ℕ) (s : Statement) (rest : List ℕ) → n ≤ most_stations form → well_formed form n s ≡ true
    → fields_at form (written form s ++ rest) 0 ≡ record { kind = s.kind; value = s.value; flag = s.flag; spare = 0; station = s.station; round = record { 0 = s.round } }
unfolding wide_fields
read_fields_back first_form n s rest top h = fields_back first_form n s top h
read_fields_back wide_form n s rest top h =
    let b = word_back wide_form n s top h in
    let z : (wide_fields (word_0 wide_form s) s.round).spare ≡ 0 = omega (arith, b.spare, b.low) in
    λ i. record { kind = b.kind i; value = b.value i; flag = b.flag i; spare = z i; station = b.station i; round = record { 0 = s.round } }

module _ (form : Form) where
  pub formed_back_on : (n : ℕ) (s : Statement) (rest : List ℕ) → n ≤ most_stations form → well_formed form n s ≡ true → formed form n (fields_at form (written form s ++ rest) 0) ≡ true
  unfolding formed well_formed
  formed_back_on n s rest top h = rw (read_fields_back form n s rest top h) h

  pub formed_back : (n : ℕ) (s : Statement) → n ≤ most_stations form → well_formed form n s ≡ true → formed form n (fields_at form (written form s) 0) ≡ true
  formed_back n s top h = subst (λ (l : List ℕ). formed form n (fields_at form l 0) ≡ true) (append-nil (written form s)) (formed_back_on n s [] top h)
