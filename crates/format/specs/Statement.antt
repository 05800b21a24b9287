-- A statement, read from its words and written to them.
use Rattle.std.specs.Prelude.{ℕ, zero, suc, ◌+◌, Bool, true, false, ◌&&◌, ◌||◌, List, [], ◌∷◌, eqb, leb, ltb, get_or, take, drop}
use Rattle.format.specs.declared.Fields.{Fields}
use Rattle.format.specs.Numbers.{kind_init, kind_p, kind_v, d_get, none, code_words}
use Rattle.format.specs.Words.{flag_size, kind_of, value_of, flag_of, station_of, word_of, of_group, step_of}
use Rattle.format.specs.Form.{Form, last_round, covered_words, low_bits, with_round, round_at, statement_words}

pub record Statement : Type 0 where
  pub kind : ℕ
  pub value : ℕ
  pub flag : ℕ
  pub station : ℕ
  pub round : ℕ
  pub question : ℕ
  pub code : List ℕ

unfoldable pub same_words : List ℕ → List ℕ → Bool
same_words [] [] = true
same_words [] (y ∷ ys) = false
same_words (x ∷ xs) [] = false
same_words (x ∷ xs) (y ∷ ys) = eqb x y && same_words xs ys

unfoldable pub step : Statement → ℕ
step s = step_of s.kind s.round

module _ (form : Form) where
  -- "INIT has round 0, value 0 or 1, flag 0. P has round 1 to 65,535 and value 0 or 1. V has such a round, flag 0 and value 0, 1 or none."
  abbrev pub shaped : ℕ → ℕ → ℕ → ℕ → Bool
  shaped kind value flag round =
      (eqb kind kind_init && (eqb round 0 && ltb value none && eqb flag d_get))
      || (eqb kind kind_p && (leb 1 round && leb round (last_round form) && ltb value none && ltb flag flag_size))
      || (eqb kind kind_v && (leb 1 round && leb round (last_round form) && leb value none && eqb flag d_get))

  -- fields as they are read: what must be zero is, the station is of the group, and the rest is one of the three
  unfoldable pub formed : ℕ → Fields → Bool
  formed n f = eqb f.spare 0 && (of_group n f.station && shaped f.kind f.value f.flag f.round.0)

  unfoldable pub well_formed : ℕ → Statement → Bool
  well_formed n s = of_group n s.station && shaped s.kind s.value s.flag s.round

  -- ---- reading
  -- of the statement that begins at a place: its words, those that its code covers, and its code
  abbrev pub words_at : List ℕ → ℕ → List ℕ
  words_at ws at = take (statement_words form) (drop at ws)

  abbrev pub covered_at : List ℕ → ℕ → List ℕ
  covered_at ws at = take (covered_words form) (drop at ws)

  abbrev pub code_at : List ℕ → ℕ → List ℕ
  code_at ws at = take code_words (drop (at + covered_words form) ws)

  -- the statement that begins at a place: word 0's fields, the question number in word 1, the round where the form has it, and the code
  abbrev pub statement : List ℕ → ℕ → Statement
  statement ws at =
      record {
        kind = kind_of (get_or ws at 0);
        value = value_of (get_or ws at 0);
        flag = flag_of (get_or ws at 0);
        station = station_of (get_or ws at 0);
        round = round_at form ws at;
        question = get_or ws (at + 1) 0;
        code = code_at ws at;
      }

  -- k statements, one behind the other, from a place on
  unfoldable pub statements : List ℕ → ℕ → ℕ → List Statement
  statements ws at zero = []
  statements ws at (suc k) = statement ws at ∷ statements ws (at + statement_words form) k

  -- ---- writing
  -- word 0 of a statement: its fields, bits 26..24 zero
  abbrev pub word_0 : Statement → ℕ
  word_0 s =
      word_of
      (record { kind = s.kind; value = s.value; flag = s.flag; spare = 0; station = s.station; round = record { 0 = low_bits form s.round } })

  -- the words that a code covers: word 0, "Word 1: the question number", and the round where it is a word of its own
  abbrev pub covered : Statement → List ℕ
  covered s = word_0 s ∷ s.question ∷ with_round form s.round []

  -- "the code, HMAC-SHA-256 under the 32-byte group key over the 8 bytes of words 0 and 1. Top byte first throughout.": by a code of words
  abbrev pub statement_code : (List ℕ → List ℕ) → Statement → List ℕ
  statement_code code s = code (covered s)

  unfoldable pub verifies : (List ℕ → List ℕ) → Statement → Bool
  verifies code s = same_words s.code (code (covered s))  -- a statement's code verifies: it is the code of its covered words

  -- the words of a statement: the code behind those that it covers
  abbrev pub written : Statement → List ℕ
  written s = word_0 s ∷ s.question ∷ with_round form s.round s.code
