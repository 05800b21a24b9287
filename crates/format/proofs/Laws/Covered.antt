-- The words that a statement's code covers: they come first in what is written, and read by themselves they are the statement but for its code.
use Rattle.std.specs.Prelude.{ℕ, ◌+◌, List, [], ◌∷◌, ◌++◌, ◌≡◌, refl, get_or, take}
use Rattle.format.specs.Form.{Form, first_form, wide_form, covered_words, low_bits, with_round, round_at}
use Rattle.format.specs.Words.{kind_of, value_of, flag_of, station_of, low_of}
use Rattle.format.specs.Statement.{Statement, code_at, statement, word_0, covered, written}

-- ---- they come first, with words behind the statement or none
pub covered_front : (form : Form) (s : Statement) (x y : List ℕ) → take (covered_words form) (written form s ++ x ++ y) ≡ covered form s
covered_front first_form s x y = refl
covered_front wide_form s x y = refl

pub covered_alone : (form : Form) (s : Statement) → take (covered_words form) (written form s) ≡ covered form s
covered_alone first_form s = refl
covered_alone wide_form s = refl

-- ---- read by themselves
pub covered_round : (form : Form) (s : Statement) → low_of (word_0 form s) ≡ low_bits form s.round → round_at form (covered form s) 0 ≡ s.round
covered_round first_form s e = e
covered_round wide_form s e = refl

pub covered_code : (form : Form) (s : Statement) → code_at form (covered form s) 0 ≡ []
covered_code first_form s = refl
covered_code wide_form s = refl

-- the same of the statement that begins at a place, in words that need not be formed
pub covered_bare : (form : Form) (ws : List ℕ) (at : ℕ) → statement form (get_or ws at 0 ∷ get_or ws (at + 1) 0 ∷ with_round form (round_at form ws at) []) 0
    ≡ record {
      kind = kind_of (get_or ws at 0);
      value = value_of (get_or ws at 0);
      flag = flag_of (get_or ws at 0);
      station = station_of (get_or ws at 0);
      round = round_at form ws at;
      question = get_or ws (at + 1) 0;
      code = [];
    }
covered_bare first_form ws at = refl
covered_bare wide_form ws at = refl
