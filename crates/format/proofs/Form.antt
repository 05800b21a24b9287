-- What follows from the definitions of specs/Form.antt.
use Rattle.std.specs.Prelude.{ℕ, ◌+◌, ◌*◌, ◌^◌, ◌≤◌, ◌<◌, List, ◌≡◌, refl, length}
use Rattle.std.proofs.Common.{arith}
use Rattle.format.specs.Numbers.{middle_bits, count_bits}
use Rattle.format.specs.Group.{quorum}
use Rattle.format.specs.Words.{station_bit, station_size}
use Rattle.format.specs.Form.{Form, most_stations, last_round, most_statements, covered_words, head_bits, low_bits, with_round, statement_words, Sizes, first_form, wide_form}

pub first_sizes : Sizes first_form 31 2 10 331 0 65535
first_sizes = record { largest_is = refl; covered_is = refl; statement_is = refl; longest_is = refl; head_is = refl; last_is = refl }

pub wide_sizes : Sizes wide_form 31 3 11 364 (2 ^ 28) 4294967295
wide_sizes = record { largest_is = refl; covered_is = refl; statement_is = refl; longest_is = refl; head_is = refl; last_is = refl }

-- ---- laws that need the numbers themselves
pub rounds_there : (form : Form) → 1 ≤ last_round form
rounds_there first_form = omega arith
rounds_there wide_form = omega arith

pub stations_fit : (form : Form) → most_stations form < station_size
stations_fit first_form = omega arith
stations_fit wide_form = omega arith

pub low_in_bits : (form : Form) (round : ℕ) → round ≤ last_round form → low_bits form round < 2 ^ station_bit
low_in_bits first_form round h = omega arith
low_in_bits wide_form round h = omega arith

pub with_round_length : (form : Form) (round : ℕ) (ws : List ℕ) → 2 + length (with_round form round ws) ≡ covered_words form + length ws
with_round_length first_form round ws = refl
with_round_length wide_form round ws = omega arith

pub count_fits : (form : Form) → most_statements form < 2 ^ count_bits
count_fits first_form = omega arith
count_fits wide_form = omega arith

pub head_in_bits : (form : Form) → head_bits form < 2 ^ middle_bits
head_in_bits first_form = omega arith
head_in_bits wide_form = omega arith

-- a certificate has room for two groups of the quorum
pub groups_fit : (form : Form) (n : ℕ) → n ≤ most_stations form → 2 * quorum n ≤ most_statements form
groups_fit first_form n h = omega arith
groups_fit wide_form n h = omega arith

-- more statements have more words: `omega` has no number for the factor
pub words_mono : (form : Form) (i j : ℕ) → i ≤ j → i * statement_words form ≤ j * statement_words form
words_mono first_form i j h = omega arith
words_mono wide_form i j h = omega arith
