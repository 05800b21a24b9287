-- Word 0 of a statement: its fields, and the word that they make.
use Rattle.std.specs.Prelude.{ℕ, ◌+◌, ◌*◌, ◌/◌, ◌%◌, ◌^◌, Bool, ◌&&◌, eqb, leb}
use Rattle.format.specs.declared.Fields.{Fields}
use Rattle.format.specs.declared.Step.{Step}
use Rattle.format.specs.Numbers.{kind_init, kind_p}
use Rattle.laws.specs.Pick.{pick}

-- "Word 0: bits 31..30 kind. Bits 29..28 value. Bit 27 flag. Bits 26..24 zero. Bits 23..16 station. Bits 15..0 round.": the lowest bit of each
abbrev pub kind_bit : ℕ
kind_bit = 30

abbrev pub value_bit : ℕ
value_bit = 28

abbrev pub flag_bit : ℕ
flag_bit = 27

abbrev pub spare_bit : ℕ
spare_bit = 24

abbrev pub station_bit : ℕ
station_bit = 16

-- and how many numbers each holds
abbrev pub kind_size : ℕ
kind_size = 4

abbrev pub value_size : ℕ
value_size = 4

abbrev pub flag_size : ℕ
flag_size = 2

abbrev pub spare_size : ℕ
spare_size = 8

abbrev pub station_size : ℕ
station_size = 256

abbrev pub kind_of : ℕ → ℕ
kind_of w = w / 2 ^ kind_bit

abbrev pub value_of : ℕ → ℕ
value_of w = w / 2 ^ value_bit % value_size

abbrev pub flag_of : ℕ → ℕ
flag_of w = w / 2 ^ flag_bit % flag_size

abbrev pub spare_of : ℕ → ℕ
spare_of w = w / 2 ^ spare_bit % spare_size

abbrev pub station_of : ℕ → ℕ
station_of w = w / 2 ^ station_bit % station_size

abbrev pub low_of : ℕ → ℕ
low_of w = w % 2 ^ station_bit  -- bits 15..0, which are the round but in the wide form

abbrev pub round_of : ℕ → ℕ
round_of w = low_of w

unfoldable pub fields_of : ℕ → Fields
fields_of w =
    record {
      kind = kind_of w;
      value = value_of w;
      flag = flag_of w;
      spare = spare_of w;
      station = station_of w;
      round = record { 0 = round_of w };
    }

-- Job 10 of document 02: "bits 15..0 of word 0 are zero, the round is the new word 2". What must be zero is then bits 26..24, and after them bits 15..0
unfoldable pub wide_fields : ℕ → ℕ → Fields
wide_fields w round =
    record {
      kind = kind_of w;
      value = value_of w;
      flag = flag_of w;
      spare = spare_of w * 2 ^ station_bit + low_of w;
      station = station_of w;
      round = record { 0 = round };
    }

-- the word of fields, each cut to its bits
unfoldable pub word_of : Fields → ℕ
word_of f =
    f.kind % kind_size * 2 ^ kind_bit + f.value % value_size * 2 ^ value_bit + f.flag % flag_size * 2 ^ flag_bit + f.spare % spare_size * 2 ^ spare_bit + f.station % station_size * 2 ^ station_bit + f.round.0 % 2 ^ station_bit

-- "a station over n" is malformed, and so is station 0, since stations are "numbered 1 to n"
abbrev pub of_group : ℕ → ℕ → Bool
of_group n station = leb 1 station && leb station n

-- "INIT has step 0, P of round r step 2r, V of round r step 2r + 1."
unfoldable pub step_of : ℕ → ℕ → ℕ
step_of kind round = pick (eqb kind kind_init) 0 (pick (eqb kind kind_p) (2 * round) (2 * round + 1))

unfoldable pub step_in : Fields → Step
step_in f = record { 0 = step_of f.kind f.round.0 }
