-- The top five bits of a word, which are its kind, value and flag, and which of them are in place.
use Rattle.std.specs.Prelude.{ℕ, ◌+◌, ◌*◌, ◌/◌, ◌^◌, Bool, ◌||◌, eqb}
use Rattle.format.specs.Numbers.{kind_init, kind_p, kind_v, none, d_get}
use Rattle.format.specs.Words.{flag_bit, kind_size, value_size, flag_size}

-- bits 31..27 of a word: kind, value and flag
abbrev pub top : ℕ → ℕ
top w = w / 2 ^ flag_bit

-- the weight of the kind in the number that they make, and how many such numbers there are
abbrev pub kind_at : ℕ
kind_at = value_size * flag_size

abbrev pub shapes : ℕ
shapes = kind_size * kind_at

-- the number of a kind, value and flag
abbrev pub shape : ℕ → ℕ → ℕ → ℕ
shape kind value flag = kind * kind_at + value * flag_size + flag

-- "INIT has round 0, value 0 or 1, flag 0.": its top bits in round 0
abbrev pub of_init : ℕ → Bool
of_init k = eqb k (shape kind_init 0 d_get) || eqb k (shape kind_init 1 d_get)

-- "P has round 1 to 65,535 and value 0 or 1.", of either flag: so many numbers in a row. "V has such a round, flag 0 and value 0, 1 or none."
abbrev pub of_later : ℕ → Bool
of_later k = eqb (k / (none * flag_size)) (shape kind_p 0 0 / (none * flag_size)) || eqb k (shape kind_v 0 d_get) || eqb k (shape kind_v 1 d_get) || eqb k (shape kind_v none d_get)
