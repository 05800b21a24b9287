-- Worked examples: lines that are read, and lines that can't be.
use Rattle.std.specs.Prelude.{◌≡◌, refl, [], ◌∷◌, Some, None}
use Rattle.laws.specs.Pick.{pick}
use Rattle.valley_lines.specs.declared.Line.TheVariants.{Group, Open, Give}
use Rattle.valley_lines.specs.Read.{split, all_digits, is_number, value_behind, same, read_words, read_line}

-- `give 1 2 0`
pub give_line : read_line (103 ∷ 105 ∷ 118 ∷ 101 ∷ 32 ∷ 49 ∷ 32 ∷ 50 ∷ 32 ∷ 48 ∷ []) ≡ Some (Give 1 2 0)
unfolding pick split all_digits is_number value_behind same read_words read_line
give_line = refl

-- `open 00001 0`
pub leading_zeros : read_line (111 ∷ 112 ∷ 101 ∷ 110 ∷ 32 ∷ 48 ∷ 48 ∷ 48 ∷ 48 ∷ 49 ∷ 32 ∷ 48 ∷ []) ≡ Some (Open 1 0)
unfolding pick split all_digits is_number value_behind same read_words read_line
leading_zeros = refl

-- `n 3`
pub group_line : read_line (110 ∷ 32 ∷ 51 ∷ []) ≡ Some (Group 3)
unfolding pick split all_digits is_number value_behind same read_words read_line
group_line = refl

-- `n  3`
pub two_spaces : read_line (110 ∷ 32 ∷ 32 ∷ 51 ∷ []) ≡ None
unfolding pick split all_digits is_number value_behind same read_words read_line
two_spaces = refl

-- `n 3 `
pub space_behind : read_line (110 ∷ 32 ∷ 51 ∷ 32 ∷ []) ≡ None
unfolding pick split all_digits is_number value_behind same read_words read_line
space_behind = refl

-- `n 3` and a carriage return
pub carriage_return : read_line (110 ∷ 32 ∷ 51 ∷ 13 ∷ []) ≡ None
unfolding pick split all_digits is_number value_behind same read_words read_line
carriage_return = refl

-- `n`, a tab, `3`
pub tab_between : read_line (110 ∷ 9 ∷ 51 ∷ []) ≡ None
unfolding pick split all_digits is_number value_behind same read_words read_line
tab_between = refl

-- `N 3`
pub capital_letter : read_line (78 ∷ 32 ∷ 51 ∷ []) ≡ None
unfolding pick split all_digits is_number value_behind same read_words read_line
capital_letter = refl

-- `open 1 000000`
pub six_digits : read_line (111 ∷ 112 ∷ 101 ∷ 110 ∷ 32 ∷ 49 ∷ 32 ∷ 48 ∷ 48 ∷ 48 ∷ 48 ∷ 48 ∷ 48 ∷ []) ≡ None
unfolding pick split all_digits is_number value_behind same read_words read_line
six_digits = refl

-- `open 1`
pub word_missing : read_line (111 ∷ 112 ∷ 101 ∷ 110 ∷ 32 ∷ 49 ∷ []) ≡ None
unfolding pick split all_digits is_number value_behind same read_words read_line
word_missing = refl

-- `n 3 4`
pub extra_word : read_line (110 ∷ 32 ∷ 51 ∷ 32 ∷ 52 ∷ []) ≡ None
unfolding pick split all_digits is_number value_behind same read_words read_line
extra_word = refl

-- an empty line
pub empty_line : read_line [] ≡ None
unfolding pick split all_digits is_number value_behind same read_words read_line
empty_line = refl
