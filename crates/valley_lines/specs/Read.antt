-- What a line of valley's input says (document 01, "The program valley").
use Rattle.std.specs.Prelude.{ℕ, ◌+◌, ◌-◌, ◌*◌, Bool, true, false, ◌&&◌, List, [], ◌∷◌, Option, Some, None, eqb, leb, length}
use Rattle.laws.specs.Pick.{pick}
use Rattle.valley_lines.specs.declared.Line.{Line}
use Rattle.valley_lines.specs.declared.Line.TheVariants.{Group, Open, Give}

abbrev pub newline : ℕ
newline = 10

abbrev pub space : ℕ
space = 32

-- the first part of a text, one byte longer
abbrev pub longer : ℕ → List (List ℕ) → List (List ℕ)
longer b [] = (b ∷ []) ∷ []
longer b (part ∷ parts) = (b ∷ part) ∷ parts

-- the parts of a text between its separators, one more than there are separators
unfoldable pub split : ℕ → List ℕ → List (List ℕ)
split separator [] = [] ∷ []
split separator (b ∷ text) = pick (eqb b separator) ([] ∷ split separator text) (longer b (split separator text))

-- "Numbers have one to five digits." Leading zeros are allowed within them.
abbrev pub is_digit : ℕ → Bool
is_digit b = leb 48 b && leb b 57

unfoldable pub all_digits : List ℕ → Bool
all_digits [] = true
all_digits (b ∷ word) = is_digit b && all_digits word

unfoldable pub is_number : List ℕ → Bool
is_number word = leb 1 (length word) && leb (length word) 5 && all_digits word

-- the number that digits spell behind those whose number is v
unfoldable pub value_behind : ℕ → List ℕ → ℕ
value_behind v [] = v
value_behind v (b ∷ word) = value_behind (v * 10 + (b - 48)) word

abbrev pub value : List ℕ → ℕ
value word = value_behind 0 word

-- two texts have the same bytes
unfoldable pub same : List ℕ → List ℕ → Bool
same [] [] = true
same [] (c ∷ other) = false
same (b ∷ text) [] = false
same (b ∷ text) (c ∷ other) = eqb b c && same text other

-- the keywords `n`, `open` and `give`
abbrev pub word_n : List ℕ
word_n = 110 ∷ []

abbrev pub word_open : List ℕ
word_open = 111 ∷ 112 ∷ 101 ∷ 110 ∷ []

abbrev pub word_give : List ℕ
word_give = 103 ∷ 105 ∷ 118 ∷ 101 ∷ []

-- "`n` and a number", "`open s v`", "`give s k c`"; any other words can't be read
unfoldable pub read_words : List (List ℕ) → Option Line
read_words [] = None
read_words (k ∷ []) = None
read_words (k ∷ n ∷ []) = pick (same k word_n && is_number n) (Some (Group (value n))) None
read_words (k ∷ s ∷ v ∷ []) = pick (same k word_open && is_number s && is_number v) (Some (Open (value s) (value v))) None
read_words (k ∷ s ∷ b ∷ c ∷ []) = pick (same k word_give && is_number s && is_number b && is_number c) (Some (Give (value s) (value b) (value c))) None
read_words (k ∷ s ∷ b ∷ c ∷ d ∷ more) = None

-- words are exactly one space apart, with nothing before or behind them
unfoldable pub read_line : List ℕ → Option Line
read_line text = read_words (split space text)
