-- The lines that valley prints (document 01, "The program valley").
use Rattle.std.specs.Prelude.{ℕ, zero, suc, ◌+◌, ◌/◌, ◌%◌, List, [], ◌∷◌, ◌++◌, ltb}
use Rattle.laws.specs.Pick.{pick}
use Rattle.valley_lines.specs.Read.{newline, space}

-- a number below 10 as a digit
abbrev pub digit : ℕ → ℕ
digit d = 48 + d

-- a number in decimal digits, no zero in front; `most` digits hold it
unfoldable pub decimal_in : ℕ → ℕ → List ℕ
decimal_in zero n = []
decimal_in (suc most) n = pick (ltb n 10) (digit n ∷ []) (decimal_in most (n / 10) ++ (digit (n % 10) ∷ []))

-- a number n has at most n + 1 digits
unfoldable pub decimal : ℕ → List ℕ
decimal n = decimal_in (suc n) n

-- "Each event prints event, returned number, step after it, decision"
unfoldable pub event_line : ℕ → ℕ → ℕ → ℕ → List ℕ
event_line event number step decision =
    decimal event ++ (space ∷ decimal number) ++ (space ∷ decimal step) ++ (space ∷ decimal decision) ++ (newline ∷ [])

-- the fixed bytes `bad line `
abbrev pub bad_line_bytes : List ℕ
bad_line_bytes = 98 ∷ 97 ∷ 100 ∷ 32 ∷ 108 ∷ 105 ∷ 110 ∷ 101 ∷ 32 ∷ []

-- "prints `bad line` and its line number"
unfoldable pub bad_line : ℕ → List ℕ
bad_line number = bad_line_bytes ++ decimal number ++ (newline ∷ [])
