-- Where a word of a line ends.
use Rattle.std.specs.Prelude.{ℕ, suc, List, [], ◌∷◌, eqb}
use Rattle.laws.specs.Pick.{pick}
use Rattle.valley_lines.specs.Read.{space}

-- how many bytes stand before the first space
unfoldable pub word_length : List ℕ → ℕ
word_length [] = 0
word_length (b ∷ text) = pick (eqb b space) 0 (suc (word_length text))
