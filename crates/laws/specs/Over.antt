-- Words written over the front of a list that is lent: what stands there afterwards, and how a writer gets there, each word or part put after those before.
use Rattle.std.specs.Prelude.{ℕ, List, ◌++◌, length, drop}

-- "words behind the bundle are untouched"
abbrev pub over : List ℕ → List ℕ → List ℕ
over ws out = ws ++ drop (length ws) out
