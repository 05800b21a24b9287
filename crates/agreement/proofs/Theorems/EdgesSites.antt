-- The sites of the list at the edges that have jump off on its question.
use Rattle.std.specs.Prelude.{ℕ, Bool, not, eqb}

-- a site that is not the last
abbrev pub but_5 : ℕ → Bool
but_5 i = not (eqb i 5)
