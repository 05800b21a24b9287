-- A test over a list of statements: whether some or all of them pass, how many, which, and the value of the first.
use Rattle.std.specs.Prelude.{ℕ, suc, Bool, true, false, ◌&&◌, ◌||◌, List, [], ◌∷◌}
use Rattle.laws.specs.Pick.{pick}
use Rattle.format.specs.Numbers.{none}
use Rattle.format.specs.Statement.{Statement}

unfoldable pub some : (Statement → Bool) → List Statement → Bool
some p [] = false
some p (s ∷ c) = p s || some p c

unfoldable pub every : (Statement → Bool) → List Statement → Bool
every p [] = true
every p (s ∷ c) = p s && every p c

-- how many a test takes
unfoldable pub number_of : (Statement → Bool) → List Statement → ℕ
number_of p [] = 0
number_of p (s ∷ h) = pick (p s) (suc (number_of p h)) (number_of p h)

-- those that a test takes, in order
unfoldable pub those : (Statement → Bool) → List Statement → List Statement
those p [] = []
those p (s ∷ h) = pick (p s) (s ∷ those p h) (those p h)

-- the value of the first statement that a test takes, or none
unfoldable pub leading : (Statement → Bool) → List Statement → ℕ
leading p [] = none
leading p (s ∷ h) = pick (p s) s.value (leading p h)
