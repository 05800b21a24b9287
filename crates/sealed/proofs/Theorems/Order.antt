-- The order of the tests of coding, as the table of returns says it: the numbers as listed.
use Rattle.std.specs.Prelude.{ℕ, List, [], ◌∷◌, ◌≡◌, refl}
use Rattle.laws.specs.Refusals.{test_numbers}
use Rattle.format.specs.Form.{Form}
use Rattle.modules.specs.declared.Module.{Module}
use Rattle.sealed.specs.Sealed.{plain_tests, coin_tests}

-- "Coding tests 2 (n, station number, coin), 3, 5, 12.": the plain way
pub coding_order : (form : Form) (m : Module) (ws : List ℕ) → test_numbers (plain_tests form m ws) ≡ 2 ∷ 3 ∷ 5 ∷ 12 ∷ []
coding_order form m ws = refl

-- and the coin way
pub tossing_order : (form : Form) (m : Module) (ws : List ℕ) (coin : ℕ) → test_numbers (coin_tests form m ws coin) ≡ 2 ∷ 3 ∷ 5 ∷ 12 ∷ []
tossing_order form m ws coin = refl
