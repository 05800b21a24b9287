-- The definitions in the form that the functions read and write: the names that their promises cite.
use Rattle.std.specs.Prelude.{ℕ, Bool, List}
use Rattle.laws.specs.Refusals.{Test}
use Rattle.format.specs.Form.{present_form}
use Rattle.format.specs.Statement.{Statement}
use Rattle.modules.specs.declared.Module.{Module}
use Rattle.sealed.specs.Sealed.{Coded}

abbrev pub signed : (List ℕ → List ℕ) → Statement → Statement
signed = Rattle.sealed.specs.Sealed.signed present_form

abbrev pub coding_tests : Module → List ℕ → Bool → List Test
coding_tests = Rattle.sealed.specs.Sealed.coding_tests present_form

abbrev pub coding : (List ℕ → List ℕ) → Module → Statement → List ℕ → ℕ → Coded
coding = Rattle.sealed.specs.Sealed.coding present_form

abbrev pub coding_plain : (List ℕ → List ℕ → List ℕ) → Module → List ℕ → Coded
coding_plain = Rattle.sealed.specs.Sealed.coding_plain present_form

abbrev pub coding_coin : (List ℕ → List ℕ → List ℕ) → Module → List ℕ → ℕ → Coded
coding_coin = Rattle.sealed.specs.Sealed.coding_coin present_form
