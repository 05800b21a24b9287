-- The definitions in the form that the functions read and write: the names that their promises cite.
use Rattle.std.specs.Prelude.{ℕ, Bool, List}
use Rattle.format.specs.Form.{present_form}
use Rattle.modules.specs.declared.Module.{Module}
use Rattle.modules.specs.Counter.{Made}

abbrev pub module_fits : Module → Bool
module_fits = Rattle.modules.specs.Counter.module_fits present_form

abbrev pub making : List ℕ → ℕ → ℕ → Made
making = Rattle.modules.specs.Counter.making present_form
