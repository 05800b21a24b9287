-- The definitions in the form that the functions read and write: the names that their promises cite.
use Rattle.std.specs.Prelude.{ℕ, Bool, List}
use Rattle.laws.specs.Refusals.{Test}
use Rattle.format.specs.Form.{present_form}
use Rattle.format.specs.Statement.{Statement}
use Rattle.rules.specs.declared.Which.{Which}

abbrev pub all_verify : (List ℕ → List ℕ) → List Statement → Bool
all_verify = Rattle.certificate.specs.Check.all_verify present_form

abbrev pub bundle_tests : (List ℕ → List ℕ) → ℕ → Which → List ℕ → List Test
bundle_tests = Rattle.certificate.specs.Check.bundle_tests present_form

abbrev pub check_tests : (List ℕ → List ℕ) → ℕ → Which → List ℕ → List Test
check_tests = Rattle.certificate.specs.Check.check_tests present_form

abbrev pub check_by : (List ℕ → List ℕ) → ℕ → Which → List ℕ → ℕ
check_by = Rattle.certificate.specs.Check.check_by present_form

abbrev pub judged : List ℕ → ℕ → Which → List ℕ → ℕ
judged = Rattle.certificate.specs.Check.judged present_form

abbrev pub checked : List ℕ → ℕ → List ℕ → ℕ
checked = Rattle.certificate.specs.Check.checked present_form

abbrev pub IsBundle : ℕ → List ℕ → Type 0
IsBundle = Rattle.certificate.specs.Valid.IsBundle present_form

abbrev pub Valid : (List ℕ → List ℕ) → ℕ → List ℕ → Type 0
Valid = Rattle.certificate.specs.Valid.Valid present_form
