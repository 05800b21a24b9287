-- The words in the form that the functions read and write: the names that their promises cite.
use Rattle.std.specs.Prelude.{ℕ, Bool, List}
use Rattle.format.specs.Form.{present_form}
use Rattle.format.specs.declared.Fields.{Fields}
use Rattle.format.specs.Statement.{Statement}

abbrev pub most_stations : ℕ
most_stations = Rattle.format.specs.Form.most_stations present_form

abbrev pub last_round : ℕ
last_round = Rattle.format.specs.Form.last_round present_form

abbrev pub most_statements : ℕ
most_statements = Rattle.format.specs.Form.most_statements present_form

abbrev pub covered_words : ℕ
covered_words = Rattle.format.specs.Form.covered_words present_form

abbrev pub fields_at : List ℕ → ℕ → Fields
fields_at = Rattle.format.specs.Form.fields_at present_form

abbrev pub size_fits : ℕ → Bool
size_fits = Rattle.format.specs.Form.size_fits present_form

abbrev pub statement_words : ℕ
statement_words = Rattle.format.specs.Form.statement_words present_form

abbrev pub place_of : ℕ → ℕ
place_of = Rattle.format.specs.Form.place_of present_form

abbrev pub bundle_words : ℕ → ℕ
bundle_words = Rattle.format.specs.Form.bundle_words present_form

abbrev pub output_words : ℕ
output_words = Rattle.format.specs.Form.output_words present_form

abbrev pub shaped : ℕ → ℕ → ℕ → ℕ → Bool
shaped = Rattle.format.specs.Statement.shaped present_form

abbrev pub formed : ℕ → Fields → Bool
formed = Rattle.format.specs.Statement.formed present_form

abbrev pub well_formed : ℕ → Statement → Bool
well_formed = Rattle.format.specs.Statement.well_formed present_form

abbrev pub words_at : List ℕ → ℕ → List ℕ
words_at = Rattle.format.specs.Statement.words_at present_form

abbrev pub covered_at : List ℕ → ℕ → List ℕ
covered_at = Rattle.format.specs.Statement.covered_at present_form

abbrev pub code_at : List ℕ → ℕ → List ℕ
code_at = Rattle.format.specs.Statement.code_at present_form

abbrev pub statement : List ℕ → ℕ → Statement
statement = Rattle.format.specs.Statement.statement present_form

abbrev pub statements : List ℕ → ℕ → ℕ → List Statement
statements = Rattle.format.specs.Statement.statements present_form

abbrev pub word_0 : Statement → ℕ
word_0 = Rattle.format.specs.Statement.word_0 present_form

abbrev pub covered : Statement → List ℕ
covered = Rattle.format.specs.Statement.covered present_form

abbrev pub statement_code : (List ℕ → List ℕ) → Statement → List ℕ
statement_code = Rattle.format.specs.Statement.statement_code present_form

abbrev pub verifies : (List ℕ → List ℕ) → Statement → Bool
verifies = Rattle.format.specs.Statement.verifies present_form

abbrev pub written : Statement → List ℕ
written = Rattle.format.specs.Statement.written present_form

abbrev pub head_fits : ℕ → Bool
head_fits = Rattle.format.specs.Bundle.head_fits present_form

abbrev pub laid_out : List ℕ → Bool
laid_out = Rattle.format.specs.Bundle.laid_out present_form

abbrev pub main_of : List ℕ → Statement
main_of = Rattle.format.specs.Bundle.main_of present_form

abbrev pub certificate_of : List ℕ → List Statement
certificate_of = Rattle.format.specs.Bundle.certificate_of present_form

abbrev pub all_formed : ℕ → List ℕ → ℕ → ℕ → Bool
all_formed = Rattle.format.specs.Bundle.all_formed present_form

abbrev pub bundle_fits : ℕ → List ℕ → Bool
bundle_fits = Rattle.format.specs.Bundle.bundle_fits present_form

abbrev pub all_written : List Statement → List ℕ
all_written = Rattle.format.specs.Bundle.all_written present_form

abbrev pub bundle_of : Statement → List Statement → List ℕ
bundle_of = Rattle.format.specs.Bundle.bundle_of present_form
