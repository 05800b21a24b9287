-- The validity check's answer: "The validity check alone tests 2 (n), 3, 4, 5, 6 and answers 0." Each test goes over the whole bundle before the next.
use Rattle.std.specs.Prelude.{ℕ, suc, Bool, ◌&&◌, List, [], ◌∷◌, eqb}
use Rattle.laws.specs.Refusals.{Test, test, first_failed}
use Rattle.format.specs.Form.{Form, size_fits}
use Rattle.format.specs.Numbers.{out_of_range, malformed, other_question, wrong_code, no_certificate}
use Rattle.format.specs.Statement.{Statement, statements, verifies}
use Rattle.format.specs.Lists.{every}
use Rattle.hmac.specs.Code.{hmac_code}
use Rattle.format.specs.Bundle.{count_in, main_of, certificate_of, bundle_fits}
use Rattle.rules.specs.declared.Which.{Which}
use Rattle.rules.specs.declared.Which.TheVariants.{Any}
use Rattle.rules.specs.Rules.{which}
use Rattle.rules.specs.Test.{rule}

abbrev pub one_question : Statement → List Statement → Bool
one_question m c = every (λ s. eqb s.question m.question) c  -- "all of the main statement's question"

-- 4: "a question differs from the main statement's", or the main statement's from the one that is asked for, if one is
abbrev pub question_fits : Which → Statement → List Statement → Bool
question_fits asked m c = one_question m c && which asked m.question

module _ (form : Form) where
  abbrev pub all_verify : (List ℕ → List ℕ) → List Statement → Bool
  all_verify code c = every (verifies form code) c  -- "all codes verified", the main statement's too

  -- for a code function: what is tested of a bundle, in this order; a station that is given one tests the same
  abbrev pub bundle_tests : (List ℕ → List ℕ) → ℕ → Which → List ℕ → List Test
  bundle_tests code n asked ws =
      test (bundle_fits form n ws) malformed
      ∷ test (question_fits asked (main_of form ws) (certificate_of form ws)) other_question
      ∷ test (all_verify code (statements form ws 1 (suc (count_in ws)))) wrong_code
      ∷ test (rule n (main_of form ws) (certificate_of form ws)) no_certificate
      ∷ []

  -- "The validity check alone tests 2 (n), 3, 4, 5, 6 and answers 0."
  abbrev pub check_tests : (List ℕ → List ℕ) → ℕ → Which → List ℕ → List Test
  check_tests code n asked ws = test (size_fits form n) out_of_range ∷ bundle_tests code n asked ws

  unfoldable pub check_by : (List ℕ → List ℕ) → ℕ → Which → List ℕ → ℕ
  check_by code n asked ws = first_failed (check_tests code n asked ws)

  unfoldable pub judged : List ℕ → ℕ → Which → List ℕ → ℕ
  judged key n asked ws = check_by (hmac_code key) n asked ws  -- the answer under a group's key and n, of bundles of one question or of any

  unfoldable pub checked : List ℕ → ℕ → List ℕ → ℕ
  checked key n ws = judged key n Any ws
