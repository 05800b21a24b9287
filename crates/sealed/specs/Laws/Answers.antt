-- What the functions of the module's two ways answer, one by one.
use Rattle.std.specs.Prelude.{ℕ, Bool, List, ◌∷◌, ◌≡◌, length}
use Rattle.laws.specs.Refusals.{test, first_failed}
use Rattle.format.specs.Numbers.{out_of_range}
use Rattle.format.specs.Words.{kind_of, flag_of, station_of, round_of, word_of}
use Rattle.format.specs.Present.{statement_words, statement, written}
use Rattle.hmac.specs.Code.{hmac_code}
use Rattle.modules.specs.declared.Module.{Module}
use Rattle.sealed.specs.Sealed.{with_value}
use Rattle.sealed.specs.Present.{coding_tests, signed}

-- a refusal's number, by the table's order; and that what is not refused has ten words
pub record Tested (m : Module) (ws : List ℕ) (range way : Bool) (number : ℕ) : Type 0 where
  pub number_is : number ≡ first_failed (test range out_of_range ∷ coding_tests m ws way)
  pub ten_words : number ≡ 0 → length ws ≡ statement_words

-- word 0 with another value, bits 26..24 zero
unfoldable pub word_with : ℕ → ℕ → ℕ
word_with w v =
    word_of
    (record { kind = kind_of w; value = v; flag = flag_of w; spare = 0; station = station_of w; round = record { 0 = round_of w } })

-- the ten words of a statement with a value put in and coded
unfoldable pub lent_with : List ℕ → List ℕ → ℕ → List ℕ
lent_with key ws v = written (signed (hmac_code key) (with_value v (statement ws 0)))
