-- The sealed module's coding: plain, and with the coin (document 01, "The sealed module"). The module and its last pair are those of crate modules.
use Rattle.std.specs.Prelude.{ℕ, Bool, not, ◌&&◌, List, [], ◌∷◌, eqb, ltb, length}
use Rattle.laws.specs.Pick.{pick}
use Rattle.laws.specs.Refusals.{Test, test, first_failed}
use Rattle.format.specs.Form.{Form, fields_at, statement_words}
use Rattle.format.specs.Numbers.{kind_p, r_get, out_of_range, malformed, wrong_code, not_above}
use Rattle.format.specs.Statement.{Statement, statement, covered, written, step, formed}
use Rattle.modules.specs.declared.Module.{Module}
use Rattle.modules.specs.Counter.{above, last_for, advanced, module_fits}

pub record Coded : Type 0 where
  pub number : ℕ
  pub after : Module
  pub lent : List ℕ

abbrev pub is_r_get : ℕ → ℕ → Bool
is_r_get kind flag = eqb kind kind_p && eqb flag r_get  -- "a P flagged R-GET", by kind and flag

-- what each way is for: "The coin way is only for a P flagged R-GET"; "The plain way takes every other statement and refuses an R-GET"
abbrev pub by_coin : ℕ → ℕ → Bool
by_coin kind flag = is_r_get kind flag

abbrev pub by_plain : ℕ → ℕ → Bool
by_plain kind flag = not (is_r_get kind flag)

abbrev pub is_toss : Statement → Bool
is_toss s = is_r_get s.kind s.flag

-- the statement with another value
abbrev pub with_value : ℕ → Statement → Statement
with_value v s =
    record { kind = s.kind; value = v; flag = s.flag; station = s.station; round = s.round; question = s.question; code = s.code }

abbrev pub tossed : ℕ → Statement → Statement
tossed coin s = with_value coin s  -- "it puts the coin in as the value"

module _ (form : Form) where
  -- the statement with the code of the words that it covers
  abbrev pub signed : (List ℕ → List ℕ) → Statement → Statement
  signed code s =
      record {
        kind = s.kind;
        value = s.value;
        flag = s.flag;
        station = s.station;
        round = s.round;
        question = s.question;
        code = code (covered form s);
      }

  -- what both ways test: 3, 5 and 12 of the words as given, and whether they are for this way to code
  abbrev pub coding_tests : Module → List ℕ → Bool → List Test
  coding_tests m ws way =
      test (eqb (length ws) (statement_words form) && formed form m.n (fields_at form ws 0) && way) malformed
      ∷ test (eqb (statement form ws 0).station m.station) wrong_code
      ∷ test (above (last_for m (statement form ws 0).question) (statement form ws 0).question (step (statement form ws 0))) not_above
      ∷ []

  -- "Coding tests 2 (n, station number, coin), 3, 5, 12": the plain way, and with the coin
  abbrev pub plain_tests : Module → List ℕ → List Test
  plain_tests m ws = test (module_fits form m) out_of_range ∷ coding_tests m ws (by_plain (statement form ws 0).kind (statement form ws 0).flag)

  abbrev pub coin_tests : Module → List ℕ → ℕ → List Test
  coin_tests m ws coin = test (module_fits form m && ltb coin 2) out_of_range ∷ coding_tests m ws (by_coin (statement form ws 0).kind (statement form ws 0).flag)

  -- coded: the statement's words with the code, and the module one pair on; refused: as it was
  abbrev pub coding : (List ℕ → List ℕ) → Module → Statement → List ℕ → ℕ → Coded
  coding code m s ws refusal =
      pick (eqb refusal 0)
      (record { number = 0; after = advanced m s.question (step s); lent = written form (signed code s) })
      (record { number = refusal; after = m; lent = ws })

  module _ (mac : List ℕ → List ℕ → List ℕ) where
    -- "The plain way takes every other statement and refuses an R-GET."
    unfoldable pub coding_plain : Module → List ℕ → Coded
    coding_plain m ws =
        coding (mac m.key) m (statement form ws 0) ws (first_failed (plain_tests m ws))

    -- "The coin way is only for a P flagged R-GET: it puts the coin in as the value and codes in the same call."
    unfoldable pub coding_coin : Module → List ℕ → ℕ → Coded
    coding_coin m ws coin =
        coding (mac m.key) m (tossed coin (statement form ws 0)) ws (first_failed (coin_tests m ws coin))
