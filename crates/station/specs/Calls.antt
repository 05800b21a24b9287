-- Opening and giving: what the public calls promise, from words to words (document 01, "Table of returns").
use Rattle.std.specs.Prelude.{ℕ, true, false, not, ◌&&◌, List, [], ◌∷◌, ◌++◌, eqb, ltb, leb, length}
use Rattle.laws.specs.Pick.{pick}
use Rattle.laws.specs.Refusals.{Test, test, first_failed}
use Rattle.laws.specs.Over.{over}
use Rattle.format.specs.Form.{Form, last_round, bundle_words, output_words}
use Rattle.format.specs.Numbers.{short_output, out_of_range, station_closed}
use Rattle.format.specs.Statement.{Statement, step, statement_code}
use Rattle.format.specs.Bundle.{main_of, certificate_of, bundle_of}
use Rattle.rules.specs.declared.Which.TheVariants.{Only}
use Rattle.certificate.specs.Check.{bundle_tests}
use Rattle.modules.specs.declared.Last.{Last}
use Rattle.modules.specs.declared.Module.{Module}
use Rattle.modules.specs.Counter.{module_fits, last_for, advanced}
use Rattle.station.specs.declared.Stage.TheVariants.{Gathering}
use Rattle.station.specs.declared.Station.{Station}
use Rattle.station.specs.Machine.{State, Outcome, refused, keeps, sends, opened, answered, step_tests, undecided}
use Rattle.station.specs.Words.{empty_station, state_of, as_station}
use Rattle.station.specs.Fit.{fits}

-- all that a call returns: the number, the word count, the station, the module, and the lent output
pub record Returned : Type 0 where
  pub number : ℕ
  pub count : ℕ
  pub station : Station
  pub after : Module
  pub lent : List ℕ

abbrev pub unless : List Test → Outcome → Outcome
unless l o = pick (eqb (first_failed l) 0) o (refused (first_failed l))  -- what is done unless a test fails

module _ (form : Form) where
  -- "Where no bundle is written the word count is zero. At a refusal station, module and lent words keep their values."
  unfoldable pub returned : Module → Station → List ℕ → Outcome → Returned
  returned m t out (refused k) = record { number = k; count = 0; station = t; after = m; lent = out }
  returned m t out (keeps k s) = record { number = k; count = 0; station = as_station form m.n m.station s; after = m; lent = out }
  returned m t out (sends k s c u) =
      record {
        number = k;
        count = bundle_words form (length c);
        station = as_station form m.n m.station u;
        after = advanced m s.question (step s);
        lent = over (bundle_of form s c) out;
      }

  -- a refused opening returns this station: of no group, closed, undecided and otherwise zero. Every call refuses it
  unfoldable pub no_station : Station
  no_station = empty_station form (record { n = 0; station = 0; question = 0 }) Gathering true (undecided false)

  -- what a giving tests before it looks at the words: 1, 2, 11
  abbrev pub station_tests : Module → Station → ℕ → List ℕ → List Test
  station_tests m t coin out =
      test (leb (output_words form) (length out)) short_output
      ∷ test (module_fits form m && ltb coin 2 && fits form m.n m.station t) out_of_range
      ∷ test (not t.closed) station_closed
      ∷ []

  module _ (mac : List ℕ → List ℕ → List ℕ) where
    -- the machine as the calls use it: with a code under the module's key, the form's last round, the module's n and station, and its last pair on a question
    abbrev pub by_module : {A : Type 0} → ((Statement → List ℕ) → ℕ → ℕ → ℕ → Last → A) → Module → ℕ → A
    by_module f m question = f (statement_code form (mac m.key)) (last_round form) m.n m.station (last_for m question)

    -- and with the state of a station on that question, and the main statement and the certificate of the words given to it
    abbrev pub on_bundle : ((Statement → List ℕ) → ℕ → ℕ → ℕ → Last → State → Statement → List Statement → ℕ → Outcome) → Module → Station → List ℕ → ℕ → Outcome
    on_bundle f m t ws coin = by_module f m t.identity.question (state_of form t) (main_of form ws) (certificate_of form ws) coin

    -- "Opening tests 1, 2, 12."; "a jump setting outside 0 and 1 is 2" (Job 3 of document 02)
    abbrev pub open_tests : Module → ℕ → ℕ → List ℕ → List Test
    open_tests m proposal jump out =
        test (leb (output_words form) (length out)) short_output ∷ test (module_fits form m && ltb proposal 2 && ltb jump 2) out_of_range ∷ []

    -- "Opening gains a setting, jump off (0) or on (1)."
    abbrev pub opening_outcome : Module → ℕ → ℕ → ℕ → List ℕ → Outcome
    opening_outcome m question proposal jump out =
        unless (open_tests m proposal jump out)
        (by_module opened m question question proposal (eqb jump 1))

    unfoldable pub opening : Module → ℕ → ℕ → ℕ → List ℕ → Returned
    opening m question proposal jump out = returned m no_station out (opening_outcome m question proposal jump out)

    -- "A station given a bundle tests 1, 2, 11, 3, 4, 5, 6, 7, 8, 9, 10 and, only where a bundle would be written, 12."; "12 follows the checks up to 7"
    -- where it jumps
    abbrev pub give_tests : Module → Station → List ℕ → ℕ → List ℕ → List Test
    give_tests m t ws coin out =
        station_tests m t coin out ++ (bundle_tests form (mac m.key) m.n (Only t.identity.question) ws ++ step_tests (state_of form t) (main_of form ws))

    abbrev pub giving_outcome : Module → Station → List ℕ → ℕ → List ℕ → Outcome
    giving_outcome m t ws coin out =
        unless (give_tests m t ws coin out)
        (on_bundle answered m t ws coin)

    unfoldable pub giving : Module → Station → List ℕ → ℕ → List ℕ → Returned
    giving m t ws coin out = returned m t out (giving_outcome m t ws coin out)
