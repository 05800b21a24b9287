-- The order of the tests, as the table of returns says it: the numbers as listed, and what is answered where two tests fail at once.
use Rattle.std.specs.Prelude.{ℕ, Bool, true, false, ◌&&◌, List, [], ◌∷◌, ◌++◌, ◌≡◌, refl, eqb, leb, length}
use Rattle.std.proofs.Math.Dec.{ltb}
use Rattle.laws.specs.Pick.{pick}
use Rattle.laws.specs.Refusals.{Test, test, first_failed, test_numbers}
use Rattle.laws.specs.All.{All}
use Rattle.format.specs.Numbers.{kind_init, d_get, r_get, sent, short_output, out_of_range, too_early, too_late, already_held, not_above}
use Rattle.format.specs.Group.{backing}
use Rattle.format.specs.Words.{step_of}
use Rattle.format.specs.Statement.{Statement, step}
use Rattle.format.specs.Lists.{some}
use Rattle.format.specs.Present.{output_words, statement_code}
use Rattle.rules.specs.Rules.{wanted}
use Rattle.rules.specs.Test.{rule, in_order, holds, d_get_group, first_group, second_group, has_second, early_toss, rest_holds, spread, groups_hold}
use Rattle.modules.specs.declared.Module.{Module}
use Rattle.modules.specs.Counter.{above, last_for}
use Rattle.modules.specs.Present.{module_fits}
use Rattle.station.specs.declared.Stage.TheVariants.{Gathering}
use Rattle.station.specs.declared.Station.{Station}
use Rattle.station.specs.Machine.{refused, sends, proposing, own, began, insert, taken, conflict, undecided}
use Rattle.station.specs.Marked.{init, proposal, all_of, nones, ◌by◌, answers, seen, Row, gives, RowHolds}
use Rattle.station.specs.Present.{returned, no_station, open_tests, opening, give_tests}

module _ (mac : List ℕ → List ℕ → List ℕ) (m : Module) (out : List ℕ) where
  -- "Opening tests 1, 2, 12.": 12 of the INIT's pair, and what is answered is the first that fails, or 20
  abbrev pub opening_tests : (question proposal jump : ℕ) → List Test
  opening_tests question proposal jump = open_tests mac m proposal jump out ++ (test (above (last_for m question) question (step_of kind_init 0)) not_above ∷ [])

  pub opening_order : (question proposal jump : ℕ) → test_numbers (opening_tests question proposal jump) ≡ 1 ∷ 2 ∷ 12 ∷ []
  opening_order question proposal jump = refl

  pub opening_answer : (question proposal jump : ℕ)
      → (opening mac m question proposal jump out).number ≡ pick (eqb (first_failed (opening_tests question proposal jump)) 0) sent (first_failed (opening_tests question proposal jump))
  unfolding Rattle.station.specs.Calls.opening Rattle.station.specs.Calls.returned first_failed pick step
  opening_answer question proposal jump =
      go (leb output_words (length out)) (module_fits m && ltb proposal 2 && ltb jump 2) (above (last_for m question) question (step_of kind_init 0))
    where
      s : Statement
      s = own (statement_code (mac m.key)) m.station question kind_init proposal d_get 0

      go : (a b c : Bool)
          → (returned m no_station out (pick (eqb (first_failed (test a short_output ∷ test b out_of_range ∷ [])) 0)
          (pick c (sends sent s [] (began m.n question (undecided (eqb jump 1)) Gathering s [])) (refused not_above)) (refused (first_failed (test a short_output ∷ test b out_of_range ∷ []))))).number
          ≡ pick (eqb (first_failed (test a short_output ∷ test b out_of_range ∷ test c not_above ∷ [])) 0) sent (first_failed (test a short_output ∷ test b out_of_range ∷ test c not_above ∷ []))
      go false b c = refl
      go true false c = refl
      go true true true = refl
      go true true false = refl

  -- "A station given a bundle tests 1, 2, 11, 3, 4, 5, 6, 7, 8, 9, 10 and, only where a bundle would be written, 12."
  pub giving_order : (t : Station) (ws : List ℕ) (coin : ℕ) → test_numbers (give_tests mac m t ws coin out) ≡ 1 ∷ 2 ∷ 11 ∷ 3 ∷ 4 ∷ 5 ∷ 6 ∷ 7 ∷ 8 ∷ 9 ∷ 10 ∷ []
  giving_order t ws coin = refl

-- a station of 4 that holds a statement of station 2, and is given one more of station 2
abbrev pub ordered : List Row
ordered =
    -- an INIT again: 9
    gives 4 Gathering (init 1 0 by []) (init 2 1 by [] ∷ init 2 1 by [] ∷ []) 0 (answers already_held)
    -- a proposal, while it gathers: 8, though station 2 is held
    ∷ gives 4 Gathering (init 1 0 by []) (init 2 1 by [] ∷ proposal 1 2 1 d_get by (init 2 1 ∷ init 3 1 ∷ []) ∷ []) 0 (answers too_early)
    -- an INIT, while it proposes: 7, though station 2 is held
    ∷ gives 4 (proposing 2 r_get) (proposal 2 1 0 r_get by nones) (proposal 2 2 0 r_get by nones ∷ init 2 1 by [] ∷ []) 0 (answers too_late)
    -- another proposal of the step: 9, before the D-GET of both values
    ∷ gives 4 (proposing 2 r_get) (proposal 2 1 0 r_get by nones) (proposal 2 2 0 d_get by all_of 0 ∷ proposal 2 2 1 d_get by all_of 1 ∷ []) 0 (answers already_held)
    ∷ []

pub ordered_hold : (mac : List ℕ → List ℕ → List ℕ) (key : List ℕ) → All (RowHolds mac key) ordered
unfolding pick backing seen first_failed rule wanted some in_order holds d_get_group first_group second_group has_second early_toss rest_holds spread groups_hold insert taken conflict step step_of
ordered_hold mac key = (refl, (refl, (refl, (refl, tt))))
