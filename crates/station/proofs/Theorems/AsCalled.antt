-- What the marked table says of bundles that are read already, it says of the calls: giving words that are a bundle with codes that verify, to an open
-- and fitting station, comes to the table's `giving_read`, and the station returned is read as the state that is kept.
use Rattle.std.specs.Prelude.{ℕ, suc, ◌≤◌, ◌<◌, true, false, not, ◌&&◌, List, [], ◌∷◌, ◌++◌, ◌≡◌, eqb, ltb, length}
use Rattle.std.proofs.Common.{ap, ◌∙◌, arith, lt-ltb, le-leb}
use Rattle.laws.specs.Pick.{pick}
use Rattle.laws.specs.Bools.{join}
use Rattle.laws.specs.Refusals.{Test, test, passed_front}
use Rattle.laws.specs.All.{All}
use Rattle.format.specs.Form.{present_form}
use Rattle.format.specs.Numbers.{kept, malformed, other_question, wrong_code, no_certificate, code_words}
use Rattle.format.specs.Bundle.{count_in}
use Rattle.format.specs.Present.{output_words, statements, statement_code, main_of, certificate_of, bundle_fits}
use Rattle.rules.specs.declared.Which.TheVariants.{Only}
use Rattle.rules.specs.Test.{rule}
use Rattle.certificate.specs.Check.{question_fits}
use Rattle.certificate.specs.Present.{all_verify}
use Rattle.modules.specs.declared.Module.{Module}
use Rattle.modules.specs.Counter.{last_for}
use Rattle.modules.specs.Present.{module_fits}
use Rattle.station.specs.declared.Station.{Station}
use Rattle.station.specs.Machine.{State, Outcome, refused, keeps, sends, answered, step_tests}
use Rattle.station.specs.Marked.{◌by◌, giving_read}
use Rattle.station.proofs.Laws.Views.{after, Gives, refuses, holds_on, shuts, goes_on, enters, gives_view}
use Rattle.station.proofs.Laws.Sane.{state_back}
use Rattle.station.proofs.Laws.Fits.{kept_sane}
use Rattle.station.specs.Present.{state_of, fits, returned, station_tests, giving, giving_outcome, Lengths, on_bundle}

module _ (mac : List ℕ → List ℕ → List ℕ) (m : Module) (t : Station) (ws : List ℕ) (coin : ℕ) (out : List ℕ) where
  -- where the tests 1, 2, 11, 3, 4 and 5 pass, giving is what the table's rows use
  pub given_as_called : output_words ≤ length out → module_fits m ≡ true → coin < 2 → fits m.n m.station t ≡ true → t.closed ≡ false
      → bundle_fits m.n ws ≡ true → question_fits (Only t.identity.question) (main_of ws) (certificate_of ws) ≡ true
      → all_verify (mac m.key) (statements ws 1 (suc (count_in ws))) ≡ true
      → giving_outcome mac m t ws coin out
      ≡ giving_read (statement_code (mac m.key)) m.n m.station (last_for m t.identity.question) coin (state_of t) (main_of ws by certificate_of ws)
  given_as_called room fit bit fitting still three four five =
      ap (λ (k : ℕ). pick (eqb k 0) whole (refused k)) (passed_front front rest passed)
    where
      whole : Outcome
      whole = on_bundle mac answered m t ws coin

      rest : List Test
      rest = test (rule m.n (main_of ws) (certificate_of ws)) no_certificate ∷ step_tests (state_of t) (main_of ws)

      front : List Test
      front =
          station_tests m t coin out
          ++ (test (bundle_fits m.n ws) malformed
          ∷ test (question_fits (Only t.identity.question) (main_of ws) (certificate_of ws)) other_question
          ∷ test (all_verify (mac m.key) (statements ws 1 (suc (count_in ws)))) wrong_code
          ∷ [])

      passed : All (λ x. x.ok ≡ true) front
      passed = (
        le-leb output_words (length out) room,
        (join (module_fits m && ltb coin 2) _ (join (module_fits m) _ fit (lt-ltb coin 2 bit)) fitting, (ap not still, (three, (four, (five, tt))))),
      )

-- 0 for a bundle that was kept
kept_number : Outcome → ℕ
kept_number (refused k) = 1
kept_number (keeps k u) = k
kept_number (sends k s c u) = 1

state_in : State → Outcome → State
state_in d (refused k) = d
state_in d (keeps k u) = u
state_in d (sends k s c u) = u

-- the station of a call that kept the bundle is read as the state that the next call goes on with
pub kept_as_read : (mac : List ℕ → List ℕ → List ℕ) → ((key ws : List ℕ) → length (mac key ws) ≡ code_words) → (m : Module) (t : Station) (ws : List ℕ) (coin : ℕ) (out : List ℕ)
    → Lengths t → (u : State) → giving_outcome mac m t ws coin out ≡ keeps kept u → state_of (giving mac m t ws coin out).station ≡ u
unfolding Rattle.station.specs.Calls.giving Rattle.station.specs.Calls.returned kept_number state_in
kept_as_read mac eight m t ws coin out L u = go (giving_outcome mac m t ws coin out) (gives_view present_form mac m t ws coin out L)
  where
    go : (o : Outcome) → Gives present_form mac m t ws coin out o → o ≡ keeps kept u → state_of (returned m t out o).station ≡ u
    go _ (refuses e) z = absurd (omega (arith, ap kept_number z))
    go _ (holds_on A few) z =
        state_back present_form m.n m.station (after present_form mac m t ws coin out) A.cleared.range.at_most A.cleared.range.low A.cleared.range.high (kept_sane present_form mac eight m t ws coin out L A few)
        ∙ ap (state_in u) z
    go _ (shuts A size c) z = absurd (omega (arith, ap kept_number z))
    go _ (goes_on A size c later k) z = absurd (omega (arith, ap kept_number z))
    go _ (enters J later) z = absurd (omega (arith, ap kept_number z))
