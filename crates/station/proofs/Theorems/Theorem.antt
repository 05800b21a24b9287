-- Demand 2, proved of opening and giving: for any code of eight words, and so of HMAC.
use Rattle.std.specs.Prelude.{ℕ, ◌≤◌, ◌<◌, Bool, true, false, ◌&&◌, List, ◌++◌, ◌≡◌, eqb, length}
use Rattle.std.proofs.Math.Bool.{not}
use Rattle.std.proofs.Math.Path.{refl}
use Rattle.std.proofs.Common.{sym, ap, ◌∙◌, subst}
use native.Mathlib.Omega.{arith}
use Rattle.std.proofs.Math.Dec.{ltb}
use borrow.Author.Tests.{eqb-false, eq-eqb, lt-ltb, le-leb}
use Rattle.laws.specs.Pick.{pick}
use Rattle.laws.specs.Bools.{both, join}
use Rattle.laws.specs.Refusals.{first_failed, all_passed, failed_one, passed_front}
use Rattle.laws.specs.All.{All}
use Rattle.format.specs.Form.{present_form}
use Rattle.format.specs.Numbers.{code_words}
use Rattle.format.specs.Present.{output_words, main_of, certificate_of}
use Rattle.hmac.specs.Code.{hmac_code}
use Rattle.hmac.specs.Code.{hmac_eight}
use Rattle.rules.specs.declared.Which.TheVariants.{Any, Only}
use Rattle.certificate.specs.Check.{one_question}
use Rattle.certificate.specs.Present.{bundle_tests, check_tests, check_by}
use Rattle.modules.specs.declared.Module.{Module}
use Rattle.modules.specs.Present.{module_fits}
use Rattle.station.specs.declared.Station.{Station}
use Rattle.station.specs.Machine.{refused, answered, step_tests}
use Rattle.station.specs.Demand.{invalid, OfGroup}
use Rattle.station.proofs.Laws.Views.{answered_number}
use Rattle.station.proofs.Laws.Fits as Fits
use Rattle.station.proofs.Theorems.Written as Written
use Rattle.station.proofs.Theorems.Refused as Refused
use Rattle.station.proofs.Theorems.Coin as Coin
use Rattle.station.proofs.Theorems.Seal as Seal
use Rattle.station.specs.Present.{state_of, fits, returned, giving, station_tests, give_tests, ValidToAll, Demand2, on_bundle}

module _ (mac : List ℕ → List ℕ → List ℕ) (key : List ℕ) (n : ℕ) (ws : List ℕ) (valid : check_by (mac key) n Any ws ≡ 0) where
  -- the check's tests of the bundle, where one question is asked for
  bundle_passed : (question : ℕ) → (main_of ws).question ≡ question → All (λ t. t.ok ≡ true) (bundle_tests (mac key) n (Only question) ws)
  unfolding Rattle.certificate.specs.Check.check_by
  bundle_passed question e =
      let p = (all_passed (check_tests (mac key) n Any ws) (omega arith, (omega arith, (omega arith, (omega arith, (omega arith, tt))))) valid).1 in
      (p.0, (join (one_question (main_of ws) (certificate_of ws)) _ (both (one_question (main_of ws) (certificate_of ws)) _ p.1.0).0 (eq-eqb _ _ e), p.1.1))

  -- valid words, given to any open and fitting station of the group on their question
  taken_everywhere : (site : ℕ) (m : Module) (t : Station) (coin : ℕ) (out : List ℕ) → OfGroup key n site m → module_fits m ≡ true
      → fits m.n m.station t ≡ true → t.closed ≡ false → (main_of ws).question ≡ t.identity.question → output_words ≤ length out → coin < 2
      → invalid (giving mac m t ws coin out).number ≡ false
  unfolding Rattle.station.specs.Calls.giving Rattle.station.specs.Calls.returned pick
  taken_everywhere site m t coin out G fit fitting still same room bit = go (eqb (first_failed (give_tests mac m t ws coin out)) 0) refl
    where
      ready : All (λ x. x.ok ≡ true) (station_tests m t coin out)
      ready = (
        le-leb output_words (length out) room,
        (join (module_fits m && ltb coin 2) _ (join (module_fits m) _ fit (lt-ltb coin 2 bit)) fitting, (ap not still, tt)),
      )

      here : All (λ x. x.ok ≡ true) (bundle_tests (mac m.key) m.n (Only t.identity.question) ws)
      here =
          subst (λ (i : ℕ). All (λ x. x.ok ≡ true) (bundle_tests (mac m.key) i (Only t.identity.question) ws)) (sym G.same_n)
          (subst (λ (c : List ℕ). All (λ x. x.ok ≡ true) (bundle_tests (mac c) n (Only t.identity.question) ws)) (sym G.same_key) (bundle_passed t.identity.question same))

      -- so only the tests of the step are left
      left : first_failed (give_tests mac m t ws coin out) ≡ first_failed (step_tests (state_of t) (main_of ws))
      left =
          passed_front (station_tests m t coin out) (bundle_tests (mac m.key) m.n (Only t.identity.question) ws ++ step_tests (state_of t) (main_of ws)) ready
          ∙ passed_front (bundle_tests (mac m.key) m.n (Only t.identity.question) ws) (step_tests (state_of t) (main_of ws)) here

      go : (b : Bool) → eqb (first_failed (give_tests mac m t ws coin out)) 0 ≡ b
          → invalid (returned m t out (pick b (on_bundle mac answered m t ws coin)
          (refused (first_failed (give_tests mac m t ws coin out))))).number ≡ false
      go true e = answered_number present_form mac m t ws coin out (λ k. invalid k ≡ false) refl refl refl refl refl refl
      go false e =
          subst (λ (k : ℕ). invalid k ≡ false) (sym left)
          (failed_one (λ k. invalid k ≡ false) (step_tests (state_of t) (main_of ws)) (refl, (refl, (refl, (refl, tt)))) (λ z. eqb-false _ _ e (left ∙ z)))

  pub valid_to_all : ValidToAll mac key n ws
  valid_to_all = record { valid = valid; everywhere = taken_everywhere }

pub demand_2_of : (mac : List ℕ → List ℕ → List ℕ) → ((key ws : List ℕ) → length (mac key ws) ≡ code_words) → Demand2 mac
demand_2_of mac eight =
    record {
      opening_written = λ key n site m question v jump out G u. valid_to_all mac key n _ (Written.opening_written present_form mac key n eight site m question v jump out G u);
      giving_written = λ key n site t R m ws coin out G u. valid_to_all mac key n _ (Written.giving_written present_form mac key n eight site t R m ws coin out G u);
      opening_counted = λ m question v jump out. Seal.opening_counted mac eight m question v jump out;
      giving_counted = λ m t ws coin out L. Seal.giving_counted mac eight m t ws coin out L;
      opening_silent = λ m question v jump out u. Seal.opening_silent mac eight m question v jump out u;
      giving_silent = λ m t ws coin out L u. Seal.giving_silent mac eight m t ws coin out L u;
      opening_sealed = λ m question v jump out u coin. Seal.opening_sealed mac eight m question v jump out u coin;
      giving_sealed = λ m t ws coin out L u. Seal.giving_sealed mac eight m t ws coin out L u;
      opening_fits = λ m question v jump out u. Fits.opening_fits present_form mac eight m question v jump out u;
      giving_fits = λ m t ws coin out L u. Fits.giving_fits present_form mac eight m t ws coin out L u;
      opening_refused = λ m question v jump out u. Refused.opening_refused mac m question v jump out u;
      giving_refused = λ m t ws coin out L u. Refused.giving_refused mac m t ws coin out L u;
      coin_effect = λ m t ws out. Coin.coin_effect mac m t ws out;
    }

pub demand_2 : Demand2 hmac_code
demand_2 = demand_2_of hmac_code hmac_eight
