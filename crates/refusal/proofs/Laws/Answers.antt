-- The answers of a giving's tests, each from what leads to it.
use Rattle.std.specs.Prelude.{ℕ, suc, ◌-◌, ◌^◌, ◌≤◌, ◌<◌, Bool, not, ◌&&◌, List, ◌≡◌, leb, length, get_or, replicate}
use Rattle.std.proofs.Math.Bool.{true, false}
use Rattle.std.proofs.Math.Path.{refl, sym}
use Rattle.std.proofs.Common.{◌∙◌, arith}
use Rattle.std.specs.Int.Count.{ones}
use Rattle.std.proofs.Math.Dec.{eqb, ltb}
use Rattle.std.proofs.lemmas.List.{length-replicate}
use borrow.Author.Tests.{leb-true, le-leb, lt-leb, not-true, not-false}
use Rattle.laws.specs.Pick.{pick}
use Rattle.laws.specs.Bools.{both}
use Rattle.laws.specs.Refusals.{first_failed}
use Rattle.laws.specs.Sets.{bit}
use Rattle.format.specs.Numbers.{out_of_range, short_output, station_closed}
use Rattle.format.specs.Group.{quorum}
use Rattle.format.specs.declared.Fields.{Fields}
use Rattle.format.specs.Words.{fields_of, of_group, spare_of, station_of}
use Rattle.hmac.specs.Code.{hmac_code}
use Rattle.format.specs.Bundle.{count_in}
use Rattle.rules.specs.declared.Which.TheVariants.{Only}
use Rattle.rules.specs.Test.{rule}
use Rattle.certificate.specs.Check.{question_fits}
use Rattle.certificate.specs.Present.{all_verify, judged}
use Rattle.format.specs.Present.{output_words, size_fits, formed, statements, laid_out, main_of, certificate_of, bundle_fits}
use Rattle.modules.specs.declared.Module.{Module}
use Rattle.modules.specs.Present.{module_fits}
use Rattle.station.specs.declared.Station.{Station}
use Rattle.station.specs.Machine.{stage_step, step_tests, held_of}
use Rattle.station.specs.Present.{state_of, sites, held_by, slots_fit, held_fits, rest_fits, fits}
use Rattle.fitness.proofs.Laws.Among.{bit_is_held}
use Rattle.refusal.specs.Refusal.{jumps_by, first_refusal, step_refused, step_refused_is}

swap : (a b c : Bool) → ((a && c) && b) ≡ ((a && b) && c)
swap true true true = refl
swap true true false = refl
swap true false true = refl
swap true false false = refl
swap false b c = refl

-- four tests in a row, and what is asked behind them
abbrev chain : Bool → Bool → Bool → Bool → ℕ → ℕ
chain a b c d x = pick a (pick b (pick c (pick d x 6) 5) 4) 3

chain_failed : (a b c d : Bool) (x : ℕ) → (chain a b c d 0 ≡ 0 → ⊥) → chain a b c d 0 ≡ chain a b c d x
unfolding pick
chain_failed true true true true x h = absurd (h refl)
chain_failed true true true false x h = refl
chain_failed true true false d x h = refl
chain_failed true false c d x h = refl
chain_failed false b c d x h = refl

chain_passed : (a b c d : Bool) (x : ℕ) → chain a b c d 0 ≡ 0 → x ≡ chain a b c d x
unfolding pick
chain_passed true true true true x h = refl
chain_passed true true true false x h = absurd (omega arith)
chain_passed true true false d x h = absurd (omega arith)
chain_passed true false c d x h = absurd (omega arith)
chain_passed false b c d x h = absurd (omega arith)

module _ (m : Module) (t : Station) (ws : List ℕ) (coin room : ℕ) where
  words : length (replicate {A = ℕ} room 0) ≡ room
  words = length-replicate room 0

  pub answer_room : room < output_words → short_output ≡ first_refusal m t ws coin room
  unfolding first_refusal first_failed pick
  answer_room h = rw (words, lt-leb 331 room h)

  module _ (a : output_words ≤ room) (fit : Bool) (e : fit ≡ (module_fits m && fits m.n m.station t)) where
    in_range : (fit && ltb coin 2) ≡ (module_fits m && ltb coin 2 && fits m.n m.station t)
    in_range = rw e (swap (module_fits m) (ltb coin 2) (fits m.n m.station t))

    pub answer_range : not (fit && ltb coin 2) ≡ true → out_of_range ≡ first_refusal m t ws coin room
    unfolding first_refusal first_failed pick
    answer_range h = rw (words, le-leb 331 room a, sym in_range ∙ not-true _ h)

    module _ (p : not (fit && ltb coin 2) ≡ false) where
      passed : (module_fits m && ltb coin 2 && fits m.n m.station t) ≡ true
      passed = sym in_range ∙ not-false _ p

      pub answer_closed : t.closed ≡ true → station_closed ≡ first_refusal m t ws coin room
      unfolding first_refusal first_failed pick
      answer_closed h = rw (words, le-leb 331 room a, passed, h)

      module _ (o : t.closed ≡ false) (v : ℕ) (j : v ≡ judged m.key m.n (Only t.identity.question) ws) where
        a3 : Bool
        a3 = bundle_fits m.n ws

        a4 : Bool
        a4 = question_fits (Only t.identity.question) (main_of ws) (certificate_of ws)

        a5 : Bool
        a5 = all_verify (hmac_code m.key) (statements ws 1 (suc (count_in ws)))

        a6 : Bool
        a6 = rule m.n (main_of ws) (certificate_of ws)

        sized : size_fits m.n ≡ true
        sized = (both (size_fits m.n) _ (both (module_fits m) _ (both (module_fits m && ltb coin 2) _ passed).0).0).0

        judged_is : v ≡ chain a3 a4 a5 a6 0
        unfolding Rattle.certificate.specs.Check.judged Rattle.certificate.specs.Check.check_by first_failed pick a3 a4 a5 a6
        judged_is = rw sized at j

        refused_is : first_refusal m t ws coin room ≡ chain a3 a4 a5 a6 (first_failed (step_tests (state_of t) (main_of ws)))
        unfolding first_refusal first_failed pick a3 a4 a5 a6
        refused_is = rw (words, le-leb 331 room a, passed, o)

        pub answer_judged : (v ≡ 0 → ⊥) → v ≡ first_refusal m t ws coin room
        answer_judged h = judged_is ∙ chain_failed a3 a4 a5 a6 _ (λ z. h (judged_is ∙ z)) ∙ sym refused_is

        module _ (z : v ≡ 0) where
          clear : chain a3 a4 a5 a6 0 ≡ 0
          clear = sym judged_is ∙ z

          formed_bundle : bundle_fits m.n ws ≡ true
          unfolding pick a3
          formed_bundle = go a3 refl clear
            where
              go : (b : Bool) → a3 ≡ b → chain b a4 a5 a6 0 ≡ 0 → a3 ≡ true
              go true e h = e
              go false e h = absurd (omega arith)

          main_station : (1 ≤ station_of (get_or ws 1 0)) × (station_of (get_or ws 1 0) ≤ m.n)
          unfolding Rattle.format.specs.Bundle.bundle_fits Rattle.format.specs.Bundle.all_formed Rattle.format.specs.Statement.formed fields_of
          main_station =
              let f = both (formed m.n (fields_of (get_or ws 1 0))) _ (both (laid_out ws) _ formed_bundle).1 in
              let g = both (eqb (spare_of (get_or ws 1 0)) 0) _ f.0 in
              let s = both (of_group m.n (station_of (get_or ws 1 0))) _ g.1 in
              let r = both (leb 1 (station_of (get_or ws 1 0))) _ s.0 in
              (leb-true _ _ r.0, leb-true _ _ r.1)

          slots_right : slots_fit m.n t.identity.question (stage_step t.stage) t.held.heard t.held.slots 0 sites ≡ true
          unfolding Rattle.station.specs.Fit.fits
          slots_right =
              let f = both (module_fits m && ltb coin 2) _ passed in
              let g = both (eqb t.identity.n m.n && eqb t.identity.station m.station) _ f.1 in
              let h = both (held_fits m.n m.station t) (rest_fits m.n m.station t) (rw o at g.1) in
              (both (ltb t.held.heard (2 ^ sites) && ltb (ones t.held.heard) (quorum m.n) && bit t.held.heard (m.station - 1)) _ h.0).1

          module _ (f : Fields) (r : f ≡ fields_of (get_or ws 1 0)) where
            pub station_low : 1 ≤ f.station
            unfolding fields_of
            station_low = rw r main_station.0

            known : bit t.held.heard (f.station - 1) ≡ held_of f.station (held_by t)
            unfolding fields_of
            known =
                let n_low : m.n ≤ 31 = leb-true _ _ (both (leb 2 m.n) _ sized).1 in
                let hi : station_of (get_or ws 1 0) ≤ 31 = omega (arith, main_station.1) in
                rw r
                (bit_is_held m.n t.identity.question (stage_step t.stage) t.held.heard t.held.slots (station_of (get_or ws 1 0)) slots_right
                main_station.0 hi)

            pub answer_step : (to_jump : Bool) → to_jump ≡ jumps_by t.stage t.lasting.jump f → (k : ℕ) → k ≡ step_refused t.stage to_jump t.held.heard (held_by t) f → k ≡ first_refusal m t ws coin room
            answer_step to_jump j k e = e ∙ step_refused_is t ws f to_jump r j known ∙ chain_passed a3 a4 a5 a6 _ clear ∙ sym refused_is
