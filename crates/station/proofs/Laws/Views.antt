-- What opening and giving come to, case by case: refused, kept, closed or sent, each with the facts that its tests have shown.
use Rattle.std.specs.Prelude.{ℕ, suc, ◌≤◌, ◌<◌, Bool, ◌&&◌, ◌||◌, ◌≡◌, leb}
use Rattle.std.proofs.Math.Bool.{true, false, not}
use mathlib.Core.List.{List, [], ◌∷◌, ◌++◌}
use Rattle.std.proofs.Math.Path.{refl}
use Rattle.std.proofs.Common.{sym, ◌∙◌}
use native.Mathlib.Omega.{arith}
use Rattle.std.proofs.Math.Dec.{eqb, ltb}
use Rattle.std.proofs.Math.ListN.{length}
use borrow.Author.Tests.{eqb-true, eqb-false, ltb-true, ltb-false, leb-true, not-true, not-false}
use Rattle.laws.specs.Pick.{pick}
use Rattle.laws.specs.Bools.{both, second_of, neither}
use Rattle.laws.specs.Refusals.{Test, first_failed, all_passed, failed_one, passed_until}
use Rattle.laws.specs.All.{All, all_map, all_two}
use Rattle.format.specs.Form.{Form, most_stations, last_round, output_words, size_fits}
use Rattle.format.specs.Numbers.{kind_init, none, d_get, kept, sent, sent_decided, closed_now, jumped, conflicting, not_above, least_stations}
use Rattle.format.specs.Group.{quorum}
use Rattle.format.specs.Statement.{Statement, statements, well_formed, verifies, step, statement_code}
use Rattle.format.specs.Bundle.{count_in, main_of, certificate_of, bundle_fits}
use Rattle.format.proofs.Laws.Layout.{all_well}
use Rattle.format.proofs.Laws.Shape.{formed_out}
use Rattle.rules.specs.Test.{rule}
use Rattle.rules.specs.declared.Which.TheVariants.{Only}
use Rattle.certificate.specs.Check.{one_question, bundle_tests, all_verify}
use Rattle.rules.proofs.Theorems.Backed.{rule_backed}
use Rattle.certificate.specs.Valid.{IsBundle}
use Rattle.certificate.proofs.Theorems.Exact.{bundle_out, every_out}
use Rattle.modules.specs.declared.Module.{Module}
use Rattle.modules.specs.Counter.{above, module_fits, last_for}
use Rattle.station.specs.declared.Stage.{Stage}
use Rattle.station.specs.declared.Stage.TheVariants.{Gathering}
use Rattle.station.specs.declared.Lasting.{Lasting}
use Rattle.station.specs.declared.Station.{Station}
use Rattle.station.specs.Machine.{State, Outcome, refused, keeps, sends, Next, own, began, opened, stage_of, jumps, copied_value, entered, answered, keeping, closes, lasting_at, undecided, shut, follows, moved, ended, taken, held_of, conflict, place_tests, stage_step}
use Rattle.station.specs.Words.{state_of, Lengths}
use Rattle.station.specs.Fit.{fits}
use Rattle.station.specs.Returns.{unrefused}
use Rattle.station.specs.Calls.{returned, giving, open_tests, opening_outcome, station_tests, give_tests, giving_outcome, by_module, on_bundle}
use Rattle.format.proofs.Laws.ReadBack.{Proper}
use Rattle.station.proofs.Laws.Insert.{insert_length}
use Rattle.station.proofs.Laws.Sane.{Sane}
use Rattle.station.proofs.Laws.FitSane.{fits_sane, eights}
use Rattle.station.proofs.Laws.Keep.{Fitting, stage_of_step}
use Rattle.station.proofs.Laws.End.{Full, full_grown}

module _ (form : Form) where
  -- a module in range
  pub record InRange (m : Module) : Type 0 where
    pub at_least : least_stations ≤ m.n
    pub at_most : m.n ≤ most_stations form
    pub low : 1 ≤ m.station
    pub high : m.station ≤ m.n

  pub in_range : (m : Module) → module_fits form m ≡ true → InRange m
  in_range m h =
      let a = both (size_fits form m.n) _ h in
      let b = both (leb 2 m.n) _ a.0 in
      let c = both (leb 1 m.station) _ a.1 in
      record { at_least = leb-true _ _ b.0; at_most = leb-true _ _ b.1; low = leb-true _ _ c.0; high = leb-true _ _ c.1 }

  module _ (mac : List ℕ → List ℕ → List ℕ) where
    -- ---- giving
    module _ (m : Module) (t : Station) (ws : List ℕ) (coin : ℕ) (out : List ℕ) where
      -- what tests 1, 2, 11 and 3 to 6 leave known, but for what a rule backs
      pub record Cleared : Type 0 where
        pub room : output_words form ≤ length out
        pub range : InRange m
        pub coin_bit : coin < 2
        pub fit : fits form m.n m.station t ≡ true
        pub still_open : t.closed ≡ false
        pub bundle : IsBundle form m.n ws
        pub codes : All (λ s. verifies form (mac m.key) s ≡ true) (statements form ws 1 (suc (count_in ws)))

      -- all tests but the last have passed
      pub record Accepted : Type 0 where
        pub cleared : Cleared
        pub fitting : Fitting form m.n (state_of form t).question (state_of form t).stage (main_of form ws) (certificate_of form ws)
        pub new : held_of (main_of form ws).station (state_of form t).held ≡ false
        pub calm : conflict (state_of form t).stage (main_of form ws ∷ (state_of form t).held) ≡ false

      -- all tests but 12 have passed, and the bundle makes the station jump: it fits the stage that its main statement belongs to
      pub record Jumping : Type 0 where
        pub cleared : Cleared
        pub fitting : Fitting form m.n (state_of form t).question (stage_of (main_of form ws)) (main_of form ws) (certificate_of form ws)
        pub on : t.lasting.jump ≡ true
        pub ahead : stage_step t.stage < step (main_of form ws)

      -- the statement that a jump writes
      abbrev pub jump_statement : Statement
      jump_statement =
          own (statement_code form (mac m.key)) m.station t.identity.question (main_of form ws).kind (copied_value (main_of form ws) coin) (main_of form ws).flag (main_of form ws).round

      abbrev pub after : State
      after = keeping m.n (state_of form t) (main_of form ws) (certificate_of form ws)

      abbrev pub lasting_then : Lasting
      lasting_then = lasting_at t.stage t.lasting after.held

      -- the statement that is sent
      abbrev pub sent_statement : Statement
      sent_statement =
          let x = follows m.n t.stage after coin in
          own (statement_code form (mac m.key)) m.station t.identity.question x.kind x.value x.flag x.round

      pub data Gives : Outcome → Type 0 where
        refuses : {k : ℕ} → unrefused k ≡ false → Gives (refused k)
        holds_on : Accepted → length after.held < quorum m.n → Gives (keeps kept after)
        shuts : Accepted → length after.held ≡ quorum m.n → closes (last_round form) t.stage ≡ true
            → Gives (keeps closed_now (shut after lasting_then))
        goes_on : {k : ℕ} → Accepted → length after.held ≡ quorum m.n → closes (last_round form) t.stage ≡ false
            → above (last_for m t.identity.question) t.identity.question (step sent_statement) ≡ true
            → k ≡ pick (ltb t.lasting.decision none || eqb lasting_then.decision none) sent sent_decided
            → Gives (sends k sent_statement ((follows m.n t.stage after coin).first ++ (follows m.n t.stage after coin).second)
            (began m.n t.identity.question lasting_then (follows m.n t.stage after coin).stage sent_statement
            ((follows m.n t.stage after coin).first ++ (follows m.n t.stage after coin).second)))
        enters : Jumping → above (last_for m t.identity.question) t.identity.question (step jump_statement) ≡ true
            → Gives (sends jumped jump_statement (certificate_of form ws)
            (began m.n t.identity.question t.lasting (stage_of (main_of form ws)) jump_statement (certificate_of form ws)))

      module _ (L : Lengths form t) where
        state_question : (state_of form t).question ≡ t.identity.question
        unfolding state_of
        state_question = refl

        -- all tests but that of 10 have passed
        pub record Nearly : Type 0 where
          pub cleared : Cleared
          pub fitting : Fitting form m.n (state_of form t).question (state_of form t).stage (main_of form ws) (certificate_of form ws)
          pub new : held_of (main_of form ws).station (state_of form t).held ≡ false

        -- the tests before that of 10
        abbrev pub ten_tests : List Test
        ten_tests =
            station_tests form m t coin out ++ (bundle_tests form (mac m.key) m.n (Only t.identity.question) ws ++ place_tests (state_of form t) (main_of form ws))

        propers : IsBundle form m.n ws → All (Proper form m.n) (statements form ws 1 (suc (count_in ws)))
        propers B =
            all_map (λ s p. record { formed = p.0; eight = p.1 }) (statements form ws 1 (suc (count_in ws)))
            (all_two (λ s. well_formed form m.n s ≡ true) (λ s. length s.code ≡ 8) (statements form ws 1 (suc (count_in ws)))
            (all_well form m.n ws 1 (suc (count_in ws)) B.fields) (eights form ws (suc (count_in ws)) 1 (omega (arith, B.size))))

        parts : IsBundle form m.n ws → Proper form m.n (main_of form ws) × All (Proper form m.n) (certificate_of form ws)
        unfolding statements
        parts B = propers B

        -- a bundle of the question that a rule backs, in the stage of its step
        fitted : IsBundle form m.n ws → one_question (main_of form ws) (certificate_of form ws) ≡ true → (main_of form ws).question ≡ t.identity.question
            → rule m.n (main_of form ws) (certificate_of form ws) ≡ true → (g : Stage) → step (main_of form ws) ≡ stage_step g
            → Fitting form m.n (state_of form t).question g (main_of form ws) (certificate_of form ws)
        fitted B q e u g there =
            let p = parts B in
            let e' : (main_of form ws).question ≡ (state_of form t).question = e ∙ sym state_question in
            record {
              proper = p.0;
              certificate = p.1;
              asked = e';
              alike = all_map (λ s z. eqb-true _ _ z ∙ e') (certificate_of form ws) (every_out (λ s. eqb s.question (main_of form ws).question) (certificate_of form ws) q);
              in_step = there;
              backed = rule_backed form m.n (main_of form ws) (certificate_of form ws) (formed_out form m.n (main_of form ws) p.0.formed).shape u;
            }

        -- the seven tests, passed
        cleared_by : leb (output_words form) (length out) ≡ true → (module_fits form m && ltb coin 2 && fits form m.n m.station t) ≡ true → not t.closed ≡ true
            → bundle_fits form m.n ws ≡ true → all_verify form (mac m.key) (statements form ws 1 (suc (count_in ws))) ≡ true → Cleared
        cleared_by wide right awake formed verified =
            let a = both (module_fits form m && ltb coin 2) _ right in
            let b = both (module_fits form m) _ a.0 in
            record {
              room = leb-true (output_words form) (length out) wide;
              range = in_range m b.0;
              coin_bit = ltb-true coin 2 b.1;
              fit = a.1;
              still_open = not-true t.closed awake;
              bundle = bundle_out form m.n ws formed;
              codes = every_out (verifies form (mac m.key)) (statements form ws 1 (suc (count_in ws))) verified;
            }

        pub nearly : jumps (state_of form t) (main_of form ws) ≡ false → All (λ x. x.ok ≡ true) ten_tests → Nearly
        unfolding statements
        nearly stays p =
            let T = cleared_by p.0 p.1.0 p.1.1.0 p.1.1.1.0 p.1.1.1.1.1.0 in
            let q = both (one_question (main_of form ws) (certificate_of form ws)) _ p.1.1.1.1.0 in
            record {
              cleared = T;
              fitting = fitted T.bundle q.0 (eqb-true _ _ q.1) p.1.1.1.1.1.1.0 (state_of form t).stage
                  (let lo : stage_step (state_of form t).stage ≤ step (main_of form ws) = leb-true _ _ p.1.1.1.1.1.1.1.0 in
                  let hi : step (main_of form ws) ≤ stage_step (state_of form t).stage = leb-true _ _ (second_of (jumps (state_of form t) (main_of form ws)) _ stays p.1.1.1.1.1.1.1.1.0) in
                  omega arith);
              new = not-true _ (second_of (jumps (state_of form t) (main_of form ws)) _ stays p.1.1.1.1.1.1.1.1.1.0);
            }

        pub accepted : jumps (state_of form t) (main_of form ws) ≡ false → first_failed (give_tests form mac m t ws coin out) ≡ 0 → Accepted
        accepted stays h =
            let p = all_passed (give_tests form mac m t ws coin out)
            (omega arith, (omega arith, (omega arith, (omega arith, (omega arith, (omega arith, (omega arith, (omega arith, (omega arith, (omega arith, (omega arith, tt))))))))))) h in
            let c = p.1.1.1.1.1.1.1.1.1 in
            let N = nearly stays (p.0, (p.1.0, (p.1.1.0, (p.1.1.1.0, (p.1.1.1.1.0, (p.1.1.1.1.1.0, (p.1.1.1.1.1.1.0, (p.1.1.1.1.1.1.1.0, (p.1.1.1.1.1.1.1.1.0, (c.0, tt)))))))))) in
            record {
              cleared = N.cleared;
              fitting = N.fitting;
              new = N.new;
              calm = not-true _ (second_of (jumps (state_of form t) (main_of form ws)) _ stays c.1.0);
            }

        jumping_by : (t.lasting.jump && ltb (stage_step t.stage) (step (main_of form ws))) ≡ true → All (λ x. x.ok ≡ true) (give_tests form mac m t ws coin out) → Jumping
        unfolding statements
        jumping_by both_so p =
            let T = cleared_by p.0 p.1.0 p.1.1.0 p.1.1.1.0 p.1.1.1.1.1.0 in
            let q = both (one_question (main_of form ws) (certificate_of form ws)) _ p.1.1.1.1.0 in
            let j = both t.lasting.jump _ both_so in
            let up : stage_step t.stage < step (main_of form ws) = ltb-true _ _ j.1 in
            record {
              cleared = T;
              fitting = fitted T.bundle q.0 (eqb-true _ _ q.1) p.1.1.1.1.1.1.0 (stage_of (main_of form ws))
                  (stage_of_step form (main_of form ws) (formed_out form m.n (main_of form ws) (parts T.bundle).0.formed).shape (omega arith));
              on = j.0;
              ahead = up;
            }

        pub jumping : jumps (state_of form t) (main_of form ws) ≡ true → first_failed (give_tests form mac m t ws coin out) ≡ 0 → Jumping
        unfolding state_of
        jumping e h =
            jumping_by e (all_passed (give_tests form mac m t ws coin out)
            (omega arith, (omega arith, (omega arith, (omega arith, (omega arith, (omega arith, (omega arith, (omega arith, (omega arith, (omega arith, (omega arith, tt))))))))))) h)

        -- the station as a state, sane; with the bundle, and q statements
        pub sane_before : Accepted → Sane form m.n m.station (state_of form t)
        sane_before A = fits_sane form m.n m.station t A.cleared.range.at_most A.cleared.range.low A.cleared.range.high L A.cleared.fit A.cleared.still_open

        pub full_after : Accepted → length after.held ≡ quorum m.n → Full form m.n after
        full_after A size = full_grown form m.n m.station (state_of form t) (main_of form ws) (certificate_of form ws) (sane_before A) A.fitting A.new A.calm size

        few_after : Accepted → length after.held ≤ quorum m.n
        few_after A = omega (arith, insert_length (main_of form ws) (state_of form t).held, (sane_before A).few)

        ended_view : Accepted → length after.held ≡ quorum m.n
            → Gives (by_module form mac ended m t.identity.question after coin)
        unfolding ended pick state_of
        ended_view A size = go (closes (last_round form) t.stage) refl
          where
            sent_on : closes (last_round form) t.stage ≡ false → (a : Bool) → above (last_for m t.identity.question) t.identity.question (step sent_statement) ≡ a
                → Gives (pick a
                (sends (pick (ltb t.lasting.decision none || eqb lasting_then.decision none) sent sent_decided) sent_statement
                ((follows m.n t.stage after coin).first ++ (follows m.n t.stage after coin).second)
                (began m.n t.identity.question lasting_then (follows m.n t.stage after coin).stage sent_statement
                ((follows m.n t.stage after coin).first ++ (follows m.n t.stage after coin).second)))
                (refused not_above))
            sent_on c true e = goes_on A size c e refl
            sent_on c false e = refuses refl

            go : (b : Bool) → closes (last_round form) t.stage ≡ b
                → Gives (pick b (keeps closed_now (shut after lasting_then))
                (by_module form mac moved m t.identity.question after (follows m.n t.stage after coin) lasting_then))
            go true c = shuts A size c
            go false c = sent_on c (above (last_for m t.identity.question) t.identity.question (step sent_statement)) refl

        taken_view : Accepted
            → Gives (on_bundle form mac taken m t ws coin)
        unfolding taken pick
        taken_view A = go (ltb (length after.held) (quorum m.n)) refl
          where
            go : (b : Bool) → ltb (length after.held) (quorum m.n) ≡ b
                → Gives (pick b (keeps kept after) (by_module form mac ended m t.identity.question after coin))
            go true e = holds_on A (ltb-true _ _ e)
            go false e = ended_view A (omega (arith, ltb-false (length after.held) (quorum m.n) e, few_after A))

        entered_view : Jumping
            → Gives (on_bundle form mac entered m t ws coin)
        unfolding pick state_of
        entered_view J = go (above (last_for m t.identity.question) t.identity.question (step jump_statement)) refl
          where
            go : (a : Bool) → above (last_for m t.identity.question) t.identity.question (step jump_statement) ≡ a
                → Gives (pick a (sends jumped jump_statement (certificate_of form ws)
                (began m.n t.identity.question t.lasting (stage_of (main_of form ws)) jump_statement (certificate_of form ws))) (refused not_above))
            go true e = enters J e
            go false e = refuses refl

        -- what passed the tests makes the station jump, or is taken
        answered_view : first_failed (give_tests form mac m t ws coin out) ≡ 0
            → Gives (on_bundle form mac answered m t ws coin)
        unfolding pick
        answered_view h = go (jumps (state_of form t) (main_of form ws)) refl
          where
            go : (b : Bool) → jumps (state_of form t) (main_of form ws) ≡ b
                → Gives (pick b (on_bundle form mac entered m t ws coin)
                (on_bundle form mac taken m t ws coin))
            go true e = entered_view (jumping e h)
            go false e = taken_view (accepted e h)

        pub gives_view : Gives (giving_outcome form mac m t ws coin out)
        unfolding pick
        gives_view = go (eqb (first_failed (give_tests form mac m t ws coin out)) 0) refl
          where
            go : (b : Bool) → eqb (first_failed (give_tests form mac m t ws coin out)) 0 ≡ b
                → Gives (pick b (on_bundle form mac answered m t ws coin)
                (refused (first_failed (give_tests form mac m t ws coin out))))
            go true e = answered_view (eqb-true _ _ e)
            go false e =
                refuses (failed_one (λ k. unrefused k ≡ false) (give_tests form mac m t ws coin out)
                (refl, (refl, (refl, (refl, (refl, (refl, (refl, (refl, (refl, (refl, (refl, tt))))))))))) (eqb-false _ _ e))

    -- ---- opening
    module _ (m : Module) (question proposal : ℕ) (out : List ℕ) where
      abbrev pub init_statement : Statement
      init_statement = own (statement_code form (mac m.key)) m.station question kind_init proposal d_get 0

    module _ (m : Module) (question proposal jump : ℕ) (out : List ℕ) where
      abbrev s : Statement
      s = init_statement m question proposal out

      pub data Opens : Outcome → Type 0 where
        no_opening : {k : ℕ} → unrefused k ≡ false → Opens (refused k)
        begins : output_words form ≤ length out → InRange m → proposal < 2 → above (last_for m question) question (step s) ≡ true
            → Opens (sends sent s [] (began m.n question (undecided (eqb jump 1)) Gathering s []))

      pub opens_view : Opens (opening_outcome form mac m question proposal jump out)
      unfolding pick
      opens_view = go (eqb (first_failed (open_tests form mac m proposal jump out)) 0) refl
        where
          begun : (a : Bool) → above (last_for m question) question (step s) ≡ a → output_words form ≤ length out → InRange m → proposal < 2
              → Opens (pick a (sends sent s [] (began m.n question (undecided (eqb jump 1)) Gathering s [])) (refused not_above))
          begun true e x y z = begins x y z e
          begun false e x y z = no_opening refl

          go : (b : Bool) → eqb (first_failed (open_tests form mac m proposal jump out)) 0 ≡ b
              → Opens (pick b (by_module form mac opened m question question proposal (eqb jump 1))
              (refused (first_failed (open_tests form mac m proposal jump out))))
          go true e =
              let p = all_passed (open_tests form mac m proposal jump out) (omega arith, (omega arith, tt)) (eqb-true _ _ e) in
              let a = both (module_fits form m) _ (both (module_fits form m && ltb proposal 2) _ p.1.0).0 in
              begun (above (last_for m question) question (step s)) refl (leb-true (output_words form) (length out) p.0) (in_range m a.0) (ltb-true proposal 2 a.1)
          go false e = no_opening (failed_one (λ k. unrefused k ≡ false) (open_tests form mac m proposal jump out) (refl, (refl, tt)) (eqb-false _ _ e))

  -- what passes the tests is answered 0, 22, 20, 21, 23 or 12
  pub answered_number : (mac : List ℕ → List ℕ → List ℕ) (m : Module) (t : Station) (ws : List ℕ) (coin : ℕ) (out : List ℕ) (P : ℕ → Type 0)
      → P kept → P closed_now → P sent → P sent_decided → P jumped → P not_above
      → P (returned form m t out (on_bundle form mac answered m t ws coin)).number
  unfolding returned pick taken ended
  answered_number mac m t ws coin out P p0 p22 p20 p21 p23 p12 = first (jumps (state_of form t) (main_of form ws))
    where
      x : Next
      x = follows m.n (state_of form t).stage (after mac m t ws coin out) coin

      s : Statement
      s = own (statement_code form (mac m.key)) m.station (state_of form t).question x.kind x.value x.flag x.round

      l : Lasting
      l = lasting_at (state_of form t).stage (state_of form t).lasting (after mac m t ws coin out).held

      sent_by : (a b : Bool) → P (returned form m t out (pick a (sends (pick b sent sent_decided) s (x.first ++ x.second)
          (began m.n (state_of form t).question l x.stage s (x.first ++ x.second))) (refused not_above))).number
      sent_by true true = p20
      sent_by true false = p21
      sent_by false b = p12

      ended_by : (c : Bool) → P (returned form m t out (pick c (keeps closed_now (shut (after mac m t ws coin out) l))
          (by_module form mac moved m t.identity.question (after mac m t ws coin out) x l))).number
      ended_by true = p22
      ended_by false = sent_by (above (last_for m t.identity.question) s.question (step s)) (ltb (state_of form t).lasting.decision none || eqb l.decision none)

      by : (b : Bool) → P (returned form m t out (pick b (keeps kept (after mac m t ws coin out)) (by_module form mac ended m t.identity.question (after mac m t ws coin out) coin))).number
      by true = p0
      by false = ended_by (closes (last_round form) (state_of form t).stage)

      u : Statement
      u = own (statement_code form (mac m.key)) m.station (state_of form t).question (main_of form ws).kind (copied_value (main_of form ws) coin) (main_of form ws).flag (main_of form ws).round

      entered_by : (a : Bool) → P (returned form m t out (pick a (sends jumped u (certificate_of form ws)
          (began m.n (state_of form t).question (state_of form t).lasting (stage_of (main_of form ws)) u (certificate_of form ws))) (refused not_above))).number
      entered_by true = p23
      entered_by false = p12

      first : (j : Bool) → P (returned form m t out (pick j
          (on_bundle form mac entered m t ws coin)
          (on_bundle form mac taken m t ws coin))).number
      first true = entered_by (above (last_for m t.identity.question) u.question (step u))
      first false = by (ltb (length (after mac m t ws coin out).held) (quorum m.n))

  pub record Conflicts (mac : List ℕ → List ℕ → List ℕ) (m : Module) (t : Station) (ws : List ℕ) (coin : ℕ) (out : List ℕ) (L : Lengths form t) : Type 0 where
    pub near : Nearly mac m t ws coin out L
    pub clash : conflict (state_of form t).stage (main_of form ws ∷ (state_of form t).held) ≡ true

  pub conflicts : (mac : List ℕ → List ℕ → List ℕ) (m : Module) (t : Station) (ws : List ℕ) (coin : ℕ) (out : List ℕ) (L : Lengths form t)
      → (giving form mac m t ws coin out).number ≡ conflicting → Conflicts mac m t ws coin out L
  unfolding giving returned pick
  conflicts mac m t ws coin out L e = go (eqb (first_failed (give_tests form mac m t ws coin out)) 0) refl e
    where
      from_tests : first_failed (give_tests form mac m t ws coin out) ≡ conflicting → Conflicts mac m t ws coin out L
      from_tests h =
          let p = passed_until (ten_tests mac m t ws coin out L) (jumps (state_of form t) (main_of form ws) || not (conflict (state_of form t).stage (main_of form ws ∷ (state_of form t).held))) conflicting (omega arith)
          ((λ z. omega arith), ((λ z. omega arith), ((λ z. omega arith), ((λ z. omega arith), ((λ z. omega arith), ((λ z. omega arith), ((λ z. omega arith), ((λ z. omega arith), ((λ z. omega arith), ((λ z. omega arith), tt)))))))))) h in
          let f = neither (jumps (state_of form t) (main_of form ws)) _ p.1 in
          record { near = nearly mac m t ws coin out L f.0 p.0; clash = not-false _ f.1 }

      go : (b : Bool) → eqb (first_failed (give_tests form mac m t ws coin out)) 0 ≡ b
          → (returned form m t out (pick b (on_bundle form mac answered m t ws coin)
          (refused (first_failed (give_tests form mac m t ws coin out))))).number ≡ conflicting → Conflicts mac m t ws coin out L
      go true q z =
          absurd (answered_number mac m t ws coin out (λ k. k ≡ conflicting → ⊥) (λ e. omega arith) (λ e. omega arith) (λ e. omega arith) (λ e. omega arith) (λ e. omega arith) (λ e. omega arith) z)
      go false q z = from_tests z
