-- A bundle is heard by a waiting station: what a site wrote for the station's step, and is not held yet, is kept or ends the step; and with jump on, what a site
-- wrote for a later step makes it jump. No refusal is left over.
use Rattle.std.specs.Prelude.{◌≡◌, Bool, ◌&&◌, ◌||◌, ℕ, suc, ◌≤◌, ◌<◌, eqb, ltb, leb, length}
use Rattle.std.proofs.Math.Path.{refl, sym, subst}
use Rattle.std.proofs.Common.{◌∙◌, ap}
use Rattle.std.proofs.Math.Bool.{true, false, not}
use mathlib.Core.List.{List, [], ◌∷◌, ◌++◌}
use native.Mathlib.Omega.{arith}
use Rattle.std.proofs.lemmas.List.{length-replicate}
use borrow.Author.Tests.{eq-eqb, ne_eqb, ltb-true, lt-ltb, le-leb}
use Rattle.laws.specs.Pick.{pick, not_t}
use Rattle.laws.specs.Bools.{never, both, join, left, right, is_false}
use Rattle.laws.specs.All.{All, all_append}
use Rattle.laws.specs.Refusals.{Test, test, first_failed, all_passed, none_failed, passed_front}
use Rattle.format.specs.Form.{present_form}
use Rattle.format.specs.Numbers.{none, kept, sent, sent_decided, closed_now, jumped, conflicting, not_above}
use Rattle.format.specs.Group.{quorum}
use Rattle.format.specs.Words.{of_group}
use Rattle.format.specs.Statement.{Statement, step}
use Rattle.format.specs.Bundle.{count_in}
use Rattle.format.specs.Present.{output_words, last_round, most_stations, size_fits, statements, main_of, certificate_of, bundle_fits}
use Rattle.rules.specs.declared.Which.TheVariants.{Any, Only}
use Rattle.rules.specs.Test.{rule}
use Rattle.certificate.specs.Check.{one_question}
use Rattle.certificate.specs.Present.{all_verify, bundle_tests, check_tests}
use Rattle.modules.specs.declared.Last.{Last}
use Rattle.modules.specs.declared.Module.{Module}
use Rattle.modules.specs.Counter.{above, pair, last_for}
use Rattle.modules.proofs.Theorems.Above.{above_in, later_step}
use Rattle.modules.specs.Present.{module_fits}
use Rattle.station.specs.declared.Station.{Station}
use Rattle.station.specs.Machine.{Next, refused, keeps, sends, began, shut, stage_of, jumps, moved, ended, taken, follows, closes, lasting_at, held_of, conflict, stage_step, place_tests, step_tests}
use Rattle.station.specs.Returns.{unrefused}
use Rattle.station.specs.Demand.{by_opening, by_giving, OfGroup}
use Rattle.station.proofs.Theorems.Written.{reached_good}
use Rattle.station.proofs.Laws.Fits.{opening_fits, giving_fits}
use Rattle.station.proofs.Laws.Sane.{Sane}
use Rattle.station.proofs.Laws.FitSane.{fits_sane}
use Rattle.station.proofs.Laws.Views.{after, sent_statement, jump_statement, ten_tests}
use Rattle.station.specs.Present.{state_of, fits, returned, opening, giving, station_tests, give_tests, Lengths, Reached, by_module}
use Rattle.station.specs.declared.Lasting.{Lasting}
use Rattle.agreement.proofs.Maths.Taking.{steps_up}
use Rattle.agreement.proofs.Laws.Ground.{Ground}
use Rattle.agreement.proofs.Laws.Lists.{same_line}
use Rattle.agreement.proofs.Theorems.Theorem.{claim, at, in_group, rest, rest_i, rest_sound}
use Rattle.agreement.specs.Demand.{Call, call, gives, Lineage}
use Rattle.agreement.specs.Present.{modules, answer, lineage, Presents, Sound}
use Rattle.never_stuck.specs.Claim.{room, Waits}
use Rattle.never_stuck.proofs.Laws.Spoken.{Premises, Spoke}
use Rattle.never_stuck.proofs.Laws.Steps.{next_step}
use Rattle.never_stuck.proofs.Laws.Course.{Up}
use Rattle.never_stuck.proofs.Laws.Courses.{course}

module _ (mac : List ℕ → List ℕ → List ℕ) (m : Module) (t : Station) (ws : List ℕ) (coin : ℕ) (out : List ℕ) (L : Lengths t) where
  -- where ten tests have passed and the next is refused, that is by 10
  clash_ten : jumps (state_of t) (main_of ws) ≡ false → All (λ x. x.ok ≡ true) (ten_tests present_form mac m t ws coin out L) → conflict (state_of t).stage (main_of ws ∷ (state_of t).held) ≡ true
      → (giving mac m t ws coin out).number ≡ conflicting
  unfolding Rattle.station.specs.Calls.giving Rattle.station.specs.Calls.returned pick first_failed
  clash_ten here p c =
      let f : first_failed (give_tests mac m t ws coin out) ≡ conflicting
      = passed_front (ten_tests present_form mac m t ws coin out L) (test (jumps (state_of t) (main_of ws) || not (conflict (state_of t).stage (main_of ws ∷ (state_of t).held))) conflicting ∷ []) p ∙ rw (here, c) in
      rw (ne_eqb (first_failed (give_tests mac m t ws coin out)) 0 (λ z. omega arith)) f

  -- where all tests have passed and the module stands at the station's step, nothing is refused
  taken_heard : jumps (state_of t) (main_of ws) ≡ false → first_failed (give_tests mac m t ws coin out) ≡ 0 → last_for m t.identity.question ≡ pair t.identity.question (stage_step t.stage)
      → unrefused (giving mac m t ws coin out).number ≡ true
  unfolding Rattle.station.specs.Calls.giving Rattle.station.specs.Calls.returned pick taken ended Rattle.station.specs.Words.state_of step
  taken_heard here pass stands = rw (eq-eqb (first_failed (give_tests mac m t ws coin out)) 0 pass, here) (by (ltb (length (after present_form mac m t ws coin out).held) (quorum m.n)))
    where
      x : Next
      x = follows m.n t.stage (after present_form mac m t ws coin out) coin

      s : Statement
      s = sent_statement present_form mac m t ws coin out

      l : Lasting
      l = lasting_at t.stage t.lasting (after present_form mac m t ws coin out).held

      up : above (last_for m t.identity.question) t.identity.question (step s) ≡ true
      up =
          let higher : stage_step t.stage < step s
          = subst (λ (z : ℕ). stage_step t.stage < z) (sym (next_step m.n t.stage (after present_form mac m t ws coin out) coin)) (steps_up m.n t.stage (after present_form mac m t ws coin out) coin) in
          subst (λ (l : Last). above l t.identity.question (step s) ≡ true) (sym stands) (above_in (pair t.identity.question (stage_step t.stage)) t.identity.question (step s) (later_step refl higher))

      sent_by : (a b : Bool) → a ≡ true
          → unrefused (returned m t out (pick a (sends (pick b sent sent_decided) s (x.first ++ x.second) (began m.n t.identity.question l x.stage s (x.first ++ x.second))) (refused not_above))).number ≡ true
      sent_by true true e = refl
      sent_by true false e = refl
      sent_by false b e = never false refl e

      ended_by : (c : Bool) → unrefused (returned m t out (pick c (keeps closed_now (shut (after present_form mac m t ws coin out) l))
          (by_module mac moved m t.identity.question (after present_form mac m t ws coin out) x l))).number ≡ true
      ended_by true = refl
      ended_by false = sent_by (above (last_for m t.identity.question) t.identity.question (step s)) (ltb t.lasting.decision none || eqb l.decision none) up

      by : (b : Bool) → unrefused (returned m t out (pick b (keeps kept (after present_form mac m t ws coin out))
          (by_module mac ended m t.identity.question (after present_form mac m t ws coin out) coin))).number ≡ true
      by true = refl
      by false = ended_by (closes last_round t.stage)

module _ (G : Ground present_form) where
  open G use {mac, eight, key, n, low, top}

  -- a station made by opening and changed only by these calls fits
  reached_fits : (i : ℕ) (t : Station) → Reached mac key n i t → fits n i t ≡ true
  reached_fits i _ (by_opening m question v jump out mine u) =
      subst (λ (z : ℕ). fits n z (opening mac m question v jump out).station ≡ true) mine.same_site
      (subst (λ (z : ℕ). fits z m.station (opening mac m question v jump out).station ≡ true) mine.same_n (opening_fits present_form mac eight m question v jump out u))
  reached_fits i _ (by_giving {t} r m ws coin out mine u) =
      subst (λ (z : ℕ). fits n z (giving mac m t ws coin out).station ≡ true) mine.same_site
      (subst (λ (z : ℕ). fits z m.station (giving mac m t ws coin out).station ≡ true) mine.same_n (giving_fits present_form mac eight m t ws coin out (reached_good present_form mac key n eight i t r).lengths u))

  module _ (cs : List Call) (P : Premises G cs) where
    -- what is known of a sound site's station
    pub up_of : (x k : ℕ) (t : Station) → Sound mac key n x cs → Presents mac key n cs x k t → Up G cs x t
    up_of x k t s p =
        let r = in_group present_form G cs P.given x k p.line p.is in
        subst (λ (z : Station). Up G cs x z) p.now
        ((course G (rest present_form G cs P.given P.few x x) cs P.given (rest_sound present_form G cs P.given P.few x x s s) x r.0 r.1
        (rest_i present_form G cs P.given P.few x x)).up k p.line p.is)

    -- a waiting station is sane
    pub sane_of : (q x k : ℕ) (t : Station) → Waits mac key n cs q x k t → Sane present_form n x (state_of t)
    sane_of q x k t w =
        let p = w.presents in
        let r = in_group present_form G cs P.given x k p.line p.is in
        let u = up_of x k t w.sound p in
        fits_sane present_form n x t top r.0 r.1 (reached_good present_form mac key n eight x t u.reached).lengths (reached_fits x t u.reached) w.still_open

    -- a sound site has one station on a question
    pub same_waiting : (q x k o : ℕ) (t u : Station) → Waits mac key n cs q x k t → Waits mac key n cs q x o u → t ≡ u
    same_waiting q x k o t u a b =
        let p = a.presents in
        let p' = b.presents in
        let r = in_group present_form G cs P.given x k p.line p.is in
        let W = course G (rest present_form G cs P.given P.few x x) cs P.given (rest_sound present_form G cs P.given P.few x x a.sound a.sound) x
        r.0 r.1 (rest_i present_form G cs P.given P.few x x) in
        let e : k ≡ o = W.unique k o p.line p'.line p.is p'.is
        (ap (λ (z : Station). z.identity.question) p.now ∙ a.asked ∙ sym (ap (λ (z : Station). z.identity.question) p'.now ∙ b.asked)) in
        sym p.now ∙ ap (λ (z : Lineage). z.present) (same_line p.line p'.line (sym p.is ∙ ap (lineage mac key n cs x) e ∙ p'.is)) ∙ p'.now

    -- what a site wrote for a step, given to a waiting station
    module _ (q x k : ℕ) (t : Station) (W : Waits mac key n cs q x k t) (y σ : ℕ) (ws : List ℕ) (sp : Spoke G cs y q σ ws) (coin : ℕ) (bit : coin < 2) where
      abbrev m : Module
      m = modules mac key n cs x

      range_x : (1 ≤ x) × (x ≤ n)
      range_x = in_group present_form G cs P.given x k W.presents.line W.presents.is

      mine : OfGroup key n x m
      mine = (at present_form G cs P.given P.few x x W.sound W.sound).logs.mods x range_x.0 range_x.1

      up_t : Up G cs x t
      up_t = up_of x k t W.sound W.presents

      len : Lengths t
      len = (reached_good present_form mac key n eight x t up_t.reached).lengths

      -- the module stands at the station's step
      stands : last_for m t.identity.question ≡ pair t.identity.question (stage_step t.stage)
      stands = up_t.in_time W.still_open (W.not_gone_on ∙ sym W.asked)

      ranged : (module_fits m && ltb coin 2 && fits m.n m.station t) ≡ true
      ranged =
          subst (λ (z : ℕ). ((size_fits z && of_group z m.station) && ltb coin 2 && fits z m.station t) ≡ true) (sym mine.same_n)
          (subst (λ (y : ℕ). ((size_fits n && of_group n y) && ltb coin 2 && fits n y t) ≡ true) (sym mine.same_site)
          (join ((size_fits n && of_group n x) && ltb coin 2) _
          (join (size_fits n && of_group n x) _
          (join (size_fits n) _ (join (leb 2 n) _ (le-leb 2 n low) (le-leb n most_stations top)) (join (leb 1 x) _ (le-leb 1 x range_x.0) (le-leb x n range_x.1)))
          (lt-ltb coin 2 bit)) (reached_fits x t up_t.reached)))

      ready : All (λ z. z.ok ≡ true) (station_tests m t coin room)
      ready = (le-leb output_words (length room) (omega (arith, length-replicate {A = ℕ} output_words 0)), (ranged, (not_t t.closed W.still_open, tt)))

      pub valid_here : All (λ z. z.ok ≡ true) (bundle_tests (mac m.key) m.n (Only t.identity.question) ws)
      unfolding Rattle.certificate.specs.Check.check_by
      valid_here =
          let ok = all_passed (check_tests (mac key) n Any ws) (omega arith, (omega arith, (omega arith, (omega arith, (omega arith, tt))))) sp.valid in (
            subst (λ (z : ℕ). bundle_fits z ws ≡ true) (sym mine.same_n) ok.1.0,
            (
              join (one_question (main_of ws) (certificate_of ws)) _ (both (one_question (main_of ws) (certificate_of ws)) true ok.1.1.0).0
                  (eq-eqb (main_of ws).question t.identity.question (sp.asked ∙ sym W.asked)),
              (
                subst (λ (z : List ℕ). all_verify (mac z) (statements ws 1 (suc (count_in ws))) ≡ true) (sym mine.same_key) ok.1.1.1.0,
                (subst (λ (z : ℕ). rule z (main_of ws) (certificate_of ws) ≡ true) (sym mine.same_n) ok.1.1.1.1.0, tt),
              ),
            ),
          )

      -- of the station's own step, and of a site that is not held: it is heard
      module _ (there : σ ≡ stage_step t.stage) (new : held_of y (state_of t).held ≡ false) where
        here : jumps (state_of t) (main_of ws) ≡ false
        unfolding Rattle.station.specs.Words.state_of
        here = is_false _ (λ h. let z : stage_step t.stage < step (main_of ws) = ltb-true _ _ (both t.lasting.jump _ h).1 in omega (arith, sp.in_step))

        passes_9 : All (λ z. z.ok ≡ true) (place_tests (state_of t) (main_of ws))
        unfolding Rattle.station.specs.Words.state_of
        passes_9 = (
          le-leb (stage_step t.stage) (step (main_of ws)) (omega (arith, sp.in_step)),
          (
            right (jumps (state_of t) (main_of ws)) _ (le-leb (step (main_of ws)) (stage_step t.stage) (omega (arith, sp.in_step))),
            (right (jumps (state_of t) (main_of ws)) _ (not_t (held_of (main_of ws).station (state_of t).held) (subst (λ (z : ℕ). held_of z (state_of t).held ≡ false) (sym sp.station) new)), tt),
          ),
        )

        ten : All (λ z. z.ok ≡ true) (ten_tests present_form mac m t ws coin room len)
        ten =
            all_append (λ (z : Test). z.ok ≡ true) (station_tests m t coin room)
            (bundle_tests (mac m.key) m.n (Only t.identity.question) ws ++ place_tests (state_of t) (main_of ws)) ready
            (all_append (λ (z : Test). z.ok ≡ true) (bundle_tests (mac m.key) m.n (Only t.identity.question) ws) (place_tests (state_of t) (main_of ws)) valid_here passes_9)

        pub heard : unrefused (answer mac key n cs (call x (gives k t ws coin room))).number ≡ true
        unfolding Rattle.agreement.specs.Demand.act Rattle.station.specs.Words.state_of
        heard = go (conflict t.stage (main_of ws ∷ (state_of t).held)) refl
          where
            go : (b : Bool) → conflict t.stage (main_of ws ∷ (state_of t).held) ≡ b → unrefused (giving mac m t ws coin room).number ≡ true
            go true e =
                absurd ((claim present_form G cs P.given P.few).no_conflict x k t ws coin room W.sound W.presents sp.came (clash_ten mac m t ws coin room len here ten e))
            go false e =
                taken_heard mac m t ws coin room len here
                (none_failed (give_tests mac m t ws coin room)
                (all_append (λ (z : Test). z.ok ≡ true) (ten_tests present_form mac m t ws coin room len)
                (test (jumps (state_of t) (main_of ws) || not (conflict t.stage (main_of ws ∷ (state_of t).held))) conflicting ∷ []) ten (right (jumps (state_of t) (main_of ws)) _ (not_t _ e), tt))) stands

      -- of a later step, where the station jumps: it jumps
      module _ (on : t.lasting.jump ≡ true) (later : stage_step t.stage < σ) where
        jumping : jumps (state_of t) (main_of ws) ≡ true
        unfolding Rattle.station.specs.Words.state_of
        jumping = join t.lasting.jump _ on (lt-ltb (stage_step t.stage) (step (main_of ws)) (omega (arith, sp.in_step)))

        all_tests : first_failed (give_tests mac m t ws coin room) ≡ 0
        unfolding Rattle.station.specs.Words.state_of
        all_tests =
            none_failed (give_tests mac m t ws coin room)
            (all_append (λ (z : Test). z.ok ≡ true) (station_tests m t coin room)
            (bundle_tests (mac m.key) m.n (Only t.identity.question) ws ++ step_tests (state_of t) (main_of ws)) ready
            (all_append (λ (z : Test). z.ok ≡ true) (bundle_tests (mac m.key) m.n (Only t.identity.question) ws) (step_tests (state_of t) (main_of ws)) valid_here (
              le-leb (stage_step t.stage) (step (main_of ws)) (omega (arith, sp.in_step)),
              (left (jumps (state_of t) (main_of ws)) _ jumping, (left (jumps (state_of t) (main_of ws)) _ jumping, (left (jumps (state_of t) (main_of ws)) _ jumping, tt))),
            )))

        pub jump_heard : unrefused (answer mac key n cs (call x (gives k t ws coin room))).number ≡ true
        unfolding Rattle.agreement.specs.Demand.act Rattle.station.specs.Calls.giving Rattle.station.specs.Calls.returned pick Rattle.station.specs.Words.state_of step
        jump_heard = rw (eq-eqb (first_failed (give_tests mac m t ws coin room)) 0 all_tests, jumping) (by (above (last_for m t.identity.question) t.identity.question (step s)) up)
          where
            s : Statement
            s = jump_statement present_form mac m t ws coin room

            up : above (last_for m t.identity.question) t.identity.question (step s) ≡ true
            up =
                subst (λ (l : Last). above l t.identity.question (step (main_of ws)) ≡ true) (sym stands)
                (above_in (pair t.identity.question (stage_step t.stage)) t.identity.question (step (main_of ws)) (later_step refl (omega (arith, sp.in_step))))

            by : (a : Bool) → a ≡ true
                → unrefused (returned m t room (pick a (sends jumped s (certificate_of ws)
                (began m.n t.identity.question t.lasting (stage_of (main_of ws)) s (certificate_of ws))) (refused not_above))).number ≡ true
            by true e = refl
            by false e = never false refl e
