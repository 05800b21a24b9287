-- An opening at a sound site: the station that it makes has written the bundle of step 0, the module's last pair is that step's, and the site's other stations are
-- on earlier questions.
use Rattle.std.specs.Prelude.{◌≡◌, Bool, true, ◌&&◌, ℕ, ◌<◌}
use Rattle.std.proofs.Math.Path.{refl, ap}
use Rattle.std.proofs.Common.{sym, ◌∙◌, subst, arith, eq-eqb}
use mathlib.Core.List.{List, [], ◌∷◌}
use Rattle.std.proofs.Math.Dec.{eqb}
use Rattle.laws.specs.Pick.{pick}
use Rattle.laws.specs.Bools.{never, join}
use Rattle.format.specs.Form.{present_form}
use Rattle.format.specs.Numbers.{kind_init, d_get, sent}
use Rattle.format.specs.Statement.{Statement, step}
use Rattle.format.proofs.Laws.Shape.{init}
use Rattle.format.proofs.Laws.ReadBack.{Proper}
use Rattle.rules.specs.declared.Which.TheVariants.{Any}
use Rattle.certificate.specs.Present.{check_by}
use Rattle.modules.specs.declared.Last.{Last}
use Rattle.modules.specs.declared.Module.{Module}
use Rattle.modules.specs.Counter.{above, pair, last_for}
use Rattle.modules.proofs.Theorems.Above.{Above, first, later_question, later_step, above_out}
use Rattle.station.specs.declared.Stage.TheVariants.{Gathering}
use Rattle.station.specs.declared.Station.{Station}
use Rattle.station.specs.Machine.{State, Outcome, sends, began, stage_step, undecided}
use Rattle.station.specs.Present as W
use Rattle.station.specs.Calls.{Returned}
use Rattle.station.specs.Returns.{unrefused, wrote}
use Rattle.station.specs.Demand.{message, by_opening}
use Rattle.station.proofs.Theorems.Written.{opening_written}
use Rattle.station.proofs.Laws.Sane.{state_back}
use Rattle.station.proofs.Laws.Keep.{steps_0}
use Rattle.station.proofs.Laws.Fits.{own_proper, init_sane}
use Rattle.station.proofs.Laws.Views.{InRange, init_statement, Opens, no_opening, begins, opens_view}
use Rattle.station.specs.Present.{state_of, returned, opening, opening_outcome, no_station, Reached}
use Rattle.agreement.proofs.Maths.Just.{Coded}
use Rattle.agreement.proofs.Laws.Ground.{Ground}
use Rattle.agreement.proofs.Laws.Line.{Line, reads}
use Rattle.agreement.proofs.Laws.Lists.{module_now}
use Rattle.agreement.proofs.Laws.Run.{Inv}
use Rattle.agreement.specs.Demand.{opens, Call, call, Lineage, found}
use Rattle.agreement.specs.Present.{written_main, started, modules, answer, log, openings, lineage}
use Rattle.never_stuck.proofs.Laws.Spoken.{Spoke}
use Rattle.never_stuck.proofs.Laws.Course.{Up, Course, up_past, whose, renewed, main_written, written_spoke, held_coded, held_single}
use Rattle.never_stuck.proofs.Laws.SoundSite.{SoundSite, module_of, in_group, module_is, refused_course}

module _ (G : Ground present_form) where
  open G use {mac, eight, key, n, top}

  module _ (faulty : List ℕ) (cs : List Call) (i : ℕ) (site : SoundSite G faulty cs i) where
    open site use {low, high, sound, course_of}

    abbrev its_module : Module
    its_module = module_of G cs i

    module _ (q v setting : ℕ) (out : List ℕ) (inv_then : Inv present_form G faulty (call i (opens q v setting out) ∷ cs)) where
      abbrev the_call : Call
      the_call = call i (opens q v setting out)

      opening_is : answer mac key n cs the_call ≡ opening mac its_module q v setting out
      unfolding Rattle.agreement.specs.Demand.act
      opening_is = ap (λ (z : Module). opening mac z q v setting out) (module_is G faulty cs i site)

      outcome_is : answer mac key n cs the_call ≡ returned its_module no_station out (opening_outcome mac its_module q v setting out)
      unfolding Rattle.station.specs.Calls.opening
      outcome_is = opening_is

      module _ (r : InRange present_form its_module) (p : v < 2) (a : above (last_for its_module q) q (step (init_statement present_form mac its_module q v out)) ≡ true) where
        abbrev main : Statement
        main = init_statement present_form mac its_module q v out

        abbrev new_state : State
        new_state = began n q (undecided (eqb setting 1)) Gathering main []

        abbrev new_station : Station
        new_station = W.as_station n i new_state

        main_step : step main ≡ 0
        unfolding step
        main_step = steps_0 kind_init 0 refl

        -- the questions of the stations before are lower
        lower : (k : ℕ) (line : Lineage) → lineage mac key n cs i k ≡ found line → line.present.identity.question < q
        lower k line e = by (course_of.up k line e) (above_out (last_for its_module q) q (step main) a)
          where
            by : Up G cs i line.present → Above (last_for its_module q) q (step main) → line.present.identity.question < q
            by u (first x) = never (modules mac key n cs i).last.coded x u.has_coded
            by u (later_question x) = omega (arith, u.behind)
            by u (later_step x y) = absurd (omega (arith, main_step))

        module _ (e : answer mac key n cs the_call ≡ returned its_module no_station out (sends sent main [] new_state)) where
          not_refused : unrefused (answer mac key n cs the_call).number ≡ true
          unfolding Rattle.station.specs.Calls.returned
          not_refused = ap (λ (r : Returned). unrefused r.number) e

          has_written : wrote (answer mac key n cs the_call).number ≡ true
          unfolding Rattle.station.specs.Calls.returned
          has_written = ap (λ (r : Returned). wrote r.number) e

          last_is : last_for (modules mac key n (the_call ∷ cs) i) q ≡ pair q 0
          unfolding Rattle.station.specs.Calls.returned
          last_is = ap (λ (z : Module). last_for z q) (module_now present_form mac key n the_call cs ∙ ap (λ (r : Returned). r.after) e) ∙ ap (λ (z : ℕ). pair q z) main_step

          station_is : (answer mac key n cs the_call).station ≡ new_station
          unfolding Rattle.station.specs.Calls.returned
          station_is = ap (λ (r : Returned). r.station) e

          there : (k : ℕ) → lineage mac key n (the_call ∷ cs) i k ≡ pick (eqb (openings mac key n cs i) k) (started (answer mac key n cs the_call)) (lineage mac key n cs i k)
          unfolding Rattle.agreement.specs.Demand.lineage
          there k = ap (λ (b : Bool). pick (b && eqb (openings mac key n cs i) k) (started (answer mac key n cs the_call)) (lineage mac key n cs i k)) (join (eqb i i) _ (eq-eqb i i refl) not_refused)

          new_line : Lineage
          new_line = record { present = (answer mac key n cs the_call).station; took = written_main (answer mac key n cs the_call) }

          is_new : lineage mac key n (the_call ∷ cs) i (openings mac key n cs i) ≡ found new_line
          unfolding pick new_line
          is_new = there (openings mac key n cs i) ∙ ap (λ (b : Bool). pick b (started (answer mac key n cs the_call)) (lineage mac key n cs i (openings mac key n cs i))) (eq-eqb (openings mac key n cs i) (openings mac key n cs i) refl)

          new_reached : Reached mac key n i new_station
          new_reached = subst (λ (z : Station). Reached mac key n i z) (sym (ap (λ (r : Returned). r.station) opening_is) ∙ station_is)
              (by_opening its_module q v setting out (in_group G cs i) (sym (ap (λ (r : Returned). unrefused r.number) opening_is) ∙ not_refused))

          state_is : state_of new_station ≡ new_state
          state_is = state_back present_form n i new_state top low high (init_sane present_form mac eight its_module q v (eqb setting 1) r p)

          valid : check_by (mac key) n Any (message (answer mac key n cs the_call)) ≡ 0
          valid = ap (λ (z : Returned). check_by (mac key) n Any (message z)) opening_is
              ∙ opening_written present_form mac key n eight i its_module q v setting out (in_group G cs i) (sym (ap (λ (z : Returned). wrote z.number) opening_is) ∙ has_written)

          main_coded : Coded n (reads present_form (log mac key n (the_call ∷ cs))) main
          unfolding Rattle.station.specs.Words.as_station new_line
          main_coded =
              held_coded G (reads present_form (log mac key n (the_call ∷ cs))) i new_station new_line.took new_state main
              (subst (λ (z : Station). Line present_form n (reads present_form (log mac key n (the_call ∷ cs))) i z new_line.took) station_is (inv_then.lines i (openings mac key n cs i) new_line low high sound is_new)) refl state_is refl

          proper : Proper present_form n main
          proper = own_proper present_form mac eight its_module q kind_init v d_get 0 r (init refl refl p refl)

          spoken : (s : ℕ) → s ≡ 0 → Spoke G (the_call ∷ cs) i q s (message (answer mac key n cs the_call))
          spoken s z = written_spoke G faulty the_call cs inv_then its_module no_station out sent main [] new_state e refl proper tt (omega arith) valid main_coded tt i q s refl refl refl (main_step ∙ sym z)

          up_new : Up G (the_call ∷ cs) i new_station
          unfolding Rattle.station.specs.Words.as_station
          up_new =
              record {
                reached = new_reached;
                told = λ o j s x y. record { words = message (answer mac key n cs the_call); spoke = spoken s (omega (arith, steps_0 kind_init 0 refl)); passes = refl };
                latest = λ x. record {
                  words = message (answer mac key n cs the_call);
                  spoke = spoken (stage_step Gathering) (steps_0 kind_init 0 refl);
                  held = λ ok all. ap ok (main_written G faulty the_call cs inv_then its_module no_station out sent main [] new_state e refl proper tt (omega arith) valid main_coded tt)
                      ∙ held_single G new_station new_state main state_is refl ok all;
                };
                has_coded = ap (λ (z : Last). z.coded) last_is;
                behind = omega (arith, ap (λ (z : Last). z.question) last_is);
                in_time = λ x y. last_is ∙ ap (λ (z : ℕ). pair q z) (sym (steps_0 kind_init 0 refl));
              }

          asked_is : new_station.identity.question ≡ q
          unfolding Rattle.station.specs.Words.as_station
          asked_is = refl

          opened_course : Course G (the_call ∷ cs) i
          unfolding new_line
          opened_course =
              renewed G the_call cs i (openings mac key n cs i) new_station course_of
              (λ o l f. whose G the_call cs i (openings mac key n cs i) new_station (λ z. started (answer mac key n cs the_call)) new_line refl station_is o l (sym (there o) ∙ f)) up_new
              (λ o l x f. up_past G the_call cs i l.present q 0 last_is (omega (arith, lower o l f)) (λ z. omega (arith, lower o l f)) (course_of.up o l f))
              (λ o l x f z. omega (arith, lower o l f, asked_is))

      pub open_course : Course G (the_call ∷ cs) i
      open_course = go (opening_outcome mac its_module q v setting out) refl (opens_view present_form mac its_module q v setting out)
        where
          go : (o : Outcome) → opening_outcome mac its_module q v setting out ≡ o → Opens present_form mac its_module q v setting out o → Course G (the_call ∷ cs) i
          go _ e (no_opening {k} z) = refused_course G faulty cs i site (opens q v setting out) no_station out k z (outcome_is ∙ ap (returned its_module no_station out) e)
          go _ e (begins room r p a) = opened_course r p a (outcome_is ∙ ap (returned its_module no_station out) e)
