-- A giving at a sound site that writes a bundle of a later step: the station is then in that step, has written its bundle, and the module's last pair is that
-- step's. Each end of a step and each jump is one.
use Rattle.std.specs.Prelude.{◌≡◌, true, ◌⊎◌, List, ◌∷◌, ℕ, ◌≤◌, length}
use Rattle.std.proofs.Math.Path.{refl, sym, ap, subst}
use Rattle.std.proofs.Common.{◌∙◌, inl, inr, arith}
use Rattle.std.proofs.Math.Bool.{false}
use Rattle.laws.specs.Bools.{never}
use Rattle.laws.specs.All.{All}
use Rattle.format.specs.Form.{present_form}
use Rattle.format.specs.Statement.{Statement, step}
use Rattle.format.proofs.Laws.ReadBack.{Proper}
use Rattle.format.specs.Present.{most_statements}
use Rattle.rules.specs.declared.Which.TheVariants.{Any}
use Rattle.certificate.specs.Present.{check_by}
use Rattle.modules.specs.declared.Last.{Last}
use Rattle.modules.specs.declared.Module.{Module}
use Rattle.modules.specs.Counter.{above, pair, last_for}
use Rattle.modules.proofs.Theorems.Above.{Above, first, later_question, later_step, above_out}
use Rattle.station.specs.declared.Stage.{Stage}
use Rattle.station.specs.declared.Station.{Station}
use Rattle.station.specs.Machine.{State, sends, began, stage_step}
use Rattle.station.specs.Present as W
use Rattle.station.specs.Calls.{Returned}
use Rattle.station.specs.Returns.{unrefused, wrote}
use Rattle.station.specs.Demand.{message}
use Rattle.station.proofs.Theorems.Written.{giving_written}
use Rattle.station.proofs.Laws.Sane.{Sane, state_back}
use Rattle.station.specs.Present.{state_of, returned, Reached}
use Rattle.station.specs.declared.Lasting.{Lasting}
use Rattle.agreement.proofs.Maths.Just.{Coded}
use Rattle.agreement.proofs.Laws.Ground.{Ground}
use Rattle.agreement.proofs.Laws.Line.{Line, reads}
use Rattle.agreement.proofs.Laws.Lists.{module_now}
use Rattle.agreement.proofs.Laws.Run.{Inv}
use Rattle.agreement.specs.Demand.{gives, Call, call}
use Rattle.agreement.specs.Present.{modules, answer, log, Presents}
use Rattle.never_stuck.proofs.Laws.Spoken.{Spoke, Said, said_later}
use Rattle.never_stuck.proofs.Laws.Steps.{any}
use Rattle.never_stuck.proofs.Laws.Course.{Up, Course, up_past, main_written, written_spoke, held_coded, held_single}
use Rattle.never_stuck.proofs.Laws.SoundSite.{SoundSite, module_of, in_group}
use Rattle.never_stuck.proofs.Laws.GivenStation.{giving_is, up_given, presented_then, apart, reached_then, given_course}

module _ (G : Ground present_form) where
  open G use {mac, eight, key, n, top}

  module _ (faulty : List ℕ) (cs : List Call) (i : ℕ) (site : SoundSite G faulty cs i) (o : ℕ) (t : Station) (ws : List ℕ) (coin : ℕ) (out : List ℕ) where
    open site use {low, high, sound, course_of}

    abbrev its_module : Module
    its_module = module_of G cs i

    abbrev the_call : Call
    the_call = call i (gives o t ws coin out)

    abbrev question : ℕ
    question = t.identity.question

    module _ (inv_then : Inv present_form G faulty (the_call ∷ cs)) (not_refused : unrefused (answer mac key n cs the_call).number ≡ true) (presented : Presents mac key n cs i o t) where
      was_up : Up G cs i t
      was_up = up_given G faulty cs i site o t ws coin out not_refused presented

      presents_then : Presents mac key n (the_call ∷ cs) i o (answer mac key n cs the_call).station
      presents_then = presented_then G faulty cs i site o t ws coin out not_refused presented

      -- the bundle and the state that it leaves the station in: its step has ended, or it has jumped
      module _ (k : ℕ) (main : Statement) (certificate : List Statement) (stage : Stage) (lasting : Lasting) (main_own : main.station ≡ i) (main_asked : main.question ≡ question)
          (main_step : step main ≡ stage_step stage) (is_above : above (last_for its_module question) question (step main) ≡ true) (writes : wrote k ≡ true)
          (main_proper : Proper present_form n main) (certificate_proper : All (Proper present_form n) certificate) (certificate_few : length certificate ≤ most_statements)
          (certificate_coded : All (Coded n (reads present_form (log mac key n cs))) certificate) (new_sane : Sane present_form n i (began n question lasting stage main certificate))
          (still_Open : t.closed ≡ false) (same : lasting.jump ≡ t.lasting.jump)
          (from : t.lasting.jump ≡ false → (s : ℕ) → s ≤ stage_step stage → (s ≡ 1 → ⊥) → (s ≤ stage_step t.stage) ⊎ (s ≡ stage_step stage)) where
        abbrev new_state : State
        new_state = began n question lasting stage main certificate

        abbrev new_station : Station
        new_station = W.as_station n i new_state

        state_is : state_of new_station ≡ new_state
        state_is = state_back present_form n i new_state top low high new_sane

        -- the module had the station's question
        same_question : (modules mac key n cs i).last.question ≡ question
        same_question = by (above_out (last_for its_module question) question (step main) is_above)
          where
            by : Above (last_for its_module question) question (step main) → (modules mac key n cs i).last.question ≡ question
            by (first x) = never (modules mac key n cs i).last.coded x was_up.has_coded
            by (later_question x) = absurd (omega (arith, was_up.behind))
            by (later_step x y) = x

        module _ (e : answer mac key n cs the_call ≡ returned its_module t out (sends k main certificate new_state)) where
          last_is : last_for (modules mac key n (the_call ∷ cs) i) question ≡ pair question (stage_step stage)
          unfolding Rattle.station.specs.Calls.returned
          last_is = ap (λ (z : Module). last_for z question) (module_now present_form mac key n the_call cs ∙ ap (λ (r : Returned). r.after) e) ∙ (λ z. pair (main_asked z) (main_step z))

          station_is : (answer mac key n cs the_call).station ≡ new_station
          unfolding Rattle.station.specs.Calls.returned
          station_is = ap (λ (r : Returned). r.station) e

          has_written : wrote (answer mac key n cs the_call).number ≡ true
          unfolding Rattle.station.specs.Calls.returned
          has_written = ap (λ (r : Returned). wrote r.number) e ∙ writes

          valid : check_by (mac key) n Any (message (answer mac key n cs the_call)) ≡ 0
          valid = ap (λ (z : Returned). check_by (mac key) n Any (message z)) (giving_is G faulty cs i site o t ws coin out)
              ∙ giving_written present_form mac key n eight i t was_up.reached its_module ws coin out (in_group G cs i)
              (sym (ap (λ (z : Returned). wrote z.number) (giving_is G faulty cs i site o t ws coin out)) ∙ has_written)

          main_coded : Coded n (reads present_form (log mac key n (the_call ∷ cs))) main
          unfolding Rattle.station.specs.Words.as_station
          main_coded =
              held_coded G (reads present_form (log mac key n (the_call ∷ cs))) i new_station presents_then.line.took new_state main
              (subst (λ (z : Station). Line present_form n (reads present_form (log mac key n (the_call ∷ cs))) i z presents_then.line.took) (presents_then.now ∙ station_is) (inv_then.lines i o presents_then.line low high sound presents_then.is)) refl state_is refl

          spoken : Spoke G (the_call ∷ cs) i question (stage_step stage) (message (answer mac key n cs the_call))
          spoken =
              written_spoke G faulty the_call cs inv_then its_module t out k main certificate new_state e writes main_proper certificate_proper certificate_few valid
              main_coded certificate_coded i question (stage_step stage) refl main_own main_asked main_step

          up_new : Up G (the_call ∷ cs) i new_station
          unfolding Rattle.station.specs.Words.as_station
          up_new =
              record {
                reached = subst (λ (z : Station). Reached mac key n i z) station_is (reached_then G faulty cs i site o t ws coin out not_refused presented);
                told = λ c off s a b. let was = sym same ∙ off in tell was s (from was s a b) b;
                latest = λ a. record {
                  words = message (answer mac key n cs the_call);
                  spoke = spoken;
                  held = λ ok all. ap ok (main_written G faulty the_call cs inv_then its_module t out k main certificate new_state e writes main_proper certificate_proper certificate_few valid main_coded certificate_coded)
                      ∙ held_single G new_station new_state main state_is refl ok all;
                };
                has_coded = ap (λ (z : Last). z.coded) last_is;
                behind = omega (arith, ap (λ (z : Last). z.question) last_is);
                in_time = λ a b. last_is;
              }
            where
              tell : t.lasting.jump ≡ false → (s : ℕ) → (s ≤ stage_step t.stage) ⊎ (s ≡ stage_step stage) → (s ≡ 1 → ⊥) → Said G (the_call ∷ cs) i question s any
              tell off s (inl a) b = said_later G the_call cs i question s any (was_up.told still_Open off s a b)
              tell off s (inr a) b =
                  record { words = message (answer mac key n cs the_call); spoke = subst (λ (z : ℕ). Spoke G (the_call ∷ cs) i question z (message (answer mac key n cs the_call))) (sym a) spoken; passes = refl }

          asked_is : new_station.identity.question ≡ question
          unfolding Rattle.station.specs.Words.as_station
          asked_is = refl

          pub sent_course : Course G (the_call ∷ cs) i
          sent_course =
              given_course G faulty cs i site o t ws coin out not_refused presented new_station station_is asked_is up_new
              (λ j line ne f. up_past G the_call cs i line.present question (stage_step stage) last_is (omega (arith, (course_of.up j line f).behind, same_question))
              (apart G faulty cs i site o t ws coin out not_refused presented j line ne f) (course_of.up j line f))
