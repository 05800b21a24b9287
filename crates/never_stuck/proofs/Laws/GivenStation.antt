-- A giving at a sound site that is not refused: the station given is the site's present one, and the site's others keep what is known of them. Where nothing was
-- written the module is as it was, and so is what the station has written.
use Rattle.std.specs.Prelude.{◌≡◌, refl, Bool, true, false, ◌&&◌, List, ◌∷◌, ◌++◌, ℕ, ◌≤◌}
use Rattle.std.proofs.Math.Path.{sym, ap, subst}
use Rattle.std.proofs.Common.{◌∙◌, arith, eq-eqb}
use Rattle.std.proofs.Math.Dec.{eqb}
use Rattle.laws.specs.Pick.{pick}
use Rattle.laws.specs.Bools.{join}
use Rattle.format.specs.Form.{present_form}
use Rattle.format.specs.Statement.{Statement}
use Rattle.format.specs.Lists.{every}
use Rattle.modules.specs.declared.Module.{Module}
use Rattle.modules.specs.Counter.{pair}
use Rattle.station.specs.declared.Stage.{Stage}
use Rattle.station.specs.declared.Station.{Station}
use Rattle.station.specs.Machine.{State, stage_step}
use Rattle.station.specs.Present as W
use Rattle.station.specs.Calls.{Returned}
use Rattle.station.specs.Returns.{unrefused}
use Rattle.station.specs.Demand.{by_giving}
use Rattle.station.specs.Present.{state_of, returned, giving, giving_outcome, Reached}
use Rattle.agreement.proofs.Laws.Ground.{Ground}
use Rattle.agreement.proofs.Laws.Lists.{module_now}
use Rattle.agreement.specs.Demand.{gives, Call, call, Lineage, found}
use Rattle.agreement.specs.Present.{written_main, given_main, gave, modules, answer, lineage, Presents}
use Rattle.never_stuck.proofs.Laws.Spoken.{Spoke, Said, presents_now}
use Rattle.never_stuck.proofs.Laws.Steps.{any}
use Rattle.never_stuck.proofs.Laws.Course.{Up, Course, up_later, whose, renewed}
use Rattle.never_stuck.proofs.Laws.SoundSite.{SoundSite, module_of, in_group, module_is}

module _ (G : Ground present_form) where
  open G use {mac, key, n}

  module _ (faulty : List ℕ) (cs : List Call) (i : ℕ) (site : SoundSite G faulty cs i) (o : ℕ) (t : Station) (ws : List ℕ) (coin : ℕ) (out : List ℕ) where
    open site use {course_of}

    abbrev its_module : Module
    its_module = module_of G cs i

    abbrev the_call : Call
    the_call = call i (gives o t ws coin out)

    abbrev question : ℕ
    question = t.identity.question

    pub giving_is : answer mac key n cs the_call ≡ giving mac its_module t ws coin out
    unfolding Rattle.agreement.specs.Demand.act
    giving_is = ap (λ (z : Module). giving mac z t ws coin out) (module_is G faulty cs i site)

    pub outcome_is : answer mac key n cs the_call ≡ returned its_module t out (giving_outcome mac its_module t ws coin out)
    unfolding Rattle.station.specs.Calls.giving
    outcome_is = giving_is

    module _ (not_refused : unrefused (answer mac key n cs the_call).number ≡ true) (presented : Presents mac key n cs i o t) where
      -- what is known of it before the call, and that it is presented after it
      pub up_given : Up G cs i t
      up_given = subst (λ (z : Station). Up G cs i z) presented.now (course_of.up o presented.line presented.is)

      pub presented_then : Presents mac key n (the_call ∷ cs) i o (answer mac key n cs the_call).station
      presented_then = presents_now G cs i o t ws coin out presented not_refused

      -- of the site's stations the call changes this one
      touched : (k : ℕ) → lineage mac key n (the_call ∷ cs) i k ≡ pick (eqb o k) (gave (answer mac key n cs the_call) ws (lineage mac key n cs i k)) (lineage mac key n cs i k)
      unfolding Rattle.agreement.specs.Demand.lineage
      touched k = ap (λ (b : Bool). pick (b && eqb o k) (gave (answer mac key n cs the_call) ws (lineage mac key n cs i k)) (lineage mac key n cs i k)) (join (eqb i i) _ (eq-eqb i i refl) not_refused)

      -- another station of the site has another question
      pub apart : (k : ℕ) (line : Lineage) → (o ≡ k → ⊥) → lineage mac key n cs i k ≡ found line → line.present.identity.question ≡ question → ⊥
      apart k line ne f z = ne (course_of.unique o k presented.line line presented.is f (ap (λ (v : Station). v.identity.question) presented.now ∙ sym z))

      pub reached_then : Reached mac key n i (answer mac key n cs the_call).station
      reached_then = subst (λ (z : Station). Reached mac key n i z) (sym (ap (λ (r : Returned). r.station) giving_is))
          (by_giving up_given.reached its_module ws coin out (in_group G cs i) (sym (ap (λ (r : Returned). unrefused r.number) giving_is) ∙ not_refused))

      -- so that what is known of the site is kept where it is known of the station after the call and of the others
      pub given_course : (st : Station) → (answer mac key n cs the_call).station ≡ st → st.identity.question ≡ question → Up G (the_call ∷ cs) i st
          → ((k : ℕ) (line : Lineage) → (o ≡ k → ⊥) → lineage mac key n cs i k ≡ found line → Up G (the_call ∷ cs) i line.present) → Course G (the_call ∷ cs) i
      given_course st is asked up others =
          renewed G the_call cs i o st course_of
          (λ k l f. whose G the_call cs i o st (λ k. gave (answer mac key n cs the_call) ws (lineage mac key n cs i k))
          (record { present = (answer mac key n cs the_call).station; took = written_main (answer mac key n cs the_call) ++ (given_main (answer mac key n cs the_call) ws ++ presented.line.took) })
          (ap (gave (answer mac key n cs the_call) ws) presented.is) is k l (sym (touched k) ∙ f)) up others (λ k l ne f z. apart k l ne f (z ∙ asked))

      -- nothing was written: the module is as it was
      pub quiet_course : (u : State) → (answer mac key n cs the_call).station ≡ W.as_station n i u → (answer mac key n cs the_call).after ≡ its_module → u.question ≡ question → u.stage ≡ t.stage
          → (u.closed ≡ false → (t.closed ≡ false) × ((u.lasting.jump ≡ t.lasting.jump) × ((ok : Statement → Bool) → every ok (state_of (W.as_station n i u)).held ≡ true → every ok (state_of t).held ≡ true)))
          → Course G (the_call ∷ cs) i
      unfolding Rattle.station.specs.Words.as_station
      quiet_course u is m asked stage op =
          let same_module : modules mac key n (the_call ∷ cs) i ≡ modules mac key n cs i = module_now present_form mac key n the_call cs ∙ m ∙ sym (module_is G faulty cs i site) in
          let later : Up G (the_call ∷ cs) i t = up_later G the_call cs i t same_module up_given in
          given_course (W.as_station n i u) is asked
          (record {
            reached = subst (λ (z : Station). Reached mac key n i z) is reached_then;
            told = λ c j s a b. subst (λ (z : ℕ). Said G (the_call ∷ cs) i z s any) (sym asked) (later.told (op c).0 (sym (op c).1.0 ∙ j) s (subst (λ (z : Stage). s ≤ stage_step z) stage a) b);
            latest = λ a. let L = later.latest (op a).0 in
                record {
                  words = L.words;
                  spoke = subst (λ (z : ℕ). Spoke G (the_call ∷ cs) i z (stage_step u.stage) L.words) (sym asked)
                      (subst (λ (z : Stage). Spoke G (the_call ∷ cs) i question (stage_step z) L.words) (sym stage) L.spoke);
                  held = λ ok all. L.held ok ((op a).1.1 ok all);
                };
            has_coded = later.has_coded;
            behind = omega (arith, asked, later.behind);
            in_time = λ a b. later.in_time (op a).0 (b ∙ asked) ∙ sym (λ z. pair (asked z) (stage_step (stage z)));
          })
          (λ k line ne f. up_later G the_call cs i line.present same_module (course_of.up k line f))
