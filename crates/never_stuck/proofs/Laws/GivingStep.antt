-- A giving at a sound site, by its outcomes: refused, kept, closed, the end of the step, a jump. Each keeps what is known of the site's stations.
use Rattle.std.specs.Prelude.{◌≡◌, false, ◌||◌, List, ◌∷◌, ◌++◌, ℕ, ◌<◌, ltb, length}
use Rattle.std.proofs.Math.Path.{refl, ap, subst}
use Rattle.std.proofs.Common.{sym, ◌∙◌}
use Rattle.std.proofs.Math.Bool.{true}
use Rattle.std.proofs.Math.Dec.{eqb}
use Rattle.laws.specs.Bools.{never, both}
use Rattle.laws.specs.All.{All, all_append}
use Rattle.format.specs.Form.{present_form}
use Rattle.format.specs.Numbers.{none, kept, closed_now, jumped}
use Rattle.format.specs.Group.{quorum}
use Rattle.format.specs.Statement.{Statement, step}
use Rattle.format.specs.Lists.{every}
use Rattle.format.proofs.Laws.ReadBack.{Proper}
use Rattle.format.specs.Present.{last_round, main_of, certificate_of}
use Rattle.modules.specs.declared.Module.{Module}
use Rattle.modules.specs.Counter.{above, last_for}
use Rattle.station.specs.declared.Station.{Station}
use Rattle.station.specs.Machine.{State, Next, Outcome, keeps, sends, began, shut, stage_of, follows, closes, stage_step}
use Rattle.station.specs.Calls.{Returned}
use Rattle.station.specs.Returns.{unrefused, wrote}
use Rattle.station.proofs.Laws.Returns.{wrote_unrefused, sent_wrote}
use Rattle.station.proofs.Theorems.Written.{reached_good, sent_backed, jump_few}
use Rattle.station.proofs.Laws.Insert.{every_insert}
use Rattle.station.proofs.Laws.Sane.{state_back}
use Rattle.station.proofs.Laws.Bundles.{backed_few}
use Rattle.station.proofs.Laws.Fits.{next_ready, sent_proper, sent_sane, kept_sane, jump_proper, jump_fitting, jump_sane}
use Rattle.station.proofs.Laws.Views.{Accepted, Jumping, after, lasting_then, sent_statement, jump_statement, Gives, refuses, holds_on, shuts, goes_on, enters, gives_view}
use Rattle.station.specs.Present.{state_of, returned, giving_outcome, Lengths}
use Rattle.station.specs.declared.Lasting.{Lasting}
use Rattle.agreement.proofs.Maths.Just.{Coded}
use Rattle.agreement.proofs.Laws.Ground.{Ground}
use Rattle.agreement.proofs.Laws.Line.{Line, reads}
use Rattle.agreement.proofs.Laws.Giving.{parts_coded, given_coded}
use Rattle.agreement.proofs.Laws.Run.{Inv}
use Rattle.agreement.specs.Demand.{gives, Call, call}
use Rattle.agreement.specs.Present.{answer, log, Presents, CodesCame}
use Rattle.never_stuck.proofs.Laws.Steps.{next_step, next_is, up_to}
use Rattle.never_stuck.proofs.Laws.Course.{Course}
use Rattle.never_stuck.proofs.Laws.SoundSite.{SoundSite, module_of, refused_course}
use Rattle.never_stuck.proofs.Laws.GivenStation.{outcome_is, up_given, quiet_course}
use Rattle.never_stuck.proofs.Laws.WrittenStep.{sent_course}

module _ (G : Ground present_form) where
  open G use {mac, eight, key, n, top}

  module _ (faulty : List ℕ) (cs : List Call) (i : ℕ) (site : SoundSite G faulty cs i) where
    open site use {low, high, sound, before}

    abbrev its_module : Module
    its_module = module_of G cs i

    module _ (o : ℕ) (t : Station) (ws : List ℕ) (coin : ℕ) (out : List ℕ) (len : Lengths t) (came : CodesCame mac key n (log mac key n cs) ws)
        (presents : unrefused (answer mac key n cs (call i (gives o t ws coin out))).number ≡ true → Presents mac key n cs i o t)
        (inv_then : Inv present_form G faulty (call i (gives o t ws coin out) ∷ cs)) where
      abbrev the_call : Call
      the_call = call i (gives o t ws coin out)

      abbrev question : ℕ
      question = t.identity.question

      -- the state with the main statement held, and what outlasts a step then
      abbrev state_after : State
      state_after = after present_form mac its_module t ws coin out

      abbrev lasting_after : Lasting
      lasting_after = lasting_then present_form mac its_module t ws coin out

      -- the main statement of the bundle that ends the step, and of the one that a jump writes
      abbrev sent_main : Statement
      sent_main = sent_statement present_form mac its_module t ws coin out

      abbrev jump_main : Statement
      jump_main = jump_statement present_form mac its_module t ws coin out

      outcome_of : answer mac key n cs the_call ≡ returned its_module t out (giving_outcome mac its_module t ws coin out)
      outcome_of = outcome_is G faulty cs i site o t ws coin out

      -- what agreement knows of the station given
      known : (shown : Presents mac key n cs i o t) → Line present_form n (reads present_form (log mac key n cs)) i t shown.line.took
      known shown = subst (λ (z : Station). Line present_form n (reads present_form (log mac key n cs)) i z shown.line.took) shown.now (before.lines i o shown.line low high sound shown.is)

      -- the step has ended
      module _ (k : ℕ) (accepted : Accepted present_form mac its_module t ws coin out) (size : length state_after.held ≡ quorum n) (more : closes last_round t.stage ≡ false)
          (is_above : above (last_for its_module question) question (step sent_main) ≡ true) (writes : wrote k ≡ true) where
        abbrev following : Next
        following = follows n t.stage state_after coin

        sent_step : step sent_main ≡ stage_step following.stage
        unfolding step
        sent_step = next_step n t.stage state_after coin

        parts_proper : All (Proper present_form n) (following.first ++ following.second)
        parts_proper = let R = next_ready present_form mac eight its_module t ws coin out len accepted size more in all_append (Proper present_form n) following.first following.second R.proper R.more_proper

        ended_course : (not_refused : unrefused (answer mac key n cs the_call).number ≡ true)
            → answer mac key n cs the_call ≡ returned its_module t out (sends k sent_main (following.first ++ following.second) (began n question lasting_after following.stage sent_main (following.first ++ following.second)))
            → Course G (the_call ∷ cs) i
        ended_course not_refused e =
            let R = (reached_good present_form mac key n eight i t (up_given G faulty cs i site o t ws coin out not_refused (presents not_refused)).reached).certain accepted.cleared.still_open in
            let few = backed_few present_form n sent_main (following.first ++ following.second) top (sent_backed present_form mac its_module t ws coin out accepted eight len R size more) in
            let c = parts_coded present_form mac eight its_module t ws coin out (log mac key n cs) (presents not_refused).line.took (known (presents not_refused)) accepted came in
            sent_course G faulty cs i site o t ws coin out inv_then not_refused (presents not_refused) k sent_main (following.first ++ following.second) following.stage lasting_after
            refl refl sent_step is_above writes (sent_proper present_form mac eight its_module t ws coin out len accepted size more) parts_proper few
            (all_append (Coded n (reads present_form (log mac key n cs))) following.first following.second c.0 c.1) (sent_sane present_form mac eight its_module t ws coin out len accepted size more) accepted.cleared.still_open refl
            (λ off s a b. up_to (next_is n t.stage state_after coin) s a b) e

      -- the station has jumped
      jumped_course : (jumping : Jumping present_form mac its_module t ws coin out) → above (last_for its_module question) question (step jump_main) ≡ true
          → answer mac key n cs the_call ≡ returned its_module t out (sends jumped jump_main (certificate_of ws)
          (began n question t.lasting (stage_of (main_of ws)) jump_main (certificate_of ws))) → Course G (the_call ∷ cs) i
      unfolding Rattle.station.specs.Calls.returned
      jumped_course jumping is_above e =
          let not_refused : unrefused (answer mac key n cs the_call).number ≡ true = ap (λ (r : Returned). unrefused r.number) e in
          sent_course G faulty cs i site o t ws coin out inv_then not_refused (presents not_refused) jumped jump_main (certificate_of ws) (stage_of (main_of ws)) t.lasting
          refl refl (jump_fitting present_form mac eight its_module t ws coin out jumping).in_step is_above refl
          (jump_proper present_form mac eight its_module t ws coin out jumping) jumping.fitting.certificate (jump_few present_form mac eight its_module t ws coin out jumping)
          (given_coded present_form mac eight its_module t ws coin out (log mac key n cs) (presents not_refused).line.took (known (presents not_refused)) jumping came)
          (jump_sane present_form mac eight its_module t ws coin out jumping len) jumping.cleared.still_open refl (λ off s a b. never t.lasting.jump off jumping.on) e

      -- the statement is held, and the step goes on
      kept_course : (accepted : Accepted present_form mac its_module t ws coin out) → length state_after.held < quorum n → answer mac key n cs the_call ≡ returned its_module t out (keeps kept state_after)
          → Course G (the_call ∷ cs) i
      unfolding Rattle.station.specs.Calls.returned Rattle.station.specs.Words.state_of
      kept_course accepted few e =
          quiet_course G faulty cs i site o t ws coin out (ap (λ (r : Returned). unrefused r.number) e) (presents (ap (λ (r : Returned). unrefused r.number) e))
          state_after (ap (λ (r : Returned). r.station) e) (ap (λ (r : Returned). r.after) e) refl refl
          (λ a. (
            a,
            (
              refl,
              λ ok all. (both (ok (main_of ws)) (every ok (state_of t).held) (sym (every_insert ok (main_of ws) (state_of t).held)
                  ∙ subst (λ (z : State). every ok z.held ≡ true) (state_back present_form n i state_after top low high (kept_sane present_form mac eight its_module t ws coin out len accepted few)) all)).1,
            ),
          ))

      -- the station has closed
      shut_course : (accepted : Accepted present_form mac its_module t ws coin out) (lasting : Lasting) → answer mac key n cs the_call ≡ returned its_module t out (keeps closed_now (shut state_after lasting)) → Course G (the_call ∷ cs) i
      unfolding Rattle.station.specs.Calls.returned Rattle.station.specs.Words.state_of
      shut_course accepted lasting e =
          quiet_course G faulty cs i site o t ws coin out (ap (λ (r : Returned). unrefused r.number) e) (presents (ap (λ (r : Returned). unrefused r.number) e))
          (shut state_after lasting) (ap (λ (r : Returned). r.station) e) (ap (λ (r : Returned). r.after) e) refl refl (λ a. never true a refl)

      pub give_course : Course G (the_call ∷ cs) i
      unfolding Rattle.station.specs.Calls.returned
      give_course = go (giving_outcome mac its_module t ws coin out) refl (gives_view present_form mac its_module t ws coin out len)
        where
          go : (x : Outcome) → giving_outcome mac its_module t ws coin out ≡ x → Gives present_form mac its_module t ws coin out x → Course G (the_call ∷ cs) i
          go _ e (refuses {k} z) = refused_course G faulty cs i site (gives o t ws coin out) t out k z (outcome_of ∙ ap (returned its_module t out) e)
          go _ e (holds_on accepted few) = kept_course accepted few (outcome_of ∙ ap (returned its_module t out) e)
          go _ e (shuts accepted size c) = shut_course accepted lasting_after (outcome_of ∙ ap (returned its_module t out) e)
          go _ e (goes_on {k} accepted size c a z) =
              let writes : wrote k ≡ true = ap wrote z ∙ sent_wrote (ltb t.lasting.decision none || eqb lasting_after.decision none) in
              ended_course k accepted size c a writes (ap (λ (r : Returned). unrefused r.number) (outcome_of ∙ ap (returned its_module t out) e) ∙ wrote_unrefused k writes) (outcome_of ∙ ap (returned its_module t out) e)
          go _ e (enters jumping a) = jumped_course jumping a (outcome_of ∙ ap (returned its_module t out) e)
