-- What the calls inside jumping answer, put together.
use Rattle.std.specs.Prelude.{ℕ, Bool, true, false, not, List, Ok, Err, ◌≡◌, refl, length, get_or}
use Rattle.std.proofs.Common.{sym, ◌∙◌}
use Rattle.std.proofs.Math.Path.{ap}
use borrow.Author.Tests.{not-true, not-false}
use Rattle.laws.specs.Pick.{here, skip}
use Rattle.format.specs.declared.Fields.{Fields}
use Rattle.format.specs.declared.Step.{Step}
use Rattle.format.specs.declared.Refusal.TheVariants.{NotAbove}
use Rattle.format.specs.declared.Outcome.TheVariants.{Jumped}
use Rattle.format.specs.Numbers.{jumped}
use Rattle.format.specs.Words.{fields_of, step_in}
use Rattle.format.specs.Present.{place_of}
use Rattle.modules.specs.declared.Module.{Module}
use Rattle.modules.specs.Counter.{above, last_for}
use Rattle.station.specs.declared.Stage.{Stage}
use Rattle.station.specs.declared.Station.{Station}
use Rattle.station.specs.Answers.{returned_by}
use Rattle.sending.specs.declared.Sent.{Sent}
use Rattle.writer.specs.Written.{copy_count}
use Rattle.sending.specs.Sent.{sent_station, copy_lent, copy_module, copy_bundle}
use Rattle.jumping.specs.Jumps.{copied_fields, stage_by, given_fields, jump_words, jumping}

module _ (m : Module) (t : Station) (ws : List ℕ) (coin : ℕ) (out : List ℕ) (w : ℕ) (given f : Fields) (st : Step) (v : Bool) (ew : w ≡ get_or ws (place_of 0) 0) (eg : given ≡ fields_of w)
    (ef : f ≡ copied_fields m.station given coin) (es : st ≡ step_in f) (ev : v ≡ above (last_for m t.identity.question) t.identity.question st.0) where
  given_is : given ≡ given_fields ws
  given_is = eg ∙ ap fields_of ew

  own_is : f ≡ copied_fields m.station (given_fields ws) coin
  own_is = ef ∙ ap (λ (x : Fields). copied_fields m.station x coin) given_is

  tested : v ≡ above (last_for m t.identity.question) t.identity.question (step_in (copied_fields m.station (given_fields ws) coin)).0
  tested = ev ∙ ap (λ (x : Step). above (last_for m t.identity.question) t.identity.question x.0) (es ∙ ap step_in own_is)

  pub jumped_12 : not v ≡ true → returned_by t m out (Err NotAbove) ≡ jumping m t ws coin out
  unfolding jumping step_in
  jumped_12 h = skip _ _ _ _ (sym tested ∙ not-true v h) refl

  pub jumped_sent : (s : Sent) (xs : List ℕ) (g : Stage) → not v ≡ false → g ≡ stage_by given
      → (s.count ≡ copy_count (length ws) (length out)) × (s.station ≡ sent_station m t.identity.question t.lasting g (copy_bundle m f ws out))
      × (s.after ≡ copy_module m f ws out) × (xs ≡ copy_lent m f ws out)
      → returned_by t m xs (Ok (record { outcome = Jumped; count = s.count; station = s.station; after = s.after })) ≡ jumping m t ws coin out
  unfolding jumping jump_words step_in
  jumped_sent s xs g h gg e =
      (λ i. record { number = jumped; count = e.0 i; station = (e.1 ∙ ap (λ (x : Stage). sent_station m t.identity.question t.lasting x (copy_bundle m f ws out)) gg) i; after = e.2 i; lent = e.3 i })
      ∙ (λ i. jump_words m t (given_is i) (own_is i) ws out)
      ∙ here _ _ _ (sym tested ∙ not-false v h)
