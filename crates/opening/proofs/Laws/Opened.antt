-- An opening in order: what was sent is what the definition returns.
use Rattle.std.specs.Prelude.{ℕ, ◌≤◌, ◌≡◌, eqb, length}
use mathlib.Core.List.{List, []}
use Rattle.std.proofs.Math.Path.{refl, ap}
use Rattle.std.proofs.Common.{sym, ◌∙◌, arith, le-leb, ltb-true}
use Rattle.format.specs.Form.{present_form}
use Rattle.format.specs.declared.Fields.{Fields}
use Rattle.format.specs.Numbers.{kind_init, d_get, sent}
use Rattle.format.specs.Statement.{step}
use Rattle.hmac.specs.Code.{hmac_code}
use Rattle.hmac.specs.Code.{hmac_eight}
use Rattle.format.specs.Words.{step_of}
use Rattle.format.proofs.Laws.Shape.{init}
use Rattle.modules.specs.declared.Module.{Module}
use Rattle.station.specs.declared.Station.{Station}
use Rattle.station.specs.declared.Stage.TheVariants.{Gathering}
use Rattle.station.specs.Calls.{Returned}
use Rattle.station.proofs.Laws.Views.{InRange, in_range}
use Rattle.station.proofs.Laws.Fits.{own_proper}
use Rattle.format.proofs.Laws.ReadBack.{Proper}
use Rattle.format.specs.Present.{output_words, most_stations}
use Rattle.station.proofs.Theorems.Decision.{opens}
use Rattle.station.specs.Answers.{Answers}
use Rattle.station.specs.Machine.{undecided}
use Rattle.station.specs.Present.{opening}
use Rattle.writer.proofs.Laws.Bundle.{Certificate}
use Rattle.laws.specs.Below.{Below}
use Rattle.sending.specs.Sent.{sent_count, sent_lent, sent_bundle, sent_station, sent_after}
use Rattle.sending.specs.Sends.{own_fields, own_statement, lent_is, count_is, station_is, after_is}
use Rattle.opening.specs.Opens.{open_refusal, Passed, passed}

-- an empty certificate, whatever the slots and the group hold
no_certificate : (n : ℕ) (slots group : List ℕ) → n ≤ most_stations → Certificate n [] [] slots group
unfolding Rattle.format.specs.Bundle.all_written
no_certificate n slots group top =
    record { top = top; rising = tt; proper = tt; slotted = tt; more_proper = tt; rest = group; kept = refl; few_kept = omega arith; few = omega arith }

module _ (m : Module) (question proposal jump : ℕ) (out slots group : List ℕ) where
  pub opens_answers : (k count : ℕ) (t : Station) (after : Module) (xs : List ℕ) (f : Fields) → k ≡ open_refusal m question proposal jump (length out) → k ≡ 0
      → f ≡ own_fields m kind_init proposal d_get 0
      → (count ≡ sent_count 0 0 out) × (t ≡ sent_station m question (undecided (eqb jump 1)) Gathering (sent_bundle m question f slots 0 group 0 out)) × (after ≡ sent_after m question f slots 0 group 0 out)
      × (xs ≡ sent_lent m question f slots 0 group 0 out)
      → Below xs → Answers (opening hmac_code m question proposal jump out) sent count t after xs
  unfolding Rattle.station.specs.Words.set_of step step_of Rattle.laws.specs.Pick.pick
  opens_answers k count t after xs f e z ef s low =
      let P : Passed m question proposal jump out = passed m question proposal jump out (sym e ∙ z) in
      let R : InRange present_form m = in_range present_form m P.fit in
      let r = opens hmac_code m question proposal jump out (le-leb output_words (length out) P.room) P.fit P.bit P.setting P.later in
      let p : Proper present_form m.n (own_statement m question kind_init proposal d_get 0) = own_proper present_form hmac_code hmac_eight m question kind_init proposal d_get 0 R (init refl refl (ltb-true _ _ P.bit) refl) in
      let C = no_certificate m.n slots group R.at_most in
      let x : xs ≡ sent_lent m question (own_fields m kind_init proposal d_get 0) slots 0 group 0 out = rw (← ef) s.3 in
      let lo : Below (sent_lent m question (own_fields m kind_init proposal d_get 0) slots 0 group 0 out) = rw (← x) low in
      record {
        number_is = ap (λ (y : Returned). y.number) (sym r);
        count_is = s.0 ∙ count_is m question kind_init proposal d_get 0 (undecided (eqb jump 1)) Gathering [] [] slots group C [] refl out P.room p P.fit P.later ∙ ap (λ (y : Returned). y.count) (sym r);
        station_is = rw (← ef) s.1
            ∙ station_is m question kind_init proposal d_get 0 (undecided (eqb jump 1)) Gathering [] [] slots group C [] refl out P.room p P.fit P.later lo
            ∙ ap (λ (y : Returned). y.station) (sym r);
        after_is = rw (← ef) s.2 ∙ after_is m question kind_init proposal d_get 0 (undecided (eqb jump 1)) Gathering [] [] slots group C [] refl out P.room p P.fit P.later ∙ ap (λ (y : Returned). y.after) (sym r);
        lent_is = x ∙ lent_is m question kind_init proposal d_get 0 (undecided (eqb jump 1)) Gathering [] [] slots group C [] refl out P.room p P.fit P.later ∙ ap (λ (y : Returned). y.lent) (sym r);
      }
