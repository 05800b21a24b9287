-- What a call on a station answers, part by part, and as one equation.
use Rattle.std.specs.Prelude.{ℕ, List, Result, Ok, Err, ◌≡◌}
use Rattle.std.proofs.Common.{sym, ap, ◌∙◌}
use Rattle.format.specs.declared.Refusal.{Refusal}
use Rattle.format.specs.Returns.{refusal_number, outcome_number}
use Rattle.modules.specs.declared.Module.{Module}
use Rattle.station.specs.declared.Answer.{Answer}
use Rattle.station.specs.declared.Station.{Station}
use Rattle.station.specs.Calls.{Returned}
use Rattle.station.specs.Answers.{Answers, returned_by}

module _ (x : Returned) (t : Station) (m : Module) (out : List ℕ) where
  -- from the parts to the equation
  pub as_answered : (a : Answer) → Answers x (outcome_number a.outcome) a.count a.station a.after out → returned_by t m out (Ok a) ≡ x
  as_answered a p = λ i. record { number = p.number_is i; count = p.count_is i; station = p.station_is i; after = p.after_is i; lent = p.lent_is i }

  pub as_refused : (r : Refusal) → Answers x (refusal_number r) 0 t m out → returned_by t m out (Err r) ≡ x
  as_refused r p = λ i. record { number = p.number_is i; count = p.count_is i; station = p.station_is i; after = p.after_is i; lent = p.lent_is i }

  -- and back
  pub parts : (y : Returned) → y ≡ x → Answers x y.number y.count y.station y.after y.lent
  parts y e =
      record {
        number_is = ap (λ (z : Returned). z.number) e;
        count_is = ap (λ (z : Returned). z.count) e;
        station_is = ap (λ (z : Returned). z.station) e;
        after_is = ap (λ (z : Returned). z.after) e;
        lent_is = ap (λ (z : Returned). z.lent) e;
      }

  pub answered_parts : (r : Result Answer Refusal) (a : Answer) → r ≡ Ok a → returned_by t m out r ≡ x → Answers x (outcome_number a.outcome) a.count a.station a.after out
  answered_parts r a is e = parts (returned_by t m out (Ok a)) (sym (ap (returned_by t m out) is) ∙ e)

  pub refused_parts : (r : Result Answer Refusal) (k : Refusal) → r ≡ Err k → returned_by t m out r ≡ x → Answers x (refusal_number k) 0 t m out
  refused_parts r k is e = parts (returned_by t m out (Err k)) (sym (ap (returned_by t m out) is) ∙ e)
