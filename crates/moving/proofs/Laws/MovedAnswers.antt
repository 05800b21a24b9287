-- What the calls inside going on answer, put together.
use Rattle.std.specs.Prelude.{ℕ, Bool, true, false, not, List, Ok, Err, ◌≡◌, refl}
use Rattle.std.proofs.Common.{sym, ◌∙◌}
use borrow.Author.Tests.{not-true, not-false}
use Rattle.laws.specs.Pick.{here, skip}
use Rattle.format.specs.declared.Fields.{Fields}
use Rattle.format.specs.declared.Step.{Step}
use Rattle.format.specs.declared.Refusal.TheVariants.{NotAbove}
use Rattle.format.specs.declared.Outcome.{Outcome}
use Rattle.format.specs.Returns.{outcome_number}
use Rattle.format.specs.Words.{step_of, step_in}
use Rattle.modules.specs.declared.Module.{Module}
use Rattle.modules.specs.Counter.{above, last_for}
use Rattle.station.specs.declared.Lasting.{Lasting}
use Rattle.station.specs.declared.Station.{Station}
use Rattle.station.specs.Answers.{returned_by}
use Rattle.sending.specs.declared.Sent.{Sent}
use Rattle.sending.specs.Sent.{sent_count, sent_lent, sent_bundle, sent_station, sent_after}
use Rattle.sending.specs.Sends.{own_fields}
use Rattle.ending.specs.declared.Following.{Following}
use Rattle.moving.specs.Moves.{group_by, count_by, answer, sending_words, moving}

module _ (m : Module) (k : Station) (x : Following) (l : Lasting) (out : List ℕ) where
  -- all that `send` promises, with the certificate that was chosen
  pub next_sent : (f : Fields) (count : ℕ) (t : Station) (after : Module) (xs group : List ℕ) (z : ℕ)
      → group ≡ group_by x.kept k.groups → z ≡ count_by x.kept m.n x.value
      → (count ≡ sent_count x.set z out) × (t ≡ sent_station m k.identity.question l x.stage (sent_bundle m k.identity.question f k.held.slots x.set group z out))
      × (after ≡ sent_after m k.identity.question f k.held.slots x.set group z out) × (xs ≡ sent_lent m k.identity.question f k.held.slots x.set group z out)
      → (count ≡ sent_count x.set (count_by x.kept m.n x.value) out)
      × (t ≡ sent_station m k.identity.question l x.stage (sent_bundle m k.identity.question f k.held.slots x.set (group_by x.kept k.groups) (count_by x.kept m.n x.value) out))
      × (after ≡ sent_after m k.identity.question f k.held.slots x.set (group_by x.kept k.groups) (count_by x.kept m.n x.value) out)
      × (xs ≡ sent_lent m k.identity.question f k.held.slots x.set (group_by x.kept k.groups) (count_by x.kept m.n x.value) out)
  next_sent f count t after xs group z eg ez h = rw (eg, ez) at h

  module _ (f : Fields) (st : Step) (v : Bool) (ef : f ≡ own_fields m x.kind x.value x.flag x.round.0) (et : st ≡ step_in f)
      (ev : v ≡ above (last_for m k.identity.question) k.identity.question st.0) where
    tested : v ≡ above (last_for m k.identity.question) k.identity.question (step_of x.kind x.round.0)
    unfolding step_in
    tested = rw (et, ef) at ev

    pub moved_12 : not v ≡ true → returned_by k m out (Err NotAbove) ≡ moving m k x l out
    unfolding moving
    moved_12 h = skip _ _ _ _ (sym tested ∙ not-true v h) refl

    pub moved_sent : (o : Outcome) (s : Sent) (xs : List ℕ) → not v ≡ false → outcome_number o ≡ answer k.lasting.decision l.decision
        → (s.count ≡ sent_count x.set (count_by x.kept m.n x.value) out)
        × (s.station ≡ sent_station m k.identity.question l x.stage (sent_bundle m k.identity.question f k.held.slots x.set (group_by x.kept k.groups) (count_by x.kept m.n x.value) out))
        × (s.after ≡ sent_after m k.identity.question f k.held.slots x.set (group_by x.kept k.groups) (count_by x.kept m.n x.value) out)
        × (xs ≡ sent_lent m k.identity.question f k.held.slots x.set (group_by x.kept k.groups) (count_by x.kept m.n x.value) out)
        → returned_by k m xs (Ok (record { outcome = o; count = s.count; station = s.station; after = s.after })) ≡ moving m k x l out
    unfolding moving sending_words
    moved_sent o s xs h en e =
        (λ i. record { number = en i; count = e.0 i; station = e.1 i; after = e.2 i; lent = e.3 i })
        ∙ (λ i. sending_words m k x (ef i) l out)
        ∙ here _ _ _ (sym tested ∙ not-false v h)
