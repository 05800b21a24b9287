-- The ways out of giving: a test fails; the station jumps; the pair is not above the last, and the station is as it was; else what follows the bundle kept.
use Prim.Native.Nat.{ℕ}
use Rattle.std.specs.Prelude.{Bool, true, false, ◌||◌, List, Result, Ok, Err, ◌≡◌, refl, eqb, ltb, length, get_or}
use Rattle.std.proofs.Math.Path.{sym, ap}
use Rattle.std.proofs.Common.{◌∙◌, subst, arith, eq-eqb, ne_eqb}
use Rattle.std.specs.Int.Count.{ones}
use Rattle.laws.specs.Pick.{pick, here, skip}
use Rattle.laws.specs.Refusals.{first_failed}
use Rattle.format.specs.Form.{present_form}
use Rattle.format.specs.Returns.{refusal_number}
use Rattle.format.specs.declared.Refusal.{Refusal}
use Rattle.format.proofs.Laws.Returns.{above, below_sent, no_12}
use Rattle.format.specs.Numbers.{none, kept, sent, sent_decided, closed_now, not_above}
use Rattle.format.specs.Group.{quorum}
use Rattle.format.specs.Words.{fields_of, step_of}
use Rattle.format.specs.Present.{last_round, main_of}
use Rattle.hmac.specs.Code.{hmac_code}
use Rattle.modules.specs.declared.Module.{Module}
use Rattle.modules.specs.Counter.{above as pair_above, last_for}
use Rattle.station.specs.declared.Station.{Station}
use Rattle.station.specs.Machine.{refused, taken, jumps, entered, answered, closes, lasting_at}
use Rattle.station.specs.Present as W
use Rattle.station.specs.Calls.{Returned}
use Rattle.station.specs.Answers.{returned_by}
use Rattle.station.specs.declared.Answer.{Answer}
use Rattle.station.proofs.Laws.Views.{Accepted, accepted, jumping as makes_jump, after}
use Rattle.station.specs.Present.{held_by, state_of, returned, give_tests, giving, Lengths, on_bundle}
use Rattle.station.specs.declared.Lasting.{Lasting}
use Rattle.refusal.specs.Refusal.{first_refusal, first_refusal_by_length, jumps_by, jumps_is}
use Rattle.laws.specs.Below.{Below}
use Rattle.keeping.proofs.Laws.One.{LowWords}
use Rattle.keeping.specs.Kept.{with_bundle}
use Rattle.keeping.proofs.Laws.KeptState.{keeps_state}
use Rattle.sending.specs.Sends.{own_fields}
use Rattle.ending.specs.After.{next_by}
use Rattle.moving.specs.Moves.{answer, with_no_bundle, sending_words, moving}
use Rattle.giving.specs.Gives.{shut_words, ending_words, after_words}
use Rattle.jumping.specs.Jumps.{jumping}
use Rattle.jumping.proofs.Laws.Entered.{jumped_is}
use Rattle.giving.proofs.Laws.Whole.{or_as_was, passed_so, given_is}

-- the words that a call left lent
lent_of : (t : Station) (m : Module) (xs : List ℕ) (r : Result Answer Refusal) → (returned_by t m xs r).lent ≡ xs
lent_of t m xs (Ok a) = refl
lent_of t m xs (Err e) = refl

module _ (m : Module) (t : Station) (ws : List ℕ) (coin : ℕ) (out : List ℕ) where
  pub give_refused : (e : Refusal) → refusal_number e ≡ first_refusal m t ws coin (length out) → returned_by t m out (Err e) ≡ giving hmac_code m t ws coin out
  unfolding Rattle.station.specs.Calls.giving Rattle.station.specs.Calls.returned pick
  give_refused e is =
      let f : refusal_number e ≡ first_failed (give_tests hmac_code m t ws coin out) = is ∙ first_refusal_by_length m t ws coin out in
      ap (λ (z : ℕ). with_no_bundle z t m out) f
      ∙ sym (ap (λ (b : Bool). returned m t out (pick b (on_bundle hmac_code answered m t ws coin)
      (refused (first_failed (give_tests hmac_code m t ws coin out))))) (ne_eqb (first_failed (give_tests hmac_code m t ws coin out)) 0 (λ z. omega (arith, f, z, above e))))

  -- where the number found is 0, no test fails
  pub none_found : (k : ℕ) → k ≡ first_refusal m t ws coin (length out) → k ≡ 0 → first_failed (give_tests hmac_code m t ws coin out) ≡ 0
  none_found k e z = sym (first_refusal_by_length m t ws coin out) ∙ sym e ∙ z

  -- whether it jumps, as the code finds it
  pub jumps_found : (b : Bool) → b ≡ jumps_by t.stage t.lasting.jump (fields_of (get_or ws 1 0)) → b ≡ jumps (state_of t) (main_of ws)
  jumps_found b eb = eb ∙ jumps_is t ws (fields_of (get_or ws 1 0)) refl

  pub give_jump : Lengths t → Below ws → (r : Result Answer Refusal) (xs : List ℕ) → first_failed (give_tests hmac_code m t ws coin out) ≡ 0
      → jumps (state_of t) (main_of ws) ≡ true → returned_by t m xs r ≡ jumping m t ws coin out → Below xs → returned_by t m xs r ≡ giving hmac_code m t ws coin out
  unfolding pick
  give_jump L low r xs none_failed to_jump e low_xs =
      let J = makes_jump present_form hmac_code m t ws coin out L to_jump none_failed in
      e
      ∙ sym (passed_so m t ws coin out none_failed
      ∙ ap (λ (b : Bool). returned m t out (pick b
      (on_bundle hmac_code entered m t ws coin)
      (on_bundle hmac_code taken m t ws coin))) to_jump
      ∙ jumped_is m t ws coin out J low (subst Below (sym (lent_of t m xs r) ∙ ap (λ (y : Returned). y.lent) e) low_xs))

  -- what follows a bundle kept is refused by 12 alone, which leaves the lent words
  twelve : (k : Station) (e : Refusal) → refusal_number e ≡ (after_words m k coin out).number → (refusal_number e ≡ not_above) × ((after_words m k coin out).lent ≡ out)
  unfolding after_words ending_words moving sending_words answer pick
  twelve k e =
      go (ltb (ones k.held.heard) (quorum m.n)) (closes last_round k.stage)
      (pair_above (last_for m k.identity.question) k.identity.question (step_of (next_by m.n k.stage k.held.heard k.held.slots coin).kind (next_by m.n k.stage k.held.heard k.held.slots coin).round.0))
    where
      l : Lasting
      l = lasting_at k.stage k.lasting (held_by k)

      sends_it : Returned
      sends_it =
          let x = next_by m.n k.stage k.held.heard k.held.slots coin in
          sending_words m k x (own_fields m x.kind x.value x.flag x.round.0) l out

      all : Bool → Bool → Bool → Returned
      all a b c = pick a (with_no_bundle kept k m out) (pick b (with_no_bundle closed_now (shut_words k l) m out) (pick c sends_it (with_no_bundle not_above k m out)))

      go : (a b c : Bool) → refusal_number e ≡ (all a b c).number → (refusal_number e ≡ not_above) × ((all a b c).lent ≡ out)
      go true b c x = absurd (omega (arith, x, above e))
      go false true c x = absurd (omega (arith, x, below_sent e))
      go false false true x = absurd (sent_or_decided (ltb k.lasting.decision none || eqb l.decision none) x)
        where
          sent_or_decided : (b : Bool) → refusal_number e ≡ pick b sent sent_decided → ⊥
          sent_or_decided true x = omega (arith, x, below_sent e)
          sent_or_decided false x = omega (arith, x, below_sent e)
      go false false false x = (x, refl)

  module _ (L : Lengths t) (A : LowWords t) (low : Below ws) (r : Result Answer Refusal) (kk : Station) (xs : List ℕ)
      (none_failed : first_failed (give_tests hmac_code m t ws coin out) ≡ 0) (stays : jumps (state_of t) (main_of ws) ≡ false) (ek : kk ≡ with_bundle t ws)
      (is : returned_by kk m xs r ≡ after_words m kk coin out) (low_xs : Below xs) where
    acc : Accepted present_form hmac_code m t ws coin out
    acc = accepted present_form hmac_code m t ws coin out L stays none_failed

    k : Station
    k = W.as_station m.n m.station (after present_form hmac_code m t ws coin out)

    same_k : kk ≡ k
    unfolding k
    same_k = ek ∙ keeps_state hmac_code m t ws coin out L A low acc

    left : returned_by k m xs r ≡ after_words m k coin out
    left = subst (λ (z : Station). returned_by z m xs r ≡ after_words m z coin out) same_k is

    whole : giving hmac_code m t ws coin out ≡ or_as_was m t out (after_words m k coin out)
    unfolding k
    whole = given_is m t ws coin out L acc none_failed stays (subst Below (sym (lent_of k m xs r) ∙ ap (λ (y : Returned). y.lent) left) low_xs)

    -- a refusal leaves the station that was given, where `taken` was given the one that kept the bundle
    with_given : (r : Result Answer Refusal) → returned_by k m xs r ≡ after_words m k coin out → returned_by t m xs r ≡ or_as_was m t out (after_words m k coin out)
    with_given (Ok a) e = skip _ _ _ _ (ap (λ (y : Returned). eqb y.number not_above) (sym e) ∙ no_12 a.outcome) e
    with_given (Err x) e =
        let n = twelve k x (ap (λ (y : Returned). y.number) e) in
        let l : xs ≡ out = ap (λ (y : Returned). y.lent) e ∙ n.1 in
        (λ i. with_no_bundle (n.0 i) t m (l i)) ∙ here _ _ _ (eq-eqb _ _ (sym (ap (λ (y : Returned). y.number) e) ∙ n.0))

    pub give_after : returned_by t m xs r ≡ giving hmac_code m t ws coin out
    give_after = with_given r left ∙ sym whole
