-- The law of giving: where no test fails, giving is what the code finds for the station that keeps the bundle, with the station as it was where the
-- number is 12.
use Prim.Native.Nat.{ℕ, ◌≤◌}
use Rattle.std.specs.Prelude.{Bool, true, false, ◌||◌, List, ◌++◌, ◌≡◌, eqb, ltb}
use Rattle.std.proofs.Math.Path.{refl, ap}
use Rattle.std.proofs.Common.{sym, ◌∙◌, subst, arith, eq-eqb, ltb-false}
use Rattle.std.specs.Int.Count.{ones}
use Rattle.std.proofs.Math.ListN.{length}
use Rattle.laws.specs.Pick.{pick, skip}
use Rattle.laws.specs.Refusals.{first_failed}
use Rattle.format.specs.Form.{present_form}
use Rattle.format.specs.Numbers.{none, kept, sent, sent_decided, closed_now, not_above}
use Rattle.format.specs.Group.{quorum}
use Rattle.format.specs.Words.{step_of}
use Rattle.format.specs.Statement.{Statement, step}
use Rattle.format.specs.Present.{last_round, main_of, certificate_of}
use Rattle.hmac.specs.Code.{hmac_code}
use Rattle.hmac.specs.Code.{hmac_eight}
use Rattle.modules.specs.declared.Module.{Module}
use Rattle.modules.specs.Counter.{above, last_for}
use Rattle.station.specs.declared.Stage.{Stage}
use Rattle.station.specs.declared.Stage.TheVariants.{Gathering, Proposing, Voting}
use Rattle.station.specs.declared.Station.{Station}
use Rattle.station.specs.Machine.{State, Next, Outcome, refused, keeps, sends, began, moved, shut, ended, taken, jumps, entered, answered, follows, closes, lasting_at, round_in}
use Rattle.station.specs.Words.{set_of}
use Rattle.station.specs.Present as W
use Rattle.station.specs.Calls.{Returned}
use Rattle.station.proofs.Laws.Slots.{ones_set, held_back}
use Rattle.station.proofs.Laws.Sane.{InRounds}
use Rattle.station.proofs.Laws.Keep.{Grown, grown}
use Rattle.station.proofs.Laws.Insert.{insert_length}
use Rattle.station.proofs.Laws.End.{Full, Sendable}
use Rattle.station.proofs.Laws.Views.{Accepted, after, lasting_then, sane_before, full_after}
use Rattle.station.proofs.Laws.Fits.{next_ready, sent_proper}
use Rattle.station.proofs.Theorems.Seal.{range_fits}
use Rattle.station.specs.Present.{sites, slots_of, held_in, held_by, state_of, returned, give_tests, giving, Lengths, by_module, on_bundle}
use Rattle.station.specs.declared.Lasting.{Lasting}
use Rattle.laws.specs.Below.{Below}
use Rattle.sending.specs.Sends.{own_fields, own_statement}
use Rattle.ending.specs.declared.Following.{Following}
use Rattle.ending.specs.After.{next_by, next_is, as_next}
use Rattle.moving.specs.Moves.{answer, with_no_bundle, sending_words, moving}
use Rattle.giving.specs.Gives.{shut_words, ending_words, after_words}
use Rattle.giving.proofs.Laws.Chosen.{chosen, sending_is}

-- 20 and 21 are not 12
pub not_12 : (b : Bool) → eqb (pick b sent sent_decided) not_above ≡ false
unfolding pick
not_12 true = refl
not_12 false = refl

-- the station as it was, where the number is 12
abbrev pub or_as_was : Module → Station → List ℕ → Returned → Returned
or_as_was m t out r = pick (eqb r.number not_above) (with_no_bundle not_above t m out) r

in_range_of : (g : Stage) → InRounds present_form g → round_in g ≤ last_round
in_range_of Gathering i = omega arith
in_range_of (Proposing r f) i = i.1
in_range_of (Voting r) i = i.1

-- where no test fails, giving is what the station answers
pub passed_so : (m : Module) (t : Station) (ws : List ℕ) (coin : ℕ) (out : List ℕ) → first_failed (give_tests hmac_code m t ws coin out) ≡ 0
    → giving hmac_code m t ws coin out
    ≡ returned m t out (on_bundle hmac_code answered m t ws coin)
unfolding Rattle.station.specs.Calls.giving pick
passed_so m t ws coin out z =
    ap (λ (b : Bool). returned m t out (pick b (on_bundle hmac_code answered m t ws coin)
    (refused (first_failed (give_tests hmac_code m t ws coin out))))) (eq-eqb _ 0 z)

module _ (m : Module) (t : Station) (ws : List ℕ) (coin : ℕ) (out : List ℕ) (L : Lengths t) (A : Accepted present_form hmac_code m t ws coin out) where
  abbrev K : State
  K = after present_form hmac_code m t ws coin out

  abbrev k : Station
  k = W.as_station m.n m.station K

  G : Grown present_form m.n m.station (state_of t) (main_of ws) (certificate_of ws) (sane_before present_form hmac_code m t ws coin out L A) A.fitting A.new
  G = grown present_form m.n m.station (state_of t) (main_of ws) (certificate_of ws) (sane_before present_form hmac_code m t ws coin out L A) A.fitting A.new

  back : held_in (set_of K.held) (slots_of K.held 1 sites) 0 sites ≡ K.held
  back = held_back present_form m.n K.held A.cleared.range.at_most G.rising G.proper

  -- the step goes on
  goes_on : length K.held ≡ quorum m.n → closes last_round t.stage ≡ false → (l : Lasting) → l ≡ lasting_then present_form hmac_code m t ws coin out
      → Below (moving m k (next_by m.n K.stage (set_of K.held) (slots_of K.held 1 sites) coin) l out).lent
      → returned m t out (by_module hmac_code moved m t.identity.question K (follows m.n K.stage K coin) l)
      ≡ or_as_was m t out (moving m k (next_by m.n K.stage (set_of K.held) (slots_of K.held 1 sites) coin) l out)
  unfolding Rattle.station.specs.Calls.returned moving Rattle.station.specs.Words.state_of Rattle.station.specs.Words.as_station step pick sending_words answer
  goes_on size goes l same_l low =
      ap (λ (z : ℕ). returned m t out (pick (above (last_for m q) q z) sent_all (refused not_above))) (sym (λ i. step_of (ek i) (er i)))
      ∙ go (above (last_for m q) q (step_of X.kind X.round.0)) refl low
    where
      q : ℕ
      q = t.identity.question

      X : Following
      X = next_by m.n t.stage (set_of K.held) (slots_of K.held 1 sites) coin

      x : Next
      x = follows m.n t.stage K coin

      F : Full present_form m.n K
      F = full_after present_form hmac_code m t ws coin out L A size

      R : Sendable present_form m.n t.identity.question x
      R = next_ready present_form hmac_code hmac_eight m t ws coin out L A size goes

      e : as_next X x.first x.second ≡ x
      e = next_is m.n t.stage (set_of K.held) (slots_of K.held 1 sites) coin K (sym back) goes (in_range_of t.stage F.rounds)

      ek : X.kind ≡ x.kind
      ek = ap (λ (y : Next). y.kind) e

      er : X.round.0 ≡ x.round
      er = ap (λ (y : Next). y.round) e

      s : Statement
      s = own_statement m t.identity.question x.kind x.value x.flag x.round

      sent_all : Outcome
      sent_all = sends (pick (ltb t.lasting.decision none || eqb l.decision none) sent sent_decided) s (x.first ++ x.second) (began m.n t.identity.question l x.stage s (x.first ++ x.second))

      go : (a : Bool) → above (last_for m q) q (step_of X.kind X.round.0) ≡ a → Below (pick a (sending_words m k X (own_fields m X.kind X.value X.flag X.round.0) l out) (with_no_bundle not_above k m out)).lent
          → returned m t out (pick a sent_all (refused not_above))
          ≡ or_as_was m t out (pick a (sending_words m k X (own_fields m X.kind X.value X.flag X.round.0) l out) (with_no_bundle not_above k m out))
      go true later low =
          skip _ _ _ _ (not_12 (ltb t.lasting.decision none || eqb l.decision none))
          (sym (sending_is m K A.cleared.range.at_most F l out A.cleared.room X x ek (ap (λ (y : Next). y.value) e) (ap (λ (y : Next). y.flag) e) er (ap (λ (y : Next). y.stage) e)
          (chosen m.n K A.cleared.range.at_most F t.stage refl goes coin R) (sent_proper present_form hmac_code hmac_eight m t ws coin out L A size goes)
          (range_fits m A.cleared.range) (ap (above (last_for m q) q) (sym (λ i. step_of (ek i) (er i))) ∙ later) low))
      go false later low = refl

  -- the step has ended
  ends : length K.held ≡ quorum m.n → Below (ending_words m k coin out).lent
      → returned m t out (by_module hmac_code ended m t.identity.question K coin) ≡ or_as_was m t out (ending_words m k coin out)
  unfolding Rattle.station.specs.Calls.returned ended ending_words shut_words Rattle.station.specs.Words.state_of Rattle.station.specs.Words.as_station pick set_of Rattle.station.specs.Words.slots_of Rattle.station.specs.Words.slot_of Rattle.format.specs.Bundle.all_written
  ends size low = go (closes last_round t.stage) refl low
    where
      l : Lasting
      l = lasting_then present_form hmac_code m t ws coin out

      same_l : lasting_at t.stage t.lasting (held_in (set_of K.held) (slots_of K.held 1 sites) 0 sites) ≡ lasting_then present_form hmac_code m t ws coin out
      same_l = ap (lasting_at t.stage t.lasting) back

      go : (b : Bool) → closes last_round t.stage ≡ b
          → Below (pick b (with_no_bundle closed_now (shut_words k (lasting_at t.stage t.lasting (held_by k))) m out)
          (moving m k (next_by m.n t.stage (set_of K.held) (slots_of K.held 1 sites) coin) (lasting_at t.stage t.lasting (held_by k)) out)).lent
          → returned m t out (pick b (keeps closed_now (shut K l))
          (by_module hmac_code moved m t.identity.question K (follows m.n t.stage K coin) l))
          ≡ or_as_was m t out (pick b (with_no_bundle closed_now (shut_words k (lasting_at t.stage t.lasting (held_by k))) m out)
          (moving m k (next_by m.n t.stage (set_of K.held) (slots_of K.held 1 sites) coin) (lasting_at t.stage t.lasting (held_by k)) out))
      go true e low = ap (λ (z : Lasting). with_no_bundle closed_now (shut_words k z) m out) (sym same_l)
      go false e low =
          subst (λ (z : Lasting). Below (moving m k (next_by m.n t.stage (set_of K.held) (slots_of K.held 1 sites) coin) z out).lent
          → returned m t out (by_module hmac_code moved m t.identity.question K (follows m.n t.stage K coin) l)
          ≡ or_as_was m t out (moving m k (next_by m.n t.stage (set_of K.held) (slots_of K.held 1 sites) coin) z out)) (sym same_l)
          (goes_on size e l refl) low

  pub given_is : first_failed (give_tests hmac_code m t ws coin out) ≡ 0 → jumps (state_of t) (main_of ws) ≡ false → Below (after_words m k coin out).lent
      → giving hmac_code m t ws coin out ≡ or_as_was m t out (after_words m k coin out)
  unfolding Rattle.station.specs.Calls.giving taken after_words Rattle.station.specs.Calls.returned Rattle.station.specs.Words.state_of Rattle.station.specs.Words.as_station pick
  given_is z stays low =
      passed_so m t ws coin out z
      ∙ ap (λ (b : Bool). returned m t out (pick b
      (on_bundle hmac_code entered m t ws coin)
      (on_bundle hmac_code taken m t ws coin))) stays
      ∙ go (ltb (length K.held) (quorum m.n)) refl (subst (λ (c : ℕ). Below (pick (ltb c (quorum m.n)) (with_no_bundle kept k m out) (ending_words m k coin out)).lent) number low)
      ∙ ap (λ (c : ℕ). or_as_was m t out (pick (ltb c (quorum m.n)) (with_no_bundle kept k m out) (ending_words m k coin out))) (sym number)
    where
      number : ones (set_of K.held) ≡ length K.held
      number = ones_set K.held G.rising

      go : (b : Bool) → ltb (length K.held) (quorum m.n) ≡ b → Below (pick b (with_no_bundle kept k m out) (ending_words m k coin out)).lent
          → returned m t out (pick b (keeps kept K) (by_module hmac_code ended m t.identity.question K coin))
          ≡ or_as_was m t out (pick b (with_no_bundle kept k m out) (ending_words m k coin out))
      go true e low = refl
      go false e low = ends (omega (arith, ltb-false (length K.held) (quorum m.n) e, insert_length (main_of ws) (state_of t).held, (sane_before present_form hmac_code m t ws coin out L A).few)) low
