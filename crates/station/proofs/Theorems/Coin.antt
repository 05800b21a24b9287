-- "A coin in range has no effect where none is tossed": a bundle given with coin 0 and with coin 1 has one and the same answer (number, word count,
-- station, module and lent words), unless both calls are answered 20, or both 23, and write a P flagged R-GET, of one round and with one certificate.
use Prim.Native.Nat.{ℕ, ◌+◌}
use Rattle.std.proofs.Math.Bool.{Bool, true, false}
use Rattle.std.specs.Prelude.{◌&&◌, ◌||◌, List, [], ◌∷◌, ◌++◌, ◌≡◌, eqb, ltb, length}
use Rattle.std.proofs.Math.Path.{refl}
use Rattle.std.proofs.Common.{sym, ap, ◌∙◌, eqb-true}
use Rattle.laws.specs.Pick.{pick}
use Rattle.laws.specs.Bools.{never}
use Rattle.laws.specs.Refusals.{first_failed}
use Rattle.laws.specs.Over.{over}
use Rattle.format.specs.Numbers.{kind_p, none, d_get, r_get, kept, sent, sent_decided, closed_now, jumped, not_above}
use Rattle.format.specs.Group.{quorum}
use Rattle.format.specs.Words.{step_of}
use Rattle.format.specs.Statement.{Statement, step}
use Rattle.format.specs.Lists.{some, every}
use Rattle.format.specs.Present.{last_round, statement_code, main_of, certificate_of, bundle_of}
use Rattle.rules.specs.Rules.{some_value}
use Rattle.modules.specs.declared.Last.{Last}
use Rattle.modules.specs.declared.Module.{Module}
use Rattle.modules.specs.Counter.{last_for, above}
use Rattle.station.specs.declared.Stage.{Stage}
use Rattle.station.specs.declared.Stage.TheVariants.{Gathering, Proposing, Voting}
use Rattle.station.specs.declared.Station.{Station}
use Rattle.station.specs.Machine.{State, Outcome, refused, keeps, sends, Next, next, proposing, insert, has_value, vote_value, decided, carried, decision_after, keeping, follows, lasting_at, with_decision, closes, shut, moved, own, began, ended, taken, voting, jumps, entered, answered}
use Rattle.station.specs.Demand.{one_of, tossing, no_effect, tossed}
use Rattle.station.specs.Present.{state_of, returned, give_tests, giving, CoinEffect, on_bundle}
use Rattle.station.specs.declared.Lasting.{Lasting}

-- no vote for 0 or 1 among some: none is decided, and no call first decides
no_votes : (s : Statement) (h : List Statement) → ltb (carried (s ∷ h)) none ≡ false → decided (s ∷ h) ≡ none
unfolding carried decided vote_value some every pick
no_votes s h = go (eqb s.value 0) (eqb s.value 1) (some_value 0 h) (some_value 1 h)
  where
    go : (a b x y : Bool) → ltb (pick ((a && true) || x) 0 (pick ((b && true) || y) 1 none)) none ≡ false
        → pick (a && every (has_value 0) h) 0 (pick (b && every (has_value 1) h) 1 none) ≡ none
    go true b x y e = never true e refl
    go false true true y e = never true e refl
    go false true false y e = never true e refl
    go false false x y e = refl

inserted : (m : Statement) (h : List Statement) → ltb (carried (insert m h)) none ≡ false → decided (insert m h) ≡ none
unfolding insert pick
inserted m [] = no_votes m []
inserted m (s ∷ h) = go (ltb m.station s.station)
  where
    go : (b : Bool) → ltb (carried (pick b (m ∷ s ∷ h) (s ∷ insert m h))) none ≡ false → decided (pick b (m ∷ s ∷ h) (s ∷ insert m h)) ≡ none
    go true = no_votes m (s ∷ h)
    go false = no_votes s (insert m h)

number_20 : (old new : ℕ) → new ≡ none → pick (ltb old none || eqb (decision_after old new) none) sent sent_decided ≡ sent
unfolding pick
number_20 old new e = rw e (go (ltb old none))
  where
    go : (b : Bool) → pick (b || eqb (pick b old none) none) sent sent_decided ≡ sent
    go true = refl
    go false = refl

module _ (code : Statement → List ℕ) (top n site : ℕ) (last : Last) where
  -- what comes of coin 0 and of coin 1
  pub data Tossed (question : ℕ) (l : Lasting) (of_0 of_1 : Outcome) : Type 0 where
    no_toss : of_0 ≡ of_1 → Tossed question l of_0 of_1
    toss : (answer r d : ℕ) (votes : List Statement) → one_of (sent ∷ jumped ∷ []) answer ≡ true → of_0 ≡ tossing code n site (with_decision d l) question answer r votes 0
        → of_1 ≡ tossing code n site (with_decision d l) question answer r votes 1 → Tossed question l of_0 of_1

  ended_tossed : (t : State) → (ltb (carried t.held) none ≡ false → decided t.held ≡ none)
      → Tossed t.question t.lasting (ended code top n site last t 0) (ended code top n site last t 1)
  unfolding ended pick follows step
  ended_tossed t nothing = go (closes top t.stage) t.stage
    where
      l : Stage → Lasting
      l g = lasting_at g t.lasting t.held

      go : (c : Bool) (g : Stage) → Tossed t.question t.lasting
          (pick c (keeps closed_now (shut t (l g))) (moved code top n site last t (follows n g t 0) (l g)))
          (pick c (keeps closed_now (shut t (l g))) (moved code top n site last t (follows n g t 1) (l g)))
      go true g = no_toss refl
      go false Gathering = no_toss refl
      go false (Proposing r f) = no_toss refl
      go false (Voting r) = votes (ltb (carried t.held) none) refl
        where
          e : ℕ
          e = decision_after t.lasting.decision (decided t.held)

          by_votes : Next
          by_votes = next kind_p (carried t.held) d_get (r.0 + 1) t.for_value [] (proposing (r.0 + 1) d_get)

          by_coin_0 : Next
          by_coin_0 = next kind_p 0 r_get (r.0 + 1) t.held [] (proposing (r.0 + 1) r_get)

          by_coin_1 : Next
          by_coin_1 = next kind_p 1 r_get (r.0 + 1) t.held [] (proposing (r.0 + 1) r_get)

          answer : ℕ
          answer = pick (ltb t.lasting.decision none || eqb e none) sent sent_decided

          votes : (b : Bool) → ltb (carried t.held) none ≡ b
              → Tossed t.question t.lasting (moved code top n site last t (pick b by_votes by_coin_0) (with_decision e t.lasting)) (moved code top n site last t (pick b by_votes by_coin_1) (with_decision e t.lasting))
          votes true h = no_toss refl
          votes false h = coins (above last t.question (step (own code site t.question kind_p 0 r_get (r.0 + 1))))
            where
              s : ℕ → Statement
              s coin = own code site t.question kind_p coin r_get (r.0 + 1)

              u : ℕ → State
              u coin = began n t.question (with_decision e t.lasting) (proposing (r.0 + 1) r_get) (s coin) (t.held ++ [])

              coins : (a : Bool) → Tossed t.question t.lasting
                  (pick a (sends answer (s 0) (t.held ++ []) (u 0)) (refused not_above)) (pick a (sends answer (s 1) (t.held ++ []) (u 1)) (refused not_above))
              coins true =
                  let k : answer ≡ sent = number_20 t.lasting.decision (decided t.held) (nothing h) in
                  toss sent (r.0 + 1) e (t.held ++ []) refl (ap (λ (x : ℕ). sends x (s 0) (t.held ++ []) (u 0)) k) (ap (λ (x : ℕ). sends x (s 1) (t.held ++ []) (u 1)) k)
              coins false = no_toss refl

  taken_tossed : (t : State) (m : Statement) (c : List Statement) → Tossed t.question t.lasting (taken code top n site last t m c 0) (taken code top n site last t m c 1)
  unfolding taken pick
  taken_tossed t m c = go (ltb (length (insert m t.held)) (quorum n))
    where
      go : (b : Bool) → Tossed t.question t.lasting (pick b (keeps kept (keeping n t m c)) (ended code top n site last (keeping n t m c) 0))
          (pick b (keeps kept (keeping n t m c)) (ended code top n site last (keeping n t m c) 1))
      go true = no_toss refl
      go false = ended_tossed (keeping n t m c) (inserted m t.held)

  -- a jump: the coin is the value of an R-GET proposal, and of nothing else
  entered_tossed : (t : State) (m : Statement) (c : List Statement) → Tossed t.question t.lasting (entered code top n site last t m c 0) (entered code top n site last t m c 1)
  unfolding pick step
  entered_tossed t m c = go (eqb m.kind kind_p) refl (eqb m.flag r_get) refl
    where
      later : Bool
      later = above last t.question (step_of m.kind m.round)

      s : ℕ → ℕ → ℕ → Statement
      s kind value flag = own code site t.question kind value flag m.round

      by : Bool → ℕ → ℕ → ℕ → Stage → Outcome
      by a kind value flag g = pick a (sends jumped (s kind value flag) c (began n t.question t.lasting g (s kind value flag) c)) (refused not_above)

      go : (a : Bool) → eqb m.kind kind_p ≡ a → (b : Bool) → eqb m.flag r_get ≡ b → Tossed t.question t.lasting
          (by later m.kind (pick (a && b) 0 m.value) m.flag (pick a (proposing m.round m.flag) (voting m.round)))
          (by later m.kind (pick (a && b) 1 m.value) m.flag (pick a (proposing m.round m.flag) (voting m.round)))
      go true x true y = coins later
        where
          k : m.kind ≡ kind_p
          k = eqb-true m.kind kind_p x

          f : m.flag ≡ r_get
          f = eqb-true m.flag r_get y

          coins : (a : Bool) → Tossed t.question t.lasting (by a m.kind 0 m.flag (proposing m.round m.flag)) (by a m.kind 1 m.flag (proposing m.round m.flag))
          coins true =
              toss jumped m.round t.lasting.decision c refl (λ i. by true (k i) 0 (f i) (proposing m.round (f i))) (λ i. by true (k i) 1 (f i) (proposing m.round (f i)))
          coins false = no_toss refl
      go true x false y = no_toss refl
      go false x b y = no_toss refl

  answered_tossed : (t : State) (m : Statement) (c : List Statement) → Tossed t.question t.lasting (answered code top n site last t m c 0) (answered code top n site last t m c 1)
  unfolding pick
  answered_tossed t m c = go (jumps t m)
    where
      go : (b : Bool) → Tossed t.question t.lasting (pick b (entered code top n site last t m c 0) (taken code top n site last t m c 0))
          (pick b (entered code top n site last t m c 1) (taken code top n site last t m c 1))
      go true = entered_tossed t m c
      go false = taken_tossed t m c

-- ---- all that giving returns
module _ (mac : List ℕ → List ℕ → List ℕ) (m : Module) (t : Station) (ws out : List ℕ) where
  -- what a toss returns: the number, and a bundle whose main statement is a P flagged R-GET of round r with the coin as its value
  pub tossed_says : (answer r d : ℕ) (votes : List Statement) (coin : ℕ)
      → let x = returned m t out (tossing (statement_code (mac m.key)) m.n m.station (with_decision d t.lasting) t.identity.question answer r votes coin) in
      (x.number ≡ answer) × (x.lent ≡ over (bundle_of (own (statement_code (mac m.key)) m.station t.identity.question kind_p coin r_get r) votes) out)
  unfolding Rattle.station.specs.Calls.returned
  tossed_says answer r d votes coin = (refl, refl)

  pub coin_effect : CoinEffect mac m t ws out
  unfolding Rattle.station.specs.Calls.giving pick Rattle.station.specs.Words.state_of
  coin_effect = go (eqb (first_failed (give_tests mac m t ws 0 out)) 0) refl refl
    where
      k : ℕ
      k = first_failed (give_tests mac m t ws 0 out)

      whole : ℕ → Outcome
      whole coin = on_bundle mac answered m t ws coin

      go : (b : Bool) → giving mac m t ws 0 out ≡ returned m t out (pick b (whole 0) (refused k)) → giving mac m t ws 1 out ≡ returned m t out (pick b (whole 1) (refused k)) → CoinEffect mac m t ws out
      go true x y = from (answered_tossed (statement_code (mac m.key)) last_round m.n m.station (last_for m t.identity.question) (state_of t) (main_of ws) (certificate_of ws))
        where
          from : Tossed (statement_code (mac m.key)) last_round m.n m.station (last_for m t.identity.question) t.identity.question t.lasting (whole 0) (whole 1) → CoinEffect mac m t ws out
          from (no_toss e) = no_effect (x ∙ ap (returned m t out) e ∙ sym y)
          from (toss answer r d votes one e f) = tossed answer r d votes one (x ∙ ap (returned m t out) e) (y ∙ ap (returned m t out) f)
      go false x y = no_effect (x ∙ sym y)
