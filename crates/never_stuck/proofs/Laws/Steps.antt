-- What follows the end of a step: its step, its value where what is held agrees, and the decision. Of states alone.
use Rattle.std.specs.Prelude.{◌≡◌, refl, Bool, true, false, ◌&&◌, ◌||◌, ◌⊎◌, List, [], ◌∷◌, ℕ, suc, ◌+◌, ◌*◌, ◌≤◌, ◌<◌, eqb, ltb, leb, length}
use Rattle.std.proofs.Common.{sym, ◌∙◌, subst, inl, inr, arith, eqb-true, ne_eqb, ltb-true, leb-true, leb-false}
use Rattle.std.proofs.lemmas.Bool.{eqb-false}
use Rattle.laws.specs.Pick.{pick}
use Rattle.laws.specs.Bools.{both, join, left, either, is_false}
use Rattle.format.specs.Form.{present_form}
use Rattle.format.specs.Numbers.{kind_init, kind_p, kind_v, none, d_get, r_get}
use Rattle.format.specs.Words.{step_of}
use Rattle.format.specs.Statement.{Statement}
use Rattle.format.specs.Lists.{every}
use Rattle.format.specs.Present.{last_round}
use Rattle.rules.specs.Rules.{some_value}
use Rattle.certificate.proofs.Theorems.Exact.{every_out}
use Rattle.station.specs.declared.Stage.{Stage}
use Rattle.station.specs.declared.Stage.TheVariants.{Gathering, Proposing, Voting}
use Rattle.station.specs.Machine.{State, Next, kind_in, round_in, follows, closes, decision_at, decided, stage_step, has_value, carried, vote_value, after_votes}
use Rattle.station.proofs.Laws.Sane.{InRounds}
use Rattle.station.proofs.Laws.Keep.{steps_p, steps_v, steps_0}
use Rattle.station.proofs.Laws.Pieces as P
use Rattle.agreement.proofs.Maths.Took.{every_decided}

-- ---- tests of statements
-- a vote for v or for none
abbrev pub calm : ℕ → Statement → Bool
calm v s = has_value v s || has_value none s

abbrev pub any : Statement → Bool
any s = true

pub every_any : (h : List Statement) → every any h ≡ true
unfolding every
every_any [] = refl
every_any (s ∷ h) = every_any h

pub calm_of : (v : ℕ) (h : List Statement) → every (has_value v) h ≡ true → every (calm v) h ≡ true
unfolding every
calm_of v [] e = refl
calm_of v (s ∷ h) e = let a = both (has_value v s) _ e in join (calm v s) _ (left (has_value v s) _ a.0) (calm_of v h a.1)

-- ---- which step follows
-- what holds of both cases holds behind votes
by_votes : (Q : Next → Type 0) (r : ℕ) (t : State) (coin : ℕ) → ((x : Next) → x.kind ≡ kind_p → x.round ≡ r + 1 → stage_step x.stage ≡ step_of kind_p (r + 1) → Q x) → Q (after_votes r t coin)
unfolding pick
by_votes Q r t coin f = go (ltb (carried t.held) none)
  where
    go : (b : Bool) → Q (pick {A = Next} b
        (record { kind = kind_p; value = carried t.held; flag = d_get; round = r + 1; first = t.for_value; second = []; stage = Proposing (record { 0 = r + 1 }) d_get })
        (record { kind = kind_p; value = coin; flag = r_get; round = r + 1; first = t.held; second = []; stage = Proposing (record { 0 = r + 1 }) r_get }))
    go true = f _ refl refl refl
    go false = f _ refl refl refl

-- the step of the statement that follows is that of the stage which follows
pub next_step : (n : ℕ) (g : Stage) (u : State) (coin : ℕ) → step_of (follows n g u coin).kind (follows n g u coin).round ≡ stage_step (follows n g u coin).stage
unfolding follows
next_step n Gathering u coin = refl
next_step n (Proposing r f) u coin = refl
next_step n (Voting r) u coin =
    by_votes (λ x. step_of x.kind x.round ≡ stage_step x.stage) r.0 u coin (λ x k e s. (λ i. step_of (k i) (e i)) ∙ sym s)

-- from step 0 to step 2, or to the next: no station is ever at step 1
abbrev pub Follows : ℕ → ℕ → Type 0
Follows σ σ' = ((σ ≡ 0) × (σ' ≡ 2)) ⊎ (σ' ≡ suc σ)

pub next_is : (n : ℕ) (g : Stage) (u : State) (coin : ℕ) → Follows (stage_step g) (stage_step (follows n g u coin).stage)
unfolding follows
next_is n Gathering u coin = inl (steps_0 kind_init 0 refl, steps_p kind_p 1 refl)
next_is n (Proposing r f) u coin = inr (omega (arith, steps_p kind_p r.0 refl, steps_v kind_v r.0 refl))
next_is n (Voting r) u coin =
    by_votes (λ x. Follows (stage_step (Voting r)) (stage_step x.stage)) r.0 u coin
    (λ x k e s. inr (s ∙ omega (arith, steps_v kind_v r.0 refl, steps_p kind_p (r.0 + 1) refl)))

-- a step up to the one that follows is one up to this, or it is that one
pub up_to : {σ σ' : ℕ} → Follows σ σ' → (s : ℕ) → s ≤ σ' → (s ≡ 1 → ⊥) → (s ≤ σ) ⊎ (s ≡ σ')
up_to {σ} {σ'} f s le ne = go (leb s σ) refl f
  where
    go : (b : Bool) → leb s σ ≡ b → Follows σ σ' → (s ≤ σ) ⊎ (s ≡ σ')
    go true e f = inl (leb-true s σ e)
    go false e (inl f) = inr (omega (arith, leb-false s σ e, f.0, f.1, ne))
    go false e (inr f) = inr (omega (arith, leb-false s σ e))

pub not_one : (g : Stage) → InRounds present_form g → stage_step g ≡ 1 → ⊥
not_one Gathering i e = omega (arith, steps_0 kind_init 0 refl)
not_one (Proposing r f) i e = omega (arith, i.0, steps_p kind_p r.0 refl)
not_one (Voting r) i e = omega (arith, i.0, steps_v kind_v r.0 refl)

-- a station not past a round is not past its votes
pub within_round : (g : Stage) (r : ℕ) → round_in g ≤ r → stage_step g ≤ 2 * r + 1
within_round Gathering r le = omega (arith, steps_0 kind_init 0 refl)
within_round (Proposing p f) r le = omega (arith, steps_p kind_p p.0 refl)
within_round (Voting p) r le = omega (arith, steps_v kind_v p.0 refl)

-- the round of a station in proposals
pub round_of_proposals : (g : Stage) (r : ℕ) → 1 ≤ r → stage_step g ≡ 2 * r → round_in g ≡ r
round_of_proposals Gathering r from e = absurd (omega (arith, steps_0 kind_init 0 refl))
round_of_proposals (Proposing p f) r from e = omega (arith, steps_p kind_p p.0 refl)
round_of_proposals (Voting p) r from e = absurd (omega (arith, steps_v kind_v p.0 refl))

-- the kind and the round of what a station in votes holds
pub in_votes : (g : Stage) (r : ℕ) → stage_step g ≡ 2 * r + 1 → (kind_in g ≡ kind_v) × (round_in g ≡ r)
in_votes Gathering r e = absurd (omega (arith, steps_0 kind_init 0 refl))
in_votes (Proposing p f) r e = absurd (omega (arith, steps_p kind_p p.0 refl))
in_votes (Voting p) r e = (refl, omega (arith, steps_v kind_v p.0 refl))

-- only the votes of the last round close
pub before_last : (g : Stage) → stage_step g < 2 * last_round + 1 → closes last_round g ≡ false
before_last Gathering e = refl
before_last (Proposing r f) e = refl
before_last (Voting r) e = ne_eqb r.0 last_round (λ z. omega (arith, steps_v kind_v r.0 refl))

pub closes_last : (g : Stage) (r : ℕ) → stage_step g ≡ 2 * r + 1 → closes last_round g ≡ true → r ≡ last_round
closes_last Gathering r e c = absurd (omega (arith, steps_0 kind_init 0 refl))
closes_last (Proposing p f) r e c = absurd (omega (arith, steps_p kind_p p.0 refl))
closes_last (Voting p) r e c = omega (arith, steps_v kind_v p.0 refl, eqb-true p.0 last_round c)

-- ---- what follows where what is held agrees
-- what calm votes carry
carried_calm : (v : ℕ) (h : List Statement) → every (calm v) h ≡ true → (carried h ≡ v) ⊎ (carried h ≡ none)
unfolding carried pick
carried_calm v h e = go (some_value 0 h) refl (some_value 1 h) refl
  where
    found : (w : ℕ) → w < 2 → some_value w h ≡ true → w ≡ v
    found w low s =
        let f = P.find_some (λ x. calm v x ≡ true) (λ x. has_value w x && true) h (every_out (calm v) h e) s in
        by f (eqb-true f.one.value w (both (has_value w f.one) true f.passes).0) (either (has_value v f.one) (has_value none f.one) f.has)
      where
        by : (f : P.SomeWith (λ x. calm v x ≡ true) (λ x. has_value w x && true)) → f.one.value ≡ w → (has_value v f.one ≡ true) ⊎ (has_value none f.one ≡ true) → w ≡ v
        by f a (inl z) = sym a ∙ eqb-true f.one.value v z
        by f a (inr z) = absurd (omega (arith, a, eqb-true f.one.value none z))

    go : (a : Bool) → some_value 0 h ≡ a → (b : Bool) → some_value 1 h ≡ b → (pick a 0 (pick b 1 none) ≡ v) ⊎ (pick a 0 (pick b 1 none) ≡ none)
    go true x b y = inl (found 0 (omega arith) x)
    go false x true y = inl (found 1 (omega arith) y)
    go false x false y = inr refl

-- what equal proposals give
vote_all : (v : ℕ) (h : List Statement) → v < 2 → 0 < length h → every (has_value v) h ≡ true → vote_value h ≡ v
unfolding vote_value pick every
vote_all v [] low some e = absurd (omega arith)
vote_all v (s ∷ h) low some e = go (eqb v 0) refl
  where
    value : s.value ≡ v
    value = eqb-true s.value v (both (has_value v s) _ e).0

    go : (b : Bool) → eqb v 0 ≡ b → pick (has_value 0 s && every (has_value 0) h) 0 (pick (has_value 1 s && every (has_value 1) h) 1 none) ≡ v
    go true z =
        let v0 : v ≡ 0 = eqb-true v 0 z in
        let e0 : (has_value 0 s && every (has_value 0) h) ≡ true = subst (λ (w : ℕ). (has_value w s && every (has_value w) h) ≡ true) v0 e in
        rw e0 (sym v0)
    go false z =
        let v1 : v ≡ 1 = omega (arith, eqb-false v 0 z) in
        let e0 : (has_value 0 s && every (has_value 0) h) ≡ false
        = is_false (has_value 0 s && every (has_value 0) h) (λ y. let w : s.value ≡ 0 = eqb-true s.value 0 (both (has_value 0 s) _ y).0 in omega (arith, value, v1)) in
        let e1 : (has_value 1 s && every (has_value 1) h) ≡ true = subst (λ (w : ℕ). (has_value w s && every (has_value w) h) ≡ true) v1 e in
        rw (e0, e1) (sym v1)

-- votes for v or none and the coin v: P of the next round with v
pub votes_go : (n r v coin : ℕ) (g : Stage) (u : State) → coin ≡ v → stage_step g ≡ 2 * r + 1 → every (calm v) u.held ≡ true
    → (stage_step (follows n g u coin).stage ≡ 2 * (r + 1)) × ((follows n g u coin).value ≡ v)
unfolding follows pick
votes_go n r v coin Gathering u alike e a = absurd (omega (arith, steps_0 kind_init 0 refl))
votes_go n r v coin (Proposing p f) u alike e a = absurd (omega (arith, steps_p kind_p p.0 refl))
votes_go n r v coin (Voting p) u alike e a = (
  by_votes (λ x. stage_step x.stage ≡ 2 * (r + 1)) p.0 u coin (λ x k i s. s ∙ omega (arith, steps_v kind_v p.0 refl, steps_p kind_p (p.0 + 1) refl)),
  go (ltb (carried u.held) none) refl,
)
  where
    is_v : carried u.held < none → (carried u.held ≡ v) ⊎ (carried u.held ≡ none) → carried u.held ≡ v
    is_v low (inl h) = h
    is_v low (inr h) = absurd (omega arith)

    go : (b : Bool) → ltb (carried u.held) none ≡ b → (pick {A = Next} b
        (record { kind = kind_p; value = carried u.held; flag = d_get; round = p.0 + 1; first = u.for_value; second = []; stage = Proposing (record { 0 = p.0 + 1 }) d_get })
        (record { kind = kind_p; value = coin; flag = r_get; round = p.0 + 1; first = u.held; second = []; stage = Proposing (record { 0 = p.0 + 1 }) r_get })).value ≡ v
    go true z = is_v (ltb-true (carried u.held) none z) (carried_calm v u.held a)
    go false z = alike

-- equal proposals: V with their value
pub proposals_go : (n r v coin : ℕ) (g : Stage) (u : State) → v < 2 → 1 ≤ r → stage_step g ≡ 2 * r → 0 < length u.held → every (has_value v) u.held ≡ true
    → (stage_step (follows n g u coin).stage ≡ 2 * r + 1) × ((follows n g u coin).value ≡ v)
unfolding follows
proposals_go n r v coin Gathering u low from e some a = absurd (omega (arith, steps_0 kind_init 0 refl))
proposals_go n r v coin (Proposing p f) u low from e some a = (omega (arith, steps_p kind_p p.0 refl, steps_v kind_v p.0 refl), vote_all v u.held low some a)
proposals_go n r v coin (Voting p) u low from e some a = absurd (omega (arith, steps_v kind_v p.0 refl))

-- equal votes: decided, now or before
pub votes_decide : (r v : ℕ) (g : Stage) (d : ℕ) (h : List Statement) → v < 2 → stage_step g ≡ 2 * r + 1 → every (has_value v) h ≡ true → decision_at g d h < none
unfolding pick
votes_decide r v Gathering d h low e a = absurd (omega (arith, steps_0 kind_init 0 refl))
votes_decide r v (Proposing p f) d h low e a = absurd (omega (arith, steps_p kind_p p.0 refl))
votes_decide r v (Voting p) d h low e a = by (ltb d none) refl
  where
    by : (z : Bool) → ltb d none ≡ z → pick z d (decided h) < none
    by true z = ltb-true d none z
    by false z = every_decided h v low a
