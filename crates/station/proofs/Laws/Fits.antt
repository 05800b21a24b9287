-- Fit: each station that an unrefused opening or giving returns fits, whatever station was handed in. A refusal returns what it was given.
use Rattle.std.specs.Prelude.{ℕ, ◌-◌, ◌≤◌, ◌<◌, Bool, ◌&&◌, ◌||◌, ◌≡◌, ltb, length, take}
use Rattle.std.proofs.Math.Bool.{true, false}
use mathlib.Core.List.{List, [], ◌∷◌, ◌++◌}
use Rattle.std.proofs.Math.Path.{refl, subst}
use Rattle.std.proofs.Common.{sym, arith, eqb-true, eq-eqb}
use Rattle.std.proofs.Math.Dec.{eqb}
use Rattle.laws.specs.Pick.{pick}
use Rattle.laws.specs.Bools.{never, both, join, left}
use Rattle.laws.specs.All.{All, all_append}
use Rattle.format.specs.Form.{Form, last_round}
use Rattle.format.specs.Numbers.{kind_init, kind_p, none, d_get, r_get, code_words, least_stations}
use Rattle.format.specs.Group.{quorum}
use Rattle.format.specs.Words.{step_of}
use Rattle.format.specs.Statement.{Statement, step, statement_code}
use Rattle.format.specs.Lists.{some, leading}
use Rattle.format.specs.Bundle.{main_of, certificate_of}
use Rattle.format.proofs.Laws.Shape.{Shape, init, proposal, vote, formed_in, formed_out}
use Rattle.rules.specs.declared.Group.{Group}
use Rattle.rules.specs.Rules.{Holds, none_votes, Backed}
use Rattle.rules.proofs.Theorems.Copied.{backed_copied}
use Rattle.modules.specs.declared.Module.{Module}
use Rattle.station.specs.declared.Stage.{Stage}
use Rattle.station.specs.declared.Stage.TheVariants.{Gathering, Proposing, Voting}
use Rattle.station.specs.declared.Station.{Station}
use Rattle.station.specs.Machine.{State, Outcome, own, began, shut, round_in, stage_step, stage_of, copied_value, supplies_for_value, supplies_for_none, closes, decision_at, decided, vote_value, follows, after_votes, carried, has_value, kept_for_value, kept_for_none, value_group, no_group, undecided}
use Rattle.station.specs.Words as W
use Rattle.station.specs.Words.{state_of, Lengths}
use Rattle.station.specs.Fit.{fits}
use Rattle.station.specs.Calls.{returned, opening, giving, opening_outcome, giving_outcome, no_station}
use Rattle.format.proofs.Laws.ReadBack.{Proper}
use Rattle.station.proofs.Laws.Sane.{Kept, InRounds, FlagOf, Sane, sane_fits}
use Rattle.station.proofs.Laws.FitSane.{fits_sane}
use Rattle.station.proofs.Laws.LastRound.{below_last}
use Rattle.station.proofs.Laws.Keep.{Fitting, keep_sane, all_take, taken_for_value, taken_for_none, stage_of_rounds, stage_of_flag}
use Rattle.station.proofs.Laws.End.{Full, EarlyDGet, Sendable, inits_ready, inits_backed, votes_ready, votes_backed, proposals_ready, proposals_backed}
use Rattle.station.proofs.Laws.Views.{InRange, Accepted, Jumping, jump_statement, after, lasting_then, sent_statement, Gives, refuses, holds_on, shuts, goes_on, enters, gives_view, sane_before, full_after, init_statement, Opens, no_opening, begins, opens_view}
use Rattle.station.specs.Returns.{unrefused}
use Rattle.station.specs.declared.Lasting.{Lasting}

-- ---- decisions are 0, 1 or none
vote_low : (h : List Statement) → vote_value h ≤ none
unfolding vote_value pick
vote_low h = go (Rattle.format.specs.Lists.every (has_value 0) h) (Rattle.format.specs.Lists.every (has_value 1) h)
  where
    go : (x y : Bool) → pick x 0 (pick y 1 none) ≤ none
    go true y = omega arith
    go false true = omega arith
    go false false = omega arith

pub decision_low : (g : Stage) (old : ℕ) (h : List Statement) → old ≤ none → decision_at g old h ≤ none
unfolding pick decided
decision_low Gathering old h e = e
decision_low (Proposing r f) old h e = e
decision_low (Voting r) old h e = go (ltb old none)
  where
    go : (b : Bool) → pick b old (vote_value h) ≤ none
    go true = e
    go false = vote_low h

module _ (form : Form) where
  -- ---- a station that has just sent
  module _ (n site question : ℕ) (l : Lasting) (g : Stage) (s : Statement) (c : List Statement) (big : least_stations ≤ n) (p : Proper form n s) (mine : s.station ≡ site)
      (low : 1 ≤ s.station) (asked : s.question ≡ question) (steps : step s ≡ stage_step g) (r : InRounds form g) (f : FlagOf g s) (e : l.decision ≤ none)
      (cp : All (Proper form n) c) (ca : All (λ s. s.question ≡ question) c)
      (one : supplies_for_value g s ≡ true → Holds (value_group n g s.value) (take (quorum n) c))
      (two : supplies_for_none g s ≡ true → Holds (none_votes n (round_in g - 1)) (take (quorum n) c)) where
    nothing : Kept form n question no_group []
    nothing = record { as_asked = record { size = refl; rising = tt; each = tt }; proper = tt; alike = tt }

    kept_front : (h : Group) → Holds h (take (quorum n) c) → Kept form n question h (take (quorum n) c)
    kept_front h a = record { as_asked = a; proper = all_take (Proper form n) (quorum n) c cp; alike = all_take (λ s. s.question ≡ question) (quorum n) c ca }

    for_value_kept : Kept form n question (kept_for_value n g (s ∷ [])) (pick (supplies_for_value g s) (take (quorum n) c) [])
    unfolding kept_for_value some leading pick
    for_value_kept = go (supplies_for_value g s) refl
      where
        go : (b : Bool) → supplies_for_value g s ≡ b → Kept form n question (pick (b || false) (value_group n g (pick b s.value 2)) no_group) (pick b (take (quorum n) c) [])
        go true x = kept_front (value_group n g s.value) (one x)
        go false x = nothing

    for_none_kept : Kept form n question (kept_for_none n g (s ∷ [])) (pick (supplies_for_none g s) (take (quorum n) c) [])
    unfolding kept_for_none some pick
    for_none_kept = go (supplies_for_none g s) refl
      where
        go : (b : Bool) → supplies_for_none g s ≡ b → Kept form n question (pick (b || false) (none_votes n (round_in g - 1)) no_group) (pick b (take (quorum n) c) [])
        go true x = kept_front (none_votes n (round_in g - 1)) (two x)
        go false x = nothing

    pub began_sane : Sane form n site (began n question l g s c)
    unfolding some
    began_sane =
        record {
          still_open = refl;
          rising = (low, tt);
          proper = (p, tt);
          alike = ((asked, steps), tt);
          few = omega arith;
          mine = left (eqb s.station site) false (eq-eqb _ _ mine);
          rounds = r;
          flag = ((λ z. f), tt);
          decision = e;
          for_value = for_value_kept;
          for_none = for_none_kept;
        }

  decision_before : (n site : ℕ) (t : Station) → Sane form n site (state_of form t) → t.lasting.decision ≤ none
  unfolding state_of
  decision_before n site t S = S.decision

  -- ---- what follows is ready, and backed
  module _ (n : ℕ) (k : State) (F : Full form n k) (coin : ℕ) (bit : coin < 2) where
    pub ready : (g : Stage) → k.stage ≡ g → closes (last_round form) g ≡ false → Sendable form n k.question (follows n g k coin)
    unfolding follows
    ready Gathering e c = inits_ready form n k F e
    ready (Proposing r f) e c = votes_ready form n k F r.0 f e
    ready (Voting r) e c = proposals_ready form n k F r.0 e (below_last form r.0 (subst (InRounds form) e F.rounds).1 c) coin bit

    pub backed : EarlyDGet k.held → (g : Stage) → k.stage ≡ g → closes (last_round form) g ≡ false → (s : Statement)
        → s.kind ≡ (follows n g k coin).kind → s.value ≡ (follows n g k coin).value → s.flag ≡ (follows n g k coin).flag → s.round ≡ (follows n g k coin).round
        → Backed n s ((follows n g k coin).first ++ (follows n g k coin).second)
    unfolding follows pick
    backed early Gathering e c s a b d r = inits_backed form n k F e s a b d r
    backed early (Proposing p f) e c s a b d r = votes_backed form n k F p.0 f e early s a b r
    backed early (Voting p) e c s a b d r = go (ltb (carried k.held) none) refl
      where
        top : p.0 < last_round form
        top = below_last form p.0 (subst (InRounds form) e F.rounds).1 c

        go : (z : Bool) → ltb (carried k.held) none ≡ z → Backed n s ((after_votes p.0 k coin).first ++ (after_votes p.0 k coin).second)
        go true q =
            rw q (rw q at (proposals_backed form n k F p.0 e top coin s (rw q at a) (rw q (rw q at b)) (rw q (rw q at d)) (rw q at r)))
        go false q =
            rw q (rw q at (proposals_backed form n k F p.0 e top coin s (rw q at a) (rw q (rw q at b)) (rw q (rw q at d)) (rw q at r)))

  -- ---- the returned stations
  module _ (mac : List ℕ → List ℕ → List ℕ) (eight : (key ws : List ℕ) → length (mac key ws) ≡ code_words) where
    -- a statement of the module's own station is proper
    pub own_proper : (m : Module) (question kind value flag round : ℕ) → InRange form m
        → Shape form (own (statement_code form (mac m.key)) m.station question kind value flag round) → Proper form m.n (own (statement_code form (mac m.key)) m.station question kind value flag round)
    own_proper m question kind value flag round r s =
        record {
          formed = formed_in form m.n (own (statement_code form (mac m.key)) m.station question kind value flag round) (record { low = r.low; high = r.high; shape = s });
          eight = eight m.key _;
        }

    pub init_sane : (m : Module) (question proposal : ℕ) (jump : Bool) → InRange form m → proposal < 2
        → Sane form m.n m.station (began m.n question (undecided jump) Gathering (init_statement form mac m question proposal []) [])
    unfolding step
    init_sane m question p jump r v =
        began_sane m.n m.station question (undecided jump) Gathering (init_statement form mac m question p []) [] r.at_least
        (own_proper m question kind_init p d_get 0 r (init refl refl v refl)) refl r.low refl refl tt tt (omega arith) tt tt
        (λ e. never false refl e) (λ e. never false refl e)

    module _ (m : Module) (t : Station) (ws : List ℕ) (coin : ℕ) (out : List ℕ) (L : Lengths form t) (A : Accepted form mac m t ws coin out) where
      abbrev k : State
      k = after form mac m t ws coin out

      stage_same : k.stage ≡ t.stage
      unfolding state_of
      stage_same = refl

      question_same : k.question ≡ t.identity.question
      unfolding state_of
      question_same = refl

      pub next_ready : length k.held ≡ quorum m.n → closes (last_round form) t.stage ≡ false → Sendable form m.n t.identity.question (follows m.n t.stage k coin)
      next_ready size c =
          subst (λ (q : ℕ). Sendable form m.n q (follows m.n t.stage k coin)) question_same
          (ready m.n k (full_after form mac m t ws coin out L A size) coin A.cleared.coin_bit t.stage stage_same c)

      pub sent_proper : length k.held ≡ quorum m.n → closes (last_round form) t.stage ≡ false → Proper form m.n (sent_statement form mac m t ws coin out)
      sent_proper size c =
          let x = follows m.n t.stage k coin in
          own_proper m t.identity.question x.kind x.value x.flag x.round A.cleared.range
          ((next_ready size c).shape (sent_statement form mac m t ws coin out) refl refl refl refl)

      pub sent_sane : length k.held ≡ quorum m.n → closes (last_round form) t.stage ≡ false
          → Sane form m.n m.station (began m.n t.identity.question (lasting_then form mac m t ws coin out) (follows m.n t.stage k coin).stage
          (sent_statement form mac m t ws coin out) ((follows m.n t.stage k coin).first ++ (follows m.n t.stage k coin).second))
      unfolding step
      sent_sane size c_on =
          let x = follows m.n t.stage k coin in
          let R = next_ready size c_on in
          let c = x.first ++ x.second in
          began_sane m.n m.station t.identity.question (lasting_then form mac m t ws coin out) x.stage (sent_statement form mac m t ws coin out) c
          A.cleared.range.at_least (sent_proper size c_on) refl A.cleared.range.low refl (λ i. step_of (R.kind i) (R.round i)) R.rounds (R.flag (sent_statement form mac m t ws coin out) refl)
          (decision_low t.stage t.lasting.decision k.held (decision_before m.n m.station t (sane_before form mac m t ws coin out L A)))
          (all_append (Proper form m.n) x.first x.second R.proper R.more_proper)
          (all_append (λ s. s.question ≡ t.identity.question) x.first x.second R.alike R.more_alike)
          (λ e. subst (λ (l : List Statement). Holds (value_group m.n x.stage x.value) l) (sym R.front) (R.for_value (sent_statement form mac m t ws coin out) refl refl e))
          (λ e. subst (λ (l : List Statement). Holds (none_votes m.n (round_in x.stage - 1)) l) (sym R.front) (R.for_none (sent_statement form mac m t ws coin out) refl refl e))

      pub kept_sane : length k.held < quorum m.n → Sane form m.n m.station k
      kept_sane few = keep_sane form m.n m.station (state_of form t) (main_of form ws) (certificate_of form ws) (sane_before form mac m t ws coin out L A) A.fitting A.new few

    -- ---- a jump
    module _ (m : Module) (t : Station) (ws : List ℕ) (coin : ℕ) (out : List ℕ) (J : Jumping form mac m t ws coin out) where
      abbrev u : Statement
      u = jump_statement form mac m t ws coin out

      given_shape : Shape form (main_of form ws)
      given_shape = (formed_out form m.n (main_of form ws) J.fitting.proper.formed).shape

      up : 0 < step (main_of form ws)
      up = omega (arith, J.ahead)

      -- the value is the given one, but for an R-GET proposal, where it is the coin
      pub copied_else : ((main_of form ws).kind ≡ kind_p → (main_of form ws).flag ≡ r_get → ⊥) → u.value ≡ (main_of form ws).value
      unfolding pick
      copied_else other = go (eqb (main_of form ws).kind kind_p && eqb (main_of form ws).flag r_get) refl
        where
          go : (b : Bool) → (eqb (main_of form ws).kind kind_p && eqb (main_of form ws).flag r_get) ≡ b → pick b coin (main_of form ws).value ≡ (main_of form ws).value
          go true e = let a = both (eqb (main_of form ws).kind kind_p) _ e in absurd (other (eqb-true _ _ a.0) (eqb-true _ _ a.1))
          go false e = refl

      copied_low : (v : ℕ) → (main_of form ws).value < v → 2 ≤ v → u.value < v
      unfolding pick
      copied_low v low two = go (eqb (main_of form ws).kind kind_p && eqb (main_of form ws).flag r_get)
        where
          go : (b : Bool) → pick b coin (main_of form ws).value < v
          go true = omega (arith, J.cleared.coin_bit)
          go false = low

      pub jump_proper : Proper form m.n u
      jump_proper = own_proper m t.identity.question (main_of form ws).kind (copied_value (main_of form ws) coin) (main_of form ws).flag (main_of form ws).round J.cleared.range (shaped given_shape)
        where
          shaped : Shape form (main_of form ws) → Shape form u
          shaped (init a b c d) = init a b (copied_low 2 c (omega arith)) d
          shaped (proposal a b c d e) = proposal a b c (copied_low 2 d (omega arith)) e
          shaped (vote a b c d e) = vote a b c (let z : u.value < 3 = copied_low 3 (omega (arith, d)) (omega arith) in omega arith) e

      -- "no rule looks at the main statement's station or code": the own statement fits where the given one does
      pub jump_fitting : Fitting form m.n (state_of form t).question (stage_of (main_of form ws)) u (certificate_of form ws)
      unfolding state_of step
      jump_fitting =
          record {
            proper = jump_proper;
            certificate = J.fitting.certificate;
            asked = refl;
            alike = J.fitting.alike;
            in_step = J.fitting.in_step;
            backed = backed_copied m.n (main_of form ws) u refl refl refl copied_else (certificate_of form ws) J.fitting.backed;
          }

      pub jump_rounds : InRounds form (stage_of (main_of form ws))
      jump_rounds = stage_of_rounds form (main_of form ws) given_shape up

      pub jump_sane : Lengths form t → Sane form m.n m.station (began m.n t.identity.question t.lasting (stage_of (main_of form ws)) u (certificate_of form ws))
      unfolding state_of
      jump_sane L =
          began_sane m.n m.station t.identity.question t.lasting (stage_of (main_of form ws)) u (certificate_of form ws) J.cleared.range.at_least jump_proper refl J.cleared.range.low refl
          jump_fitting.in_step jump_rounds (stage_of_flag (main_of form ws) u refl)
          (decision_before m.n m.station t (fits_sane form m.n m.station t J.cleared.range.at_most J.cleared.range.low J.cleared.range.high L J.cleared.fit J.cleared.still_open))
          J.fitting.certificate J.fitting.alike
          (taken_for_value form m.n (state_of form t).question (stage_of (main_of form ws)) u (certificate_of form ws) jump_fitting jump_rounds)
          (taken_for_none form m.n (state_of form t).question (stage_of (main_of form ws)) u (certificate_of form ws) jump_fitting jump_rounds)

    -- each station that is returned is one of these four
    shut_fits : (n site : ℕ) (t : State) → t.closed ≡ true → fits form n site (W.as_station form n site t) ≡ true
    unfolding fits W.as_station
    shut_fits n site t e = join (eqb n n && eqb site site) _ (join (eqb n n) _ (eq-eqb n n refl) (eq-eqb site site refl)) (rw e)

    pub giving_fits : (m : Module) (t : Station) (ws : List ℕ) (coin : ℕ) (out : List ℕ) → Lengths form t
        → unrefused (giving form mac m t ws coin out).number ≡ true → fits form m.n m.station (giving form mac m t ws coin out).station ≡ true
    unfolding giving returned
    giving_fits m t ws coin out L = go (giving_outcome form mac m t ws coin out) (gives_view form mac m t ws coin out L)
      where
        go : (o : Outcome) → Gives form mac m t ws coin out o → unrefused (returned form m t out o).number ≡ true → fits form m.n m.station (returned form m t out o).station ≡ true
        go _ (refuses e) u = never _ e u
        go _ (holds_on A few) u =
            sane_fits form m.n m.station (after form mac m t ws coin out) A.cleared.range.at_most A.cleared.range.low A.cleared.range.high (kept_sane m t ws coin out L A few)
        go _ (shuts A size c) u =
            shut_fits m.n m.station (shut (after form mac m t ws coin out) (lasting_then form mac m t ws coin out)) refl
        go _ (goes_on A size c above k) u = sane_fits form m.n m.station _ A.cleared.range.at_most A.cleared.range.low A.cleared.range.high (sent_sane m t ws coin out L A size c)
        go _ (enters J above) u = sane_fits form m.n m.station _ J.cleared.range.at_most J.cleared.range.low J.cleared.range.high (jump_sane m t ws coin out J L)

    pub opening_fits : (m : Module) (question v jump : ℕ) (out : List ℕ) → unrefused (opening form mac m question v jump out).number ≡ true
        → fits form m.n m.station (opening form mac m question v jump out).station ≡ true
    unfolding opening returned
    opening_fits m question v jump out = go (opening_outcome form mac m question v jump out) (opens_view form mac m question v jump out)
      where
        go : (o : Outcome) → Opens form mac m question v jump out o → unrefused (returned form m (no_station form) out o).number ≡ true
            → fits form m.n m.station (returned form m (no_station form) out o).station ≡ true
        go _ (no_opening e) u = never _ e u
        go _ (begins room r p a) u =
            sane_fits form m.n m.station (began m.n question (undecided (eqb jump 1)) Gathering (init_statement form mac m question v out) []) r.at_most r.low r.high
            (init_sane m question v (eqb jump 1) r p)
