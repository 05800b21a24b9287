-- A station that takes a valid bundle of its step, and does not end the step with it, stays sane.
use Rattle.std.specs.Prelude.{ℕ, zero, suc, ◌+◌, ◌-◌, ◌*◌, ◌≤◌, ◌<◌, Bool, ◌&&◌, ◌||◌, ◌⊎◌, List, [], ◌∷◌, ◌++◌, ◌≡◌, eqb, length, take}
use Rattle.std.proofs.Math.Bool.{true, false}
use Rattle.std.proofs.Common.{inl, inr, ap, ◌∙◌, subst, arith, take_at, take_all, eqb-true, eq-eqb, ne_eqb, ltb-true}
use Rattle.std.proofs.Math.Path.{refl, sym}
use Rattle.std.proofs.Math.Dec.{ltb}
use Rattle.laws.specs.Pick.{pick}
use Rattle.laws.specs.Bools.{never, both, either}
use Rattle.laws.specs.All.{All}
use Rattle.format.specs.Form.{Form}
use Rattle.format.specs.Numbers.{kind_init, kind_p, kind_v, none, d_get, r_get}
use Rattle.format.specs.Group.{quorum}
use Rattle.format.proofs.Laws.Group.{backing_most}
use Rattle.format.specs.Words.{step_of}
use Rattle.format.specs.Statement.{Statement, step}
use Rattle.format.specs.Lists.{some, leading}
use Rattle.format.proofs.Laws.Shape.{Shape, init, proposal, vote, formed_out}
use Rattle.rules.specs.declared.Group.{Group}
use Rattle.rules.specs.declared.Which.TheVariants.{Any, Only}
use Rattle.rules.proofs.Theorems.Backed.{d_get_first, d_get_later}
use Rattle.rules.specs.Rules.{Rising, Holds, inits, proposals, none_votes, Backed, rule_1, rule_2, rule_3, rule_4, rule_5, rule_6, rule_7}
use Rattle.rules.specs.Test.{d_get_group}
use Rattle.station.specs.declared.Stage.{Stage}
use Rattle.station.specs.declared.Stage.TheVariants.{Gathering, Proposing, Voting}
use Rattle.station.specs.Machine.{State, kind_in, round_in, stage_step, stage_of, proposing, voting, held_of, supplies_for_value, supplies_for_none, takes, insert, keeping, kept_for_value, kept_for_none, value_group, no_group}
use Rattle.format.proofs.Laws.ReadBack.{Proper}
use Rattle.station.proofs.Laws.Insert.{insert_all, insert_rising, some_insert, leading_new, leading_other, leading_old, lower_some}
use Rattle.station.proofs.Laws.Sane.{Kept, InRounds, FlagOf, Sane}

-- ---- a step tells kind and round
pub steps_p : (k r : ℕ) → k ≡ kind_p → step_of k r ≡ 2 * r
unfolding step_of pick
steps_p k r e = rw (ne_eqb k kind_init (λ z. omega arith), eq-eqb k kind_p e)

pub steps_v : (k r : ℕ) → k ≡ kind_v → step_of k r ≡ 2 * r + 1
unfolding step_of pick
steps_v k r e = rw (ne_eqb k kind_init (λ z. omega arith), ne_eqb k kind_p (λ z. omega arith))

pub steps_0 : (k r : ℕ) → k ≡ kind_init → step_of k r ≡ 0
unfolding step_of pick
steps_0 k r e = rw (eq-eqb k kind_init e)

pub stage_of_flag : (m s : Statement) → s.flag ≡ m.flag → FlagOf (stage_of m) s
unfolding pick
stage_of_flag m s e = go (eqb m.kind kind_p)
  where
    go : (b : Bool) → FlagOf (pick b (proposing m.round m.flag) (voting m.round)) s
    go true = sym e
    go false = tt

-- ---- the groups that a bundle supplies
whole : (g : Group) (c : List Statement) (k : ℕ) → g.size ≤ k → Holds g c → Holds g (take k c)
whole g c k e h = subst (λ (x : List Statement). Holds g x) (sym (take_all k c (omega (arith, h.size)))) h

front : (g : Group) (c d : List Statement) (k : ℕ) → g.size ≡ k → Holds g c → Holds g (take k (c ++ d))
front g c d k e h = subst (λ (x : List Statement). Holds g x) (sym (take_at c d k (h.size ∙ e))) h

-- a proposal of round 1 has the INITs of its value, a D-GET proposal of a later round q proposals of the round before with it
proposal_group : (n : ℕ) (m : Statement) (c : List Statement) → m.kind ≡ kind_p → (m.round ≡ 1) ⊎ (m.flag ≡ d_get) → Backed n m c
    → Holds (d_get_group n m.value m.round) (take (quorum n) c)
proposal_group n m c k f (rule_1 a) = absurd (omega arith)
proposal_group n m c k f (rule_2 a b d h) = rw (d_get_first n m.value m.round b) (whole (inits n m.value) c (quorum n) (backing_most n m.value) h)
proposal_group n m c k f (rule_3 a b d h) =
    rw (d_get_later n m.value m.round b) (whole (proposals n (m.round - 1) (Only m.value) Any) c (quorum n) (omega arith) h)
proposal_group n m c k (inl e) (rule_4 a b d h) = absurd (omega arith)
proposal_group n m c k (inr e) (rule_4 a b d h) = absurd (omega arith)
proposal_group n m _ k f (rule_5 a b h i s o) = absurd (omega arith)
proposal_group n m c k f (rule_6 a b d h s) = absurd (omega arith)
proposal_group n m _ k f (rule_7 a b d h s o) = absurd (omega arith)

-- an R-GET proposal has q none votes of the round before
toss_group : (n : ℕ) (m : Statement) (c : List Statement) → m.kind ≡ kind_p → m.flag ≡ r_get → Backed n m c → Holds (none_votes n (m.round - 1)) (take (quorum n) c)
toss_group n m c k f (rule_1 a) = absurd (omega arith)
toss_group n m c k f (rule_2 a b d h) = absurd (omega arith)
toss_group n m c k f (rule_3 a b d h) = absurd (omega arith)
toss_group n m c k f (rule_4 a b d h) = whole (none_votes n (m.round - 1)) c (quorum n) (omega arith) h
toss_group n m _ k f (rule_5 a b h i s o) = absurd (omega arith)
toss_group n m c k f (rule_6 a b d h s) = absurd (omega arith)
toss_group n m _ k f (rule_7 a b d h s o) = absurd (omega arith)

-- a vote for a value has q proposals of its round with it
vote_group : (n : ℕ) (m : Statement) (c : List Statement) → m.kind ≡ kind_v → m.value < none → Backed n m c
    → Holds (proposals n m.round (Only m.value) Any) (take (quorum n) c)
vote_group n m c k v (rule_1 a) = absurd (omega arith)
vote_group n m c k v (rule_2 a b d h) = absurd (omega arith)
vote_group n m c k v (rule_3 a b d h) = absurd (omega arith)
vote_group n m c k v (rule_4 a b d h) = absurd (omega arith)
vote_group n m _ k v (rule_5 {c} {d} a b h i s o) = front (proposals n m.round (Only m.value) Any) c d (quorum n) refl h
vote_group n m c k v (rule_6 a b d h s) = absurd (omega arith)
vote_group n m _ k v (rule_7 a b d h s o) = absurd (omega arith)

-- ---- the state with the bundle
pub all_take : (P : Statement → Type 0) (k : ℕ) (c : List Statement) → All P c → All P (take k c)
all_take P zero c h = tt
all_take P (suc k) [] h = tt
all_take P (suc k) (s ∷ c) h = (h.0, all_take P k c h.1)

module _ (form : Form) where
  -- what the tests of giving say of a bundle with main statement m and certificate c
  pub record Fitting (n question : ℕ) (g : Stage) (m : Statement) (c : List Statement) : Type 0 where
    pub proper : Proper form n m
    pub certificate : All (Proper form n) c
    pub asked : m.question ≡ question
    pub alike : All (λ s. s.question ≡ question) c
    pub in_step : step m ≡ stage_step g
    pub backed : Backed n m c

  pub same_step : (m : Statement) (g : Stage) → Shape form m → InRounds form g → step m ≡ stage_step g → (m.kind ≡ kind_in g) × (m.round ≡ round_in g)
  unfolding step
  same_step m Gathering (init k r v f) i e = (k, r)
  same_step m Gathering (proposal k l r v f) i e = absurd (omega (arith, steps_p m.kind m.round k, steps_0 kind_init 0 refl))
  same_step m Gathering (vote k l r v f) i e = absurd (omega (arith, steps_v m.kind m.round k, steps_0 kind_init 0 refl))
  same_step m (Proposing p x) (init k r v f) i e = absurd (omega (arith, steps_0 m.kind m.round k, steps_p kind_p p.0 refl))
  same_step m (Proposing p x) (proposal k l r v f) i e = (k, omega (arith, steps_p m.kind m.round k, steps_p kind_p p.0 refl))
  same_step m (Proposing p x) (vote k l r v f) i e = absurd (omega (arith, steps_v m.kind m.round k, steps_p kind_p p.0 refl))
  same_step m (Voting p) (init k r v f) i e = absurd (omega (arith, steps_0 m.kind m.round k, steps_v kind_v p.0 refl))
  same_step m (Voting p) (proposal k l r v f) i e = absurd (omega (arith, steps_p m.kind m.round k, steps_v kind_v p.0 refl))
  same_step m (Voting p) (vote k l r v f) i e = (k, omega (arith, steps_v m.kind m.round k, steps_v kind_v p.0 refl))

  -- ---- the stage that a statement of a later step belongs to
  pub stage_of_step : (m : Statement) → Shape form m → 0 < step m → step m ≡ stage_step (stage_of m)
  unfolding step pick
  stage_of_step m (init k r v f) up = absurd (omega (arith, steps_0 m.kind m.round k))
  stage_of_step m (proposal k l r v f) up = rw (eq-eqb m.kind kind_p k) (steps_p m.kind m.round k ∙ sym (steps_p kind_p m.round refl))
  stage_of_step m (vote k l r v f) up = rw (ne_eqb m.kind kind_p (λ z. omega arith)) (steps_v m.kind m.round k ∙ sym (steps_v kind_v m.round refl))

  pub stage_of_rounds : (m : Statement) → Shape form m → 0 < step m → InRounds form (stage_of m)
  unfolding step pick
  stage_of_rounds m (init k r v f) up = absurd (omega (arith, steps_0 m.kind m.round k))
  stage_of_rounds m (proposal k l r v f) up = rw (eq-eqb m.kind kind_p k) (l, r)
  stage_of_rounds m (vote k l r v f) up = rw (ne_eqb m.kind kind_p (λ z. omega arith)) (l, r)

  module _ (n question : ℕ) (g : Stage) (m : Statement) (c : List Statement) (F : Fitting n question g m c) (i : InRounds form g) where
    is_so : (m.kind ≡ kind_in g) × (m.round ≡ round_in g)
    is_so = same_step m g (formed_out form n m F.proper.formed).shape i F.in_step

    first_or_given : (r : ℕ) → m.round ≡ r → (eqb r 1 ≡ true) ⊎ (eqb m.flag d_get ≡ true) → (m.round ≡ 1) ⊎ (m.flag ≡ d_get)
    first_or_given r e (inl x) = inl (e ∙ eqb-true r 1 x)
    first_or_given r e (inr x) = inr (eqb-true m.flag d_get x)

    pub taken_for_value : supplies_for_value g m ≡ true → Holds (value_group n g m.value) (take (quorum n) c)
    taken_for_value e = go g e is_so
      where
        go : (g : Stage) → supplies_for_value g m ≡ true → (m.kind ≡ kind_in g) × (m.round ≡ round_in g) → Holds (value_group n g m.value) (take (quorum n) c)
        go Gathering e k = never false refl e
        go (Proposing p x) e k = rw (← k.1) (proposal_group n m c k.0 (first_or_given p.0 k.1 (either (eqb p.0 1) _ e)) F.backed)
        go (Voting p) e k = rw (← k.1) (vote_group n m c k.0 (ltb-true _ _ e) F.backed)

    pub taken_for_none : supplies_for_none g m ≡ true → Holds (none_votes n (round_in g - 1)) (take (quorum n) c)
    taken_for_none e = go g e is_so
      where
        go : (g : Stage) → supplies_for_none g m ≡ true → (m.kind ≡ kind_in g) × (m.round ≡ round_in g) → Holds (none_votes n (round_in g - 1)) (take (quorum n) c)
        go Gathering e k = never false refl e
        go (Proposing p x) e k =
            let a = both (ltb 1 p.0) _ e in
            rw (← k.1) (toss_group n m c k.0 (eqb-true _ _ a.1) F.backed)
        go (Voting p) e k = never false refl e

  -- a group that is kept by the statements that supply it, as `of` says by the lowest-numbered one's value
  module _ (n question : ℕ) (p : Statement → Bool) (of : ℕ → Group) (h : List Statement) (r : Rising 0 h) (m : Statement) (c kept : List Statement)
      (new : held_of m.station h ≡ false) (K : Kept form n question (pick (some p h) (of (leading p h)) no_group) kept)
      (S : p m ≡ true → Kept form n question (of m.value) c) where
    pub offered : Kept form n question (pick (some p (insert m h)) (of (leading p (insert m h))) no_group) (pick (takes p h m) c kept)
    unfolding pick
    offered = go (p m) refl (some (λ s. p s && ltb s.station m.station) h) refl
      where
        go : (a : Bool) → p m ≡ a → (b : Bool) → some (λ s. p s && ltb s.station m.station) h ≡ b
            → Kept form n question (pick (some p (insert m h)) (of (leading p (insert m h))) no_group) (pick (takes p h m) c kept)
        go true e false f = rw (some_insert p m h, e, f, leading_new p m h new e f) (S e)
        go true e true f =
            let z : some p h ≡ true = lower_some p m h f in
            rw (some_insert p m h, e, f, leading_old p m 0 h r f) (rw z at K)
        go false e b f = rw (some_insert p m h, e, leading_other p m h e) K

  module _ (n site : ℕ) (t : State) (m : Statement) (c : List Statement) (S : Sane form n site t) (F : Fitting n t.question t.stage m c)
      (new : held_of m.station t.held ≡ false) where
    supplied : (g : Group) → Holds g (take (quorum n) c) → Kept form n t.question g (take (quorum n) c)
    supplied g h = record { as_asked = h; proper = all_take (Proper form n) (quorum n) c F.certificate; alike = all_take (λ s. s.question ≡ t.question) (quorum n) c F.alike }

    pub kept_for_value_on : Kept form n t.question (kept_for_value n t.stage (insert m t.held)) (keeping n t m c).for_value
    unfolding kept_for_value
    kept_for_value_on =
        offered n t.question (supplies_for_value t.stage) (value_group n t.stage) t.held S.rising m (take (quorum n) c) t.for_value new S.for_value
        (λ e. supplied (value_group n t.stage m.value) (taken_for_value n t.question t.stage m c F S.rounds e))

    pub kept_for_none_on : Kept form n t.question (kept_for_none n t.stage (insert m t.held)) (keeping n t m c).for_none
    unfolding kept_for_none
    kept_for_none_on =
        offered n t.question (supplies_for_none t.stage) (λ v. none_votes n (round_in t.stage - 1)) t.held S.rising m (take (quorum n) c) t.for_none new S.for_none
        (λ e. supplied (none_votes n (round_in t.stage - 1)) (taken_for_none n t.question t.stage m c F S.rounds e))

    -- all but the number of statements held
    pub record Grown : Type 0 where
      pub rising : Rising 0 (insert m t.held)
      pub proper : All (Proper form n) (insert m t.held)
      pub alike : All (λ s. (s.question ≡ t.question) × (step s ≡ stage_step t.stage)) (insert m t.held)
      pub mine : held_of site (insert m t.held) ≡ true
      pub flag : All (λ s. s.station ≡ site → FlagOf t.stage s) (insert m t.held)

    pub grown : Grown
    grown =
        let f = formed_out form n m F.proper.formed in
        record {
          rising = insert_rising m 0 t.held f.low new S.rising;
          proper = insert_all (Proper form n) m t.held F.proper S.proper;
          alike = insert_all (λ s. (s.question ≡ t.question) × (step s ≡ stage_step t.stage)) m t.held (F.asked, F.in_step) S.alike;
          mine = some_insert (λ s. eqb s.station site) m t.held ∙ either_way (eqb m.station site) S.mine;
          flag = insert_all (λ s. s.station ≡ site → FlagOf t.stage s) m t.held (λ e. absurd (other e)) S.flag;
        }
      where
        either_way : (b : Bool) → held_of site t.held ≡ true → (b || held_of site t.held) ≡ true
        either_way true e = refl
        either_way false e = e

        other : m.station ≡ site → ⊥
        other e = never (held_of site t.held) (ap (λ (k : ℕ). held_of k t.held) (sym e) ∙ new) S.mine

    pub keep_sane : length (insert m t.held) < quorum n → Sane form n site (keeping n t m c)
    keep_sane few =
        record {
          still_open = S.still_open;
          rising = grown.rising;
          proper = grown.proper;
          alike = grown.alike;
          few = few;
          mine = grown.mine;
          rounds = S.rounds;
          flag = grown.flag;
          decision = S.decision;
          for_value = kept_for_value_on;
          for_none = kept_for_none_on;
        }
