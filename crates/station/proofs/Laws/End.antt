-- The end of a step: the statement that follows is well-formed, a rule backs it by the certificate that is written with it, and the groups that the
-- station keeps of it are those that its next step asks for.
use Rattle.std.specs.Prelude.{ℕ, ◌+◌, ◌-◌, ◌≤◌, ◌<◌, Bool, ◌&&◌, ◌⊎◌, ◌≡◌, length, take}
use Rattle.std.proofs.Math.Bool.{true, false}
use Rattle.std.proofs.Common.{inl, inr, ◌∙◌, subst, length-take-le, take_at}
use mathlib.Core.List.{List, [], ◌∷◌, ◌++◌, append-nil}
use Rattle.std.proofs.Math.Path.{refl, sym, ap}
use native.Mathlib.Omega.{arith}
use Rattle.std.proofs.Math.Dec.{eqb, ltb}
use Rattle.std.proofs.Math.Seq.{take_all}
use borrow.Author.Tests.{eqb-true, eqb-false, eq-eqb, ltb-true, ltb-false, lt-ltb}
use Rattle.laws.specs.Pick.{pick}
use Rattle.laws.specs.Bools.{never, both, join, either, left, right, is_false}
use Rattle.laws.specs.All.{All, all_map, all_two}
use Rattle.format.specs.Form.{Form, last_round}
use Rattle.format.proofs.Form.{rounds_there}
use Rattle.format.specs.Numbers.{kind_init, kind_p, kind_v, none, d_get, r_get}
use Rattle.format.specs.Group.{quorum, backing}
use Rattle.format.proofs.Laws.Group.{backing_most}
use Rattle.format.specs.Statement.{Statement, step}
use Rattle.format.specs.Lists.{some, every, number_of, those, leading}
use Rattle.format.proofs.Laws.Shape.{Shape, init, proposal, vote, Formed, formed_out}
use Rattle.rules.specs.declared.Which.TheVariants.{Any, Only}
use Rattle.rules.specs.Rules.{which, matches, Rising, Holds, some_d_get, some_value, inits, proposals, none_votes, NeedsSecond, Backed, rule_2, rule_3, rule_4, rule_5, rule_6, rule_7}
use Rattle.rules.specs.Test.{d_get_group, has_second}
use Rattle.rules.proofs.Theorems.Backed.{d_get_first, d_get_later, one_early, two_early, two_none, two_d, two_out}
use Rattle.certificate.proofs.Theorems.Exact.{every_out}
use Rattle.station.specs.declared.Stage.{Stage}
use Rattle.station.specs.declared.Stage.TheVariants.{Gathering, Proposing, Voting}
use Rattle.station.specs.Machine.{State, kind_in, round_in, stage_step, supplies_for_value, supplies_for_none, has_value, first_value, vote_value, carried, Next, after_inits, after_proposals, after_votes, conflict, keeping, held_of, kept_for_value, kept_for_none, value_group}
use Rattle.format.proofs.Laws.ReadBack.{Proper}
use Rattle.station.proofs.Theorems.First.{first_bit, first_exact}
use Rattle.station.proofs.Laws.Sane.{Kept, InRounds, FlagOf, Sane}
use Rattle.station.proofs.Laws.Insert.{conflict_insert}
use Rattle.station.proofs.Laws.Keep.{Fitting, same_step, all_take, grown, kept_for_value_on, kept_for_none_on}
use Rattle.station.proofs.Laws.Pieces.{asked_for, those_length, those_all, those_rising, take_rising, some_other, some_all, none_some, some_weaker, leading_is}

-- no proposal of round 1 is R-GET: no valid bundle has one
abbrev pub EarlyDGet : List Statement → Type 0
EarlyDGet h = All (λ s. s.round ≡ 1 → s.kind ≡ kind_p → s.flag ≡ d_get) h

module _ (form : Form) where
  -- q statements of the step, and the groups kept with them
  pub record Full (n : ℕ) (k : State) : Type 0 where
    pub rising : Rising 0 k.held
    pub proper : All (Proper form n) k.held
    pub alike : All (λ s. (s.question ≡ k.question) × (step s ≡ stage_step k.stage)) k.held
    pub size : length k.held ≡ quorum n
    pub calm : conflict k.stage k.held ≡ false
    pub rounds : InRounds form k.stage
    pub for_value : Kept form n k.question (kept_for_value n k.stage k.held) k.for_value
    pub for_none : Kept form n k.question (kept_for_none n k.stage k.held) k.for_none

  -- a sane state with one bundle more, where that makes q
  pub full_grown : (n site : ℕ) (t : State) (m : Statement) (c : List Statement) → Sane form n site t → Fitting form n t.question t.stage m c → held_of m.station t.held ≡ false
      → conflict t.stage (m ∷ t.held) ≡ false → length (keeping n t m c).held ≡ quorum n → Full n (keeping n t m c)
  full_grown n site t m c S F new calm size =
      let G = grown form n site t m c S F new in
      record {
        rising = G.rising;
        proper = G.proper;
        alike = G.alike;
        size = size;
        calm = conflict_insert t.stage m t.held ∙ calm;
        rounds = S.rounds;
        for_value = kept_for_value_on form n site t m c S F new;
        for_none = kept_for_none_on form n site t m c S F new;
      }

  -- what is known of each held statement
  pub record Known (n : ℕ) (g : Stage) (s : Statement) : Type 0 where
    pub kind : s.kind ≡ kind_in g
    pub round : s.round ≡ round_in g
    pub formed : Formed form n s

  pub known : (n : ℕ) (k : State) → Full n k → All (Known n k.stage) k.held
  known n k F =
      all_map (λ s p. let f = formed_out form n s p.0.formed in let e = same_step form s k.stage f.shape F.rounds p.1.1 in record { kind = e.0; round = e.1; formed = f }) k.held
      (all_two (Proper form n) (λ s. (s.question ≡ k.question) × (step s ≡ stage_step k.stage)) k.held F.proper F.alike)

  pub record Sendable (n : ℕ) (question : ℕ) (x : Next) : Type 0 where
    pub shape : (s : Statement) → s.kind ≡ x.kind → s.value ≡ x.value → s.flag ≡ x.flag → s.round ≡ x.round → Shape form s
    pub kind : x.kind ≡ kind_in x.stage
    pub round : x.round ≡ round_in x.stage
    pub rounds : InRounds form x.stage
    pub flag : (s : Statement) → s.flag ≡ x.flag → FlagOf x.stage s
    pub proper : All (Proper form n) x.first
    pub alike : All (λ s. s.question ≡ question) x.first
    pub more_proper : All (Proper form n) x.second
    pub more_alike : All (λ s. s.question ≡ question) x.second
    pub front : take (quorum n) (x.first ++ x.second) ≡ x.first
    pub for_value : (s : Statement) → s.value ≡ x.value → s.flag ≡ x.flag → supplies_for_value x.stage s ≡ true → Holds (value_group n x.stage x.value) x.first
    pub for_none : (s : Statement) → s.value ≡ x.value → s.flag ≡ x.flag → supplies_for_none x.stage s ≡ true → Holds (none_votes n (round_in x.stage - 1)) x.first

  -- ---- INITs
  module _ (n : ℕ) (k : State) (F : Full n k) where
    abbrev h : List Statement
    h = k.held

    bits : kind_in k.stage ≡ kind_init → All (λ s. s.value < 2) h
    bits e = all_map (λ s p. low s (p.kind ∙ e) p.formed.shape) h (known n k F)
      where
        low : (s : Statement) → s.kind ≡ kind_init → Shape form s → s.value < 2
        low s e (init a b c d) = c
        low s e (proposal a b c d f) = d
        low s e (vote a b c d f) = absurd (omega arith)

    -- the proposed value has its backing among them
    backed_first : All (λ s. s.value < 2) h → backing n (first_value h) ≤ number_of (has_value (first_value h)) h
    backed_first b = (first_exact n h (first_value h) F.size b (first_bit h)).0 refl

    module _ (e : k.stage ≡ Gathering) where
      in_gathering : (s : Statement) → Known n k.stage s → (s.kind ≡ kind_init) × (s.round ≡ 0)
      in_gathering s p = (p.kind ∙ ap kind_in e, p.round ∙ ap round_in e)

      abbrev proposed : ℕ
      proposed = first_value h

      pub inits_hold : Holds (inits n proposed) (take (backing n proposed) (those (has_value proposed) h))
      inits_hold =
          let b = bits (ap kind_in e) in
          record {
            size = length-take-le (backing n proposed) (those (has_value proposed) h) (omega (arith, those_length (has_value proposed) h, backed_first b));
            rising = take_rising (backing n proposed) 0 (those (has_value proposed) h) (those_rising (has_value proposed) 0 h F.rising);
            each =
                all_take (λ s. matches (inits n proposed) s ≡ true) (backing n proposed) (those (has_value proposed) h)
                (all_map (λ s p. let w = in_gathering s p.0 in asked_for (backing n proposed) kind_init 0 (Only proposed) Any s w.0 w.1 p.1 refl) (those (has_value proposed) h)
                (those_all (Known n k.stage) (has_value proposed) h (known n k F)));
          }

      pub inits_ready : Sendable n k.question (after_inits n h)
      unfolding d_get_group pick
      inits_ready =
          record {
            shape = λ s a b c d. proposal a (omega arith) (omega (arith, rounds_there form)) (omega (arith, first_bit h)) (omega arith);
            kind = refl;
            round = refl;
            rounds = (omega arith, omega (arith, rounds_there form));
            flag = λ s a. sym a;
            proper = all_take (Proper form n) (backing n proposed) (those (has_value proposed) h) (all_map (λ s p. p.0) (those (has_value proposed) h) (those_all (Proper form n) (has_value proposed) h F.proper));
            alike = all_take (λ s. s.question ≡ k.question) (backing n proposed) (those (has_value proposed) h)
                (all_map (λ s p. p.0) (those (has_value proposed) h) (those_all (λ s. s.question ≡ k.question) (has_value proposed) h (all_map (λ s p. p.0) h F.alike)));
            more_proper = tt;
            more_alike = tt;
            front = ap (take (quorum n)) (append-nil (after_inits n h).first) ∙ take_all (quorum n) (after_inits n h).first (omega (arith, inits_hold.size, backing_most n proposed));
            for_value = λ s a b c. inits_hold;
            for_none = λ s a b c. never false refl c;
          }

      pub inits_backed : (s : Statement) → s.kind ≡ kind_p → s.value ≡ proposed → s.flag ≡ d_get → s.round ≡ 1 → Backed n s ((after_inits n h).first ++ [])
      inits_backed s a b c d =
          subst (λ (x : List Statement). Backed n s x) (sym (append-nil (after_inits n h).first)) (rule_2 a d c (rw b inits_hold))

    -- ---- proposals
    module _ (r : ℕ) (f : ℕ) (e : k.stage ≡ Proposing (record { 0 = r }) f) where
      in_proposing : (s : Statement) → Known n k.stage s → (s.kind ≡ kind_p) × (s.round ≡ r)
      in_proposing s p = (p.kind ∙ ap kind_in e, p.round ∙ ap round_in e)

      in_round : (1 ≤ r) × (r ≤ last_round form)
      in_round = subst (InRounds form) e F.rounds

      pub record ProposalFacts (s : Statement) : Type 0 where
        pub kind : s.kind ≡ kind_p
        pub round : s.round ≡ r
        pub value : s.value < 2
        pub flag : s.flag < 2

      p_facts : All ProposalFacts h
      p_facts = all_map (λ s p. of s (in_proposing s p) p.formed.shape) h (known n k F)
        where
          of : (s : Statement) → (s.kind ≡ kind_p) × (s.round ≡ r) → Shape form s → ProposalFacts s
          of s w (init a b c d) = absurd (omega (arith, w.0))
          of s w (proposal a b c d g) = record { kind = w.0; round = w.1; value = d; flag = g }
          of s w (vote a b c d g) = absurd (omega (arith, w.0))

      -- what the vote is
      vote_cases : (P : ℕ → Type 0) → (every (has_value 0) h ≡ true → P 0) → (every (has_value 1) h ≡ true → P 1)
          → (some_value 0 h ≡ true → some_value 1 h ≡ true → P none) → P (vote_value h)
      unfolding vote_value pick
      vote_cases P a b c = go (every (has_value 0) h) refl (every (has_value 1) h) refl
        where
          go : (x : Bool) → every (has_value 0) h ≡ x → (y : Bool) → every (has_value 1) h ≡ y → P (pick x 0 (pick y 1 none))
          go true p y q = a p
          go false p true q = b q
          go false p false q =
              c (some_other (has_value 1) (λ s. which (Only 0) s.value && which Any s.flag) h
              (all_map (λ s w z. join (eqb s.value 0) true (eq-eqb s.value 0 (omega (arith, w.value, eqb-false s.value 1 z))) refl) h p_facts) q)
              (some_other (has_value 0) (λ s. which (Only 1) s.value && which Any s.flag) h
              (all_map (λ s w z. join (eqb s.value 1) true (eq-eqb s.value 1 (omega (arith, w.value, eqb-false s.value 0 z))) refl) h p_facts) p)

      pub both_values : vote_value h ≡ none → (some_value 0 h ≡ true) × (some_value 1 h ≡ true)
      both_values =
          vote_cases (λ v. v ≡ none → (some_value 0 h ≡ true) × (some_value 1 h ≡ true)) (λ a e. absurd (omega arith)) (λ a e. absurd (omega arith)) (λ a b e. (a, b))

      -- all equal: the first group
      pub equal_hold : (v : ℕ) → every (has_value v) h ≡ true → Holds (proposals n r (Only v) Any) h
      equal_hold v a =
          record {
            size = F.size;
            rising = F.rising;
            each = all_map (λ s p. asked_for (quorum n) kind_p r (Only v) Any s p.0.kind p.0.round p.1 refl) h
                (all_two ProposalFacts (λ s. has_value v s ≡ true) h p_facts (every_out (has_value v) h a));
          }

      -- the group kept for a value: in round 1, and later where one of them is D-GET
      pub kept_equal : (v : ℕ) → every (has_value v) h ≡ true → (r ≡ 1) ⊎ ((1 < r) × (some_d_get h ≡ true)) → Kept form n k.question (d_get_group n v r) k.for_value
      unfolding kept_for_value pick
      kept_equal v a b =
          let s : some (supplies_for_value k.stage) h ≡ true = supplied b in
          let l : leading (supplies_for_value k.stage) h ≡ v
          = leading_is (supplies_for_value k.stage) v h (all_map (λ s p z. eqb-true _ _ p) h (every_out (has_value v) h a)) s in
          let g : value_group n k.stage v ≡ d_get_group n v r = ap (λ (x : Stage). value_group n x v) e in
          rw g at (rw (s, l) at F.for_value)
        where
          by_round : (s : Statement) → r ≡ 1 → supplies_for_value k.stage s ≡ true
          by_round s one = ap (λ (x : Stage). supplies_for_value x s) e ∙ left (eqb r 1) (eqb s.flag d_get) (eq-eqb r 1 one)

          by_flag : (s : Statement) → eqb s.flag d_get ≡ true → supplies_for_value k.stage s ≡ true
          by_flag s d = ap (λ (x : Stage). supplies_for_value x s) e ∙ right (eqb r 1) (eqb s.flag d_get) d

          supplied : (r ≡ 1) ⊎ ((1 < r) × (some_d_get h ≡ true)) → some (supplies_for_value k.stage) h ≡ true
          supplied (inl one) = some_all (supplies_for_value k.stage) h (omega (arith, F.size)) (all_map (λ s p. by_round s one) h p_facts)
          supplied (inr later) = some_weaker (λ s. which Any s.value && which (Only d_get) s.flag) (supplies_for_value k.stage) h (all_map (λ s p z. by_flag s z) h p_facts) later.1

      -- the group kept for a none vote, where both values are there and the round is over 1: one of them is R-GET
      pub kept_none : 1 < r → some_value 0 h ≡ true → some_value 1 h ≡ true → Kept form n k.question (none_votes n (r - 1)) k.for_none
      unfolding kept_for_none pick conflict
      kept_none b x y =
          let s : some (supplies_for_none k.stage) h ≡ true = go (some (supplies_for_none k.stage) h) refl in
          let g : none_votes n (round_in k.stage - 1) ≡ none_votes n (r - 1) = ap (λ (z : Stage). none_votes n (round_in z - 1)) e in
          rw g at (rw s at F.for_none)
        where
          of_value : (v : ℕ) → some (supplies_for_none k.stage) h ≡ false → some_value v h ≡ true → some (λ s. eqb s.flag d_get && has_value v s) h ≡ true
          of_value v q z =
              some_weaker (λ s. which (Only v) s.value && which Any s.flag) (λ s. eqb s.flag d_get && has_value v s) h
              (all_map (λ s p w. join (eqb s.flag d_get) _ (eq-eqb s.flag d_get (with_d_get s p.0 p.1)) (both (eqb s.value v) true w).0) h
              (all_two ProposalFacts (λ s. supplies_for_none k.stage s ≡ false) h p_facts (none_some (supplies_for_none k.stage) h q))) z
            where
              with_d_get : (s : Statement) → ProposalFacts s → supplies_for_none k.stage s ≡ false → s.flag ≡ d_get
              with_d_get s p w =
                  let m : (ltb 1 r && eqb s.flag r_get) ≡ false = sym (ap (λ (z : Stage). supplies_for_none z s) e) ∙ w in
                  let m' : eqb s.flag r_get ≡ false = sym (ap (λ (z : Bool). z && eqb s.flag r_get) (lt-ltb 1 r b)) ∙ m in
                  omega (arith, p.flag, eqb-false s.flag r_get m')

          go : (c : Bool) → some (supplies_for_none k.stage) h ≡ c → some (supplies_for_none k.stage) h ≡ true
          go true q = q
          go false q =
              let quiet : (ltb 1 r && (some (λ s. eqb s.flag d_get && has_value 0 s) h && some (λ s. eqb s.flag d_get && has_value 1 s) h)) ≡ false
              = sym (ap (λ (z : Stage). conflict z h) e) ∙ F.calm in
              never (ltb 1 r && (some (λ s. eqb s.flag d_get && has_value 0 s) h && some (λ s. eqb s.flag d_get && has_value 1 s) h)) quiet
              (join (ltb 1 r) _ (lt-ltb 1 r b) (join (some (λ s. eqb s.flag d_get && has_value 0 s) h) _ (of_value 0 q x) (of_value 1 q y)))

      -- the second group of the vote, by its value
      abbrev asks : ℕ → Bool
      asks v = has_second kind_v v r (some_d_get h)

      abbrev second_of : ℕ → List Statement
      second_of v = pick (asks v) (pick (ltb v none) k.for_value k.for_none) []

      pub record Second (v : ℕ) : Type 0 where
        pub proper : All (Proper form n) (second_of v)
        pub alike : All (λ s. s.question ≡ k.question) (second_of v)

      equal_second : (v : ℕ) → v < none → every (has_value v) h ≡ true → Second v
      unfolding pick
      equal_second v low a = go (asks v) refl
        where
          go : (x : Bool) → asks v ≡ x → Second v
          go true p =
              let g = kept_equal v a (two_out kind_v v r (some_d_get h) low p) in
              record { proper = rw (p, lt-ltb v none low) g.proper; alike = rw (p, lt-ltb v none low) g.alike }
          go false p = record { proper = rw p tt; alike = rw p tt }

      later_asks : 1 < r → asks none ≡ true
      later_asks l = two_none kind_v none r (some_d_get h) refl refl l

      first_asks : r ≡ 1 → asks none ≡ false
      first_asks one = one_early kind_v none r (some_d_get h) refl one

      none_second : some_value 0 h ≡ true → some_value 1 h ≡ true → Second none
      unfolding pick
      none_second a b = go (ltb 1 r) refl
        where
          go : (x : Bool) → ltb 1 r ≡ x → Second none
          go true p =
              let l : 1 < r = ltb-true _ _ p in
              let g = kept_none l a b in
              record { proper = rw (later_asks l) g.proper; alike = rw (later_asks l) g.alike }
          go false p =
              let one : r ≡ 1 = omega (arith, ltb-false 1 r p, in_round.0) in
              record { proper = rw (first_asks one) tt; alike = rw (first_asks one) tt }

      seconds : Second (vote_value h)
      seconds = vote_cases Second (equal_second 0 (omega arith)) (equal_second 1 (omega arith)) none_second

      vote_low : vote_value h ≤ none
      vote_low = vote_cases (λ v. v ≤ none) (λ a. omega arith) (λ a. omega arith) (λ a b. omega arith)

      vote_holds : vote_value h < none → Holds (proposals n r (Only (vote_value h)) Any) h
      vote_holds = vote_cases (λ v. v < none → Holds (proposals n r (Only v) Any) h) (λ a l. equal_hold 0 a) (λ a l. equal_hold 1 a) (λ a b l. absurd (omega arith))

      pub votes_ready : Sendable n k.question (after_proposals r k)
      votes_ready =
          record {
            shape = λ s a b c d. vote a (omega (arith, in_round.0)) (omega (arith, in_round.1)) (omega (arith, vote_low)) c;
            kind = refl;
            round = refl;
            rounds = in_round;
            flag = λ s a. tt;
            proper = F.proper;
            alike = all_map (λ s p. p.0) h F.alike;
            more_proper = seconds.proper;
            more_alike = seconds.alike;
            front = take_at h (second_of (vote_value h)) (quorum n) F.size;
            for_value = λ s a b c. vote_holds (omega (arith, ltb-true s.value none c));
            for_none = λ s a b c. never false refl c;
          }

      -- which of the three it is
      second_for_value : (v : ℕ) → v < none → asks v ≡ true → second_of v ≡ k.for_value
      unfolding pick
      second_for_value v low x = rw (x, lt-ltb v none low)

      second_nil : (v : ℕ) → asks v ≡ false → second_of v ≡ []
      unfolding pick
      second_nil v x = rw x

      second_later : 1 < r → second_of none ≡ k.for_none
      unfolding pick
      second_later l = rw (later_asks l)

      -- rule 5, where all are equal
      five : (s : Statement) → s.kind ≡ kind_v → s.round ≡ r → (v : ℕ) → v < none → every (has_value v) h ≡ true → s.value ≡ v → Backed n s (h ++ second_of v)
      five s a d v low q w =
          rule_5 {c = h} {d = second_of v} a (omega arith) (rw (w, d) (equal_hold v q))
          (λ z.
          let one : r ≡ 1 = sym d ∙ z in
          rw (w, second_for_value v low (two_early kind_v v r (some_d_get h) refl low one)) (rw (d_get_first n v r one) at (kept_equal v q (inl one)).as_asked))
          (λ z.
          let l : 1 < r = omega (arith, z.0) in
          rw (w, d, second_for_value v low (two_d kind_v v r (some_d_get h) refl l z.1)) (rw (d_get_later n v r l) at (kept_equal v q (inr (l, z.1))).as_asked))
          (λ one later. second_nil v (is_false _ (λ x. neither one later (two_out kind_v v r (some_d_get h) low x))))
        where
          neither : (s.round ≡ 1 → ⊥) → (NeedsSecond s h → ⊥) → (r ≡ 1) ⊎ ((1 < r) × (some_d_get h ≡ true)) → ⊥
          neither one later (inl x) = one (d ∙ x)
          neither one later (inr x) = later (omega (arith, x.0), x.1)

      -- rules 6 and 7, where both values are there
      any_hold : Holds (proposals n r Any Any) h
      any_hold =
          record { size = F.size; rising = F.rising; each = all_map (λ s p. asked_for (quorum n) kind_p r Any Any s p.kind p.round refl refl) h p_facts }

      early_hold : EarlyDGet h → r ≡ 1 → Holds (proposals n 1 Any (Only d_get)) h
      early_hold early x =
          record {
            size = F.size;
            rising = F.rising;
            each = all_map (λ s p. asked_for (quorum n) kind_p 1 Any (Only d_get) s p.0.kind (p.0.round ∙ x) refl (eq-eqb s.flag d_get (p.1 (p.0.round ∙ x) p.0.kind))) h
                (all_two ProposalFacts (λ s. s.round ≡ 1 → s.kind ≡ kind_p → s.flag ≡ d_get) h p_facts early);
          }

      six_seven : EarlyDGet h → (s : Statement) → s.kind ≡ kind_v → s.round ≡ r → some_value 0 h ≡ true → some_value 1 h ≡ true → s.value ≡ none
          → Backed n s (h ++ second_of none)
      six_seven early s a d x y w = go (ltb 1 r) refl
        where
          go : (b : Bool) → ltb 1 r ≡ b → Backed n s (h ++ second_of none)
          go true z =
              let l : 1 < r = ltb-true _ _ z in
              rule_7 {c = h} {d = second_of none} a w (omega arith) (rw d any_hold) (x, y) (rw (d, second_later l) (kept_none l x y).as_asked)
          go false z =
              let one : r ≡ 1 = omega (arith, ltb-false 1 r z, in_round.0) in
              let e' : h ≡ h ++ second_of none = sym (append-nil h) ∙ ap (λ (l : List Statement). h ++ l) (sym (second_nil none (first_asks one))) in
              subst (λ (l : List Statement). Backed n s l) e' (rule_6 a w (d ∙ one) (early_hold early one) (x, y))

      pub votes_backed : EarlyDGet h → (s : Statement) → s.kind ≡ kind_v → s.value ≡ vote_value h → s.round ≡ r → Backed n s (h ++ second_of (vote_value h))
      votes_backed early s a b d =
          vote_cases (λ v. s.value ≡ v → Backed n s (h ++ second_of v)) (five s a d 0 (omega arith)) (five s a d 1 (omega arith)) (six_seven early s a d) b

    -- ---- votes
    module _ (r : ℕ) (e : k.stage ≡ Voting (record { 0 = r })) (more : r < last_round form) where
      in_voting : (s : Statement) → Known n k.stage s → (s.kind ≡ kind_v) × (s.round ≡ r)
      in_voting s p = (p.kind ∙ ap kind_in e, p.round ∙ ap round_in e)

      from_1 : 1 ≤ r
      from_1 = (subst (InRounds form) e F.rounds).0

      pub record VoteFacts (s : Statement) : Type 0 where
        pub kind : s.kind ≡ kind_v
        pub round : s.round ≡ r
        pub value : s.value ≤ none

      v_facts : All VoteFacts h
      v_facts = all_map (λ s p. of s (in_voting s p) p.formed.shape) h (known n k F)
        where
          of : (s : Statement) → (s.kind ≡ kind_v) × (s.round ≡ r) → Shape form s → VoteFacts s
          of s w (init a b c d) = absurd (omega (arith, w.0))
          of s w (proposal a b c d g) = absurd (omega (arith, w.0))
          of s w (vote a b c d g) = record { kind = w.0; round = w.1; value = d }

      has_some : (v : ℕ) → some_value v h ≡ true → some (has_value v) h ≡ true
      has_some v z = some_weaker (λ s. which (Only v) s.value && which Any s.flag) (has_value v) h (all_map (λ s p w. (both (eqb s.value v) true w).0) h v_facts) z

      -- "At least one with 0 or 1": and none for the other, since there is no conflict
      carried_cases : (P : ℕ → Type 0) → (some_value 0 h ≡ true → some (has_value 1) h ≡ false → P 0) → (some_value 1 h ≡ true → some (has_value 0) h ≡ false → P 1)
          → (some_value 0 h ≡ false → some_value 1 h ≡ false → P none) → P (carried h)
      unfolding carried pick conflict
      carried_cases P a b c = go (some_value 0 h) refl (some_value 1 h) refl
        where
          quiet : (some (has_value 0) h && some (has_value 1) h) ≡ false
          quiet = sym (ap (λ (z : Stage). conflict z h) e) ∙ F.calm

          not_both : (x y : Bool) → (x && y) ≡ false → x ≡ true → y ≡ false
          not_both true y p q = p
          not_both false y p q = never false refl q

          not_other : (x y : Bool) → (x && y) ≡ false → y ≡ true → x ≡ false
          not_other true y p q = never y p q
          not_other false y p q = refl

          go : (x : Bool) → some_value 0 h ≡ x → (y : Bool) → some_value 1 h ≡ y → P (pick x 0 (pick y 1 none))
          go true p y q = a p (not_both (some (has_value 0) h) (some (has_value 1) h) quiet (has_some 0 p))
          go false p true q = b q (not_other (some (has_value 0) h) (some (has_value 1) h) quiet (has_some 1 q))
          go false p false q = c p q

      -- the group kept for a value is that of the carried value
      kept_value : (v w : ℕ) → v < none → w < none → (v ≡ w → ⊥) → some_value v h ≡ true → some (has_value w) h ≡ false
          → Kept form n k.question (proposals n r (Only v) Any) k.for_value
      unfolding kept_for_value pick
      kept_value v w lv lw ne x y =
          let s : some (supplies_for_value k.stage) h ≡ true
          = some_weaker (λ s. which (Only v) s.value && which Any s.flag) (supplies_for_value k.stage) h
          (all_map (λ s p z. rw e (lt-ltb s.value none (omega (arith, eqb-true s.value v (both (eqb s.value v) true z).0)))) h v_facts) x in
          let l : leading (supplies_for_value k.stage) h ≡ v
          = leading_is (supplies_for_value k.stage) v h
          (all_map (λ s p z. omega (arith, p.0.value, eqb-false s.value w p.1, ltb-true s.value none (sym (ap (λ (q : Stage). supplies_for_value q s) e) ∙ z))) h
          (all_two VoteFacts (λ s. has_value w s ≡ false) h v_facts (none_some (has_value w) h y))) s in
          let g : value_group n k.stage v ≡ proposals n r (Only v) Any = ap (λ (x : Stage). value_group n x v) e in
          rw g at (rw (s, l) at F.for_value)

      none_hold : some_value 0 h ≡ false → some_value 1 h ≡ false → Holds (none_votes n r) h
      none_hold x y =
          record {
            size = F.size;
            rising = F.rising;
            each = all_map (λ s p. asked_for (quorum n) kind_v r (Only none) Any s p.0.kind p.0.round (eq-eqb s.value none (is_none s p.0 p.1.0 p.1.1)) refl) h
                (all_two VoteFacts (λ s. (val 0 s ≡ false) × (val 1 s ≡ false)) h v_facts (all_two (λ s. val 0 s ≡ false) (λ s. val 1 s ≡ false) h (none_some (val 0) h x) (none_some (val 1) h y)));
          }
        where
          val : ℕ → Statement → Bool
          val v s = which (Only v) s.value && which Any s.flag

          off : (b : Bool) → (b && true) ≡ false → b ≡ false
          off true z = z
          off false z = refl

          is_none : (s : Statement) → VoteFacts s → val 0 s ≡ false → val 1 s ≡ false → s.value ≡ none
          is_none s p a b = omega (arith, p.value, eqb-false s.value 0 (off (eqb s.value 0) a), eqb-false s.value 1 (off (eqb s.value 1) b))

      back : (r + 1) - 1 ≡ r
      back = omega arith

      -- the proposal with a carried value, and the tossed one
      abbrev after : ℕ → ℕ → Next
      after v coin = after_votes r k coin

      abbrev ProposalReady : ℕ → ℕ → Type 0
      ProposalReady coin v =
          Sendable n k.question
          (pick (ltb v none)
          (record { kind = kind_p; value = v; flag = d_get; round = r + 1; first = k.for_value; second = []; stage = Proposing (record { 0 = r + 1 }) d_get })
          (record { kind = kind_p; value = coin; flag = r_get; round = r + 1; first = h; second = []; stage = Proposing (record { 0 = r + 1 }) r_get }))

      carried_ready : (coin v w : ℕ) → v < none → w < none → (v ≡ w → ⊥) → some_value v h ≡ true → some (has_value w) h ≡ false → ProposalReady coin v
      unfolding pick
      carried_ready coin v w lv lw ne x y =
          let K = kept_value v w lv lw ne x y in
          rw (lt-ltb v none lv) (record {
            shape = λ s a b c d. proposal a (omega arith) (omega arith) (omega arith) (omega arith);
            kind = refl;
            round = refl;
            rounds = (omega arith, omega arith);
            flag = λ s a. sym a;
            proper = K.proper;
            alike = K.alike;
            more_proper = tt;
            more_alike = tt;
            front = ap (take (quorum n)) (append-nil k.for_value) ∙ take_all (quorum n) k.for_value (omega (arith, K.as_asked.size));
            for_value = λ s a b c. rw (d_get_later n v (r + 1) (omega (arith, from_1)), back) K.as_asked;
            for_none = λ s a b c. let z : s.flag ≡ r_get = eqb-true _ _ (both (ltb 1 (r + 1)) _ c).1 in absurd (omega arith);
          })

      tossed_ready : (coin : ℕ) → coin < 2 → some_value 0 h ≡ false → some_value 1 h ≡ false → ProposalReady coin none
      unfolding pick
      tossed_ready coin low x y =
          record {
            shape = λ s a b c d. proposal a (omega arith) (omega arith) (omega arith) (omega arith);
            kind = refl;
            round = refl;
            rounds = (omega arith, omega arith);
            flag = λ s a. sym a;
            proper = F.proper;
            alike = all_map (λ s p. p.0) h F.alike;
            more_proper = tt;
            more_alike = tt;
            front = ap (take (quorum n)) (append-nil h) ∙ take_all (quorum n) h (omega (arith, F.size));
            for_value = λ s a b c. absurd (not_given s b (either (eqb (r + 1) 1) _ c));
            for_none = λ s a b c. rw back (none_hold x y);
          }
        where
          not_given : (s : Statement) → s.flag ≡ r_get → (eqb (r + 1) 1 ≡ true) ⊎ (eqb s.flag d_get ≡ true) → ⊥
          not_given s b (inl z) = omega (arith, eqb-true (r + 1) 1 z, from_1)
          not_given s b (inr z) = omega (arith, eqb-true s.flag d_get z)

      pub proposals_ready : (coin : ℕ) → coin < 2 → Sendable n k.question (after_votes r k coin)
      proposals_ready coin low =
          carried_cases (ProposalReady coin) (carried_ready coin 0 1 (omega arith) (omega arith) (λ z. omega arith)) (carried_ready coin 1 0 (omega arith) (omega arith) (λ z. omega arith))
          (tossed_ready coin low)

      abbrev ProposalBacked : ℕ → ℕ → Type 0
      ProposalBacked coin v =
          (s : Statement) → s.kind ≡ kind_p → s.value ≡ pick (ltb v none) v coin → s.flag ≡ pick (ltb v none) d_get r_get → s.round ≡ r + 1
          → Backed n s (pick (ltb v none) k.for_value h ++ [])

      pub proposals_backed : (coin : ℕ) → ProposalBacked coin (carried h)
      unfolding pick
      proposals_backed coin =
          carried_cases (ProposalBacked coin) (three 0 1 (omega arith) (omega arith) (λ z. omega arith)) (three 1 0 (omega arith) (omega arith) (λ z. omega arith)) four
        where
          three : (v w : ℕ) → v < none → w < none → (v ≡ w → ⊥) → some_value v h ≡ true → some (has_value w) h ≡ false → ProposalBacked coin v
          three v w lv lw ne x y s a b c d =
              let l = lt-ltb v none lv in
              let b' : s.value ≡ v = rw l at b in
              let c' : s.flag ≡ d_get = rw l at c in
              let d' : s.round - 1 ≡ r = omega arith in
              rw l (subst (λ (z : List Statement). Backed n s z) (sym (append-nil k.for_value)) (rule_3 a (omega (arith, from_1)) c' (rw (d', b') (kept_value v w lv lw ne x y).as_asked)))

          four : some_value 0 h ≡ false → some_value 1 h ≡ false → ProposalBacked coin none
          four x y s a b c d =
              let d' : s.round - 1 ≡ r = omega arith in
              subst (λ (z : List Statement). Backed n s z) (sym (append-nil h)) (rule_4 a (omega (arith, from_1)) c (rw d' (none_hold x y)))
