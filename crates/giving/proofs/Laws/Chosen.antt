-- The law of giving: which held statements and which kept group make the certificate that the machine's definition asks for.
use Prim.Native.Nat.{ℕ, zero, suc, ◌+◌, ◌≤◌, ◌<◌}
use Rattle.std.specs.Prelude.{Bool, ◌≡◌, eqb}
use Rattle.std.proofs.Math.Bool.{true, false}
use mathlib.Core.List.{List, [], ◌∷◌, ◌++◌, append-nil}
use Rattle.std.proofs.Math.Path.{refl, sym, ap}
use Rattle.std.proofs.Common.{◌∙◌, subst, arith, ltb-true, ne_eqb}
use Rattle.std.proofs.Math.Dec.{ltb}
use Rattle.std.proofs.Math.ListN.{length, take}
use Rattle.std.proofs.lemmas.Bool.{eqb-false}
use Rattle.laws.specs.Pick.{pick}
use Rattle.laws.specs.Bools.{never, right}
use Rattle.laws.specs.All.{All}
use Rattle.format.specs.Form.{present_form}
use Rattle.format.specs.Numbers.{none, kind_p, kind_v, d_get, r_get}
use Rattle.format.specs.Group.{quorum, backing}
use Rattle.format.specs.declared.Fields.{Fields}
use Rattle.format.specs.Statement.{Statement, step}
use Rattle.format.specs.Lists.{every, those}
use Rattle.rules.specs.Rules.{some_d_get}
use Rattle.rules.specs.Test.{has_second, d_get_group}
use Rattle.rules.proofs.Theorems.Backed.{d_get_size, d_get_most, two_out}
use Rattle.rules.proofs.Theorems.Later.{two_later}
use Rattle.modules.specs.declared.Module.{Module}
use Rattle.modules.specs.Counter.{above, last_for, advanced}
use Rattle.modules.specs.Present.{module_fits}
use Rattle.station.specs.declared.Groups.{Groups}
use Rattle.station.specs.declared.Stage.{Stage}
use Rattle.station.specs.declared.Stage.TheVariants.{Gathering, Proposing, Voting}
use Rattle.station.specs.declared.Station.{Station}
use Rattle.station.specs.Machine.{State, Next, next, proposing, voting, began, has_value, first_value, vote_value, carried, follows, closes}
use Rattle.station.specs.Calls.{Returned}
use Rattle.station.specs.Words.{set_of}
use Rattle.station.specs.Present as W
use Rattle.format.proofs.Laws.ReadBack.{Proper}
use Rattle.format.specs.Present.{bundle_words, last_round, most_statements, most_stations, output_words, bundle_of}
use Rattle.station.proofs.Laws.Slots.{held_back}
use Rattle.station.proofs.Laws.Sane.{InRounds, Kept}
use Rattle.station.proofs.Laws.End.{Full, Sendable, kept_equal, kept_none, both_values}
use Rattle.station.specs.Present.{sites, slots_of, group_words, held_in}
use Rattle.station.specs.declared.Lasting.{Lasting}
use Rattle.writer.proofs.Laws.Bundle.{Certificate, all_held, some_held, kept_alone}
use Rattle.laws.specs.Below.{Below}
use Rattle.laws.specs.Over.{over}
use Rattle.sending.specs.Sent.{sent_count, sent_lent, sent_bundle, sent_station, sent_after}
use Rattle.sending.specs.Sends.{own_fields, own_statement, lent_is, count_is, station_is, after_is}
use Rattle.ending.specs.declared.Kept.TheVariants.{Nothing, Inits, ForValue, ForNone}
use Rattle.ending.specs.declared.Following.{Following}
use Rattle.held.specs.Scan.{lowest}
use Rattle.held.proofs.Laws.Held.{scan_value}
use Rattle.held.proofs.Laws.Lowest.{lowest_set}
use Rattle.ending.specs.After.{following, next_by, inits_next, proposals_next, votes_next, second_group, round_after}
use Rattle.moving.specs.Moves.{group_by, count_by, answer, sending_words}

-- with no statement of a kept group, the group may be any
any_group : (n : ℕ) (c : List Statement) (slots g : List ℕ) → Certificate n c [] slots g → (other : List ℕ) → Certificate n c [] slots other
unfolding Rattle.format.specs.Bundle.all_written
any_group n c slots g C other =
    record {
      top = C.top;
      rising = C.rising;
      proper = C.proper;
      slotted = C.slotted;
      more_proper = tt;
      rest = other;
      kept = refl;
      few_kept = omega arith;
      few = C.few;
    }

take_few : (k : ℕ) (c : List Statement) → length (take k c) ≤ length c
take_few zero c = omega arith
take_few (suc k) [] = omega arith
take_few (suc k) (s ∷ c) = omega (arith, take_few k c)

those_few : (p : Statement → Bool) (h : List Statement) → length (those p h) ≤ length h
unfolding those pick
those_few p [] = omega arith
those_few p (s ∷ h) = go (p s) (those_few p h)
  where
    go : (b : Bool) → length (those p h) ≤ length h → length (pick b (s ∷ those p h) (those p h)) ≤ suc (length h)
    go true e = omega arith
    go false e = omega arith

module _ (n : ℕ) (K : State) (top : n ≤ most_stations) (F : Full present_form n K) where
  abbrev groups : Groups
  groups = record { value = group_words K.for_value; none = group_words K.for_none }

  abbrev slots : List ℕ
  slots = slots_of K.held 1 sites

  -- what is chosen is the certificate that the definition asks for
  pub record Chosen (X : Following) (x : Next) : Type 0 where
    pub held : List Statement
    pub more : List Statement
    pub made : Certificate n held more slots (group_by X.kept groups)
    pub set : X.set ≡ set_of held
    pub size : count_by X.kept n X.value ≡ length more
    pub same : held ++ more ≡ x.first ++ x.second

  back : held_in (set_of K.held) slots 0 sites ≡ K.held
  back = held_back present_form n K.held top F.rising F.proper

  few : length K.held + 0 ≤ most_statements
  few = omega (arith, F.size)

  alone : Certificate n K.held [] slots (group_words [])
  alone = all_held n K.held top F.rising F.proper [] tt (omega arith) few

  -- the first proposal: the lowest-numbered INITs with its value
  from_inits : (coin : ℕ) → Chosen (next_by n Gathering (set_of K.held) slots coin) (follows n Gathering K coin)
  unfolding next_by inits_next follows group_by count_by pick
  from_inits coin =
      let v : ℕ = first_value K.held in
      let e : first_value (held_in (set_of K.held) slots 0 sites) ≡ first_value K.held = ap first_value back in
      record {
        held = take (backing n (first_value K.held)) (those (has_value (first_value K.held)) K.held);
        more = [];
        made = any_group n _ slots (group_words [])
            (some_held n K.held top F.rising F.proper [] tt (omega arith) (backing n (first_value K.held)) (has_value (first_value K.held)) inits_few) (group_words K.for_value);
        set = rw e (ap (λ (x : ℕ). lowest x (backing n (first_value K.held))) (scan_value (set_of K.held) slots (first_value K.held))
            ∙ lowest_set n (has_value (first_value K.held)) K.held (backing n (first_value K.held)) top F.rising F.proper);
        size = refl;
        same = refl;
      }
    where
      inits_few : length (take (backing n (first_value K.held)) (those (has_value (first_value K.held)) K.held)) + 0 ≤ most_statements
      inits_few = omega (arith, take_few (backing n (first_value K.held)) (those (has_value (first_value K.held)) K.held), those_few (has_value (first_value K.held)) K.held, F.size)

  -- a vote for 0 or 1 is that of all proposals
  vote_every : ltb (vote_value K.held) none ≡ true → every (has_value (vote_value K.held)) K.held ≡ true
  unfolding vote_value pick
  vote_every = go (every (has_value 0) K.held) refl (every (has_value 1) K.held) refl
    where
      go : (x : Bool) → every (has_value 0) K.held ≡ x → (y : Bool) → every (has_value 1) K.held ≡ y → ltb (pick x 0 (pick y 1 none)) none ≡ true
          → every (has_value (pick x 0 (pick y 1 none))) K.held ≡ true
      go true p y q e = p
      go false p true q e = q
      go false p false q e = never false refl e

  vote_none : ltb (vote_value K.held) none ≡ false → vote_value K.held ≡ none
  unfolding vote_value pick
  vote_none = go (every (has_value 0) K.held) (every (has_value 1) K.held)
    where
      go : (x y : Bool) → ltb (pick x 0 (pick y 1 none)) none ≡ false → pick x 0 (pick y 1 none) ≡ none
      go true y e = never true e refl
      go false true e = never true e refl
      go false false e = refl

  -- a vote: all proposals, and behind them the second group of rule 5 or of rule 7
  from_proposals : (r : ℕ) (f : ℕ) → K.stage ≡ Proposing (record { 0 = r }) f → (coin : ℕ)
      → Chosen (next_by n (Proposing (record { 0 = r }) f) (set_of K.held) slots coin) (follows n (Proposing (record { 0 = r }) f) K coin)
  unfolding next_by proposals_next follows second_group group_by count_by pick
  from_proposals r f e coin = rw back (choose (has_second kind_v v r (some_d_get K.held)) refl (ltb v none) refl (eqb r 1) refl)
    where
      v : ℕ
      v = vote_value K.held

      with_group : (c : List Statement) → All (Proper present_form n) c → length c ≤ quorum n → Certificate n K.held c slots (group_words c)
      with_group c p q = all_held n K.held top F.rising F.proper c p (omega arith) (omega (arith, F.size))

      for_value : has_second kind_v v r (some_d_get K.held) ≡ true → ltb v none ≡ true → Kept present_form n K.question (d_get_group n v r) K.for_value
      for_value x y = kept_equal present_form n K F r f e v (vote_every y) (two_out kind_v v r (some_d_get K.held) (ltb-true v none y) x)

      sized : (c : Bool) → eqb r 1 ≡ c → length K.for_value ≡ (d_get_group n v r).size → pick c (backing n v) (quorum n) ≡ length K.for_value
      sized c z h = ap (λ (b : Bool). pick b (backing n v) (quorum n)) (sym z) ∙ sym (d_get_size n v r) ∙ sym h

      choose : (a : Bool) → has_second kind_v v r (some_d_get K.held) ≡ a → (b : Bool) → ltb v none ≡ b → (c : Bool) → eqb r 1 ≡ c
          → Chosen (following kind_v v d_get r (set_of K.held) (pick a (pick b (pick c Inits ForValue) ForNone) Nothing) (voting r))
          (next kind_v v d_get r K.held (pick a (pick b K.for_value K.for_none) []) (voting r))
      choose true x true y true z =
          let g = for_value x y in
          record { held = K.held; more = K.for_value; made = with_group K.for_value g.proper (omega (arith, g.as_asked.size, d_get_most n v r)); set = refl; size = sized true z g.as_asked.size; same = refl }
      choose true x true y false z =
          let g = for_value x y in
          record { held = K.held; more = K.for_value; made = with_group K.for_value g.proper (omega (arith, g.as_asked.size, d_get_most n v r)); set = refl; size = sized false z g.as_asked.size; same = refl }
      choose true x false y c z =
          let w = both_values present_form n K F r f e (vote_none y) in
          let g = kept_none present_form n K F r f e (two_later kind_v v r (some_d_get K.held) (vote_none y) x) w.0 w.1 in
          record { held = K.held; more = K.for_none; made = with_group K.for_none g.proper (omega (arith, g.as_asked.size)); set = refl; size = sym g.as_asked.size; same = refl }
      choose false x b y c z = record { held = K.held; more = []; made = any_group n K.held slots (group_words []) alone (group_words K.for_value); set = refl; size = refl; same = refl }

  -- a proposal: the kept group of a vote for its value, or all none votes
  from_votes : (r : ℕ) → 1 ≤ r → r < last_round → (coin : ℕ) → Sendable present_form n K.question (follows n (Voting (record { 0 = r })) K coin)
      → Chosen (next_by n (Voting (record { 0 = r })) (set_of K.held) slots coin) (follows n (Voting (record { 0 = r })) K coin)
  unfolding next_by votes_next follows group_by count_by pick set_of
  from_votes r low high coin R = rw back (choose (ltb (carried K.held) none) R)
    where
      choose : (b : Bool)
          → Sendable present_form n K.question (pick b (next kind_p (carried K.held) d_get (r + 1) K.for_value [] (proposing (r + 1) d_get)) (next kind_p coin r_get (r + 1) K.held [] (proposing (r + 1) r_get)))
          → Chosen
          (pick b (following kind_p (carried K.held) d_get (round_after r) 0 ForValue (proposing (round_after r) d_get))
          (following kind_p coin r_get (round_after r) (set_of K.held) Nothing (proposing (round_after r) r_get)))
          (pick b (next kind_p (carried K.held) d_get (r + 1) K.for_value [] (proposing (r + 1) d_get)) (next kind_p coin r_get (r + 1) K.held [] (proposing (r + 1) r_get)))
      choose true R =
          let s : Statement = record { kind = kind_p; value = carried K.held; flag = d_get; station = 1; round = r + 1; question = K.question; code = [] } in
          let h = R.for_value s refl refl (right (eqb (r + 1) 1) true refl) in
          let z : length K.for_value ≡ quorum n = h.size ∙ d_get_size n (carried K.held) (r + 1) ∙ ap (λ (b : Bool). pick b (backing n (carried K.held)) (quorum n)) (ne_eqb (r + 1) 1 (λ e. omega arith)) in
          record {
            held = [];
            more = K.for_value;
            made = kept_alone n K.held top F.rising F.proper K.for_value R.proper (omega (arith, z)) slots;
            set = refl;
            size = sym z;
            same = sym (append-nil K.for_value);
          }
      choose false R = record { held = K.held; more = []; made = any_group n K.held slots (group_words []) alone (group_words K.for_value); set = refl; size = refl; same = refl }

  pub chosen : (g : Stage) → K.stage ≡ g → closes last_round g ≡ false → (coin : ℕ) → Sendable present_form n K.question (follows n g K coin)
      → Chosen (next_by n g (set_of K.held) slots coin) (follows n g K coin)
  chosen Gathering e goes coin R = from_inits coin
  chosen (Proposing r f) e goes coin R = from_proposals r.0 f e coin
  chosen (Voting r) e goes coin R =
      let i : InRounds present_form (Voting r) = subst (InRounds present_form) e F.rounds in
      from_votes r.0 i.0 (omega (arith, i.1, eqb-false r.0 last_round goes)) coin R

-- what is sent, by words and by the definition
module _ (m : Module) (K : State) (top : m.n ≤ most_stations) (F : Full present_form m.n K) (l : Lasting) (out : List ℕ) (room : output_words ≤ length out) (X : Following) (x : Next)
    (ek : X.kind ≡ x.kind) (ev : X.value ≡ x.value) (ef : X.flag ≡ x.flag) (er : X.round.0 ≡ x.round) (es : X.stage ≡ x.stage)
    (C : Chosen m.n K top F X x) (p : Proper present_form m.n (own_statement m K.question x.kind x.value x.flag x.round)) (fit : module_fits m ≡ true)
    (later : above (last_for m K.question) K.question (step (own_statement m K.question x.kind x.value x.flag x.round)) ≡ true) where
  abbrev s : Statement
  s = own_statement m K.question x.kind x.value x.flag x.round

  abbrev k : Station
  k = W.as_station m.n m.station K

  abbrev f : Fields
  f = own_fields m X.kind X.value X.flag X.round.0

  abbrev by_definition : Returned
  by_definition =
      record {
        number = answer K.lasting.decision l.decision;
        count = bundle_words (length (x.first ++ x.second));
        station = W.as_station m.n m.station (began m.n K.question l x.stage s (x.first ++ x.second));
        after = advanced m K.question (step s);
        lent = over (bundle_of s (x.first ++ x.second)) out;
      }

  pub sending_is : Below (sending_words m k X f l out).lent → sending_words m k X f l out ≡ by_definition
  unfolding sending_words Rattle.station.specs.Words.as_station
  sending_is low =
      let sl : List ℕ = slots_of K.held 1 sites in
      let gr : List ℕ = group_by X.kept k.groups in
      let q : ℕ = K.question in
      let lent0 : sent_lent m K.question f (slots_of K.held 1 sites) X.set (group_by X.kept k.groups) (count_by X.kept m.n X.value) out
      ≡ sent_lent m K.question (own_fields m x.kind x.value x.flag x.round) (slots_of K.held 1 sites) (set_of C.held) (group_by X.kept k.groups) (length C.more) out
      = λ i. sent_lent m K.question (own_fields m (ek i) (ev i) (ef i) (er i)) (slots_of K.held 1 sites) (C.set i) (group_by X.kept k.groups) (C.size i) out in
      let count1 : sent_count X.set (count_by X.kept m.n X.value) out ≡ bundle_words (length (x.first ++ x.second))
      = (λ i. sent_count (C.set i) (C.size i) out)
      ∙ count_is m K.question x.kind x.value x.flag x.round l x.stage C.held C.more (slots_of K.held 1 sites) (group_by X.kept k.groups) C.made (x.first ++ x.second) C.same out room p fit later in
      let station1 : sent_station m K.question l X.stage (sent_bundle m K.question f (slots_of K.held 1 sites) X.set (group_by X.kept k.groups) (count_by X.kept m.n X.value) out)
      ≡ W.as_station m.n m.station (began m.n K.question l x.stage s (x.first ++ x.second))
      = (λ i. sent_station m K.question l (es i) (sent_bundle m K.question (own_fields m (ek i) (ev i) (ef i) (er i)) (slots_of K.held 1 sites) (C.set i) (group_by X.kept k.groups) (C.size i) out))
      ∙ station_is m K.question x.kind x.value x.flag x.round l x.stage C.held C.more (slots_of K.held 1 sites) (group_by X.kept k.groups) C.made (x.first ++ x.second) C.same out room p fit later
      (subst Below lent0 low) in
      let after1 : sent_after m K.question f (slots_of K.held 1 sites) X.set (group_by X.kept k.groups) (count_by X.kept m.n X.value) out
      ≡ advanced m K.question (step s)
      = (λ i. sent_after m K.question (own_fields m (ek i) (ev i) (ef i) (er i)) (slots_of K.held 1 sites) (C.set i) (group_by X.kept k.groups) (C.size i) out)
      ∙ after_is m K.question x.kind x.value x.flag x.round l x.stage C.held C.more (slots_of K.held 1 sites) (group_by X.kept k.groups) C.made (x.first ++ x.second) C.same out room p fit later in
      let lent1 = lent0
      ∙ lent_is m K.question x.kind x.value x.flag x.round l x.stage C.held C.more (slots_of K.held 1 sites) (group_by X.kept k.groups) C.made (x.first ++ x.second) C.same out room p fit later in
      λ i. record { number = answer K.lasting.decision l.decision; count = count1 i; station = station1 i; after = after1 i; lent = lent1 i }
