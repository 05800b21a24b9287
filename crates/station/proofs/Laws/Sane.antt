-- What an open station knows where it fits: `Sane`, and that the words of such a state fit and are read back as it.
use Prim.Native.Nat.{ℕ, zero, suc, ◌+◌, ◌-◌, ◌*◌, ◌^◌, ◌≤◌, ◌<◌}
use Rattle.std.specs.Prelude.{Bool, ◌&&◌, ◌||◌, ◌≡◌, get_or, drop}
use Rattle.std.proofs.Math.Bool.{true, false}
use mathlib.Core.List.{List, [], ◌∷◌, ◌++◌, append_assoc, append-nil}
use Rattle.std.proofs.Math.Path.{refl, sym, ap}
use Rattle.std.proofs.Common.{◌∙◌, subst, add-zero, arith, drop_at, drop-drop, get_or-drop, eqb-true, eq-eqb, lt-ltb, le-leb}
use Rattle.std.proofs.Math.Nat.{zero-add}
use Rattle.std.specs.Int.Count.{ones}
use Rattle.std.proofs.Math.Dec.{eqb, ltb, leb}
use Rattle.std.proofs.Math.ListN.{length, replicate}
use Rattle.laws.specs.Pick.{pick}
use Rattle.laws.specs.Bools.{never, join, right}
use Rattle.laws.specs.All.{All, all_map, all_two}
use Rattle.laws.specs.Sets.{bit}
use Rattle.format.specs.Form.{Form, most_stations, last_round, fields_at, statement_words}
use Rattle.format.specs.Numbers.{none}
use Rattle.format.specs.Group.{quorum}
use Rattle.format.specs.Words.{flag_of, step_of}
use Rattle.format.specs.Statement.{Statement, statement, statements, word_0, written, step, formed}
use Rattle.format.specs.Lists.{some, every}
use Rattle.format.specs.Bundle.{all_formed, all_written}
use Rattle.format.proofs.Laws.Shape.{formed_out}
use Rattle.rules.specs.declared.Group.{Group}
use Rattle.rules.specs.Rules.{Rising, Holds}
use Rattle.rules.specs.Test.{holds}
use Rattle.rules.proofs.Theorems.Backed.{holds_in}
use Rattle.certificate.proofs.Theorems.Exact.{every_in}
use Rattle.station.specs.declared.Stage.{Stage}
use Rattle.station.specs.declared.Stage.TheVariants.{Gathering, Proposing, Voting}
use Rattle.station.specs.Machine.{State, stage_step, held_of, kept_for_value, kept_for_none}
use Rattle.station.specs.Words as W
use Rattle.station.specs.Words.{set_of, slot_of, slots_of, group_words, sites, held_by, state_of, kept_words}
use Rattle.station.specs.Fit.{zeros, slot_fits, slots_fit, stage_fits, group_fits, fits}
use Rattle.station.proofs.Laws.ReadBack.{length_all, statements_back}
use Rattle.format.proofs.Laws.ReadBack.{Proper, word_back, length_written, statement_drop, statement_back, formed_drop, formed_back_on}
use Rattle.station.proofs.Laws.Slots.{bit_set, ones_set, set_low, slot_at, slot_held, held_back}

abbrev pub FlagOf : Stage → Statement → Type 0
FlagOf Gathering s = Unit
FlagOf (Proposing r f) s = f ≡ s.flag
FlagOf (Voting r) s = Unit

-- a statement of a list with its station
pub record At (P : Statement → Type 0) (j : ℕ) : Type 0 where
  pub one : Statement
  pub of_station : one.station ≡ j
  pub has : P one

pub find : (P : Statement → Type 0) (j : ℕ) (h : List Statement) → All P h → held_of j h ≡ true → At P j
unfolding some
find P j [] a e = never false refl e
find P j (s ∷ h) a e = go (eqb s.station j) refl e (find P j h a.1)
  where
    go : (b : Bool) → eqb s.station j ≡ b → (b || held_of j h) ≡ true → (held_of j h ≡ true → At P j) → At P j
    go true x e ih = record { one = s; of_station = eqb-true _ _ x; has = a.0 }
    go false x e ih = ih e

-- ---- words at a place
get_d_at : (ws : List ℕ) (at : ℕ) (l : List ℕ) → drop at ws ≡ l → get_or ws at 0 ≡ get_or l 0 0
get_d_at ws at l e = sym (get_or-drop at ws 0 0 ∙ ap (λ (k : ℕ). get_or ws k 0) (add-zero at)) ∙ ap (λ (x : List ℕ). get_or x 0 0) e

pub zeros_drop : (ws : List ℕ) (at k : ℕ) → zeros ws at k ≡ zeros (drop at ws) 0 k
unfolding zeros
zeros_drop ws at zero = refl
zeros_drop ws at (suc k) =
    let e : zeros ws (suc at) k ≡ zeros (drop at ws) 1 k
    = zeros_drop ws (suc at) k ∙ ap (λ (l : List ℕ). zeros l 0 k) (ap (λ (j : ℕ). drop j ws) one ∙ sym (drop-drop 1 at ws)) ∙ sym (zeros_drop (drop at ws) 1 k) in
    rw (e, get_d_at ws at (drop at ws) refl)
  where
    one : suc at ≡ at + 1
    one = omega arith

zero_list : (k : ℕ) (rest : List ℕ) → zeros (replicate k 0 ++ rest) 0 k ≡ true
unfolding zeros
zero_list zero rest = refl
zero_list (suc k) rest = zeros_drop (0 ∷ (replicate k 0 ++ rest)) 1 k ∙ zero_list k rest

suc_pred : (k : ℕ) → 1 ≤ k → suc (k - 1) ≡ k
suc_pred k h = omega arith

pub step_is : (s : Statement) → step_of s.kind s.round ≡ step s
unfolding step
step_is s = refl

module _ (form : Form) where
  -- a kept group: as it is asked for, of the question
  pub record Kept (n question : ℕ) (g : Group) (c : List Statement) : Type 0 where
    pub as_asked : Holds g c
    pub proper : All (Proper form n) c
    pub alike : All (λ s. s.question ≡ question) c

  abbrev pub InRounds : Stage → Type 0
  InRounds Gathering = Unit
  InRounds (Proposing r f) = (1 ≤ r.0) × (r.0 ≤ last_round form)
  InRounds (Voting r) = (1 ≤ r.0) × (r.0 ≤ last_round form)

  pub record Sane (n site : ℕ) (t : State) : Type 0 where
    pub still_open : t.closed ≡ false
    pub rising : Rising 0 t.held
    pub proper : All (Proper form n) t.held
    pub alike : All (λ s. (s.question ≡ t.question) × (step s ≡ stage_step t.stage)) t.held
    pub few : length t.held < quorum n
    pub mine : held_of site t.held ≡ true
    pub rounds : InRounds t.stage
    pub flag : All (λ s. s.station ≡ site → FlagOf t.stage s) t.held
    pub decision : t.lasting.decision ≤ none
    pub for_value : Kept n t.question (kept_for_value n t.stage t.held) t.for_value
    pub for_none : Kept n t.question (kept_for_none n t.stage t.held) t.for_none

  -- a slot of a station that is not held
  pub no_slot : (j : ℕ) (h : List Statement) → held_of j h ≡ false → slot_of form h j ≡ replicate (statement_words form) 0
  unfolding some slot_of pick
  no_slot j [] e = refl
  no_slot j (s ∷ h) e = go (eqb s.station j) e (no_slot j h)
    where
      go : (b : Bool) → (b || held_of j h) ≡ false → (held_of j h ≡ false → slot_of form h j ≡ replicate (statement_words form) 0) → pick b (written form s) (slot_of form h j) ≡ replicate (statement_words form) 0
      go true e ih = never true e refl
      go false e ih = ih e

  -- ---- the held statements fit
  module _ (n question st : ℕ) (h : List Statement) (top : n ≤ most_stations form) (r : Rising 0 h) (a : All (Proper form n) h)
      (like : All (λ s. (s.question ≡ question) × (step s ≡ st)) h) where
    slot_fit : (i : ℕ) → i < sites form → pick (bit (set_of h) i) (slot_fits form n question st i (slots_of form h 1 (sites form))) (zeros (slots_of form h 1 (sites form)) (i * statement_words form) (statement_words form)) ≡ true
    unfolding pick
    slot_fit i low = go (bit (set_of h) i) (sym (bit_set h r i))
      where
        P : Statement → Type 0
        P s = Proper form n s × ((slot_of form h s.station ≡ written form s) × ((s.question ≡ question) × (step s ≡ st)))

        all_p : All P h
        all_p =
            all_two (Proper form n) (λ s. (slot_of form h s.station ≡ written form s) × ((s.question ≡ question) × (step s ≡ st))) h a
            (all_two (λ s. slot_of form h s.station ≡ written form s) (λ s. (s.question ≡ question) × (step s ≡ st)) h (slot_held form 0 h r) like)

        rest : List ℕ
        rest = slots_of form h (suc (suc i)) (sites form - suc i)

        here : drop (i * statement_words form) (slots_of form h 1 (sites form)) ≡ slot_of form h (suc i) ++ rest
        here = slot_at form n h i a low

        full : At P (suc i) → slot_fits form n question st i (slots_of form h 1 (sites form)) ≡ true
        full f = filled f.one f.of_station f.has
          where
            filled : (s : Statement) → s.station ≡ suc i → P s → slot_fits form n question st i (slots_of form h 1 (sites form)) ≡ true
            filled s e p =
                let d : drop (i * statement_words form) (slots_of form h 1 (sites form)) ≡ written form s ++ rest = here ∙ ap (λ (l : List ℕ). l ++ rest) (ap (slot_of form h) (sym e) ∙ p.1.0) in
                let b : statement form (slots_of form h 1 (sites form)) (i * statement_words form) ≡ s
                = statement_drop form (slots_of form h 1 (sites form)) (i * statement_words form) ∙ ap (λ (l : List ℕ). statement form l 0) d ∙ statement_back form n s rest top p.0 in
                let f : formed form n (fields_at form (slots_of form h 1 (sites form)) (i * statement_words form)) ≡ true
                = formed_drop form n (slots_of form h 1 (sites form)) (i * statement_words form) ∙ ap (λ (l : List ℕ). formed form n (fields_at form l 0)) d ∙ formed_back_on form n s rest top p.0.formed in
                let sum : (c d e f : Bool) → c ≡ true → d ≡ true → e ≡ true → f ≡ true → (c && d && e && f) ≡ true
                = λ c d e f x y z w. join (c && d && e) f (join (c && d) e (join c d x y) z) w in
                let st_is : step_of s.kind s.round ≡ st = step_is s ∙ p.1.1.1 in
                sum _ _ _ _ f (eq-eqb _ _ (ap (λ (x : Statement). x.station) b ∙ omega arith)) (eq-eqb _ _ (ap (λ (x : Statement). x.question) b ∙ p.1.1.0))
                (eq-eqb _ _ (ap (λ (x : Statement). step_of x.kind x.round) b ∙ st_is))

        go : (c : Bool) → held_of (suc i) h ≡ c → pick c (slot_fits form n question st i (slots_of form h 1 (sites form))) (zeros (slots_of form h 1 (sites form)) (i * statement_words form) (statement_words form)) ≡ true
        go true e = full (find P (suc i) h all_p e)
        go false e =
            zeros_drop (slots_of form h 1 (sites form)) (i * statement_words form) (statement_words form) ∙ ap (λ (l : List ℕ). zeros l 0 (statement_words form)) (here ∙ ap (λ (l : List ℕ). l ++ rest) (no_slot (suc i) h e)) ∙ zero_list (statement_words form) rest

    slots_ok : (k i : ℕ) → i + k ≤ sites form → slots_fit form n question st (set_of h) (slots_of form h 1 (sites form)) i k ≡ true
    unfolding slots_fit
    slots_ok zero i e = refl
    slots_ok (suc k) i e =
        join (pick (bit (set_of h) i) (slot_fits form n question st i (slots_of form h 1 (sites form))) (zeros (slots_of form h 1 (sites form)) (i * statement_words form) (statement_words form))) _
        (slot_fit i (omega arith)) (slots_ok k (suc i) (omega arith))

  -- ---- a kept group fits
  pub all_formed_drop : (n : ℕ) (ws : List ℕ) (at k : ℕ) → all_formed form n ws at k ≡ all_formed form n (drop at ws) 0 k
  unfolding all_formed
  all_formed_drop n ws at zero = refl
  all_formed_drop n ws at (suc k) =
      let e : all_formed form n ws (at + statement_words form) k ≡ all_formed form n (drop at ws) (0 + statement_words form) k
      = all_formed_drop n ws (at + statement_words form) k ∙ ap (λ (l : List ℕ). all_formed form n l 0 k) (sym (rw zero-add (drop-drop (statement_words form) at ws))) ∙ sym (all_formed_drop n (drop at ws) (0 + statement_words form) k) in
      λ i. formed_drop form n ws at i && e i

  pub all_formed_back : (n : ℕ) (c : List Statement) (rest : List ℕ) → n ≤ most_stations form → All (Proper form n) c → all_formed form n (all_written form c ++ rest) 0 (length c) ≡ true
  unfolding all_formed all_written
  all_formed_back n [] rest top h = refl
  all_formed_back n (s ∷ c) rest top h =
      let a : written form s ++ all_written form c ++ rest ≡ written form s ++ (all_written form c ++ rest) = append_assoc (written form s) (all_written form c) rest in
      let more : all_formed form n (written form s ++ all_written form c ++ rest) (0 + statement_words form) (length c) ≡ true
      = all_formed_drop n (written form s ++ all_written form c ++ rest) (0 + statement_words form) (length c)
      ∙ ap (λ (l : List ℕ). all_formed form n l 0 (length c)) (ap (drop (0 + statement_words form)) a ∙ rw zero-add (drop_at (written form s) (all_written form c ++ rest) (statement_words form) (length_written form n s h.0)))
      ∙ all_formed_back n c rest top h.1 in
      join (formed form n (fields_at form (written form s ++ all_written form c ++ rest) 0)) _ (ap (λ (l : List ℕ). formed form n (fields_at form l 0)) a ∙ formed_back_on form n s (all_written form c ++ rest) top h.0.formed) more

  group_ok : (n question : ℕ) (g : Group) (c : List Statement) → n ≤ most_stations form → Kept n question g c → group_fits form n question g (group_words form c) ≡ true
  group_ok n question g c top k =
      let size : length c ≡ g.size = k.as_asked.size in
      let back : statements form (group_words form c) 0 g.size ≡ c
      = ap (statements form (group_words form c) 0) (sym size) ∙ statements_back form n c (replicate (kept_words form - length c * statement_words form) 0) top k.proper in
      let formed_all : all_formed form n (group_words form c) 0 g.size ≡ true
      = ap (all_formed form n (group_words form c) 0) (sym size) ∙ all_formed_back n c (replicate (kept_words form - length c * statement_words form) 0) top k.proper in
      let behind : zeros (group_words form c) (g.size * statement_words form) (kept_words form - g.size * statement_words form) ≡ true
      = subst (λ (z : ℕ). zeros (group_words form c) (z * statement_words form) (kept_words form - z * statement_words form) ≡ true) size (tail (length_all form n c k.proper)) in
      join (holds g (statements form (group_words form c) 0 g.size) && all_formed form n (group_words form c) 0 g.size
      && every (λ s. eqb s.question question) (statements form (group_words form c) 0 g.size)) _
      (join (holds g (statements form (group_words form c) 0 g.size) && all_formed form n (group_words form c) 0 g.size) _
      (join (holds g (statements form (group_words form c) 0 g.size)) _ (rw back (holds_in g c k.as_asked)) formed_all)
      (rw back (every_in (λ s. eqb s.question question) c (all_map (λ s e. eq-eqb _ _ e) c k.alike))))
      behind
    where
      tail : length (all_written form c) ≡ length c * statement_words form → zeros (group_words form c) (length c * statement_words form) (kept_words form - length c * statement_words form) ≡ true
      tail e =
          zeros_drop (group_words form c) (length c * statement_words form) (kept_words form - length c * statement_words form)
          ∙ ap (λ (l : List ℕ). zeros l 0 (kept_words form - length c * statement_words form)) (drop_at (all_written form c) (replicate (kept_words form - length c * statement_words form) 0) (length c * statement_words form) e ∙ sym (append-nil (replicate (kept_words form - length c * statement_words form) 0)))
          ∙ zero_list (kept_words form - length c * statement_words form) []

  -- ---- the words of a sane state
  module _ (n site : ℕ) (t : State) (top : n ≤ most_stations form) (lo : 1 ≤ site) (hi : site ≤ n) (S : Sane n site t) where
    pub held_read : held_by form (W.as_station form n site t) ≡ t.held
    unfolding W.as_station
    held_read = held_back form n t.held top S.rising S.proper

    stage_ok : stage_fits form t.stage (get_or (slots_of form t.held 1 (sites form)) ((site - 1) * statement_words form) 0) ≡ true
    stage_ok = go (find P site t.held all_p S.mine)
      where
        P : Statement → Type 0
        P s = (s.station ≡ site → FlagOf t.stage s) × (Proper form n s × (slot_of form t.held s.station ≡ written form s))

        all_p : All P t.held
        all_p =
            all_two (λ s. s.station ≡ site → FlagOf t.stage s) (λ s. Proper form n s × (slot_of form t.held s.station ≡ written form s)) t.held S.flag
            (all_two (Proper form n) (λ s. slot_of form t.held s.station ≡ written form s) t.held S.proper (slot_held form 0 t.held S.rising))

        by : (g : Stage) (w : ℕ) (s : Statement) → flag_of w ≡ s.flag → InRounds g → FlagOf g s → stage_fits form g w ≡ true
        by Gathering w s e r f = refl
        by (Proposing r x) w s e b f =
            join (leb 1 r.0 && leb r.0 (last_round form)) _ (join (leb 1 r.0) _ (le-leb _ _ b.0) (le-leb _ _ b.1)) (eq-eqb x (flag_of w) (f ∙ sym e))
        by (Voting r) w s e b f = join (leb 1 r.0) _ (le-leb _ _ b.0) (le-leb _ _ b.1)

        at_own : (s : Statement) → s.station ≡ site → P s → stage_fits form t.stage (get_or (slots_of form t.held 1 (sites form)) ((site - 1) * statement_words form) 0) ≡ true
        at_own s e p =
            let rest : List ℕ = slots_of form t.held (suc (suc (site - 1))) (sites form - suc (site - 1)) in
            let x : suc (site - 1) ≡ s.station = omega arith in
            let d : drop ((site - 1) * statement_words form) (slots_of form t.held 1 (sites form)) ≡ written form s ++ rest
            = slot_at form n t.held (site - 1) S.proper (omega arith) ∙ ap (λ (l : List ℕ). l ++ rest) (ap (slot_of form t.held) x ∙ p.1.1) in
            let w : get_or (slots_of form t.held 1 (sites form)) ((site - 1) * statement_words form) 0 ≡ word_0 form s
            = get_d_at (slots_of form t.held 1 (sites form)) ((site - 1) * statement_words form) (written form s ++ rest) d in
            rw w (by t.stage (word_0 form s) s (word_back form n s top p.1.0.formed).flag S.rounds (p.0 e))

        go : At P site → stage_fits form t.stage (get_or (slots_of form t.held 1 (sites form)) ((site - 1) * statement_words form) 0) ≡ true
        go f = at_own f.one f.of_station f.has

    pub sane_fits : fits form n site (W.as_station form n site t) ≡ true
    unfolding fits W.as_station
    sane_fits =
        let h = t.held in
        let own_bit : bit (set_of h) (site - 1) ≡ true
        = bit_set h S.rising (site - 1) ∙ ap (λ (k : ℕ). held_of k h) (suc_pred site lo) ∙ S.mine in
        let small : set_of h < 2 ^ sites form = set_low (sites form) h S.rising (all_map (λ s p. omega (arith, (formed_out form n s p.formed).high)) h S.proper) in
        let count : ones (set_of h) < quorum n = omega (arith, ones_set h S.rising, S.few) in
        let slots = slots_ok n t.question (stage_step t.stage) h top S.rising S.proper S.alike (sites form) 0 (omega arith) in
        let one = group_ok n t.question (kept_for_value n t.stage h) t.for_value top S.for_value in
        let two = group_ok n t.question (kept_for_none n t.stage h) t.for_none top S.for_none in
        join (eqb n n && eqb site site) _ (join (eqb n n) _ (eq-eqb n n refl) (eq-eqb site site refl))
        (right t.closed _
        (join (ltb (set_of h) (2 ^ sites form) && ltb (ones (set_of h)) (quorum n) && bit (set_of h) (site - 1)
        && slots_fit form n t.question (stage_step t.stage) (set_of h) (slots_of form h 1 (sites form)) 0 (sites form)) _
        (join (ltb (set_of h) (2 ^ sites form) && ltb (ones (set_of h)) (quorum n) && bit (set_of h) (site - 1)) _
        (join (ltb (set_of h) (2 ^ sites form) && ltb (ones (set_of h)) (quorum n)) _ (join (ltb (set_of h) (2 ^ sites form)) _ (lt-ltb _ _ small) (lt-ltb _ _ count)) own_bit) slots)
        (rw held_read
        (join (stage_fits form t.stage (get_or (slots_of form h 1 (sites form)) ((site - 1) * statement_words form) 0) && leb t.lasting.decision none
        && group_fits form n t.question (kept_for_value n t.stage h) (group_words form t.for_value)) _
        (join (stage_fits form t.stage (get_or (slots_of form h 1 (sites form)) ((site - 1) * statement_words form) 0) && leb t.lasting.decision none) _
        (join (stage_fits form t.stage (get_or (slots_of form h 1 (sites form)) ((site - 1) * statement_words form) 0)) _ stage_ok (le-leb _ _ S.decision)) one) two))))

    pub state_back : state_of form (W.as_station form n site t) ≡ t
    unfolding state_of W.as_station
    state_back =
        let h = held_read in
        let one : statements form (group_words form t.for_value) 0 (kept_for_value n t.stage t.held).size ≡ t.for_value
        = ap (statements form (group_words form t.for_value) 0) (sym S.for_value.as_asked.size) ∙ statements_back form n t.for_value (replicate (kept_words form - length t.for_value * statement_words form) 0) top S.for_value.proper in
        let two : statements form (group_words form t.for_none) 0 (kept_for_none n t.stage t.held).size ≡ t.for_none
        = ap (statements form (group_words form t.for_none) 0) (sym S.for_none.as_asked.size) ∙ statements_back form n t.for_none (replicate (kept_words form - length t.for_none * statement_words form) 0) top S.for_none.proper in
        rw h (λ i. record { question = t.question; stage = t.stage; closed = t.closed; lasting = t.lasting; held = t.held; for_value = one i; for_none = two i })
