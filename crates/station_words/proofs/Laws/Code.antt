-- For the code: its tests are those of the definitions, and what it reads and writes part by part is what they say.
use Rattle.std.specs.Prelude.{ℕ, ◌+◌, ◌≤◌, Bool, true, false, ◌&&◌, List, [], ◌∷◌, ◌++◌, ◌≡◌, refl, eqb, leb, length, get_or, Option, Some, None, ok_or, Ok, Err}
use Rattle.std.proofs.Common.{append_assoc, sym, ◌∙◌, arith}
use Rattle.std.proofs.Math.Path.{ap}
use mir.Val.{bool_byte}
use borrow.Author.Tests.{eqb-true, eq-eqb, ne_eqb, leb-true}
use Rattle.laws.specs.Pick.{pick, here, skip}
use Rattle.laws.specs.Bools.{both, join, never, is_false}
use Rattle.laws.specs.Over.{over}
use Rattle.format.specs.Numbers.{malformed}
use Rattle.format.specs.Returns.{refusal_number}
use Rattle.format.specs.declared.Refusal.{Refusal}
use Rattle.format.specs.declared.Refusal.TheVariants.{Malformed}
use Rattle.format.proofs.Laws.Returns.{above}
use Rattle.station.specs.declared.Stage.{Stage}
use Rattle.station.specs.declared.Stage.TheVariants.{Gathering, Proposing, Voting}
use Rattle.station.specs.declared.Station.{Station}
use Rattle.station.specs.Present.{no_station, slots_words, kept_words}
use Rattle.station_words.specs.Words.{station_words, slots_at, value_at, none_at, stage_at, closed_at, decision_at, heard_at, jump_at, stage_words, truth_word, settings_of, sets_of, statements_of, words_of, is_stage, is_station, stage_in, part, identity_in, station_in, flag_fits, refusal, read_by, reading, writing, Writing, written_by}
use Rattle.station_words.proofs.Laws.Back.{head_length}

-- ---- a parser's answer: some value where a test holds
none_of : {A : Type 0} (b : Bool) (x : A) → pick b (Some x) None ≡ None → b ≡ false
unfolding pick
none_of true x e = absurd cc
none_of false x e = refl

some_of : {A : Type 0} (b : Bool) (x y : A) → pick b (Some x) None ≡ Some y → (b ≡ true) × (x ≡ y)
unfolding pick
some_of true x y e = (refl, cc)
some_of false x y e = absurd cc

-- ---- whether words are a station
module _ (ws : List ℕ) where
  abbrev staged : Bool
  staged = is_stage (get_or ws stage_at 0) (get_or ws (stage_at + 1) 0) (get_or ws (stage_at + 2) 0)

  abbrev stage_read : Option Stage
  stage_read = pick staged (Some (stage_in (get_or ws stage_at 0) (get_or ws (stage_at + 1) 0) (get_or ws (stage_at + 2) 0))) None

  abbrev truth_read : ℕ → Option Bool
  truth_read w = pick (leb w 1) (Some (eqb w 1)) None

  abbrev station_read : Option Station
  station_read = pick (is_station ws) (Some (station_in ws)) None

  -- what a station's words are
  parts : is_station ws ≡ true → (length ws ≡ station_words) × (staged ≡ true) × (leb (get_or ws closed_at 0) 1 ≡ true) × (leb (get_or ws jump_at 0) 1 ≡ true)
  unfolding is_station
  parts h =
      let a = both (eqb (length ws) station_words) _ h in
      let b = both (staged && leb (get_or ws closed_at 0) 1) _ a.1 in
      let c = both staged _ b.0 in
      (eqb-true _ _ a.0, c.0, c.1, b.1)

  none_read : (is_station ws ≡ true → ⊥) → None ≡ station_read
  none_read h = skip (is_station ws) (Some (station_in ws)) None None (is_false (is_station ws) h) refl

  -- words of another length, and words of which a part cannot be read, are none
  pub not_long : (length ws ≡ station_words → ⊥) → None ≡ station_read
  not_long h = none_read (λ is. h (parts is).0)

  pub no_stage : stage_read ≡ None → None ≡ station_read
  no_stage e = none_read (λ is. never staged (none_of staged _ e) (parts is).1)

  pub no_closed : truth_read (get_or ws closed_at 0) ≡ None → None ≡ station_read
  no_closed e = none_read (λ is. never (leb (get_or ws closed_at 0) 1) (none_of (leb (get_or ws closed_at 0) 1) _ e) (parts is).2)

  pub no_jump : truth_read (get_or ws jump_at 0) ≡ None → None ≡ station_read
  no_jump e = none_read (λ is. never (leb (get_or ws jump_at 0) 1) (none_of (leb (get_or ws jump_at 0) 1) _ e) (parts is).3)

  -- all parts that were read are the station
  pub all_read : (g : Stage) (c j : Bool) (s v n : List ℕ) → length ws ≡ station_words → stage_read ≡ Some g
      → truth_read (get_or ws closed_at 0) ≡ Some c → truth_read (get_or ws jump_at 0) ≡ Some j
      → s ≡ part slots_at slots_words ws → v ≡ part value_at kept_words ws → n ≡ part none_at kept_words ws
      → Some (record {
        identity = identity_in ws;
        stage = g;
        closed = c;
        lasting = record { jump = j; decision = get_or ws decision_at 0 };
        held = record { heard = get_or ws heard_at 0; slots = s };
        groups = record { value = v; none = n };
      }) ≡ station_read
  unfolding is_station station_in
  all_read g c j s v n long g_is c_is j_is s_is v_is n_is =
      let sg = some_of staged _ g g_is in
      let sc = some_of (leb (get_or ws closed_at 0) 1) _ c c_is in
      let sj = some_of (leb (get_or ws jump_at 0) 1) _ j j_is in
      (λ i. Some (record {
        identity = identity_in ws;
        stage = sym sg.1 i;
        closed = sym sc.1 i;
        lasting = record { jump = sym sj.1 i; decision = get_or ws decision_at 0 };
        held = record { heard = get_or ws heard_at 0; slots = s_is i };
        groups = record { value = v_is i; none = n_is i };
      }))
      ∙ here (is_station ws) (Some (station_in ws)) None
      (join (eqb (length ws) station_words) _ (eq-eqb _ _ long)
      (join (staged && leb (get_or ws closed_at 0) 1) _ (join staged _ sg.0 sc.0) sj.0))

-- ---- the word of a truth
pub truth_is : (so : Bool) (w : ℕ) → w ≡ bool_byte so → w ≡ truth_word so
unfolding truth_word pick
truth_is true w e = e
truth_is false w e = e

-- ---- the refusals of writing
pub has_room : (t : Station) (lent : ℕ) → 0 ≡ refusal t lent → station_words ≤ lent
unfolding refusal pick
has_room t lent e = go (leb station_words lent) refl e
  where
    go : (r : Bool) → leb station_words lent ≡ r → ◌≡◌ {A = ℕ} 0 (pick r (pick (flag_fits t.stage) 0 2) 1) → station_words ≤ lent
    go true q h = leb-true station_words lent q
    go false q h = absurd (omega arith)

-- ---- the head
three : (s : Stage) (c d h : ℕ) → get_or (stage_words s) 0 0 ∷ get_or (stage_words s) 1 0 ∷ get_or (stage_words s) 2 0 ∷ c ∷ d ∷ h ∷ []
    ≡ (stage_words s ++ (c ∷ d ∷ [])) ++ (h ∷ [])
unfolding stage_words
three Gathering c d h = refl
three (Proposing r f) c d h = refl
three (Voting r) c d h = refl

pub head_is : (t : Station) (g : List ℕ) (c : ℕ) → g ≡ stage_words t.stage → c ≡ truth_word t.closed
    → t.identity.n ∷ t.identity.station ∷ t.identity.question ∷ get_or g 0 0 ∷ get_or g 1 0 ∷ get_or g 2 0 ∷ c ∷ t.lasting.decision ∷ t.held.heard ∷ []
    ≡ settings_of t ++ sets_of t
unfolding settings_of sets_of
head_is t g c g_is c_is =
    rw (g_is, c_is)
    (ap (λ (x : List ℕ). t.identity.n ∷ t.identity.station ∷ t.identity.question ∷ x) (three t.stage (truth_word t.closed) t.lasting.decision t.held.heard))

-- ---- the words, part by part
pub head_words : (t : Station) → length (settings_of t ++ sets_of t) ≡ slots_at
unfolding settings_of sets_of
head_words t = head_length t.identity.n t.identity.station t.identity.question t.stage t.closed t.lasting.decision t.held.heard

pub words_put : (t : Station) (out words jump xs : List ℕ) → words ≡ settings_of t ++ sets_of t → jump ≡ truth_word t.lasting.jump ∷ []
    → xs ≡ over (words ++ t.held.slots ++ t.groups.value ++ t.groups.none ++ jump) out → xs ≡ over (words_of t) out
unfolding words_of statements_of
words_put t out words jump xs e je xs_are =
    let a = settings_of t ++ sets_of t in
    let b = t.held.slots in
    let c = t.groups.value in
    let d = t.groups.none in
    let w : a ++ b ++ c ++ d ≡ a ++ (b ++ c ++ d)
    = ap (λ (x : List ℕ). x ++ d) (append_assoc a b c) ∙ append_assoc a (b ++ c) d in
    xs_are
    ∙ (λ i. over (e i ++ b ++ c ++ d ++ je i) out)
    ∙ ap (λ (x : List ℕ). over (x ++ (truth_word t.lasting.jump ∷ [])) out) w

-- ---- the calls
pub read_is : (ws : List ℕ) (r : Option Station) → r ≡ station_read ws → read_by (ok_or r Malformed) ≡ reading ws
unfolding reading pick
read_is ws r e = ap (λ (x : Option Station). read_by (ok_or x Malformed)) e ∙ go (is_station ws)
  where
    go : (b : Bool) → read_by (ok_or (pick b (Some (station_in ws)) None) Malformed)
        ≡ pick b (record { number = 0; station = station_in ws }) (record { number = malformed; station = no_station })
    go true = refl
    go false = refl

pub not_wrote : (t : Station) (out : List ℕ) (e : Refusal) → refusal_number e ≡ refusal t (length out) → written_by out (Err e) ≡ writing t out
unfolding writing
not_wrote t out e e_is =
    (λ i. record { number = e_is i; count = 0; lent = out })
    ∙ skip {A = Writing} (eqb (refusal t (length out)) 0) _ _ _ (ne_eqb (refusal t (length out)) 0 (λ z. absurd (omega (arith, above e, e_is, z)))) refl

pub wrote : (t : Station) (out xs : List ℕ) → 0 ≡ refusal t (length out) → xs ≡ over (words_of t) out → written_by xs (Ok station_words) ≡ writing t out
unfolding writing
wrote t out xs z xs_are =
    (λ i. record { number = 0; count = station_words; lent = xs_are i })
    ∙ here {A = Writing} (eqb (refusal t (length out)) 0) _ _ (eq-eqb (refusal t (length out)) 0 (sym z))
