-- Words read back as the station that was written, and a station written back as the words that were read.
use Rattle.std.specs.Prelude.{ℕ, zero, suc, ◌+◌, ◌≤◌, ◌<◌, Bool, true, false, ◌&&◌, ◌||◌, ◌≡◌, refl, ltb, leb, length}
use mathlib.Core.List.{List, [], ◌∷◌, ◌++◌, append_assoc}
use Rattle.std.proofs.Math.Path.{sym, ap}
use Rattle.std.proofs.Common.{◌∙◌, arith, length-append, take_at, drop_at, drop-drop, drop-cons}
use Rattle.std.proofs.Math.Dec.{eqb}
use Rattle.std.proofs.Math.ListN.{take, drop, get_or, take-append-drop}
use Rattle.std.proofs.lemmas.List.{get_or_at}
use Rattle.std.proofs.Math.Seq.{drop-length}
use borrow.Author.Tests.{eqb-true, eq-eqb, ne_eqb, le-leb, leb-true, ltb-true, lt-ltb}
use Rattle.laws.specs.Pick.{pick}
use Rattle.laws.specs.Bools.{never, both, join}
use Rattle.station.specs.declared.Stage.{Stage}
use Rattle.station.specs.declared.Stage.TheVariants.{Gathering, Proposing, Voting}
use Rattle.station.specs.declared.Station.{Station}
use Rattle.station.specs.Present.{slots_words, kept_words, Lengths}
use Rattle.station_words.specs.Words.{stage_at, closed_at, decision_at, heard_at, slots_at, value_at, none_at, jump_at, station_words, stage_words, truth_word, settings_of, sets_of, statements_of, words_of, is_stage, is_station, stage_in, part, station_in, flag_fits}

-- ---- the head: eight settings and the set
abbrev head : ℕ → ℕ → ℕ → Stage → Bool → ℕ → ℕ → List ℕ
head n site question g c d h = (n ∷ site ∷ question ∷ (stage_words g ++ (truth_word c ∷ d ∷ []))) ++ (h ∷ [])

pub head_length : (n site question : ℕ) (g : Stage) (c : Bool) (d h : ℕ) → length (head n site question g c d h) ≡ slots_at
unfolding stage_words
head_length n site question Gathering c d h = refl
head_length n site question (Proposing r f) c d h = refl
head_length n site question (Voting r) c d h = refl

-- what stands at each place of it, whatever is behind
record Heads (n site question : ℕ) (g : Stage) (c : Bool) (d h : ℕ) (ws : List ℕ) : Type 0 where
  at_0 : get_or ws 0 0 ≡ n
  at_1 : get_or ws 1 0 ≡ site
  at_2 : get_or ws 2 0 ≡ question
  stage : stage_in (get_or ws stage_at 0) (get_or ws (stage_at + 1) 0) (get_or ws (stage_at + 2) 0) ≡ g
  staged : is_stage (get_or ws stage_at 0) (get_or ws (stage_at + 1) 0) (get_or ws (stage_at + 2) 0) ≡ true
  at_6 : get_or ws closed_at 0 ≡ truth_word c
  at_7 : get_or ws decision_at 0 ≡ d
  at_8 : get_or ws heard_at 0 ≡ h

below_2 : (f : ℕ) → ltb f 2 ≡ true → leb f 1 ≡ true
below_2 f e = let l : f < 2 = ltb-true f 2 e in le-leb f 1 (omega arith)

true_or : (x y : Bool) → x ≡ true → (x || y) ≡ true
true_or x y e = rw e

heads : (n site question : ℕ) (g : Stage) (c : Bool) (d h : ℕ) (rest : List ℕ) → flag_fits g ≡ true
    → Heads n site question g c d h (head n site question g c d h ++ rest)
unfolding stage_words stage_in pick flag_fits
heads n site question Gathering c d h rest fit =
    record { at_0 = refl; at_1 = refl; at_2 = refl; stage = refl; staged = refl; at_6 = refl; at_7 = refl; at_8 = refl }
heads n site question (Proposing r f) c d h rest fit =
    record { at_0 = refl; at_1 = refl; at_2 = refl; stage = refl; staged = true_or (leb f 1) false (below_2 f fit); at_6 = refl; at_7 = refl; at_8 = refl }
heads n site question (Voting r) c d h rest fit =
    record { at_0 = refl; at_1 = refl; at_2 = refl; stage = refl; staged = refl; at_6 = refl; at_7 = refl; at_8 = refl }

truth_back : (c : Bool) → eqb (truth_word c) 1 ≡ c
unfolding truth_word pick
truth_back true = refl
truth_back false = refl

truth_fits : (c : Bool) (most : ℕ) → 1 ≤ most → leb (truth_word c) most ≡ true
unfolding truth_word pick
truth_fits true most h = le-leb 1 most h
truth_fits false most h = le-leb 0 most (omega arith)

-- ---- the statements behind it
part_behind : (p q r : List ℕ) (at count : ℕ) → length p ≡ at → length q ≡ count → part at count (p ++ (q ++ r)) ≡ q
unfolding part
part_behind p q r at count lp lq = ap (take count) (drop_at p (q ++ r) at lp) ∙ take_at q r count lq

-- ---- a station's words, read
module _ (t : Station) (L : Lengths t) (fit : flag_fits t.stage ≡ true) where
  abbrev front : List ℕ
  front = head t.identity.n t.identity.station t.identity.question t.stage t.closed t.lasting.decision t.held.heard

  front_length : length front ≡ slots_at
  front_length = head_length t.identity.n t.identity.station t.identity.question t.stage t.closed t.lasting.decision t.held.heard

  -- the last word
  abbrev last : List ℕ
  last = truth_word t.lasting.jump ∷ []

  -- the same words, cut before each part
  at_slots : words_of t ≡ front ++ (t.held.slots ++ (t.groups.value ++ (t.groups.none ++ last)))
  unfolding words_of settings_of sets_of statements_of
  at_slots =
      append_assoc front (t.held.slots ++ t.groups.value ++ t.groups.none) last
      ∙ ap (λ (x : List ℕ). front ++ x)
      (append_assoc (t.held.slots ++ t.groups.value) t.groups.none last
      ∙ append_assoc t.held.slots t.groups.value (t.groups.none ++ last))

  at_value : words_of t ≡ (front ++ t.held.slots) ++ (t.groups.value ++ (t.groups.none ++ last))
  at_value = at_slots ∙ sym (append_assoc front t.held.slots (t.groups.value ++ (t.groups.none ++ last)))

  at_none : words_of t ≡ (front ++ t.held.slots ++ t.groups.value) ++ (t.groups.none ++ last)
  at_none = at_value ∙ sym (append_assoc (front ++ t.held.slots) t.groups.value (t.groups.none ++ last))

  at_last : words_of t ≡ (front ++ t.held.slots ++ t.groups.value ++ t.groups.none) ++ last
  at_last = at_none ∙ sym (append_assoc (front ++ t.held.slots ++ t.groups.value) t.groups.none last)

  to_value : length (front ++ t.held.slots) ≡ value_at
  to_value = length-append front t.held.slots ∙ omega (arith, front_length, L.slots)

  to_none : length (front ++ t.held.slots ++ t.groups.value) ≡ none_at
  to_none = length-append (front ++ t.held.slots) t.groups.value ∙ omega (arith, to_value, L.for_value)

  to_last : length (front ++ t.held.slots ++ t.groups.value ++ t.groups.none) ≡ jump_at
  to_last = length-append (front ++ t.held.slots ++ t.groups.value) t.groups.none ∙ omega (arith, to_none, L.for_none)

  pub words_length : length (words_of t) ≡ station_words
  words_length = ap length at_last ∙ length-append (front ++ t.held.slots ++ t.groups.value ++ t.groups.none) last ∙ omega (arith, to_last)

  front_read : Heads t.identity.n t.identity.station t.identity.question t.stage t.closed t.lasting.decision t.held.heard (words_of t)
  front_read =
      rw at_slots
      (heads t.identity.n t.identity.station t.identity.question t.stage t.closed t.lasting.decision t.held.heard
      (t.held.slots ++ (t.groups.value ++ (t.groups.none ++ last))) fit)

  slots_read : part slots_at slots_words (words_of t) ≡ t.held.slots
  slots_read = ap (part slots_at slots_words) at_slots ∙ part_behind front t.held.slots (t.groups.value ++ (t.groups.none ++ last)) slots_at slots_words front_length L.slots

  value_read : part value_at kept_words (words_of t) ≡ t.groups.value
  value_read = ap (part value_at kept_words) at_value ∙ part_behind (front ++ t.held.slots) t.groups.value (t.groups.none ++ last) value_at kept_words to_value L.for_value

  none_read : part none_at kept_words (words_of t) ≡ t.groups.none
  none_read = ap (part none_at kept_words) at_none ∙ part_behind (front ++ t.held.slots ++ t.groups.value) t.groups.none last none_at kept_words to_none L.for_none

  jump_read : get_or (words_of t) jump_at 0 ≡ truth_word t.lasting.jump
  jump_read =
      ap (λ (x : List ℕ). get_or x jump_at 0) at_last
      ∙ get_or_at (front ++ t.held.slots ++ t.groups.value ++ t.groups.none) (truth_word t.lasting.jump) [] 0 jump_at to_last

  -- they are a station
  pub written_is : is_station (words_of t) ≡ true
  unfolding is_station
  written_is =
      join (eqb (length (words_of t)) station_words) _ (eq-eqb (length (words_of t)) station_words words_length)
      (join (is_stage (get_or (words_of t) 3 0) (get_or (words_of t) 4 0) (get_or (words_of t) 5 0) && _) _
      (join (is_stage (get_or (words_of t) 3 0) (get_or (words_of t) 4 0) (get_or (words_of t) 5 0)) _ front_read.staged (rw front_read.at_6 (truth_fits t.closed _ (omega arith))))
      (rw jump_read (truth_fits t.lasting.jump _ (omega arith))))

  -- and this one
  pub station_back : station_in (words_of t) ≡ t
  unfolding station_in
  station_back =
      let h = front_read in
      let c : eqb (get_or (words_of t) 6 0) 1 ≡ t.closed = ap (λ (x : ℕ). eqb x 1) h.at_6 ∙ truth_back t.closed in
      let j : eqb (get_or (words_of t) 639 0) 1 ≡ t.lasting.jump = ap (λ (x : ℕ). eqb x 1) jump_read ∙ truth_back t.lasting.jump in
      λ i. record {
        identity = record { n = h.at_0 i; station = h.at_1 i; question = h.at_2 i };
        stage = h.stage i;
        closed = c i;
        lasting = record { jump = j i; decision = h.at_7 i };
        held = record { heard = h.at_8 i; slots = slots_read i };
        groups = record { value = value_read i; none = none_read i };
      }

-- ---- the words that a station was read from
dropped : (x : Bool) → (x || false || false) ≡ true → x ≡ true
dropped true h = refl
dropped false h = h

right_most : (x : Bool) → (false || false || x) ≡ true → x ≡ true
right_most true h = refl
right_most false h = h

middle : (x : Bool) → (false || x || false) ≡ true → x ≡ true
middle true h = refl
middle false h = h

-- no stage has a number over 2
over_2 : (tag round flag : ℕ) → 2 < tag → is_stage tag round flag ≡ false
over_2 tag round flag h =
    rw (ne_eqb tag 0 (λ e. absurd (omega arith)), ne_eqb tag 1 (λ e. absurd (omega arith)), ne_eqb tag 2 (λ e. absurd (omega arith)))

-- a stage's words, read and written
stage_again : (tag round flag : ℕ) → is_stage tag round flag ≡ true
    → (stage_words (stage_in tag round flag) ≡ tag ∷ round ∷ flag ∷ []) × (flag_fits (stage_in tag round flag) ≡ true)
unfolding stage_words stage_in pick flag_fits
stage_again zero round flag h =
    let b = both (eqb round 0) _ (dropped (eqb round 0 && eqb flag 0) h) in
    let r : round ≡ 0 = eqb-true round 0 b.0 in
    let f : flag ≡ 0 = eqb-true flag 0 b.1 in
    ((λ i. 0 ∷ sym r i ∷ sym f i ∷ []), refl)
stage_again (suc zero) round flag h =
    let b : leb flag 1 ≡ true = middle (leb flag 1) h in
    (refl, lt-ltb flag 2 (let l : flag ≤ 1 = leb-true flag 1 b in omega arith))
stage_again (suc (suc zero)) round flag h =
    let f : flag ≡ 0 = eqb-true flag 0 (right_most (eqb flag 0) h) in
    ((λ i. 2 ∷ round ∷ sym f i ∷ []), refl)
stage_again (suc (suc (suc k))) round flag h = never (is_stage (suc (suc (suc k))) round flag) (over_2 (suc (suc (suc k))) round flag (omega arith)) h

truth_again : (x : ℕ) → leb x 1 ≡ true → truth_word (eqb x 1) ≡ x
unfolding truth_word pick
truth_again zero h = refl
truth_again (suc zero) h = refl
truth_again (suc (suc k)) h = let l : suc (suc k) ≤ 1 = leb-true (suc (suc k)) 1 h in absurd (omega arith)

module _ (ws : List ℕ) (is : is_station ws ≡ true) where
  long : length ws ≡ station_words
  unfolding is_station
  long = eqb-true (length ws) station_words (both (eqb (length ws) station_words) _ is).0

  tests : (is_stage (get_or ws stage_at 0) (get_or ws (stage_at + 1) 0) (get_or ws (stage_at + 2) 0) ≡ true) × (leb (get_or ws closed_at 0) 1 ≡ true)
      × (leb (get_or ws jump_at 0) 1 ≡ true)
  unfolding is_station
  tests =
      let last = both (is_stage (get_or ws 3 0) (get_or ws 4 0) (get_or ws 5 0) && _) _ (both (eqb (length ws) station_words) _ is).1 in
      let first = both (is_stage (get_or ws 3 0) (get_or ws 4 0) (get_or ws 5 0)) _ last.0 in
      (first.0, first.1, last.1)

  -- the first nine words one by one, and the others
  abbrev front_words : List ℕ
  front_words = get_or ws 0 0 ∷ get_or ws 1 0 ∷ get_or ws 2 0 ∷ get_or ws 3 0 ∷ get_or ws 4 0 ∷ get_or ws 5 0 ∷ get_or ws 6 0 ∷ get_or ws 7 0 ∷ get_or ws 8 0 ∷ []

  nine : ws ≡ front_words ++ drop slots_at ws
  nine =
      drop-cons ws 0 0 (omega (arith, long))
      ∙ ap (λ (x : List ℕ). get_or ws 0 0 ∷ x) (drop-cons ws 1 0 (omega (arith, long))
      ∙ ap (λ (x : List ℕ). get_or ws 1 0 ∷ x) (drop-cons ws 2 0 (omega (arith, long))
      ∙ ap (λ (x : List ℕ). get_or ws 2 0 ∷ x) (drop-cons ws 3 0 (omega (arith, long))
      ∙ ap (λ (x : List ℕ). get_or ws 3 0 ∷ x) (drop-cons ws 4 0 (omega (arith, long))
      ∙ ap (λ (x : List ℕ). get_or ws 4 0 ∷ x) (drop-cons ws 5 0 (omega (arith, long))
      ∙ ap (λ (x : List ℕ). get_or ws 5 0 ∷ x) (drop-cons ws 6 0 (omega (arith, long))
      ∙ ap (λ (x : List ℕ). get_or ws 6 0 ∷ x) (drop-cons ws 7 0 (omega (arith, long))
      ∙ ap (λ (x : List ℕ). get_or ws 7 0 ∷ x) (drop-cons ws 8 0 (omega (arith, long))))))))))

  -- the last word is all that is behind the statements
  last_again : drop jump_at ws ≡ get_or ws jump_at 0 ∷ []
  last_again =
      drop-cons ws jump_at 0 (omega (arith, long))
      ∙ ap (λ (x : List ℕ). get_or ws jump_at 0 ∷ x) (ap (λ (k : ℕ). drop k ws) (sym long) ∙ drop-length ws)

  -- the statements and the last word
  statements_again : part slots_at slots_words ws ++ part value_at kept_words ws ++ part none_at kept_words ws ++ (get_or ws jump_at 0 ∷ []) ≡ drop slots_at ws
  unfolding part
  statements_again =
      let a = take slots_words (drop slots_at ws) in
      let b = take kept_words (drop value_at ws) in
      let c = take kept_words (drop none_at ws) in
      let j = get_or ws jump_at 0 ∷ [] in
      let from_c : c ++ j ≡ drop none_at ws = ap (λ (x : List ℕ). c ++ x) (sym last_again ∙ sym (drop-drop kept_words none_at ws)) ∙ take-append-drop kept_words (drop none_at ws) in
      let from_b : b ++ (c ++ j) ≡ drop value_at ws = ap (λ (x : List ℕ). b ++ x) (from_c ∙ sym (drop-drop kept_words value_at ws)) ∙ take-append-drop kept_words (drop value_at ws) in
      append_assoc (a ++ b) c j
      ∙ append_assoc a b (c ++ j)
      ∙ ap (λ (x : List ℕ). a ++ x) (from_b ∙ sym (drop-drop slots_words slots_at ws))
      ∙ take-append-drop slots_words (drop slots_at ws)

  pub words_back : words_of (station_in ws) ≡ ws
  unfolding words_of settings_of sets_of statements_of station_in
  words_back =
      let g = (stage_again (get_or ws 3 0) (get_or ws 4 0) (get_or ws 5 0) tests.0).0 in
      let c = truth_again (get_or ws 6 0) tests.1 in
      let j = truth_again (get_or ws jump_at 0) tests.2 in
      let s = part slots_at slots_words ws ++ part value_at kept_words ws ++ part none_at kept_words ws in
      (λ i. (get_or ws 0 0 ∷ get_or ws 1 0 ∷ get_or ws 2 0 ∷ (g i ++ (c i ∷ get_or ws 7 0 ∷ []))) ++ (get_or ws 8 0 ∷ []) ++ s ++ (j i ∷ []))
      ∙ append_assoc front_words s (get_or ws jump_at 0 ∷ [])
      ∙ ap (λ (x : List ℕ). front_words ++ x) statements_again
      ∙ sym nine

  pub read_fits : flag_fits (station_in ws).stage ≡ true
  unfolding station_in
  read_fits = (stage_again (get_or ws 3 0) (get_or ws 4 0) (get_or ws 5 0) tests.0).1
