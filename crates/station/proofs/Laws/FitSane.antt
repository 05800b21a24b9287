-- A station that fits, and is not closed, is sane.
use Prim.Native.Nat.{ℕ, zero, suc, ◌+◌, ◌-◌, ◌*◌, ◌/◌, ◌%◌, ◌^◌, ◌≤◌, ◌<◌}
use Rattle.std.specs.Prelude.{Bool, ◌&&◌, ◌≡◌, take, drop}
use Rattle.std.proofs.Math.Bool.{true, false}
use mathlib.Core.List.{List, [], ◌∷◌}
use Rattle.std.proofs.Math.Path.{refl, ap}
use Rattle.std.proofs.Common.{sym, ◌∙◌, subst, pow-suc, div-one, length-drop, length-take-le}
use Rattle.std.proofs.Math.Nat.{div-eq_of_lt, div-div-eq-div-mul, add-zero, zero-add}
use native.Mathlib.Omega.{arith}
use Rattle.std.specs.Int.Count.{ones, ones-ones, ones_step}
use Rattle.std.proofs.Math.Dec.{eqb, ltb, leb}
use Rattle.std.proofs.Math.ListN.{length, get_or}
use borrow.Author.Tests.{eqb-true, eqb-false, eq-eqb, ltb-true, leb-true}
use Rattle.laws.specs.Pick.{pick}
use Rattle.laws.specs.Bools.{never, both, left, right}
use Rattle.laws.specs.All.{All, all_map, all_two}
use Rattle.laws.specs.Sets.{bit}
use Rattle.format.specs.Form.{Form, most_stations, last_round, covered_words, fields_at, statement_words}
use Rattle.format.proofs.Form.{words_mono}
use Rattle.format.specs.Numbers.{none, code_words}
use Rattle.format.specs.Group.{quorum}
use Rattle.format.specs.Words.{flag_of, station_of}
use Rattle.format.specs.Statement.{Statement, statement, statements, well_formed, step, formed}
use Rattle.format.specs.Lists.{some, every, leading}
use Rattle.format.specs.Bundle.{all_formed}
use Rattle.format.proofs.Laws.Layout.{formed_well, all_well}
use Rattle.rules.specs.declared.Group.{Group}
use Rattle.rules.specs.Rules.{Rising, none_votes}
use Rattle.rules.specs.Test.{holds}
use Rattle.rules.proofs.Theorems.Backed.{holds_out, d_get_most}
use Rattle.certificate.proofs.Theorems.Exact.{every_out}
use Rattle.station.specs.declared.Stage.{Stage}
use Rattle.station.specs.declared.Stage.TheVariants.{Gathering, Proposing, Voting}
use Rattle.station.specs.declared.Station.{Station}
use Rattle.station.specs.Machine.{stage_step, held_of, supplies_for_value, supplies_for_none, round_in, kept_for_value, kept_for_none, value_group, no_group}
use Rattle.station.specs.Words.{held_in, sites, held_by, state_of, Lengths, kept_words}
use Rattle.station.specs.Fit.{zeros, slot_fits, slots_fit, stage_fits, group_fits, held_fits, rest_fits, fits}
use Rattle.format.proofs.Laws.ReadBack.{Proper}
use Rattle.station.proofs.Laws.Sane.{Kept, InRounds, FlagOf, Sane}

module _ (form : Form) where
  code_eight : (ws : List ℕ) (at : ℕ) → at + statement_words form ≤ length ws → length (take code_words (drop (at + covered_words form) ws)) ≡ code_words
  code_eight ws at h = length-take-le code_words (drop (at + covered_words form) ws) (rw length-drop (omega arith))

  -- ---- the held statements
  module _ (n question st set : ℕ) (slots : List ℕ) where
    pub record Read (i : ℕ) (l : List Statement) : Type 0 where
      pub rising : Rising i l
      pub proper : All (Proper form n) l
      pub alike : All (λ s. (s.question ≡ question) × (step s ≡ st)) l
      pub placed : All (λ s. s ≡ statement form slots ((s.station - 1) * statement_words form)) l

    one_slot : (i : ℕ) → (i + 1) * statement_words form ≤ length slots → slot_fits form n question st i slots ≡ true
        → (Proper form n (statement form slots (i * statement_words form)) × ((statement form slots (i * statement_words form)).station ≡ i + 1)) × (((statement form slots (i * statement_words form)).question ≡ question) × (step (statement form slots (i * statement_words form)) ≡ st))
    unfolding step
    one_slot i room h =
        let w = get_or slots (i * statement_words form) 0 in
        let a = both (formed form n (fields_at form slots (i * statement_words form)) && eqb (station_of w) (i + 1) && eqb (get_or slots (i * statement_words form + 1) 0) question) _ h in
        let b = both (formed form n (fields_at form slots (i * statement_words form)) && eqb (station_of w) (i + 1)) _ a.0 in
        let c = both (formed form n (fields_at form slots (i * statement_words form))) _ b.0 in (
          (record { formed = formed_well form n slots (i * statement_words form) c.0; eight = code_eight slots (i * statement_words form) (omega arith) }, eqb-true _ _ c.1),
          (eqb-true _ _ b.1, eqb-true _ _ a.1),
        )

    pub read_slots : (k i : ℕ) → (i + k) * statement_words form ≤ length slots → slots_fit form n question st set slots i k ≡ true → Read i (held_in form set slots i k)
    unfolding slots_fit held_in pick
    read_slots zero i room h = record { rising = tt; proper = tt; alike = tt; placed = tt }
    read_slots (suc k) i room h =
        let a = both (pick (bit set i) (slot_fits form n question st i slots) (zeros slots (i * statement_words form) (statement_words form))) _ h in
        go (bit set i) a.0 (read_slots k (suc i) (omega arith) a.1)
      where
        lower : (l : List Statement) → Rising (suc i) l → Rising i l
        lower [] r = tt
        lower (s ∷ l) r = (omega (arith, r.0), r.1)

        go : (b : Bool) → pick b (slot_fits form n question st i slots) (zeros slots (i * statement_words form) (statement_words form)) ≡ true → Read (suc i) (held_in form set slots (suc i) k)
            → Read i (pick b (statement form slots (i * statement_words form) ∷ held_in form set slots (suc i) k) (held_in form set slots (suc i) k))
        go false e r = record { rising = lower (held_in form set slots (suc i) k) r.rising; proper = r.proper; alike = r.alike; placed = r.placed }
        go true e r =
            let f = one_slot i (omega arith) e in
            let x : (statement form slots (i * statement_words form)).station ≡ suc i = f.0.1 ∙ omega arith in
            let y : i * statement_words form ≡ ((statement form slots (i * statement_words form)).station - 1) * statement_words form = ap (λ (z : ℕ). z * statement_words form) (omega arith) in
            record {
              rising = (omega arith, subst (λ (z : ℕ). Rising z (held_in form set slots (suc i) k)) (sym x) r.rising);
              proper = (f.0.0, r.proper);
              alike = (f.1, r.alike);
              placed = (ap (statement form slots) y, r.placed);
            }

    -- a station whose bit is set is among them
    pub bit_held : (k i j : ℕ) → (i + k) * statement_words form ≤ length slots → slots_fit form n question st set slots i k ≡ true → i ≤ j → j < i + k → bit set j ≡ true
        → held_of (suc j) (held_in form set slots i k) ≡ true
    unfolding slots_fit held_in pick some
    bit_held zero i j room h lo hi e = absurd (omega arith)
    bit_held (suc k) i j room h lo hi e =
        let a = both (pick (bit set i) (slot_fits form n question st i slots) (zeros slots (i * statement_words form) (statement_words form))) _ h in
        go (bit set i) refl (eqb j i) refl a.0 (λ z. bit_held k (suc i) j (omega arith) a.1 z (omega arith) e)
      where
        go : (b : Bool) → bit set i ≡ b → (c : Bool) → eqb j i ≡ c → pick b (slot_fits form n question st i slots) (zeros slots (i * statement_words form) (statement_words form)) ≡ true
            → (suc i ≤ j → held_of (suc j) (held_in form set slots (suc i) k) ≡ true)
            → held_of (suc j) (pick b (statement form slots (i * statement_words form) ∷ held_in form set slots (suc i) k) (held_in form set slots (suc i) k)) ≡ true
        go true x true y f ih =
            let s = one_slot i (omega arith) f in
            left (eqb (statement form slots (i * statement_words form)).station (suc j)) _ (eq-eqb _ _ (s.0.1 ∙ omega (arith, eqb-true j i y)))
        go true x false y f ih = right (eqb (statement form slots (i * statement_words form)).station (suc j)) _ (ih (omega (arith, eqb-false j i y)))
        go false x true y f ih = let z : j ≡ i = eqb-true j i y in never (bit set j) (ap (bit set) z ∙ x) e
        go false x false y f ih = ih (omega (arith, eqb-false j i y))

  -- as many as the set has ones
  pub held_count : (set : ℕ) (slots : List ℕ) (k i : ℕ) → set < 2 ^ (i + k) → length (held_in form set slots i k) ≡ ones (set / 2 ^ i)
  unfolding held_in pick
  held_count set slots zero i h =
      let z : set / 2 ^ i ≡ 0 = div-eq_of_lt (rw add-zero at h) in
      rw z (sym (ones-ones 0))
  held_count set slots (suc k) i h =
      let e : i + suc k ≡ suc i + k = omega arith in
      let x : set / 2 ^ i / 2 ≡ set / 2 ^ suc i = div-div-eq-div-mul set (2 ^ i) 2 ∙ ap (λ (z : ℕ). set / z) (sym (pow-suc 2 i)) in
      let o : ones (set / 2 ^ i) ≡ set / 2 ^ i % 2 + ones (set / 2 ^ suc i) = ones_step (set / 2 ^ i) ∙ ap (λ (z : ℕ). set / 2 ^ i % 2 + ones z) x in
      go (bit set i) refl o (held_count set slots k (suc i) (rw e at h))
    where
      go : (b : Bool) → bit set i ≡ b → ones (set / 2 ^ i) ≡ set / 2 ^ i % 2 + ones (set / 2 ^ suc i) → length (held_in form set slots (suc i) k) ≡ ones (set / 2 ^ suc i)
          → length (pick b (statement form slots (i * statement_words form) ∷ held_in form set slots (suc i) k) (held_in form set slots (suc i) k)) ≡ ones (set / 2 ^ i)
      go true e o ih = omega (arith, eqb-true (set / 2 ^ i % 2) 1 e)
      go false e o ih = omega (arith, eqb-false (set / 2 ^ i % 2) 1 e)

  -- ---- the kept groups
  pub eights : (ws : List ℕ) (k at : ℕ) → at + k * statement_words form ≤ length ws → All (λ s. length s.code ≡ code_words) (statements form ws at k)
  unfolding statements
  eights ws zero at h = tt
  eights ws (suc k) at h = (code_eight ws at (omega arith), eights ws k (at + statement_words form) (omega arith))

  kept_out : (n question : ℕ) (g : Group) (ws : List ℕ) → length ws ≡ kept_words form → g.size ≤ quorum (sites form) → group_fits form n question g ws ≡ true → Kept form n question g (statements form ws 0 g.size)
  kept_out n question g ws long few h =
      let c = statements form ws 0 g.size in
      let a = both (holds g c && all_formed form n ws 0 g.size && every (λ s. eqb s.question question) c) _ h in
      let b = both (holds g c && all_formed form n ws 0 g.size) _ a.0 in
      let d = both (holds g c) _ b.0 in
      record {
        as_asked = holds_out g c d.0;
        proper =
            all_map (λ s p. record { formed = p.0; eight = p.1 }) c
            (all_two (λ s. well_formed form n s ≡ true) (λ s. length s.code ≡ code_words) c (all_well form n ws 0 g.size d.1) (eights ws g.size 0 (omega (arith, words_mono form g.size (quorum (sites form)) few))));
        alike = all_map (λ s e. eqb-true _ _ e) c (every_out (λ s. eqb s.question question) c b.1);
      }

  pub for_value_size : (n : ℕ) (g : Stage) (h : List Statement) → n ≤ most_stations form → (kept_for_value n g h).size ≤ quorum (sites form)
  unfolding kept_for_value pick
  for_value_size n g h top = go (some (supplies_for_value g) h) g (leading (supplies_for_value g) h)
    where
      go : (b : Bool) (g : Stage) (v : ℕ) → (pick b (value_group n g v) no_group).size ≤ quorum (sites form)
      go false g v = omega arith
      go true Gathering v = omega arith
      go true (Proposing r f) v = omega (arith, d_get_most n v r.0)
      go true (Voting r) v = omega arith

  pub for_none_size : (n : ℕ) (g : Stage) (h : List Statement) → n ≤ most_stations form → (kept_for_none n g h).size ≤ quorum (sites form)
  unfolding kept_for_none pick
  for_none_size n g h top = go (some (supplies_for_none g) h)
    where
      go : (b : Bool) → (pick b (none_votes n (round_in g - 1)) no_group).size ≤ quorum (sites form)
      go false = omega arith
      go true = omega arith

  -- ---- the whole
  module _ (n site : ℕ) (t : Station) (top : n ≤ most_stations form) (lo : 1 ≤ site) (hi : site ≤ n) (L : Lengths form t) where
    flag_out : (g : Stage) (w : ℕ) → stage_fits form g w ≡ true → InRounds form g × ((s : Statement) → s.flag ≡ flag_of w → FlagOf g s)
    flag_out Gathering w h = (tt, λ s e. tt)
    flag_out (Proposing r f) w h =
        let a = both (leb 1 r.0 && leb r.0 (last_round form)) _ h in
        let b = both (leb 1 r.0) _ a.0 in
        ((leb-true _ _ b.0, leb-true _ _ b.1), λ s e. eqb-true f (flag_of w) a.1 ∙ sym e)
    flag_out (Voting r) w h = let b = both (leb 1 r.0) _ h in ((leb-true _ _ b.0, leb-true _ _ b.1), λ s e. tt)

    pub fits_sane : fits form n site t ≡ true → t.closed ≡ false → Sane form n site (state_of form t)
    unfolding fits state_of
    fits_sane h shut =
        let a = both (eqb t.identity.n n && eqb t.identity.station site) _ h in
        let same : t.identity.n ≡ n = eqb-true _ _ (both (eqb t.identity.n n) _ a.0).0 in
        let b = both (held_fits form n site t) (rest_fits form n site t) (rw shut at a.1) in
        let c = both (ltb t.held.heard (2 ^ sites form) && ltb (ones t.held.heard) (quorum n) && bit t.held.heard (site - 1)) _ b.0 in
        let d = both (ltb t.held.heard (2 ^ sites form) && ltb (ones t.held.heard) (quorum n)) _ c.0 in
        let e = both (ltb t.held.heard (2 ^ sites form)) _ d.0 in
        let u = both (stage_fits form t.stage (get_or t.held.slots ((site - 1) * statement_words form) 0) && leb t.lasting.decision none
        && group_fits form n t.identity.question (kept_for_value n t.stage (held_by form t)) t.groups.value) _ b.1 in
        let v = both (stage_fits form t.stage (get_or t.held.slots ((site - 1) * statement_words form) 0) && leb t.lasting.decision none) _ u.0 in
        let w = both (stage_fits form t.stage (get_or t.held.slots ((site - 1) * statement_words form) 0)) _ v.0 in
        let room : (0 + sites form) * statement_words form ≤ length t.held.slots = omega (arith, L.slots) in
        let R = read_slots n t.identity.question (stage_step t.stage) t.held.heard t.held.slots (sites form) 0 room c.1 in
        let F = flag_out t.stage (get_or t.held.slots ((site - 1) * statement_words form) 0) w.0 in
        let count : length (held_by form t) ≡ ones t.held.heard
        = held_count t.held.heard t.held.slots (sites form) 0 (rw zero-add (ltb-true _ _ e.0)) ∙ ap ones (div-one t.held.heard) in
        let few : length (held_by form t) < quorum n = omega (arith, ltb-true (ones t.held.heard) (quorum n) e.1) in
        let mine : held_of site (held_by form t) ≡ true
        = ap (λ (k : ℕ). held_of k (held_by form t)) (omega arith)
        ∙ bit_held n t.identity.question (stage_step t.stage) t.held.heard t.held.slots (sites form) 0 (site - 1) room c.1 (omega arith) (omega arith) d.1 in
        let one : Kept form n t.identity.question (kept_for_value n t.stage (held_by form t)) (statements form t.groups.value 0 (kept_for_value n t.stage (held_by form t)).size)
        = kept_out n t.identity.question (kept_for_value n t.stage (held_by form t)) t.groups.value L.for_value (for_value_size n t.stage (held_by form t) top) v.1 in
        let two : Kept form n t.identity.question (kept_for_none n t.stage (held_by form t)) (statements form t.groups.none 0 (kept_for_none n t.stage (held_by form t)).size)
        = kept_out n t.identity.question (kept_for_none n t.stage (held_by form t)) t.groups.none L.for_none (for_none_size n t.stage (held_by form t) top) u.1 in
        record {
          still_open = shut;
          rising = R.rising;
          proper = R.proper;
          alike = R.alike;
          few = few;
          mine = mine;
          rounds = F.0;
          flag = all_map (λ s p e. F.1 s (own s p e)) (held_by form t) R.placed;
          decision = leb-true _ _ w.1;
          for_value = rw same one;
          for_none = rw same two;
        }
      where
        own : (s : Statement) → s ≡ statement form t.held.slots ((s.station - 1) * statement_words form) → s.station ≡ site → s.flag ≡ flag_of (get_or t.held.slots ((site - 1) * statement_words form) 0)
        own s p e = ap (λ (x : Statement). x.flag) p ∙ ap (λ (k : ℕ). flag_of (get_or t.held.slots ((k - 1) * statement_words form) 0)) e
