-- The law of keeping: the words of a station with one bundle more are those of the state with that bundle, `keeping`, wherever giving accepts the bundle.
use Rattle.std.specs.Prelude.{ℕ, suc, ◌+◌, ◌-◌, ◌*◌, ◌^◌, ◌≤◌, ◌<◌, Bool, ◌&&◌, List, ◌≡◌, refl, get_or, take, drop}
use Rattle.std.proofs.Math.Bool.{true, false}
use Rattle.std.proofs.Math.Path.{sym, ap}
use Rattle.std.proofs.Common.{◌∙◌, arith, length-take-le, eqb-true, eq-eqb, ne_eqb, le-leb}
use Rattle.std.proofs.Math.Dec.{eqb, leb}
use Rattle.std.proofs.Math.ListN.{length, length-drop}
use Rattle.std.proofs.Math.Seq.{paste}
use Rattle.std.proofs.lemmas.List.Edits.{length-paste}
use Rattle.std.proofs.lemmas.Bool.{eqb-false}
use Rattle.laws.specs.Pick.{pick, skip, not_f}
use Rattle.laws.specs.Bools.{both, join}
use Rattle.laws.specs.Sets.{bit}
use Rattle.format.specs.Form.{present_form}
use Rattle.format.specs.Group.{quorum}
use Rattle.format.specs.Words.{fields_of}
use Rattle.format.specs.Statement.{Statement}
use Rattle.format.specs.Bundle.{count_in}
use Rattle.format.proofs.Laws.Layout.{formed_well}
use Rattle.format.proofs.Laws.Shape.{Formed, formed_out}
use Rattle.certificate.specs.Present.{IsBundle}
use Rattle.modules.specs.declared.Module.{Module}
use Rattle.station.specs.declared.Station.{Station}
use Rattle.station.specs.Machine.{stage_step, keeping, insert, held_of, takes, supplies_for_value, supplies_for_none}
use Rattle.station.specs.Words.{set_of}
use Rattle.station.specs.Present as W
use Rattle.rules.specs.Rules.{Rising}
use Rattle.format.proofs.Laws.ReadBack.{Proper}
use Rattle.format.specs.Present.{most_stations, place_of, statement_words, formed, written, main_of, certificate_of, all_formed}
use Rattle.format.specs.Numbers.{code_words}
use Rattle.laws.specs.All.{All}
use Rattle.station.proofs.Laws.Slots.{bit_set}
use Rattle.station.proofs.Laws.Insert.{insert_all, insert_rising}
use Rattle.station.proofs.Laws.FitSane.{read_slots}
use Rattle.held.specs.Scan.{scan, lowest}
use Rattle.held.proofs.Laws.Sets.{no_bit}
use Rattle.held.proofs.Laws.Lowest.{lowest_set}
use Rattle.station.proofs.Laws.Views.{Accepted}
use Rattle.station.specs.Present.{slot_of, slots_of, group_words, sites, held_by, state_of, Lengths}
use Rattle.laws.specs.Below.{Below}
use Rattle.keeping.proofs.Laws.Back.{written_back, all_slots}
use Rattle.keeping.proofs.Laws.One.{LowWords, Fit, fit_out, rising, set_same, slot_same, for_value_same, for_none_same}
use Rattle.held.specs.Scan.{with_station}
use Rattle.keeping.specs.Kept.{with_slot, group_from, is_lowest, taken_from, held_with, groups_with, with_bundle}
use Rattle.keeping.proofs.Laws.Parts.{set_insert, slot_insert, put_slot, group_kept, first_inserted}

module _ (n site : ℕ) (t : Station) (ws : List ℕ) (top : n ≤ most_stations) (L : Lengths t) (A : LowWords t) (low : Below ws) (F : Fit n site t) (B : IsBundle n ws)
    (new : held_of (main_of ws).station (held_by t) ≡ false) where
  formed_all : (formed n (fields_of (get_or ws 1 0)) ≡ true) × (all_formed n ws (place_of 1) (count_in ws) ≡ true)
  unfolding Rattle.format.specs.Bundle.all_formed
  formed_all = both (formed n (fields_of (get_or ws 1 0))) _ B.fields

  main_proper : Proper present_form n (main_of ws)
  main_proper = record { formed = formed_well present_form n ws 1 formed_all.0; eight = length-take-le code_words (drop 3 ws) (rw length-drop (omega (arith, B.size))) }

  main : Formed present_form n (main_of ws)
  main = formed_out present_form n (main_of ws) (formed_well present_form n ws 1 formed_all.0)

  long : length ws ≡ place_of 1 + count_in ws * statement_words
  long = omega (arith, B.size)

  of_station : suc ((main_of ws).station - 1) ≡ (main_of ws).station
  of_station = omega (arith, main.low)

  in_sites : (leb 1 (main_of ws).station && leb (main_of ws).station most_stations) ≡ true
  in_sites = join (leb 1 (main_of ws).station) _ (le-leb _ _ main.low) (le-leb (main_of ws).station sites (omega (arith, main.high)))

  -- the bit is clear, and is set
  fresh : bit t.held.heard ((main_of ws).station - 1) ≡ false
  fresh =
      ap (λ (z : ℕ). bit z ((main_of ws).station - 1)) (sym (set_same n site t L A F))
      ∙ bit_set (held_by t) (rising n site t L A F) ((main_of ws).station - 1) ∙ ap (λ (k : ℕ). held_of k (held_by t)) of_station ∙ new

  set_after : with_station t.held.heard (main_of ws).station ≡ set_of (insert (main_of ws) (held_by t))
  unfolding with_station
  set_after =
      sym (skip _ _ _ _ (not_f _ in_sites) (skip _ _ _ _ fresh refl))
      ∙ ap (λ (z : ℕ). z + 2 ^ ((main_of ws).station - 1)) (sym (set_same n site t L A F))
      ∙ sym (set_insert (main_of ws) (held_by t))

  -- the main statement is in its slot, and every other slot is as it was
  slots_after : with_slot t.held.slots (main_of ws).station ws ≡ slots_of (insert (main_of ws) (held_by t)) 1 sites
  unfolding with_slot
  slots_after =
      sym (skip _ _ _ _ (not_f _ (join (leb 1 (main_of ws).station && leb (main_of ws).station sites) _ in_sites (le-leb (place_of 1) (length ws) (omega (arith, long))))) refl)
      ∙ sym (all_slots (insert (main_of ws) (held_by t)) (paste t.held.slots (((main_of ws).station - 1) * statement_words) (drop 1 ws) statement_words)
      (length-paste t.held.slots (((main_of ws).station - 1) * statement_words) (drop 1 ws) statement_words (omega (arith, L.slots, main.low, main.high)) ten ∙ L.slots) each)
    where
      ten : statement_words ≤ length (drop 1 ws)
      ten = rw length-drop (omega (arith, long))

      numbered : (j : ℕ) → eqb (main_of ws).station (suc j) ≡ eqb ((main_of ws).station - 1) j
      numbered j = go (eqb ((main_of ws).station - 1) j) refl
        where
          go : (b : Bool) → eqb ((main_of ws).station - 1) j ≡ b → eqb (main_of ws).station (suc j) ≡ b
          go true e = eq-eqb (main_of ws).station (suc j) (omega (arith, eqb-true ((main_of ws).station - 1) j e, main.low))
          go false e = ne_eqb (main_of ws).station (suc j) (λ z. eqb-false ((main_of ws).station - 1) j e (omega arith))

      each : (j : ℕ) → j < sites
          → slot_of (insert (main_of ws) (held_by t)) (suc j) ≡ take statement_words (drop (j * statement_words) (paste t.held.slots (((main_of ws).station - 1) * statement_words) (drop 1 ws) statement_words))
      each j few =
          let w : written (main_of ws) ≡ take statement_words (drop 1 ws) = written_back n ws 1 low (omega (arith, long)) formed_all.0 in
          slot_insert (main_of ws) (suc j) (held_by t) new
          ∙ rw (numbered j, w, slot_same n site t L A F j few)
          (sym (put_slot t.held.slots (drop 1 ws) ((main_of ws).station - 1) j L.slots ten (omega (arith, main.high, main.low)) few))

  -- the bundle's certificate takes the place of a kept group where the state's definition says so
  own_set : with_station 0 (main_of ws).station ≡ 0 + 2 ^ ((main_of ws).station - 1)
  unfolding with_station
  own_set = sym (skip _ _ _ _ (not_f _ in_sites) (skip _ _ _ _ (no_bit ((main_of ws).station - 1)) refl))

  held_after : List Statement
  held_after = insert (main_of ws) (held_by t)

  takes_by : (p : Statement → Bool) → taken_from p (held_with t.held (main_of ws).station ws) (main_of ws).station ≡ takes p (held_by t) (main_of ws)
  unfolding is_lowest held_with held_after
  takes_by p =
      let R = read_slots present_form n t.identity.question (stage_step t.stage) t.held.heard t.held.slots sites 0 (omega (arith, L.slots)) F.slots in
      let up : Rising 0 held_after = insert_rising (main_of ws) 0 (held_by t) main.low new R.rising in
      let whole : All (Proper present_form n) held_after = insert_all (Proper present_form n) (main_of ws) (held_by t) main_proper R.proper in
      (λ i. eqb (lowest (scan p (set_after i) (slots_after i)) 1) (own_set i))
      ∙ ap (λ (x : ℕ). eqb x (0 + 2 ^ ((main_of ws).station - 1))) (lowest_set n p held_after 1 top up whole)
      ∙ first_inserted p (main_of ws) main.low 0 (held_by t) R.rising new

  group_after : (b : Bool) (old : List ℕ) (c : List Statement) → old ≡ group_words c
      → pick b (group_from (quorum t.identity.n) ws) old ≡ group_words (pick b (take (quorum n) (certificate_of ws)) c)
  unfolding pick
  group_after true old c e =
      ap (λ (k : ℕ). group_from (quorum k) ws) F.same_n ∙ group_kept n (quorum n) (count_in ws) ws low (omega arith) long formed_all.1
  group_after false old c e = e

  pub kept_is : with_bundle t ws ≡ W.as_station n site (keeping n (state_of t) (main_of ws) (certificate_of ws))
  unfolding with_bundle held_with groups_with Rattle.station.specs.Words.as_station Rattle.station.specs.Words.state_of fields_of
  kept_is =
      let one : pick (taken_from (supplies_for_value t.stage) (held_with t.held (main_of ws).station ws) (main_of ws).station) (group_from (quorum t.identity.n) ws) t.groups.value
      ≡ group_words (pick (takes (supplies_for_value t.stage) (held_by t) (main_of ws)) (take (quorum n) (certificate_of ws)) (state_of t).for_value)
      = rw (takes_by (supplies_for_value t.stage)) (group_after (takes (supplies_for_value t.stage) (held_by t) (main_of ws)) t.groups.value (state_of t).for_value (for_value_same n site t L A F top)) in
      let two : pick (taken_from (supplies_for_none t.stage) (held_with t.held (main_of ws).station ws) (main_of ws).station) (group_from (quorum t.identity.n) ws) t.groups.none
      ≡ group_words (pick (takes (supplies_for_none t.stage) (held_by t) (main_of ws)) (take (quorum n) (certificate_of ws)) (state_of t).for_none)
      = rw (takes_by (supplies_for_none t.stage)) (group_after (takes (supplies_for_none t.stage) (held_by t) (main_of ws)) t.groups.none (state_of t).for_none (for_none_same n site t L A F top)) in
      λ i.
      record {
        identity = record { n = F.same_n i; station = F.same_site i; question = t.identity.question };
        stage = t.stage;
        closed = t.closed;
        lasting = t.lasting;
        held = record { heard = set_after i; slots = slots_after i };
        groups = record { value = one i; none = two i };
      }

-- under the tests of giving
pub keeps_state : (mac : List ℕ → List ℕ → List ℕ) (m : Module) (t : Station) (ws : List ℕ) (coin : ℕ) (out : List ℕ) → Lengths t → LowWords t → Below ws
    → Accepted present_form mac m t ws coin out → with_bundle t ws ≡ W.as_station m.n m.station (keeping m.n (state_of t) (main_of ws) (certificate_of ws))
unfolding Rattle.station.specs.Words.state_of
keeps_state mac m t ws coin out L A low a =
    kept_is m.n m.station t ws a.cleared.range.at_most L A low (fit_out m.n m.station t a.cleared.fit a.cleared.still_open) a.cleared.bundle a.new
