-- A station that fits and is open has one representation: it is the station written from its own state.
use Rattle.std.specs.Prelude.{ℕ, suc, ◌-◌, ◌*◌, ◌^◌, ◌≤◌, ◌<◌, Bool, true, false, ◌&&◌, List, ◌≡◌, eqb, ltb, leb, length, get_or, take, drop, replicate}
use Rattle.std.proofs.Math.Path.{refl, sym, ap}
use Rattle.std.proofs.Common.{◌∙◌, arith, eqb-true, ltb-true}
use Rattle.std.specs.Int.Count.{ones}
use Rattle.laws.specs.Pick.{pick}
use Rattle.laws.specs.Bools.{both}
use Rattle.laws.specs.All.{All, all_two}
use Rattle.laws.specs.Sets.{bit}
use Rattle.format.specs.Form.{present_form}
use Rattle.format.specs.Numbers.{none}
use Rattle.format.specs.Group.{quorum}
use Rattle.format.specs.Statement.{Statement}
use Rattle.format.specs.Lists.{every}
use Rattle.format.specs.Present.{most_stations, statement_words, statement, statements, written, all_formed}
use Rattle.rules.specs.declared.Group.{Group}
use Rattle.rules.specs.Rules.{Rising}
use Rattle.rules.specs.Test.{holds}
use Rattle.station.specs.declared.Station.{Station}
use Rattle.station.specs.Machine.{stage_step, kept_for_value, kept_for_none}
use Rattle.station.specs.Words.{set_of}
use Rattle.station.specs.Present as W
use Rattle.station.proofs.Laws.Slots.{bit_set, slot_held}
use Rattle.station.proofs.Laws.Sane.{At, find, no_slot}
use Rattle.station.proofs.Laws.FitSane.{read_slots, bit_held, for_value_size, for_none_size}
use Rattle.station.specs.Present.{slot_of, slots_of, group_words, sites, held_by, state_of, kept_words, slots_fit, stage_fits, group_fits, held_fits, rest_fits, fits, Lengths}
use Rattle.laws.specs.Below.{Below}
use Rattle.keeping.proofs.Laws.Back.{group_back, set_back, slot_words, all_slots}

-- the station's arrays are of words of 32 bits
pub record LowWords (t : Station) : Type 0 where
  pub slots : Below t.held.slots
  pub for_value : Below t.groups.value
  pub for_none : Below t.groups.none

-- what fits says of an open station's arrays
pub record Fit (n site : ℕ) (t : Station) : Type 0 where
  pub same_n : t.identity.n ≡ n
  pub same_site : t.identity.station ≡ site
  pub no_more : t.held.heard < 2 ^ sites
  pub slots : slots_fit n t.identity.question (stage_step t.stage) t.held.heard t.held.slots 0 sites ≡ true
  pub for_value : group_fits n t.identity.question (kept_for_value n t.stage (held_by t)) t.groups.value ≡ true
  pub for_none : group_fits n t.identity.question (kept_for_none n t.stage (held_by t)) t.groups.none ≡ true

pub fit_out : (n site : ℕ) (t : Station) → fits n site t ≡ true → t.closed ≡ false → Fit n site t
unfolding Rattle.station.specs.Fit.fits
fit_out n site t h shut =
    let a = both (eqb t.identity.n n && eqb t.identity.station site) _ h in
    let i = both (eqb t.identity.n n) _ a.0 in
    let b = both (held_fits n site t) (rest_fits n site t) (rw shut at a.1) in
    let c = both (ltb t.held.heard (2 ^ sites) && ltb (ones t.held.heard) (quorum n) && bit t.held.heard (site - 1)) _ b.0 in
    let d = both (ltb t.held.heard (2 ^ sites) && ltb (ones t.held.heard) (quorum n)) _ c.0 in
    let e = both (ltb t.held.heard (2 ^ sites)) _ d.0 in
    let u = both (stage_fits t.stage (get_or t.held.slots ((site - 1) * statement_words) 0) && leb t.lasting.decision none
    && group_fits n t.identity.question (kept_for_value n t.stage (held_by t)) t.groups.value) _ b.1 in
    let v = both (stage_fits t.stage (get_or t.held.slots ((site - 1) * statement_words) 0) && leb t.lasting.decision none) _ u.0 in
    record {
      same_n = eqb-true _ _ i.0;
      same_site = eqb-true _ _ i.1;
      no_more = ltb-true _ _ e.0;
      slots = c.1;
      for_value = v.1;
      for_none = u.1;
    }

module _ (n site : ℕ) (t : Station) (L : Lengths t) (A : LowWords t) (F : Fit n site t) where
  pub rising : Rising 0 (held_by t)
  rising =
      (read_slots present_form n t.identity.question (stage_step t.stage) t.held.heard t.held.slots sites 0 (omega (arith, L.slots)) F.slots).rising

  -- the set is the sum of the bits of the stations held
  pub set_same : set_of (held_by t) ≡ t.held.heard
  set_same = set_back n t.identity.question (stage_step t.stage) t.held.heard t.held.slots F.slots F.no_more

  -- each slot has the words of its station's statement, or zeros
  pub slot_same : (i : ℕ) → i < sites → slot_of (held_by t) (suc i) ≡ take statement_words (drop (i * statement_words) t.held.slots)
  unfolding pick
  slot_same i few =
      go (bit t.held.heard i) refl
      ∙ sym (slot_words n t.identity.question (stage_step t.stage) t.held.heard t.held.slots i A.slots L.slots F.slots few)
    where
      P : Statement → Type 0
      P s = (slot_of (held_by t) s.station ≡ written s) × (s ≡ statement t.held.slots ((s.station - 1) * statement_words))

      all_p : All P (held_by t)
      all_p =
          all_two (λ s. slot_of (held_by t) s.station ≡ written s) (λ s. s ≡ statement t.held.slots ((s.station - 1) * statement_words)) (held_by t)
          (slot_held present_form 0 (held_by t) rising)
          (read_slots present_form n t.identity.question (stage_step t.stage) t.held.heard t.held.slots sites 0 (omega (arith, L.slots)) F.slots).placed

      of : At P (suc i) → slot_of (held_by t) (suc i) ≡ written (statement t.held.slots (i * statement_words))
      of f =
          let e : (f.one.station - 1) * statement_words ≡ i * statement_words = omega (arith, f.of_station) in
          ap (slot_of (held_by t)) (sym f.of_station) ∙ f.has.0 ∙ ap written f.has.1 ∙ ap (λ (k : ℕ). written (statement t.held.slots k)) e

      go : (b : Bool) → bit t.held.heard i ≡ b → slot_of (held_by t) (suc i) ≡ pick b (written (statement t.held.slots (i * statement_words))) (replicate statement_words 0)
      go true e =
          of (find P (suc i) (held_by t) all_p
          (bit_held present_form n t.identity.question (stage_step t.stage) t.held.heard t.held.slots sites 0 i (omega (arith, L.slots)) F.slots (omega arith) (omega arith) e))
      go false e = no_slot present_form (suc i) (held_by t) (sym (bit_set (held_by t) rising i) ∙ ap (λ (z : ℕ). bit z i) set_same ∙ e)

  pub slots_same : slots_of (held_by t) 1 sites ≡ t.held.slots
  slots_same = all_slots (held_by t) t.held.slots L.slots slot_same

  group_same : (g : Group) (ws : List ℕ) → Below ws → length ws ≡ kept_words → g.size ≤ quorum sites → group_fits n t.identity.question g ws ≡ true
      → ws ≡ group_words (statements ws 0 g.size)
  group_same g ws low long few h =
      let c = statements ws 0 g.size in
      let a = both (holds g c && all_formed n ws 0 g.size && every (λ s. eqb s.question t.identity.question) c) _ h in
      let b = both (holds g c && all_formed n ws 0 g.size) _ a.0 in
      group_back n ws g.size low long few (both (holds g c) _ b.0).1 a.1

  pub for_value_same : n ≤ most_stations → t.groups.value ≡ group_words (state_of t).for_value
  unfolding Rattle.station.specs.Words.state_of
  for_value_same top =
      group_same (kept_for_value n t.stage (held_by t)) t.groups.value A.for_value L.for_value (for_value_size present_form n t.stage (held_by t) top) F.for_value
      ∙ ap (λ (k : ℕ). group_words (statements t.groups.value 0 (kept_for_value k t.stage (held_by t)).size)) (sym F.same_n)

  pub for_none_same : n ≤ most_stations → t.groups.none ≡ group_words (state_of t).for_none
  unfolding Rattle.station.specs.Words.state_of
  for_none_same top =
      group_same (kept_for_none n t.stage (held_by t)) t.groups.none A.for_none L.for_none (for_none_size present_form n t.stage (held_by t) top) F.for_none
      ∙ ap (λ (k : ℕ). group_words (statements t.groups.none 0 (kept_for_none k t.stage (held_by t)).size)) (sym F.same_n)

pub one_form : (n site : ℕ) (t : Station) → n ≤ most_stations → Lengths t → LowWords t → fits n site t ≡ true → t.closed ≡ false → t ≡ W.as_station n site (state_of t)
unfolding Rattle.station.specs.Words.state_of Rattle.station.specs.Words.as_station
one_form n site t top L A h shut =
    let F = fit_out n site t h shut in
    let a : t.held.heard ≡ set_of (held_by t) = sym (set_same n site t L A F) in
    let b : t.held.slots ≡ slots_of (held_by t) 1 sites = sym (slots_same n site t L A F) in
    let c = for_value_same n site t L A F top in
    let d = for_none_same n site t L A F top in
    λ i.
    record {
      identity = record { n = F.same_n i; station = F.same_site i; question = t.identity.question };
      stage = t.stage;
      closed = t.closed;
      lasting = t.lasting;
      held = record { heard = a i; slots = b i };
      groups = record { value = c i; none = d i };
    }
