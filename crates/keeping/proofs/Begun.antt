-- The state of a station that has just sent, which is a blank one that keeps the bundle it wrote, is the definition `began`.
use Rattle.std.specs.Prelude.{ℕ, zero, suc, ◌*◌, ◌≤◌, Bool, ◌&&◌, List, [], ◌∷◌, ◌≡◌, eqb, length, get_or, take, replicate}
use Rattle.std.proofs.Math.Bool.{true, false}
use Rattle.std.proofs.Math.Path.{refl, ap}
use Rattle.std.proofs.Common.{sym, ◌∙◌, arith, eq-eqb}
use Rattle.laws.specs.Pick.{pick, skip}
use Rattle.laws.specs.Bools.{join}
use Rattle.laws.specs.Sets.{bit}
use Rattle.laws.specs.All.{All}
use Rattle.format.specs.Form.{present_form}
use Rattle.format.specs.Group.{quorum}
use Rattle.format.specs.Statement.{Statement}
use Rattle.format.specs.Lists.{some, every}
use Rattle.rules.specs.declared.Group.{Group}
use Rattle.station.specs.declared.Stage.{Stage}
use Rattle.rules.specs.Test.{holds, in_order}
use Rattle.station.specs.Machine.{State, stage_step, keeping, insert, held_of, began, supplies_for_value, supplies_for_none, kept_for_value, kept_for_none, no_group}
use Rattle.station.specs.Present as W
use Rattle.format.proofs.Laws.ReadBack.{Proper}
use Rattle.format.specs.Present.{most_statements, most_stations, statements, main_of, certificate_of, bundle_of, statement_words}
use Rattle.station.proofs.Laws.Bundles.{main_is, certificate_is, bundle_there}
use Rattle.station.specs.Fit.{zeros}
use Rattle.station.specs.Present.{empty_station, state_of, held_in, held_by, kept_words, slots_words, slots_fit, group_fits, Lengths, sites}
use Rattle.station.specs.declared.Lasting.{Lasting}
use Rattle.laws.specs.Below.{Below}
use Rattle.held.proofs.Laws.Sets.{no_bit}
use Rattle.keeping.proofs.Laws.One.{LowWords, Fit}
use Rattle.keeping.specs.Kept.{with_bundle}
use Rattle.keeping.proofs.Laws.KeptState.{kept_is}
use Rattle.keeping.specs.Begun.{blank}

-- its state
abbrev empty : ℕ → Lasting → Stage → State
empty question l g = record { question = question; stage = g; closed = false; lasting = l; held = []; for_value = []; for_none = [] }

abbrev no_words : ℕ → List ℕ
no_words k = replicate k 0

zero_at : (k i : ℕ) → get_or (no_words k) i 0 ≡ 0
zero_at zero zero = refl
zero_at zero (suc i) = refl
zero_at (suc k) zero = refl
zero_at (suc k) (suc i) = zero_at k i

zeros_low : (k : ℕ) → Below (replicate k 0)
zeros_low k i = omega (arith, zero_at k i)

zeros_there : (m k at : ℕ) → zeros (replicate m 0) at k ≡ true
unfolding zeros
zeros_there m zero at = refl
zeros_there m (suc k) at = join (eqb (get_or (replicate m 0) at 0) 0) _ (eq-eqb _ 0 (zero_at m at)) (zeros_there m k (suc at))

none_held : (slots : List ℕ) (k i : ℕ) → held_in 0 slots i k ≡ []
unfolding Rattle.station.specs.Words.held_in
none_held slots zero i = refl
none_held slots (suc k) i = sym (skip _ _ _ _ (no_bit i) refl) ∙ none_held slots k (suc i)

none_fit : (n question st k i : ℕ) → slots_fit n question st 0 (replicate slots_words 0) i k ≡ true
unfolding Rattle.station.specs.Fit.slots_fit
none_fit n question st zero i = refl
none_fit n question st (suc k) i =
    join (pick (bit 0 i) _ _) _ (sym (skip _ _ _ _ (no_bit i) refl) ∙ zeros_there slots_words statement_words (i * statement_words)) (none_fit n question st k (suc i))

no_group_fits : (n question : ℕ) → group_fits n question no_group (replicate kept_words 0) ≡ true
unfolding holds in_order Rattle.format.specs.Bundle.all_formed Rattle.format.specs.Statement.statements every
no_group_fits n question = zeros_there kept_words kept_words 0

module _ (n site question : ℕ) (l : Lasting) (g : Stage) where
  nothing_held : held_by (blank n site question l g) ≡ []
  unfolding blank
  nothing_held = none_held (replicate slots_words 0) sites 0

  blank_lengths : Lengths (blank n site question l g)
  unfolding blank
  blank_lengths = record { slots = refl; for_value = refl; for_none = refl }

  blank_low : LowWords (blank n site question l g)
  unfolding blank
  blank_low = record { slots = zeros_low slots_words; for_value = zeros_low kept_words; for_none = zeros_low kept_words }

  no_for_value : kept_for_value n g (held_by (blank n site question l g)) ≡ no_group
  unfolding kept_for_value some pick
  no_for_value = ap (kept_for_value n g) nothing_held

  no_for_none : kept_for_none n g (held_by (blank n site question l g)) ≡ no_group
  unfolding kept_for_none some pick
  no_for_none = ap (kept_for_none n g) nothing_held

  blank_fit : Fit n site (blank n site question l g)
  unfolding blank
  blank_fit =
      record {
        same_n = refl;
        same_site = refl;
        no_more = omega arith;
        slots = none_fit n question (stage_step g) sites 0;
        for_value = ap (λ (x : Group). group_fits n question x (replicate kept_words 0)) no_for_value ∙ no_group_fits n question;
        for_none = ap (λ (x : Group). group_fits n question x (replicate kept_words 0)) no_for_none ∙ no_group_fits n question;
      }

  blank_state : state_of (blank n site question l g) ≡ empty question l g
  unfolding blank Rattle.station.specs.Words.state_of Rattle.format.specs.Statement.statements
  blank_state =
      λ i.
      record {
        question = question;
        stage = g;
        closed = false;
        lasting = l;
        held = nothing_held i;
        for_value = statements (replicate kept_words 0) 0 (no_for_value i).size;
        for_none = statements (replicate kept_words 0) 0 (no_for_none i).size;
      }

  group_kept : (b : Bool) (c : List Statement) → pick (b && true) c [] ≡ pick b c []
  unfolding pick
  group_kept true c = refl
  group_kept false c = refl

  state_begun : (s : Statement) (c : List Statement) → keeping n (empty question l g) s c ≡ began n question l g s c
  unfolding insert some
  state_begun s c =
      λ i.
      record {
        question = question;
        stage = g;
        closed = false;
        lasting = l;
        held = s ∷ [];
        for_value = group_kept (supplies_for_value g s) (take (quorum n) c) i;
        for_none = group_kept (supplies_for_none g s) (take (quorum n) c) i;
      }

  pub begun : (s : Statement) (c : List Statement) → n ≤ most_stations → Proper present_form n s → All (Proper present_form n) c → length c ≤ most_statements → Below (bundle_of s c)
      → with_bundle (blank n site question l g) (bundle_of s c) ≡ W.as_station n site (began n question l g s c)
  unfolding Rattle.format.specs.Bundle.bundle_of some
  begun s c top p a few low =
      kept_is n site (blank n site question l g) (bundle_of s c) top blank_lengths blank_low low blank_fit (bundle_there present_form n s c top p a few) new
      ∙ ap (W.as_station n site)
      (ap (λ (t : State). keeping n t (main_of (bundle_of s c)) (certificate_of (bundle_of s c))) blank_state
      ∙ ap (λ (m : Statement). keeping n (empty question l g) m (certificate_of (bundle_of s c))) (main_is present_form n s c top p a few)
      ∙ ap (keeping n (empty question l g) s) (certificate_is present_form n s c top p a few)
      ∙ state_begun s c)
    where
      new : held_of (main_of (bundle_of s c)).station (held_by (blank n site question l g)) ≡ false
      new = ap (held_of (main_of (bundle_of s c)).station) nothing_held
