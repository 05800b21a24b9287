-- The values that a step's end asks for, by what the scans found.
use Rattle.std.specs.Prelude.{ℕ, suc, ◌*◌, ◌≤◌, List, [], ◌∷◌, ◌≡◌, refl, eqb, ltb, leb}
use Rattle.std.proofs.Math.Path.{ap}
use Rattle.std.proofs.Common.{◌∙◌}
use Rattle.std.specs.Int.Count.{ones}
use Rattle.std.proofs.lemmas.Nat.{ones-le}
use Rattle.std.proofs.Math.ListN.{length}
use Rattle.laws.specs.Pick.{pick}
use Rattle.format.specs.Statement.{Statement}
use Rattle.format.specs.Lists.{every, number_of}
use Rattle.rules.specs.declared.Which.TheVariants.{Any, Only}
use Rattle.rules.specs.Rules.{some_value}
use Rattle.station.specs.Machine.{has_value, first_value}
use Rattle.station.specs.Present.{sites, held_in}
use Rattle.held.specs.Scan.{scan, such}
use Rattle.held.proofs.Laws.Held.{scan_low, scan_number, scan_some, scan_every, scan_value}

number_all : (h : List Statement) → number_of (such Any Any) h ≡ length h
unfolding number_of pick
number_all [] = refl
number_all (s ∷ h) = ap suc (number_all h)

module _ (set : ℕ) (slots : List ℕ) where
  -- no more than there are stations
  pub few : (v found : ℕ) → found ≡ ones (scan (such (Only v) Any) set slots) → found ≤ sites
  few v found e = rw e (ones-le sites (scan (such (Only v) Any) set slots) (scan_low (such (Only v) Any) set slots))

  -- the count of INITs, and that of those with 1
  pub first_by : (all with_1 : ℕ) → all ≡ ones (scan (such Any Any) set slots) → with_1 ≡ ones (scan (such (Only 1) Any) set slots)
      → pick (leb all (2 * with_1)) 1 0 ≡ first_value (held_in set slots 0 sites)
  unfolding first_value
  first_by all with_1 e f =
      let a : all ≡ length (held_in set slots 0 sites) = e ∙ scan_number (such Any Any) set slots ∙ number_all (held_in set slots 0 sites) in
      let o : with_1 ≡ number_of (has_value 1) (held_in set slots 0 sites) = f ∙ ap ones (scan_value set slots 1) ∙ scan_number (has_value 1) set slots in
      rw (a, o)

  -- all have the value, where its scan finds all
  pub every_by : (v all such_v : ℕ) → all ≡ scan (such Any Any) set slots → such_v ≡ scan (such (Only v) Any) set slots
      → eqb such_v all ≡ every (has_value v) (held_in set slots 0 sites)
  every_by v all such_v e f = rw (e, f ∙ scan_value set slots v) (scan_every (has_value v) set slots)

  pub some_by : (v such_v : ℕ) → such_v ≡ scan (such (Only v) Any) set slots → ltb 0 such_v ≡ some_value v (held_in set slots 0 sites)
  some_by v such_v e = rw e (scan_some (such (Only v) Any) set slots)
