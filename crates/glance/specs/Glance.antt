-- What stands behind a fault of 4 or 5: nothing is asked of the rules there and no code is computed, so that a turn of the walk looks at fields and questions alone,
-- whatever the group: `glance_is_walk` in proofs/.
use Prim.Native.Nat.{ℕ, zero, suc, ◌+◌, ◌-◌, ◌/◌}
use Rattle.std.specs.Prelude.{Bool, ◌||◌, List, ◌≡◌, eqb, length, get_or}
use Rattle.std.proofs.Math.Bool.{not}
use Rattle.laws.specs.Pick.{pick}
use Rattle.format.specs.declared.Fields.{Fields}
use Rattle.format.specs.Present.{place_of, statement_words, formed, fields_at}
use Rattle.walk.specs.declared.Findings.{Findings}

-- the statement with these fields and of this question, passed: what was found of 5 and 6 stays
unfoldable pub passed : ℕ → ℕ → Fields → ℕ → Findings → Findings
passed n question s asked f =
    record {
      place = f.place + 1;
      last = s.station;
      malformed = not (formed n s);
      other = f.other || not (eqb asked question);
      wrong = f.wrong;
      unbacked = f.unbacked;
      dget = f.dget;
      zero = f.zero;
      one = f.one;
    }

abbrev pub passed_at : ℕ → ℕ → List ℕ → Findings → Findings
passed_at n question ws f = passed n question (fields_at ws (place_of f.place)) (get_or ws (place_of f.place + 1) 0) f

-- k statements, or up to a malformed one
unfoldable pub glanced : ℕ → ℕ → List ℕ → Findings → ℕ → Findings
glanced n question ws f zero = f
glanced n question ws f (suc k) = pick f.malformed f (glanced n question ws (passed_at n question ws f) k)

-- ---- the loop at word `at`: what is found so far, one turn, and its end
-- how many whole statements there are from a place on
unfoldable pub left : List ℕ → ℕ → ℕ
left ws place = (length ws - place_of place) / statement_words

-- the findings f, further on, with what was found of 3 and 4 since
abbrev pub further : Findings → ℕ → ℕ → Bool → Bool → Findings
further f place last bad o =
    record {
      place = place;
      last = last;
      malformed = bad;
      other = o;
      wrong = f.wrong;
      unbacked = f.unbacked;
      dget = f.dget;
      zero = f.zero;
      one = f.one;
    }

-- at word `at` stands a statement of some place, behind some station, and what is passed from there on ends where all does
pub record Glancing (n question : ℕ) (ws : List ℕ) (f : Findings) (at : ℕ) (bad o : Bool) : Type 0 where
  pub place : ℕ
  pub last : ℕ
  pub here : at ≡ place_of place
  pub same : glanced n question ws f (left ws f.place) ≡ glanced n question ws (further f place last bad o) (left ws place)
