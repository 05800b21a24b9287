-- The first refusal of a giving, and the parts of it that the code has.
use Rattle.std.specs.Prelude.{ℕ, ◌-◌, Bool, true, false, not, ◌&&◌, ◌||◌, List, [], ◌∷◌, ◌≡◌, refl, eqb, ltb, leb, length, get_or, replicate}
use Rattle.std.proofs.lemmas.List.{length-replicate}
use Rattle.laws.specs.Refusals.{test, first_failed}
use Rattle.laws.specs.Sets.{bit}
use Rattle.format.specs.Numbers.{d_get, too_late, too_early, already_held, conflicting as conflict_number}
use Rattle.format.specs.declared.Fields.{Fields}
use Rattle.format.specs.Words.{fields_of, step_of}
use Rattle.format.specs.Statement.{Statement, step}
use Rattle.format.specs.Lists.{some}
use Rattle.format.specs.Present.{main_of}
use Rattle.hmac.specs.Code.{hmac_code}
use Rattle.rules.specs.declared.Which.{Which}
use Rattle.rules.specs.declared.Which.TheVariants.{Any, Only}
use Rattle.rules.specs.Rules.{which}
use Rattle.modules.specs.declared.Module.{Module}
use Rattle.station.specs.declared.Stage.{Stage}
use Rattle.station.specs.declared.Stage.TheVariants.{Gathering, Proposing, Voting}
use Rattle.station.specs.declared.Station.{Station}
use Rattle.station.specs.Machine.{stage_step, held_of, has_value, jumps, conflict, step_tests}
use Rattle.station.specs.Present.{state_of, held_by, give_tests}
use Rattle.held.specs.Scan.{such}

-- the number of the first test that a giving fails, where the lent output has so many words; or 0
unfoldable pub first_refusal : Module → Station → List ℕ → ℕ → ℕ → ℕ
first_refusal m t ws coin room = first_failed (give_tests hmac_code m t ws coin (replicate room 0))

-- of the lent output, the tests look at its length alone
pub first_refusal_by_length : (m : Module) (t : Station) (ws : List ℕ) (coin : ℕ) (out : List ℕ)
    → first_refusal m t ws coin (length out) ≡ first_failed (give_tests hmac_code m t ws coin out)
unfolding first_refusal
first_refusal_by_length m t ws coin out = rw (length-replicate {A = ℕ} (length out) 0)

-- ---- the parts
-- one more statement, with a value and a flag, and those of a list have both values with such a flag
unfoldable pub both_values : Which → ℕ → ℕ → List Statement → Bool
both_values w value flag h =
    ((eqb value 0 && which w flag) || some (such (Only 0) w) h) && ((eqb value 1 && which w flag) || some (such (Only 1) w) h)

unfoldable pub conflicting : Stage → ℕ → ℕ → List Statement → Bool
conflicting Gathering value flag h = false
conflicting (Proposing r f) value flag h = ltb 1 r.0 && both_values (Only d_get) value flag h
conflicting (Voting r) value flag h = both_values Any value flag h

swap : (a b : Bool) → (a && b) ≡ (b && a)
swap true true = refl
swap true false = refl
swap false true = refl
swap false false = refl

flag_first : (v : ℕ) → such (Only v) (Only d_get) ≡ (λ s. eqb s.flag d_get && has_value v s)
flag_first v = λ i s. swap (eqb s.value v) (eqb s.flag d_get) i

value_alone : (v : ℕ) → such (Only v) Any ≡ has_value v
value_alone v = λ i s. swap (eqb s.value v) true i

pub conflict_is : (g : Stage) (s : Statement) (h : List Statement) → conflicting g s.value s.flag h ≡ conflict g (s ∷ h)
unfolding conflicting both_values conflict some
conflict_is Gathering s h = refl
conflict_is (Proposing r f) s h =
    λ i. ltb 1 r.0 && ((flag_first 0 i s || some (flag_first 0 i) h) && (flag_first 1 i s || some (flag_first 1 i) h))
conflict_is (Voting r) s h = λ i. (value_alone 0 i s || some (value_alone 0 i) h) && (value_alone 1 i s || some (value_alone 1 i) h)

-- whether a statement with these fields makes the station jump
unfoldable pub jumps_by : Stage → Bool → Fields → Bool
jumps_by g jump f = jump && ltb (stage_step g) (step_of f.kind f.round.0)

pub jumps_is : (t : Station) (ws : List ℕ) (f : Fields) → f ≡ fields_of (get_or ws 1 0) → jumps_by t.stage t.lasting.jump f ≡ jumps (state_of t) (main_of ws)
unfolding jumps_by Rattle.station.specs.Words.state_of step fields_of
jumps_is t ws f e = rw e

-- the station's own tests, of a statement with these fields, that makes the station jump or not
unfoldable pub step_refused : Stage → Bool → ℕ → List Statement → Fields → ℕ
step_refused g to_jump set h f =
    first_failed
    (test (leb (stage_step g) (step_of f.kind f.round.0)) too_late
    ∷ test (to_jump || leb (step_of f.kind f.round.0) (stage_step g)) too_early
    ∷ test (to_jump || not (bit set (f.station - 1))) already_held
    ∷ test (to_jump || not (conflicting g f.value f.flag h)) conflict_number
    ∷ [])

-- where the bit says whether the main statement's station is held, they are those of the table
pub step_refused_is : (t : Station) (ws : List ℕ) (f : Fields) (to_jump : Bool) → f ≡ fields_of (get_or ws 1 0) → to_jump ≡ jumps_by t.stage t.lasting.jump f
    → bit t.held.heard (f.station - 1) ≡ held_of f.station (held_by t)
    → step_refused t.stage to_jump t.held.heard (held_by t) f ≡ first_failed (step_tests (state_of t) (main_of ws))
unfolding step_refused jumps_by Rattle.station.specs.Words.state_of step fields_of
step_refused_is t ws f to_jump e j b =
    let c : conflicting t.stage (main_of ws).value (main_of ws).flag (held_by t) ≡ conflict t.stage (main_of ws ∷ held_by t)
    = conflict_is t.stage (main_of ws) (held_by t) in
    rw (b, j, e, c)
