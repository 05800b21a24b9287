-- A turn behind a fault is one of the walk, whatever the group: `glance_is_walk`. And the loop at word `at`: one turn, and its end.
use Prim.Native.Nat.{ℕ, zero, suc, ◌+◌, ◌-◌, ◌*◌, ◌/◌, ◌≤◌, ◌<◌}
use Rattle.std.specs.Prelude.{Bool, ◌||◌, List, ◌≡◌, eqb, length, get_or}
use Rattle.std.proofs.Math.Bool.{true, false, not}
use Rattle.std.proofs.Math.Path.{refl}
use Rattle.std.proofs.Common.{sym, ap, subst, ◌∙◌, arith}
use Rattle.laws.specs.Pick.{pick}
use Rattle.laws.specs.Bools.{or_nothing}
use Rattle.laws.specs.Refusals.{first_failed}
use Rattle.format.specs.Numbers.{malformed}
use Rattle.format.specs.Words.{station_of, fields_of}
use Rattle.format.specs.Present.{place_of, statement_words, formed}
use Rattle.rules.specs.declared.Group.{Group}
use Rattle.walk.specs.declared.Findings.{Findings}
use Rattle.walk.specs.Walk.{noted, turned, walked, answer}
use Rattle.glance.specs.Glance.{passed, passed_at, glanced, left, further, Glancing}

still : (o p w : Bool) → (o || w) ≡ true → (o || p || w) ≡ true
still true p w h = refl
still false true w h = refl
still false false w h = h

still_faulty : (b o p w : Bool) → (o || w) ≡ true → (b || (o || p) || w) ≡ true
still_faulty true o p w h = refl
still_faulty false o p w h = still o p w h

pub stays : (n question : ℕ) (ws : List ℕ) (f : Findings) → (f.other || f.wrong) ≡ true → ((passed_at n question ws f).other || (passed_at n question ws f).wrong) ≡ true
unfolding passed
stays n question ws f fault = still f.other (not (eqb (get_or ws (place_of f.place + 1) 0) question)) f.wrong fault

module _ (code : List ℕ → List ℕ) (n : ℕ) (g : Group) (question : ℕ) (ws : List ℕ) where
  -- a turn behind such a fault
  turn_passes : (f : Findings) → (f.other || f.wrong) ≡ true → turned code n g question ws f ≡ passed_at n question ws f
  unfolding noted passed fields_of
  turn_passes f fault =
      let known : (not (formed n (fields_of (get_or ws (place_of f.place) 0))) || (f.other || not (eqb (get_or ws (place_of f.place + 1) 0) question)) || f.wrong) ≡ true
      = still_faulty (not (formed n (fields_of (get_or ws (place_of f.place) 0)))) f.other (not (eqb (get_or ws (place_of f.place + 1) 0) question)) f.wrong fault in
      rw (known, ← or_nothing f.wrong, ← or_nothing f.unbacked, ← or_nothing f.dget, ← or_nothing f.zero, ← or_nothing f.one)

  pub glance_is_walk : (k : ℕ) (f : Findings) → (f.other || f.wrong) ≡ true → glanced n question ws f k ≡ walked code n g question ws f k
  unfolding glanced walked pick
  glance_is_walk zero f fault = refl
  glance_is_walk (suc k) f fault = go f.malformed (glance_is_walk k (passed_at n question ws f) (stays n question ws f fault))
    where
      go : (b : Bool) → glanced n question ws (passed_at n question ws f) k ≡ walked code n g question ws (passed_at n question ws f) k
          → pick b f (glanced n question ws (passed_at n question ws f) k) ≡ pick b f (walked code n g question ws (turned code n g question ws f) k)
      go true ih = refl
      go false ih = rw (turn_passes f fault) ih

-- 3 is answered behind a malformed statement, whatever stands there
pub answered_3 : (n question : ℕ) (ws : List ℕ) (f : Findings) (k : ℕ) → f.malformed ≡ true → malformed ≡ answer (glanced n question ws f k)
unfolding glanced answer first_failed pick
answered_3 n question ws f zero h = rw h
answered_3 n question ws f (suc k) h = rw h

module _ (n question : ℕ) (ws : List ℕ) (f : Findings) where
  pub glance_start : f.malformed ≡ false → Glancing n question ws f (place_of f.place) false f.other
  glance_start h = record {
    place = f.place;
    last = f.last;
    here = refl;
    same = subst (λ b. glanced n question ws f (left ws f.place) ≡ glanced n question ws (further f f.place f.last b f.other) (left ws f.place)) h refl;
  }

  module _ (at : ℕ) (o : Bool) where
    next_passed : (p last : ℕ) (good : Bool) → at ≡ place_of p → formed n (fields_of (get_or ws at 0)) ≡ good → at + statement_words ≤ length ws
        → glanced n question ws (further f p last false o) (left ws p)
        ≡ glanced n question ws (further f (p + 1) (station_of (get_or ws at 0)) (not good) (o || not (eqb (get_or ws (at + 1) 0) question))) (left ws (p + 1))
    unfolding glanced passed fields_of pick left
    next_passed p last good here well inside =
        let z : (length ws - (1 + p * statement_words)) / statement_words ≡ suc ((length ws - (1 + (p + 1) * statement_words)) / statement_words) = omega (arith, inside, here) in
        rw (z, ← well, here)

    pub glance_turn : formed n (fields_of (get_or ws at 0)) ≡ true → at + statement_words ≤ length ws → Glancing n question ws f at false o
        → Glancing n question ws f (at + statement_words) false (o || not (eqb (get_or ws (at + 1) 0) question))
    glance_turn well inside G = record {
      place = G.place + 1;
      last = station_of (get_or ws at 0);
      here = omega (arith, G.here);
      same = G.same ∙ next_passed G.place G.last true G.here well inside;
    }

    pub glance_malformed : formed n (fields_of (get_or ws at 0)) ≡ false → at + statement_words ≤ length ws → Glancing n question ws f at false o
        → malformed ≡ answer (glanced n question ws f (left ws f.place))
    glance_malformed ill inside G =
        answered_3 n question ws _ (left ws (G.place + 1)) refl ∙ sym (ap answer (G.same ∙ next_passed G.place G.last false G.here ill inside))

    none_left : (p last : ℕ) → at ≡ place_of p → length ws < at + statement_words
        → answer (further f f.place f.last false o) ≡ answer (glanced n question ws (further f p last false o) (left ws p))
    unfolding glanced left answer
    none_left p last here short =
        let z : (length ws - (1 + p * statement_words)) / statement_words ≡ 0 = omega (arith, here, short) in
        rw z

    pub glance_end : length ws < at + statement_words → Glancing n question ws f at false o
        → answer (further f f.place f.last false o) ≡ answer (glanced n question ws f (left ws f.place))
    glance_end short G = none_left G.place G.last G.here short ∙ sym (ap answer G.same)
