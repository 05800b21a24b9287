-- Earlier lists of calls. The premises pass to every earlier list and a decision stays, so that "the first call after which" and "from then on" can be
-- said in a line. A later call changes a station by its own givings alone, which add to what it took; a later opening makes a station with another number.
use Rattle.std.specs.Prelude.{ℕ, suc, ◌<◌, Bool, true, false, ◌&&◌, refl, eqb}
use mathlib.Core.List.{List, [], ◌∷◌, ◌++◌}
use Rattle.std.proofs.Math.Path.{◌≡◌}
use Rattle.std.proofs.Common.{ap, arith, eqb-true, ne_eqb}
use Rattle.laws.specs.Pick.{pick}
use Rattle.laws.specs.Bools.{right}
use Rattle.format.specs.Statement.{Statement}
use Rattle.format.specs.Lists.{some}
use Rattle.station.specs.Calls.{Returned}
use Rattle.agreement.proofs.Maths.Counting.{count_mono}
use Rattle.agreement.specs.Maths.Votes.{votes}
use Rattle.agreement.specs.Demand.{Call, action, View, starting, going_on, apart, view, Lineage, Found, nothing, found, counted}
use Rattle.agreement.specs.Present.{written_main, given_main, started, gave, went, answer, unrefused_at, openings, lineage, Sound, FewFaulty, Given, Decides}

-- what is among some statements is among more of them
some_behind : (p : Statement → Bool) (new l : List Statement) → some p l ≡ true → some p (new ++ l) ≡ true
unfolding some
some_behind p [] l e = e
some_behind p (s ∷ new) l e = right (p s) _ (some_behind p new l e)

-- a station that is there behind a giving was there before it; one that is there behind an opening was there before it or is the opening's
given_there : {A : Type 0} (b : Bool) (r : Returned) (ws : List ℕ) (f : Found) (l : Lineage) → ((l : Lineage) → f ≡ found l → A) → pick b (gave r ws f) f ≡ found l → A
unfolding pick
given_there b r ws (found x) l h e = h x refl
given_there true r ws nothing l h e = h l e
given_there false r ws nothing l h e = h l e

opened_there : (b : Bool) (m k : ℕ) (x f : Found) (l : Lineage) → ((l : Lineage) → f ≡ found l → k < m) → pick (b && eqb m k) x f ≡ found l → k < pick b (suc m) m
unfolding pick
opened_there true m k x f l h e = go (eqb m k) refl e
  where
    go : (c : Bool) → eqb m k ≡ c → pick c x f ≡ found l → k < suc m
    go true z e = omega (arith, eqb-true m k z)
    go false z e = omega (arith, h l e)
opened_there false m k x f l h e = h l e

-- a station's history a call on: it took all that it had taken
record Grown (f : Found) (l : Lineage) : Type 0 where
  line : Lineage
  is : f ≡ found line
  more : (p : Statement → Bool) → some p l.took ≡ true → some p line.took ≡ true

given_on : (b : Bool) (r : Returned) (ws : List ℕ) (f : Found) (l : Lineage) → f ≡ found l → Grown (pick b (gave r ws f) f) l
unfolding pick
given_on true r ws f l e =
    record {
      line = record { present = r.station; took = written_main r ++ (given_main r ws ++ l.took) };
      is = ap (gave r ws) e;
      more = λ p h. some_behind p (written_main r) _ (some_behind p (given_main r ws) l.took h);
    }
given_on false r ws f l e = record { line = l; is = e; more = λ p h. h }

-- a call that was none of this station's
passed_by : (b : Bool) (x f : Found) (l : Lineage) → f ≡ found l → b ≡ false → Grown (pick b x f) l
unfolding pick
passed_by b x f l e z = record { line = l; is = rw z e; more = λ p h. h }

and_false : (b : Bool) → (b && false) ≡ false
and_false true = refl
and_false false = refl

-- both, by the view of the call
there_by : (v : View) (now : Bool) (r : Returned) (o k : ℕ) (f : Found) (l : Lineage) → ((l : Lineage) → f ≡ found l → k < o) → went v now r o k f ≡ found l → k < counted v now o
there_by (starting q j) now r o k f l h e = opened_there now o k (started r) f l h e
there_by (going_on j t ws) now r o k f l h e = given_there (now && eqb j k) r ws f l h e
there_by apart now r o k f l h e = h l e

on_by : (v : View) (now : Bool) (r : Returned) (o k : ℕ) (f : Found) (l : Lineage) → f ≡ found l → k < o → Grown (went v now r o k f) l
on_by (starting q j) now r o k f l e below = passed_by (now && eqb o k) (started r) f l e (rw (ne_eqb o k (λ z. omega arith), and_false))
on_by (going_on j t ws) now r o k f l e below = given_on (now && eqb j k) r ws f l e
on_by apart now r o k f l e below = record { line = l; is = e; more = λ p h. h }

module _ (mac : List ℕ → List ℕ → List ℕ) (key : List ℕ) (n : ℕ) where
  pub given_before : (later cs : List Call) → Given mac key n (later ++ cs) → Given mac key n cs
  unfolding Rattle.agreement.specs.Demand.Given
  given_before [] cs g = g
  given_before (c ∷ later) cs g = given_before later cs g.1.1

  pub sound_before : (i : ℕ) (later cs : List Call) → Sound mac key n i (later ++ cs) → Sound mac key n i cs
  unfolding Rattle.agreement.specs.Demand.Sound
  sound_before i [] cs s = s
  sound_before i (c ∷ later) cs s = sound_before i later cs s.1

  pub few_before : (later cs : List Call) → FewFaulty mac key n (later ++ cs) → FewFaulty mac key n cs
  few_before later cs f = record { faulty = f.faulty; few = f.few; others = λ i a b h. sound_before i later cs (f.others i a b h) }

  -- a site's stations are numbered below its count of openings
  numbered : (i k : ℕ) (cs : List Call) (l : Lineage) → lineage mac key n cs i k ≡ found l → k < openings mac key n cs i
  unfolding Rattle.agreement.specs.Demand.lineage Rattle.agreement.specs.Demand.openings
  numbered i k [] l e = absurd (let z : ◌≡◌ {A = ℕ} 0 1 = cc in omega arith)
  numbered i k (c ∷ cs) l e = there_by (view (action c)) (unrefused_at mac key n cs c i) (answer mac key n cs c) (openings mac key n cs i) k (lineage mac key n cs i k) l (numbered i k cs) e

  onward : (c : Call) (cs : List Call) (i k : ℕ) (l : Lineage) → lineage mac key n cs i k ≡ found l → Grown (lineage mac key n (c ∷ cs) i k) l
  unfolding Rattle.agreement.specs.Demand.lineage
  onward c cs i k l e =
      on_by (view (action c)) (unrefused_at mac key n cs c i) (answer mac key n cs c) (openings mac key n cs i) k (lineage mac key n cs i k) l e (numbered i k cs l e)

  decides_on : (c : Call) (cs : List Call) (i k question v : ℕ) → Decides mac key n cs i k question v → Decides mac key n (c ∷ cs) i k question v
  decides_on c cs i k question v d =
      let o = onward c cs i k d.line d.is in
      record {
        line = o.line;
        is = o.is;
        bit = d.bit;
        round = d.round;
        enough = omega (arith, d.enough, count_mono (votes d.line.took question d.round v) (votes o.line.took question d.round v) (λ s h. o.more _ h) n);
      }

  pub decides_after : (later cs : List Call) (i k question v : ℕ) → Decides mac key n cs i k question v → Decides mac key n (later ++ cs) i k question v
  decides_after [] cs i k question v d = d
  decides_after (c ∷ later) cs i k question v d = decides_on c (later ++ cs) i k question v (decides_after later cs i k question v d)
