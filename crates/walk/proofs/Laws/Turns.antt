-- What the turns of a walk find, in the words of the check: 3 over all statements, and where that is not found, 4, 5 and 6 over all of them.
use Prim.Native.Nat.{ℕ, zero, suc, ◌+◌}
use Rattle.std.proofs.Math.Bool.{Bool, true, false, not}
use Rattle.std.specs.Prelude.{◌&&◌, ◌||◌, List, ◌∷◌, ◌≡◌}
use Rattle.std.proofs.Math.Path.{refl, ap}
use Rattle.std.proofs.Common.{sym, ◌∙◌, arith}
use Rattle.std.proofs.Math.Dec.{eqb, ltb}
use Rattle.laws.specs.Pick.{pick}
use Rattle.laws.specs.Bools.{both, neither, or_assoc, or_nothing}
use Rattle.format.specs.Statement.{Statement}
use Rattle.format.specs.Lists.{some}
use Rattle.format.specs.Present.{place_of, statement_words, formed, statement, statements, fields_at, verifies, all_formed}
use Rattle.rules.specs.declared.Group.{Group}
use Rattle.rules.specs.Rules.{some_d_get, some_value, matches}
use Rattle.rules.specs.Test.{in_order}
use Rattle.walk.specs.declared.Findings.{Findings}
use Rattle.walk.specs.Walk.{faulty, noted, turned, walked}

-- ---- a fault found before, and one found in what follows
gather : (a p r : Bool) → (a || not p || not r) ≡ (a || not (p && r))
gather true p r = refl
gather false true r = refl
gather false false r = refl

-- where no question differs, a code is computed unless a wrong one was found
once : (o w v : Bool) → o ≡ false → (w || (not (false || o || w) && not v)) ≡ (w || not v)
once o true v h = refl
once o false v h = rw h

none_of : (o w : Bool) → o ≡ false → w ≡ false → (false || o || w) ≡ false
none_of o w p q = rw (p, q)

-- a value seen, where the statement is held against the group
seen : (a fault v r : Bool) → fault ≡ false → (a || (not fault && v) || r) ≡ (a || (v && true || r))
seen true fault v r e = refl
seen false fault true r e = rw e
seen false fault false r e = rw e

-- what is found of 4, 5 and 6 by turns over statements whose fields are in place
pub record Finds (code : List ℕ → List ℕ) (g : Group) (question : ℕ) (f r : Findings) (k : ℕ) (c : List Statement) : Type 0 where
  pub place : r.place ≡ f.place + k
  pub other : r.other ≡ (f.other || some (λ s. not (eqb s.question question)) c)
  pub wrong : r.other ≡ false → r.wrong ≡ (f.wrong || some (λ s. not (verifies code s)) c)
  pub unbacked : r.other ≡ false → r.wrong ≡ false → r.unbacked ≡ (f.unbacked || not (in_order g f.last c))
  pub dget : r.other ≡ false → r.wrong ≡ false → r.dget ≡ (f.dget || some_d_get c)
  pub zeros : r.other ≡ false → r.wrong ≡ false → r.zero ≡ (f.zero || some_value 0 c)
  pub ones : r.other ≡ false → r.wrong ≡ false → r.one ≡ (f.one || some_value 1 c)

module _ (code : List ℕ → List ℕ) (n : ℕ) (g : Group) (question : ℕ) (ws : List ℕ) where
  -- a walk that has found a malformed statement has ended
  pub stopped : (f : Findings) (k : ℕ) → f.malformed ≡ true → walked code n g question ws f k ≡ f
  unfolding walked pick
  stopped f zero h = refl
  stopped f (suc k) h = rw h

  pub onward : (f : Findings) (k : ℕ) → f.malformed ≡ false
      → walked code n g question ws f (suc k) ≡ walked code n g question ws (turned code n g question ws f) k
  unfolding walked pick
  onward f k h = rw h

  -- the turn at a place: the next is ten words on, and what it finds is of the statement there
  next : (f : Findings) (at : ℕ) → place_of f.place ≡ at → place_of (turned code n g question ws f).place ≡ at + statement_words
  unfolding noted
  next f at p = omega (arith, p)

  bad_turn : (f : Findings) (at : ℕ) (b : Bool) → place_of f.place ≡ at → formed n (fields_at ws at) ≡ b → (turned code n g question ws f).malformed ≡ not b
  unfolding noted
  bad_turn f at b p e = rw (p, e)

  turn_is : (f : Findings) (at : ℕ) → place_of f.place ≡ at → formed n (fields_at ws at) ≡ true
      → turned code n g question ws f ≡ noted code g question (f.place + 1) f false (statement ws at)
  turn_is f at p e = rw (p, e)

  -- 3
  pub finds_malformed : (k : ℕ) (f : Findings) (at : ℕ) → place_of f.place ≡ at → f.malformed ≡ false
      → (walked code n g question ws f k).malformed ≡ not (all_formed n ws at k)
  unfolding walked Rattle.format.specs.Bundle.all_formed
  finds_malformed zero f at p h = h
  finds_malformed (suc k) f at p h =
      ap (λ (r : Findings). r.malformed) (onward f k h)
      ∙ go (formed n (fields_at ws at)) refl (finds_malformed k (turned code n g question ws f) (at + statement_words) (next f at p))
    where
      go : (b : Bool) → formed n (fields_at ws at) ≡ b
          → ((turned code n g question ws f).malformed ≡ false
          → (walked code n g question ws (turned code n g question ws f) k).malformed ≡ not (all_formed n ws (at + statement_words) k))
          → (walked code n g question ws (turned code n g question ws f) k).malformed ≡ not (formed n (fields_at ws at) && all_formed n ws (at + statement_words) k)
      go true e ih = rw e (ih (bad_turn f at true p e))
      go false e ih =
          let t : Findings = turned code n g question ws f in
          rw e (ap (λ (r : Findings). r.malformed) (stopped t k (bad_turn f at false p e)) ∙ bad_turn f at false p e)

  -- 4, 5 and 6: a turn before others
  before : (f r : Findings) (s : Statement) (k : ℕ) (c : List Statement) → Finds code g question (noted code g question (f.place + 1) f false s) r k c
      → Finds code g question f r (suc k) (s ∷ c)
  unfolding noted in_order some
  before f r s k c h =
      let p : Bool = eqb s.question question in
      let t : Findings = noted code g question (f.place + 1) f false s in
      let same : r.other ≡ false → (f.other || not p) ≡ false = λ e. (neither _ _ (sym h.other ∙ e)).0 in
      -- where neither 4 nor 5 is found in the end, this statement is held against the group
      let held : r.other ≡ false → r.wrong ≡ false → faulty question f false s ≡ false = λ e v.
      none_of (f.other || not p) f.wrong (same e) (neither f.wrong _ (neither t.wrong (some (λ s. not (verifies code s)) c) (sym (h.wrong e) ∙ v)).0).0 in
      record {
        place = omega (arith, h.place);
        other = h.other ∙ or_assoc f.other (not p) (some (λ s. not (eqb s.question question)) c);
        wrong = λ e.
            h.wrong e
            ∙ ap (λ (w : Bool). w || some (λ s. not (verifies code s)) c) (once (f.other || not p) f.wrong (verifies code s) (same e))
            ∙ or_assoc f.wrong (not (verifies code s)) (some (λ s. not (verifies code s)) c);
        unbacked = λ e v.
            h.unbacked e v
            ∙ ap (λ (b : Bool). f.unbacked || (not b && not (matches g s && ltb f.last s.station)) || not (in_order g s.station c)) (held e v)
            ∙ gather f.unbacked (matches g s && ltb f.last s.station) (in_order g s.station c);
        dget = λ e v.
            h.dget e v
            ∙ ap (λ (b : Bool). f.dget || (not b && eqb s.flag 0) || some_d_get c) (held e v)
            ∙ or_assoc f.dget (eqb s.flag 0) (some_d_get c);
        zeros = λ e v. h.zeros e v ∙ seen f.zero (faulty question f false s) (eqb s.value 0) (some_value 0 c) (held e v);
        ones = λ e v. h.ones e v ∙ seen f.one (faulty question f false s) (eqb s.value 1) (some_value 1 c) (held e v);
      }

  before_turn : (f t r : Findings) (s : Statement) (k : ℕ) (c : List Statement) → t ≡ noted code g question (f.place + 1) f false s
      → Finds code g question t r k c → Finds code g question f r (suc k) (s ∷ c)
  before_turn f t r s k c e h = before f r s k c (rw e at h)

  pub finds : (k : ℕ) (f : Findings) (at : ℕ) → place_of f.place ≡ at → f.malformed ≡ false → all_formed n ws at k ≡ true
      → Finds code g question f (walked code n g question ws f k) k (statements ws at k)
  unfolding walked Rattle.format.specs.Statement.statements in_order some Rattle.format.specs.Bundle.all_formed
  finds zero f at p h a =
      record {
        place = omega arith;
        other = or_nothing f.other;
        wrong = λ e. or_nothing f.wrong;
        unbacked = λ e v. or_nothing f.unbacked;
        dget = λ e v. or_nothing f.dget;
        zeros = λ e v. or_nothing f.zero;
        ones = λ e v. or_nothing f.one;
      }
  finds (suc k) f at p h a =
      let b = both (formed n (fields_at ws at)) (all_formed n ws (at + statement_words) k) a in
      let t : Findings = turned code n g question ws f in
      let ih : Finds code g question t (walked code n g question ws t k) k (statements ws (at + statement_words) k)
      = finds k t (at + statement_words) (next f at p) (bad_turn f at true p b.0) b.1 in
      rw (onward f k h) (before_turn f t (walked code n g question ws t k) (statement ws at) k (statements ws (at + statement_words) k) (turn_is f at p b.0) ih)
