-- The test `rule` takes exactly what `Backed` lists: each rule's groups are those that the test looks for.
use Rattle.std.specs.Prelude.{ℕ, ◌-◌, ◌≤◌, ◌<◌, Bool, ◌&&◌, ◌||◌, ◌⊎◌, ◌≡◌, ltb, length}
use Rattle.std.proofs.Math.Bool.{true, false, not}
use Rattle.std.proofs.Common.{inl, inr, sym, ap, ◌∙◌, arith, take_at}
use mathlib.Core.List.{List, [], ◌∷◌, ◌++◌, append-nil}
use Rattle.std.proofs.Math.Path.{refl, subst}
use Rattle.std.proofs.Math.Dec.{eqb}
use Rattle.std.proofs.Math.ListN.{take, drop, take-append-drop}
use Rattle.std.proofs.Math.Seq.{drop_at}
use borrow.Author.Tests.{eqb-true, eqb-false, eq-eqb, ne_eqb, ltb-true, ltb-false, lt-ltb, le-ltb}
use Rattle.laws.specs.Pick.{pick}
use Rattle.laws.specs.Bools.{never, both, join, either, left, right, is_false}
use Rattle.laws.specs.All.{All, all_map}
use Rattle.format.specs.Form.{Form}
use Rattle.format.specs.Numbers.{kind_init, kind_p, kind_v, none, d_get, r_get}
use Rattle.format.specs.Group.{quorum, backing}
use Rattle.format.proofs.Laws.Group.{backing_most}
use Rattle.format.specs.Statement.{Statement}
use Rattle.format.proofs.Laws.Shape.{Shape, init, proposal, vote}
use Rattle.rules.specs.declared.Which.TheVariants.{Any, Only}
use Rattle.rules.specs.declared.Group.{Group}
use Rattle.rules.specs.Rules.{wanted, matches, Rising, Holds, inits, proposals, none_votes, some_d_get, some_value, BothValues, NeedsSecond, Backed, rule_1, rule_2, rule_3, rule_4, rule_5, rule_6, rule_7}
use Rattle.rules.proofs.Theorems.Later.{two_later}
use Rattle.rules.specs.Test.{in_order, holds, d_get_group, first_group, second_group, has_second, early_toss, rest_holds, spread, groups_hold, rule}

-- ---- groups
order_out : (g : Group) (above : ℕ) (c : List Statement) → in_order g above c ≡ true → Rising above c × All (λ s. matches g s ≡ true) c
unfolding in_order
order_out g above [] h = (tt, tt)
order_out g above (s ∷ c) h =
    let a = both (matches g s && ltb above s.station) _ h in
    let b = both (matches g s) _ a.0 in
    let r = order_out g s.station c a.1 in
    ((ltb-true _ _ b.1, r.0), (b.0, r.1))

order_in : (g : Group) (above : ℕ) (c : List Statement) → Rising above c → All (λ s. matches g s ≡ true) c → in_order g above c ≡ true
unfolding in_order
order_in g above [] r e = refl
order_in g above (s ∷ c) r e = join (matches g s && ltb above s.station) _ (join (matches g s) _ e.0 (lt-ltb _ _ r.0)) (order_in g s.station c r.1 e.1)

pub holds_out : (g : Group) (c : List Statement) → holds g c ≡ true → Holds g c
unfolding holds
holds_out g c h =
    let a = both (eqb (length c) g.size) _ h in
    let b = order_out g 0 c a.1 in
    record { size = eqb-true _ _ a.0; rising = b.0; each = b.1 }

pub holds_in : (g : Group) (c : List Statement) → Holds g c → holds g c ≡ true
unfolding holds
holds_in g c h = join (eqb (length c) g.size) _ (eq-eqb _ _ h.size) (order_in g 0 c h.rising h.each)

no_more : (c : List Statement) → eqb (length c) 0 ≡ true → c ≡ []
no_more [] h = refl
no_more (s ∷ c) h = let e : length (s ∷ c) ≡ 0 = eqb-true _ _ h in absurd (omega arith)

-- ---- which groups a statement asks for
-- what a D-GET proposal rests on, and with it the second group of rule 5: INITs in round 1, later proposals
pub d_get_first : (n v r : ℕ) → r ≡ 1 → d_get_group n v r ≡ inits n v
unfolding d_get_group pick
d_get_first n v r e = rw (eq-eqb r 1 e)

pub d_get_later : (n v r : ℕ) → 1 < r → d_get_group n v r ≡ proposals n (r - 1) (Only v) Any
unfolding d_get_group pick
d_get_later n v r l = rw (ne_eqb r 1 (λ e. omega arith))

-- how many statements it has, and that they are at most q
pub d_get_size : (n v r : ℕ) → (d_get_group n v r).size ≡ pick (eqb r 1) (backing n v) (quorum n)
unfolding d_get_group pick
d_get_size n v r = go (eqb r 1)
  where
    go : (b : Bool) → (pick b (inits n v) (proposals n (r - 1) (Only v) Any)).size ≡ pick b (backing n v) (quorum n)
    go true = refl
    go false = refl

pub d_get_most : (n v r : ℕ) → (d_get_group n v r).size ≤ quorum n
unfolding pick
d_get_most n v r = subst (λ (k : ℕ). k ≤ quorum n) (sym (d_get_size n v r)) (go (eqb r 1))
  where
    go : (b : Bool) → pick b (backing n v) (quorum n) ≤ quorum n
    go true = backing_most n v
    go false = omega arith

module _ (n v f r : ℕ) where
  first_2 : (k : ℕ) → k ≡ kind_p → r ≡ 1 → f ≡ d_get → first_group n k v f r ≡ inits n v
  unfolding first_group pick
  first_2 k a b c = rw (eq-eqb k kind_p a, eq-eqb f d_get c) (d_get_first n v r b)

  first_3 : (k : ℕ) → k ≡ kind_p → 1 < r → f ≡ d_get → first_group n k v f r ≡ proposals n (r - 1) (Only v) Any
  unfolding first_group pick
  first_3 k a b c = rw (eq-eqb k kind_p a, eq-eqb f d_get c) (d_get_later n v r b)

  first_4 : (k : ℕ) → k ≡ kind_p → f ≡ r_get → first_group n k v f r ≡ none_votes n (r - 1)
  unfolding first_group pick
  first_4 k a c = rw (eq-eqb k kind_p a, ne_eqb f d_get (λ e. omega arith))

  first_5 : (k : ℕ) → k ≡ kind_v → v < none → first_group n k v f r ≡ proposals n r (Only v) Any
  unfolding first_group pick
  first_5 k a b = rw (ne_eqb k kind_p (λ e. omega arith), lt-ltb v none b)

  first_6 : (k : ℕ) → k ≡ kind_v → v ≡ none → r ≡ 1 → first_group n k v f r ≡ proposals n 1 Any (Only d_get)
  unfolding first_group pick
  first_6 k a b c = rw (ne_eqb k kind_p (λ e. omega arith), le-ltb v none (omega arith), eq-eqb r 1 c)

  first_7 : (k : ℕ) → k ≡ kind_v → v ≡ none → 1 < r → first_group n k v f r ≡ proposals n r Any Any
  unfolding first_group pick
  first_7 k a b c = rw (ne_eqb k kind_p (λ e. omega arith), le-ltb v none (omega arith), ne_eqb r 1 (λ e. omega arith))

second_5 : (n v r : ℕ) → v < none → second_group n v r ≡ d_get_group n v r
unfolding second_group pick
second_5 n v r h = rw (lt-ltb v none h)

second_7 : (n v r : ℕ) → v ≡ none → second_group n v r ≡ none_votes n (r - 1)
unfolding second_group pick
second_7 n v r h = rw (le-ltb v none (omega arith))

-- a proposal has one group, and so has a none vote of round 1; a vote for 0 or 1 in round 1 has two, and so has a none vote of a later round; another
-- vote has two by its first group
one_p : (k v r : ℕ) (d : Bool) → k ≡ kind_p → has_second k v r d ≡ false
unfolding has_second
one_p k v r d e = rw (ne_eqb k kind_v (λ z. omega arith))

pub one_early : (k v r : ℕ) (d : Bool) → v ≡ none → r ≡ 1 → has_second k v r d ≡ false
one_early k v r d a e = is_false _ (λ h. omega (arith, two_later k v r d a h))

pub two_early : (k v r : ℕ) (d : Bool) → k ≡ kind_v → v < none → r ≡ 1 → has_second k v r d ≡ true
unfolding has_second
two_early k v r d a b c = rw (eq-eqb k kind_v a, eq-eqb r 1 c, lt-ltb v none b)

pub two_none : (k v r : ℕ) (d : Bool) → k ≡ kind_v → v ≡ none → 1 < r → has_second k v r d ≡ true
unfolding has_second
two_none k v r d a b c = rw (eq-eqb k kind_v a, lt-ltb 1 r c, eq-eqb v none b) (right (eqb r 1 && ltb v none) _ refl)

pub two_d : (k v r : ℕ) (d : Bool) → k ≡ kind_v → 1 < r → d ≡ true → has_second k v r d ≡ true
unfolding has_second
two_d k v r d a b c = rw (eq-eqb k kind_v a, lt-ltb 1 r b) (right (eqb r 1 && ltb v none) _ (right (eqb v none) d c))

pub two_out : (k v r : ℕ) (d : Bool) → v < none → has_second k v r d ≡ true → (r ≡ 1) ⊎ ((1 < r) × (d ≡ true))
unfolding has_second
two_out k v r d low h = go (either (eqb r 1 && ltb v none) _ (both (eqb k kind_v) _ h).1)
  where
    with_d_get : (eqb v none ≡ true) ⊎ (d ≡ true) → d ≡ true
    with_d_get (inl e) = absurd (omega (arith, eqb-true v none e))
    with_d_get (inr e) = e

    go : ((eqb r 1 && ltb v none) ≡ true) ⊎ ((ltb 1 r && (eqb v none || d)) ≡ true) → (r ≡ 1) ⊎ ((1 < r) × (d ≡ true))
    go (inl x) = inl (eqb-true r 1 (both (eqb r 1) _ x).0)
    go (inr x) = let b = both (ltb 1 r) _ x in inr (ltb-true 1 r b.0, with_d_get (either (eqb v none) d b.1))

-- ---- a certificate, taken apart and put together
module _ (n : ℕ) (m : Statement) where
  abbrev second : List Statement → Bool
  second c = has_second m.kind m.value m.round (some_d_get c)

  -- what a held certificate has behind its first group c
  rest_none : (c d : List Statement) → second c ≡ false → rest_holds n m c d ≡ true → d ≡ []
  unfolding rest_holds pick
  rest_none c d e h = no_more d (rw e at h)

  rest_some : (c d : List Statement) → second c ≡ true → rest_holds n m c d ≡ true → Holds (second_group n m.value m.round) d
  unfolding rest_holds pick
  rest_some c d e h = holds_out (second_group n m.value m.round) d (rw e at h)

  none_rest : (c : List Statement) → second c ≡ false → rest_holds n m c [] ≡ true
  unfolding rest_holds pick
  none_rest c e = rw e

  some_rest : (c d : List Statement) → second c ≡ true → Holds (second_group n m.value m.round) d → rest_holds n m c d ≡ true
  unfolding rest_holds pick
  some_rest c d e h = rw e (holds_in (second_group n m.value m.round) d h)

  pub record Apart (g : Group) (c : List Statement) : Type 0 where
    pub first : List Statement
    pub rest : List Statement
    pub joined : first ++ rest ≡ c
    pub held : Holds g first
    pub wide : spread m first ≡ true
    pub behind : rest_holds n m first rest ≡ true

  apart : (g : Group) (c : List Statement) → groups_hold n m g c ≡ true → Apart g c
  unfolding groups_hold
  apart g c h =
      let a = both (holds g (take g.size c) && spread m (take g.size c)) _ h in
      let b = both (holds g (take g.size c)) _ a.0 in
      record {
        first = take g.size c;
        rest = drop g.size c;
        joined = take-append-drop g.size c;
        held = holds_out g (take g.size c) b.0;
        wide = b.1;
        behind = a.1;
      }

  together : (g : Group) (c d : List Statement) → Holds g c → spread m c ≡ true → rest_holds n m c d ≡ true → groups_hold n m g (c ++ d) ≡ true
  unfolding groups_hold
  together g c d h w r =
      rw (take_at c d g.size h.size, drop_at c d g.size h.size)
      (join (holds g c && spread m c) _ (join (holds g c) _ (holds_in g c h) w) r)

  -- a certificate of one group
  single : (g : Group) (c : List Statement) → ((x : List Statement) → second x ≡ false) → groups_hold n m g c ≡ true → Holds g c × (spread m c ≡ true)
  single g c one h =
      let a = apart g c h in
      let e : a.rest ≡ [] = rest_none a.first a.rest (one a.first) a.behind in
      let whole : a.first ≡ c = sym (append-nil a.first) ∙ ap (λ (d : List Statement). a.first ++ d) (sym e) ∙ a.joined in
      (subst (λ (x : List Statement). Holds g x) whole a.held, subst (λ (x : List Statement). spread m x ≡ true) whole a.wide)

  single_in : (g : Group) (c : List Statement) → second c ≡ false → Holds g c → spread m c ≡ true → groups_hold n m g c ≡ true
  single_in g c one h w = subst (λ (x : List Statement). groups_hold n m g x ≡ true) (append-nil c) (together g c [] h w (none_rest c one))

  spread_out : m.kind ≡ kind_v → m.value ≡ none → (c : List Statement) → spread m c ≡ true → BothValues c
  unfolding spread
  spread_out k v c h = both (some_value 0 c) _ (rw (eq-eqb m.kind kind_v k, eq-eqb m.value none v) at h)

  spread_in : (c : List Statement) → BothValues c → spread m c ≡ true
  unfolding spread
  spread_in c b = right (not (eqb m.kind kind_v && eqb m.value none)) _ (join (some_value 0 c) _ b.0 b.1)

  spread_p : m.kind ≡ kind_p → (c : List Statement) → spread m c ≡ true
  unfolding spread
  spread_p k c = rw (ne_eqb m.kind kind_v (λ e. omega arith))

  spread_value : m.value < none → (c : List Statement) → spread m c ≡ true
  unfolding spread
  spread_value v c = rw (ne_eqb m.value none (λ e. omega arith)) (left (not (eqb m.kind kind_v && false)) _ (go (eqb m.kind kind_v)))
    where
      go : (b : Bool) → not (b && false) ≡ true
      go true = refl
      go false = refl

-- ---- the two directions
module _ (n : ℕ) (m : Statement) (c : List Statement) where
  abbrev held_rest : Bool
  held_rest = not (early_toss m.kind m.flag m.round) && groups_hold n m (first_group n m.kind m.value m.flag m.round) c

  out_init : m.kind ≡ kind_init → rule n m c ≡ true → Backed n m c
  unfolding rule pick
  out_init k h = subst (λ (x : List Statement). Backed n m x) (sym (no_more c (rw (eq-eqb m.kind kind_init k) at h))) (rule_1 k)

  not_init : (m.kind ≡ kind_init → ⊥) → rule n m c ≡ held_rest
  unfolding rule pick
  not_init k = rw (ne_eqb m.kind kind_init k)

  no_toss : m.kind ≡ kind_p → m.round ≡ 1 → early_toss m.kind m.flag m.round ≡ false → m.flag ≡ r_get → ⊥
  unfolding early_toss
  no_toss a b e f = never _ e (rw (eq-eqb m.kind kind_p a, eq-eqb m.round 1 b, eq-eqb m.flag r_get f))

  out_p : m.kind ≡ kind_p → 1 ≤ m.round → m.flag < 2 → held_rest ≡ true → Backed n m c
  out_p k r f h = go (eqb m.round 1) (eqb m.flag d_get) refl refl (both (not (early_toss m.kind m.flag m.round)) _ h)
    where
      one : (x : List Statement) → has_second m.kind m.value m.round (some_d_get x) ≡ false
      one x = one_p m.kind m.value m.round (some_d_get x) k

      not_not : (b : Bool) → not b ≡ true → b ≡ false
      not_not true e = never false refl e
      not_not false e = refl

      held : (g : Group) → first_group n m.kind m.value m.flag m.round ≡ g
          → groups_hold n m (first_group n m.kind m.value m.flag m.round) c ≡ true → Holds g c
      held g e p = (single n m g c one (rw e at p)).0

      go : (x y : Bool) → eqb m.round 1 ≡ x → eqb m.flag d_get ≡ y
          → (not (early_toss m.kind m.flag m.round) ≡ true) × (groups_hold n m (first_group n m.kind m.value m.flag m.round) c ≡ true) → Backed n m c
      go true true p q e =
          let a : m.round ≡ 1 = eqb-true _ _ p in
          rule_2 k a (eqb-true _ _ q) (held (inits n m.value) (first_2 n m.value m.flag m.round m.kind k a (eqb-true _ _ q)) e.1)
      go true false p q e =
          absurd (no_toss k (eqb-true _ _ p) (not_not _ e.0) (omega (arith, eqb-false m.flag d_get q)))
      go false true p q e =
          let a : 1 < m.round = omega (arith, eqb-false m.round 1 p) in
          let d : m.flag ≡ d_get = eqb-true _ _ q in
          rule_3 k a d (held (proposals n (m.round - 1) (Only m.value) Any) (first_3 n m.value m.flag m.round m.kind k a d) e.1)
      go false false p q e =
          let a : 1 < m.round = omega (arith, eqb-false m.round 1 p) in
          let d : m.flag ≡ r_get = omega (arith, eqb-false m.flag d_get q) in
          rule_4 k a d (held (none_votes n (m.round - 1)) (first_4 n m.value m.flag m.round m.kind k d) e.1)

  out_v : m.kind ≡ kind_v → 1 ≤ m.round → m.value ≤ none → held_rest ≡ true → Backed n m c
  out_v k r v h = go (ltb m.value none) (eqb m.round 1) refl refl (both (not (early_toss m.kind m.flag m.round)) _ h).1
    where
      five : m.value < none → Apart n m (proposals n m.round (Only m.value) Any) c → Backed n m c
      five low a =
          subst (λ (x : List Statement). Backed n m x) a.joined
          (rule_5 k low a.held
          (λ w. rw (second_5 n m.value m.round low, d_get_first n m.value m.round w) at (rest_some n m a.first a.rest (two_early m.kind m.value m.round (some_d_get a.first) k low w) a.behind))
          (λ w. rw (second_5 n m.value m.round low, d_get_later n m.value m.round w.0) at (rest_some n m a.first a.rest (two_d m.kind m.value m.round (some_d_get a.first) k w.0 w.1) a.behind))
          (λ w z. rest_none n m a.first a.rest (is_false _ (λ e. out w z (two_out m.kind m.value m.round (some_d_get a.first) low e))) a.behind))
        where
          out : (m.round ≡ 1 → ⊥) → (NeedsSecond m a.first → ⊥) → (m.round ≡ 1) ⊎ NeedsSecond m a.first → ⊥
          out w z (inl e) = w e
          out w z (inr e) = z e

      seven : m.value ≡ none → 1 < m.round → Apart n m (proposals n m.round Any Any) c → Backed n m c
      seven e later a =
          subst (λ (x : List Statement). Backed n m x) a.joined
          (rule_7 k e later a.held (spread_out n m k e a.first a.wide)
          (rw (second_7 n m.value m.round e) at (rest_some n m a.first a.rest (two_none m.kind m.value m.round (some_d_get a.first) k e later) a.behind)))

      go : (x y : Bool) → ltb m.value none ≡ x → eqb m.round 1 ≡ y
          → groups_hold n m (first_group n m.kind m.value m.flag m.round) c ≡ true → Backed n m c
      go true y p q e =
          let low : m.value < none = ltb-true _ _ p in
          five low (apart n m (proposals n m.round (Only m.value) Any) c (rw (first_5 n m.value m.flag m.round m.kind k low) at e))
      go false true p q e =
          let a : m.value ≡ none = omega (arith, ltb-false m.value none p) in
          let b : m.round ≡ 1 = eqb-true _ _ q in
          let s = single n m (proposals n 1 Any (Only d_get)) c (λ x. one_early m.kind m.value m.round (some_d_get x) a b)
          (rw (first_6 n m.value m.flag m.round m.kind k a b) at e) in
          rule_6 k a b s.0 (spread_out n m k a c s.1)
      go false false p q e =
          let a : m.value ≡ none = omega (arith, ltb-false m.value none p) in
          let b : 1 < m.round = omega (arith, eqb-false m.round 1 q) in
          seven a b (apart n m (proposals n m.round Any Any) c (rw (first_7 n m.value m.flag m.round m.kind k a b) at e))

-- the test holds: a rule backs the statement
pub rule_backed : (form : Form) (n : ℕ) (m : Statement) (c : List Statement) → Shape form m → rule n m c ≡ true → Backed n m c
rule_backed form n m c (init k z v g) h = out_init n m c k h
rule_backed form n m c (proposal k r l v f) h = out_p n m c k r f (rw (not_init n m c (λ e. omega arith)) at h)
rule_backed form n m c (vote k r l v g) h = out_v n m c k r v (rw (not_init n m c (λ e. omega arith)) at h)

-- "6. V none, round 1: q P of round 1, all D-GET": no R-GET stands in such a certificate
pub first_none_d_get : (n : ℕ) (m : Statement) (c : List Statement) → rule n m c ≡ true → m.kind ≡ kind_v → m.value ≡ none → m.round ≡ 1 → All (λ s. s.flag ≡ d_get) c
unfolding wanted
first_none_d_get n m c h k v r = go c (out_v n m c k (omega arith) (omega arith) (rw (not_init n m c (λ e. omega arith)) at h))
  where
    go : (x : List Statement) → Backed n m x → All (λ s. s.flag ≡ d_get) x
    go _ (rule_1 a) = absurd (omega arith)
    go x (rule_2 a b d g) = absurd (omega arith)
    go x (rule_3 a b d g) = absurd (omega arith)
    go x (rule_4 a b d g) = absurd (omega arith)
    go _ (rule_5 a b g i s o) = absurd (omega arith)
    go x (rule_6 a b d g s) = all_map (λ s e. eqb-true s.flag d_get (both (eqb s.kind kind_p && eqb s.round 1 && true) _ e).1) x g.each
    go _ (rule_7 a b d g s o) = absurd (omega arith)

in_rest : (n : ℕ) (m : Statement) (c : List Statement) (g : Group) → (m.kind ≡ kind_init → ⊥) → early_toss m.kind m.flag m.round ≡ false
    → first_group n m.kind m.value m.flag m.round ≡ g → groups_hold n m g c ≡ true → rule n m c ≡ true
in_rest n m c g k e f h = rw (not_init n m c k, e, f) h

late : (k f r : ℕ) → 1 < r → early_toss k f r ≡ false
unfolding early_toss
late k f r h = is_false _ (λ e. let a = both (eqb k kind_p && eqb r 1) _ e in let b = both (eqb k kind_p) _ a.0 in omega (arith, eqb-true r 1 b.1))

given : (k f r : ℕ) → f ≡ d_get → early_toss k f r ≡ false
unfolding early_toss
given k f r h = is_false _ (λ e. let a = both (eqb k kind_p && eqb r 1) _ e in omega (arith, eqb-true f r_get a.1))

voted : (k f r : ℕ) → k ≡ kind_v → early_toss k f r ≡ false
unfolding early_toss
voted k f r h = is_false _ (λ e. let a = both (eqb k kind_p && eqb r 1) _ e in let b = both (eqb k kind_p) _ a.0 in omega (arith, eqb-true k kind_p b.0))

-- a rule backs the statement: the test holds
pub backed_rule : (n : ℕ) (m : Statement) (c : List Statement) → Backed n m c → rule n m c ≡ true
unfolding rule pick
backed_rule n m c (rule_1 k) = rw (eq-eqb m.kind kind_init k)
backed_rule n m c (rule_2 k r f h) =
    in_rest n m c (inits n m.value) (λ e. omega arith) (given m.kind m.flag m.round f) (first_2 n m.value m.flag m.round m.kind k r f)
    (single_in n m (inits n m.value) c (one_p m.kind m.value m.round (some_d_get c) k) h (spread_p n m k c))
backed_rule n m c (rule_3 k r f h) =
    in_rest n m c _ (λ e. omega arith) (given m.kind m.flag m.round f) (first_3 n m.value m.flag m.round m.kind k r f)
    (single_in n m (proposals n (m.round - 1) (Only m.value) Any) c (one_p m.kind m.value m.round (some_d_get c) k) h (spread_p n m k c))
backed_rule n m c (rule_4 k r f h) =
    in_rest n m c _ (λ e. omega arith) (late m.kind m.flag m.round r) (first_4 n m.value m.flag m.round m.kind k f)
    (single_in n m (none_votes n (m.round - 1)) c (one_p m.kind m.value m.round (some_d_get c) k) h (spread_p n m k c))
backed_rule n m _ (rule_5 {c} {d} k v h i s o) =
    in_rest n m (c ++ d) _ (λ e. omega arith) (voted m.kind m.flag m.round k) (first_5 n m.value m.flag m.round m.kind k v)
    (together n m (proposals n m.round (Only m.value) Any) c d h (spread_value n m v c) (go (second n m c) refl))
  where
    held : (m.round ≡ 1) ⊎ NeedsSecond m c → Holds (second_group n m.value m.round) d
    held (inl w) = rw (second_5 n m.value m.round v, d_get_first n m.value m.round w) (i w)
    held (inr w) = rw (second_5 n m.value m.round v, d_get_later n m.value m.round w.0) (s w)

    go : (b : Bool) → second n m c ≡ b → rest_holds n m c d ≡ true
    go true e = some_rest n m c d e (held (two_out m.kind m.value m.round (some_d_get c) v e))
    go false e =
        let z : d ≡ [] = o (λ w. never (second n m c) e (two_early m.kind m.value m.round (some_d_get c) k v w))
        (λ w. never (second n m c) e (two_d m.kind m.value m.round (some_d_get c) k w.0 w.1)) in
        rw z (none_rest n m c e)
backed_rule n m c (rule_6 k v r h b) =
    in_rest n m c _ (λ e. omega arith) (voted m.kind m.flag m.round k) (first_6 n m.value m.flag m.round m.kind k v r)
    (single_in n m (proposals n 1 Any (Only d_get)) c (one_early m.kind m.value m.round (some_d_get c) v r) h (spread_in n m c b))
backed_rule n m _ (rule_7 {c} {d} k v r h b s) =
    in_rest n m (c ++ d) _ (λ e. omega arith) (voted m.kind m.flag m.round k) (first_7 n m.value m.flag m.round m.kind k v r)
    (together n m (proposals n m.round Any Any) c d h (spread_in n m c b)
    (some_rest n m c d (two_none m.kind m.value m.round (some_d_get c) k v r) (rw (second_7 n m.value m.round v) s)))
