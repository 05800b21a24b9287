-- Safety over a log: what a decision locks, agreement, backing. What a list of calls supplies is the record LogOk.
use Rattle.std.specs.Prelude.{◌≡◌, refl, Bool, true, false, not, List, ℕ, zero, suc, ◌+◌, ◌-◌, ◌≤◌, ◌<◌, eqb, ltb}
use Rattle.std.proofs.Common.{sym, ◌∙◌, arith, eqb-true, ltb-true, ltb-false}
use Rattle.std.proofs.lemmas.Bool.{eqb-false}
use Rattle.laws.specs.Bools.{twice_not}
use Rattle.laws.specs.Count.{count}
use Rattle.format.specs.Numbers.{kind_init, kind_p, kind_v, none, d_get, least_stations}
use Rattle.format.specs.Group.{quorum, backing, most_faulty}
use Rattle.format.proofs.Group.{quorums_meet, quorum_sound}
use Rattle.format.specs.Statement.{Statement}
use Rattle.agreement.proofs.Maths.Log.{In, has, Has, has_out, has_one, Supp, Distinct}

-- what a verified certificate gives: rules 2 to 5, and rule 7's second group
pub record Just (n : ℕ) (l : List Statement) (s : Statement) : Type 0 where
  pub first : s.kind ≡ kind_p → s.round ≡ 1 → Supp n l kind_init s.question 0 s.value (backing n s.value)
  pub taken : s.kind ≡ kind_p → 1 < s.round → s.flag ≡ d_get → Supp n l kind_p s.question (s.round - 1) s.value (quorum n)
  pub tossed : s.kind ≡ kind_p → 1 < s.round → (s.flag ≡ d_get → ⊥) → Supp n l kind_v s.question (s.round - 1) none (quorum n)
  pub voted : s.kind ≡ kind_v → s.value < none → Supp n l kind_p s.question s.round s.value (quorum n)
  pub noned : s.kind ≡ kind_v → s.value ≡ none → 1 < s.round → Supp n l kind_v s.question (s.round - 1) none (quorum n)

-- two justified proposals of one round with two values
pub record Split (n : ℕ) (l : List Statement) (q r : ℕ) : Type 0 where
  pub a : Statement
  pub b : Statement
  pub a_in : In a l
  pub b_in : In b l
  pub a_just : Just n l a
  pub b_just : Just n l b
  pub a_kind : a.kind ≡ kind_p
  pub b_kind : b.kind ≡ kind_p
  pub a_qn : a.question ≡ q
  pub b_qn : b.question ≡ q
  pub a_rnd : a.round ≡ r
  pub b_rnd : b.round ≡ r
  pub apart : a.value ≡ b.value → ⊥

pub record LogOk (n : ℕ) (sound : ℕ → Bool) (l : List Statement) : Type 0 where
  pub distinct : Distinct l
  pub small : (s : Statement) → In s l → s.kind ≡ kind_p → s.value < none
  pub just : (s : Statement) → In s l → sound s.station ≡ true → Just n l s

-- q votes for v were coded in one round
pub record Decided (n : ℕ) (l : List Statement) (q v : ℕ) : Type 0 where
  pub round : ℕ
  pub from1 : 1 ≤ round
  pub small : v < none
  pub votes : Supp n l kind_v q round v (quorum n)

pub record SoundHas (sound : ℕ → Bool) (l : List Statement) (kd q r v : ℕ) : Type 0 where
  pub at : ℕ
  pub ok : sound at ≡ true
  pub it : Has l kd q r v at

module _ (n : ℕ) (sound : ℕ → Bool) (l : List Statement) (few : count (λ i. not (sound i)) n ≤ most_faulty n) (big : least_stations ≤ n) (L : LogOk n sound l) where
  pub same : (kd q r v w : ℕ) → Supp n l kd q r v (quorum n) → Supp n l kd q r w (quorum n) → v ≡ w
  same kd q r v w a b =
      let m = quorums_meet n (has l kd q r v) (has l kd q r w) a b in
      has_one l L.distinct kd q r v w m.at (has_out l kd q r v m.at m.in_first) (has_out l kd q r w m.at m.in_second)

  pub a_sound : (kd q r v : ℕ) → Supp n l kd q r v (quorum n) → SoundHas sound l kd q r v
  a_sound kd q r v a =
      let m = quorum_sound n (has l kd q r v) (λ i. not (sound i)) (omega arith) a few in
      record { at = m.at; ok = twice_not (sound m.at) m.in_second; it = has_out l kd q r v m.at m.in_first }

  -- each justified proposal of a round has one value
  abbrev pub AllFor : ℕ → ℕ → ℕ → Type 0
  AllFor q r v = (m : Statement) → In m l → m.kind ≡ kind_p → m.question ≡ q → m.round ≡ r → Just n l m → m.value ≡ v

  -- there are not q none votes of a round
  abbrev pub NoNone : ℕ → ℕ → Type 0
  NoNone q r = Supp n l kind_v q r none (quorum n) → ⊥

  abbrev pub Locked : ℕ → ℕ → ℕ → Type 0
  Locked q r v = AllFor q r v × NoNone q r

  -- then a quorum of proposals of the round has that value: one of them is a sound site's
  pub all_for_value : (q r v w : ℕ) → AllFor q r v → Supp n l kind_p q r w (quorum n) → w ≡ v
  all_for_value q r v w k a =
      let h = a_sound kind_p q r w a in
      let s = h.it.one in
      let e : s.value ≡ v = k s h.it.mem h.it.kind≡ h.it.question≡ h.it.round≡ (L.just s h.it.mem (rw h.it.station≡ h.ok)) in
      sym h.it.value≡ ∙ e

  -- a justified proposal of the next round: by its flag
  pub next : (q r v : ℕ) → 1 ≤ r → ((w : ℕ) → Supp n l kind_p q r w (quorum n) → w ≡ v) → NoNone q r → AllFor q (suc r) v
  next q r v h f g m i k x y j = go (eqb m.flag d_get) refl
    where
      p : m.round - 1 ≡ r
      p = omega arith

      go : (b : Bool) → eqb m.flag d_get ≡ b → m.value ≡ v
      go true e = f m.value (rw (x, p) at (j.taken k (omega arith) (eqb-true _ _ e)))
      go false e = absurd (g (rw (x, p) at (j.tossed k (omega arith) (eqb-false _ _ e))))

  -- none votes die out: a sound site's of the next round would have q of this one behind it
  pub none_step : (q r : ℕ) → 1 ≤ r → NoNone q r → NoNone q (suc r)
  none_step q r from g a =
      let h = a_sound kind_v q (suc r) none a in
      let s = h.it.one in
      let e : s.round - 1 ≡ r = omega (arith, h.it.round≡) in
      let j : Just n l s = L.just s h.it.mem (rw h.it.station≡ h.ok) in
      g (rw (h.it.question≡, e) at (j.noned h.it.kind≡ h.it.value≡ (omega (arith, h.it.round≡))))

  pub lock_step : (q r v : ℕ) → 1 ≤ r → Locked q r v → Locked q (suc r) v
  lock_step q r v h k = (next q r v h (λ w a. all_for_value q r v w k.0 a) k.1, none_step q r h k.1)

  pub lock_on : (q r v d : ℕ) → 1 ≤ r → Locked q r v → Locked q (d + r) v
  lock_on q r v zero h k = rw (← e) at k
    where
      e : 0 + r ≡ r
      e = omega arith
  lock_on q r v (suc d) h k = rw (← e) at (lock_step q (d + r) v (omega arith) (lock_on q r v d h k))
    where
      e : suc d + r ≡ suc (d + r)
      e = omega arith

  pub lock_to : (q r r' v : ℕ) → 1 ≤ r → r ≤ r' → Locked q r v → Locked q r' v
  lock_to q r r' v h g k = rw e at (lock_on q r v (r' - r) h k)
    where
      e : (r' - r) + r ≡ r'
      e = omega arith

  pub voted_for : (q r v : ℕ) → v < none → Supp n l kind_v q r v (quorum n) → Supp n l kind_p q r v (quorum n)
  voted_for q r v h a =
      let w = a_sound kind_v q r v a in
      let s = w.it.one in
      rw (w.it.question≡, w.it.round≡, w.it.value≡) at ((L.just s w.it.mem (rw w.it.station≡ w.ok)).voted w.it.kind≡ (rw w.it.value≡ h))

  pub decided_no_none : (q v : ℕ) (d : Decided n l q v) → NoNone q d.round
  decided_no_none q v d a = let e : v ≡ none = same kind_v q d.round v none d.votes a in omega (arith, d.small)

  pub decided_locks : (q v : ℕ) (d : Decided n l q v) → Locked q (suc d.round) v
  decided_locks q v d = (
    next q d.round v d.from1 (λ w a. same kind_p q d.round w v a (voted_for q d.round v d.small d.votes)) (decided_no_none q v d),
    none_step q d.round d.from1 (decided_no_none q v d),
  )

  later : (q v w : ℕ) (d : Decided n l q v) (e : Decided n l q w) → d.round < e.round → w ≡ v
  later q v w d e h =
      all_for_value q e.round v w (lock_to q (suc d.round) e.round v (omega arith) h (decided_locks q v d)).0
      (voted_for q e.round w e.small e.votes)

  pub agreement : (q v w : ℕ) → Decided n l q v → Decided n l q w → v ≡ w
  agreement q v w d e = go (ltb d.round e.round) (ltb e.round d.round) refl refl
    where
      go : (x y : Bool) → ltb d.round e.round ≡ x → ltb e.round d.round ≡ y → v ≡ w
      go true y a b = sym (later q v w d e (ltb-true _ _ a))
      go false true a b = later q w v e d (ltb-true _ _ b)
      go false false a b =
          let t : e.round ≡ d.round = omega (arith, ltb-false d.round e.round a, ltb-false e.round d.round b) in
          same kind_v q d.round v w d.votes (rw t at e.votes)

  -- a sound site's none vote of a question's round has two values before it
  abbrev pub Splits : ℕ → ℕ → Type 0
  Splits q r = (s : Statement) → In s l → sound s.station ≡ true → s.kind ≡ kind_v → s.value ≡ none → s.question ≡ q → s.round ≡ r → Split n l s.question s.round

  -- where all proposals of a round have one value and the sound sites' none votes of it are split, there are not q none votes of it
  pub no_none : (q r v : ℕ) → Splits q r → AllFor q r v → NoNone q r
  no_none q r v splits k a =
      let h = a_sound kind_v q r none a in
      let s = h.it.one in
      go (splits s h.it.mem (rw h.it.station≡ h.ok) h.it.kind≡ h.it.value≡ h.it.question≡ h.it.round≡) h.it.question≡ h.it.round≡
    where
      go : {q' r' : ℕ} → Split n l q' r' → q' ≡ q → r' ≡ r → ⊥
      go p x y = p.apart (k p.a p.a_in p.a_kind (p.a_qn ∙ x) (p.a_rnd ∙ y) p.a_just ∙ sym (k p.b p.b_in p.b_kind (p.b_qn ∙ x) (p.b_rnd ∙ y) p.b_just))

  -- a value that too few proposed is never decided, where the none votes of round 1 are split
  pub backed : (q v : ℕ) → Splits q 1 → Decided n l q v → Supp n l kind_init q 0 v (backing n v)
  backed q v splits d = go (ltb (count (has l kind_init q 0 v) n) (backing n v)) refl
    where
      other : count (has l kind_init q 0 v) n < backing n v → AllFor q 1 (1 - v)
      other h m i k x y j = sm (eqb m.value v) refl
        where
          sm : (b : Bool) → eqb m.value v ≡ b → m.value ≡ 1 - v
          sm true e = let u : m.value ≡ v = eqb-true _ _ e in absurd (omega (arith, rw (x, u) at (j.first k y)))
          sm false e = omega (arith, L.small m i k, d.small, eqb-false m.value v e)

      go : (b : Bool) → ltb (count (has l kind_init q 0 v) n) (backing n v) ≡ b → Supp n l kind_init q 0 v (backing n v)
      go true e =
          let k : AllFor q 1 (1 - v) = other (ltb-true _ _ e) in
          let locked : Locked q d.round (1 - v) = lock_to q 1 d.round (1 - v) (omega arith) d.from1 (k, no_none q 1 (1 - v) splits k) in
          let t : v ≡ 1 - v = all_for_value q d.round (1 - v) v locked.0 (voted_for q d.round v d.small d.votes) in
          absurd (omega (arith, d.small))
      go false e = ltb-false _ _ e
