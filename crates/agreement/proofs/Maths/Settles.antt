-- What a locked, a decided or a unanimous round settles, whatever the order of deliveries: the votes of the round behind it (Lemmas 7 and 8 of document 004, over
-- the log).
use Rattle.std.specs.Prelude.{◌≡◌, refl, Bool, true, false, not, List, ℕ, suc, ◌-◌, ◌≤◌, eqb, ltb}
use Rattle.std.proofs.Common.{arith, eqb-true, ltb-true, ltb-false}
use Rattle.std.proofs.lemmas.Bool.{eqb-false}
use Rattle.laws.specs.Count.{count}
use Rattle.format.specs.Numbers.{kind_p, kind_v, none, d_get, least_stations}
use Rattle.format.specs.Group.{quorum, most_faulty}
use Rattle.format.specs.Statement.{Statement}
use Rattle.agreement.proofs.Maths.Log.{In, Supp}
use Rattle.agreement.proofs.Maths.Safe as Safe
use Rattle.agreement.proofs.Maths.Safe.{Just, LogOk, Locked, Decided}

module _ (n : ℕ) (sound : ℕ → Bool) (l : List Statement) (few : count (λ i. not (sound i)) n ≤ most_faulty n) (big : least_stations ≤ n) (L : LogOk n sound l) where
  -- where all proposals of a round have one value, and there are not q none votes of the round before, a justified vote of it is for that value
  settled_votes : (q r v : ℕ) → 1 ≤ r → Safe.AllFor n sound l few big L q (suc r) v → Safe.NoNone n sound l few big L q r → (s : Statement) → Just n l s → s.kind ≡ kind_v → s.question ≡ q
      → s.round ≡ suc r → s.value ≤ none → s.value ≡ v
  settled_votes q r v from all_for no_none s j a x y low = go (ltb s.value none) refl
    where
      p : s.round - 1 ≡ r
      p = omega arith

      go : (b : Bool) → ltb s.value none ≡ b → s.value ≡ v
      go true e = Safe.all_for_value n sound l few big L q (suc r) v s.value all_for (rw (x, y) at (j.voted a (ltb-true _ _ e)))
      go false e = absurd (no_none (rw (x, p) at (j.noned a (omega (arith, ltb-false s.value none e)) (omega arith))))

  -- so it is in the round behind a locked one
  pub locked_votes : (q r v : ℕ) → 1 ≤ r → Locked n sound l few big L q r v → (s : Statement) → Just n l s → s.kind ≡ kind_v → s.question ≡ q → s.round ≡ suc r → s.value ≤ none → s.value ≡ v
  locked_votes q r v from k = settled_votes q r v from (Safe.lock_step n sound l few big L q r v from k).0 k.1

  -- and behind a deciding one: each sound site that ends these votes has decided
  pub decided_votes : (q v : ℕ) (d : Decided n l q v) (s : Statement) → Just n l s → s.kind ≡ kind_v → s.question ≡ q → s.round ≡ suc d.round → s.value ≤ none → s.value ≡ v
  decided_votes q v d = settled_votes q d.round v d.from1 (Safe.decided_locks n sound l few big L q v d).0 (Safe.decided_no_none n sound l few big L q v d)

  -- a unanimous round: a quorum proposed v in the round before, and each coin of this one shows v
  pub unanimous_locks : (q r v : ℕ) → 1 ≤ r → Supp n l kind_p q r v (quorum n)
      → ((s : Statement) → In s l → s.kind ≡ kind_p → s.question ≡ q → s.round ≡ suc r → (s.flag ≡ d_get → ⊥) → s.value ≡ v)
      → Safe.Splits n sound l few big L q (suc r)
      → Locked n sound l few big L q (suc r) v
  unanimous_locks q r v from major coins splits = (all_for, Safe.no_none n sound l few big L q (suc r) v splits all_for)
    where
      all_for : Safe.AllFor n sound l few big L q (suc r) v
      all_for m i k x y j = go (eqb m.flag d_get) refl
        where
          p : m.round - 1 ≡ r
          p = omega arith

          go : (b : Bool) → eqb m.flag d_get ≡ b → m.value ≡ v
          go true e = Safe.same n sound l few big L kind_p q r m.value v (rw (x, p) at (j.taken k (omega arith) (eqb-true _ _ e))) major
          go false e = coins m i k x y (eqb-false _ _ e)
