-- What a certificate of coded statements gives for the statement that it backs, and that it stays so as the log grows.
use Rattle.std.specs.Prelude.{◌≡◌, Bool, true, ◌&&◌, List, [], ◌∷◌, ℕ, ◌-◌, ◌≤◌, ◌<◌, eqb, length}
use mathlib.Core.List.Memᴰ
use Rattle.std.proofs.Common.{arith, eqb-true}
use Rattle.laws.specs.Bools.{both}
use Rattle.laws.specs.All.{All, all_map, all_two, all_left, all_right}
use Rattle.laws.specs.Count.{count}
use Rattle.format.specs.Numbers.{kind_init, kind_p, kind_v, none}
use Rattle.format.specs.Group.{quorum, backing}
use Rattle.format.specs.Statement.{Statement}
use Rattle.rules.specs.declared.Which.{Which}
use Rattle.rules.specs.declared.Which.TheVariants.{Any, Only}
use Rattle.rules.specs.Rules.{wanted, matches, group, Holds, Backed, rule_1, rule_2, rule_3, rule_4, rule_5, rule_6, rule_7}
use Rattle.rules.specs.Rules as R
use Rattle.agreement.proofs.Maths.Counting.{Rise, rise_dist, dist_count, count_mono}
use Rattle.agreement.proofs.Maths.Log.{In, has, has_out, has_at, Supp}
use Rattle.agreement.proofs.Maths.Safe.{Just, Split}

-- a statement but for its code: what the log has
abbrev pub bare : Statement → Statement
bare s = record { kind = s.kind; value = s.value; flag = s.flag; station = s.station; round = s.round; question = s.question; code = [] }

abbrev pub number : Statement → ℕ
number s = s.station

pub record Coded (n : ℕ) (l : List Statement) (s : Statement) : Type 0 where
  pub mem : In (bare s) l
  pub low : 1 ≤ s.station
  pub high : s.station ≤ n

-- rising stations are rising keys
as_rise : (a : ℕ) (c : List Statement) → R.Rising a c → Rise number a c
as_rise a [] r = tt
as_rise a (s ∷ c) r = (r.0, as_rise s.station c r.1)

pub rising_count : (n : ℕ) (c : List Statement) (f : ℕ → Bool) → R.Rising 0 c → All (λ s. ((1 ≤ s.station) × (s.station ≤ n)) × (f s.station ≡ true)) c → length c ≤ count f n
rising_count n c f r a = dist_count number n c f (rise_dist number 0 c (as_rise 0 c r)) (all_map (λ s p. (p.0.0, p.0.1, p.1)) c a)

group_supp : (n : ℕ) (l : List Statement) (q size kind round v : ℕ) (flag : Which) (c : List Statement) → All (Coded n l) c → All (λ s. s.question ≡ q) c
    → Holds (group size kind round (Only v) flag) c → Supp n l kind q round v size
unfolding wanted
group_supp n l q size kind round v flag c a b h =
    omega (
      arith,
      h.size,
      rising_count n c (has l kind q round v) h.rising
          (all_map fit c (all_two (Coded n l) (λ s. (s.question ≡ q) × (matches (group size kind round (Only v) flag) s ≡ true)) c a
          (all_two (λ s. s.question ≡ q) (λ s. matches (group size kind round (Only v) flag) s ≡ true) c b h.each))),
    )
  where
    fit : (s : Statement) → Coded n l s × ((s.question ≡ q) × (matches (group size kind round (Only v) flag) s ≡ true))
        → ((1 ≤ s.station) × (s.station ≤ n)) × (has l kind q round v s.station ≡ true)
    fit s p =
        let x = both (eqb s.kind kind && eqb s.round round && eqb s.value v) _ p.1.1 in
        let y = both (eqb s.kind kind && eqb s.round round) _ x.0 in
        let z = both (eqb s.kind kind) _ y.0 in
        ((p.0.low, p.0.high), has_at (bare s) l p.0.mem (eqb-true _ _ z.0) p.1.0 (eqb-true _ _ z.1) (eqb-true _ _ y.1))

module _ (n : ℕ) (l : List Statement) (m : Statement) where
  no_proposal : m.kind ≡ kind_v → (m.value < none → Supp n l kind_p m.question m.round m.value (quorum n))
      → (m.value ≡ none → 1 < m.round → Supp n l kind_v m.question (m.round - 1) none (quorum n)) → Just n l m
  no_proposal k v w = record { first = λ a. absurd (omega arith); taken = λ a. absurd (omega arith); tossed = λ a. absurd (omega arith); voted = λ a b. v b; noned = λ a b c. w b c }

  pub backed_just : (c : List Statement) → All (Coded n l) c → All (λ s. s.question ≡ m.question) c → Backed n m c → Just n l m
  backed_just c a q (rule_1 k) =
      record { first = λ a. absurd (omega arith); taken = λ a. absurd (omega arith); tossed = λ a. absurd (omega arith); voted = λ a. absurd (omega arith); noned = λ a. absurd (omega arith) }
  backed_just c a q (rule_2 k r f h) =
      record {
        first = λ x y. group_supp n l m.question (backing n m.value) kind_init 0 m.value Any c a q h;
        taken = λ x y. absurd (omega arith);
        tossed = λ x y. absurd (omega arith);
        voted = λ x. absurd (omega arith);
        noned = λ x. absurd (omega arith);
      }
  backed_just c a q (rule_3 k r f h) =
      record {
        first = λ x y. absurd (omega arith);
        taken = λ x y z. group_supp n l m.question (quorum n) kind_p (m.round - 1) m.value Any c a q h;
        tossed = λ x y z. absurd (z f);
        voted = λ x. absurd (omega arith);
        noned = λ x. absurd (omega arith);
      }
  backed_just c a q (rule_4 k r f h) =
      record {
        first = λ x y. absurd (omega arith);
        taken = λ x y z. absurd (omega arith);
        tossed = λ x y z. group_supp n l m.question (quorum n) kind_v (m.round - 1) none Any c a q h;
        voted = λ x. absurd (omega arith);
        noned = λ x. absurd (omega arith);
      }
  backed_just _ a q (rule_5 {c} {d} k v h i s o) =
      no_proposal k
      (λ b. group_supp n l m.question (quorum n) kind_p m.round m.value Any c (all_left (Coded n l) c d a) (all_left (λ s. s.question ≡ m.question) c d q) h)
      (λ b w. absurd (omega arith))
  backed_just c a q (rule_6 k v r h s) = no_proposal k (λ b. absurd (omega arith)) (λ b w. absurd (omega arith))
  backed_just _ a q (rule_7 {c} {d} k v r h s o) =
      no_proposal k (λ b. absurd (omega arith))
      (λ b w. group_supp n l m.question (quorum n) kind_v (m.round - 1) none Any d (all_right (Coded n l) c d a) (all_right (λ s. s.question ≡ m.question) c d q) o)

pub bare_just : (n : ℕ) (l : List Statement) (s : Statement) → Just n l s → Just n l (bare s)
bare_just n l s j = record { first = j.first; taken = j.taken; tossed = j.tossed; voted = j.voted; noned = j.noned }

-- ---- a longer log
has_more : (u : Statement) (l : List Statement) (kd q r v i : ℕ) → has l kd q r v i ≡ true → has (u ∷ l) kd q r v i ≡ true
has_more u l kd q r v i h =
    let x = has_out l kd q r v i h in
    rw x.station≡ at (has_at x.one (u ∷ l) (Memᴰ.tail x.mem) x.kind≡ x.question≡ x.round≡ x.value≡)

module _ (n : ℕ) (u : Statement) (l : List Statement) where
  pub supp_more : (kd q r v k : ℕ) → Supp n l kd q r v k → Supp n (u ∷ l) kd q r v k
  supp_more kd q r v k h = omega (arith, count_mono (has l kd q r v) (has (u ∷ l) kd q r v) (has_more u l kd q r v) n)

  pub just_more : (s : Statement) → Just n l s → Just n (u ∷ l) s
  just_more s j =
      record {
        first = λ a b. supp_more 0 s.question 0 s.value (backing n s.value) (j.first a b);
        taken = λ a b c. supp_more 1 s.question (s.round - 1) s.value (quorum n) (j.taken a b c);
        tossed = λ a b c. supp_more 2 s.question (s.round - 1) 2 (quorum n) (j.tossed a b c);
        voted = λ a b. supp_more 1 s.question s.round s.value (quorum n) (j.voted a b);
        noned = λ a b c. supp_more 2 s.question (s.round - 1) 2 (quorum n) (j.noned a b c);
      }

  pub split_more : {q r : ℕ} → Split n l q r → Split n (u ∷ l) q r
  split_more p =
      record {
        a = p.a;
        b = p.b;
        a_in = Memᴰ.tail p.a_in;
        b_in = Memᴰ.tail p.b_in;
        a_just = just_more p.a p.a_just;
        b_just = just_more p.b p.b_just;
        a_kind = p.a_kind;
        b_kind = p.b_kind;
        a_qn = p.a_qn;
        b_qn = p.b_qn;
        a_rnd = p.a_rnd;
        b_rnd = p.b_rnd;
        apart = p.apart;
      }

  pub coded_more : (s : Statement) → Coded n l s → Coded n (u ∷ l) s
  coded_more s c = record { mem = Memᴰ.tail c.mem; low = c.low; high = c.high }
