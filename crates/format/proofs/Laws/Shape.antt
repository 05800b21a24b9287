-- What a well-formed statement is: one of three shapes, of a station of the group; its fields fit their bits.
use Rattle.std.specs.Prelude.{ℕ, ◌≤◌, ◌<◌, Bool, false, ◌&&◌, ◌||◌, ◌≡◌, refl, eqb}
use Rattle.std.proofs.Math.Bool.{true}
use Rattle.std.proofs.Common.{arith}
use Rattle.std.proofs.Math.Dec.{ltb, leb}
use borrow.Author.Tests.{eqb-true, eq-eqb, ltb-true, lt-ltb, leb-true, le-leb}
use Rattle.laws.specs.Bools.{both, join, left, right}
use Rattle.format.specs.Form.{Form, last_round}
use Rattle.format.specs.Numbers.{kind_init, kind_p, kind_v, none, d_get}
use Rattle.format.specs.Words.{flag_size, of_group}
use Rattle.format.specs.Statement.{Statement, well_formed}

module _ (form : Form) where
  pub data Shape (m : Statement) : Type 0 where
    init : m.kind ≡ kind_init → m.round ≡ 0 → m.value < none → m.flag ≡ d_get → Shape m
    proposal : m.kind ≡ kind_p → 1 ≤ m.round → m.round ≤ last_round form → m.value < none → m.flag < flag_size → Shape m
    vote : m.kind ≡ kind_v → 1 ≤ m.round → m.round ≤ last_round form → m.value ≤ none → m.flag ≡ d_get → Shape m

  module _ (m : Statement) where
    abbrev as_init : Bool
    as_init = eqb m.kind kind_init && (eqb m.round 0 && ltb m.value none && eqb m.flag d_get)

    abbrev as_proposal : Bool
    as_proposal = eqb m.kind kind_p && (leb 1 m.round && leb m.round (last_round form) && ltb m.value none && ltb m.flag flag_size)

    abbrev as_vote : Bool
    as_vote = eqb m.kind kind_v && (leb 1 m.round && leb m.round (last_round form) && leb m.value none && eqb m.flag d_get)

    of_init : as_init ≡ true → Shape m
    of_init e =
        let a = both (eqb m.kind kind_init) _ e in
        let b = both (eqb m.round 0 && ltb m.value none) _ a.1 in
        let c = both (eqb m.round 0) _ b.0 in
        init (eqb-true _ _ a.0) (eqb-true _ _ c.0) (ltb-true _ _ c.1) (eqb-true _ _ b.1)

    of_proposal : as_proposal ≡ true → Shape m
    of_proposal e =
        let a = both (eqb m.kind kind_p) _ e in
        let b = both (leb 1 m.round && leb m.round (last_round form) && ltb m.value none) _ a.1 in
        let c = both (leb 1 m.round && leb m.round (last_round form)) _ b.0 in
        let d = both (leb 1 m.round) _ c.0 in
        proposal (eqb-true _ _ a.0) (leb-true _ _ d.0) (leb-true _ _ d.1) (ltb-true _ _ c.1) (ltb-true _ _ b.1)

    of_vote : as_vote ≡ true → Shape m
    of_vote e =
        let a = both (eqb m.kind kind_v) _ e in
        let b = both (leb 1 m.round && leb m.round (last_round form) && leb m.value none) _ a.1 in
        let c = both (leb 1 m.round && leb m.round (last_round form)) _ b.0 in
        let d = both (leb 1 m.round) _ c.0 in
        vote (eqb-true _ _ a.0) (leb-true _ _ d.0) (leb-true _ _ d.1) (leb-true _ _ c.1) (eqb-true _ _ b.1)

    one_of : (x y z : Bool) → (x ≡ true → Shape m) → (y ≡ true → Shape m) → (z ≡ true → Shape m) → ((x || y) || z) ≡ true → Shape m
    one_of true y z f g h e = f refl
    one_of false true z f g h e = g refl
    one_of false false z f g h e = h e

  pub record Formed (n : ℕ) (m : Statement) : Type 0 where
    pub low : 1 ≤ m.station
    pub high : m.station ≤ n
    pub shape : Shape m

  pub formed_out : (n : ℕ) (m : Statement) → well_formed form n m ≡ true → Formed n m
  unfolding well_formed
  formed_out n m h =
      let a = both (of_group n m.station) _ h in
      let b = both (leb 1 m.station) _ a.0 in
      record {
        low = leb-true _ _ b.0;
        high = leb-true _ _ b.1;
        shape = one_of m (as_init m) (as_proposal m) (as_vote m) (of_init m) (of_proposal m) (of_vote m) a.1;
      }

  pub formed_in : (n : ℕ) (m : Statement) → Formed n m → well_formed form n m ≡ true
  unfolding well_formed
  formed_in n m f = join (of_group n m.station) _ (join (leb 1 m.station) _ (le-leb _ _ f.low) (le-leb _ _ f.high)) (go f.shape)
    where
      go : Shape m → ((as_init m || as_proposal m) || as_vote m) ≡ true
      go (init k r v g) =
          left (as_init m || as_proposal m) (as_vote m) (left (as_init m) (as_proposal m)
          (join (eqb m.kind kind_init) _ (eq-eqb _ _ k) (join (eqb m.round 0 && ltb m.value none) _ (join (eqb m.round 0) _ (eq-eqb _ _ r) (lt-ltb _ _ v)) (eq-eqb _ _ g))))
      go (proposal k l r v g) =
          left (as_init m || as_proposal m) (as_vote m) (right (as_init m) (as_proposal m)
          (join (eqb m.kind kind_p) _ (eq-eqb _ _ k)
          (join (leb 1 m.round && leb m.round (last_round form) && ltb m.value none) _
          (join (leb 1 m.round && leb m.round (last_round form)) _ (join (leb 1 m.round) _ (le-leb _ _ l) (le-leb _ _ r)) (lt-ltb _ _ v)) (lt-ltb _ _ g))))
      go (vote k l r v g) =
          right (as_init m || as_proposal m) (as_vote m)
          (join (eqb m.kind kind_v) _ (eq-eqb _ _ k)
          (join (leb 1 m.round && leb m.round (last_round form) && leb m.value none) _
          (join (leb 1 m.round && leb m.round (last_round form)) _ (join (leb 1 m.round) _ (le-leb _ _ l) (le-leb _ _ r)) (le-leb _ _ v)) (eq-eqb _ _ g)))

  -- the fields of a well-formed statement are small
  pub record Small (m : Statement) : Type 0 where
    pub kind : m.kind ≤ kind_v
    pub value : m.value ≤ none
    pub flag : m.flag < flag_size
    pub round : m.round ≤ last_round form

  pub small : (m : Statement) → Shape m → Small m
  small m (init k r v g) = record { kind = omega arith; value = omega arith; flag = omega arith; round = omega arith }
  small m (proposal k l r v g) = record { kind = omega arith; value = omega arith; flag = omega arith; round = omega arith }
  small m (vote k l r v g) = record { kind = omega arith; value = omega arith; flag = omega arith; round = omega arith }
