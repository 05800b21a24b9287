-- What follows a step, by a station's words alone: the statement, and which words make its certificate. `next_is` ties it to the state's
-- definition, `follows`.
use Rattle.std.specs.Prelude.{ℕ, ◌+◌, ◌≤◌, ◌<◌, Bool, List, [], ◌≡◌, refl, eqb}
use Rattle.std.proofs.Math.Bool.{true, false}
use Rattle.std.proofs.Common.{sym, ◌∙◌, arith}
use Rattle.std.proofs.Math.Path.{ap}
use Rattle.std.proofs.Math.Dec.{ltb}
use borrow.Author.Tests.{eqb-false, lt-ltb, le-ltb}
use Rattle.laws.specs.Pick.{pick, here, skip}
use Rattle.format.specs.Numbers.{kind_p, kind_v, none, d_get, r_get}
use Rattle.format.specs.Group.{backing}
use Rattle.format.specs.Statement.{Statement}
use Rattle.format.specs.Present.{last_round}
use Rattle.rules.specs.declared.Which.TheVariants.{Any, Only}
use Rattle.rules.specs.Rules.{some_d_get}
use Rattle.rules.specs.Test.{has_second}
use Rattle.station.specs.declared.Stage.{Stage}
use Rattle.station.specs.declared.Stage.TheVariants.{Gathering, Proposing, Voting}
use Rattle.station.specs.Machine.{State, Next, next, proposing, voting, round_in, first_value, vote_value, carried, follows, closes}
use Rattle.station.specs.Present.{sites, held_in}
use Rattle.held.specs.Scan.{scan, such, lowest}
use Rattle.held.proofs.Laws.Held.{scan_some}
use Rattle.ending.specs.declared.Kept.{Kept}
use Rattle.ending.specs.declared.Kept.TheVariants.{Nothing, Inits, ForValue, ForNone}
use Rattle.ending.specs.declared.Following.{Following}

abbrev pub following : ℕ → ℕ → ℕ → ℕ → ℕ → Kept → Stage → Following
following k v f r set c g = record { kind = k; value = v; flag = f; round = record { 0 = r }; set = set; kept = c; stage = g }

-- the second group of a vote: that of rule 5 or of rule 7
unfoldable pub second_group : ℕ → ℕ → Bool → Kept
second_group r value with_d_get = pick (has_second kind_v value r with_d_get) (pick (ltb value none) (pick (eqb r 1) Inits ForValue) ForNone) Nothing

-- the round after r, where there is one
unfoldable pub round_after : ℕ → ℕ
round_after r = pick (ltb r last_round) (r + 1) last_round

unfoldable pub inits_next : ℕ → ℕ → List ℕ → Following
inits_next n set slots =
    let v = first_value (held_in set slots 0 sites) in
    following kind_p v d_get 1 (lowest (scan (such (Only v) Any) set slots) (backing n v)) Nothing (proposing 1 d_get)

unfoldable pub proposals_next : ℕ → ℕ → List ℕ → Following
proposals_next r set slots =
    let h = held_in set slots 0 sites in
    following kind_v (vote_value h) d_get r set (second_group r (vote_value h) (some_d_get h)) (voting r)

unfoldable pub votes_next : ℕ → ℕ → List ℕ → ℕ → Following
votes_next r set slots coin =
    let h = held_in set slots 0 sites in
    pick (ltb (carried h) none)
    (following kind_p (carried h) d_get (round_after r) 0 ForValue (proposing (round_after r) d_get))
    (following kind_p coin r_get (round_after r) set Nothing (proposing (round_after r) r_get))

unfoldable pub next_by : ℕ → Stage → ℕ → List ℕ → ℕ → Following
next_by n Gathering set slots coin = inits_next n set slots
next_by n (Proposing r f) set slots coin = proposals_next r.0 set slots
next_by n (Voting r) set slots coin = votes_next r.0 set slots coin

-- ---- each by what the calls gave
module _ (set : ℕ) (slots : List ℕ) where
  pub inits_given : (n v k found low : ℕ) → v ≡ first_value (held_in set slots 0 sites) → k ≡ backing n v → found ≡ scan (such (Only v) Any) set slots
      → low ≡ lowest found k → following kind_p v d_get 1 low Nothing (proposing 1 d_get) ≡ inits_next n set slots
  unfolding inits_next
  inits_given n v k found low e f d g = rw (g, d, f, e)

  pub proposals_given : (r v d : ℕ) (s : Kept) → v ≡ vote_value (held_in set slots 0 sites) → d ≡ scan (such Any (Only d_get)) set slots
      → s ≡ second_group r v (ltb 0 d) → following kind_v v d_get r set s (voting r) ≡ proposals_next r set slots
  unfolding proposals_next
  proposals_given r v d s e f g = rw (g, e, f, scan_some (such Any (Only d_get)) set slots)

  pub votes_carry : (r coin v b : ℕ) → v ≡ carried (held_in set slots 0 sites) → b ≡ round_after r → v < none
      → following kind_p v d_get b 0 ForValue (proposing b d_get) ≡ votes_next r set slots coin
  unfolding votes_next
  votes_carry r coin v b e f l =
      let t : ltb (carried (held_in set slots 0 sites)) none ≡ true = ap (λ (x : ℕ). ltb x none) (sym e) ∙ lt-ltb v none l in
      rw (e, f) (here _ _ _ t)

  pub votes_toss : (r coin v b : ℕ) → v ≡ carried (held_in set slots 0 sites) → b ≡ round_after r → none ≤ v
      → following kind_p coin r_get b set Nothing (proposing b r_get) ≡ votes_next r set slots coin
  unfolding votes_next
  votes_toss r coin v b e f l =
      let t : ltb (carried (held_in set slots 0 sites)) none ≡ false = ap (λ (x : ℕ). ltb x none) (sym e) ∙ le-ltb v none l in
      rw f (skip _ _ _ _ t refl)

-- ---- what follows, with its certificate's two groups
abbrev pub as_next : Following → List Statement → List Statement → Next
as_next x c d = next x.kind x.value x.flag x.round.0 c d x.stage

round_up : (r : ℕ) → r < last_round → round_after r ≡ r + 1
unfolding round_after
round_up r l = sym (here (ltb r last_round) (r + 1) last_round (lt-ltb r last_round l))

pick_next : (b : Bool) (X Y : Following) (x y : Next) → as_next X x.first x.second ≡ x → as_next Y y.first y.second ≡ y
    → as_next (pick b X Y) (pick b x y).first (pick b x y).second ≡ pick b x y
unfolding pick
pick_next true X Y x y e f = e
pick_next false X Y x y e f = f

-- a station whose votes are not of the last round goes on as the definition says
pub next_is : (n : ℕ) (g : Stage) (set : ℕ) (slots : List ℕ) (coin : ℕ) (t : State) → t.held ≡ held_in set slots 0 sites → closes last_round g ≡ false
    → round_in g ≤ last_round → as_next (next_by n g set slots coin) (follows n g t coin).first (follows n g t coin).second ≡ follows n g t coin
unfolding next_by follows inits_next proposals_next votes_next
next_is n Gathering set slots coin t e goes top = rw e
next_is n (Proposing r f) set slots coin t e goes top = rw e
next_is n (Voting r) set slots coin t e goes top =
    let h = held_in set slots 0 sites in
    let l : r.0 < last_round = omega (arith, eqb-false r.0 last_round goes) in
    let a : round_after r.0 ≡ r.0 + 1 = round_up r.0 l in
    rw (e, a)
    (pick_next (ltb (carried h) none) (following kind_p (carried h) d_get (r.0 + 1) 0 ForValue (proposing (r.0 + 1) d_get))
    (following kind_p coin r_get (r.0 + 1) set Nothing (proposing (r.0 + 1) r_get))
    (next kind_p (carried h) d_get (r.0 + 1) t.for_value [] (proposing (r.0 + 1) d_get)) (next kind_p coin r_get (r.0 + 1) h [] (proposing (r.0 + 1) r_get))
    refl refl)
