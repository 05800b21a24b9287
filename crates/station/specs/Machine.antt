-- What a station does with statements that are read already (document 01, "The station"). No word is looked into here.
use Rattle.std.specs.Prelude.{ℕ, ◌+◌, ◌-◌, ◌*◌, Bool, true, false, not, ◌&&◌, ◌||◌, List, [], ◌∷◌, ◌++◌, eqb, ltb, leb, length, take}
use Rattle.laws.specs.Pick.{pick}
use Rattle.laws.specs.Refusals.{Test, test}
use Rattle.format.specs.Numbers.{kind_init, kind_p, kind_v, none, d_get, r_get, kept, sent, sent_decided, closed_now, jumped, too_early, too_late, already_held, conflicting, not_above}
use Rattle.format.specs.Group.{quorum, backing}
use Rattle.format.specs.Words.{step_of}
use Rattle.format.specs.Statement.{Statement, step}
use Rattle.format.specs.Lists.{some, every, number_of, those, leading}
use Rattle.rules.specs.declared.Group.{Group}
use Rattle.rules.specs.declared.Which.TheVariants.{Any, Only}
use Rattle.rules.specs.Rules.{group, proposals, some_d_get, some_value, none_votes}
use Rattle.rules.specs.Test.{d_get_group, has_second}
use Rattle.modules.specs.declared.Last.{Last}
use Rattle.modules.specs.Counter.{above}
use Rattle.station.specs.declared.Lasting.{Lasting}
use Rattle.station.specs.declared.Stage.{Stage}
use Rattle.station.specs.declared.Stage.TheVariants.{Gathering, Proposing, Voting}

-- ---- the stage
abbrev pub kind_in : Stage → ℕ
kind_in Gathering = kind_init
kind_in (Proposing r f) = kind_p
kind_in (Voting r) = kind_v

abbrev pub round_in : Stage → ℕ
round_in Gathering = 0
round_in (Proposing r f) = r.0
round_in (Voting r) = r.0

abbrev pub stage_step : Stage → ℕ
stage_step g = step_of (kind_in g) (round_in g)

abbrev pub proposing : ℕ → ℕ → Stage
proposing r f = Proposing (record { 0 = r }) f

abbrev pub voting : ℕ → Stage
voting r = Voting (record { 0 = r })

-- the stage of a station that has made this statement, which is no INIT
abbrev pub stage_of : Statement → Stage
stage_of m = pick (eqb m.kind kind_p) (proposing m.round m.flag) (voting m.round)

-- what outlasts a step, whether the station jumps and its decision (2 = none): as an opening makes it, with a setting, with a decision
abbrev pub undecided : Bool → Lasting
undecided jump = record { jump = jump; decision = none }

abbrev pub with_setting : Bool → Lasting → Lasting
with_setting jump l = record { jump = jump; decision = l.decision }

abbrev pub with_decision : ℕ → Lasting → Lasting
with_decision d l = record { jump = l.jump; decision = d }

-- what a station knows: the question, its stage, whether it is closed, what outlasts a step, the statements of its step by rising station, and the two
-- groups that it keeps
pub record State : Type 0 where
  pub question : ℕ
  pub stage : Stage
  pub closed : Bool
  pub lasting : Lasting
  pub held : List Statement
  pub for_value : List Statement
  pub for_none : List Statement

-- ---- which held bundle can supply which group
-- the group kept for a value: in round 1 any proposal's certificate, later a D-GET proposal's, which a vote for its value needs behind the proposals
-- ("In round 1 rule 5 now always has a second group", Job 2 of document 02); a vote's own first group, which the next round's D-GET proposal needs
abbrev pub supplies_for_value : Stage → Statement → Bool
supplies_for_value Gathering s = false
supplies_for_value (Proposing r f) s = eqb r.0 1 || eqb s.flag d_get
supplies_for_value (Voting r) s = ltb s.value none

-- the group kept for a none vote: an R-GET proposal's certificate, which a none vote needs behind the proposals
abbrev pub supplies_for_none : Stage → Statement → Bool
supplies_for_none Gathering s = false
supplies_for_none (Proposing r f) s = ltb 1 r.0 && eqb s.flag r_get
supplies_for_none (Voting r) s = false

-- "the lowest-numbered station's is taken", "taken from the lowest-numbered proposer's certificate": a new bundle's, unless a lower-numbered station
-- supplies it already
abbrev pub takes : (Statement → Bool) → List Statement → Statement → Bool
takes p held m = p m && not (some (λ s. p s && ltb s.station m.station) held)

abbrev pub no_group : Group
no_group = group 0 0 0 Any Any  -- no statement at all

-- what the kept groups are, by the stage and the statements held: there exactly where one of these supplies it
abbrev pub value_group : ℕ → Stage → ℕ → Group
value_group n Gathering v = no_group
value_group n (Proposing r f) v = d_get_group n v r.0
value_group n (Voting r) v = proposals n r.0 (Only v) Any

unfoldable pub kept_for_value : ℕ → Stage → List Statement → Group
kept_for_value n g h = pick (some (supplies_for_value g) h) (value_group n g (leading (supplies_for_value g) h)) no_group

unfoldable pub kept_for_none : ℕ → Stage → List Statement → Group
kept_for_none n g h = pick (some (supplies_for_none g) h) (none_votes n (round_in g - 1)) no_group

-- a statement among those held, by rising station
unfoldable pub insert : Statement → List Statement → List Statement
insert m [] = m ∷ []
insert m (s ∷ h) = pick (ltb m.station s.station) (m ∷ s ∷ h) (s ∷ insert m h)

-- the state with one bundle more: its main statement held, its first q certificate statements kept where they are to be, which is a proposal's whole
-- certificate and of a vote's the proposals
abbrev pub keeping : ℕ → State → Statement → List Statement → State
keeping n t m c =
    record {
      question = t.question;
      stage = t.stage;
      closed = t.closed;
      lasting = t.lasting;
      held = insert m t.held;
      for_value = pick (takes (supplies_for_value t.stage) t.held m) (take (quorum n) c) t.for_value;
      for_none = pick (takes (supplies_for_none t.stage) t.held m) (take (quorum n) c) t.for_none;
    }

-- ---- the end of a step
abbrev pub has_value : ℕ → Statement → Bool
has_value v s = eqb s.value v

-- "If at least half of the q INITs are 1 the proposal is 1, else 0." (Job 1 of document 02)
unfoldable pub first_value : List Statement → ℕ
first_value h = pick (leb (length h) (2 * number_of (has_value 1) h)) 1 0

-- "P: all q equal gives V with that value; else V none."
unfoldable pub vote_value : List Statement → ℕ
vote_value h = pick (every (has_value 0) h) 0 (pick (every (has_value 1) h) 1 none)

unfoldable pub decided : List Statement → ℕ
decided h = vote_value h  -- "V: all q the same 0 or 1 decides it."

-- "At least one with 0 or 1: P of the next round with it": that value, or none where all are none
unfoldable pub carried : List Statement → ℕ
carried h = pick (some_value 0 h) 0 (pick (some_value 1 h) 1 none)

abbrev pub decision_after : ℕ → ℕ → ℕ
decision_after old new = pick (ltb old none) old new  -- "The first decision is kept"

-- the statement that follows a step, but for its station, question and code; its certificate; and the next stage
pub record Next : Type 0 where
  pub kind : ℕ
  pub value : ℕ
  pub flag : ℕ
  pub round : ℕ
  pub first : List Statement
  pub second : List Statement
  pub stage : Stage

abbrev pub next : ℕ → ℕ → ℕ → ℕ → List Statement → List Statement → Stage → Next
next k v f r c d g = record { kind = k; value = v; flag = f; round = r; first = c; second = d; stage = g }

-- "P of round 1 follows, D-GET. Of the INITs with that value, the lowest-numbered go into the certificate."
abbrev pub after_inits : ℕ → List Statement → Next
after_inits n h =
    next kind_p (first_value h) d_get 1 (take (backing n (first_value h)) (those (has_value (first_value h)) h)) [] (proposing 1 d_get)

-- the vote, with the proposals as its first group; its second group, where it has one, is that of rule 5 or of rule 7
abbrev pub after_proposals : ℕ → State → Next
after_proposals r t =
    next kind_v (vote_value t.held) d_get r t.held
    (pick (has_second kind_v (vote_value t.held) r (some_d_get t.held)) (pick (ltb (vote_value t.held) none) t.for_value t.for_none) [])
    (voting r)

-- "At least one with 0 or 1: P of the next round with it, D-GET. All none: P flagged R-GET with the call's coin."
abbrev pub after_votes : ℕ → State → ℕ → Next
after_votes r t coin =
    pick (ltb (carried t.held) none)
    (next kind_p (carried t.held) d_get (r + 1) t.for_value [] (proposing (r + 1) d_get))
    (next kind_p coin r_get (r + 1) t.held [] (proposing (r + 1) r_get))

unfoldable pub follows : ℕ → Stage → State → ℕ → Next
follows n Gathering t coin = after_inits n t.held
follows n (Proposing r f) t coin = after_proposals r.0 t
follows n (Voting r) t coin = after_votes r.0 t coin

-- "The votes of round 65,535 are counted, then the station closes without a bundle.": those of the last round that there is
abbrev pub closes : ℕ → Stage → Bool
closes top Gathering = false
closes top (Proposing r f) = false
closes top (Voting r) = eqb r.0 top

-- the decision behind the end of a step: only votes decide
abbrev pub decision_at : Stage → ℕ → List Statement → ℕ
decision_at Gathering old h = old
decision_at (Proposing r f) old h = old
decision_at (Voting r) old h = decision_after old (decided h)

abbrev pub lasting_at : Stage → Lasting → List Statement → Lasting
lasting_at g l h = with_decision (decision_at g l.decision h) l  -- what outlasts the end of a step

-- ---- what a call does
pub data Outcome : Type 0 where
  refused : ℕ → Outcome
  keeps : ℕ → State → Outcome
  sends : ℕ → Statement → List Statement → State → Outcome

-- a statement of the module's station, with the code that is made of it
abbrev pub own : (Statement → List ℕ) → ℕ → ℕ → ℕ → ℕ → ℕ → ℕ → Statement
own code site question kind value flag round =
    record {
      kind = kind;
      value = value;
      flag = flag;
      station = site;
      round = round;
      question = question;
      code = code (record { kind = kind; value = value; flag = flag; station = site; round = round; question = question; code = [] });
    }

-- the state of a station that has just sent, with the whole certificate that it wrote: its own statement held, of the certificate the first q statements
-- kept where a later bundle needs them
abbrev pub began : ℕ → ℕ → Lasting → Stage → Statement → List Statement → State
began n question l g s c =
    record {
      question = question;
      stage = g;
      closed = false;
      lasting = l;
      held = s ∷ [];
      for_value = pick (supplies_for_value g s) (take (quorum n) c) [];
      for_none = pick (supplies_for_none g s) (take (quorum n) c) [];
    }

-- "only where a bundle would be written, 12"
abbrev pub sending : Last → ℕ → Statement → List Statement → State → Outcome
sending last number s c t = pick (above last s.question (step s)) (sends number s c t) (refused not_above)

-- a closed station: of its step nothing is left, and it does not jump
abbrev pub shut : State → Lasting → State
shut t l =
    record { question = t.question; stage = t.stage; closed = true; lasting = with_setting false l; held = []; for_value = []; for_none = [] }

-- ---- jumping (Job 3 of document 02)
-- "With it on, a valid bundle of a later step makes the station enter that step"
abbrev pub jumps : State → Statement → Bool
jumps t m = t.lasting.jump && ltb (stage_step t.stage) (step m)

-- "For a D-GET P or a V it writes its own statement with the same content and certificate; for an R-GET P it tosses its own coin with that certificate."
abbrev pub copied_value : Statement → ℕ → ℕ
copied_value m coin = pick (eqb m.kind kind_p && eqb m.flag r_get) coin m.value

-- by a code of statements, the last round that there is, the group's size, the station's number, and the module's last pair
module _ (code : Statement → List ℕ) (top n site : ℕ) (last : Last) where
  -- opening: an INIT is sent, and the station gathers
  abbrev pub opened : ℕ → ℕ → Bool → Outcome
  opened question proposal jump =
      let s = own code site question kind_init proposal d_get 0 in
      sending last sent s [] (began n question (undecided jump) Gathering s [])

  -- the step of t has ended
  abbrev pub moved : State → Next → Lasting → Outcome
  moved t x l =
      let s = own code site t.question x.kind x.value x.flag x.round in
      let c = x.first ++ x.second in
      sending last (pick (ltb t.lasting.decision none || eqb l.decision none) sent sent_decided) s c (began n t.question l x.stage s c)

  unfoldable pub ended : State → ℕ → Outcome
  ended t coin =
      let l = lasting_at t.stage t.lasting t.held in
      pick (closes top t.stage) (keeps closed_now (shut t l)) (moved t (follows n t.stage t coin) l)

  -- "The q-th statement ends the step in that call."
  unfoldable pub taken : State → Statement → List Statement → ℕ → Outcome
  taken t m c coin =
      let k = keeping n t m c in
      pick (ltb (length k.held) (quorum n)) (keeps kept k) (ended k coin)

  -- the station enters the step of m, by m's certificate: "Only its own statement is held afterwards." What outlasts a step stays
  abbrev pub entered : State → Statement → List Statement → ℕ → Outcome
  entered t m c coin =
      let s = own code site t.question m.kind (copied_value m coin) m.flag m.round in
      sending last jumped s c (began n t.question t.lasting (stage_of m) s c)

  -- a bundle that passed the tests: it makes the station jump, or is taken
  abbrev pub answered : State → Statement → List Statement → ℕ → Outcome
  answered t m c coin = pick (jumps t m) (entered t m c coin) (taken t m c coin)

-- ---- refusals of a bundle whose main statement is m, behind those of the validity check
abbrev pub held_of : ℕ → List Statement → Bool
held_of station h = some (λ s. eqb s.station station) h

-- "the held and the new would have votes for both 0 and 1, or, in a round over 1, D-GET of both values"
unfoldable pub conflict : Stage → List Statement → Bool
conflict Gathering h = false
conflict (Proposing r f) h =
    ltb 1 r.0 && (some (λ s. eqb s.flag d_get && has_value 0 s) h && some (λ s. eqb s.flag d_get && has_value 1 s) h)
conflict (Voting r) h = some (has_value 0) h && some (has_value 1) h

-- 7, 8, 9: of the station's step, and of a station that is not held yet. "8 is given only with jump off": a bundle that makes the station jump passes 8,
-- and 9 and 10 do not apply to it
abbrev pub place_tests : State → Statement → List Test
place_tests t m =
    test (leb (stage_step t.stage) (step m)) too_late
    ∷ test (jumps t m || leb (step m) (stage_step t.stage)) too_early
    ∷ test (jumps t m || not (held_of m.station t.held)) already_held
    ∷ []

abbrev pub step_tests : State → Statement → List Test
step_tests t m = place_tests t m ++ (test (jumps t m || not (conflict t.stage (m ∷ t.held))) conflicting ∷ [])
