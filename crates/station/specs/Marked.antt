-- "Marked examples of the count": the whole table, as the jobs of document 02 change it, and one theorem over it. A station that holds its own statement
-- is given bundles, one after the other, each tested by its rule and by the station's step tests, which is what giving comes to (`given_as_called` in
-- AsCalled); a module codes ten words.
use Rattle.std.specs.Prelude.{ℕ, true, false, List, [], ◌∷◌, ◌++◌, ◌≡◌, refl, replicate}
use Rattle.laws.specs.Pick.{pick}
use Rattle.laws.specs.Refusals.{test, first_failed}
use Rattle.laws.specs.All.{All}
use Rattle.format.specs.Numbers.{kind_init, kind_p, kind_v, none, d_get, r_get, code_words, no_certificate, kept, sent, sent_decided, jumped, too_late, too_early, conflicting, not_above}
use Rattle.format.specs.Group.{quorum, backing}
use Rattle.format.specs.Words.{fields_of, word_of, step_of}
use Rattle.format.specs.Statement.{Statement, step}
use Rattle.format.specs.Lists.{some, every, number_of, those}
use Rattle.format.specs.Present.{last_round, written, statement_code}
use Rattle.rules.specs.Rules.{wanted}
use Rattle.rules.specs.Test.{rule, in_order, holds, d_get_group, first_group, second_group, has_second, early_toss, rest_holds, spread, groups_hold}
use Rattle.modules.specs.declared.Last.{Last}
use Rattle.modules.specs.declared.Module.{Module}
use Rattle.modules.specs.Counter.{no_pair, pair, above}
use Rattle.sealed.specs.Present.{coding_plain}
use Rattle.station.specs.declared.Stage.{Stage}
use Rattle.station.specs.declared.Stage.TheVariants.{Gathering}
use Rattle.station.specs.Machine.{State, Outcome, refused, keeps, sends, proposing, voting, began, insert, first_value, vote_value, decided, carried, follows, ended, taken, answered, conflict, step_tests, undecided, with_decision}
use Rattle.station.specs.Calls.{unless}

-- ---- statements of question 1, by round, station, value and flag
abbrev pub says : ℕ → ℕ → ℕ → ℕ → ℕ → Statement
says kind r s v f = record { kind = kind; value = v; flag = f; station = s; round = r; question = 1; code = replicate code_words 0 }

abbrev pub init : ℕ → ℕ → Statement
init s v = says kind_init 0 s v d_get

abbrev pub proposal : ℕ → ℕ → ℕ → ℕ → Statement
proposal r s v f = says kind_p r s v f

abbrev pub vote : ℕ → ℕ → ℕ → Statement
vote r s v = says kind_v r s v d_get

-- certificates: two INITs with v; round 1's proposals of v; with these the INITs, for a vote of round 1; proposals of both values; none votes
abbrev pub inits_of : ℕ → ℕ → ℕ → List Statement
inits_of a b v = init a v ∷ init b v ∷ []

abbrev pub all_of : ℕ → List Statement
all_of v = proposal 1 1 v d_get ∷ proposal 1 2 v d_get ∷ proposal 1 3 v d_get ∷ []

abbrev pub voted_for : ℕ → List Statement
voted_for v = all_of v ++ inits_of 1 2 v

abbrev pub mixed : List Statement
mixed = proposal 1 1 0 d_get ∷ proposal 1 2 1 d_get ∷ proposal 1 3 1 d_get ∷ []

abbrev pub nones : List Statement
nones = vote 1 1 none ∷ vote 1 2 none ∷ vote 1 3 none ∷ []

-- ---- a bundle, and what is seen of a call
pub record ReadBundle : Type 0 where
  pub main : Statement
  pub certificate : List Statement

infixl 70 ◌by◌
abbrev pub ◌by◌ : Statement → List Statement → ReadBundle
m by c = record { main = m; certificate = c }

-- the number returned; and, where a bundle is written, its main statement's kind, value, flag and round, its certificate, and the decision then named
pub data Seen : Type 0 where
  answers : ℕ → Seen
  writes : (number kind value flag round : ℕ) (certificate : List Statement) (decision : ℕ) → Seen

abbrev pub unless_kept : (ℕ → State → Seen) → Outcome → Seen
unless_kept f (refused k) = answers k
unless_kept f (keeps k t) = f k t
unless_kept f (sends k s c t) = writes k s.kind s.value s.flag s.round c t.lasting.decision

-- a station is given a bundle that is read already, well-formed, of its question and with codes that verify: what giving comes to then
-- (`given_as_called`)
abbrev pub giving_read : (Statement → List ℕ) → ℕ → ℕ → Last → ℕ → State → ReadBundle → Outcome
giving_read code n site last coin t b =
    unless (test (rule n b.main b.certificate) no_certificate ∷ step_tests t b.main) (answered code last_round n site last t b.main b.certificate coin)

module _ (code : Statement → List ℕ) (n site coin : ℕ) where
  -- a station whose module has coded nothing yet; while it keeps, it is given the next
  unfoldable pub seen : List ReadBundle → Outcome → Seen
  seen [] o = unless_kept (λ k t. answers k) o
  seen (b ∷ l) o = unless_kept (λ k t. seen l (giving_read code n site no_pair coin t b)) o

-- what a station that has just sent is left with: the stations of the statements that it holds, the two groups that it keeps, and its decision
pub record Left : Type 0 where
  pub stations : List ℕ
  pub for_value : List Statement
  pub for_none : List Statement
  pub decision : ℕ

abbrev pub stations_of : List Statement → List ℕ
stations_of [] = []
stations_of (s ∷ h) = s.station ∷ stations_of h

abbrev pub left_by : Outcome → List Left
left_by (refused k) = []
left_by (keeps k t) = []
left_by (sends k s c t) = record { stations = stations_of t.held; for_value = t.for_value; for_none = t.for_none; decision = t.lasting.decision } ∷ []

-- ---- a row: its case, and what it gives
pub data Row : Type 0 where
  -- n: the quorum, and the backings of 0 and of 1
  counts : (n q of_0 of_1 : ℕ) → Row
  -- a station of n in a stage, its own bundle, the bundles given, and the coin: what is seen
  -- in the end
  gives : (n : ℕ) → Stage → ReadBundle → List ReadBundle → (coin : ℕ) → Seen → Row
  -- the same of a station with jump on
  catches : (n : ℕ) → Stage → ReadBundle → List ReadBundle → (coin : ℕ) → Seen → Row
  -- a station of 4 with jump on, whose module has coded a step, and its decision: a bundle given, and what is seen, or what it is left with
  meets : (last : ℕ) → Stage → ReadBundle → ReadBundle → Seen → Row
  lands : (decision : ℕ) → Stage → ReadBundle → ReadBundle → Left → Row
  -- the step last coded, the statement to code plain: the number returned
  codes : (last : ℕ) → Statement → (number : ℕ) → Row

-- station 1's module of 4, which has coded a step of question 1
abbrev pub module_at : List ℕ → ℕ → Module
module_at key last = record { key = key; n = 4; station = 1; last = pair 1 last }

abbrev pub RowHolds : (List ℕ → List ℕ → List ℕ) → List ℕ → Row → Type 0
RowHolds mac key (counts n q a b) = (quorum n ≡ q) × ((backing n 0 ≡ a) × (backing n 1 ≡ b))
RowHolds mac key (gives n g b l coin x) = seen (statement_code (mac key)) n b.main.station coin l (keeps kept (began n 1 (undecided false) g b.main b.certificate)) ≡ x
RowHolds mac key (catches n g b l coin x) = seen (statement_code (mac key)) n b.main.station coin l (keeps kept (began n 1 (undecided true) g b.main b.certificate)) ≡ x
RowHolds mac key (meets last g b x y) =
    seen (statement_code (mac key)) 4 b.main.station 0 [] (giving_read (statement_code (mac key)) 4 b.main.station (pair 1 last) 0 (began 4 1 (undecided true) g b.main b.certificate) x) ≡ y
RowHolds mac key (lands d g b x l) =
    left_by (giving_read (statement_code (mac key)) 4 b.main.station no_pair 0 (began 4 1 (with_decision d (undecided true)) g b.main b.certificate) x) ≡ l ∷ []
RowHolds mac key (codes last s k) = (coding_plain mac (module_at key last) (written s)).number ≡ k

abbrev pub marked : List Row
marked =
    -- n 2: q 2, backings 2 and 1
    counts 2 2 2 1
    -- n 6: q 4, backings 3 and 2
    ∷ counts 6 4 3 2
    -- n 31: q 16, backings 9 and 8
    ∷ counts 31 16 9 8
    -- n 3, INITs 0, 1: P 1, with the one INIT of 1
    ∷ gives 3 Gathering (init 1 0 by []) (init 2 1 by [] ∷ []) 0
    (writes sent kind_p 1 d_get 1 (init 2 1 ∷ []) none)
    -- n 4, INITs 0, 1, 1: P 1, with the two INITs of 1
    ∷ gives 4 Gathering (init 1 0 by []) (init 2 1 by [] ∷ init 3 1 by [] ∷ []) 0
    (writes sent kind_p 1 d_get 1 (init 2 1 ∷ init 3 1 ∷ []) none)
    -- n 4, V 0, 0, 0: decides 0
    ∷ gives 4 (voting 1) (vote 1 1 0 by voted_for 0) (vote 1 2 0 by voted_for 0 ∷ vote 1 3 0 by voted_for 0 ∷ []) 1
    (writes sent_decided kind_p 0 d_get 2 (all_of 0) 0)
    -- n 4, V none, 1, none: no decision, P 1 D-GET
    ∷ gives 4 (voting 1) (vote 1 1 none by mixed) (vote 1 2 1 by voted_for 1 ∷ vote 1 3 none by mixed ∷ []) 0
    (writes sent kind_p 1 d_get 2 (all_of 1) none)
    -- n 4, V all none, coin 1: P 1 R-GET
    ∷ gives 4 (voting 1) (vote 1 1 none by mixed) (vote 1 2 none by mixed ∷ vote 1 3 none by mixed ∷ []) 1
    (writes sent kind_p 1 r_get 2 nones none)
    -- n 4, round 2, P 0 R, 0 D, 0 R: V 0 with a second group, round 1's proposals of 0
    ∷ gives 4 (proposing 2 r_get) (proposal 2 1 0 r_get by nones) (proposal 2 2 0 d_get by all_of 0 ∷ proposal 2 3 0 r_get by nones ∷ []) 1
    (writes sent kind_v 0 d_get 2 (proposal 2 1 0 r_get ∷ proposal 2 2 0 d_get ∷ proposal 2 3 0 r_get ∷ all_of 0) none)
    -- n 4, round 2, P 0 D, 1 R, 0 R: V none with round 1 none votes
    ∷ gives 4 (proposing 2 d_get) (proposal 2 1 0 d_get by all_of 0) (proposal 2 2 1 r_get by nones ∷ proposal 2 3 0 r_get by nones ∷ []) 0
    (writes sent kind_v none d_get 2 (proposal 2 1 0 d_get ∷ proposal 2 2 1 r_get ∷ proposal 2 3 0 r_get ∷ nones) none)
    -- n 4, round 2, holding P 0 D, then 1 D: 10
    ∷ gives 4 (proposing 2 d_get) (proposal 2 1 0 d_get by all_of 0) (proposal 2 2 1 d_get by all_of 1 ∷ []) 0 (answers conflicting)
    -- module at step 4, step 4: 12
    ∷ codes 4 (proposal 2 1 0 d_get) not_above
    -- module at step 4, step 5: coded
    ∷ codes 4 (vote 2 1 0) 0
    ∷ []

-- every row holds, whatever the code and the key
pub marked_hold : (mac : List ℕ → List ℕ → List ℕ) (key : List ℕ) → All (RowHolds mac key) marked
unfolding pick backing seen first_failed rule wanted some in_order holds d_get_group first_group second_group has_second early_toss rest_holds spread groups_hold every insert number_of first_value those vote_value decided carried follows ended taken conflict step step_of above Rattle.sealed.specs.Sealed.coding_plain fields_of word_of Rattle.format.specs.Statement.formed
marked_hold mac key =
    ((refl, (refl, refl)), ((refl, (refl, refl)), ((refl, (refl, refl)), (refl, (refl, (refl, (refl, (refl, (refl, (refl, (refl, (refl, (refl, tt)))))))))))))

-- "Of the INITs with that value, the lowest-numbered go into the certificate.", and "Where several held bundles could supply a second group or a rule 3 group,
-- the lowest-numbered station's is taken.", in either order of coming
abbrev pub others : List Statement
others = proposal 1 2 1 d_get ∷ proposal 1 3 1 d_get ∷ proposal 1 4 1 d_get ∷ []

abbrev pub other_nones : List Statement
other_nones = vote 1 2 none ∷ vote 1 3 none ∷ vote 1 4 none ∷ []

abbrev pub lowest : List Row
lowest =
    -- more INITs than the backing: three of 1, and three of 0, where two go into the certificate
    gives 4 Gathering (init 3 1 by []) (init 2 1 by [] ∷ init 1 1 by [] ∷ []) 0
    (writes sent kind_p 1 d_get 1 (inits_of 1 2 1) none)
    ∷ gives 4 Gathering (init 1 0 by []) (init 3 0 by [] ∷ init 2 0 by [] ∷ []) 1
    (writes sent kind_p 0 d_get 1 (inits_of 1 2 0) none)
    -- n 6, INITs 1, 0, 1, 1 of stations 1 to 4, the last its own: two of the three of 1
    ∷ gives 6 Gathering (init 4 1 by []) (init 3 1 by [] ∷ init 2 0 by [] ∷ init 1 1 by [] ∷ []) 0
    (writes sent kind_p 1 d_get 1 (inits_of 1 3 1) none)
    -- two votes for 1: the next round's proposal has the proposals of station 2's
    ∷ gives 4 (voting 1) (vote 1 1 none by mixed) (vote 1 3 1 by (others ++ inits_of 1 2 1) ∷ vote 1 2 1 by voted_for 1 ∷ []) 0
    (writes sent kind_p 1 d_get 2 (all_of 1) none)
    ∷ gives 4 (voting 1) (vote 1 1 none by mixed) (vote 1 2 1 by voted_for 1 ∷ vote 1 3 1 by (others ++ inits_of 1 2 1) ∷ []) 0
    (writes sent kind_p 1 d_get 2 (all_of 1) none)
    -- two D-GET proposals of round 2: behind the vote for 1 stands the certificate of station 2's
    ∷ gives 4 (proposing 2 r_get) (proposal 2 1 1 r_get by nones) (proposal 2 3 1 d_get by others ∷ proposal 2 2 1 d_get by all_of 1 ∷ []) 0
    (writes sent kind_v 1 d_get 2 (proposal 2 1 1 r_get ∷ proposal 2 2 1 d_get ∷ proposal 2 3 1 d_get ∷ all_of 1) none)
    ∷ gives 4 (proposing 2 r_get) (proposal 2 1 1 r_get by nones) (proposal 2 2 1 d_get by all_of 1 ∷ proposal 2 3 1 d_get by others ∷ []) 0
    (writes sent kind_v 1 d_get 2 (proposal 2 1 1 r_get ∷ proposal 2 2 1 d_get ∷ proposal 2 3 1 d_get ∷ all_of 1) none)
    -- two R-GET proposals of round 2: behind the none vote stands the certificate of station 2's
    ∷ gives 4 (proposing 2 d_get) (proposal 2 1 0 d_get by all_of 0) (proposal 2 3 1 r_get by other_nones ∷ proposal 2 2 0 r_get by nones ∷ []) 0
    (writes sent kind_v none d_get 2 (proposal 2 1 0 d_get ∷ proposal 2 2 0 r_get ∷ proposal 2 3 1 r_get ∷ nones) none)
    ∷ gives 4 (proposing 2 d_get) (proposal 2 1 0 d_get by all_of 0) (proposal 2 2 0 r_get by nones ∷ proposal 2 3 1 r_get by other_nones ∷ []) 0
    (writes sent kind_v none d_get 2 (proposal 2 1 0 d_get ∷ proposal 2 2 0 r_get ∷ proposal 2 3 1 r_get ∷ nones) none)
    ∷ []

pub lowest_hold : (mac : List ℕ → List ℕ → List ℕ) (key : List ℕ) → All (RowHolds mac key) lowest
unfolding pick backing seen first_failed rule wanted some in_order holds d_get_group first_group second_group has_second early_toss rest_holds spread groups_hold every insert number_of first_value those vote_value decided carried follows ended taken conflict step step_of above
lowest_hold mac key = (refl, (refl, (refl, (refl, (refl, (refl, (refl, (refl, (refl, tt)))))))))

-- Job 2 of document 02: behind a first-round vote for v stands the backing of v in INITs with v, "taken from the lowest-numbered proposer's
-- certificate", whether that came first or last, was the station's own or another's; behind a none vote stands nothing
abbrev pub firsts : ℕ → List Statement
firsts v = proposal 1 2 v d_get ∷ proposal 1 3 v d_get ∷ proposal 1 4 v d_get ∷ []

abbrev pub inits_carried : List Row
inits_carried =
    -- station 3 of 4, its own INITs 3 and 4: given 2's proposal with INITs 1 and 3 and 4's with 2 and 4, it writes 1 and 3
    gives 4 (proposing 1 d_get) (proposal 1 3 1 d_get by inits_of 3 4 1)
    (proposal 1 2 1 d_get by inits_of 1 3 1 ∷ proposal 1 4 1 d_get by inits_of 2 4 1 ∷ []) 0
    (writes sent kind_v 1 d_get 1 (firsts 1 ++ inits_of 1 3 1) none)
    -- in the other order
    ∷ gives 4 (proposing 1 d_get) (proposal 1 3 0 d_get by inits_of 3 4 0)
    (proposal 1 4 0 d_get by inits_of 2 4 0 ∷ proposal 1 2 0 d_get by inits_of 1 3 0 ∷ []) 0
    (writes sent kind_v 0 d_get 1 (firsts 0 ++ inits_of 1 3 0) none)
    -- station 2, the lowest-numbered itself: its own INITs
    ∷ gives 4 (proposing 1 d_get) (proposal 1 2 1 d_get by inits_of 2 4 1)
    (proposal 1 3 1 d_get by inits_of 1 3 1 ∷ proposal 1 4 1 d_get by inits_of 3 4 1 ∷ []) 0
    (writes sent kind_v 1 d_get 1 (firsts 1 ++ inits_of 2 4 1) none)
    -- both values: V none, and no INIT
    ∷ gives 4 (proposing 1 d_get) (proposal 1 1 0 d_get by inits_of 1 2 0)
    (proposal 1 2 1 d_get by inits_of 3 4 1 ∷ proposal 1 3 1 d_get by inits_of 3 4 1 ∷ []) 0
    (writes sent kind_v none d_get 1 mixed none)
    -- n 3, where the backings are 2 and 1: the two INITs of 0, the one of 1
    ∷ gives 3 (proposing 1 d_get) (proposal 1 1 0 d_get by inits_of 1 3 0) (proposal 1 2 0 d_get by inits_of 2 3 0 ∷ []) 0
    (writes sent kind_v 0 d_get 1 (proposal 1 1 0 d_get ∷ proposal 1 2 0 d_get ∷ inits_of 1 3 0) none)
    ∷ gives 3 (proposing 1 d_get) (proposal 1 1 1 d_get by (init 3 1 ∷ [])) (proposal 1 2 1 d_get by (init 2 1 ∷ []) ∷ []) 0
    (writes sent kind_v 1 d_get 1 (proposal 1 1 1 d_get ∷ proposal 1 2 1 d_get ∷ init 3 1 ∷ []) none)
    -- a vote of round 1 without its INITs, with one fewer, or with those of the other value: 6
    ∷ gives 4 (voting 1) (vote 1 1 none by mixed) (vote 1 2 1 by all_of 1 ∷ []) 0 (answers no_certificate)
    ∷ gives 4 (voting 1) (vote 1 1 none by mixed) (vote 1 2 1 by (all_of 1 ++ init 1 1 ∷ []) ∷ []) 0 (answers no_certificate)
    ∷ gives 4 (voting 1) (vote 1 1 none by mixed) (vote 1 2 1 by (all_of 1 ++ inits_of 1 2 0) ∷ []) 0 (answers no_certificate)
    ∷ []

pub inits_carried_hold : (mac : List ℕ → List ℕ → List ℕ) (key : List ℕ) → All (RowHolds mac key) inits_carried
unfolding pick backing seen first_failed rule wanted some in_order holds d_get_group first_group second_group has_second early_toss rest_holds spread groups_hold every insert number_of first_value those vote_value decided carried follows ended taken conflict step step_of above
inits_carried_hold mac key = (refl, (refl, (refl, (refl, (refl, (refl, (refl, (refl, (refl, tt)))))))))

-- Job 3 of document 02: with jump on, a bundle of a later step is answered 23, and its statement and certificate are written; "for an R-GET P it tosses its own
-- coin with that certificate"; "Only its own statement is held afterwards"
abbrev pub caught_up : List Row
caught_up =
    -- from the INITs onto a proposal of round 1, of round 2, onto a vote for a value and onto a none vote
    catches 4 Gathering (init 1 0 by []) (proposal 1 2 1 d_get by inits_of 2 3 1 ∷ []) 0 (writes jumped kind_p 1 d_get 1 (inits_of 2 3 1) none)
    ∷ catches 4 Gathering (init 1 0 by []) (proposal 2 2 0 d_get by all_of 0 ∷ []) 1 (writes jumped kind_p 0 d_get 2 (all_of 0) none)
    ∷ catches 4 (proposing 1 d_get) (proposal 1 1 0 d_get by inits_of 1 2 0) (vote 1 2 1 by voted_for 1 ∷ []) 0 (writes jumped kind_v 1 d_get 1 (voted_for 1) none)
    ∷ catches 4 (proposing 1 d_get) (proposal 1 1 0 d_get by inits_of 1 2 0) (vote 1 2 none by mixed ∷ []) 0 (writes jumped kind_v none d_get 1 mixed none)
    -- onto an R-GET proposal with 0: the coin is 1, and so is the value
    ∷ catches 4 (voting 1) (vote 1 1 none by mixed) (proposal 2 2 0 r_get by nones ∷ []) 1 (writes jumped kind_p 1 r_get 2 nones none)
    -- with jump off a later step is 8
    ∷ gives 4 (voting 1) (vote 1 1 none by mixed) (proposal 2 2 0 r_get by nones ∷ []) 1 (answers too_early)
    -- and with jump on an earlier one is 7, and one of the step is taken as ever
    ∷ catches 4 (voting 1) (vote 1 1 none by mixed) (proposal 1 2 1 d_get by inits_of 2 3 1 ∷ []) 0 (answers too_late)
    ∷ catches 4 (voting 1) (vote 1 1 none by mixed) (vote 1 2 1 by voted_for 1 ∷ vote 1 3 none by mixed ∷ []) 0 (writes sent kind_p 1 d_get 2 (all_of 1) none)
    -- a station that is held already, and a value that would conflict with one held, are no hindrance to a jump
    ∷ catches 4 (voting 1) (vote 1 1 none by mixed) (vote 1 2 1 by voted_for 1 ∷ proposal 2 2 0 d_get by all_of 0 ∷ []) 0 (writes jumped kind_p 0 d_get 2 (all_of 0) none)
    -- the module is at that step already: 12; and 7 comes before it
    ∷ meets 4 (voting 1) (vote 1 1 none by mixed) (proposal 2 2 0 d_get by all_of 0) (answers not_above)
    ∷ meets 4 (voting 1) (vote 1 1 none by mixed) (proposal 1 2 1 d_get by inits_of 2 3 1) (answers too_late)
    -- the own statement alone is held. Kept: a vote's proposals, and not the INITs behind them; a first proposal's INITs; a later proposal's certificate, by its
    -- flag. A decision stays
    ∷ lands none Gathering (init 1 0 by []) (vote 1 2 1 by voted_for 1) (record { stations = 1 ∷ []; for_value = all_of 1; for_none = []; decision = none })
    ∷ lands none Gathering (init 1 0 by []) (vote 1 2 none by mixed) (record { stations = 1 ∷ []; for_value = []; for_none = []; decision = none })
    ∷ lands none Gathering (init 1 0 by []) (proposal 1 2 1 d_get by inits_of 2 3 1) (record { stations = 1 ∷ []; for_value = inits_of 2 3 1; for_none = []; decision = none })
    ∷ lands 1 (voting 1) (vote 1 1 none by mixed) (proposal 2 2 0 d_get by all_of 0) (record { stations = 1 ∷ []; for_value = all_of 0; for_none = []; decision = 1 })
    ∷ lands 0 (voting 1) (vote 1 1 none by mixed) (proposal 2 2 0 r_get by nones) (record { stations = 1 ∷ []; for_value = []; for_none = nones; decision = 0 })
    ∷ []

pub caught_up_hold : (mac : List ℕ → List ℕ → List ℕ) (key : List ℕ) → All (RowHolds mac key) caught_up
unfolding pick backing seen first_failed rule wanted some in_order holds d_get_group first_group second_group has_second early_toss rest_holds spread groups_hold every insert number_of first_value those vote_value decided carried follows ended taken conflict step step_of above
caught_up_hold mac key =
    (refl, (refl, (refl, (refl, (refl, (refl, (refl, (refl, (refl, (refl, (refl, (refl, (refl, (refl, (refl, (refl, tt))))))))))))))))
