-- Never stuck, stated: from every list of calls within demand 3's premises, the sites of a team of at least a quorum, each sound and with a question open,
-- can all decide it, by givings among themselves. Lists of calls have the newest call first. `mac` is the code function; `never_stuck` in Theorem names HMAC.
use Rattle.std.specs.Prelude.{ℕ, suc, ◌+◌, ◌≤◌, ◌<◌, Bool, true, false, List, ◌∷◌, ◌≡◌, replicate}
use Rattle.laws.specs.Count.{count}
use Rattle.format.specs.Numbers.{none, least_stations}
use Rattle.format.specs.Group.{quorum}
use Rattle.format.specs.Statement.{step}
use Rattle.format.specs.Present.{last_round, output_words, most_stations, main_of}
use Rattle.modules.specs.Counter.{last_for}
use Rattle.station.specs.declared.Station.{Station}
use Rattle.station.specs.Machine.{round_in, stage_step}
use Rattle.station.specs.Returns.{unrefused, wrote}
use Rattle.station.specs.Demand.{message}
use Rattle.agreement.specs.Demand.{Call, call, gives, site}
use Rattle.agreement.specs.Present.{modules, answer, Presents, Sound, FewFaulty, Given, Decides}

-- the lent output of the givings that the list goes on by
abbrev pub room : List ℕ
room = replicate {A = ℕ} output_words 0

-- ---- the premises
-- a team, as a test of site numbers, has at least a quorum of the sites 1 to n
abbrev pub Quorate : ℕ → (ℕ → Bool) → Type 0
Quorate n team = quorum n ≤ count team n

module _ (mac : List ℕ → List ℕ → List ℕ) (key : List ℕ) (n : ℕ) where
  -- station t of site y, that of its opening k, is open on the question; the site is sound, and its module has gone on to no later question
  pub record Waits (cs : List Call) (question y k : ℕ) (t : Station) : Type 0 where
    pub sound : Sound mac key n y cs
    pub presents : Presents mac key n cs y k t
    pub still_open : t.closed ≡ false
    pub asked : t.identity.question ≡ question
    pub not_gone_on : (last_for (modules mac key n cs y) question).question ≡ question

  -- and the station is not past round r, and was opened with jump off, or on
  pub record Ready (cs : List Call) (question r : ℕ) (jump : Bool) (y : ℕ) : Type 0 where
    pub opening : ℕ
    pub station : Station
    pub waits : Waits cs question y opening station
    pub not_past : round_in station.stage ≤ r
    pub setting : station.lasting.jump ≡ jump

  -- ---- how the list goes on
  -- words that a call of a site wrote
  pub data Wrote : List Call → ℕ → List ℕ → Type 0 where
    now : {c : Call} {cs : List Call} → wrote (answer mac key n cs c).number ≡ true → Wrote (c ∷ cs) (site c) (message (answer mac key n cs c))
    before : {c : Call} {cs : List Call} {y : ℕ} {ws : List ℕ} → Wrote cs y ws → Wrote (c ∷ cs) y ws

  -- only by givings at sites of the team, each to a station there on the question, as it is, of words that a call of a site of the team wrote, of no step below
  -- a floor, with a coin in range; none is refused
  pub data Onward (question : ℕ) (team : ℕ → Bool) (floor : ℕ) (cs : List Call) : List Call → Type 0 where
    done : Onward question team floor cs cs
    give : {cs' : List Call} → Onward question team floor cs cs' → (x k : ℕ) (t : Station) (y : ℕ) (ws : List ℕ) (coin : ℕ) → team x ≡ true → team y ≡ true → Presents mac key n cs' x k t
        → t.identity.question ≡ question → Wrote cs' y ws → floor ≤ step (main_of ws) → coin < 2
        → unrefused (answer mac key n cs' (call x (gives k t ws coin room))).number ≡ true → Onward question team floor cs (call x (gives k t ws coin room) ∷ cs')

  -- ---- what it comes to
  -- the station has counted the votes of round r: it stands in the next round, or it is closed behind the last one
  pub data Counted (r : ℕ) (t : Station) : Type 0 where
    goes_on : t.closed ≡ false → round_in t.stage ≡ suc r → Counted r t
    closes : t.closed ≡ true → r ≡ last_round → Counted r t

  -- site y has decided v on the question, and named it, by the votes of round r
  pub record Decided (cs : List Call) (question r v y : ℕ) : Type 0 where
    pub opening : ℕ
    pub station : Station
    pub presents : Presents mac key n cs y opening station
    pub decides : Decides mac key n cs y opening question v
    -- by q votes of that round
    pub in_round : decides.round ≡ r
    pub named : station.lasting.decision ≡ v
    pub counted : Counted r station

  pub record CanDecide (cs : List Call) (question r : ℕ) (team : ℕ → Bool) (jump : Bool) : Type 0 where
    pub list : List Call
    pub floor : ℕ
    pub onward : Onward question team floor cs list
    -- with jump on, no bundle of a step below that of the team's leader is given: of those that were written before, the sites' last bundles are enough
    pub last_enough : jump ≡ true → (y k : ℕ) (t : Station) → 1 ≤ y → y ≤ n → team y ≡ true → Waits cs question y k t → stage_step t.stage ≤ floor
    -- the premises of demand 3 hold of the longer list too, and no sound site has become unsound
    pub given : Given mac key n list
    pub few : FewFaulty mac key n list
    pub still_sound : (i : ℕ) → Sound mac key n i cs → Sound mac key n i list
    -- all decide the same value
    pub value : ℕ
    pub bit : value < none
    pub each : (y : ℕ) → 1 ≤ y → y ≤ n → team y ≡ true → Decided list question r value y

  -- ---- with jump on, by last bundles alone
  -- words of the step at which the site's station on the question stands: a module codes one statement for a step, so that they are the site's last
  pub record Last (cs : List Call) (question y : ℕ) (ws : List ℕ) : Type 0 where
    pub opening : ℕ
    pub station : Station
    pub presents : Presents mac key n cs y opening station
    pub asked : station.identity.question ≡ question
    pub in_step : step (main_of ws) ≡ stage_step station.stage

  pub data ByLast (question : ℕ) (team : ℕ → Bool) (cs : List Call) : List Call → Type 0 where
    done : ByLast question team cs cs
    give : {cs' : List Call} → ByLast question team cs cs' → (x k : ℕ) (t : Station) (y : ℕ) (ws : List ℕ) (coin : ℕ) → team x ≡ true → team y ≡ true → Presents mac key n cs' x k t
        → t.identity.question ≡ question → Wrote cs' y ws → Last cs' question y ws → coin < 2 → unrefused (answer mac key n cs' (call x (gives k t ws coin room))).number ≡ true
        → ByLast question team cs (call x (gives k t ws coin room) ∷ cs')

  -- site y has decided v on the question, and named it
  pub record HasDecided (cs : List Call) (question v y : ℕ) : Type 0 where
    pub opening : ℕ
    pub station : Station
    pub presents : Presents mac key n cs y opening station
    pub decides : Decides mac key n cs y opening question v
    pub named : station.lasting.decision ≡ v

  pub record CanDecideByLast (cs : List Call) (question : ℕ) (team : ℕ → Bool) : Type 0 where
    pub list : List Call
    pub onward : ByLast question team cs list
    pub given : Given mac key n list
    pub few : FewFaulty mac key n list
    pub still_sound : (i : ℕ) → Sound mac key n i cs → Sound mac key n i list
    pub value : ℕ
    pub bit : value < none
    pub each : (y : ℕ) → 1 ≤ y → y ≤ n → team y ≡ true → HasDecided list question value y

-- ---- never stuck under a code function: for every n from 2 to 31, every key, every list of calls within demand 3's premises, every question, every team of
-- at least a quorum whose stations on it all have jump off, or all on, and every round r that none of the team is past, but for the last: the list can go on so
-- that all of the team decide by the votes of round r + 1
abbrev pub NeverStuck : (List ℕ → List ℕ → List ℕ) → Type 0
NeverStuck mac =
    (key : List ℕ) (n : ℕ) → least_stations ≤ n → n ≤ most_stations → (cs : List Call) → Given mac key n cs → FewFaulty mac key n cs
    → (question r : ℕ) (team : ℕ → Bool) (jump : Bool) → Quorate n team → 1 ≤ r → r + 1 ≤ last_round
    → ((y : ℕ) → 1 ≤ y → y ≤ n → team y ≡ true → Ready mac key n cs question r jump y) → CanDecide mac key n cs question (r + 1) team jump

-- ---- and with jump on, where sites resend nothing but their last bundles, if n + 1 rounds are left: in each round one site of the team ends the step, and the
-- others jump after it
abbrev pub NeverStuckByLast : (List ℕ → List ℕ → List ℕ) → Type 0
NeverStuckByLast mac =
    (key : List ℕ) (n : ℕ) → least_stations ≤ n → n ≤ most_stations → (cs : List Call) → Given mac key n cs → FewFaulty mac key n cs
    → (question r : ℕ) (team : ℕ → Bool) → Quorate n team → 1 ≤ r → r + n + 1 ≤ last_round
    → ((y : ℕ) → 1 ≤ y → y ≤ n → team y ≡ true → Ready mac key n cs question r true y) → CanDecideByLast mac key n cs question team
