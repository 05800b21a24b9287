-- Demand 3 of document 01, stated: the list of calls, the premises, the claim. Its steps are the definitions that the functions' promises cite
-- (crates sealed and station). Lists of calls have the newest call first. `mac` is the code function; `demand_3` in Theorem names HMAC.
use Rattle.std.specs.Prelude.{ℕ, suc, ◌+◌, ◌≤◌, ◌<◌, Bool, true, false, ◌&&◌, ◌||◌, List, [], ◌∷◌, ◌++◌, ◌≡◌, eqb, length, get_or}
use Rattle.laws.specs.Pick.{pick}
use Rattle.laws.specs.Count.{count}
use Rattle.format.specs.Form.{Form, most_stations, covered_words, statement_words, place_of}
use Rattle.format.specs.Numbers.{kind_init, none, conflicting, least_stations}
use Rattle.format.specs.Group.{quorum, backing, most_faulty}
use Rattle.format.specs.Words.{kind_of, value_of, station_of}
use Rattle.format.specs.Statement.{Statement, covered_at, code_at, same_words}
use Rattle.format.specs.Bundle.{main_of}
use Rattle.modules.specs.declared.Module.{Module}
use Rattle.modules.specs.Counter.{making}
use Rattle.sealed.specs.Sealed.{Coded, coding_plain, coding_coin}
use Rattle.station.specs.declared.Station.{Station}
use Rattle.station.specs.Calls.{Returned, opening, giving, no_station}
use Rattle.station.specs.Words.{Lengths}
use Rattle.station.specs.Returns.{unrefused, wrote, took_given}
use Rattle.agreement.specs.Maths.Votes.{votes}

-- ---- the list
-- what a call does: it "brings any settings, words and lent output"; a giving any station too, and which of the site's openings it means
pub data Action : Type 0 where
  opens : (question proposal jump : ℕ) (out : List ℕ) → Action
  gives : (opening : ℕ) (t : Station) (ws : List ℕ) (coin : ℕ) (out : List ℕ) → Action
  codes : (ws : List ℕ) → Action
  tosses : (ws : List ℕ) (coin : ℕ) → Action

-- "Each call names its site"
pub data Call : Type 0 where
  call : (site : ℕ) (action : Action) → Call

abbrev pub site : Call → ℕ
site (call i a) = i

abbrev pub action : Call → Action
action (call i a) = a

-- what an action is to the stations of its site: it starts one on a question, with a setting of jump, it goes on with one (that of an opening, as it is brought, which words are given
-- to), or it codes a statement apart from them. All that follows looks at actions by this view.
pub data View : Type 0 where
  starting : (question jump : ℕ) → View
  going_on : (opening : ℕ) (t : Station) (ws : List ℕ) → View
  apart : View

abbrev pub view : Action → View
view (opens question proposal jump out) = starting question jump
view (gives opening t ws coin out) = going_on opening t ws
view (codes ws) = apart
view (tosses ws coin) = apart

-- words that were coded, with the site whose module coded them
pub record Entry : Type 0 where
  pub at : ℕ
  pub words : List ℕ

-- a station's history: as the last call on it returned it, and the statements that it took, its own included
pub record Lineage : Type 0 where
  pub present : Station
  pub took : List Statement

pub data Found : Type 0 where
  nothing : Found
  found : Lineage → Found

-- by the view of a call, where `now` says that it is of the site and not refused: how many openings there are, where so many were before
abbrev pub counted : View → Bool → ℕ → ℕ
counted (starting question jump) now openings = pick now (suc openings) openings
counted (going_on opening t ws) now openings = openings
counted apart now openings = openings

abbrev pub member : ℕ → List ℕ → Bool
member i [] = false
member i (j ∷ l) = eqb i j || member i l

-- "A code came from a site's module if an earlier call of the list, on the module of the station that the covered words name, coded those same words"
abbrev pub logged : List Entry → ℕ → List ℕ → Bool
logged [] i ws = false
logged (e ∷ l) i ws = (eqb e.at i && same_words e.words ws) || logged l i ws

-- a call that opens a station on the question brings jump off
abbrev pub BringsOff : ℕ → View → Type 0
BringsOff question (starting q jump) = q ≡ question → jump ≡ 0
BringsOff question (going_on k t ws) = Unit
BringsOff question apart = Unit

module _ (form : Form) where
  -- all that a coding returns, as the other calls do
  abbrev pub as_returned : Coded → Returned
  as_returned c = record { number = c.number; count = 0; station = no_station form; after = c.after; lent = c.lent }

  -- the entry of a statement: the words that its code covers, as many as the form says
  abbrev pub is_statement : Entry → Bool
  is_statement e = eqb (length e.words) (covered_words form)

  -- the main statement of the bundle that a call wrote, if it did, and that of the bundle that it was given, if it took it
  abbrev pub written_main : Returned → List Statement
  written_main r = pick (wrote r.number) (main_of form r.lent ∷ []) []

  abbrev pub given_main : Returned → List ℕ → List Statement
  given_main r ws = pick (took_given r.number) (main_of form ws ∷ []) []

  -- an opening that is not refused starts a station's history; a giving goes on with it
  abbrev pub started : Returned → Found
  started r = found (record { present = r.station; took = written_main r })

  abbrev pub gave : Returned → List ℕ → Found → Found
  gave r ws nothing = nothing
  gave r ws (found l) = found (record { present = r.station; took = written_main r ++ (given_main r ws ++ l.took) })

  -- by the view likewise: the history of the site's station k, where so many openings were before
  abbrev pub went : View → Bool → Returned → ℕ → ℕ → Found → Found
  went (starting question jump) now r openings k l = pick (now && eqb openings k) (started r) l
  went (going_on opening t ws) now r openings k l = pick (now && eqb opening k) (gave r ws l) l
  went apart now r openings k l = l

  -- "the site's module coded an INIT with that value on that question"
  abbrev pub proposed : List Entry → ℕ → ℕ → ℕ → Bool
  proposed [] question v i = false
  proposed (e ∷ l) question v i =
      (is_statement e && eqb e.at i && eqb (kind_of (get_or e.words 0 0)) kind_init && eqb (value_of (get_or e.words 0 0)) v && eqb (get_or e.words 1 0) question)
      || proposed l question v i

  -- what was coded: an opening answered 20, a giving answered 20, 21 or 23 (the covered words of its main statement), a coding answered 0
  abbrev pub bundle_coded : ℕ → Returned → List Entry
  bundle_coded i r = pick (wrote r.number) (record { at = i; words = covered_at form r.lent 1 } ∷ []) []

  abbrev pub statement_coded : ℕ → Returned → List Entry
  statement_coded i r = pick (eqb r.number 0) (record { at = i; words = covered_at form r.lent 0 } ∷ []) []

  abbrev pub coded_in : ℕ → View → Returned → List Entry
  coded_in i (starting question jump) r = bundle_coded i r
  coded_in i (going_on k t ws) r = bundle_coded i r
  coded_in i apart r = statement_coded i r

  module _ (mac : List ℕ → List ℕ → List ℕ) (key : List ℕ) (n : ℕ) where
    unfoldable pub act : Module → Action → Returned
    act m (opens question proposal jump out) = opening form mac m question proposal jump out
    act m (gives k t ws coin out) = giving form mac m t ws coin out
    act m (codes ws) = as_returned (coding_plain form mac m ws)
    act m (tosses ws coin) = as_returned (coding_coin form mac m ws coin)

    -- "The list starts, for every n, with the n modules of a group, each made once and with nothing coded"; "Each call gets its site's module as the
    -- last call left it"
    unfoldable pub modules : List Call → ℕ → Module
    modules [] i = (making form key n i).made
    modules (c ∷ cs) i = pick (eqb (site c) i) (act (modules cs (site c)) (action c)).after (modules cs i)

    -- what a call returns behind a list
    abbrev pub answer : List Call → Call → Returned
    answer cs c = act (modules cs (site c)) (action c)

    unfoldable pub log : List Call → List Entry
    log [] = []
    log (c ∷ cs) = coded_in (site c) (view (action c)) (answer cs c) ++ log cs

    -- ---- a site's stations, one for each opening there that is not refused, counted from 0
    abbrev pub unrefused_at : List Call → Call → ℕ → Bool
    unrefused_at cs c i = eqb (site c) i && unrefused (answer cs c).number

    unfoldable pub openings : List Call → ℕ → ℕ
    openings [] i = 0
    openings (c ∷ cs) i = counted (view (action c)) (unrefused_at cs c i) (openings cs i)

    unfoldable pub lineage : List Call → ℕ → ℕ → Found
    lineage [] i k = nothing
    lineage (c ∷ cs) i k = went (view (action c)) (unrefused_at cs c i) (answer cs c) (openings cs i) k (lineage cs i k)

    pub record Presents (cs : List Call) (i k : ℕ) (t : Station) : Type 0 where
      pub line : Lineage
      pub is : lineage cs i k ≡ found line
      pub now : line.present ≡ t

    -- "a site is sound if no coding call on its module is answered 0, and every bundle given there and not refused goes to a station that an opening
    -- there, not refused, returned, as the last call on that station returned it"
    abbrev pub Behaves : List Call → ℕ → View → ℕ → Type 0
    Behaves cs i (starting question jump) number = Unit
    Behaves cs i (going_on k t ws) number = unrefused number ≡ true → Presents cs i k t
    Behaves cs i apart number = number ≡ 0 → ⊥

    unfoldable pub Sound : ℕ → List Call → Type 0
    Sound i [] = Unit
    Sound i (c ∷ cs) = (site c ≡ i → Behaves cs i (view (action c)) (answer cs c).number) × Sound i cs

    -- ---- the setting jump
    -- "every sound site has jump off": each opening of site i on the question that was not refused brought 0
    unfoldable pub JumpOff : ℕ → ℕ → List Call → Type 0
    JumpOff i question [] = Unit
    JumpOff i question (c ∷ cs) = (site c ≡ i → unrefused (answer cs c).number ≡ true → BringsOff question (view (action c))) × JumpOff i question cs

    -- "questions on which every sound site has jump off" (Job 3 of document 02), said over the list's openings: closing clears a station's setting
    abbrev pub AllOff : List Call → ℕ → Type 0
    AllOff cs question = (i : ℕ) → 1 ≤ i → i ≤ n → Sound i cs → JumpOff i question cs

    -- ---- the premises
    -- "faulty sites are at most half of one less than all, rounded down": so many sites that each other site is sound
    pub record FewFaulty (cs : List Call) : Type 0 where
      pub faulty : List ℕ
      pub few : length faulty ≤ most_faulty n
      pub others : (i : ℕ) → 1 ≤ i → i ≤ n → member i faulty ≡ false → Sound i cs

    -- "every code that verifies in words given to any call came from that site's module": each whole statement's words behind the head
    abbrev pub CodesCame : List Entry → List ℕ → Type 0
    CodesCame l ws =
        (k : ℕ) → place_of form k + statement_words form ≤ length ws → same_words (code_at form ws (place_of form k)) (mac key (covered_at form ws (place_of form k))) ≡ true
        → logged l (station_of (get_or ws (place_of form k) 0)) (covered_at form ws (place_of form k)) ≡ true

    -- what a giving brings: a station is a value of its type, with the arrays' declared lengths; the codes in its words came from modules
    abbrev pub Brings : List Call → View → Type 0
    Brings cs (starting question jump) = Unit
    Brings cs (going_on k t ws) = Lengths form t × CodesCame (log cs) ws
    Brings cs apart = Unit

    -- each call names a site of the group
    unfoldable pub Given : List Call → Type 0
    Given [] = Unit
    Given (c ∷ cs) = ((1 ≤ site c) × (site c ≤ n)) × (Brings cs (view (action c)) × Given cs)

    -- ---- the claims
    -- station k of site i decides v on a question
    pub record Decides (cs : List Call) (i k question v : ℕ) : Type 0 where
      pub line : Lineage
      pub is : lineage cs i k ≡ found line
      pub bit : v < none
      pub round : ℕ
      pub enough : quorum n ≤ count (votes line.took question round v) n

    pub record Claim (cs : List Call) : Type 1 where
      -- "no two sound sites have decided differently on one question"
      pub agreement : (i j k l question v w : ℕ) → Sound i cs → Sound j cs → Decides cs i k question v → Decides cs j l question w → v ≡ w
      -- "no sound site has decided a value that too few sites proposed"; "The backing holds only for questions on which every sound site has jump off"
      pub backed : (i k question v : ℕ) → Sound i cs → AllOff cs question → Decides cs i k question v → backing n v ≤ count (proposed (log cs) question v) n
      -- "From then on that station names v as its decision, before that none"
      pub names : (i k v : ℕ) (line : Lineage) → Sound i cs → lineage cs i k ≡ found line → v < none → line.present.lasting.decision ≡ v
          → Decides cs i k line.present.identity.question v
      pub named : (i k question v : ℕ) (line : Lineage) → Sound i cs → lineage cs i k ≡ found line → Decides cs i k question v → line.present.lasting.decision ≡ v
      pub unnamed : (i k : ℕ) (line : Lineage) → Sound i cs → lineage cs i k ≡ found line
          → ((v : ℕ) → Decides cs i k line.present.identity.question v → ⊥) → line.present.lasting.decision ≡ none
      -- "demand 3 holds of the named decision too"
      pub named_agreement : (i j k l : ℕ) (a b : Lineage) → Sound i cs → Sound j cs → lineage cs i k ≡ found a → lineage cs j l ≡ found b
          → a.present.identity.question ≡ b.present.identity.question → a.present.lasting.decision < none → b.present.lasting.decision < none
          → a.present.lasting.decision ≡ b.present.lasting.decision
      pub named_backed : (i k : ℕ) (a : Lineage) → Sound i cs → lineage cs i k ≡ found a → AllOff cs a.present.identity.question → a.present.lasting.decision < none
          → backing n a.present.lasting.decision ≤ count (proposed (log cs) a.present.identity.question a.present.lasting.decision) n
      -- "Under demand 3's premises 10 never occurs at a sound site's station"
      pub no_conflict : (i k : ℕ) (t : Station) (ws : List ℕ) (coin : ℕ) (out : List ℕ) → Sound i cs → Presents cs i k t → CodesCame (log cs) ws
          → (answer cs (call i (gives k t ws coin out))).number ≡ conflicting → ⊥

  -- ---- demand 3 under a code function: the claim holds for every n from 2 to the form's largest, every key and every list of calls within the premises
  abbrev pub Demand3 : (List ℕ → List ℕ → List ℕ) → Type 1
  Demand3 mac = (key : List ℕ) (n : ℕ) → least_stations ≤ n → n ≤ most_stations form → (cs : List Call) → Given mac key n cs → FewFaulty mac key n cs → Claim mac key n cs
