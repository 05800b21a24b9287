-- A station's words: read as a state, and written from one. A bundle's words, written.
use Rattle.std.specs.Prelude.{ℕ, zero, suc, ◌+◌, ◌-◌, ◌*◌, ◌^◌, Bool, List, [], ◌∷◌, ◌++◌, ◌≡◌, eqb, length, replicate}
use Rattle.laws.specs.Pick.{pick}
use Rattle.laws.specs.Sets.{bit}
use Rattle.format.specs.Form.{Form, most_stations, statement_words}
use Rattle.format.specs.Group.{quorum}
use Rattle.format.specs.Statement.{Statement, statement, statements, written}
use Rattle.station.specs.declared.Stage.{Stage}
use Rattle.station.specs.declared.Identity.{Identity}
use Rattle.station.specs.declared.Lasting.{Lasting}
use Rattle.station.specs.declared.Station.{Station}
use Rattle.station.specs.Machine.{State, kept_for_value, kept_for_none}
use Rattle.format.specs.Bundle.{all_written}

-- "a set of stations heard, one bit for each": station s has bit s − 1
unfoldable pub set_of : List Statement → ℕ
set_of [] = 0
set_of (s ∷ h) = set_of h + 2 ^ (s.station - 1)

module _ (form : Form) where
  -- for each bit there is a slot, as long as a statement: the statements of the k slots from slot i on whose bit is set, by rising station
  unfoldable pub held_in : ℕ → List ℕ → ℕ → ℕ → List Statement
  held_in set slots i zero = []
  held_in set slots i (suc k) =
      pick (bit set i) (statement form slots (i * statement_words form) ∷ held_in set slots (suc i) k) (held_in set slots (suc i) k)

  abbrev pub sites : ℕ
  sites = most_stations form

  -- the words of the slots, and of a kept group: as many statements as the largest quorum
  abbrev pub slots_words : ℕ
  slots_words = sites * statement_words form

  abbrev pub kept_words : ℕ
  kept_words = quorum sites * statement_words form

  -- ---- reading
  -- the declared lengths of a station's arrays, which every value of its type has
  pub record Lengths (t : Station) : Type 0 where
    pub slots : length t.held.slots ≡ slots_words
    pub for_value : length t.groups.value ≡ kept_words
    pub for_none : length t.groups.none ≡ kept_words

  -- a station that holds nothing
  abbrev pub empty_station : Identity → Stage → Bool → Lasting → Station
  empty_station identity stage closed l =
      record {
        identity = identity;
        stage = stage;
        closed = closed;
        lasting = l;
        held = record { heard = 0; slots = replicate slots_words 0 };
        groups = record { value = replicate kept_words 0; none = replicate kept_words 0 };
      }

  abbrev pub held_by : Station → List Statement
  held_by t = held_in t.held.heard t.held.slots 0 sites

  unfoldable pub state_of : Station → State
  state_of t =
      record {
        question = t.identity.question;
        stage = t.stage;
        closed = t.closed;
        lasting = t.lasting;
        held = held_by t;
        for_value = statements form t.groups.value 0 (kept_for_value t.identity.n t.stage (held_by t)).size;
        for_none = statements form t.groups.none 0 (kept_for_none t.identity.n t.stage (held_by t)).size;
      }

  -- ---- writing
  -- the words of station i's statement, or as many zeros
  unfoldable pub slot_of : List Statement → ℕ → List ℕ
  slot_of [] i = replicate (statement_words form) 0
  slot_of (s ∷ h) i = pick (eqb s.station i) (written form s) (slot_of h i)

  -- the slots of k stations from station i on
  unfoldable pub slots_of : List Statement → ℕ → ℕ → List ℕ
  slots_of h i zero = []
  slots_of h i (suc k) = slot_of h i ++ slots_of h (suc i) k

  abbrev pub group_words : List Statement → List ℕ
  group_words c = all_written form c ++ replicate (kept_words - length c * statement_words form) 0  -- a group's words, with zeros behind

  unfoldable pub as_station : ℕ → ℕ → State → Station
  as_station n site t =
      record {
        identity = record { n = n; station = site; question = t.question };
        stage = t.stage;
        closed = t.closed;
        lasting = t.lasting;
        held = record { heard = set_of t.held; slots = slots_of t.held 1 sites };
        groups = record { value = group_words t.for_value; none = group_words t.for_none };
      }
