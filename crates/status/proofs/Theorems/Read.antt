-- What a host may conclude from what reading answers, and what must not be read: no decision of another question, none of a station that does not fit.
use Rattle.std.specs.Prelude.{ℕ, ◌-◌, ◌*◌, ◌<◌, ◌≤◌, ◌≢◌, ◌&&◌, get_or, leb, Bool, true, false, ◌≡◌, refl, eqb, Some, None, Ok, Err}
use Rattle.std.proofs.Common.{sym, ap, ◌∙◌, arith, eqb-true, eq-eqb, ne_eqb, leb-true}
use Rattle.laws.specs.Pick.{pick}
use Rattle.laws.specs.Bools.{never, both, second_of, is_false}
use Rattle.format.specs.Numbers.{none, valid, out_of_range}
use Rattle.format.specs.Present.{statement_words}
use Rattle.format.specs.Returns.{number_in}
use Rattle.format.specs.declared.Refusal.TheVariants.{OutOfRange}
use Rattle.modules.specs.declared.Module.{Module}
use Rattle.modules.specs.Present.{module_fits}
use Rattle.station.specs.declared.Station.{Station}
use Rattle.station.proofs.Theorems.NoStation.{no_station_fits}
use Rattle.station.specs.Fit as Fit
use Rattle.station.specs.Machine.{kept_for_value}
use Rattle.station.specs.Present.{no_station, held_by, stage_fits, group_fits, held_fits, rest_fits, fits}
use Rattle.status.specs.declared.Status.{Status}
use Rattle.status.specs.Status.{decision_on, if_decided, decision_number, decision_in, readable, told, status}

-- the station is on the question asked for, and the decision named is its own
pub record Named (t : Station) (question v : ℕ) : Type 0 where
  pub asked : t.identity.question ≡ question
  pub own : t.lasting.decision ≡ v

-- a decision on a question is the station's, and the station is on that question
pub named_on : (t : Station) (question : ℕ) → decision_on question t < none → Named t question (decision_on question t)
unfolding decision_on pick
named_on t question h = go (eqb t.identity.question question) refl h
  where
    go : (b : Bool) → eqb t.identity.question question ≡ b → pick b t.lasting.decision none < none → Named t question (pick b t.lasting.decision none)
    go true e h = record { asked = eqb-true _ _ e; own = refl }
    go false e h = absurd (omega arith)

-- of another question none is told
pub none_of_another : (t : Station) (question : ℕ) → (t.identity.question ≡ question → ⊥) → decision_on question t ≡ none
unfolding decision_on pick
none_of_another t question other = rw (ne_eqb t.identity.question question other)

-- the decision that is told has the number that stood for it, also where there is none
pub same_number : (d : ℕ) → decision_number (if_decided d) ≡ d
unfolding if_decided pick
same_number d = go (eqb d none) refl
  where
    go : (b : Bool) → eqb d none ≡ b → decision_number (pick b None (Some d)) ≡ d
    go true e = sym (eqb-true d none e)
    go false e = refl

module _ (m : Module) (t : Station) (question : ℕ) where
  -- a station that can be read: 0, and all that is told is the station's
  pub read_0 : readable m t ≡ true → status m t question ≡ Ok (told t question)
  unfolding status pick
  read_0 e = rw e

  -- any other: 2, and nothing is told
  pub read_2 : readable m t ≡ false → status m t question ≡ Err OutOfRange
  unfolding status pick
  read_2 e = rw e

  pub data Reads : Type 0 where
    reads : readable m t ≡ true → status m t question ≡ Ok (told t question) → Reads
    refuses : readable m t ≡ false → status m t question ≡ Err OutOfRange → Reads

  -- one of the two, always
  pub either_way : Reads
  either_way = go (readable m t) refl
    where
      go : (b : Bool) → readable m t ≡ b → Reads
      go true e = reads e (read_0 e)
      go false e = refuses e (read_2 e)

  -- the returned number: 0, or 2 where the station cannot be read
  pub number_is : number_in (status m t question) ≡ pick (readable m t) valid out_of_range
  unfolding status pick
  number_is = go (readable m t)
    where
      go : (b : Bool) → number_in {A = Status} (pick b (Ok (told t question)) (Err OutOfRange)) ≡ pick b valid out_of_range
      go true = refl
      go false = refl

  -- at 0 the decision told is the one on the question asked for
  pub decision_at_0 : readable m t ≡ true → decision_in (status m t question) ≡ decision_on question t
  decision_at_0 e = ap decision_in (read_0 e) ∙ same_number (decision_on question t)

  -- at 2 the decision is none
  pub none_at_2 : number_in (status m t question) ≡ out_of_range → decision_in (status m t question) ≡ none
  none_at_2 h = go either_way
    where
      go : Reads → decision_in (status m t question) ≡ none
      go (reads e r) = absurd (omega (arith, h, ap (number_in {A = Status}) r))
      go (refuses e r) = ap decision_in r

  -- a decision that is named is that of a station which fits the module and is on the question asked for
  pub named : decision_in (status m t question) < none
      → (number_in (status m t question) ≡ 0) × (readable m t ≡ true) × Named t question (decision_in (status m t question))
  named h = go either_way
    where
      go : Reads → (number_in (status m t question) ≡ 0) × (readable m t ≡ true) × Named t question (decision_in (status m t question))
      go (reads e r) =
          let p : decision_in (status m t question) ≡ decision_on question t = decision_at_0 e in
          (ap (number_in {A = Status}) r, e, rw p (named_on t question (rw (← p) h)))
      go (refuses e r) = absurd (omega (arith, h, ap decision_in r))

-- the station that is none can be read by no module
pub no_station_unread : (m : Module) (question : ℕ) → status m no_station question ≡ Err OutOfRange
no_station_unread m question =
    read_2 m no_station question
    (is_false (readable m no_station) (λ h. let a = both (module_fits m) _ h in never _ (no_station_fits m a.0) a.1))

-- a decision that is told is that number, and not none's
told_is : (d v : ℕ) → if_decided d ≡ Some v → (d ≡ v) × (d ≡ none → ⊥)
unfolding if_decided pick
told_is d v h = go (eqb d none) refl h
  where
    go : (b : Bool) → eqb d none ≡ b → pick b None (Some d) ≡ Some v → (d ≡ v) × (d ≡ none → ⊥)
    go true e h = absurd cc
    go false e h = (cc, λ k. never (eqb d none) e (eq-eqb d none k))

-- an open station that fits has a decision of 0 or 1, or none
decision_low : (n site : ℕ) (t : Station) → fits n site t ≡ true → t.closed ≡ false → t.lasting.decision ≤ none
unfolding Fit.fits
decision_low n site t fit opens =
    let a = both (eqb t.identity.n n && eqb t.identity.station site) _ fit in
    let b = both (held_fits n site t) (rest_fits n site t) (second_of t.closed _ opens a.1) in
    let c = both (stage_fits t.stage (get_or t.held.slots ((site - 1) * statement_words) 0) && leb t.lasting.decision none && group_fits n t.identity.question (kept_for_value n t.stage (held_by t)) t.groups.value) _ b.1 in
    let d = both (stage_fits t.stage (get_or t.held.slots ((site - 1) * statement_words) 0) && leb t.lasting.decision none) _ c.0 in
    let e = both (stage_fits t.stage (get_or t.held.slots ((site - 1) * statement_words) 0)) _ d.0 in
    leb-true _ _ e.1

-- so a decision that is told of an open station is 0 or 1 (that of a closed one no rule of fitting asks)
pub told_0_or_1 : (m : Module) (t : Station) (question d : ℕ) → readable m t ≡ true → t.closed ≡ false → (told t question).decision ≡ Some d → d < none
unfolding decision_on pick
told_0_or_1 m t question d can opens h =
    let low : t.lasting.decision ≤ none = decision_low m.n m.station t (both (module_fits m) _ can).1 opens in
    go (eqb t.identity.question question) low h
  where
    go : (b : Bool) → t.lasting.decision ≤ none → if_decided (pick b t.lasting.decision none) ≡ Some d → d < none
    go true low h = let p = told_is t.lasting.decision d h in let q : t.lasting.decision ≢ none = p.1 in let r : t.lasting.decision ≡ d = p.0 in omega arith
    go false low h = absurd ((told_is none d h).1 refl)
