-- Demand 2 of document 01, stated of opening and giving: what is written is valid to every station of the group and coded by the module's own ways, what is
-- returned fits, a refusal changes nothing, a coin that is not tossed has no effect. `demand_2` in Theorem proves it, of HMAC and of any other code of
-- eight words. (Valid exactly by the rules: `Valid` in certificate. Numbers, stations and words by the tables: the promises' own definitions.)
use Rattle.std.specs.Prelude.{ℕ, ◌≤◌, ◌<◌, Bool, true, false, ◌||◌, List, [], ◌∷◌, ◌++◌, ◌≡◌, eqb, length, take}
use Rattle.format.specs.Form.{Form, output_words}
use Rattle.format.specs.Numbers.{kind_p, r_get, code_words, sent, jumped, out_of_range, malformed, other_question, wrong_code, no_certificate}
use Rattle.format.specs.Statement.{Statement, words_at, covered_at, statement_code}
use Rattle.format.specs.Bundle.{main_of}
use Rattle.rules.specs.declared.Which.TheVariants.{Any}
use Rattle.certificate.specs.Check.{check_by}
use Rattle.modules.specs.declared.Module.{Module}
use Rattle.modules.specs.Counter.{module_fits}
use Rattle.sealed.specs.Sealed.{is_toss, coding_plain, coding_coin}
use Rattle.station.specs.declared.Lasting.{Lasting}
use Rattle.station.specs.declared.Station.{Station}
use Rattle.station.specs.Machine.{Outcome, sends, own, began, proposing, with_decision}
use Rattle.station.specs.Words.{Lengths}
use Rattle.station.specs.Fit.{fits}
use Rattle.station.specs.Returns.{unrefused, wrote}
use Rattle.station.specs.Calls.{Returned, returned, opening, giving, no_station}

-- what a call wrote: the lent words up to the word count
abbrev pub message : Returned → List ℕ
message r = take r.count r.lent

abbrev pub one_of : List ℕ → ℕ → Bool
one_of [] k = false
one_of (x ∷ l) k = eqb k x || one_of l k

-- the numbers that say that a bundle is not valid, or that module, station or coin are out of order
abbrev pub invalid : ℕ → Bool
invalid = one_of (out_of_range ∷ malformed ∷ other_question ∷ wrong_code ∷ no_certificate ∷ [])

-- nothing but the number
abbrev pub as_given : ℕ → Module → Station → List ℕ → Returned
as_given k m t out = record { number = k; count = 0; station = t; after = m; lent = out }

-- "P flagged R-GET with the call's coin": a P of round r with the coin as its value and none votes as its certificate, answered with a number
abbrev pub tossing : (Statement → List ℕ) → ℕ → ℕ → Lasting → ℕ → ℕ → ℕ → List Statement → ℕ → Outcome
tossing code n site l question answer r votes coin =
    let s = own code site question kind_p coin r_get r in
    sends answer s votes (began n question l (proposing r r_get) s votes)

-- "All modules of a group share one key and one n."
pub record OfGroup (key : List ℕ) (n site : ℕ) (m : Module) : Type 0 where
  pub same_key : m.key ≡ key
  pub same_n : m.n ≡ n
  pub same_site : m.station ≡ site

module _ (form : Form) (mac : List ℕ → List ℕ → List ℕ) where
  module _ (key : List ℕ) (n : ℕ) where
    -- "stations, each made by opening and changed only by these calls"
    pub data Reached (site : ℕ) : Station → Type 0 where
      by_opening : (m : Module) (question proposal jump : ℕ) (out : List ℕ) → OfGroup key n site m → unrefused (opening form mac m question proposal jump out).number ≡ true
          → Reached site (opening form mac m question proposal jump out).station
      by_giving : {t : Station} → Reached site t → (m : Module) (ws : List ℕ) (coin : ℕ) (out : List ℕ) → OfGroup key n site m
          → unrefused (giving form mac m t ws coin out).number ≡ true → Reached site (giving form mac m t ws coin out).station

    -- words that are "valid to every station of its group": the check answers 0 under the group's key and n, and any open, fitting station of the group on
    -- that question, given them with as many lent words as a call asks for and a coin in range, answers none of 2, 3, 4, 5, 6
    pub record ValidToAll (ws : List ℕ) : Type 0 where
      pub valid : check_by form (mac key) n Any ws ≡ 0
      pub everywhere : (site : ℕ) (m : Module) (t : Station) (coin : ℕ) (out : List ℕ) → OfGroup key n site m → module_fits form m ≡ true
          → fits form m.n m.station t ≡ true → t.closed ≡ false → (main_of form ws).question ≡ t.identity.question → output_words form ≤ length out → coin < 2
          → invalid (giving form mac m t ws coin out).number ≡ false

  -- the module's part: what stands in a written bundle as its main statement is what the module's plain way, or for an R-GET its coin way, codes for
  -- these covered words with any eight behind them, and the module is left as that coding leaves it
  pub record BySeal (m : Module) (coin : ℕ) (r : Returned) : Type 0 where
    pub plain : is_toss (main_of form r.lent) ≡ false → (x : List ℕ) → length x ≡ code_words
        → coding_plain form mac m (covered_at form r.lent 1 ++ x) ≡ record { number = 0; after = r.after; lent = words_at form r.lent 1 }
    pub tossed : is_toss (main_of form r.lent) ≡ true → (x : List ℕ) → length x ≡ code_words
        → coding_coin form mac m (covered_at form r.lent 1 ++ x) coin ≡ record { number = 0; after = r.after; lent = words_at form r.lent 1 }

  -- coin 0 and coin 1: the same answer in every part; or a toss in both calls, answered 20 or, in a jump, 23, which differ in the coin alone
  pub data CoinEffect (m : Module) (t : Station) (ws out : List ℕ) : Type 0 where
    no_effect : giving form mac m t ws 0 out ≡ giving form mac m t ws 1 out → CoinEffect m t ws out
    tossed : (answer r d : ℕ) (votes : List Statement) → one_of (sent ∷ jumped ∷ []) answer ≡ true
        → giving form mac m t ws 0 out ≡ returned form m t out (tossing (statement_code form (mac m.key)) m.n m.station (with_decision d t.lasting) t.identity.question answer r votes 0)
        → giving form mac m t ws 1 out ≡ returned form m t out (tossing (statement_code form (mac m.key)) m.n m.station (with_decision d t.lasting) t.identity.question answer r votes 1)
        → CoinEffect m t ws out

  pub record Demand2 : Type 0 where
    -- "every message that a station writes is valid to every station of its group"; "its word count with it"
    pub opening_written : (key : List ℕ) (n site : ℕ) (m : Module) (question v jump : ℕ) (out : List ℕ) → OfGroup key n site m
        → wrote (opening form mac m question v jump out).number ≡ true → ValidToAll key n (message (opening form mac m question v jump out))
    pub giving_written : (key : List ℕ) (n site : ℕ) (t : Station) → Reached key n site t → (m : Module) (ws : List ℕ) (coin : ℕ) (out : List ℕ)
        → OfGroup key n site m → wrote (giving form mac m t ws coin out).number ≡ true → ValidToAll key n (message (giving form mac m t ws coin out))
    pub opening_counted : (m : Module) (question v jump : ℕ) (out : List ℕ) → length (message (opening form mac m question v jump out)) ≡ (opening form mac m question v jump out).count
    pub giving_counted : (m : Module) (t : Station) (ws : List ℕ) (coin : ℕ) (out : List ℕ) → Lengths form t
        → length (message (giving form mac m t ws coin out)) ≡ (giving form mac m t ws coin out).count
    -- "Where no bundle is written the word count is zero."
    pub opening_silent : (m : Module) (question v jump : ℕ) (out : List ℕ) → wrote (opening form mac m question v jump out).number ≡ false → (opening form mac m question v jump out).count ≡ 0
    pub giving_silent : (m : Module) (t : Station) (ws : List ℕ) (coin : ℕ) (out : List ℕ) → Lengths form t → wrote (giving form mac m t ws coin out).number ≡ false
        → (giving form mac m t ws coin out).count ≡ 0
    -- "It has two ways to code": a station codes through them alone
    pub opening_sealed : (m : Module) (question v jump : ℕ) (out : List ℕ) → wrote (opening form mac m question v jump out).number ≡ true
        → (coin : ℕ) → BySeal m coin (opening form mac m question v jump out)
    pub giving_sealed : (m : Module) (t : Station) (ws : List ℕ) (coin : ℕ) (out : List ℕ) → Lengths form t → wrote (giving form mac m t ws coin out).number ≡ true
        → BySeal m coin (giving form mac m t ws coin out)
    -- "no station that these calls answer without refusing fails it"
    pub opening_fits : (m : Module) (question v jump : ℕ) (out : List ℕ) → unrefused (opening form mac m question v jump out).number ≡ true
        → fits form m.n m.station (opening form mac m question v jump out).station ≡ true
    pub giving_fits : (m : Module) (t : Station) (ws : List ℕ) (coin : ℕ) (out : List ℕ) → Lengths form t
        → unrefused (giving form mac m t ws coin out).number ≡ true → fits form m.n m.station (giving form mac m t ws coin out).station ≡ true
    -- "At a refusal station, module and lent words keep their values", and the word count is zero; a refused opening returns the station that is none
    pub opening_refused : (m : Module) (question v jump : ℕ) (out : List ℕ) → unrefused (opening form mac m question v jump out).number ≡ false
        → opening form mac m question v jump out ≡ as_given (opening form mac m question v jump out).number m (no_station form) out
    pub giving_refused : (m : Module) (t : Station) (ws : List ℕ) (coin : ℕ) (out : List ℕ) → Lengths form t
        → unrefused (giving form mac m t ws coin out).number ≡ false → giving form mac m t ws coin out ≡ as_given (giving form mac m t ws coin out).number m t out
    -- "A coin in range has no effect where none is tossed."
    pub coin_effect : (m : Module) (t : Station) (ws out : List ℕ) → CoinEffect m t ws out
