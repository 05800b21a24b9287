-- What the classes of returned numbers have to do with each other.
use Rattle.std.specs.Prelude.{ℕ, Bool, true, false, ◌&&◌, ◌||◌, List, [], ◌∷◌, ◌≡◌, refl, eqb}
use Rattle.laws.specs.Pick.{pick}
use Rattle.format.specs.Numbers.{sent, sent_decided}
use Rattle.station.specs.Returns.{Class, classes, listed, unrefused, wrote, took_given}

-- what is written is not refused
pub wrote_unrefused : (k : ℕ) → wrote k ≡ true → unrefused k ≡ true
wrote_unrefused k u = go classes u
  where
    step_by : (a b c d : Bool) → (c ≡ true → d ≡ true) → ((a && b) || c) ≡ true → ((a && true) || d) ≡ true
    step_by true b c d f e = refl
    step_by false b c d f e = f e

    go : (l : List Class) → listed (λ r. r.writes) l k ≡ true → listed (λ r. true) l k ≡ true
    go [] e = e
    go (r ∷ l) e = step_by (eqb k r.number) r.writes (listed (λ r. r.writes) l k) (listed (λ r. true) l k) (go l) e

-- what is sent was written, with a first decision or without
pub sent_wrote : (b : Bool) → wrote (pick b sent sent_decided) ≡ true
unfolding pick
sent_wrote true = refl
sent_wrote false = refl

-- and with it the given statement was taken
pub sent_took_given : (b : Bool) → took_given (pick b sent sent_decided) ≡ true
unfolding pick
sent_took_given true = refl
sent_took_given false = refl
