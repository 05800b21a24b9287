-- A word of the schedule, and the rounds over a record of the working variables, as the code keeps them.
use Rattle.std.specs.Prelude.{ℕ, List, [], ◌∷◌}
use Rattle.compression.specs.Compression.{plus, σ0, σ1, t1, t2, rounds}
use Rattle.compression.specs.declared.Working.{Working}

-- a word of the schedule, from the words 2, 7, 15 and 16 places before it
abbrev pub scheduled : ℕ → ℕ → ℕ → ℕ → ℕ
scheduled p q r s = plus (plus (plus (σ1 p) q) (σ0 r)) s

-- one round
abbrev pub stepped : Working → ℕ → ℕ → Working
stepped v k w =
    record {
      a = plus (t1 v.e v.f v.g v.h k w) (t2 v.a v.b v.c);
      b = v.a;
      c = v.b;
      d = v.c;
      e = plus v.d (t1 v.e v.f v.g v.h k w);
      f = v.e;
      g = v.f;
      h = v.g;
    }

abbrev pub listed : Working → List ℕ
listed v = v.a ∷ v.b ∷ v.c ∷ v.d ∷ v.e ∷ v.f ∷ v.g ∷ v.h ∷ []

-- a round for each constant and each word
unfoldable pub onward : List ℕ → List ℕ → Working → List ℕ
onward ks ws v = rounds ks ws v.a v.b v.c v.d v.e v.f v.g v.h
