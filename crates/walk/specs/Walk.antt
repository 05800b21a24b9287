-- The check in one walk: "each certificate statement is taken up once, in order, and at most 16 words of findings are carried to the next" (Job 4 of
-- document 02). The findings are the struct `Findings` of src/lib.rt, of nine words. `walk_finds` in WalkFinds says what they come to; `walk_exact` in
-- certificate/specs/WalkExact.antt that the walk's answer is the check's. Behind a fault of 3, 4 or 5 the code takes a shorter way to that answer: `behind_fault` in
-- glance/specs/Behind.antt.
use Rattle.std.specs.Prelude.{ℕ, zero, suc, ◌+◌, ◌-◌, Bool, false, not, ◌&&◌, ◌||◌, List, [], ◌∷◌, eqb, ltb}
use Rattle.laws.specs.Pick.{pick}
use Rattle.laws.specs.Least.{least}
use Rattle.laws.specs.Refusals.{test, first_failed}
use Rattle.format.specs.Numbers.{kind_init, kind_v, none, d_get, out_of_range, malformed, other_question, wrong_code, no_certificate}
use Rattle.format.specs.declared.Fields.{Fields}
use Rattle.format.specs.Statement.{Statement}
use Rattle.format.specs.Bundle.{count_in}
use Rattle.format.specs.Present.{place_of, size_fits, formed, statement, fields_at, verifies, laid_out, main_of}
use Rattle.rules.specs.declared.Which.{Which}
use Rattle.rules.specs.declared.Group.{Group}
use Rattle.rules.specs.Rules.{which, matches}
use Rattle.rules.specs.Test.{first_group, second_group, has_second, early_toss}
use Rattle.walk.specs.declared.Findings.{Findings}

-- a code is computed only while no fault has been found that is answered before a wrong one
abbrev pub code_fails : (List ℕ → List ℕ) → Bool → Statement → Bool
code_fails code fault s = not fault && not (verifies code s)

-- a fault of 3, 4 or 5, behind which nothing is asked of the rules
abbrev pub faulty : ℕ → Findings → Bool → Statement → Bool
faulty question f bad s = bad || (f.other || not (eqb s.question question)) || f.wrong

-- one statement, held against a group: what was found before it, and what is found in it
unfoldable pub noted : (List ℕ → List ℕ) → Group → ℕ → ℕ → Findings → Bool → Statement → Findings
noted code g question next f bad s =
    record {
      place = next;
      last = s.station;
      malformed = bad;
      other = f.other || not (eqb s.question question);
      wrong = f.wrong || code_fails code (faulty question f bad s) s;
      unbacked = f.unbacked || (not (faulty question f bad s) && not (matches g s && ltb f.last s.station));
      dget = f.dget || (not (faulty question f bad s) && eqb s.flag d_get);
      zero = f.zero || (not (faulty question f bad s) && eqb s.value 0);
      one = f.one || (not (faulty question f bad s) && eqb s.value 1);
    }

-- a turn takes up the statement at the findings' place
abbrev pub turned : (List ℕ → List ℕ) → ℕ → Group → ℕ → List ℕ → Findings → Findings
turned code n g question ws f =
    noted code g question (f.place + 1) f (not (formed n (fields_at ws (place_of f.place)))) (statement ws (place_of f.place))

-- k turns; behind a malformed statement there is none, since nothing is answered before 3
unfoldable pub walked : (List ℕ → List ℕ) → ℕ → Group → ℕ → List ℕ → Findings → ℕ → Findings
walked code n g question ws f zero = f
walked code n g question ws f (suc k) = pick f.malformed f (walked code n g question ws (turned code n g question ws f) k)

-- how many statements of its first group a main statement with these fields asks for, where an INIT asks for none
unfoldable pub first_size : Fields → Group → ℕ
first_size m g = pick (eqb m.kind kind_init) 0 g.size

-- and how many of the second, if there is to be one
unfoldable pub second_size : Fields → Group → Bool → ℕ
second_size m g dget = pick (has_second m.kind m.value m.round.0 dget) g.size 0

-- "both values present", which rules 6 and 7 ask of the first group
abbrev pub both_seen : Fields → Findings → Bool
both_seen m f = not (eqb m.kind kind_v && eqb m.value none) || (f.zero && f.one)

-- between the groups: the first is whole and has both values if they are asked for, and as many statements follow as are asked for of the second. Stations rise anew
unfoldable pub between : Fields → Bool → ℕ → Group → Findings → Findings
between m whole rest g f =
    record {
      place = f.place;
      last = 0;  -- stations rise anew
      malformed = f.malformed;
      other = f.other;
      wrong = f.wrong;
      unbacked = f.unbacked || not (whole && both_seen m f && eqb rest (second_size m g f.dget));
      dget = f.dget;
      zero = f.zero;
      one = f.one;
    }

-- the certificate of `count` statements: the first group, or as much of it as there is, and then the rest
unfoldable pub through : (List ℕ → List ℕ) → ℕ → Fields → ℕ → List ℕ → ℕ → Findings → Findings
through code n m question ws count f =
    let first : Group = first_group n m.kind m.value m.flag m.round.0 in
    let second : Group = second_group n m.value m.round.0 in
    let have : ℕ = least (first_size m first) count in
    let front : Findings = walked code n first question ws f have in
    walked code n second question ws (between m (eqb have (first_size m first)) (count - have) second front) (count - have)

-- what the main statement brings along: whether its fields are in place, its question, its code, and that it is an R-GET of round 1. The certificate begins with
-- statement 1
unfoldable pub started : (List ℕ → List ℕ) → Which → Bool → Statement → Findings
started code asked bad m =
    record {
      place = 1;
      last = 0;
      malformed = bad;
      other = not (which asked m.question);
      wrong = code_fails code (bad || not (which asked m.question)) m;
      unbacked = early_toss m.kind m.flag m.round;
      dget = false;
      zero = false;
      one = false;
    }

-- what is found in words that are laid out as a bundle
unfoldable pub findings : (List ℕ → List ℕ) → ℕ → Which → List ℕ → Findings
findings code n asked ws =
    through code n (fields_at ws (place_of 0)) (main_of ws).question ws (count_in ws)
    (started code asked (not (formed n (fields_at ws (place_of 0)))) (main_of ws))

-- the answer at the end: 3 over the whole bundle, then 4, then 5, then 6
unfoldable pub answer : Findings → ℕ
answer f =
    first_failed
    (test (not f.malformed) malformed
    ∷ test (not f.other) other_question
    ∷ test (not f.wrong) wrong_code
    ∷ test (not f.unbacked) no_certificate
    ∷ [])

-- "The validity check alone tests 2 (n), 3, 4, 5, 6 and answers 0.", by the walk
unfoldable pub walk : (List ℕ → List ℕ) → ℕ → Which → List ℕ → ℕ
walk code n asked ws =
    pick (not (size_fits n)) out_of_range (pick (not (laid_out ws)) malformed (answer (findings code n asked ws)))
