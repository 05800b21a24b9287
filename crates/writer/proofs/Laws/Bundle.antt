-- What is written is the bundle of a main statement and its certificate, where the slots hold the first group and the kept words the second.
use Rattle.std.specs.Prelude.{ℕ, zero, suc, ◌+◌, ◌-◌, ◌*◌, ◌^◌, ◌≤◌, ◌<◌, Bool, true, false, ◌&&◌, ◌≡◌, refl, eqb, get_or, take, drop, replicate}
use mathlib.Core.List.{List, [], ◌∷◌, ◌++◌, append_assoc, append-nil}
use Rattle.std.proofs.Math.Path.{sym, ap}
use Rattle.std.proofs.Common.{◌∙◌, subst, arith, length-append, take-suc, take_at, get_or-drop, eqb-true, ne_eqb, lt-ltb, le-leb}
use Rattle.std.specs.Int.Count.{ones}
use Rattle.std.proofs.Math.Dec.{ltb, leb}
use Rattle.std.proofs.Math.ListN.{length}
use Rattle.std.proofs.lemmas.Bool.{eqb-false}
use Rattle.laws.specs.Pick.{pick, here}
use Rattle.laws.specs.Bools.{join}
use Rattle.laws.specs.All.{All, all_map, all_two}
use Rattle.laws.specs.Sets.{bit}
use Rattle.laws.specs.Over.{over}
use Rattle.format.specs.Form.{present_form}
use Rattle.format.specs.Group.{quorum}
use Rattle.format.specs.Numbers.{code_words}
use Rattle.format.specs.Statement.{Statement}
use Rattle.format.specs.Lists.{some, those}
use Rattle.format.proofs.Laws.Shape.{formed_out}
use Rattle.rules.specs.Rules.{Rising}
use Rattle.station.specs.Machine.{held_of}
use Rattle.station.specs.Words.{set_of}
use Rattle.station.proofs.Laws.ReadBack.{length_all}
use Rattle.format.proofs.Laws.ReadBack.{Proper, length_written}
use Rattle.format.specs.Present.{bundle_words, most_statements, most_stations, output_words, statement_words, word_0, written, all_written, bundle_of}
use Rattle.station.proofs.Laws.Slots.{rising_above, below_not_held, bit_set, ones_set, set_low, slot_at, slot_held}
use Rattle.station.proofs.Laws.Pieces.{those_all, those_rising, take_rising}
use Rattle.station.proofs.Laws.Keep.{all_take}
use Rattle.station.specs.Present.{slot_of, slots_of, group_words, sites}
use Rattle.writer.specs.Written.{segment, held_words, main_words, words_of, writable, lent_after, count_after}

-- ---- a segment of a list
part_take : (n at : ℕ) (l : List ℕ) → n ≤ length (drop at l) → segment n at l ≡ take n (drop at l)
unfolding segment
part_take zero at l h = refl
part_take (suc n) at l h =
    let w : get_or (drop at l) n 0 ≡ get_or l (at + n) 0 = get_or-drop at l n 0 in
    let ih : segment n at l ≡ take n (drop at l) = part_take n at l (omega arith) in
    ap (λ (x : List ℕ). x ++ (get_or l (at + n) 0 ∷ [])) ih ∙ ap (λ (x : ℕ). take n (drop at l) ++ (x ∷ [])) (sym w) ∙ sym (take-suc (drop at l) n 0 (omega arith))

-- the words that stand at a place
pub part_is : (n at : ℕ) (l p rest : List ℕ) → length p ≡ n → drop at l ≡ p ++ rest → segment n at l ≡ p
part_is n at l p rest e d =
    let room : n ≤ length (drop at l) = rw (d, length-append p rest) (omega arith) in
    part_take n at l room ∙ ap (take n) d ∙ take_at p rest n e

-- ---- the held statements
-- the slot of a statement's station has its words
abbrev pub InSlot : List ℕ → Statement → Type 0
InSlot slots s = segment statement_words ((s.station - 1) * statement_words) slots ≡ written s

gathered : (h : ℕ) (slots : List ℕ) (k i : ℕ) (c : List Statement) → Rising i c → All (λ s. s.station ≤ i + k) c
    → ((j : ℕ) → i ≤ j → bit h j ≡ held_of (suc j) c) → All (InSlot slots) c → held_words h slots i k ≡ all_written c
unfolding held_words pick some Rattle.format.specs.Bundle.all_written
gathered h slots zero i [] r a b w = refl
gathered h slots zero i (s ∷ c) r a b w = absurd (omega (arith, r.0, a.0))
gathered h slots (suc k) i [] r a b w = rw (b i (omega arith)) (gathered h slots k (suc i) [] tt tt (λ j e. b j (omega arith)) tt)
gathered h slots (suc k) i (s ∷ c) r a b w = go (eqb s.station (suc i)) refl (gathered h slots k (suc i))
  where
    Rest : Type 0
    Rest = (l : List Statement) → Rising (suc i) l → All (λ s. s.station ≤ suc i + k) l
        → ((j : ℕ) → suc i ≤ j → bit h j ≡ held_of (suc j) l) → All (InSlot slots) l → held_words h slots (suc i) k ≡ all_written l

    go : (d : Bool) → eqb s.station (suc i) ≡ d → Rest
        → pick (bit h i) (segment statement_words (i * statement_words) slots ++ held_words h slots (suc i) k) (held_words h slots (suc i) k) ≡ written s ++ all_written c
    go true e ih =
        let x : s.station ≡ suc i = eqb-true _ _ e in
        let y : bit h i ≡ true = b i (omega arith) ∙ rw e in
        let p : (s.station - 1) * 10 ≡ i * 10 = omega arith in
        let one : segment 10 (i * 10) slots ≡ written s = ap (λ (at : ℕ). segment 10 at slots) (sym p) ∙ w.0 in
        let more : held_words h slots (suc i) k ≡ all_written c
        = ih c (subst (λ (z : ℕ). Rising z c) x r.1) (all_map (λ t z. omega arith) c a.1)
        (λ j z. b j (omega arith) ∙ rw (ne_eqb s.station (suc j) (λ q. omega arith))) w.1 in
        rw y (λ j. one j ++ more j)
    go false e ih =
        let x : suc i < s.station = omega (arith, r.0, eqb-false s.station (suc i) e) in
        let y : bit h i ≡ false = b i (omega arith) ∙ below_not_held (suc i) (suc i) (s ∷ c) (x, r.1) (omega arith) in
        rw y (ih (s ∷ c) (x, r.1) (all_map (λ t z. omega arith) (s ∷ c) a) (λ j z. b j (omega arith)) w)

-- the set names the stations of some statements, whose slots hold them
pub held_written : (c : List Statement) (slots : List ℕ) → Rising 0 c → All (λ s. s.station ≤ most_stations) c → All (InSlot slots) c
    → held_words (set_of c) slots 0 sites ≡ all_written c
held_written c slots r a w = gathered (set_of c) slots sites 0 c r (all_map (λ t z. omega arith) c a) (λ j e. bit_set c r j) w

-- the slots of the statements held have the words of each
pub in_slots : (n : ℕ) (h : List Statement) → n ≤ most_stations → Rising 0 h → All (Proper present_form n) h → All (InSlot (slots_of h 1 sites)) h
in_slots n h top r a =
    all_map at h
    (all_two (λ s. 0 < s.station) (λ s. Proper present_form n s × (slot_of h s.station ≡ written s)) h (rising_above 0 h r)
    (all_two (Proper present_form n) (λ s. slot_of h s.station ≡ written s) h a (slot_held present_form 0 h r)))
  where
    at : (s : Statement) → (0 < s.station) × (Proper present_form n s × (slot_of h s.station ≡ written s)) → InSlot (slots_of h 1 sites) s
    at s p =
        let e : suc (s.station - 1) ≡ s.station = omega (arith, p.0) in
        let low : s.station - 1 < sites = omega (arith, (formed_out present_form n s p.1.0.formed).high) in
        let d : drop ((s.station - 1) * 10) (slots_of h 1 sites) ≡ written s ++ slots_of h (suc (suc (s.station - 1))) (sites - suc (s.station - 1))
        = slot_at present_form n h (s.station - 1) a low ∙ ap (λ (l : List ℕ). l ++ slots_of h (suc (suc (s.station - 1))) (sites - suc (s.station - 1))) (ap (slot_of h) e ∙ p.1.1) in
        part_is 10 ((s.station - 1) * 10) (slots_of h 1 sites) (written s) (slots_of h (suc (suc (s.station - 1))) (sites - suc (s.station - 1)))
        (length_written present_form n s p.1.0) d

-- ---- a kept group
pub group_written : (n : ℕ) (c : List Statement) (group rest : List ℕ) → All (Proper present_form n) c → group ≡ all_written c ++ rest → segment (length c * statement_words) 0 group ≡ all_written c
group_written n c group rest a e = part_is (length c * 10) 0 group (all_written c) rest (length_all present_form n c a) e

all_written_append : (c d : List Statement) → all_written (c ++ d) ≡ all_written c ++ all_written d
unfolding Rattle.format.specs.Bundle.all_written
all_written_append [] d = refl
all_written_append (s ∷ c) d = ap (λ (x : List ℕ). written s ++ x) (all_written_append c d) ∙ sym (append_assoc (written s) (all_written c) (all_written d))

-- ---- the bundle
-- the first group stands in the slots, and the second at the front of the kept words; together they are not too many
pub record Certificate (n : ℕ) (first second : List Statement) (slots group : List ℕ) : Type 0 where
  pub top : n ≤ most_stations
  pub rising : Rising 0 first
  pub proper : All (Proper present_form n) first
  pub slotted : All (InSlot slots) first
  pub more_proper : All (Proper present_form n) second
  pub rest : List ℕ
  pub kept : group ≡ all_written second ++ rest
  pub few_kept : length second ≤ quorum sites
  pub few : length first + length second ≤ most_statements

module _ (n : ℕ) (first second : List Statement) (slots group : List ℕ) (C : Certificate n first second slots group) where
  low : All (λ s. s.station ≤ most_stations) first
  low = all_map (λ s p. omega (arith, (formed_out present_form n s p.formed).high, C.top)) first C.proper

  number : ones (set_of first) + length second ≡ length (first ++ second)
  number = omega (arith, ones_set first C.rising, length-append first second)

  pub words_bundle : (s : Statement) → s.code ≡ replicate code_words 0
      → words_of (word_0 s) s.question slots (set_of first) group (length second) ≡ bundle_of s (first ++ second)
  unfolding words_of main_words Rattle.format.specs.Bundle.bundle_of
  words_bundle s e =
      let h : held_words (set_of first) slots 0 sites ≡ all_written first = held_written first slots C.rising low C.slotted in
      let g : segment (length second * 10) 0 group ≡ all_written second = group_written n second group C.rest C.more_proper C.kept in
      (λ i. ((3 * 2 ^ 30 + number i) ∷ word_0 s ∷ s.question ∷ sym e i) ++ h i ++ g i)
      ∙ append_assoc ((3 * 2 ^ 30 + length (first ++ second)) ∷ written s) (all_written first) (all_written second)
      ∙ ap (λ (x : List ℕ). (3 * 2 ^ 30 + length (first ++ second)) ∷ (written s ++ x)) (sym (all_written_append first second))

  can_write : (lent : ℕ) → output_words ≤ lent → writable lent (set_of first) (ones (set_of first)) (length second) ≡ true
  unfolding writable
  can_write lent room =
      let f : ones (set_of first) + length second ≤ 32 = omega (arith, ones_set first C.rising, C.few) in
      join (leb 331 lent && ltb (set_of first) (2 ^ sites) && leb (length second) 16) _
      (join (leb 331 lent && ltb (set_of first) (2 ^ sites)) _
      (join (leb 331 lent) _ (le-leb 331 lent room) (lt-ltb (set_of first) (2 ^ sites) (set_low sites first C.rising low)))
      (le-leb (length second) 16 C.few_kept))
      (le-leb (ones (set_of first) + length second) 32 f)

  -- the lent words and the word count, as the table of returns has them
  pub lent_bundle : (s : Statement) → s.code ≡ replicate code_words 0 → (out : List ℕ) → output_words ≤ length out
      → lent_after (word_0 s) s.question slots (set_of first) group (length second) out ≡ over (bundle_of s (first ++ second)) out
  unfolding lent_after
  lent_bundle s e out room =
      sym (here (writable (length out) (set_of first) (ones (set_of first)) (length second)) _ _ (can_write (length out) room))
      ∙ ap (λ (x : List ℕ). over x out) (words_bundle s e)

  pub count_bundle : (lent : ℕ) → output_words ≤ lent → count_after lent (set_of first) (length second) ≡ bundle_words (length (first ++ second))
  unfolding count_after
  count_bundle lent room =
      sym (here (writable lent (set_of first) (ones (set_of first)) (length second)) _ _ (can_write lent room)) ∙ ap bundle_words number

-- a kept group alone is a first group with none behind it
pub alone : (c : List Statement) → [] ++ c ≡ c ++ []
alone c = sym (append-nil c)

-- ---- the certificates that a station writes
module _ (n : ℕ) (h : List Statement) (top : n ≤ most_stations) (r : Rising 0 h) (a : All (Proper present_form n) h) (second : List Statement) (b : All (Proper present_form n) second)
    (few : length second ≤ quorum sites) where
  -- the statements held, and a kept group behind them
  pub all_held : length h + length second ≤ most_statements → Certificate n h second (slots_of h 1 sites) (group_words second)
  all_held most =
      record {
        top = top;
        rising = r;
        proper = a;
        slotted = in_slots n h top r a;
        more_proper = b;
        rest = replicate (160 - length second * 10) 0;
        kept = refl;
        few_kept = few;
        few = most;
      }

  -- the first k of the statements held that a test takes, and a kept group behind them
  pub some_held : (k : ℕ) (p : Statement → Bool) → length (take k (those p h)) + length second ≤ most_statements
      → Certificate n (take k (those p h)) second (slots_of h 1 sites) (group_words second)
  some_held k p most =
      record {
        top = top;
        rising = take_rising k 0 (those p h) (those_rising p 0 h r);
        proper = all_take (Proper present_form n) k (those p h) (all_map (λ s x. x.0) (those p h) (those_all (Proper present_form n) p h a));
        slotted =
            all_take (InSlot (slots_of h 1 sites)) k (those p h)
            (all_map (λ s x. x.0) (those p h) (those_all (InSlot (slots_of h 1 sites)) p h (in_slots n h top r a)));
        more_proper = b;
        rest = replicate (160 - length second * 10) 0;
        kept = refl;
        few_kept = few;
        few = most;
      }

  -- a kept group alone, whatever the slots hold
  pub kept_alone : (slots : List ℕ) → Certificate n [] second slots (group_words second)
  kept_alone slots =
      record {
        top = top;
        rising = tt;
        proper = tt;
        slotted = tt;
        more_proper = b;
        rest = replicate (160 - length second * 10) 0;
        kept = refl;
        few_kept = few;
        few = omega arith;
      }
