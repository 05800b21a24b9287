-- Laws that the coding functions' proofs cite: what the code reads, tests and stores on the way makes the answer as it is defined.
use Prim.Native.Nat.{ℕ}
use mathlib.Core.Bool.{Bool, true, ◌&&◌}
use mathlib.Core.List.{List, [], ◌∷◌}
use mathlib.Core.Path.{◌≡◌, refl, sym, ap, ◌∙◌}
use lib.Dec.{eqb, ltb}
use lib.ListN.{get_or, length, set}
use lib.Seq.{get_or-set_same, get_or-set_other}
use borrow.Author.Tests.{eqb-true, ne_eqb}
use native.Mathlib.Omega.{arith}
use Rattle.laws.specs.Pick.{pick}
use Rattle.laws.specs.Bools.{both}
use Rattle.laws.specs.Refusals.{test, first_failed, all_passed}
use Rattle.laws.specs.All.{All}
use Rattle.format.specs.declared.Fields.{Fields}
use Rattle.format.specs.declared.Step.{Step}
use Rattle.std.specs.Prelude.{Result, Ok, Err, ⊤}
use Rattle.format.specs.declared.Refusal.{Refusal}
use Rattle.format.specs.Returns.{refusal_number, number_in}
use Rattle.format.proofs.Laws.Returns.{above as above_0}
use Rattle.format.specs.Numbers.{out_of_range, malformed, wrong_code, not_above}
use Rattle.format.specs.Words.{fields_of, step_in}
use Rattle.format.specs.Statement.{step}
use Rattle.format.specs.Present.{statement_words, formed, statement}
use Rattle.hmac.specs.Code.{hmac_code}
use Rattle.modules.specs.declared.Module.{Module}
use Rattle.modules.specs.Counter.{above, last_for, advanced}
use Rattle.modules.specs.Present.{module_fits}
use Rattle.sealed.specs.Sealed.{Coded, by_plain, by_coin, with_value, tossed}
use Rattle.sealed.specs.Answers.{Answered, after_in}
use Rattle.sealed.specs.Laws.Answers.{Tested, word_with, lent_with}
use Rattle.sealed.specs.Present.{coding, coding_tests, coding_plain, coding_coin}

-- the same, by its words
pub lent_words : (key ws : List ℕ) (v : ℕ)
    → lent_with key ws v ≡ word_with (get_or ws 0 0) v ∷ get_or ws 1 0 ∷ hmac_code key (word_with (get_or ws 0 0) v ∷ get_or ws 1 0 ∷ [])
unfolding lent_with word_with
lent_words key ws v = refl

-- what is not refused has ten words
ten : (m : Module) (ws : List ℕ) (range way : Bool) → first_failed (test range out_of_range ∷ coding_tests m ws way) ≡ 0 → length ws ≡ statement_words
ten m ws range way h =
    let all : All (λ t. t.ok ≡ true) (test range out_of_range ∷ coding_tests m ws way) = all_passed (test range out_of_range ∷ coding_tests m ws way) (omega arith, (omega arith, (omega arith, (omega arith, tt)))) h in
    let shape = (both (eqb (length ws) statement_words && formed m.n (fields_of (get_or ws 0 0))) way all.1.0).0 in
    eqb-true (length ws) statement_words (both (eqb (length ws) statement_words) (formed m.n (fields_of (get_or ws 0 0))) shape).0

module _ (m : Module) (ws : List ℕ) (v : ℕ) (y : Coded) (tested : Result ⊤ Refusal)
    (same : coding (hmac_code m.key) m (with_value v (statement ws 0)) ws (number_in tested) ≡ y) where
  -- a refusal changes nothing, and is handed on
  pub refused : (e : Refusal) (r : Result Module Refusal) → tested ≡ Err e → r ≡ Err e → Answered y (number_in r) (after_in m r) ws
  unfolding pick
  refused e r is handed = rw (handed, ← same, is, ne_eqb (refusal_number e) 0 (λ z. omega (arith, above_0 e))) (record { number_is = refl; after_is = refl; lent_is = refl })

  -- what is not refused is coded
  pub coded : (x : ⊤) (after : Module) (lent : List ℕ) → tested ≡ Ok x → Answered (coding (hmac_code m.key) m (with_value v (statement ws 0)) ws 0) 0 after lent → Answered y 0 after lent
  coded x after lent is a = rw (← same, is) a

-- the refusal, from what the code computes on the way: the words 0 and 1, the fields, and the tests on them
pub refusal_is : (m : Module) (ws : List ℕ) (range way : Bool) (w q : ℕ) (f : Fields) (shape : Bool) (s : Step) (later : Bool) (r : ℕ)
    → w ≡ get_or ws 0 0 → f ≡ fields_of w → q ≡ get_or ws 1 0 → shape ≡ formed m.n f → s ≡ step_in f → later ≡ above (last_for m q) q s.0
    → r ≡ first_failed
    (test range out_of_range
    ∷ test (eqb (length ws) statement_words && shape && way) malformed
    ∷ test (eqb f.station m.station) wrong_code
    ∷ test later not_above
    ∷ [])
    → Tested m ws range way r
unfolding fields_of step_in step
refusal_is m ws range way w q f shape s later r w_is f_is q_is Shape-is s_is later_is r_is =
    let fe : f ≡ fields_of (get_or ws 0 0) = f_is ∙ ap fields_of w_is in
    let se : s ≡ step_in (fields_of (get_or ws 0 0)) = s_is ∙ ap step_in fe in
    let we : shape ≡ formed m.n (fields_of (get_or ws 0 0)) = Shape-is ∙ ap (formed m.n) fe in
    let le : later ≡ above (last_for m (get_or ws 1 0)) (get_or ws 1 0) (step (statement ws 0)) = later_is ∙ (λ i. above (last_for m (q_is i)) (q_is i) (se i).0) in
    let re : r ≡ first_failed (test range out_of_range ∷ coding_tests m ws way) =
    r_is
    ∙ (λ i.
    first_failed
    (test range out_of_range
    ∷ test (eqb (length ws) statement_words && we i && way) malformed
    ∷ test (eqb (fe i).station m.station) wrong_code
    ∷ test (le i) not_above
    ∷ [])) in
    record { number_is = re; ten_words = λ z. ten m ws range way (sym re ∙ z) }

-- the lent words, from what is stored: word 0 with the value, and the code of words 0 and 1
pub signed_is : (key ws code last : List ℕ) (v w : ℕ) → length ws ≡ statement_words → w ≡ word_with (get_or ws 0 0) v
    → code ≡ hmac_code key (w ∷ get_or ws 1 0 ∷ []) → last ≡ get_or (set ws 0 w) 0 0 ∷ get_or (set ws 0 w) 1 0 ∷ code → last ≡ lent_with key ws v
signed_is key ws code last v w long w_is code_is last_is =
    let first : get_or (set ws 0 w) 0 0 ≡ w = get_or-set_same ws 0 w 0 (omega arith) in
    let second : get_or (set ws 0 w) 1 0 ≡ get_or ws 1 0 = get_or-set_other ws 0 1 w 0 (λ e. omega arith) in
    last_is
    ∙ (λ i. first i ∷ second i ∷ code_is i)
    ∙ ap (λ (x : ℕ). x ∷ get_or ws 1 0 ∷ hmac_code key (x ∷ get_or ws 1 0 ∷ [])) w_is
    ∙ sym (lent_words key ws v)

-- a coding that is not refused: the module one pair on, and the words with the value put in and coded
pub finished : (m : Module) (ws : List ℕ) (v : ℕ) (f : Fields) (s : Step) (lent : List ℕ) → f ≡ fields_of (get_or ws 0 0) → s ≡ step_in f → lent ≡ lent_with m.key ws v
    → Answered (coding (hmac_code m.key) m (with_value v (statement ws 0)) ws 0) 0 (advanced m (get_or ws 1 0) s.0) lent
unfolding fields_of step_in step lent_with pick
finished m ws v f s lent f_is s_is lent_is =
    record { number_is = refl; after_is = ap (λ (k : Step). advanced m (get_or ws 1 0) k.0) (s_is ∙ ap step_in f_is); lent_is = lent_is }

-- the two ways, from what the code computes
pub plain_is : (m : Module) (ws : List ℕ) (w : ℕ) (f : Fields) (fit way : Bool) (number : ℕ)
    → w ≡ get_or ws 0 0 → f ≡ fields_of w → fit ≡ module_fits m → way ≡ by_plain f.kind f.flag
    → number ≡ first_failed (test fit out_of_range ∷ coding_tests m ws way)
    → coding (hmac_code m.key) m (with_value f.value (statement ws 0)) ws number ≡ coding_plain hmac_code m ws
unfolding Rattle.sealed.specs.Sealed.coding_plain fields_of
plain_is m ws w f fit way number w_is f_is fit_is way_is n_is =
    let fe : f ≡ fields_of (get_or ws 0 0) = f_is ∙ ap fields_of w_is in
    let te : way ≡ by_plain (statement ws 0).kind (statement ws 0).flag = way_is ∙ (λ i. by_plain (fe i).kind (fe i).flag) in
    let ne : number ≡ first_failed (test (module_fits m) out_of_range ∷ coding_tests m ws (by_plain (statement ws 0).kind (statement ws 0).flag))
    = n_is ∙ (λ i. first_failed (test (fit_is i) out_of_range ∷ coding_tests m ws (te i))) in
    λ i. coding (hmac_code m.key) m (with_value (fe i).value (statement ws 0)) ws (ne i)

pub coin_is : (m : Module) (ws : List ℕ) (coin w : ℕ) (f : Fields) (fit way : Bool) (number : ℕ)
    → w ≡ get_or ws 0 0 → f ≡ fields_of w → fit ≡ module_fits m → way ≡ by_coin f.kind f.flag
    → number ≡ first_failed (test (fit && ltb coin 2) out_of_range ∷ coding_tests m ws way)
    → coding (hmac_code m.key) m (tossed coin (statement ws 0)) ws number ≡ coding_coin hmac_code m ws coin
unfolding Rattle.sealed.specs.Sealed.coding_coin fields_of
coin_is m ws coin w f fit way number w_is f_is fit_is way_is n_is =
    let fe : f ≡ fields_of (get_or ws 0 0) = f_is ∙ ap fields_of w_is in
    let te : way ≡ by_coin (statement ws 0).kind (statement ws 0).flag = way_is ∙ (λ i. by_coin (fe i).kind (fe i).flag) in
    ap (coding (hmac_code m.key) m (tossed coin (statement ws 0)) ws)
    (n_is ∙ (λ i. first_failed (test (fit_is i && ltb coin 2) out_of_range ∷ coding_tests m ws (te i))))
