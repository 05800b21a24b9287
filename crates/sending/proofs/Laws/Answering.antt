-- Laws of sending: the count fits the words lent; what the calls answer, put together.
use Rattle.std.specs.Prelude.{ℕ, ◌+◌, ◌≤◌, Bool, true, false, ◌&&◌, ◌≡◌, refl, leb, length, take, Result, Ok, Err}
use Rattle.std.specs.Result.{result_unwrap_or}
use mathlib.Core.List.{List}
use Rattle.std.proofs.Math.Path.{ap}
use Rattle.std.proofs.Common.{◌∙◌, arith, eq-eqb, ne_eqb, leb-true}
use Rattle.std.specs.Int.Count.{ones}
use Rattle.laws.specs.Pick.{pick, here, skip}
use Rattle.laws.specs.Bools.{both}
use Rattle.format.specs.declared.Fields.{Fields}
use Rattle.format.specs.declared.Refusal.{Refusal}
use Rattle.format.specs.Returns.{number_in}
use Rattle.format.specs.Words.{word_of}
use Rattle.format.specs.Present.{bundle_words, place_of}
use Rattle.hmac.specs.Code.{hmac_code}
use Rattle.modules.specs.declared.Module.{Module}
use Rattle.sealed.specs.Sealed.{Coded, by_coin}
use Rattle.sealed.specs.Answers.{Answered, after_in}
use Rattle.sealed.specs.Present.{coding_plain, coding_coin}
use Rattle.station.specs.declared.Lasting.{Lasting}
use Rattle.station.specs.declared.Stage.{Stage}
use Rattle.station.specs.declared.Station.{Station}
use Rattle.writer.specs.Written.{writable, lent_after, count_after, copyable, copy_after, copy_count}
use Rattle.writer.proofs.Laws.Writing.{writable_out}
use Rattle.sending.specs.Sent.{drafted, asked, main_part, with_main, coded_lent, coded_after, sent_count, sent_lent, sent_bundle, sent_station, sent_after, copy_lent, copy_module, copy_bundle}

-- the word count is never over the words lent
pub count_fits : (lent set k : ℕ) → count_after lent set k ≤ lent
unfolding count_after pick
count_fits lent set k = go (writable lent set (ones set) k) refl
  where
    go : (b : Bool) → writable lent set (ones set) k ≡ b → pick b (bundle_words (ones set + k)) 0 ≤ lent
    go true e = let w = writable_out lent set (ones set) k e in omega (arith, w.0, w.3)
    go false e = omega arith

-- a count that is not 0 is that of a bundle, which fits the words lent
pub main_fits : (lent set k : ℕ) → (count_after lent set k ≡ 0 → ⊥) → place_of 1 ≤ lent
unfolding count_after pick
main_fits lent set k h = go (writable lent set (ones set) k) refl h
  where
    go : (b : Bool) → writable lent set (ones set) k ≡ b → (pick b (bundle_words (ones set + k)) 0 ≡ 0 → ⊥) → place_of 1 ≤ lent
    go true e h = let w = writable_out lent set (ones set) k e in omega (arith, w.0, w.3)
    go false e h = absurd (h refl)

-- what the calls of `send` answer, put together
pub sent_all : (m : Module) (q : ℕ) (f : Fields) (l : Lasting) (g : Stage) (slots : List ℕ) (set : ℕ) (group : List ℕ) (k : ℕ) (out : List ℕ) (w0 : ℕ) (count : ℕ)
    (t : Station) (after : Module) (xs ys : List ℕ)
    → w0 ≡ word_of f → (count ≡ count_after (length out) set k) × (xs ≡ lent_after w0 q slots set group k out)
    → (after ≡ coded_after m f count xs) × (ys ≡ coded_lent m f count xs) → t ≡ sent_station m q l g (take count ys)
    → (count ≡ sent_count set k out) × (t ≡ sent_station m q l g (sent_bundle m q f slots set group k out)) × (after ≡ sent_after m q f slots set group k out)
    × (ys ≡ sent_lent m q f slots set group k out)
unfolding sent_count sent_bundle sent_after sent_lent drafted
sent_all m q f l g slots set group k out w0 count t after xs ys ew ecx eay et =
    let x : xs ≡ lent_after (word_of f) q slots set group k out = rw (← ew) ecx.1 in
    let y : ys ≡ coded_lent m f (count_after (length out) set k) (lent_after (word_of f) q slots set group k out) = rw (← x, ← ecx.0) eay.1 in
    (ecx.0, rw (← y, ← ecx.0) et, rw (← x, ← ecx.0) eay.0, y)

-- the same of `send_copy`
pub copy_fits : (have lent : ℕ) → copy_count have lent ≤ lent
unfolding copy_count copyable pick
copy_fits have lent = go (leb (place_of 1) have && leb have lent) refl
  where
    go : (b : Bool) → (leb (place_of 1) have && leb have lent) ≡ b → pick b have 0 ≤ lent
    go true e = leb-true have lent (both (leb (place_of 1) have) _ e).1
    go false e = omega arith

pub copy_main_fits : (have lent : ℕ) → (copy_count have lent ≡ 0 → ⊥) → place_of 1 ≤ lent
unfolding copy_count copyable pick
copy_main_fits have lent h = go (leb (place_of 1) have && leb have lent) refl h
  where
    go : (b : Bool) → (leb (place_of 1) have && leb have lent) ≡ b → (pick b have 0 ≡ 0 → ⊥) → place_of 1 ≤ lent
    go true e h = let a = both (leb (place_of 1) have) _ e in omega (arith, leb-true (place_of 1) have a.0, leb-true have lent a.1)
    go false e h = absurd (h refl)

pub copied_all : (m : Module) (q : ℕ) (f : Fields) (l : Lasting) (g : Stage) (ws out : List ℕ) (w0 : ℕ) (count : ℕ) (t : Station) (after : Module) (xs ys : List ℕ)
    → w0 ≡ word_of f → (count ≡ copy_count (length ws) (length out)) × (xs ≡ copy_after w0 ws out)
    → (after ≡ coded_after m f count xs) × (ys ≡ coded_lent m f count xs) → t ≡ sent_station m q l g (take count ys)
    → (count ≡ copy_count (length ws) (length out)) × (t ≡ sent_station m q l g (copy_bundle m f ws out)) × (after ≡ copy_module m f ws out) × (ys ≡ copy_lent m f ws out)
unfolding copy_bundle copy_module copy_lent
copied_all m q f l g ws out w0 count t after xs ys ew ecx eay et =
    let x : xs ≡ copy_after (word_of f) ws out = rw (← ew) ecx.1 in
    let y : ys ≡ coded_lent m f (copy_count (length ws) (length out)) (copy_after (word_of f) ws out) = rw (← x, ← ecx.0) eay.1 in
    (ecx.0, rw (← y, ← ecx.0) et, rw (← x, ← ecx.0) eay.0, y)

-- the module's answer, by the way that the code takes
module _ (m : Module) (f : Fields) (count : ℕ) (out : List ℕ) where
  pub main_none : count ≡ 0 → (m ≡ coded_after m f count out) × (out ≡ coded_lent m f count out)
  unfolding coded_after coded_lent
  main_none e = (here _ _ _ (eq-eqb count 0 e), here _ _ _ (eq-eqb count 0 e))

  main_asked : (x : Coded) (after : Module) (ys : List ℕ) → (count ≡ 0 → ⊥) → x ≡ asked m f (main_part out) → after ≡ x.after → ys ≡ x.lent
      → (after ≡ coded_after m f count out) × (with_main ys out ≡ coded_lent m f count out)
  unfolding coded_after coded_lent
  main_asked x after ys some ex ea ey = (
    skip _ _ _ _ (ne_eqb count 0 some) (ea ∙ ap (λ (z : Coded). z.after) ex),
    skip _ _ _ _ (ne_eqb count 0 some) (ap (λ (l : List ℕ). with_main l out) (ey ∙ ap (λ (z : Coded). z.lent) ex)),
  )

  -- the module after the call, or the one that was given
  after_call : (r : Result Module Refusal) (u : Module) → u ≡ result_unwrap_or r m → u ≡ after_in m r
  after_call (Ok x) u e = e
  after_call (Err x) u e = e

  pub main_tossed : (r : Result Module Refusal) (u : Module) (ys : List ℕ) → (count ≡ 0 → ⊥) → by_coin f.kind f.flag ≡ true
      → u ≡ result_unwrap_or r m → Answered (coding_coin hmac_code m (main_part out) f.value) (number_in r) (after_in m r) ys
      → (u ≡ coded_after m f count out) × (with_main ys out ≡ coded_lent m f count out)
  unfolding asked
  main_tossed r u ys some way e a = main_asked (coding_coin hmac_code m (main_part out) f.value) u ys some (here _ _ _ way) (after_call r u e ∙ a.after_is) a.lent_is

  pub main_plain : (r : Result Module Refusal) (u : Module) (ys : List ℕ) → (count ≡ 0 → ⊥) → by_coin f.kind f.flag ≡ false
      → u ≡ result_unwrap_or r m → Answered (coding_plain hmac_code m (main_part out)) (number_in r) (after_in m r) ys
      → (u ≡ coded_after m f count out) × (with_main ys out ≡ coded_lent m f count out)
  unfolding asked
  main_plain r u ys some way e a = main_asked (coding_plain hmac_code m (main_part out)) u ys some (skip _ _ _ _ way refl) (after_call r u e ∙ a.after_is) a.lent_is
