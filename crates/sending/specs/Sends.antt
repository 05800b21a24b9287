-- The law of sending: where the certificate's statements stand in the slots and in the kept group, or in a given bundle, the words are those of the machine's
-- `sends`.
use Prim.Native.Nat.{ℕ, zero, suc, ◌+◌, ◌*◌, ◌^◌, ◌≤◌, ◌<◌}
use mathlib.Core.List.{List, [], ◌∷◌, ◌++◌, append_assoc}
use Rattle.std.specs.Prelude.{Bool, ◌≡◌, eqb, leb, set, replicate}
use Rattle.std.proofs.Math.Bool.{true, false}
use Rattle.std.proofs.Math.Path.{refl, sym, ap}
use Rattle.std.proofs.Common.{◌∙◌, subst, arith, length-append}
use Rattle.std.proofs.Math.ListN.{length, take, drop}
use Rattle.std.proofs.Math.Seq.{take_at, drop_at}
use borrow.Author.Tests.{eqb-true, ne_eqb, le-leb}
use Rattle.laws.specs.Pick.{pick}
use Rattle.laws.specs.Bools.{both, join}
use Rattle.laws.specs.All.{All, all_append}
use Rattle.format.specs.Form.{present_form}
use Rattle.format.specs.declared.Fields.{Fields}
use Rattle.format.specs.Numbers.{kind_p, code_words, head_mark, mark_bit}
use Rattle.format.specs.Words.{word_of}
use Rattle.format.specs.Statement.{Statement, step}
use Rattle.hmac.specs.Code.{hmac_code}
use Rattle.format.proofs.Laws.Shape.{Shape, init, proposal, vote, formed_out}
use Rattle.modules.specs.declared.Module.{Module}
use Rattle.modules.specs.Counter.{above, last_for, advanced}
use Rattle.modules.specs.Present.{module_fits}
use Rattle.sealed.specs.Sealed.{is_toss, Coded}
use Rattle.sealed.proofs.Theorems.Ways.{with_code, coded_as, own_plain, own_coin}
use Rattle.sealed.specs.Present.{coding_plain, coding_coin}
use Rattle.station.specs.declared.Stage.{Stage}
use Rattle.station.specs.Machine.{own, began}
use Rattle.station.specs.Words.{set_of}
use Rattle.station.specs.Present as W
use Rattle.format.proofs.Laws.ReadBack.{Proper, length_written}
use Rattle.format.specs.Present.{bundle_words, most_stations, most_statements, output_words, written, statement_code, all_written, bundle_of, place_of, statement_words}
use Rattle.station.proofs.Laws.Bundles.{ws_length}
use Rattle.station.proofs.Theorems.Seal.{main_words}
use Rattle.station.specs.declared.Lasting.{Lasting}
use Rattle.writer.specs.Written.{with_word, copyable, copy_after, copy_count}
use Rattle.writer.proofs.Laws.Bundle.{Certificate, lent_bundle, count_bundle}
use Rattle.laws.specs.Below.{Below}
use Rattle.laws.specs.Over.{over}
use Rattle.keeping.specs.Kept.{with_bundle}
use Rattle.keeping.specs.Begun.{blank}
use Rattle.keeping.proofs.Begun.{begun}
use Rattle.sending.specs.Sent.{drafted, asked, main_part, with_main, coded_lent, coded_after, sent_count, sent_lent, sent_bundle, sent_station, sent_after, copy_lent, copy_module, copy_bundle}

low_front : (ws r : List ℕ) → Below (ws ++ r) → Below ws
low_front [] r h zero = omega arith
low_front [] r h (suc i) = omega arith
low_front (w ∷ ws) r h zero = h 0
low_front (w ∷ ws) r h (suc i) = low_front ws r (λ j. h (suc j)) i

-- the fields of a statement of the module's station
abbrev pub own_fields : Module → ℕ → ℕ → ℕ → ℕ → Fields
own_fields m kind value flag round =
    record { kind = kind; value = value; flag = flag; spare = 0; station = m.station; round = record { 0 = round } }

abbrev pub own_statement : Module → ℕ → ℕ → ℕ → ℕ → ℕ → Statement
own_statement m question kind value flag round = own (statement_code (hmac_code m.key)) m.station question kind value flag round

-- where the lent words have the bundle of the statement, with any eight words in its code's place, the module's call leaves the machine's `sends`
module _ (m : Module) (question kind value flag round : ℕ) (l : Lasting) (g : Stage) (c : List Statement) (out : List ℕ) (top : m.n ≤ most_stations)
    (p : Proper present_form m.n (own_statement m question kind value flag round)) (proper : All (Proper present_form m.n) c) (few : length c ≤ most_statements) (fit : module_fits m ≡ true)
    (later : above (last_for m question) question (step (own_statement m question kind value flag round)) ≡ true) (x : List ℕ) (eight : length x ≡ code_words) (count : ℕ) (draft : List ℕ)
    (counted : count ≡ bundle_words (length c)) (draft_is : draft ≡ over (bundle_of (with_code x (own_statement m question kind value flag round)) c) out) where
  abbrev s : Statement
  s = own_statement m question kind value flag round

  abbrev f : Fields
  f = own_fields m kind value flag round

  abbrev uncoded : Statement
  uncoded = with_code x s

  proper_uncoded : Proper present_form m.n uncoded
  unfolding Rattle.format.specs.Statement.well_formed
  proper_uncoded = record { formed = p.formed; eight = eight }

  later_uncoded : above (last_for m question) question (step uncoded) ≡ true
  unfolding step
  later_uncoded = later

  -- the module codes it by the way that is for it
  asked_is : asked m f (written uncoded) ≡ coded_as (hmac_code m.key) m uncoded
  unfolding asked pick
  asked_is = go (is_toss uncoded) refl
    where
      go : (b : Bool) → is_toss uncoded ≡ b → pick b (coding_coin hmac_code m (written uncoded) value) (coding_plain hmac_code m (written uncoded)) ≡ coded_as (hmac_code m.key) m uncoded
      go true t = own_coin hmac_code m uncoded fit proper_uncoded refl later_uncoded t (toss_bit t)
        where
          toss_bit : is_toss uncoded ≡ true → value < 2
          toss_bit t = by (formed_out present_form m.n s p.formed).shape
            where
              by : Shape present_form s → value < 2
              by (init k r v g) = v
              by (proposal k l r v g) = v
              by (vote k l r v g) = absurd (omega (arith, k, eqb-true kind kind_p (both (eqb kind kind_p) _ t).0))
      go false t = own_plain hmac_code m uncoded fit proper_uncoded refl later_uncoded t

  asked_then : asked m f (main_part draft) ≡ coded_as (hmac_code m.key) m uncoded
  asked_then = ap (λ (l : List ℕ). asked m f (main_part l)) draft_is ∙ ap (asked m f) (main_words m.n uncoded c out proper_uncoded) ∙ asked_is

  wrote_some : eqb count 0 ≡ false
  wrote_some = ne_eqb count 0 (λ z. omega (arith, z, counted))

  -- the coded statement put in the place of the uncoded one
  put_in : with_main (written s) (over (bundle_of uncoded c) out) ≡ over (bundle_of s c) out
  unfolding Rattle.format.specs.Bundle.bundle_of
  put_in =
      let w = all_written c in
      let same_length : length (bundle_of uncoded c) ≡ length (bundle_of s c)
      = ap suc (length-append (written uncoded) w ∙ omega (arith, length_written present_form m.n uncoded proper_uncoded, length_written present_form m.n s p) ∙ sym (length-append (written s) w)) in
      ap (λ (l : List ℕ). (head_mark * 2 ^ mark_bit + length c) ∷ (written s ++ l)) (behind (drop (length (bundle_of uncoded c)) out))
      ∙ ap (λ (k : ℕ). (head_mark * 2 ^ mark_bit + length c) ∷ (written s ++ (w ++ drop k out))) same_length
      ∙ ap (λ (l : List ℕ). (head_mark * 2 ^ mark_bit + length c) ∷ l) (sym (append_assoc (written s) w (drop (length (bundle_of s c)) out)))
    where
      behind : (r : List ℕ) → drop statement_words (written uncoded ++ all_written c ++ r) ≡ all_written c ++ r
      behind r = ap (drop statement_words) (append_assoc (written uncoded) (all_written c) r) ∙ drop_at (written uncoded) (all_written c ++ r) statement_words (length_written present_form m.n uncoded proper_uncoded)

  pub coded_lent_is : coded_lent m f count draft ≡ over (bundle_of s c) out
  unfolding coded_lent pick
  coded_lent_is = rw wrote_some (ap (λ (y : Coded). with_main y.lent draft) asked_then) ∙ ap (with_main (written s)) draft_is ∙ put_in

  bundle_is : take count (coded_lent m f count draft) ≡ bundle_of s c
  unfolding Rattle.format.specs.Bundle.bundle_of
  bundle_is =
      ap (λ (k : ℕ). take k (coded_lent m f count draft)) counted
      ∙ ap (take (bundle_words (length c))) coded_lent_is
      ∙ take_at (bundle_of s c) (drop (length (bundle_of s c)) out) (bundle_words (length c)) (ws_length present_form m.n s c top p proper few)

  pub coded_station_is : Below (coded_lent m f count draft)
      → sent_station m question l g (take count (coded_lent m f count draft)) ≡ W.as_station m.n m.station (began m.n question l g s c)
  unfolding sent_station
  coded_station_is low =
      ap (with_bundle (blank m.n m.station question l g)) bundle_is
      ∙ begun m.n m.station question l g s c top p proper few (low_front (bundle_of s c) (drop (length (bundle_of s c)) out) (subst Below coded_lent_is low))

  pub coded_after_is : coded_after m f count draft ≡ advanced m question (step s)
  unfolding coded_after pick step
  coded_after_is = rw wrote_some (ap (λ (y : Coded). y.after) asked_then)

-- where the certificate's statements stand in the slots and in the kept group
module _ (m : Module) (question kind value flag round : ℕ) (l : Lasting) (g : Stage) (first second : List Statement) (slots group : List ℕ)
    (C : Certificate m.n first second slots group) (c : List Statement) (same : first ++ second ≡ c) (out : List ℕ) (room : output_words ≤ length out)
    (p : Proper present_form m.n (own_statement m question kind value flag round)) (fit : module_fits m ≡ true)
    (later : above (last_for m question) question (step (own_statement m question kind value flag round)) ≡ true) where
  abbrev own_s : Statement
  own_s = own_statement m question kind value flag round

  abbrev own_f : Fields
  own_f = own_fields m kind value flag round

  abbrev blank_code : List ℕ
  blank_code = replicate code_words 0

  draft : drafted question own_f slots (set_of first) group (length second) out ≡ over (bundle_of (with_code blank_code own_s) c) out
  unfolding drafted
  draft =
      lent_bundle m.n first second slots group C (with_code blank_code own_s) refl out room ∙ ap (λ (l : List Statement). over (bundle_of (with_code blank_code own_s) l) out) same

  pub count_is : sent_count (set_of first) (length second) out ≡ bundle_words (length c)
  unfolding sent_count
  count_is = count_bundle m.n first second slots group C (length out) room ∙ ap (λ (l : List Statement). bundle_words (length l)) same

  all_proper : All (Proper present_form m.n) c
  all_proper = subst (λ (l : List Statement). All (Proper present_form m.n) l) same (all_append (Proper present_form m.n) first second C.proper C.more_proper)

  all_few : length c ≤ most_statements
  all_few = omega (arith, ap length (sym same) ∙ length-append first second, C.few)

  pub lent_is : sent_lent m question own_f slots (set_of first) group (length second) out ≡ over (bundle_of own_s c) out
  unfolding sent_lent
  lent_is = coded_lent_is m question kind value flag round l g c out C.top p all_proper all_few fit later blank_code refl _ _ count_is draft

  pub station_is : Below (sent_lent m question own_f slots (set_of first) group (length second) out)
      → sent_station m question l g (sent_bundle m question own_f slots (set_of first) group (length second) out) ≡ W.as_station m.n m.station (began m.n question l g own_s c)
  unfolding sent_lent sent_bundle
  station_is low = coded_station_is m question kind value flag round l g c out C.top p all_proper all_few fit later blank_code refl _ _ count_is draft low

  pub after_is : sent_after m question own_f slots (set_of first) group (length second) out ≡ advanced m question (step own_s)
  unfolding sent_after
  after_is = coded_after_is m question kind value flag round l g c out C.top p all_proper all_few fit later blank_code refl _ _ count_is draft

-- where the given bundle's words are copied
module _ (m : Module) (question kind value flag round : ℕ) (l : Lasting) (g : Stage) (given : Statement) (c : List Statement) (ws : List ℕ) (whole : ws ≡ bundle_of given c)
    (asked_for : given.question ≡ question) (out : List ℕ) (room : output_words ≤ length out) (top : m.n ≤ most_stations) (q : Proper present_form m.n given)
    (p : Proper present_form m.n (own_statement m question kind value flag round)) (proper : All (Proper present_form m.n) c) (few : length c ≤ most_statements) (fit : module_fits m ≡ true)
    (later : above (last_for m question) question (step (own_statement m question kind value flag round)) ≡ true) where
  abbrev copy_s : Statement
  copy_s = own_statement m question kind value flag round

  abbrev copy_f : Fields
  copy_f = own_fields m kind value flag round

  long : length ws ≡ bundle_words (length c)
  unfolding Rattle.format.specs.Bundle.bundle_of
  long = ap length whole ∙ ws_length present_form m.n given c top q proper few

  can : copyable (length ws) (length out) ≡ true
  unfolding copyable
  can = join (leb (place_of 1) (length ws)) _ (le-leb (place_of 1) (length ws) (omega (arith, long))) (le-leb (length ws) (length out) (omega (arith, long)))

  pub copy_count_is : copy_count (length ws) (length out) ≡ bundle_words (length c)
  unfolding copy_count pick
  copy_count_is = rw can long

  copied_draft : copy_after (word_of copy_f) ws out ≡ over (bundle_of (with_code given.code copy_s) c) out
  unfolding copy_after pick with_word Rattle.format.specs.Bundle.bundle_of
  copied_draft =
      rw can (ap (λ (l : List ℕ). over (set l 1 (word_of copy_f)) out) whole)
      ∙ ap (λ (z : ℕ). over ((head_mark * 2 ^ mark_bit + length c) ∷ ((word_of copy_f ∷ z ∷ given.code) ++ all_written c)) out) asked_for

  pub copy_lent_is : copy_lent m copy_f ws out ≡ over (bundle_of copy_s c) out
  unfolding copy_lent
  copy_lent_is = coded_lent_is m question kind value flag round l g c out top p proper few fit later given.code q.eight _ _ copy_count_is copied_draft

  pub copy_station_is : Below (copy_lent m copy_f ws out) → sent_station m question l g (copy_bundle m copy_f ws out) ≡ W.as_station m.n m.station (began m.n question l g copy_s c)
  unfolding copy_lent copy_bundle
  copy_station_is low = coded_station_is m question kind value flag round l g c out top p proper few fit later given.code q.eight _ _ copy_count_is copied_draft low

  pub copy_after_is : copy_module m copy_f ws out ≡ advanced m question (step copy_s)
  unfolding copy_module
  copy_after_is = coded_after_is m question kind value flag round l g c out top p proper few fit later given.code q.eight _ _ copy_count_is copied_draft
