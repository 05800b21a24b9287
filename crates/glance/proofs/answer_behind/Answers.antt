-- A chunk is the next statement's ten words. A turn is one unfolding of the definition; where no chunk is left no whole statement is.
use Prim.Native.Nat.{ℕ, ◌+◌, ◌-◌, ◌≤◌, ◌<◌}
use Rattle.std.proofs.Common.{◌≡◌, ◌∙◌, sym, ap, refl, true, false, List, [], ◌++◌, Option, None, Some, Bor, inl, inr, take_all, length, get_or, drop, arith, length-append, length-drop, get_or-drop, drop-drop}
use Rattle.std.proofs.Math.ListN.{get_or-append, drop_of_length-le}
use Rattle.std.proofs.Math.Seq.{drop-append_seam}
use Rattle.std.specs.Option.{unwrap_or}
use Rattle.std.specs.Slice.{IsGetRangeResult}
use Rattle.std.specs.Slice.Iter.{chunks_exact_rest, chunks_exact_size}
use Rattle.walk.specs.Walk.{answer}
use Rattle.format.specs.Words.{fields_of}
use Rattle.format.specs.Present.{statement_words, formed, place_of}
use Rattle.glance.specs.Glance.{further}
use Rattle.glance.proofs.Glance.{answered_3, glance_start, glance_turn, glance_malformed, glance_end}
use Rattle.glance.proofs.answer_behind.Goals as goal

-- what the words of a chunk are, where r is left behind it
record Chunk (ws : List ℕ) (at : ℕ) (x r : List ℕ) : Type 0 where
  inside : at + statement_words ≤ length ws
  word_0 : get_or x 0 0 ≡ get_or ws at 0
  word_1 : get_or x 1 0 ≡ get_or ws (at + 1) 0
  behind : r ≡ drop (at + statement_words) ws

chunk : (ws : List ℕ) (at : ℕ) (x r : List ℕ) → drop at ws ≡ x ++ r → length x ≡ statement_words → Chunk ws at x r
chunk ws at x r e long =
    let word : (i : ℕ) → i < statement_words → get_or x i 0 ≡ get_or ws (at + i) 0
    = λ i h. let l : i < length x = omega arith in sym (get_or-append x r 0 i l) ∙ ap (λ xs. get_or xs i 0) (sym e) ∙ get_or-drop at ws i 0 in
    let zero : at + 0 ≡ at = omega arith in
    record {
      inside = omega (arith, ap length e, length-drop at ws, length-append x r);
      word_0 = word 0 (omega arith) ∙ ap (λ i. get_or ws i 0) zero;
      word_1 = word 1 (omega arith);
      behind = sym (drop-append_seam x r) ∙ ap (λ k. drop k (x ++ r)) long ∙ ap (drop statement_words) (sym e) ∙ drop-drop statement_words at ws;
    }

-- the words from a place on, or none where the place is behind them
got : (ws : List ℕ) (from : ℕ) (r : Option (Bor (List ℕ))) (none : Bor (List ℕ)) → none.now ≡ [] → IsGetRangeResult ws from (length ws) r → (unwrap_or r none).now ≡ drop from ws
got ws from None none e (p, q) =
    let over : length ws ≤ from = elim p [ inl h ↦ omega arith | inr h ↦ omega arith ] in
    e ∙ sym (drop_of_length-le ws over)
got ws from (Some x) none e (p, q) = p.2 ∙ take_all (length ws - from) (drop from ws) (omega (arith, length-drop from ws))

pub returns-then-f : goal.returns-then-f
returns-then-f c = let a = c.args in answered_3 a.n a.question a.ws.now a.f _ c.if-f.true

pub loop-words-init : goal.loop-words-init
loop-words-init c =
    let a = c.args in
    let g = c.get.ensures.lookup in
    let u = c.unwrap_or-behind.ensures in
    let i = c.into_iter-words-iterator.ensures.into_iter_gives in (
      ap chunks_exact_size i ∙ c.chunks_exact-words-items.ensures.size,
      (
        place_of a.f.place,
        ap chunks_exact_rest i ∙ c.chunks_exact-words-items.ensures.rest ∙ ap (λ x. x.now) u ∙ got a.ws.now (place_of a.f.place) c.get.result _ refl g,
        glance_start a.n a.question a.ws.now a.f c.if-f.false,
      ),
    )

pub returns-then-not-word_formed : goal.returns-then-not-word_formed
returns-then-not-word_formed c =
    let a = c.args in
    let v = c.loop-words.invariant in
    let s = c.in-Some.ensures.steps in
    let k = chunk a.ws.now v.1.0 c.in-Some.words.now _ (sym v.1.1 ∙ s.1.0) (s.1.1 ∙ v.0) in
    let h = c.if-not-word_formed.true in
    let ill : formed a.n (fields_of (get_or a.ws.now v.1.0 0)) ≡ false = rw (← k.word_0) (sym c.word_formed.ensures ∙ h) in
    glance_malformed a.n a.question a.ws.now a.f v.1.0 c.loop-words.other ill k.inside v.1.2

pub loop-words-preserved : goal.loop-words-preserved
loop-words-preserved c =
    let a = c.args in
    let v = c.loop-words.invariant in
    let s = c.in-Some.ensures.steps in
    let k = chunk a.ws.now v.1.0 c.in-Some.words.now _ (sym v.1.1 ∙ s.1.0) (s.1.1 ∙ v.0) in
    let well : formed a.n (fields_of (get_or a.ws.now v.1.0 0)) ≡ true = rw (← k.word_0) (sym c.word_formed.ensures ∙ c.if-not-word_formed.false) in
    (s.0 ∙ v.0, (v.1.0 + statement_words, k.behind, rw k.word_1 (glance_turn a.n a.question a.ws.now a.f v.1.0 c.loop-words.other well k.inside v.1.2)))

pub returns : goal.returns
returns c =
    let a = c.args in
    let v = c.loop-words.invariant in
    let s = c.in-None.ensures.steps in
    let short : length a.ws.now < v.1.0 + statement_words = omega (arith, ap length v.1.1, length-drop v.1.0 a.ws.now, s.1.0, v.0) in
    c.answer.ensures
    ∙ ap (λ b. answer (further a.f a.f.place a.f.last b c.loop-words.other)) c.if-f.false
    ∙ glance_end a.n a.question a.ws.now a.f v.1.0 c.loop-words.other short v.1.2
