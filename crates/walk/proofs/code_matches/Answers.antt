-- A turn takes the first word off what is left of both; at the end nothing is left of either.
use Rattle.std.proofs.Common.{◌≡◌, ℕ, Bool, true, false, ◌&&◌, List, [], ◌∷◌, length, eqb, refl, sym, ap, ◌∙◌, arith}
use Rattle.std.proofs.lemmas.Iterator.{empty_from_Zip}
use Rattle.std.proofs.lemmas.Slice.Zip.{Zip-more}
use Rattle.laws.specs.Bools.{and_assoc}
use Rattle.format.specs.Statement.{same_words}
use Rattle.walk.proofs.code_matches.Goals as goal

compared : (xs ys us vs : List ℕ) (x y : ℕ) (same : Bool) → xs ≡ x ∷ us → ys ≡ y ∷ vs → length xs ≡ length ys
    → (length us ≡ length vs) × ((same && same_words xs ys) ≡ ((same && eqb x y) && same_words us vs))
unfolding same_words
compared xs ys us vs x y same p q long =
    (omega (arith, ap length p, ap length q), rw (p, q) (sym (and_assoc same (eqb x y) (same_words us vs))))

none_left : (xs ys : List ℕ) (same : Bool) → xs ≡ [] → ys ≡ [] → same ≡ (same && same_words xs ys)
unfolding same_words
none_left xs ys true p q = rw (p, q)
none_left xs ys false p q = refl

pub loop-word-preserved : goal.loop-word-preserved
loop-word-preserved c =
    let v = c.loop-word in
    let m = Zip-more v.word-iterator c.next.new.self c.next.result _ c.in-Some.is c.next.ensures.steps in
    let t = compared _ _ _ _ _ _ v.same m.0 m.1 v.invariant.0 in
    (t.0, v.invariant.1 ∙ t.1)

pub returns : goal.returns
returns c =
    let v = c.loop-word in
    let e = empty_from_Zip v.word-iterator c.next.new.self c.next.result c.in-None.is c.next.ensures.steps v.invariant.0 in
    none_left _ _ v.same e.0 e.1 ∙ sym v.invariant.1
