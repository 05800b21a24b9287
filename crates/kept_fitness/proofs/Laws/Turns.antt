-- Statements of words in a loop: how it starts, what one turn finds, and how it ends.
use Rattle.std.specs.Prelude.{ℕ, suc, ◌+◌, ◌-◌, ◌*◌, ◌≤◌, ◌<◌, Bool, true, false, not, ◌&&◌, List, [], ◌∷◌, ◌≡◌, ltb, get_or}
use Rattle.std.proofs.Common.{ap, arith, eq-eqb}
use Rattle.std.proofs.Math.Nat.{sub-zero}
use Rattle.laws.specs.Pick.{pick, and_pick}
use Rattle.format.specs.Form.{present_form}
use Rattle.format.specs.declared.Fields.{Fields}
use Rattle.format.specs.Words.{fields_of}
use Rattle.format.specs.Statement.{Statement}
use Rattle.format.specs.Lists.{every}
use Rattle.rules.specs.declared.Group.{Group}
use Rattle.rules.specs.Rules.{wanted}
use Rattle.rules.specs.Test.{in_order, holds}
use Rattle.format.proofs.Laws.Parts.{parts_length}
use Rattle.format.specs.Present.{statement_words, formed, statement, statements, all_formed}

pub parts_start : (ws : List ℕ) (at have : ℕ) → statements ws at have ≡ statements ws (at + 0 * statement_words) (have - 0)
parts_start ws at have =
    let e : at + 0 * statement_words ≡ at = omega arith in
    rw (e, sub-zero)

pub parts_turn : (ws : List ℕ) (at have i : ℕ) → i < have
    → statements ws (at + i * statement_words) (have - i) ≡ statement ws (at + i * statement_words) ∷ statements ws (at + (i + 1) * statement_words) (have - (i + 1))
unfolding Rattle.format.specs.Statement.statements
parts_turn ws at have i h =
    let e : have - i ≡ suc (have - (i + 1)) = omega arith in
    let f : at + (i + 1) * statement_words ≡ at + i * statement_words + statement_words = omega arith in
    rw (e, f)

pub parts_end : (ws : List ℕ) (at have i : ℕ) → have ≤ i → statements ws at (have - i) ≡ []
unfolding Rattle.format.specs.Statement.statements
parts_end ws at have i h =
    let e : have - i ≡ 0 = omega arith in
    rw e

pub order_turn : (g : Group) (last : ℕ) (ws : List ℕ) (at have i : ℕ) (f : Fields) → i < have → f ≡ fields_of (get_or ws (at + i * statement_words) 0)
    → in_order g last (statements ws (at + i * statement_words) (have - i))
    ≡ pick (not (wanted g f.kind f.value f.flag f.round.0 && ltb last f.station)) false
    (in_order g f.station (statements ws (at + (i + 1) * statement_words) (have - (i + 1))))
unfolding in_order fields_of
order_turn g last ws at have i f h e =
    let s : Statement = statement ws (at + i * statement_words) in
    rw (e, parts_turn ws at have i h)
    (and_pick (wanted g s.kind s.value s.flag s.round && ltb last s.station) (in_order g s.station (statements ws (at + (i + 1) * statement_words) (have - (i + 1)))))

pub order_end : (g : Group) (last : ℕ) (ws : List ℕ) (at have i : ℕ) → have ≤ i → true ≡ in_order g last (statements ws at (have - i))
unfolding in_order
order_end g last ws at have i h = rw (parts_end ws at have i h)

pub holds_start : (g : Group) (ws : List ℕ) (at have : ℕ) → have ≡ g.size
    → holds g (statements ws at have) ≡ in_order g 0 (statements ws (at + 0 * statement_words) (have - 0))
unfolding holds
holds_start g ws at have e = rw (parts_length present_form, eq-eqb have g.size e) (ap (in_order g 0) (parts_start ws at have))

pub every_turn : (p : Statement → Bool) (ws : List ℕ) (at have i : ℕ) → i < have
    → every p (statements ws (at + i * statement_words) (have - i))
    ≡ pick (not (p (statement ws (at + i * statement_words)))) false (every p (statements ws (at + (i + 1) * statement_words) (have - (i + 1))))
unfolding every
every_turn p ws at have i h =
    rw (parts_turn ws at have i h) (and_pick (p (statement ws (at + i * statement_words))) (every p (statements ws (at + (i + 1) * statement_words) (have - (i + 1)))))

pub every_end : (p : Statement → Bool) (ws : List ℕ) (at have i : ℕ) → have ≤ i → true ≡ every p (statements ws at (have - i))
unfolding every
every_end p ws at have i h = rw (parts_end ws at have i h)

pub formed_start : (n : ℕ) (ws : List ℕ) (at k : ℕ) → all_formed n ws at k ≡ all_formed n ws (at + 0 * statement_words) (k - 0)
formed_start n ws at k =
    let e : at + 0 * statement_words ≡ at = omega arith in
    rw (e, sub-zero)

pub formed_turn : (n : ℕ) (ws : List ℕ) (at k i : ℕ) → i < k
    → all_formed n ws (at + i * statement_words) (k - i)
    ≡ pick (not (formed n (fields_of (get_or ws (at + i * statement_words) 0)))) false (all_formed n ws (at + (i + 1) * statement_words) (k - (i + 1)))
unfolding Rattle.format.specs.Bundle.all_formed
formed_turn n ws at k i h =
    let e : k - i ≡ suc (k - (i + 1)) = omega arith in
    let f : at + (i + 1) * statement_words ≡ at + i * statement_words + statement_words = omega arith in
    rw (e, f) (and_pick (formed n (fields_of (get_or ws (at + i * statement_words) 0))) (all_formed n ws (at + i * statement_words + statement_words) (k - (i + 1))))

pub formed_end : (n : ℕ) (ws : List ℕ) (at k i : ℕ) → k ≤ i → true ≡ all_formed n ws at (k - i)
unfolding Rattle.format.specs.Bundle.all_formed
formed_end n ws at k i h =
    let e : k - i ≡ 0 = omega arith in
    rw e
