-- The first group's turns, what is between the groups, and the second's; behind a fault a glance has the answer of what was to come.
use Rattle.std.proofs.Common.{◌≡◌, ◌+◌, ◌≤◌, ◌∙◌, sym, ap, refl, ℕ, Bool, true, false, not, ◌&&◌, ◌||◌, min, arith}
use Rattle.std.proofs.Math.Dec.{ltb}
use borrow.Author.Tests.{ltb-true, ltb-false, le-ltb}
use Rattle.laws.specs.Pick.{pick}
use Rattle.laws.specs.Bools.{never}
use Rattle.laws.specs.Least.{least}
use Rattle.hmac.specs.Hmac.{code_from}
use Rattle.walk.specs.Walk.{answer}
use Rattle.certificate.proofs.Laws.Calls.{through_behind, through_start, border_turn, finished, loop_end}
use Rattle.certificate.proofs.through.Goals as goal

min_least : (a b : ℕ) → min a b ≡ least a b
unfolding least pick
min_least a b = go (ltb a b) refl
  where
    go : (t : Bool) → ltb a b ≡ t → min a b ≡ pick t a b
    go true e = omega (arith, ltb-true a b e)
    go false e = omega (arith, ltb-false a b e)

-- the turns of a group end at a fault, or behind its last statement
at_fault : (f more : Bool) → f ≡ true → (not f && more) ≡ false
at_fault f more e = rw e

at_end : (f : Bool) (place end : ℕ) → (f ≡ false → place ≡ end) → (not f && (false || ltb place end)) ≡ false
at_end true place end whole = refl
at_end false place end whole = let past : end ≤ place = omega (arith, whole refl) in le-ltb place end past

pub returns-then-at_fault : goal.returns-then-at_fault
returns-then-at_fault c =
    let a = c.args in
    through_behind (code_from a.key) a.n a.m a.question a.ws.now a.count a.from c.requires.0 (sym c.at_fault.ensures ∙ c.if-at_fault.true)

pub returns-then-at_fault-2 : goal.returns-then-at_fault-2
returns-then-at_fault-2 c =
    let a = c.args in
    let code = code_from a.key in
    let size = c.first_size-size.result in
    let have = c.min-have.result in
    let one = c.first_group-one.result in
    let front = c.held_against.new.f in
    let e = c.held_against.ensures in
    let room : have ≤ a.count = omega (arith, c.min-have.ensures) in
    let start = through_start code a.n a.m a.question a.ws.now a.count size have a.from one c.requires.0 c.first_group-one.ensures c.first_size-size.ensures (c.min-have.ensures ∙ min_least size a.count) in
    let fault : (front.malformed || front.other || front.wrong) ≡ true = sym c.at_fault-2.ensures ∙ c.if-at_fault-2.true in
    loop_end code a.n a.m a.question a.ws.now a.count size have one front (1 + have) true e.place room (λ t. refl) (λ t. never true t refl) (at_fault _ _ fault)
    ∙ ap answer (sym (start ∙ ap (finished code a.n a.m a.question a.ws.now a.count size have true) e.same))

pub held_against-requires-2 : goal.held_against-requires-2
held_against-requires-2 c =
    let a = c.args in
    let have = c.min-have.result in
    let front = c.held_against.new.f in
    let e = c.held_against.ensures in
    let end : front.place ≡ 1 + have = e.whole (sym c.at_fault-2.ensures ∙ c.if-at_fault-2.false) in
    let border = border_turn (code_from a.key) a.n a.m a.question a.ws.now a.count c.first_size-size.result have front c.between-f.result c.first_group-one.result c.second_group-two.result (1 + have)
    (omega (arith, end)) e.place refl (omega (arith, c.min-have.ensures)) c.second_group-two.ensures c.between-f.ensures in
    (omega (arith, border.0, end, c.min-have.ensures), omega (arith, c.requires.1), c.requires.2)

pub returns : goal.returns
returns c =
    let a = c.args in
    let code = code_from a.key in
    let size = c.first_size-size.result in
    let have = c.min-have.result in
    let one = c.first_group-one.result in
    let two = c.second_group-two.result in
    let front = c.held_against.new.f in
    let e = c.held_against.ensures in
    let r = c.held_against-2.ensures in
    let room : have ≤ a.count = omega (arith, c.min-have.ensures) in
    let end : front.place ≡ 1 + have = e.whole (sym c.at_fault-2.ensures ∙ c.if-at_fault-2.false) in
    let start = through_start code a.n a.m a.question a.ws.now a.count size have a.from one c.requires.0 c.first_group-one.ensures c.first_size-size.ensures (c.min-have.ensures ∙ min_least size a.count) in
    let border = border_turn code a.n a.m a.question a.ws.now a.count size have front c.between-f.result one two (1 + have)
    (omega (arith, end)) e.place refl room c.second_group-two.ensures c.between-f.ensures in
    let whole
    = start ∙ ap (finished code a.n a.m a.question a.ws.now a.count size have true) e.same ∙ border.1 ∙ ap (finished code a.n a.m a.question a.ws.now a.count size have false) r.same in
    loop_end code a.n a.m a.question a.ws.now a.count size have two c.held_against-2.new.f (1 + a.count) false r.place room (λ t. never false refl t) (λ t. refl) (at_end _ _ _ r.whole)
    ∙ ap answer (sym whole)
