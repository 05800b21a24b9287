-- What the claim says of the list at the edges of demand 3's premises (Edges): which decisions its stations name.
use Rattle.std.specs.Prelude.{ℕ, ◌≤◌, ◌≡◌, []}
use Rattle.std.proofs.Common.{sym, ap, subst, arith}
use Rattle.laws.specs.Count.{count}
use Rattle.format.specs.Numbers.{none}
use Rattle.format.specs.Group.{backing}
use Rattle.agreement.proofs.Theorems.Computed.{line, present}
use Rattle.agreement.proofs.Theorems.Toy.{toy}
use Rattle.agreement.proofs.Theorems.Edges.{edges, Facts, computed, all_off, decision, claimed, sound_1, sound_2, there_1, there_2}
use Rattle.agreement.specs.Present.{proposed, log, AllOff}

-- ---- what the claim says of a station that has decided, and of one that has not
pub named : (present toy [] 5 edges 1 0).lasting.decision ≡ 0
named = claimed.named 1 0 0 0 (line toy [] 5 edges 1 0) sound_1 there_1 decision

pub named_backed : backing 5 (present toy [] 5 edges 1 0).lasting.decision
    ≤ count (proposed (log toy [] 5 edges) (present toy [] 5 edges 1 0).identity.question (present toy [] 5 edges 1 0).lasting.decision) 5
named_backed =
    claimed.named_backed 1 0 (line toy [] 5 edges 1 0) sound_1 there_1
    (subst (λ (q : ℕ). AllOff toy [] 5 edges q) (sym (ap (λ (f : Facts). f.asked) computed)) all_off) (omega (arith, named))

pub unnamed : (present toy [] 5 edges 2 0).lasting.decision ≡ none
unnamed =
    claimed.unnamed 2 0 (line toy [] 5 edges 2 0) sound_2 there_2
    (λ v d. absurd (let same = claimed.named 2 0 _ v (line toy [] 5 edges 2 0) sound_2 there_2 d in
    let still : (present toy [] 5 edges 2 0).lasting.decision ≡ 2 = ap (λ (f : Facts). f.undecided) computed in
    omega (arith, same, still, d.bit)))
