-- All of the list at the edges of demand 3's premises (Edges): it is within them, the claim therefore holds of it, and what that says there.
use Rattle.std.specs.Prelude.{ℕ, ◌≤◌, ◌<◌, ◌≡◌, List, [], refl}
use Rattle.std.proofs.Common.{sym, ap, subst, arith}
use Rattle.laws.specs.Count.{count}
use Rattle.format.specs.Numbers.{none}
use Rattle.format.specs.Group.{most_faulty, backing}
use Rattle.agreement.specs.Demand.{Call}
use Rattle.agreement.proofs.Theorems.Computed.{numbers, line, present}
use Rattle.agreement.proofs.Theorems.Toy.{toy}
use Rattle.agreement.proofs.Theorems.Edges.{edges, answers, Facts, computed, within, few_faulty, others, faulty_4, faulty_5, all_off, decision, claimed, sound_1, sound_2, there_1}
use Rattle.agreement.proofs.Theorems.EdgesNamed.{named, named_backed, unnamed}
use Rattle.agreement.specs.Present.{proposed, log, Sound, AllOff, FewFaulty, Given, Decides, Claim}

-- ---- all of it: a list within the premises, for which the claim therefore holds
pub record EdgesMet (cs : List Call) : Type 1 where
  pub numbers_are : numbers toy [] 5 cs ≡ answers
  pub within : Given toy [] 5 cs
  -- two sites are faulty, as many as there may be
  pub few : FewFaulty toy [] 5 cs
  pub two_at_most : most_faulty 5 ≡ 2
  pub sound_1 : Sound toy [] 5 1 cs
  pub sound_2 : Sound toy [] 5 2 cs
  pub sound_3 : Sound toy [] 5 3 cs
  pub faulty_4 : Sound toy [] 5 4 cs → ⊥
  pub faulty_5 : Sound toy [] 5 5 cs → ⊥
  -- site 1 decides 0, which as many sites proposed as its backing is; one proposed 1, which is too few
  pub decided : Decides toy [] 5 cs 1 0 0 0
  pub off : AllOff toy [] 5 cs 0
  pub backed : backing 5 0 ≤ count (proposed (log toy [] 5 cs) 0 0) 5
  pub just_backed : count (proposed (log toy [] 5 cs) 0 0) 5 ≡ backing 5 0
  pub too_few : count (proposed (log toy [] 5 cs) 0 1) 5 < backing 5 1
  pub claimed : Claim toy [] 5 cs
  -- site 1's station names what it decided, which is backed and decided; site 2's, on another question and with jump on, names none
  pub named : (present toy [] 5 cs 1 0).lasting.decision ≡ 0
  pub named_decided : Decides toy [] 5 cs 1 0 (present toy [] 5 cs 1 0).identity.question 0
  pub named_backed : backing 5 (present toy [] 5 cs 1 0).lasting.decision
      ≤ count (proposed (log toy [] 5 cs) (present toy [] 5 cs 1 0).identity.question (present toy [] 5 cs 1 0).lasting.decision) 5
  pub unnamed : (present toy [] 5 cs 2 0).lasting.decision ≡ none

pub edges_met : EdgesMet edges
unfolding backing Rattle.laws.specs.Pick.pick
edges_met =
    record {
      numbers_are = ap (λ (f : Facts). f.numbers) computed;
      within = within;
      few = few_faulty;
      two_at_most = refl;
      sound_1 = sound_1;
      sound_2 = sound_2;
      sound_3 = others 3 (omega arith) (omega arith) refl;
      faulty_4 = faulty_4;
      faulty_5 = faulty_5;
      decided = decision;
      off = all_off;
      backed = claimed.backed 1 0 0 0 sound_1 all_off decision;
      just_backed = ap (λ (f : Facts). f.proposed_0) computed;
      too_few = subst (λ (x : ℕ). x < 2) (sym (ap (λ (f : Facts). f.proposed_1) computed)) (omega arith);
      claimed = claimed;
      named = named;
      named_decided = claimed.names 1 0 0 (line toy [] 5 edges 1 0) sound_1 there_1 (omega arith) named;
      named_backed = named_backed;
      unnamed = unnamed;
    }
