-- Where none supplies it, the scan finds nothing.
use Rattle.std.proofs.Common.{inl, inr, refl, false}
use Rattle.held.proofs.Laws.Held.{scan_nothing}
use Rattle.held.proofs.for_none.Goals as goal

pub returns-in-Gathering : goal.returns-in-Gathering
returns-in-Gathering c =
    let none = scan_nothing c.args.held.now.heard c.args.held.now.slots (λ s. false) (λ s. refl) in
    elim c.in-Gathering.is [ inl e ↦ rw e none | inr p ↦ rw p.1 none ]
