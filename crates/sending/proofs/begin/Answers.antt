-- By what the calls answer; the part lent is the first words of the whole.
use mathlib.Core.Path.{ap, ◌∙◌}
use native.Mathlib.Omega.{arith}
use lib.ListN.{take, length-take}
use Rattle.station.specs.declared.Station.{Station}
use Rattle.keeping.specs.Kept.{with_bundle}
use Rattle.keeping.specs.Begun.{blank}
use Rattle.sending.specs.Sent.{sent_station}
use Rattle.sending.proofs.begin.Goals as goal

pub slice_bounds-keep-end : goal.slice_bounds-keep-end
slice_bounds-keep-end c = simp length-take (omega (arith, c.requires))

pub returns : goal.returns
unfolding sent_station blank
returns c = c.keep.ensures ∙ ap (λ (t : Station). with_bundle t (take c.args.count c.args.out.now)) c.empty.ensures
