-- A group that is to be kept has at most 16 statements, since n is at most 31; each is held against its words.
use Rattle.station.proofs.Laws.FitSane.{for_value_size, for_none_size}
use Rattle.station.specs.Present.{held_in, sites}
use Rattle.kept_fitness.specs.Laws.Parts.{groups_fit, few, refused, rest_decides}
use Rattle.format.specs.Form.{present_form}
use mathlib.Core.Path.{ap}
use mathlib.Core.Bool.{not}
use Rattle.kept_fitness.proofs.groups_fit.Goals as goal

pub returns-then-not-size_fits : goal.returns-then-not-size_fits
returns-then-not-size_fits c =
    let a = c.args in
    refused a.n c.size_fits.result c.size_fits.ensures (groups_fit a.n a.question a.stage a.held.now.heard a.held.now.slots a.groups) (ap not c.if-not-size_fits.true)

pub group_fits-requires : goal.group_fits-requires
group_fits-requires c =
    let a = c.args in
    rw c.kept_for_value-value.ensures (for_value_size present_form a.n a.stage (held_in a.held.now.heard a.held.now.slots 0 sites) (few a.n c.size_fits.result c.size_fits.ensures (ap not c.if-not-size_fits.false)))

pub group_fits-requires-2 : goal.group_fits-requires-2
group_fits-requires-2 c =
    let a = c.args in
    rw c.kept_for_none-none.ensures (for_none_size present_form a.n a.stage (held_in a.held.now.heard a.held.now.slots 0 sites) (few a.n c.size_fits.result c.size_fits.ensures (ap not c.if-not-size_fits.false)))

pub returns : goal.returns
unfolding groups_fit
returns c =
    let a = c.args in
    rest_decides a.n c.size_fits.result c.size_fits.ensures _ (groups_fit a.n a.question a.stage a.held.now.heard a.held.now.slots a.groups) (ap not c.if-not-size_fits.false)
    (rw (c.group_fits-2.ensures, c.group_fits.ensures, c.kept_for_none-none.ensures, c.kept_for_value-value.ensures))
