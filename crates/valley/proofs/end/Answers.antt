-- What is written is what the end of the input printed, which stands in the lent bytes (`end_enough`).
use Rattle.std.proofs.Common.{sym, length-take-le}
use Rattle.valley_console.proofs.Theorems.Within.{end_enough}
use Rattle.valley.proofs.end.Goals as goal

pub slice_bounds-out-end : goal.slice_bounds-out-end
slice_bounds-out-end g c = end_enough _ _ _ _ c.finish-t.ensures.1 c.finish-t.ensures.3

pub slice_bounds-write_all-end : goal.slice_bounds-write_all-end
slice_bounds-write_all-end g c = sym (length-take-le _ _ (end_enough _ _ _ _ c.finish-t.ensures.1 c.finish-t.ensures.3))
