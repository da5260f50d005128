-- What is computed along an order is a run, for the circuits of gg_flat's WorkedCircuits.
use Rattle.std.proofs.Common.{[]}
use Rattle.gg_flat.specs.Run.{IsRun}
use Rattle.gg_flat.specs.inside.Along.{rows_along}
use Rattle.gg_flat.proofs.WorkedCircuits.{counter, counter_order, toggle, toggle_order, loaded, loaded_order}
use Rattle.gg_flat.proofs.WorkedRows.{counter_inputs, loaded_inputs}
use Rattle.gg_flat.proofs.WorkedForms.{toggle-formed, toggle-ordered, toggle-columns, loaded-formed, loaded-ordered, loaded-columns, counter-formed, counter-ordered, counter-columns}
use Rattle.gg_order.proofs.RunsLemmas.AlongLemmas.{IsRun-along}

toggle-run : IsRun toggle [] 3 (rows_along toggle toggle_order [] 3)
toggle-run = IsRun-along toggle toggle_order [] 3 toggle-formed toggle-ordered toggle-columns

loaded-run : IsRun loaded loaded_inputs 6 (rows_along loaded loaded_order loaded_inputs 6)
loaded-run = IsRun-along loaded loaded_order loaded_inputs 6 loaded-formed loaded-ordered loaded-columns

counter-run : IsRun counter counter_inputs 4 (rows_along counter counter_order counter_inputs 4)
counter-run = IsRun-along counter counter_order counter_inputs 4 counter-formed counter-ordered counter-columns
