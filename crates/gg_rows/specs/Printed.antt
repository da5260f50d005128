-- The text of a circuit's run, the printing of one row, and columns that come to the trays.
-- Source: ICCAD 2019 (Golden Gate) for target cycles as rows; MEMOCODE 2009 (the counts of a network say what it has done; the k-th token of each
-- queue is the value of its signal in cycle k, in whatever order the nodes go on).
use Rattle.std.specs.Prelude.{ℕ, ◌<◌, ◌+◌, List}
use Rattle.gg_build.specs.Build.{IsOpeningOf}
use Rattle.gg_cut_plan.specs.Clocks.{ratios_of, stop_ratios}
use Rattle.gg_cut_plan.specs.Ports.{first_kept_tray, plan_bridges}
use Rattle.gg_cut_plan.specs.declared.plan.Plan.{Plan}
use Rattle.gg_flat.specs.Clock.{Ratio}
use Rattle.gg_flat.specs.Run.{column}
use Rattle.gg_net.specs.Network.{Network}
use Rattle.gg_order.specs.Design.{Ordered}
use Rattle.gg_partfile.specs.declared.request.Request.{Request}
use Rattle.gg_trace.specs.Table.{row_of}
use Rattle.gg_rows.specs.Rows.{TraysKeep}

-- the ratios of the clocks that the stops follow, in the run of a request
abbrev pub plan_stops : Ordered → Request → List Ratio
plan_stops design request = stop_ratios design.tree (ratios_of design.tree request)

-- From this network host steps bring n rows of these columns, starting at cycle `begin`, to the trays that begin with number `first`.
abbrev pub RowsAreKept : (opening : Network) (first begin n : ℕ) (kept : List (List ℕ)) → Type 0
RowsAreKept opening first begin n kept = (t : ℕ) → t < n → TraysKeep opening first (begin + t) (row_of kept (begin + t))

-- The network of the plan of a design and a request before its first cycle is such a network. `columns` are the columns of the top's inputs, `told`
-- is the number of rows that come to the trays of the outputs that no bridge sees, and `kept` has a column for each tray.
pub record AreKept (design : Ordered) (request : Request) (plan : Plan) (columns : List (List ℕ)) (n told : ℕ) (kept : List (List ℕ)) : Type 0 where
  pub opening : Network
  pub opens : IsOpeningOf design request plan columns n opening
  pub rows : RowsAreKept opening (first_kept_tray (plan_bridges design.circuit design.tree request)) 0 told kept
