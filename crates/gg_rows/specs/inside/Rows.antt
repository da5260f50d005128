-- More on Rows: definitions that no promise of the program reaches.
-- Source: MEMOCODE 2009 (the k-th token of a queue is the value of its signal in cycle k, so the sink of an output has the
-- output's column, in whatever order the nodes go on); ICCAD 2019 (sinks at the outputs of a target).
use Rattle.std.specs.Prelude.{◌≡◌, ℕ, ◌+◌, ◌<◌, ◌≤◌, List, Option, length, map, unwrap_or}
use Rattle.gg_flat.specs.Circuit.{FlatCircuit}
use Rattle.gg_flat.specs.Line.{value_at}
use Rattle.gg_flat.specs.Run.{Start, row_at}
use Rattle.gg_flat.specs.Streams.{Flow}
use Rattle.gg_build.specs.Build.{IsToRunFrom}
use Rattle.gg_cut_plan.specs.declared.plan.Plan.{Plan}
use Rattle.gg_cut_plan.specs.Ports.{first_kept_tray, plan_bridges}
use Rattle.gg_node.specs.Machine.{Behaviour, RunsPiece, GivesColumn, KeepsLast, Machine, machine_at, kept_value}
use Rattle.gg_net.specs.Network.{Network, wire_at}
use Rattle.gg_cut_reference.specs.whole.Whole.{plan_circuit}

-- ---- one tray

-- the value that a machine with this behaviour keeps; 0 if it keeps none or is no tray
abbrev pub told_by : Behaviour → Option ℕ → ℕ
told_by (RunsPiece piece) kept = 0
told_by (GivesColumn column) kept = 0
told_by (KeepsLast rows) kept = unwrap_or kept 0

-- the value of this cycle that a machine keeps; 0 if it keeps none or is no tray
abbrev pub told_value : Machine → ℕ → ℕ
told_value machine cycle = told_by machine.behaviour (kept_value machine cycle)

-- Machine m is a tray at the end of channel c, and still has the value of a cycle: the cycle isn't before `begin`, and it is one of the last `rows`
-- cycles before the machine's.
pub record StillHas (net : Network) (m c begin cycle : ℕ) : Type 0 where
  pub there : m < length net.machines
  pub known : c < length net.wires
  pub taken : (wire_at net.wires c).consumer ≡ m
  pub rows : ℕ
  pub tray : (machine_at net.machines m).behaviour ≡ KeepsLast rows
  pub begun : begin ≤ cycle
  pub done : cycle < (machine_at net.machines m).cycle
  pub last : (machine_at net.machines m).cycle ≤ cycle + rows

-- ---- the network of a plan

-- the values of a circuit's outputs in a row
abbrev pub outputs_in : FlatCircuit → List (List ℕ) → ℕ → List ℕ
outputs_in circuit rows t = map (value_at (row_at rows t)) circuit.outs

-- The trays of the plan's network: the number of the first, and how many there are.
pub record AreTraysOf {plan : Plan} {start : Start} {columns : List (List ℕ)} {n : ℕ} {flow : Flow} (run : IsToRunFrom plan start columns n flow) (first count : ℕ) : Type 0 where
  pub begin : first ≡ first_kept_tray (plan_bridges run.design.circuit run.design.tree run.request)
  pub many : count ≡ length (plan_circuit run.design run.request run.models).outs

-- the row of a cycle: the values of the out-signals of the plan's circuit in its run
abbrev pub run_row : {plan : Plan} {start : Start} {columns : List (List ℕ)} {n : ℕ} {flow : Flow} → IsToRunFrom plan start columns n flow → (t : ℕ) → List ℕ
run_row run t = outputs_in (plan_circuit run.design run.request run.models) run.rows t
