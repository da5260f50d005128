-- The machines at the ports of a top, and the ports that bridges have. A bridge gives the inputs that it drives and takes the outputs that it sees. Each
-- other input has a source and each other output a tray. The stops are out-signals too, which no bridge sees. Sources, trays and bridges come after all
-- other machines, in this order.
-- Source: ICCAD 2019 (bridges: models in the host's own code that stand at a target's ports).
use Rattle.std.specs.Prelude.{ℕ, ◌+◌, ◌-◌, List, length, take, filter, not, Bool, if◌then◌else◌, nat_lt, Option, None, is_none}
use Rattle.gg_bits.specs.Lists.{number_or, count_below}
use Rattle.gg_flat.specs.Line.{value_at}
use Rattle.gg_flat.specs.Circuit.{FlatCircuit}
use Rattle.gg_flat_tree.specs.Tree.{InstanceTree, path_at}
use Rattle.gg_order.specs.Design.{Ordered}
use Rattle.gg_partfile.specs.declared.request.Request.{Request}
use Rattle.gg_partfile.specs.Size.{all_driven, all_seen}
use Rattle.gg_partfile.specs.declared.request.BridgeEntry.{BridgeEntry}
use Rattle.gg_cut_plan.specs.Listed.{first_place, is_among, listed_of}
use Rattle.gg_cut_plan.specs.declared.listed.Listed.{Listed}
use Rattle.gg_cut_plan.specs.Machines.{first_source}

-- How many machines are no source and no tray, how many inputs and outputs there are, and the bridge that drives an input and that
-- sees an output.
pub record Bridges : Type 0 where
  -- the machines before the sources; the number of the first source
  pub first : ℕ
  pub ins : ℕ
  pub outs : ℕ
  -- how many bridges there are
  pub count : ℕ
  -- the bridge that drives the input at a place, if one does
  pub driver : ℕ → Option ℕ
  -- the bridge that sees the output at a place, if one does
  pub viewer : ℕ → Option ℕ

-- no bridge drives the input at place p
abbrev pub undriven : Bridges → ℕ → Bool
undriven b p = is_none (b.driver p)

-- no bridge sees the output at place p
abbrev pub unseen : Bridges → ℕ → Bool
unseen b p = is_none (b.viewer p)

-- the number of the first tray, after the sources, one for each input that no bridge drives
abbrev pub first_kept_tray : Bridges → ℕ
first_kept_tray b = b.first + count_below (undriven b) b.ins

-- the number of the first bridge, after the trays, one for each output that no bridge sees and for each stop
abbrev pub first_bridge : Bridges → ℕ
first_bridge b = first_kept_tray b + count_below (unseen b) b.outs

-- how many machines there are
abbrev pub machine_end : Bridges → ℕ
machine_end b = first_bridge b + b.count

-- the machine that gives the input at a place
abbrev pub giver_of : Bridges → ℕ → ℕ
giver_of b p = number_or (first_bridge b) (b.first + count_below (undriven b) p) (b.driver p)

-- the machine that takes the output at a place
abbrev pub keeper_of : Bridges → ℕ → ℕ
keeper_of b p = number_or (first_bridge b) (first_kept_tray b + count_below (unseen b) p) (b.viewer p)

-- ---- the bridges of a request

-- the first entry that lists this path
abbrev pub lister : (BridgeEntry → List (List ℕ)) → List BridgeEntry → List ℕ → Option ℕ
lister ports entries path = first_place (λ entry. is_among (ports entry) path) entries

-- The bridges of these entries at a circuit's ports. Its first out-signals are outputs, the others stops. An entry's name that no port has is left
-- out.
abbrev pub bridges_of : FlatCircuit → (outputs : ℕ) → Listed → List BridgeEntry → Bridges
bridges_of circuit outputs listed entries =
    record {
      first = first_source listed;
      ins = length circuit.ins;
      outs = length circuit.outs;
      count = length entries;
      driver = λ p. lister (λ entry. entry.drives) entries (path_at circuit.paths (value_at circuit.ins p));
      viewer = λ p. if nat_lt p outputs then lister (λ entry. entry.sees) entries (path_at circuit.paths (value_at circuit.outs p)) else None;
    }

-- ---- the bridges of the plan

-- which machine has each port of the top, by these entries; the stops are the last out-signals
abbrev pub ports_of : FlatCircuit → InstanceTree → Listed → List BridgeEntry → Bridges
ports_of circuit tree listed entries = bridges_of circuit (length circuit.outs - length tree.stops) listed entries

-- how many out-signals of the circuit are outputs; the stops come after them
abbrev pub output_count : Ordered → ℕ
output_count design = length design.circuit.outs - length design.tree.stops

-- the bridges of a request; the outputs that they may see are the out-signals before the stops
abbrev pub plan_bridges : FlatCircuit → InstanceTree → Request → Bridges
plan_bridges circuit tree request = ports_of circuit tree (listed_of tree request) request.bridges

-- ---- the ports that no bridge has

-- the top inputs that no bridge drives
abbrev pub open_ins : FlatCircuit → Request → List ℕ
open_ins circuit request = filter (λ s. not (is_among (all_driven request.bridges) (path_at circuit.paths s))) circuit.ins

-- the top outputs that no bridge sees; the first `outputs` out-signals of the top are outputs
abbrev pub open_outs : FlatCircuit → (outputs : ℕ) → Request → List ℕ
open_outs circuit outputs request = filter (λ s. not (is_among (all_seen request.bridges) (path_at circuit.paths s))) (take outputs circuit.outs)
