-- The machines at the ports of the top, as tables.
-- Source: ICCAD 2019 (bridges: models in the host's own code that stand at a target's ports).
use Rattle.std.specs.Prelude.{◌≡◌, ℕ, suc, ◌+◌, ◌-◌, ◌<◌, ◌^◌, List, Bool, ◌==◌, if◌then◌else◌, Option, Some, None, length, map, filter}
use Rattle.std.specs.List.{range_with_len}
use Rattle.gg_bits.specs.Lists.{count_below}
use Rattle.gg_flat.specs.Line.{value_at}
use Rattle.gg_flat.specs.Circuit.{FlatCircuit}
use Rattle.gg_flat_tree.specs.Tree.{InstanceTree}
use Rattle.gg_partfile.specs.declared.request.BridgeEntry.{BridgeEntry}
use Rattle.gg_cut_plan.specs.declared.listed.Listed.{Listed}
use Rattle.gg_cut_plan.specs.Ports.{Bridges, undriven, unseen, machine_end, giver_of, keeper_of, ports_of}
use Rattle.gg_cut_plan.specs.inside.Ports.{counts_of}
use Rattle.gg_cut_split.specs.declared.ends.Ends.{Ends}

-- ---- which bridge has a port

-- 0, or one more than a number
abbrev pub one_more : Option ℕ → ℕ
one_more None = 0
one_more (Some k) = suc k

-- the ports that an entry sees or drives
abbrev pub entry_ports : (seen : Bool) → BridgeEntry → List (List ℕ)
entry_ports seen entry = if seen then entry.sees else entry.drives

-- a table has for each input and each out-signal 0, or one more than the number of the bridge that has it
pub record AreTakers (b : Bridges) (drivers viewers : List ℕ) : Type 0 where
  pub ins : length drivers ≡ b.ins
  pub outs : length viewers ≡ b.outs
  pub driver : (p : ℕ) → p < b.ins → value_at drivers p ≡ one_more (b.driver p)
  pub viewer : (p : ℕ) → p < b.outs → value_at viewers p ≡ one_more (b.viewer p)

-- whether no bridge has the port at a place
abbrev pub is_open : List ℕ → ℕ → Bool
is_open takers p = value_at takers p == 0

-- ---- the machines

-- The number of the machine of the port at a place. The ports that no bridge has get numbers starting at `own`, the bridges numbers starting at
-- `bridge`.
abbrev pub number_by : (own bridge : ℕ) → (takers : List ℕ) → ℕ → ℕ
number_by own bridge takers p = if is_open takers p then own + count_below (is_open takers) p else bridge + (value_at takers p - 1)

-- these signals at the places that pass a test, in their order
abbrev pub at_places : (ℕ → Bool) → List ℕ → List ℕ
at_places keeps signals = map (value_at signals) (filter keeps (range_with_len 0 (length signals)))

-- The numbers of the machines, of which there are fewer than 2^32; the machine of each port of the top; and the ports that no bridge has.
pub record AreEndsOf (circuit : FlatCircuit) (tree : InstanceTree) (listed : Listed) (entries : List BridgeEntry) (ends : Ends) : Type 0 where
  pub numbers : ends.numbering ≡ counts_of listed (ports_of circuit tree listed entries)
  pub few : machine_end (ports_of circuit tree listed entries) < 2 ^ 32
  pub givers_many : length ends.givers.items ≡ length circuit.ins
  pub giver : (p : ℕ) → p < length circuit.ins → value_at ends.givers.items p ≡ giver_of (ports_of circuit tree listed entries) p
  pub keepers_many : length ends.keepers.items ≡ length circuit.outs
  pub keeper : (p : ℕ) → p < length circuit.outs → value_at ends.keepers.items p ≡ keeper_of (ports_of circuit tree listed entries) p
  pub ins : ends.ins ≡ at_places (undriven (ports_of circuit tree listed entries)) circuit.ins
  pub outs : ends.outs ≡ at_places (unseen (ports_of circuit tree listed entries)) circuit.outs
