-- Direct channels: what the hub only copies goes from its producer to its consumer. The origin of a copy is the in-channel of the hub at the end of a
-- chain of bare references. An out-channel of the hub is direct if its driver is such a reference, a source or a unit gives the origin, and nothing
-- in the hub names the channel. Then the origin's producer gives it. An in-channel leaves, with its copies, if a direct channel has it as its origin
-- and nothing that the hub keeps needs it.
-- Source: MEMOCODE 2009 (a fork: one out-signal of a node on several channels); this program's profile for which
-- channels are direct.
use Rattle.gg_order.specs.Found.{line_names}
use Rattle.std.specs.Prelude.{ℕ, zero, suc, List, [], ◌∷◌, ◌++◌, Bool, false, not, ◌||◌, ◌&&◌, ◌==◌, if◌then◌else◌, Option, Some, None, length, map, filter, flat_map, find, option_and_then, is_some, slice_get, nat_le}
use Rattle.std.specs.List.{list_any, range_with_len}
use Rattle.gg_flat.specs.declared.line.Node.{Node}
use Rattle.gg_flat.specs.declared.line.Op.{Op}
use Rattle.gg_flat.specs.declared.line.Op.TheVariants.{Ref, Literal, One, Two, Fix, Mux}
use Rattle.gg_flat.specs.declared.piece.Register.{Register}
use Rattle.gg_flat.specs.declared.piece.Reset.{Reset}
use Rattle.gg_flat.specs.declared.piece.Driver.{Driver}
use Rattle.gg_flat.specs.declared.piece.Driver.TheVariants.{Input, Held, MemoryWord, ReadRegister, Computed}
use Rattle.gg_flat.specs.Line.{shape_at}
use Rattle.gg_flat.specs.Circuit.{FlatCircuit, signal_shapes, driver_at}
use Rattle.gg_flat_tree.specs.Tree.{InstanceTree, memory_at, path_at}
use Rattle.gg_flat_tree.specs.Scoped.{memory_fields, stop_signals}
use Rattle.gg_partfile.specs.declared.request.Request.{Request}
use Rattle.gg_partfile.specs.declared.request.BridgeEntry.{BridgeEntry}
use Rattle.gg_cut_plan.specs.declared.wires.Wire.{Wire}
use Rattle.gg_cut_plan.specs.declared.listed.Listed.{Listed}
use Rattle.gg_cut_plan.specs.Listed.{is_among, listed_of, owner_of, memory_owner}
use Rattle.gg_cut_plan.specs.Machines.{is_memory}
use Rattle.gg_cut_plan.specs.Ports.{Bridges, first_bridge, ports_of}
use Rattle.gg_cut_plan.specs.Channels.{wires_of}

-- ---- what a driver names

-- the signals that a register's connection names; none without a connection
abbrev pub next_names : Option (List Node) → List ℕ
next_names None = []
next_names (Some line) = line_names line

-- the signals that a register's reset names, in its condition and in its value; none without a reset
abbrev pub reset_names : Option Reset → List ℕ
reset_names None = []
reset_names (Some reset) = line_names reset.condition ++ line_names reset.init

-- the signals that a register names; none where there is no register
abbrev pub register_names : Option Register → List ℕ
register_names None = []
register_names (Some register) = reset_names register.reset ++ next_names register.next

-- the signals that a driver names, or the register that it holds
abbrev pub driver_names : FlatCircuit → Driver → List ℕ
driver_names circuit (Input place) = []
driver_names circuit (Held register) = register_names (slice_get circuit.registers register)
driver_names circuit (MemoryWord memory reader addr en) = addr ∷ en ∷ []
driver_names circuit (ReadRegister memory reader) = []
driver_names circuit (Computed line) = line_names line

-- ---- bare references

-- the signal that a node refers to, if the node is a bare reference
abbrev pub bare_op : Op → Option ℕ
bare_op (Ref s) = Some s
bare_op (Literal value) = None
bare_op (One op i) = None
bare_op (Two op i j) = None
bare_op (Fix op i n m) = None
bare_op (Mux c i j) = None

-- the signal of a line that is a bare reference: its only node refers to the signal
abbrev pub bare_line : List Node → Option ℕ
bare_line [] = None
bare_line (node ∷ []) = bare_op node.op
bare_line (node ∷ next ∷ rest) = None

-- the signal of a driver that is a bare reference
abbrev pub bare_of : Driver → Option ℕ
bare_of (Input place) = None
bare_of (Held register) = None
bare_of (MemoryWord memory reader addr en) = None
bare_of (ReadRegister memory reader) = None
bare_of (Computed line) = bare_line line

-- signal t, if there is one and it is as wide as signal s
abbrev pub if_wide : FlatCircuit → ℕ → Option ℕ → Option ℕ
if_wide circuit s None = None
if_wide circuit s (Some t) = if (shape_at (signal_shapes circuit) t).width == (shape_at (signal_shapes circuit) s).width then Some t else None

-- The signal that the driver of signal s refers to, if it is a bare reference and the signal is as wide as s. It is of the same kind too, since a
-- driver has the kind of its signal in a circuit that is well formed.
abbrev pub copied : FlatCircuit → ℕ → Option ℕ
copied circuit s = if_wide circuit s (bare_of (driver_at circuit s))

-- ---- routing

-- What the routing looks at: the circuit, the owner of each signal, the channels before, the fields of the hub's memories, the signals of the stops,
-- and which machines are silent: a listed memory or a bridge is no producer of an origin. `piped` says which signals have a channel with a token in it
-- at the start: the hub takes such a signal a cycle later than its producer gives it, so it is no origin. `direct` says whether channels are to be
-- direct at all.
pub record Hub : Type 0 where
  pub circuit : FlatCircuit
  -- the owner of a signal; the hub is machine 0
  pub owner : ℕ → ℕ
  -- the channels before the routing
  pub base : List Wire
  -- the fields of the memories that belong to the hub
  pub held : List ℕ
  pub stops : List ℕ
  -- whether a machine produces no origin
  pub silent : ℕ → Bool
  pub piped : ℕ → Bool
  pub direct : Bool

-- the hub takes signal s
abbrev pub is_taken : Hub → ℕ → Bool
is_taken hub s = list_any (λ w. (w.consumer == 0) && (w.signal == s)) hub.base

-- the hub gives signal s
abbrev pub is_given : Hub → ℕ → Bool
is_given hub s = list_any (λ w. (w.producer == 0) && (w.signal == s)) hub.base

-- a signal of the hub that no channel carries
abbrev pub is_own : Hub → ℕ → Bool
is_own hub s = (hub.owner s == 0) && not (list_any (λ w. w.signal == s) hub.base)

-- the signals that the hub makes
abbrev pub made : Hub → List ℕ
made hub = filter (λ s. is_own hub s || is_given hub s) (range_with_len 0 (length hub.circuit.signals))

-- all that is named by the drivers of these signals of the hub, by the registers that they hold, and by the hub's memories
abbrev pub named_by : Hub → List ℕ → List ℕ
named_by hub signals = flat_map (λ s. driver_names hub.circuit (driver_at hub.circuit s)) signals ++ hub.held

-- The in-channel of the hub at the end of a chain of copies from signal s, if the chain has at most this many signals. An
-- in-channel that isn't piped is its own end.
abbrev pub origin_within : Hub → ℕ → ℕ → Option ℕ
origin_within hub zero s = None
origin_within hub (suc more) s =
    if is_taken hub s then (if hub.piped s then None else Some s)
    else (if is_own hub s then option_and_then (origin_within hub more) (copied hub.circuit s) else None)

-- The origin of an in-channel or a copy. Each signal of the chain reads the next, so the chain has at most as many signals as
-- the circuit.
abbrev pub origin : Hub → ℕ → Option ℕ
origin hub s = origin_within hub (length hub.circuit.signals) s

-- the machine that gives a channel's signal; 0 if there is no such channel
abbrev pub giver_or : Option Wire → ℕ
giver_or None = 0
giver_or (Some w) = w.producer

-- the machine that gives the channel of signal s before the routing; 0 if no channel carries it
abbrev pub giver : Hub → ℕ → ℕ
giver hub s = giver_or (find (λ w. w.signal == s) hub.base)

-- an in-channel that a source or a unit gives
abbrev pub if_plain : Hub → Option ℕ → Option ℕ
if_plain hub None = None
if_plain hub (Some x) = if hub.silent (giver hub x) then None else Some x

-- The hub gives the channel, and its signal is no stop's and is named by nothing in the hub.
abbrev pub may_be_direct : Hub → Wire → Bool
may_be_direct hub w = (hub.direct && (w.producer == 0)) && not (list_any (λ t. w.signal == t) (named_by hub (made hub) ++ hub.stops))

-- The in-channel that is given in place of an out-channel of the hub, if the out-channel is direct: its driver is a bare reference to an in-channel
-- or a copy, and a source or a unit gives the origin.
abbrev pub direct_of : Hub → Wire → Option ℕ
direct_of hub w = if may_be_direct hub w then if_plain hub (option_and_then (origin hub) (copied hub.circuit w.signal)) else None

-- signal s has a direct channel
abbrev pub is_direct : Hub → ℕ → Bool
is_direct hub s = list_any (λ w. (w.signal == s) && is_some (direct_of hub w)) hub.base

-- the signals that the hub makes and that are neither copies nor direct
abbrev pub kept : Hub → List ℕ
kept hub = filter (λ s. not (is_own hub s && is_some (origin hub s)) && not (is_direct hub s)) (made hub)

-- whether there is a number and it is x
abbrev pub is_number : ℕ → Option ℕ → Bool
is_number x None = false
is_number x (Some y) = x == y

-- An in-channel of the hub leaves: it is the origin of a direct channel, and nothing that is kept names it or a copy of it.
abbrev pub has_left : Hub → ℕ → Bool
has_left hub x = list_any (λ w. is_number x (direct_of hub w)) hub.base && not (list_any (λ t. is_number x (origin hub t)) (named_by hub (kept hub)))

-- whether there is a signal and it is an in-channel that leaves
abbrev pub left_by : Hub → Option ℕ → Bool
left_by hub None = false
left_by hub (Some x) = has_left hub x

-- the signal is an in-channel that leaves, or a copy of one
abbrev pub is_gone : Hub → ℕ → Bool
is_gone hub s = left_by hub (origin hub s)

-- a channel with in-channel x in its place, if there is one: it goes from the producer of x to the channel's own consumer
abbrev pub route_by : Hub → Wire → Option ℕ → Wire
route_by hub w None = w
route_by hub w (Some x) = record { signal = w.signal; given = x; producer = giver hub x; consumer = w.consumer }

-- a channel as it is routed: direct, or as it was
abbrev pub route : Hub → Wire → Wire
route hub w = route_by hub w (direct_of hub w)

-- the channels that are left, in their order
abbrev pub routes : Hub → List Wire
routes hub = map (route hub) (filter (λ w. not (is_gone hub w.signal)) hub.base)

-- the fields of the memories that belong to the hub
abbrev pub hub_fields : FlatCircuit → InstanceTree → Listed → List ℕ
hub_fields circuit tree listed =
    flat_map (λ j. memory_fields circuit (memory_at tree j).memory)
    (filter (λ j. memory_owner tree listed j == 0) (range_with_len 0 (length tree.memories)))

-- a machine that produces no origin: a listed memory, or a bridge
abbrev pub is_silent : Listed → Bridges → ℕ → Bool
is_silent listed b m = is_memory listed m || nat_le (first_bridge b) m

-- what the routing looks at in a cut: which channels are piped, the entries of bridges, and whether channels are to be direct
abbrev pub hub_of : FlatCircuit → InstanceTree → Listed → (piped : ℕ → Bool) → List BridgeEntry → Bool → Hub
hub_of circuit tree listed piped entries direct =
    record {
      circuit = circuit;
      owner = owner_of circuit tree listed;
      base = wires_of circuit tree listed entries;
      held = hub_fields circuit tree listed;
      stops = stop_signals tree;
      silent = is_silent listed (ports_of circuit tree listed entries);
      piped = piped;
      direct = direct;
    }

-- ---- the channels of a request

-- The request lists the channel of signal s as a pipe.
abbrev pub is_piped : FlatCircuit → Request → ℕ → Bool
is_piped circuit request s = is_among request.pipe (path_at circuit.paths s)

-- the hub of a request's cut
abbrev pub plan_hub : FlatCircuit → InstanceTree → Request → Hub
plan_hub circuit tree request = hub_of circuit tree (listed_of tree request) (is_piped circuit request) request.bridges request.direct

-- the channels of the plan, between its machines: the cut's channels, routed if the request has direct channels
abbrev pub plan_wires : FlatCircuit → InstanceTree → Request → List Wire
plan_wires circuit tree request = routes (plan_hub circuit tree request)

-- the signals that the consumers of the plan's channels take
abbrev pub plan_signals : FlatCircuit → InstanceTree → Request → List ℕ
plan_signals circuit tree request = map (λ w. w.signal) (plan_wires circuit tree request)
