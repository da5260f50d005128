-- Direct channels, and what leaves the hub, worked by hand.
use Rattle.std.proofs.Common.{◌≡◌, ℕ, List, [], ◌∷◌, Bool, true, false, Option, Some, None, refl}
use Rattle.std.specs.Prelude.{◌==◌, codes, map}
use Rattle.gg_bits.specs.declared.ops.Op1.TheVariants.{Not}
use Rattle.gg_flat.specs.declared.line.Node.{Node}
use Rattle.gg_flat.specs.declared.line.Op.TheVariants.{Ref, One}
use Rattle.gg_flat.specs.declared.piece.Driver.TheVariants.{Input, Held, MemoryWord, Computed}
use Rattle.gg_flat.specs.declared.piece.Reset.{Reset}
use Rattle.gg_flat.specs.declared.piece.Signal.{Signal}
use Rattle.gg_flat.specs.Line.{value_at}
use Rattle.gg_flat.proofs.WorkedCircuits.{eight, nine, node}
use Rattle.gg_flat.proofs.WorkedMemories.{signal, copy}
use Rattle.gg_partfile.specs.declared.request.BridgeEntry.{BridgeEntry}
use Rattle.gg_cut_plan.specs.declared.wires.Wire.{Wire}
use Rattle.gg_cut_plan.specs.Channels.{wire}
use Rattle.gg_cut_plan.proofs.WorkedPair.{circuit, tree, listed}
use Rattle.gg_cut_plan.specs.Direct.{Hub, hub_of, routes, is_direct, is_gone, origin}

abbrev none : ℕ → Bool
none s = false

abbrev channel : ℕ → ℕ → ℕ → ℕ → Wire
channel signal given producer consumer = record { signal = signal; given = given; producer = producer; consumer = consumer }

-- ---- two units that feed each other

abbrev hub : Hub
hub = hub_of circuit tree listed none [] true

-- signals: 0 x, 1 q, 2 a.x, 3 a.k, 4 a.p, 5 a.q, 6 b.m, 7 b.n
pair-origins : map (origin hub) (0 ∷ 1 ∷ 2 ∷ 4 ∷ 7 ∷ []) ≡ Some 0 ∷ None ∷ None ∷ Some 4 ∷ Some 7 ∷ []
pair-origins = refl

pair-direct : map (is_direct hub) (1 ∷ 2 ∷ 3 ∷ 6 ∷ 0 ∷ []) ≡ true ∷ true ∷ true ∷ true ∷ false ∷ []
pair-direct = refl

pair-gone : map (is_gone hub) (0 ∷ 4 ∷ 5 ∷ 7 ∷ 1 ∷ []) ≡ true ∷ true ∷ true ∷ true ∷ false ∷ []
pair-gone = refl

-- a.x is given by x, a.k by b.n, b.m by a.p, q by a.q
pair : routes hub ≡ channel 2 0 3 1 ∷ channel 3 7 2 1 ∷ channel 6 4 1 2 ∷ channel 1 5 1 4 ∷ []
pair = refl

-- not asked for: all channels are as they were
pair-plain : routes (hub_of circuit tree listed none [] false) ≡ channel 0 0 3 0 ∷ channel 2 2 0 1 ∷ channel 3 3 0 1 ∷ channel 4 4 1 0 ∷ channel 5 5 1 0 ∷ channel 6 6 0 2 ∷ channel 7 7 2 0 ∷ channel 1 1 0 4 ∷ []
pair-plain = refl

-- `b.n` is piped: it is no origin, so `a.k` is not direct and `b.n` stays
pair-piped : routes (hub_of circuit tree listed (λ s. s == 7) [] true) ≡ channel 2 0 3 1 ∷ channel 3 3 0 1 ∷ channel 6 4 1 2 ∷ channel 7 7 2 0 ∷ channel 1 5 1 4 ∷ []
pair-piped = refl

abbrev drives_x : BridgeEntry
drives_x = record { name = codes "e"; sees = []; drives = codes "x" ∷ [] }

-- a bridge drives `x`: it produces no origin, so `a.x` is not direct and `x` stays
pair-driven : routes (hub_of circuit tree listed none (drives_x ∷ []) true) ≡ channel 0 0 4 0 ∷ channel 2 2 0 1 ∷ channel 3 7 2 1 ∷ channel 6 4 1 2 ∷ channel 1 5 1 3 ∷ []
pair-driven = refl

-- ---- hubs by their lists

-- signals with these owners, these channels, and these fields of the hub's memories; machine 2 is a memory, 3 and more are
-- sources and trays
abbrev made_of : List Signal → List ℕ → List Wire → List ℕ → Hub
made_of signals owners base held =
    record {
      circuit = record { paths = []; signals = signals; registers = []; memories = []; ins = []; outs = []; clocks = 0 };
      owner = value_at owners;
      base = base;
      held = held;
      stops = [];
      silent = λ m. m == 2;
      piped = none;
      direct = true;
    }

-- `x` goes to unit `u` and to a node, and its complement to unit `v`: two units of one module, where machine 2 is a unit too
abbrev two : Hub
two =
    record
    (made_of
    (signal eight (Input 0) ∷ copy eight 4 ∷ copy eight 7 ∷ copy eight 0 ∷ signal eight (Held 0) ∷ signal eight (Held 0) ∷ signal eight (Computed (node eight (Ref 0) ∷ node eight (One Not 0) ∷ [])) ∷ signal eight (Held 1) ∷ [])
    (0 ∷ 0 ∷ 0 ∷ 1 ∷ 1 ∷ 1 ∷ 2 ∷ 2 ∷ []) (wire 0 3 0 ∷ wire 3 0 1 ∷ wire 4 1 0 ∷ wire 6 0 2 ∷ wire 7 2 0 ∷ wire 1 0 4 ∷ wire 2 0 5 ∷ []) [])
    { silent = none }

-- `x` and `u.a` are a fork of the source
fork : routes two ≡ channel 0 0 3 0 ∷ channel 3 0 3 1 ∷ channel 6 6 0 2 ∷ channel 1 4 1 4 ∷ channel 2 7 2 5 ∷ []
fork = refl

-- a chain of two wires, of which the first is a field of a memory of the hub
abbrev chain : List ℕ → Hub
chain held = made_of (signal eight (Input 0) ∷ copy eight 0 ∷ copy eight 1 ∷ copy eight 2 ∷ copy eight 1 ∷ []) (0 ∷ 0 ∷ 0 ∷ 1 ∷ 0 ∷ []) (wire 0 3 0 ∷ wire 3 0 1 ∷ []) held

chain-left : routes (chain []) ≡ channel 3 0 3 1 ∷ []
chain-left = refl

chain-gone : map (is_gone (chain [])) (0 ∷ 1 ∷ 2 ∷ 3 ∷ 4 ∷ []) ≡ true ∷ true ∷ true ∷ false ∷ true ∷ []
chain-gone = refl

-- a memory names a copy, so the in-channel stays; the out-channel is direct all the same
chain-held : routes (chain (4 ∷ [])) ≡ channel 0 0 3 0 ∷ channel 3 0 3 1 ∷ []
chain-held = refl

-- an output that is named in the hub is not direct, and so its in-channel stays
named-output : routes (made_of (signal eight (Input 0) ∷ copy eight 0 ∷ signal eight (Computed (node eight (Ref 1) ∷ node eight (One Not 0) ∷ [])) ∷ []) (0 ∷ 0 ∷ 0 ∷ []) (wire 0 3 0 ∷ wire 1 0 4 ∷ []) []) ≡ channel 0 0 3 0 ∷ channel 1 1 0 4 ∷ []
named-output = refl

-- what a listed memory gives is no direct channel
memory-word : routes (made_of (signal eight (MemoryWord 0 0 2 3) ∷ copy eight 0 ∷ []) (2 ∷ 0 ∷ []) (wire 0 2 0 ∷ wire 1 0 4 ∷ []) []) ≡ channel 0 0 2 0 ∷ channel 1 1 0 4 ∷ []
memory-word = refl

-- a unit that feeds itself
self : routes (made_of (signal eight (Held 0) ∷ copy eight 0 ∷ []) (1 ∷ 1 ∷ []) (wire 0 1 0 ∷ wire 1 0 1 ∷ []) []) ≡ channel 1 0 1 1 ∷ []
self = refl

-- a stop is not direct, and so its in-channel stays
stop : routes (record (made_of (signal eight (Input 0) ∷ copy eight 0 ∷ []) (0 ∷ 0 ∷ []) (wire 0 3 0 ∷ wire 1 0 4 ∷ []) []) { stops = 1 ∷ [] }) ≡ channel 0 0 3 0 ∷ channel 1 1 0 4 ∷ []
stop = refl

-- a reference to a narrower signal is no copy
wider : routes (made_of (signal eight (Input 0) ∷ signal nine (Computed (node eight (Ref 0) ∷ [])) ∷ []) (0 ∷ 0 ∷ []) (wire 0 3 0 ∷ wire 1 0 4 ∷ []) []) ≡ channel 0 0 3 0 ∷ channel 1 1 0 4 ∷ []
wider = refl

-- ---- what the hub needs besides

-- a hub with one register, with this reset and this line
abbrev with_register : Hub → Option Reset → List Node → Hub
with_register hub reset next = record hub { circuit = record (hub.circuit) { registers = record { ty = eight; reset = reset; next = Some next; clock = None } ∷ [] } }

abbrev refers : ℕ → List Node
refers s = node eight (Ref s) ∷ []

-- `x`, a copy of it, the port `u.a`, which refers to the copy, and a register
abbrev kept_in : Option Reset → List Node → Hub
kept_in reset next =
    with_register
    (made_of (signal eight (Input 0) ∷ copy eight 0 ∷ copy eight 1 ∷ signal eight (Held 0) ∷ []) (0 ∷ 0 ∷ 1 ∷ 0 ∷ []) (wire 0 3 0 ∷ wire 2 0 1 ∷ []) [])
    reset next

-- a register reads the copy, so the in-channel stays; the out-channel is direct all the same
register-reads : routes (kept_in None (refers 1)) ≡ channel 0 0 3 0 ∷ channel 2 0 3 1 ∷ []
register-reads = refl

register-reset : routes (kept_in (Some (record { condition = refers 1; init = refers 3 })) (refers 3)) ≡ channel 0 0 3 0 ∷ channel 2 0 3 1 ∷ []
register-reset = refl

register-start : routes (kept_in (Some (record { condition = refers 3; init = refers 1 })) (refers 3)) ≡ channel 0 0 3 0 ∷ channel 2 0 3 1 ∷ []
register-start = refl

-- a register that reads only itself
register-apart : routes (kept_in None (refers 3)) ≡ channel 2 0 3 1 ∷ []
register-apart = refl

-- the address of a memory's word is a copy
word-address : routes (made_of (signal eight (Input 0) ∷ copy eight 0 ∷ copy eight 0 ∷ signal eight (MemoryWord 0 0 1 3) ∷ []) (0 ∷ 0 ∷ 1 ∷ 0 ∷ []) (wire 0 3 0 ∷ wire 2 0 1 ∷ []) []) ≡ channel 0 0 3 0 ∷ channel 2 0 3 1 ∷ []
word-address = refl

-- an output refers to another: the other is named, and the first refers to an out-channel, so neither is direct
output-of-output : routes (made_of (signal eight (Input 0) ∷ copy eight 0 ∷ copy eight 1 ∷ []) (0 ∷ 0 ∷ 0 ∷ []) (wire 0 3 0 ∷ wire 1 0 4 ∷ wire 2 0 5 ∷ []) []) ≡ channel 0 0 3 0 ∷ channel 1 1 0 4 ∷ channel 2 2 0 5 ∷ []
output-of-output = refl

-- an output that is named in the hub refers to `x`, so `x` stays for it, though `u.a` is direct
one-of-two : routes (made_of (signal eight (Input 0) ∷ copy eight 0 ∷ copy eight 0 ∷ signal eight (Computed (node eight (Ref 1) ∷ node eight (One Not 0) ∷ [])) ∷ []) (0 ∷ 0 ∷ 1 ∷ 0 ∷ []) (wire 0 3 0 ∷ wire 2 0 1 ∷ wire 1 0 4 ∷ []) []) ≡ channel 0 0 3 0 ∷ channel 2 0 3 1 ∷ channel 1 1 0 4 ∷ []
one-of-two = refl

-- a fork of three: what `u` gives goes to `u` itself, to a port of a listed memory, and to an output
fork-of-three : routes (made_of (signal eight (Held 0) ∷ copy eight 0 ∷ copy eight 0 ∷ copy eight 0 ∷ []) (1 ∷ 0 ∷ 1 ∷ 2 ∷ []) (wire 2 0 1 ∷ wire 0 1 0 ∷ wire 3 0 2 ∷ wire 1 0 4 ∷ []) []) ≡ channel 2 0 1 1 ∷ channel 3 0 1 2 ∷ channel 1 0 1 4 ∷ []
fork-of-three = refl
