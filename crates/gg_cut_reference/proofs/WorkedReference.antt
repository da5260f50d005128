-- Reference circuits, worked by hand.
use Rattle.std.proofs.Common.{◌≡◌, ℕ, List, [], ◌∷◌, Bool, true, false, Some, None, refl}
use Rattle.std.specs.Prelude.{◌==◌, codes, length, map, drop}
use Rattle.gg_bits.specs.declared.ops.Op1.TheVariants.{Not}
use Rattle.gg_flat.specs.declared.line.Op.TheVariants.{Ref, One}
use Rattle.gg_flat.specs.declared.memory.Latency.TheVariants.{Zero}
use Rattle.gg_flat.specs.declared.piece.Driver.TheVariants.{Input, Held, MemoryWord, Computed}
use Rattle.gg_flat.specs.Line.{value_at}
use Rattle.gg_flat.specs.Circuit.{FlatCircuit, driver_at, readers_at}
use Rattle.gg_flat.specs.Run.{column}
use Rattle.gg_flat.specs.inside.Along.{rows_along}
use Rattle.gg_flat.proofs.WorkedCircuits.{one, eight, node}
use Rattle.gg_flat.proofs.WorkedMemories.{signal, copy, high}
use Rattle.gg_cut_plan.specs.declared.wires.Wire.{Wire}
use Rattle.gg_cut_plan.specs.Channels.{wire}
use Rattle.gg_cut_plan.proofs.WorkedPair.{circuit, tree, listed}
use Rattle.gg_cut_plan.specs.Direct.{Hub, hub_of}
use Rattle.gg_cut_reference.specs.Links.{pipes_of, taken_as, seen_by, maker_of}
use Rattle.gg_cut_reference.specs.Made.{holder_of, reference, reference_circuit}

-- ---- two units that feed each other, with a pipe

abbrev hub : ℕ → Bool → Hub
hub c direct = hub_of circuit tree listed (λ s. s == c) [] direct

abbrev all : ℕ → Bool → FlatCircuit
all c direct = reference_circuit circuit tree listed (λ s. s == c) [] direct

pipes : map (λ c. pipes_of (hub c false)) (3 ∷ 0 ∷ 1 ∷ []) ≡ (3 ∷ []) ∷ (0 ∷ []) ∷ (1 ∷ []) ∷ []
pipes = refl

-- unit `a`, machine 1, sees the pipe of `a.k`; the hub sees `a.k`
seen : seen_by (hub 3 false) 1 3 ∷ seen_by (hub 3 false) 0 3 ∷ seen_by (hub 3 false) 1 2 ∷ taken_as (hub 1 false) 1 ∷ [] ≡ 8 ∷ 3 ∷ 2 ∷ 8 ∷ []
seen = refl

makers : map (maker_of (hub 3 true)) (0 ∷ 1 ∷ 2 ∷ 3 ∷ 4 ∷ 5 ∷ 6 ∷ 7 ∷ []) ≡ 3 ∷ 0 ∷ 0 ∷ 0 ∷ 1 ∷ 1 ∷ 0 ∷ 2 ∷ []
makers = refl

-- the pipe stands behind the signals, and takes `a.k` in each tick
pipe-path : drop 8 (all 3 false).paths ≡ codes "pipe:a.k" ∷ []
pipe-path = refl

pipe-driver : driver_at (all 3 false) 8 ≡ Held 0
pipe-driver = refl

pipe-register : (all 3 false).registers ≡ record { ty = eight; reset = None; next = Some (node eight (Ref 3) ∷ []); clock = None } ∷ []
pipe-register = refl

-- `x` piped: the hub sees the pipe, which stands where `a.x` copied `x`
copies-pipe : driver_at (all 0 false) 2 ≡ Computed (node eight (Ref 8) ∷ [])
copies-pipe = refl

-- x is 0f and 81, in an order in which the pipe, signal 8, comes first
abbrev rows : ℕ → Bool → List (List ℕ)
rows c direct = rows_along (all c direct) (8 ∷ 0 ∷ 2 ∷ 4 ∷ 6 ∷ 7 ∷ 3 ∷ 5 ∷ 1 ∷ []) ((15 ∷ 129 ∷ []) ∷ []) 2

-- `a.k` piped, as it is and as a direct channel: `q` is 0f and 9f
piped-k : column (rows 3 false) 1 ≡ 15 ∷ 159 ∷ []
piped-k = refl

piped-direct : column (rows 3 true) 1 ≡ 15 ∷ 159 ∷ []
piped-direct = refl

-- `q` piped: the tray keeps 00 and 11
piped-q : map (column (rows 1 false)) (all 1 false).outs ≡ (0 ∷ 17 ∷ []) ∷ []
piped-q = refl

-- `x` piped: the hub and both units see it a cycle later
piped-x : column (rows 0 false) 1 ≡ 0 ∷ 17 ∷ []
piped-x = refl

-- ---- cuts by their lists: the owner of each signal, and the channels

abbrev cut : FlatCircuit → List ℕ → List Wire → ℕ → Hub
cut circuit owners base c =
    record {
      circuit = circuit;
      owner = value_at owners;
      base = base;
      held = [];
      stops = [];
      silent = λ m. m == 2;
      piped = λ s. s == c;
      direct = false;
    }

-- The hub gives signal 1 to a unit, whose register takes it, and reads it itself for signal 2, a top output. Signal 3, the
-- register's, is a stop of the unit. Sources are 3 and on, trays 4 and on.
abbrev reading : FlatCircuit
reading =
    record {
      paths = codes "x" ∷ codes "u.a" ∷ codes "y" ∷ codes "u.r" ∷ [];
      signals = signal eight (Input 0) ∷ copy eight 0 ∷ signal eight (Computed (node eight (Ref 1) ∷ node eight (One Not 0) ∷ [])) ∷ signal eight (Held 0) ∷ [];
      registers = record { ty = eight; reset = None; next = Some (node eight (Ref 1) ∷ []); clock = Some 0 } ∷ [];
      memories = [];
      ins = 0 ∷ [];
      outs = 2 ∷ 3 ∷ [];
      clocks = 1;
    }

abbrev reads : ℕ → Hub
reads c = cut reading (0 ∷ 1 ∷ 0 ∷ 1 ∷ []) (wire 0 3 0 ∷ wire 1 0 1 ∷ wire 2 0 4 ∷ wire 3 1 5 ∷ []) c

abbrev read-all : ℕ → FlatCircuit
read-all c = reference (reads c) (holder_of (reads c)) (λ k. 0)

holders : holder_of (reads 1) 0 ≡ 1
holders = refl

-- the hub reads signal 1 as it is; the unit's register takes the pipe, at its own clock
hub-unpiped : driver_at (read-all 1) 2 ≡ Computed (node eight (Ref 1) ∷ node eight (One Not 0) ∷ [])
hub-unpiped = refl

unit-piped : (read-all 1).registers ≡ record { ty = eight; reset = None; next = Some (node eight (Ref 4) ∷ []); clock = Some 0 } ∷ record { ty = eight; reset = None; next = Some (node eight (Ref 1) ∷ []); clock = None } ∷ []
unit-piped = refl

-- the stop piped: its tray keeps the pipe
stop-piped : (read-all 3).outs ≡ 2 ∷ 4 ∷ []
stop-piped = refl

-- ---- a listed memory, machine 2, with one reader, of which one field is piped

abbrev pub stored : FlatCircuit
stored =
    record {
      paths = codes "x" ∷ codes "m.r.addr" ∷ codes "m.r.en" ∷ codes "m.r.data" ∷ codes "y" ∷ [];
      signals = signal one (Input 0) ∷ copy one 0 ∷ high ∷ signal eight (MemoryWord 0 0 1 2) ∷ copy eight 3 ∷ [];
      registers = [];
      memories = record { word = eight; depth = 2; latency = Zero; readers = record { addr = 1; en = 2; word = 3; clock = None } ∷ []; writers = [] } ∷ [];
      ins = 0 ∷ [];
      outs = 4 ∷ [];
      clocks = 0;
    }

abbrev stored-all : ℕ → FlatCircuit
stored-all c = let h = cut stored (0 ∷ 2 ∷ 2 ∷ 2 ∷ 0 ∷ []) (wire 0 3 0 ∷ wire 1 0 2 ∷ wire 2 0 2 ∷ wire 3 2 0 ∷ wire 4 0 4 ∷ []) c in reference h (holder_of h) (λ k. 2)

-- the address piped: the reader and the driver of its data name the pipe
address-driver : driver_at (stored-all 1) 3 ≡ MemoryWord 0 0 5 2
address-driver = refl

address-reader : readers_at (stored-all 1) 0 ≡ record { addr = 5; en = 2; word = 3; clock = None } ∷ []
address-reader = refl

-- the memory sees the pipe, and the hub, which gives the address, sees the address
address-seen : map (λ m. seen_by (cut stored (0 ∷ 2 ∷ 2 ∷ 2 ∷ 0 ∷ []) (wire 0 3 0 ∷ wire 1 0 2 ∷ wire 2 0 2 ∷ wire 3 2 0 ∷ wire 4 0 4 ∷ []) 1) m 1) (2 ∷ 0 ∷ []) ≡ 5 ∷ 1 ∷ []
address-seen = refl

-- the data piped: they are the memory's as before, and the hub reads the pipe
data-reader : readers_at (stored-all 3) 0 ≡ record { addr = 1; en = 2; word = 3; clock = None } ∷ []
data-reader = refl

data-read : driver_at (stored-all 3) 4 ≡ Computed (node eight (Ref 5) ∷ [])
data-read = refl

-- ---- no pipe

unpiped : length (read-all 0).signals ∷ length (read-all 9).signals ∷ [] ≡ 5 ∷ 4 ∷ []
unpiped = refl
