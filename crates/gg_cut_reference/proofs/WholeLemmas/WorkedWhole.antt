-- An echo at the ports of a circuit with two units, worked by hand: what the network computes, with and without a pipe, the order that is
-- found of it, and its rows. A circuit without an order.
use Rattle.std.proofs.Common.{◌≡◌, ℕ, List, [], ◌∷◌, Some, None, map, codes, refl, ap, arith}
use Rattle.std.specs.Prelude.{length}
use Rattle.gg_flat.specs.inside.Along.{rows_along}
use Rattle.gg_flat.specs.Circuit.{FlatCircuit}
use Rattle.gg_flat.specs.Line.{value_at}
use Rattle.gg_flat.specs.Order.{IsOrder}
use Rattle.gg_flat_tree.specs.Tree.{InstanceTree}
use Rattle.gg_flat.proofs.WorkedCircuits.{eight}
use Rattle.gg_flat.proofs.WorkedMemories.{copy}
use Rattle.gg_order.specs.Design.{Ordered}
use Rattle.gg_partfile.specs.declared.request.BridgeEntry.{BridgeEntry}
use Rattle.gg_partfile.specs.declared.request.Request.{Request}
use Rattle.gg_partfile.specs.Request.{no_request}
use Rattle.gg_bridge.specs.inside.Echo.{echo_piece}
use Rattle.gg_bridge.proofs.WorkedEcho.{two}
use Rattle.gg_cut_plan.specs.Bridges.{Models}
use Rattle.gg_cut_plan.specs.Ports.{open_ins, open_outs}
use Rattle.gg_cut_plan.proofs.WorkedPair.{input, output}
use Rattle.gg_order.specs.Found.{found_order}
use Rattle.gg_cut_reference.specs.inside.Whole.{driven_signal, model_signals, bridge_signal}
use Rattle.gg_cut_reference.specs.whole.Whole.{plan_circuit}

-- ---- two sums, of the input `x` and of its complement

abbrev tree : InstanceTree
tree =
    record {
      paths = [] ∷ codes "u" ∷ codes "v" ∷ [];
      instances =
          record { parent = None; «module» = 1; first = 0; end = 7; ports = input 0 ∷ output 1 ∷ output 2 ∷ []; memories = []; clocks = [] }
          ∷ record { parent = Some 0; «module» = 0; first = 3; end = 5; ports = input 3 ∷ output 4 ∷ []; memories = []; clocks = [] }
          ∷ record { parent = Some 0; «module» = 0; first = 5; end = 7; ports = input 5 ∷ output 6 ∷ []; memories = []; clocks = [] } ∷ [];
      memory_paths = [];
      memories = [];
      clocks = [];
      register_clocks = None ∷ None ∷ [];
      stops = [];
    }

abbrev design : Ordered
design = record { circuit = two; tree = tree; order = 0 ∷ 3 ∷ 4 ∷ 5 ∷ 6 ∷ 1 ∷ 2 ∷ [] }

abbrev models : Models
models = (codes "echo8", echo_piece eight) ∷ []

abbrev entry : BridgeEntry
entry = record { name = codes "echo8"; sees = codes "q" ∷ []; drives = codes "x" ∷ [] }

-- an echo sees `q` and drives `x`, and these channels are piped
abbrev asks : List (List ℕ) → Request
asks pipe = record no_request { units = codes "u" ∷ codes "v" ∷ []; pipe = pipe; bridges = entry ∷ [] }

abbrev whole : List (List ℕ) → FlatCircuit
whole pipe = plan_circuit design (asks pipe) models

-- ---- the ports

ports : (whole []).ins ∷ (whole []).outs ∷ [] ≡ [] ∷ (1 ∷ []) ∷ []
ports = refl

open-ports : open_ins two (asks []) ∷ open_outs two 2 (asks []) ∷ [] ≡ [] ∷ (1 ∷ []) ∷ []
open-ports = refl

-- what is driven is no input
driven-no-input : ¬ ((whole []).ins ≡ 0 ∷ [])
driven-no-input is = absurd (let e = ap length is in omega (arith, e))

-- what the echo sees and drives, and its own signals; behind a pipe it sees the pipe
signals : bridge_signal design (asks []) (codes "q") ∷ driven_signal design (codes "x") ∷ model_signals design (asks []) models 0 ≡ 2 ∷ 0 ∷ 7 ∷ 8 ∷ []
signals = refl

piped-signals : bridge_signal design (asks (codes "q" ∷ [])) (codes "q") ∷ driven_signal design (codes "x") ∷ model_signals design (asks (codes "q" ∷ [])) models 0 ≡ 7 ∷ 0 ∷ 8 ∷ 9 ∷ []
piped-signals = refl

-- ---- the order, and the rows

-- first the registers' signals, then what reads only them, then the rest
found : found_order (whole []) ≡ 4 ∷ 6 ∷ 8 ∷ 0 ∷ 1 ∷ 2 ∷ 3 ∷ 5 ∷ 7 ∷ []
found = refl

abbrev sums : FlatCircuit → List ℕ
sums circuit = map (λ values. value_at values 1) (rows_along circuit (found_order circuit) [] 5)

-- `p` in five cycles
row : sums (whole []) ≡ 0 ∷ 0 ∷ 0 ∷ 255 ∷ 253 ∷ []
row = refl

-- a pipe at `q` makes the echo a cycle later
piped-row : sums (whole (codes "q" ∷ [])) ≡ 0 ∷ 0 ∷ 0 ∷ 0 ∷ 255 ∷ []
piped-row = refl

-- ---- a loop

-- two signals that copy each other
abbrev looped : FlatCircuit
looped =
    record {
      paths = codes "a" ∷ codes "b" ∷ [];
      signals = copy eight 1 ∷ copy eight 0 ∷ [];
      registers = [];
      memories = [];
      ins = [];
      outs = [];
      clocks = 0;
    }

none-found : found_order looped ≡ []
none-found = refl

-- it isn't an order of it
no-order : ¬ IsOrder looped (found_order looped)
no-order is = let found = is.every 0 (omega arith) in absurd (omega (arith, found.1))
