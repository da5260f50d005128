-- The reference circuit as a function.
-- Source: this program's profile (the numbers and the paths of pipes).
use Rattle.std.specs.Prelude.{◌≡◌, ◌≢◌, ◌==◌, ℕ, suc, ◌<◌, Bool, false, unwrap_or, List, [], ◌∷◌, ◌++◌, Some, None, codes, length, map, slice_get, option_map, option_to_list}
use Rattle.gg_flat.specs.declared.line.Op.TheVariants.{Ref}
use Rattle.gg_flat.specs.declared.piece.Signal.{Signal}
use Rattle.gg_flat.specs.declared.piece.Register.{Register}
use Rattle.std.specs.List.{range_with_len}
use Rattle.gg_bits.specs.Lists.{by_number}
use Rattle.gg_flat.specs.declared.piece.Driver.{Driver}
use Rattle.gg_flat.specs.declared.piece.Driver.TheVariants.{Input, Held, MemoryWord, ReadRegister, Computed}
use Rattle.gg_flat.specs.Circuit.{FlatCircuit, driver_at}
use Rattle.gg_flat_tree.specs.Tree.{InstanceTree, path_at}
use Rattle.gg_partfile.specs.declared.request.BridgeEntry.{BridgeEntry}
use Rattle.gg_cut_plan.specs.declared.listed.Listed.{Listed}
use Rattle.gg_cut_plan.specs.Listed.{first_place, listed_of, memory_owner}
use Rattle.gg_cut_plan.specs.Direct.{Hub, hub_of, is_piped, plan_hub}
use Rattle.gg_order.specs.Design.{Ordered}
use Rattle.gg_partfile.specs.declared.request.Request.{Request}
use Rattle.gg_cut_reference.specs.Reference.{Views}
use Rattle.gg_cut_reference.specs.Links.{pipes_of, maker_of, seen_by, views_of}
use Rattle.gg_flat.specs.Renaming.{renamed_driver, renamed_memory, renamed_register, signals_by}

-- a signal; its driver names the other signals as the driver's machine sees them
abbrev pub seen_signal : Views → ℕ → Signal → Signal
seen_signal views s signal = record { ty = signal.ty; driver = renamed_driver (signals_by (views.seen (views.maker s))) signal.driver }

-- the pipe of a channel of this type, which holds register r
abbrev pub pipe_signal : ℕ → Signal → Signal
pipe_signal r signal = record { ty = signal.ty; driver = Held r }

-- the register of the pipe of the channel of signal c
abbrev pub pipe_register : ℕ → Signal → Register
pipe_register c signal = record { ty = signal.ty; reset = None; next = Some (record { ty = signal.ty; op = Ref c } ∷ []); clock = None }

-- the pipes of the channels of these signals, in order; the first of them holds register r, the next one register r + 1
abbrev pub pipe_signals : List Signal → ℕ → List ℕ → List Signal
pipe_signals signals r [] = []
pipe_signals signals r (c ∷ cs) = option_to_list (option_map (pipe_signal r) (slice_get signals c)) ++ pipe_signals signals (suc r) cs

-- the registers of the pipes of the channels of these signals, in the same order
abbrev pub pipe_registers : List Signal → List ℕ → List Register
pipe_registers signals [] = []
pipe_registers signals (c ∷ cs) = option_to_list (option_map (pipe_register c) (slice_get signals c)) ++ pipe_registers signals cs

-- the reference circuit of `one`, where the channels of the signals in `pipes` are piped
abbrev pub reference_of : FlatCircuit → Views → List ℕ → FlatCircuit
reference_of one views pipes =
    record {
      paths = one.paths ++ map (λ c. codes "pipe:" ++ path_at one.paths c) pipes;
      signals = by_number (seen_signal views) 0 one.signals ++ pipe_signals one.signals (length one.registers) pipes;
      registers = by_number (λ r register. renamed_register (signals_by (views.seen (views.holder r))) register) 0 one.registers ++ pipe_registers one.signals pipes;
      memories = by_number (λ m memory. renamed_memory (signals_by (views.seen (views.keeper m))) memory) 0 one.memories;
      ins = one.ins;
      outs = map views.kept one.outs;
      clocks = one.clocks;
    }

-- the reference circuit of a cut
abbrev pub reference : Hub → (ℕ → ℕ) → (ℕ → ℕ) → FlatCircuit
reference hub holder keeper = reference_of hub.circuit (views_of hub holder keeper) (pipes_of hub)

-- Register r is held by a signal.
pub record HasHolder (circuit : FlatCircuit) (r : ℕ) : Type 0 where
  pub signal : ℕ
  pub within : signal < length circuit.signals
  pub holds : driver_at circuit signal ≡ Held r

-- each register is held by a signal
abbrev pub AllHeld : FlatCircuit → Type 0
AllHeld circuit = (r : ℕ) → r < length circuit.registers → HasHolder circuit r

-- No path of the circuit begins with `pipe:`.
abbrev pub IsFresh : FlatCircuit → Type 0
IsFresh circuit = (s : ℕ) (path : List ℕ) → s < length circuit.signals → path_at circuit.paths s ≢ codes "pipe:" ++ path

-- ---- holders and keepers

-- a driver holds register r
abbrev pub holds : ℕ → Driver → Bool
holds r (Input place) = false
holds r (Held register) = register == r
holds r (MemoryWord memory reader addr en) = false
holds r (ReadRegister memory reader) = false
holds r (Computed line) = false

-- The machine with the driver that holds the register. A register that no signal holds is the hub's.
abbrev pub holder_of : Hub → ℕ → ℕ
holder_of hub r = unwrap_or (option_map (maker_of hub) (first_place (λ s. holds r (driver_at hub.circuit s)) (range_with_len 0 (length hub.circuit.signals)))) 0

-- the machine of a memory of the circuit, by the place that the memory has in the tree
abbrev pub keeper_of : InstanceTree → Listed → ℕ → ℕ
keeper_of tree listed m = memory_owner tree listed (unwrap_or (first_place (λ memory. memory.memory == m) tree.memories) 0)

-- the reference circuit of the cut, with the views of its hub
abbrev pub reference_circuit : FlatCircuit → InstanceTree → Listed → (piped : ℕ → Bool) → List BridgeEntry → Bool → FlatCircuit
reference_circuit circuit tree listed piped entries direct = reference (hub_of circuit tree listed piped entries direct) (holder_of (hub_of circuit tree listed piped entries direct)) (keeper_of tree listed)

-- The circuit that a request's network computes: the design's, with the registers of the request's pipes.
abbrev pub plan_reference : Ordered → Request → FlatCircuit
plan_reference design request = reference_circuit design.circuit design.tree (listed_of design.tree request) (is_piped design.circuit request) request.bridges request.direct

-- the signal of the reference circuit that machine m of a request's cut sees as signal t of the design
abbrev pub plan_seen : Ordered → Request → ℕ → ℕ → ℕ
plan_seen design request m t = seen_by (plan_hub design.circuit design.tree request) m t
