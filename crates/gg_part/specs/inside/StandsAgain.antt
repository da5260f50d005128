-- All that a part of a circuit has occurs in the circuit a second time, with other numbers.
-- Source: MEMOCODE 2009 (a synchronous design as a network of its parts); ICCAD 2019 (one part that serves several instances of a module).
use Rattle.std.specs.Prelude.{◌≡◌, ◌≢◌, ℕ, ◌<◌, List, length, map, slice_index_or, AllPairs}
use Rattle.gg_flat.specs.declared.memory.Memory.{Memory}
use Rattle.gg_flat.specs.declared.piece.Driver.TheVariants.{Input}
use Rattle.gg_flat.specs.declared.piece.Register.{Register}
use Rattle.gg_flat.specs.Circuit.{FlatCircuit, signal_shapes, driver_at}
use Rattle.gg_flat.specs.Line.{shape_at, value_at}
use Rattle.gg_flat_tree.specs.Tree.{path_at}
use Rattle.gg_flat.specs.Renaming.{numbers_by, renamed_driver, renamed_memory, renamed_register, signals_by}

-- A register occurs again under another number.
pub record IsRegisterAgain (whole : FlatCircuit) (signals : ℕ → ℕ) (r other : ℕ) : Type 0 where
  pub within : other < length whole.registers
  pub is : (any : Register) → slice_index_or whole.registers other any ≡ renamed_register (signals_by signals) (slice_index_or whole.registers r any)

-- A memory occurs again under another number.
pub record IsMemoryAgain (whole : FlatCircuit) (signals : ℕ → ℕ) (m other : ℕ) : Type 0 where
  pub within : other < length whole.memories
  pub is : (any : Memory) → slice_index_or whole.memories other any ≡ renamed_memory (signals_by signals) (slice_index_or whole.memories m any)

-- The part has these signals, registers and memories of the whole circuit. Each of them occurs there again, under the number that
-- `signals`, `registers` and `memories` give it: a signal with the same type and, unless the part gets it from outside, the same driver; no
-- two under one number.
pub record StandsAgain (whole part : FlatCircuit) (globals held banks : List ℕ) (signals registers memories : ℕ → ℕ) : Type 0 where
  pub within : (s : ℕ) → s < length globals → signals (value_at globals s) < length whole.signals
  pub once : AllPairs (λ a b. a ≢ b) (map signals globals)
  pub shapes : (s : ℕ) → s < length globals → shape_at (signal_shapes whole) (signals (value_at globals s)) ≡ shape_at (signal_shapes whole) (value_at globals s)
  pub drivers : (s : ℕ) → s < length globals → ((place : ℕ) → driver_at part s ≢ Input place) → driver_at whole (signals (value_at globals s)) ≡ renamed_driver (numbers_by signals registers memories) (driver_at whole (value_at globals s))
  pub register : (r : ℕ) → r < length held → IsRegisterAgain whole signals (value_at held r) (registers (value_at held r))
  pub memories_once : AllPairs (λ a b. a ≢ b) (map memories banks)
  pub memory : (m : ℕ) → m < length banks → IsMemoryAgain whole signals (value_at banks m) (memories (value_at banks m))

-- the part with the paths of the signals with these numbers
abbrev pub placed_at : FlatCircuit → FlatCircuit → List ℕ → FlatCircuit
placed_at whole part globals = record part { paths = map (path_at whole.paths) globals }
