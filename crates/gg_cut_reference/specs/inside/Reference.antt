-- More on Reference: what no promise of the program reaches.
-- Source: MEMOCODE 2009 (a buffer with a token in it at the start delays a stream by a cycle); this program's profile.
use Rattle.std.specs.Prelude.{◌≡◌, ◌⊎◌, ℕ, ◌+◌, ◌<◌, List, [], ◌∷◌, ◌++◌, codes, Some, None, length, map, slice_index_or}
use Rattle.gg_bits.specs.Shape.{Shape, shape}
use Rattle.gg_flat.specs.declared.line.Node.{Node}
use Rattle.gg_flat.specs.declared.line.Op.TheVariants.{Ref}
use Rattle.gg_flat.specs.declared.memory.Memory.{Memory}
use Rattle.gg_flat.specs.declared.piece.Register.{Register}
use Rattle.gg_flat.specs.declared.piece.Driver.TheVariants.{Held}
use Rattle.gg_flat.specs.Line.{value_at, shape_at}
use Rattle.gg_flat.specs.Circuit.{FlatCircuit, signal_shapes, driver_at}
use Rattle.gg_flat_tree.specs.Tree.{path_at}
use Rattle.gg_flat.specs.Renaming.{signals_by, renamed_driver, renamed_register, renamed_memory}
use Rattle.gg_cut_reference.specs.Reference.{Views}

-- ---- pipes

-- a register without a reset that takes signal c in each tick
pub record IsPipeRegister (register : Register) (sink : Shape) (c : ℕ) : Type 0 where
  pub type : shape register.ty ≡ sink
  pub reset : register.reset ≡ None
  pub node : Node
  pub next : register.next ≡ Some (node ∷ [])
  -- it follows no clock, so it takes a value in each tick
  pub clock : register.clock ≡ None
  pub op : node.op ≡ Ref c
  pub wide : shape node.ty ≡ sink

-- The circuit `all` is the reference circuit of `one`, where the channels of the signals in `pipes` are piped. Signals,
-- registers and memories keep their numbers, and the pipes come after them.
pub record IsReference (one all : FlatCircuit) (views : Views) (pipes : List ℕ) : Type 0 where
  pub signals : length all.signals ≡ length one.signals + length pipes
  pub shapes : (s : ℕ) → s < length one.signals → shape_at (signal_shapes all) s ≡ shape_at (signal_shapes one) s
  -- a driver names the other signals as its machine sees them
  pub drivers : (s : ℕ) → s < length one.signals → driver_at all s ≡ renamed_driver (signals_by (views.seen (views.maker s))) (driver_at one s)
  pub registers : length all.registers ≡ length one.registers + length pipes
  -- a register names signals as the machine that holds it sees them
  pub register : (r : ℕ) (any other : Register) → r < length one.registers → slice_index_or all.registers r other ≡ renamed_register (signals_by (views.seen (views.holder r))) (slice_index_or one.registers r any)
  pub memories : length all.memories ≡ length one.memories
  -- a memory names signals as the machine that has it sees them
  pub memory : (m : ℕ) (any other : Memory) → m < length one.memories → slice_index_or all.memories m other ≡ renamed_memory (signals_by (views.seen (views.keeper m))) (slice_index_or one.memories m any)
  pub paths : all.paths ≡ one.paths ++ map (λ c. codes "pipe:" ++ path_at one.paths c) pipes
  pub ins : all.ins ≡ one.ins
  -- each out-signal is what its tray sees
  pub outs : all.outs ≡ map views.kept one.outs
  pub clocks : all.clocks ≡ one.clocks
  -- a pipe has the type of its channel's signal
  pub pipe_shape : (k : ℕ) → k < length pipes → shape_at (signal_shapes all) (length one.signals + k) ≡ shape_at (signal_shapes one) (value_at pipes k)
  -- it is held by a register of its own, after the registers of `one`
  pub pipe_driver : (k : ℕ) → k < length pipes → driver_at all (length one.signals + k) ≡ Held (length one.registers + k)
  -- this register takes the value of the channel's signal in each tick
  pub pipe_register : (k : ℕ) (any : Register) → k < length pipes → IsPipeRegister (slice_index_or all.registers (length one.registers + k) any) (shape_at (signal_shapes one) (value_at pipes k)) (value_at pipes k)

-- signal t is seen as pipe k
pub record IsPiped (one : FlatCircuit) (pipes : List ℕ) (t seen : ℕ) : Type 0 where
  pub pipe : ℕ
  pub known : pipe < length pipes
  pub of : value_at pipes pipe ≡ t
  pub is : seen ≡ length one.signals + pipe

-- each signal is seen as itself or as a pipe of it
abbrev pub IsSeen : FlatCircuit → List ℕ → (ℕ → ℕ) → Type 0
IsSeen one pipes to = (t : ℕ) → (to t ≡ t) ⊎ IsPiped one pipes t (to t)

-- the piece with the paths of these signals of the reference circuit
abbrev pub with_paths : FlatCircuit → FlatCircuit → List ℕ → FlatCircuit
with_paths all piece globals = record piece { paths = map (path_at all.paths) globals }
