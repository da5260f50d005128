-- Who names what, by tables.
-- Source: this program's profile.
use Rattle.std.specs.Prelude.{◌≡◌, ℕ, ◌<◌, List, ◌==◌, if◌then◌else◌, ◌+◌, ◌^◌, ◌≢◌, [], length, map, filter, replicate, slice_set, All, AllPairs}
use Rattle.std.specs.List.{list_any, range_with_len}
use Rattle.gg_flat.specs.declared.piece.Driver.{Driver}
use Rattle.gg_flat.specs.declared.piece.Driver.TheVariants.{Input, Held, MemoryWord, ReadRegister, Computed}
use Rattle.gg_flat.specs.Circuit.{FlatCircuit, driver_at}
use Rattle.gg_flat.specs.Line.{value_at}
use Rattle.gg_cut_reference.specs.Reference.{Views}
use Rattle.gg_cut_plan.specs.declared.listed.Listed.{Listed}
use Rattle.gg_cut_plan.specs.declared.plan.Channel.{Channel}
use Rattle.gg_cut_plan.specs.Listed.{owner_of, memory_owner}
use Rattle.gg_cut_plan.specs.Channels.{wires_of}
use Rattle.gg_cut_plan.specs.Plan.{IsInner}
use Rattle.gg_order.specs.Design.{Ordered}
use Rattle.gg_cut_split.specs.declared.owned.Owned.{Owned}
use Rattle.gg_cut_plan.specs.Held.{AreHeldOnce}
use Rattle.gg_cut_pipes.specs.declared.tables.Tables.{Tables}

-- the number that the consumer of a signal's channel sees the signal by: the pipe's, or its own. No pipe has the number 0.
abbrev pub kept_in : Tables → ℕ → ℕ
kept_in tables s = if value_at tables.pipes s == 0 then s else value_at tables.pipes s

-- the number that a machine sees a signal by
abbrev pub seen_in : Tables → ℕ → ℕ → ℕ
seen_in tables m s = if value_at tables.takers s == m then kept_in tables s else s

-- who names what, as the tables have it
abbrev pub views_by : Tables → Views
views_by tables =
    record {
      maker = value_at tables.makers;
      holder = value_at tables.holders;
      keeper = value_at tables.keepers;
      seen = seen_in tables;
      kept = kept_in tables;
    }

-- Each of the first k values is written at its place. Otherwise nothing changes.
pub record IsFilled (places values : List ℕ) (k : ℕ) (before after : List ℕ) : Type 0 where
  pub count : length after ≡ length before
  pub put : (i : ℕ) → i < k → value_at after (value_at places i) ≡ value_at values i
  pub rest : (s : ℕ) → ((i : ℕ) → i < k → ¬ (value_at places i ≡ s)) → value_at after s ≡ value_at before s

-- a register that a driver holds gets this machine
abbrev pub held_by : ℕ → Driver → List ℕ → List ℕ
held_by maker (Input place) holders = holders
held_by maker (Held register) holders = slice_set holders register maker
held_by maker (MemoryWord memory reader addr en) holders = holders
held_by maker (ReadRegister memory reader) holders = holders
held_by maker (Computed line) holders = holders

-- Each register that one of the first k signals holds has the signal's maker, and the others are as they were.
pub record AreHolding (one : FlatCircuit) (makers : List ℕ) (k : ℕ) (before after : List ℕ) : Type 0 where
  pub count : length after ≡ length before
  pub held : (s r : ℕ) → s < k → driver_at one s ≡ Held r → value_at after r ≡ value_at makers s
  pub rest : (r : ℕ) → ((s : ℕ) → s < k → ¬ (driver_at one s ≡ Held r)) → value_at after r ≡ value_at before r

-- ---- the tables of a plan

-- the signals of the piped channels, in the order of the channels
abbrev pub piped_places : List Channel → List ℕ
piped_places channels = map (λ channel. channel.signal) (filter (λ channel. channel.pipe) channels)

-- the machines that take the piped channels, in the order of the channels
abbrev pub piped_takers : List Channel → List ℕ
piped_takers channels = map (λ channel. channel.consumer) (filter (λ channel. channel.pipe) channels)

-- the signals of the piped channels, by their numbers, in a circuit with `count` signals
abbrev pub piped_signals : ℕ → List Channel → List ℕ
piped_signals count channels = filter (λ s. list_any (λ place. s == place) (piped_places channels)) (range_with_len 0 count)

-- the channels of a cut, and the owners of its signals and memories
pub record AreOwned (design : Ordered) (listed : Listed) (owned : Owned) : Type 0 where
  pub wires : owned.wires ≡ wires_of design.circuit design.tree listed []
  pub count : length owned.signals ≡ length design.circuit.signals
  pub signals : (s : ℕ) → s < length design.circuit.signals → IsInner owned.wires s → value_at owned.signals s ≡ owner_of design.circuit design.tree listed s
  pub memories : (place : ℕ) → place < length design.tree.memories → value_at owned.memories place ≡ memory_owner design.tree listed place

-- These are signals of the circuit, each once: the signals of the piped channels, the signals of the pipes, and the signals of the channels before
-- the routing. Each driver that holds a register holds one of the circuit, and no two the same.
pub record CanFill (one : FlatCircuit) (channels : List Channel) (pipes : List ℕ) (owned : Owned) : Type 0 where
  pub places : All (λ s. s < length one.signals) (piped_places channels)
  pub places_once : AllPairs (λ a b. a ≢ b) (piped_places channels)
  pub known : All (λ s. s < length one.signals) pipes
  pub once : AllPairs (λ a b. a ≢ b) pipes
  pub few : length one.signals + length pipes < 2 ^ 32
  pub held : AreHeldOnce one
  pub registers : (s r : ℕ) → s < length one.signals → driver_at one s ≡ Held r → r < length one.registers
  pub wires : All (λ w. w.signal < length owned.signals) owned.wires
  pub wires_once : AllPairs (λ v w. v.signal ≢ w.signal) owned.wires

-- The tables of a circuit's channels: by signal its pipe, the machine that takes it there and the machine that gives it, by register the
-- machine that holds it, and by memory the machine that has it. A signal without a pipe has 0 in place of one.
pub record AreTables (one : FlatCircuit) (channels : List Channel) (signals : List ℕ) (owned : Owned) (tables : Tables) : Type 0 where
  pub pipes : IsFilled signals (range_with_len (length one.signals) (length signals)) (length signals) (replicate (length one.signals) 0) tables.pipes
  pub takers : IsFilled (piped_places channels) (piped_takers channels) (length (piped_places channels)) (replicate (length one.signals) 0) tables.takers
  pub makers : IsFilled (map (λ w. w.signal) owned.wires) (map (λ w. w.producer) owned.wires) (length owned.wires) owned.signals tables.makers
  pub holders : AreHolding one tables.makers (length one.signals) (replicate (length one.registers) 0) tables.holders
  pub keepers : tables.keepers ≡ owned.memories
