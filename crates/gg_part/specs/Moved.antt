-- Parts of a flat circuit with other numbers.
-- Source: FIRRTL Specification, "Instances": each instance of a module has all that the module declares, so all that one has another has
-- too, under other names.
use Rattle.std.specs.Prelude.{◌≡◌, ℕ, ◌+◌, ◌-◌, List, None, map}
use Rattle.gg_flat.specs.declared.memory.Memory.{Memory}
use Rattle.gg_flat.specs.declared.memory.Reader.{Reader}
use Rattle.gg_flat.specs.declared.memory.Writer.{Writer}
use Rattle.gg_flat.specs.declared.piece.Register.{Register}
use Rattle.gg_flat.specs.declared.piece.Reset as kept
use Rattle.gg_flat_tree.specs.declared.tree.InstancePort.{InstancePort}
use Rattle.gg_flat_tree.specs.declared.tree.StopInstance.{StopInstance}
use Rattle.gg_flat_tree.specs.Tree.{joined}

-- ---- paths

-- Path a is path `from` with a rest, and path b is path `to` with the same rest.
pub record IsMoved (from to a b : List ℕ) : Type 0 where
  pub rest : List ℕ
  pub one : a ≡ joined from rest
  pub other : b ≡ joined to rest

-- ---- numbers that move

-- the number that is as far from `to` as s is from `from`
abbrev pub shifted : ℕ → ℕ → ℕ → ℕ
shifted from to s = s - from + to

-- a stop, with other numbers of its instance and of its signal
abbrev pub moved_stop : (ℕ → ℕ) → (ℕ → ℕ) → StopInstance → StopInstance
moved_stop instances to stop = record { instance = instances stop.instance; signal = to stop.signal; clock = stop.clock }

-- ---- without clocks

-- a register without its clock
abbrev pub unclocked_register : Register → Register
unclocked_register register = record register { clock = None }

-- a reader without its clock
abbrev pub unclocked_reader : Reader → Reader
unclocked_reader reader = record reader { clock = None }

-- a writer without its clock
abbrev pub unclocked_writer : Writer → Writer
unclocked_writer writer = record writer { clock = None }

-- a memory without the clocks of its ports
abbrev pub unclocked_memory : Memory → Memory
unclocked_memory memory =
    record memory {
      readers = map (λ reader. unclocked_reader reader) memory.readers;
      writers = map (λ writer. unclocked_writer writer) memory.writers;
    }

-- ---- ports

-- a port of an instance, with another number of its signal
abbrev pub moved_port : (ℕ → ℕ) → InstancePort → InstancePort
moved_port to port = record { signal = to port.signal; is_input = port.is_input }
