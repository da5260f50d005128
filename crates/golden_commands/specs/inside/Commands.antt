-- More on Commands: definitions that no promise of the program reaches.
-- Source: this program's own.
use Rattle.std.specs.Prelude.{ℕ, List}
use Rattle.gg_io.specs.Order.{Order, Load}
use Rattle.golden_commands.specs.Partition.{Known}
use Rattle.golden_commands.specs.Run.{trace_file_for}
use Rattle.golden_commands.specs.Commands.{Asked, read_order}

-- the order of a command that reads a circuit, a partition, and a trace for them
abbrev pub fed_order : Known → Asked → (trace : List ℕ) → (next : (circuit partition trace : List ℕ) → Order) → Order
fed_order known asked trace next = read_order known asked (λ c p. Load (trace_file_for c p trace) (next c p))
