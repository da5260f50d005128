-- More on Machine: what no promise of the program reaches.
-- Source: MEMOCODE 2009 (a bounded dataflow network: primitive nodes with a latch for each input and a flag for each
-- output that was given in this cycle); ICCAD 2019 (units of a target in separate models; memories that a host serves
-- port by port).
use Rattle.std.specs.Prelude.{ℕ, ◌-◌, Option, Some, None, slice_get, ⊤}
use Rattle.gg_node.specs.Machine.{Behaviour, GivesColumn, KeepsLast, Machine, Port, RunsPiece}

-- the number of a port, if there is one
abbrev pub port_number : Option Port → Option ℕ
port_number None = None
port_number (Some port) = Some port.number

-- the number of the port that has to be served next; None if no port is left
abbrev pub due : Machine → Option ℕ
due machine = port_number (slice_get machine.ports machine.served)

-- ---- the two machines without a piece

-- a machine keeps the last values that it gets
abbrev pub IsTray : Behaviour → Type 0
IsTray (RunsPiece piece) = ⊥
IsTray (GivesColumn column) = ⊥
IsTray (KeepsLast rows) = ⊤
