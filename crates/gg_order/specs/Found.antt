-- An order of evaluation, as a function of the circuit.
-- Source: A. B. Kahn, Topological sorting of large networks, CACM 1962: whatever needs only what is placed is placed next.
use Rattle.std.specs.Prelude.{ℕ, zero, suc, List, [], ◌∷◌, ◌++◌, Bool, not, ◌&&◌, ◌==◌, filter, flat_map, length}
use Rattle.std.specs.List.{list_all, list_any, range_with_len}
use Rattle.gg_flat.specs.Circuit.{FlatCircuit, driver_at}
use Rattle.gg_flat.specs.declared.line.Node.{Node}
use Rattle.gg_flat.specs.declared.line.Op.{Op}
use Rattle.gg_flat.specs.declared.line.Op.TheVariants.{Ref, Literal, One, Two, Fix, Mux}
use Rattle.gg_flat.specs.declared.piece.Driver.{Driver}
use Rattle.gg_flat.specs.declared.piece.Driver.TheVariants.{Input, Held, MemoryWord, ReadRegister, Computed}

-- the signal that a node refers to, if it is a reference; any other operation has operands that are nodes of the same line
abbrev pub op_names : Op → List ℕ
op_names (Ref s) = s ∷ []
op_names (Literal value) = []
op_names (One op i) = []
op_names (Two op i j) = []
op_names (Fix op i n m) = []
op_names (Mux c i j) = []

-- the signals that a line refers to
abbrev pub line_names : List Node → List ℕ
line_names line = flat_map (λ node. op_names node.op) line

-- the signals that a driver reads in the same tick
abbrev pub reads_of : Driver → List ℕ
reads_of (Input place) = []
reads_of (Held register) = []
reads_of (MemoryWord memory reader addr en) = addr ∷ en ∷ []
reads_of (ReadRegister memory reader) = []
reads_of (Computed line) = line_names line

-- whether a number is among these
abbrev pub is_placed : List ℕ → ℕ → Bool
is_placed placed s = list_any (λ t. t == s) placed

-- Signal s isn't placed, and all that it reads in a tick is.
abbrev pub is_ready : FlatCircuit → List ℕ → ℕ → Bool
is_ready circuit placed s = not (is_placed placed s) && list_all (is_placed placed) (reads_of (driver_at circuit s))

-- the placed signals after this many rounds; each round places all signals that are ready
abbrev pub placed_after : FlatCircuit → (rounds : ℕ) → List ℕ
placed_after circuit zero = []
placed_after circuit (suc rounds) = placed_after circuit rounds ++ filter (is_ready circuit (placed_after circuit rounds)) (range_with_len 0 (length circuit.signals))

-- the order that is found: the placed signals after as many rounds as there are signals
abbrev pub found_order : FlatCircuit → List ℕ
found_order circuit = placed_after circuit (length circuit.signals)
