-- The memories of two circuits of gg_flat, each served port by port over its cycles: it gives the data that it gives inside
-- its circuit, and holds in the end what it holds there.
use Rattle.std.proofs.Common.{◌≡◌, ℕ, List, [], ◌∷◌, ◌++◌, Some, None, map, refl}
use Rattle.gg_flat.specs.declared.memory.UnderWrite.{UnderWrite}
use Rattle.gg_flat.specs.declared.memory.UnderWrite.TheVariants.{Old, New, Undefined}
use Rattle.gg_flat.specs.declared.memory.Latency.{Latency}
use Rattle.gg_flat.specs.declared.memory.Latency.TheVariants.{Zero, One}
use Rattle.gg_flat.specs.declared.memory.Reader.{Reader}
use Rattle.gg_flat.specs.declared.memory.Writer.{Writer}
use Rattle.gg_flat.specs.Line.{value_at}
use Rattle.gg_flat.specs.State.{State}
use Rattle.gg_flat.specs.Memory.{bank_at, found_word}
use Rattle.gg_flat.specs.Run.{column, opening_start, state_at}
use Rattle.gg_flat.specs.inside.Along.{rows_along}
use Rattle.gg_flat.proofs.WorkedMemories.{ports, ports_order, late, late_order, late_inputs}
use Rattle.gg_memunit.specs.MemoryUnit.{ports_by}
use Rattle.gg_memunit.specs.inside.MemoryUnit.{state_of, accessed_by}

-- the state after a cycle in which the ins have these tokens, and all ports are served
abbrev served : Latency → List Reader → List Writer → State → List ℕ → State
served latency readers writers state inputs = accessed_by [] (map Some inputs) state (ports_by latency readers writers)

-- the states before each cycle, and the last
abbrev states : Latency → List Reader → List Writer → State → List (List ℕ) → List State
states latency readers writers state [] = state ∷ []
states latency readers writers state (inputs ∷ cycles) = state ∷ states latency readers writers (served latency readers writers state inputs) cycles

abbrev last_of : State → List State → State
last_of state [] = state
last_of state (next ∷ more) = last_of next more

-- ---- three words, a late reader and a writer that is always enabled, both at the address `a`; `e` enables the reader

abbrev r : Reader
r = record { addr = 0; en = 1; word = 6; clock = None }

abbrev w : Writer
w = record { addr = 2; en = 3; word = 4; mask = 5; clock = None }

-- `a` is 1, 1, 3, 1, 0, `e` is 1, 0, 1, 1, 0, and `v` is 11, 22, 33, 44, 00
abbrev late_cycles : List (List ℕ)
late_cycles = (1 ∷ 1 ∷ 1 ∷ 1 ∷ 17 ∷ 1 ∷ []) ∷ (1 ∷ 0 ∷ 1 ∷ 1 ∷ 34 ∷ 1 ∷ []) ∷ (3 ∷ 1 ∷ 3 ∷ 1 ∷ 51 ∷ 1 ∷ []) ∷ (1 ∷ 1 ∷ 1 ∷ 1 ∷ 68 ∷ 1 ∷ []) ∷ (0 ∷ 0 ∷ 0 ∷ 1 ∷ 0 ∷ 1 ∷ []) ∷ []

abbrev empty : List ℕ → State
empty reads = state_of (record { words = 0 ∷ 0 ∷ 0 ∷ []; reads = reads })

abbrev late_states : UnderWrite → List State
late_states under = states (One under) (r ∷ []) (w ∷ []) (empty (0 ∷ [])) late_cycles

-- the data of the reader in each cycle is its read register
abbrev late_data : UnderWrite → List ℕ
late_data under = map (λ (state : State). value_at (bank_at state.banks 0).reads 0) (late_states under)

-- the data of the five cycles is the data inside the circuit; the data of the next cycle follows
data-new : late_data New ≡ column (rows_along (late New) late_order late_inputs 5) 6 ++ 0 ∷ []
data-new = refl

data-old : late_data Old ≡ column (rows_along (late Old) late_order late_inputs 5) 6 ++ 0 ∷ []
data-old = refl

data-undefined : late_data Undefined ≡ column (rows_along (late Undefined) late_order late_inputs 5) 6 ++ 0 ∷ []
data-undefined = refl

-- `New` and `Old` give different data
reads-new : late_data New ≡ 0 ∷ 17 ∷ 0 ∷ 0 ∷ 68 ∷ 0 ∷ []
reads-new = refl

reads-old : late_data Old ≡ 0 ∷ 0 ∷ 0 ∷ 0 ∷ 34 ∷ 0 ∷ []
reads-old = refl

holds-new : last_of (empty []) (late_states New) ≡ state_at (late New) (opening_start (late New)) (rows_along (late New) late_order late_inputs 5) 5
holds-new = refl

holds-old : last_of (empty []) (late_states Old) ≡ state_at (late Old) (opening_start (late Old)) (rows_along (late Old) late_order late_inputs 5) 5
holds-old = refl

-- ---- three words, two readers of latency 0 and two writers, all at the address `a`; the last bit of `v` enables the second
-- reader; the first writer writes `v`, and the second its complement

abbrev readers : List Reader
readers = record { addr = 0; en = 1; word = 12; clock = None } ∷ record { addr = 2; en = 3; word = 13; clock = None } ∷ []

abbrev writers : List Writer
writers = record { addr = 4; en = 5; word = 6; mask = 7; clock = None } ∷ record { addr = 8; en = 9; word = 10; mask = 11; clock = None } ∷ []

-- `a` is 1, 1, 3, 1, 2, and `v` is 0f, 21, 55, 00, 07
abbrev ports_inputs : List (List ℕ)
ports_inputs = (1 ∷ 1 ∷ 3 ∷ 1 ∷ 2 ∷ []) ∷ (15 ∷ 33 ∷ 85 ∷ 0 ∷ 7 ∷ []) ∷ []

abbrev fields : ℕ → ℕ → ℕ → ℕ → List ℕ
fields a odd v complement = a ∷ 1 ∷ a ∷ odd ∷ a ∷ 1 ∷ v ∷ 1 ∷ a ∷ 1 ∷ complement ∷ 1 ∷ []

abbrev ports_cycles : List (List ℕ)
ports_cycles = fields 1 1 15 240 ∷ fields 1 1 33 222 ∷ fields 3 1 85 170 ∷ fields 1 0 0 255 ∷ fields 2 1 7 248 ∷ []

abbrev ports_states : List State
ports_states = states Zero readers writers (empty []) ports_cycles

-- the data of a reader in each cycle is the word that it finds
abbrev found : Reader → List State → List (List ℕ) → List ℕ
found reader [] cycles = []
found reader (state ∷ states) [] = []
found reader (state ∷ states) (inputs ∷ cycles) = found_word inputs (bank_at state.banks 0).words reader ∷ found reader states cycles

first-data : found (record { addr = 0; en = 1; word = 12; clock = None }) ports_states ports_cycles ≡ column (rows_along ports ports_order ports_inputs 5) 6
first-data = refl

second-data : found (record { addr = 2; en = 3; word = 13; clock = None }) ports_states ports_cycles ≡ column (rows_along ports ports_order ports_inputs 5) 9
second-data = refl

-- the later writer wins, and nothing is read past the depth
first-reads : found (record { addr = 0; en = 1; word = 12; clock = None }) ports_states ports_cycles ≡ 0 ∷ 240 ∷ 0 ∷ 222 ∷ 0 ∷ []
first-reads = refl

holds-ports : last_of (empty []) ports_states ≡ state_at ports (opening_start ports) (rows_along ports ports_order ports_inputs 5) 5
holds-ports = refl

words-ports : last_of (empty []) ports_states ≡ state_of (record { words = 0 ∷ 255 ∷ 248 ∷ []; reads = [] })
words-ports = refl
