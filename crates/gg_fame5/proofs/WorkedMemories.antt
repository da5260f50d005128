-- Units with a memory inside, for each read latency and each read-under-write behaviour, driven by hand over five cycles.
use Rattle.std.proofs.Common.{◌≡◌, ℕ, zero, suc, List, [], ◌∷◌, Some, None, false, length, map, refl}
use Rattle.gg_flat.specs.declared.memory.UnderWrite.{UnderWrite}
use Rattle.gg_flat.specs.declared.memory.UnderWrite.TheVariants.{Old, New, Undefined}
use Rattle.gg_flat.specs.Line.{value_at}
use Rattle.gg_flat.specs.State.{State, next_state}
use Rattle.gg_flat.specs.Run.{inputs_at}
use Rattle.gg_flat.specs.Along.{settled_along}
use Rattle.gg_flat.proofs.WorkedMemories.{ports, ports_order, late, late_order, late_inputs}
use Rattle.gg_node.specs.Machine.{Machine, missing, latched_values}
use Rattle.gg_node.specs.Step.{with_latch, with_flag, finished}
use Rattle.gg_program.specs.Programmed.{Programmed}
use Rattle.gg_fame5.specs.Machine.{unit_machine}
use Rattle.gg_fame5.specs.inside.Machine.{opening_unit}

-- a machine with these tokens put into its latches from place i on, and the flags of its first outs set
abbrev latched : ℕ → List ℕ → Machine → Machine
latched i [] machine = machine
latched i (token ∷ tokens) machine = latched (suc i) tokens (with_latch machine i token)

abbrev fired : ℕ → Machine → Machine
fired zero machine = machine
fired (suc out) machine = with_flag (fired out machine) out

module _ (program : Programmed) (order : List ℕ) where
  -- the settled row of a machine's cycle, with all its tokens
  abbrev row : Machine → List ℕ
  row machine = settled_along program.circuit order machine.state (latched_values machine.latches)

  -- a machine that has all tokens of its cycle, and has given all
  abbrev whole : List (List ℕ) → Machine → Machine
  whole columns machine = fired (length program.circuit.outs) (latched 0 (inputs_at columns machine.cycle) machine)

  -- a machine in its next cycle
  abbrev next : List (List ℕ) → Machine → Machine
  next columns machine = finished (whole columns machine) (next_state [] program.circuit machine.state (row (whole columns machine)))

  -- a machine after n cycles from the opening
  abbrev after : List (List ℕ) → ℕ → Machine
  after columns zero = opening_unit program []
  after columns (suc n) = next columns (after columns n)

  -- what its outs give in cycle n
  abbrev given : List (List ℕ) → ℕ → List ℕ
  given columns n = map (λ s. value_at (row (whole columns (after columns n))) s) program.circuit.outs

  abbrev five : List (List ℕ) → List (List ℕ)
  five columns = given columns 0 ∷ given columns 1 ∷ given columns 2 ∷ given columns 3 ∷ given columns 4 ∷ []

-- a state of one memory
abbrev holds : List ℕ → List ℕ → State
holds words reads = record { registers = []; banks = record { words = words; reads = reads } ∷ [] }

-- ---- late readers: the out needs nothing

abbrev late_program : UnderWrite → Programmed
late_program under = record { circuit = late under; needs = [] ∷ [] }

late-needs : (under : UnderWrite) → missing (opening_unit (late_program under) []) 0 ≡ None
late-needs under = refl

late-new : five (late_program New) late_order late_inputs ≡ (0 ∷ []) ∷ (17 ∷ []) ∷ (0 ∷ []) ∷ (0 ∷ []) ∷ (68 ∷ []) ∷ []
late-new = refl

late-old : five (late_program Old) late_order late_inputs ≡ (0 ∷ []) ∷ (0 ∷ []) ∷ (0 ∷ []) ∷ (0 ∷ []) ∷ (34 ∷ []) ∷ []
late-old = refl

late-undefined : five (late_program Undefined) late_order late_inputs ≡ (0 ∷ []) ∷ (0 ∷ []) ∷ (0 ∷ []) ∷ (0 ∷ []) ∷ (34 ∷ []) ∷ []
late-undefined = refl

late-end : after (late_program New) late_order late_inputs 5 ≡ unit_machine (late_program New) [] 5 (holds (0 ∷ 68 ∷ 0 ∷ []) (0 ∷ [])) (None ∷ None ∷ None ∷ []) (false ∷ [])
late-end = refl

-- ---- readers of latency 0: an out needs the ins that the address and the enable of its reader need

abbrev ports_program : Programmed
ports_program = record { circuit = ports; needs = (0 ∷ []) ∷ (0 ∷ 1 ∷ []) ∷ [] }

-- `a` is 1, 1, 3, 1, 2, and `v` is 0f, 21, 55, 00, 07
abbrev ports_inputs : List (List ℕ)
ports_inputs = (1 ∷ 1 ∷ 3 ∷ 1 ∷ 2 ∷ []) ∷ (15 ∷ 33 ∷ 85 ∷ 0 ∷ 7 ∷ []) ∷ []

first-needs-a : missing (opening_unit ports_program []) 0 ≡ Some 0
first-needs-a = refl

first-with-a : missing (with_latch (opening_unit ports_program []) 0 1) 0 ≡ None
first-with-a = refl

second-needs-v : missing (with_latch (opening_unit ports_program []) 0 1) 1 ≡ Some 1
second-needs-v = refl

ports-given : five ports_program ports_order ports_inputs ≡ (0 ∷ 0 ∷ []) ∷ (240 ∷ 240 ∷ []) ∷ (0 ∷ 0 ∷ []) ∷ (222 ∷ 0 ∷ []) ∷ (0 ∷ 0 ∷ []) ∷ []
ports-given = refl

ports-end : after ports_program ports_order ports_inputs 5 ≡ unit_machine ports_program [] 5 (holds (0 ∷ 255 ∷ 248 ∷ []) []) (None ∷ None ∷ []) (false ∷ false ∷ [])
ports-end = refl
