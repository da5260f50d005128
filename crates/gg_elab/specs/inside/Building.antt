-- A flat circuit while it is built, signal by signal.
use Rattle.std.specs.Prelude.{◌≡◌, ℕ, ◌<◌, List, [], ◌∷◌, ◌++◌, Option, None, MatchOption, All, Bool, true, false, length, map, option_to_list, slice_index_or}
use Rattle.gg_bits.specs.Shape.{Shape}
use Rattle.gg_bits.specs.declared.types.Ty.{Ty}
use Rattle.gg_flat.specs.declared.piece.Driver.{Driver}
use Rattle.gg_flat.specs.declared.piece.Driver.TheVariants.{Input, Held, MemoryWord, ReadRegister, Computed}
use Rattle.gg_flat.specs.declared.piece.Register.{Register}
use Rattle.gg_flat.specs.declared.memory.Memory.{Memory}
use Rattle.gg_flat.specs.Circuit.{FlatCircuit, signal_shapes, driver_at}
use Rattle.gg_flat.specs.Line.{shape_at, HasType}
use Rattle.gg_flat.specs.WellFormed.{IsRegister}
use Rattle.gg_elab_tree.specs.inside.Fitting.{FitsDriver}
use Rattle.gg_elab_sites.specs.declared.digest.OwnMemory.{OwnMemory}
use Rattle.gg_elab_sites.specs.Flat.{Drive, Outside, Gets, Holds, Answers, FlatSignal, FlatMemory, flat_memory}
use Rattle.gg_elab_sites.specs.IsFlat.{IsComputed, IsRegisterOf, IsDriven, answer, number_of, is_outside, is_register, count_before, IsMemoryOf}
use Rattle.gg_elab_sites.specs.Meaning.{Bindings, in_scope}
use Rattle.gg_elab_sites.specs.Known.{types_of}
use Rattle.gg_elab_sites.specs.inside.Views.{own_bank_of, site_of, table_bindings}
use Rattle.gg_elab.specs.declared.site.Site.{Site}

-- A driver and a register, if there is one, are made for a signal with this drive.
abbrev pub IsMade : Bindings → ℕ → ℕ → Shape → Drive → Driver → Option Register → Type 0
IsMade bindings inputs states sink Outside driver register = (driver ≡ Input inputs) × (register ≡ None)
IsMade bindings inputs states sink (Gets scope c) driver register = IsComputed (in_scope bindings scope) sink c driver × (register ≡ None)
IsMade bindings inputs states sink (Holds scope reset next own clock) driver register =
    (driver ≡ Held states) × MatchOption register ⊥ (IsRegisterOf (in_scope bindings scope) sink reset next clock)
IsMade bindings inputs states sink (Answers memory place latency addr en) driver register =
    (driver ≡ answer latency (number_of bindings.memories memory) place (number_of bindings.signals.paths addr) (number_of bindings.signals.paths en)) × (register ≡ None)

-- whether a signal is driven from outside
abbrev pub is_input_driver : Driver → Bool
is_input_driver (Input place) = true
is_input_driver (Held register) = false
is_input_driver (MemoryWord memory reader addr en) = false
is_input_driver (ReadRegister memory reader) = false
is_input_driver (Computed line) = false

-- a flat circuit with one more signal, and the register that the signal holds, if any
abbrev pub with_made : FlatCircuit → List ℕ → Ty → Driver → Option Register → FlatCircuit
with_made flat path ty driver register =
    record flat {
      paths = flat.paths ++ path ∷ [];
      signals = flat.signals ++ (record { ty = ty; driver = driver }) ∷ [];
      registers = flat.registers ++ option_to_list register;
    }

-- The flat circuit has these signals so far, each with its driver. `inputs` of them are driven from outside.
pub record IsSoFar (bindings : Bindings) (xs : List FlatSignal) (flat : FlatCircuit) (inputs : ℕ) : Type 0 where
  pub paths : flat.paths ≡ map (λ x. x.path) xs
  pub shapes : signal_shapes flat ≡ map (λ x. x.shape) xs
  pub drivers : (s : ℕ) → s < length xs → IsDriven bindings xs flat s
  pub register_count : length flat.registers ≡ count_before is_register xs (length xs)
  pub input_count : inputs ≡ count_before is_outside xs (length xs)
  pub fitting : (s : ℕ) → s < length xs → FitsDriver bindings.signals.shapes (shape_at (map (λ x. x.shape) xs) s) (driver_at flat s)
  pub registers_fit : All (IsRegister (HasType bindings.signals.shapes)) flat.registers
  pub no_memories : flat.memories ≡ []
  pub no_ins : flat.ins ≡ []
  pub no_outs : flat.outs ≡ []

-- `IsSoFar` in the circuit of a site
abbrev pub IsSoFarAt : Site → List FlatSignal → FlatCircuit → ℕ → Type 0
IsSoFarAt site = IsSoFar (table_bindings (types_of site.typed.now.circuit) site.table.now)

-- a memory of a site as a memory of the circuit
abbrev pub memory_of : Site → OwnMemory → FlatMemory
memory_of site own = flat_memory site.typed.now.circuit.modules (site_of site.place.now) (own_bank_of own)

-- Only these memories were added to a flat circuit.
pub record HasMemories (paths : List (List ℕ)) (said : List FlatMemory) (old new : FlatCircuit) : Type 0 where
  pub rest : new ≡ record old { memories = new.memories }
  pub count : length new.memories ≡ length said
  pub each : (m : ℕ) (other : FlatMemory) (any : Memory) → m < length said → IsMemoryOf paths (slice_index_or said m other) (slice_index_or new.memories m any)
