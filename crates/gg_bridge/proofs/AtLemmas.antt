-- What the circuit with a model has at each place.
use Rattle.std.proofs.Common.{◌≡◌, ℕ, ◌+◌, ◌<◌, List, [], ◌++◌, length, map, get_or, sym, ◌∙◌, ap, ap₂, arith}
use Rattle.std.proofs.lemmas.List.{get_or-map, get_or_append_left, get_or-append-add, length-append, length-map}
use Rattle.gg_bits.specs.Shape.{Shape, shape, uint}
use Rattle.gg_flat.specs.declared.piece.Signal.{Signal}
use Rattle.gg_flat.specs.declared.piece.Register.{Register}
use Rattle.gg_flat.specs.declared.piece.Driver.{Driver}
use Rattle.gg_flat.specs.declared.piece.Driver.TheVariants.{Input}
use Rattle.gg_flat.specs.declared.memory.Memory.{Memory}
use Rattle.gg_flat.specs.Line.{value_at, shape_at}
use Rattle.gg_flat.specs.Circuit.{FlatCircuit, signal_shapes, driver_at}
use Rattle.gg_flat_tree.specs.Tree.{path_at}
use Rattle.gg_flat.proofs.ListLemmas.{some-item}
use Rattle.gg_flat.specs.Renaming.{renamed_register, renamed_memory}
use Rattle.gg_bridge.specs.inside.Joined.{numbers_behind, linked_driver}
use Rattle.gg_bridge.specs.Joined.{place_among, without, globals_behind, held_behind, memories_behind, linked, driver_behind, signal_behind, joined}
use Rattle.gg_bits.specs.Lists.{by_number}
use Rattle.gg_bridge.proofs.NumberLemmas.{length-by, at-first}

module _ (one : FlatCircuit) (front : List ℕ) (model : FlatCircuit) (sees drives : List ℕ) where
  abbrev outs : List ℕ
  outs = map (value_at (globals_behind one model)) model.outs

  abbrev left : List ℕ
  left = without drives one.ins

  abbrev old : List Signal
  old = by_number (linked (map (value_at (globals_behind one model)) model.outs) drives (without drives one.ins)) 0 one.signals

  abbrev new : List Signal
  new = map (signal_behind (globals_behind one model) (held_behind one model) (memories_behind one model) sees) model.signals

  count-old : length (by_number (linked (map (value_at (globals_behind one model)) model.outs) drives (without drives one.ins)) 0 one.signals) ≡ length one.signals
  count-old = length-by (linked (map (value_at (globals_behind one model)) model.outs) drives (without drives one.ins)) 0 one.signals

  count-new : length (map (signal_behind (globals_behind one model) (held_behind one model) (memories_behind one model) sees) model.signals) ≡ length model.signals
  count-new = length-map model.signals (signal_behind (globals_behind one model) (held_behind one model) (memories_behind one model) sees)

  pub long : length (joined one front model sees drives).signals ≡ length one.signals + length model.signals
  long = length-append old new ∙ ap₂ (λ a b. a + b) count-old count-new

  pub many : length (joined one front model sees drives).registers ≡ length one.registers + length model.registers
  many =
      length-append one.registers (map (λ register. renamed_register (numbers_behind one model) register) model.registers)
      ∙ ap (λ k. length one.registers + k) (length-map model.registers (λ register. renamed_register (numbers_behind one model) register))

  pub banks : length (joined one front model sees drives).memories ≡ length one.memories + length model.memories
  banks =
      length-append one.memories (map (λ memory. renamed_memory (numbers_behind one model) memory) model.memories)
      ∙ ap (λ k. length one.memories + k) (length-map model.memories (λ memory. renamed_memory (numbers_behind one model) memory))

  -- ---- signals

  signal-old : (s : ℕ) (any other : Signal) → s < length one.signals → get_or (joined one front model sees drives).signals s other ≡ linked outs drives left s (get_or one.signals s any)
  signal-old s any other lt =
      get_or_append_left old new other s (omega (arith, lt, count-old))
      ∙ at-first (linked outs drives left) one.signals s any other lt

  signal-new : (i : ℕ) (any other : Signal) → i < length model.signals → get_or (joined one front model sees drives).signals (length one.signals + i) other ≡ signal_behind (globals_behind one model) (held_behind one model) (memories_behind one model) sees (get_or model.signals i any)
  signal-new i any other lt =
      ap (λ n. get_or (joined one front model sees drives).signals (n + i) other) (sym count-old)
      ∙ get_or-append-add old new i other
      ∙ get_or-map (signal_behind (globals_behind one model) (held_behind one model) (memories_behind one model) sees) model.signals i any other lt

  abbrev type_of : Signal → Shape
  type_of signal = shape signal.ty

  abbrev driver_of : Signal → Driver
  driver_of signal = signal.driver

  pub shape-old : (s : ℕ) → s < length one.signals → shape_at (signal_shapes (joined one front model sees drives)) s ≡ shape_at (signal_shapes one) s
  shape-old s lt =
      let any = some-item one.signals s lt in
      get_or-map type_of (joined one front model sees drives).signals s any (uint 0) (omega (arith, lt, long))
      ∙ ap type_of (signal-old s any any lt)
      ∙ sym (get_or-map type_of one.signals s any (uint 0) lt)

  pub shape-new : (i : ℕ) → i < length model.signals → shape_at (signal_shapes (joined one front model sees drives)) (length one.signals + i) ≡ shape_at (signal_shapes model) i
  shape-new i lt =
      let any = some-item model.signals i lt in
      get_or-map type_of (joined one front model sees drives).signals (length one.signals + i) any (uint 0) (omega (arith, lt, long))
      ∙ ap type_of (signal-new i any any lt)
      ∙ sym (get_or-map type_of model.signals i any (uint 0) lt)

  pub driver-old : (s : ℕ) (any : Signal) → s < length one.signals → driver_at (joined one front model sees drives) s ≡ linked_driver (map (value_at (globals_behind one model)) model.outs) (without drives one.ins) s (get_or one.signals s any).ty (driver_at one s) (place_among drives s)
  driver-old s any lt =
      get_or-map driver_of (joined one front model sees drives).signals s any (Input 0) (omega (arith, lt, long))
      ∙ ap driver_of (signal-old s any any lt)
      ∙ ap (λ driver. linked_driver outs left s (get_or one.signals s any).ty driver (place_among drives s)) (sym (get_or-map driver_of one.signals s any (Input 0) lt))

  pub driver-new : (i : ℕ) (any : Signal) → i < length model.signals → driver_at (joined one front model sees drives) (length one.signals + i) ≡ driver_behind (globals_behind one model) (held_behind one model) (memories_behind one model) sees (get_or model.signals i any).ty (driver_at model i)
  driver-new i any lt =
      get_or-map driver_of (joined one front model sees drives).signals (length one.signals + i) any (Input 0) (omega (arith, lt, long))
      ∙ ap driver_of (signal-new i any any lt)
      ∙ ap (λ driver. driver_behind (globals_behind one model) (held_behind one model) (memories_behind one model) sees (get_or model.signals i any).ty driver) (sym (get_or-map driver_of model.signals i any (Input 0) lt))

  -- ---- registers, memories and paths

  pub register-old : (r : ℕ) (any : Register) → r < length one.registers → get_or (joined one front model sees drives).registers r any ≡ get_or one.registers r any
  register-old r any lt = get_or_append_left one.registers (map (λ register. renamed_register (numbers_behind one model) register) model.registers) any r lt

  pub register-new : (r : ℕ) (any other : Register) → r < length model.registers → get_or (joined one front model sees drives).registers (length one.registers + r) other ≡ renamed_register (numbers_behind one model) (get_or model.registers r any)
  register-new r any other lt =
      get_or-append-add one.registers (map (λ register. renamed_register (numbers_behind one model) register) model.registers) r other
      ∙ get_or-map (λ register. renamed_register (numbers_behind one model) register) model.registers r any other lt

  pub memory-old : (m : ℕ) (any : Memory) → m < length one.memories → get_or (joined one front model sees drives).memories m any ≡ get_or one.memories m any
  memory-old m any lt = get_or_append_left one.memories (map (λ memory. renamed_memory (numbers_behind one model) memory) model.memories) any m lt

  pub memory-new : (m : ℕ) (any other : Memory) → m < length model.memories → get_or (joined one front model sees drives).memories (length one.memories + m) other ≡ renamed_memory (numbers_behind one model) (get_or model.memories m any)
  memory-new m any other lt =
      get_or-append-add one.memories (map (λ memory. renamed_memory (numbers_behind one model) memory) model.memories) m other
      ∙ get_or-map (λ memory. renamed_memory (numbers_behind one model) memory) model.memories m any other lt

  pub path-old : (s : ℕ) → s < length one.paths → path_at (joined one front model sees drives).paths s ≡ path_at one.paths s
  path-old s lt = get_or_append_left one.paths (map (λ path. front ++ path) model.paths) [] s lt

  pub path-new : (i : ℕ) → i < length model.paths → path_at (joined one front model sees drives).paths (length one.paths + i) ≡ front ++ path_at model.paths i
  path-new i lt =
      get_or-append-add one.paths (map (λ path. front ++ path) model.paths) i []
      ∙ get_or-map (λ path. front ++ path) model.paths i [] [] lt
