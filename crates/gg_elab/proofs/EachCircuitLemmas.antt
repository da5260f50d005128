-- A circuit without faults of types has a flat circuit: its signals, then its memories, its ports, its stops and its clocks.
use Rattle.std.proofs.Common.{◌≡◌, ℕ, ◌<◌, List, [], ◌∷◌, ◌++◌, length, map, Option, Some, None, IfSome, refl, sym, ap, ◌∙◌, subst, append_assoc, arith}
use Rattle.std.specs.Prelude.{option_map}
use Rattle.std.specs.List.{cons_option}
use Rattle.std.proofs.lemmas.List.{append-nil, length-map}
use Rattle.gg_ast.specs.declared.module.Direction.TheVariants as direction
use Rattle.gg_ast.specs.declared.module.Port.{Port}
use Rattle.gg_ast.specs.declared.statement.Stmt.{Stmt}
use Rattle.gg_ast.specs.declared.statement.StmtKind.{StmtKind}
use Rattle.gg_ast.specs.declared.statement.StmtKind.TheVariants as says
use Rattle.gg_ast.specs.Places.{place_of}
use Rattle.gg_ast.specs.Tree.{CircuitTree, ModuleTree, module_names}
use Rattle.gg_elab_sites.specs.Sites.{Site, module_at, sites_of}
use Rattle.gg_flat.specs.declared.memory.Memory.{Memory}
use Rattle.gg_flat.specs.Circuit.{FlatCircuit}
use Rattle.gg_flat.specs.Line.{shape_at}
use Rattle.gg_elab_tree.specs.inside.Fitting.{AreFitting}
use Rattle.gg_types.specs.Clocks.{clock_inputs}
use Rattle.gg_types.specs.Types.{type_faults}
use Rattle.gg_elab_sites.specs.Flat.{FlatMemory, FlatSignal, flat_memories, flat_memory, flat_signals, memories_at, stop_paths}
use Rattle.gg_elab_sites.specs.IsFlat.{IsFlat, bindings_of, memory_paths, number_of, port_names, reader_of, signals_of, top_ports, writer_of}
use Rattle.gg_elab_sites.specs.Known.{types_of}
use Rattle.gg_elab_sites.specs.Meaning.{Bindings}
use Rattle.gg_types.specs.Memories.{Bank, bank_of}
use Rattle.gg_elab_sites.specs.Signals.{OwnBank, bank_of_kind, own_bank, own_banks}
use Rattle.gg_elab.specs.inside.Building.{HasMemories}
use Rattle.gg_elab.proofs.EachSignalLemmas.{Built, all-built, none-built}
use Rattle.gg_elab.proofs.SizedLemmas.{IsSized, WordSized, bank-sized, shape-sized, signals-sized, type_of}
use Rattle.gg_elab.proofs.WholeLemmas.{fitting_whole, memories-push, whole}

-- ---- the words of memories

abbrev AreBanksSized : List OwnBank → Type 0
AreBanksSized [] = Unit {0}
AreBanksSized (b ∷ bs) = IsSized b.bank.word × AreBanksSized bs

option-sized : (name : List ℕ) (o : Option Bank) (rest : List OwnBank) → IfSome o WordSized → AreBanksSized rest → AreBanksSized (cons_option (option_map (own_bank name) o) rest)
option-sized name None rest h g = g
option-sized name (Some bank) rest h g = (h, g)

kind-sized : (kind : StmtKind) (rest : List OwnBank) → AreBanksSized rest → AreBanksSized (cons_option (bank_of_kind kind) rest)
kind-sized (says.Wire name ty) rest g = g
kind-sized (says.Node name value) rest g = g
kind-sized (says.Register name ty clock reset) rest g = g
kind-sized (says.Instance name m) rest g = g
kind-sized (says.Memory name fields) rest g = option-sized name (bank_of fields) rest (bank-sized fields) g
kind-sized (says.Connect sink source) rest g = g
kind-sized (says.Invalid sink) rest g = g
kind-sized says.Skip rest g = g
kind-sized (says.Stop clock condition code label) rest g = g
kind-sized (says.Report word arguments label) rest g = g

banks-sized : (ss : List Stmt) → AreBanksSized (own_banks ss)
banks-sized [] = tt
banks-sized (s ∷ ss) = kind-sized s.kind (own_banks ss) (banks-sized ss)

abbrev AreWordsSized : List FlatMemory → Type 0
AreWordsSized [] = Unit {0}
AreWordsSized (x ∷ xs) = IsSized x.bank.word × AreWordsSized xs

words-append : (xs ys : List FlatMemory) → AreWordsSized xs → AreWordsSized ys → AreWordsSized (xs ++ ys)
words-append [] ys h g = g
words-append (x ∷ xs) ys h g = (h.0, words-append xs ys h.1 g)

made-sized : (modules : List ModuleTree) (site : Site) (bs : List OwnBank) → AreBanksSized bs → AreWordsSized (map (flat_memory modules site) bs)
made-sized modules site [] h = tt
made-sized modules site (b ∷ bs) h = (h.0, made-sized modules site bs h.1)

words-sized : (modules : List ModuleTree) (sites : List Site) → AreWordsSized (flat_memories modules sites)
words-sized modules [] = tt
words-sized modules (site ∷ sites) =
    words-append (memories_at modules site) (flat_memories modules sites)
    (made-sized modules site (own_banks (module_at modules site.number).statements) (banks-sized (module_at modules site.number).statements)) (words-sized modules sites)

-- ---- memories

abbrev memory_made : (paths : List (List ℕ)) (said : FlatMemory) → IsSized said.bank.word → Memory
memory_made paths said s =
    record {
      word = type_of said.bank.word s;
      depth = said.bank.depth;
      latency = said.bank.latency;
      readers = map (reader_of paths said) said.bank.readers;
      writers = map (writer_of paths said) said.bank.writers;
    }

module _ (paths : List (List ℕ)) (base : FlatCircuit) where
  -- the circuit with these memories
  record Stored (said : List FlatMemory) : Type 0 where
    new : FlatCircuit
    has : HasMemories paths said base new

  none-stored : Stored []
  none-stored = record { new = record base { memories = [] }; has = record { rest = refl; count = refl; each = λ m other any lt. absurd (omega (arith, lt)) } }

  more-stored : (said : List FlatMemory) (x : FlatMemory) → IsSized x.bank.word → Stored said → Stored (said ++ x ∷ [])
  more-stored said x s stored =
      let memory : Memory = memory_made paths x s in
      let new : FlatCircuit = record stored.new { memories = stored.new.memories ++ memory ∷ [] } in
      record { new = new; has = memories-push paths said x base stored.new new memory stored.has refl (record { word = refl; depth = refl; latency = refl; readers = refl; writers = refl }) }

  all-stored : (before rest : List FlatMemory) → AreWordsSized rest → Stored before → Stored (before ++ rest)
  all-stored before [] h stored = subst Stored (sym (append-nil before)) stored
  all-stored before (x ∷ rest) h stored = subst Stored (append_assoc before (x ∷ []) rest) (all-stored (before ++ x ∷ []) rest h.1 (more-stored before x h.0 stored))

-- ---- the circuit

module _ (circuit : CircuitTree) (faultless : type_faults circuit ≡ []) where
  abbrev all : List FlatSignal
  all = flat_signals (types_of circuit) circuit.modules (sites_of circuit)

  abbrev banks : List FlatMemory
  banks = flat_memories circuit.modules (sites_of circuit)

  abbrev bindings : Bindings
  bindings = bindings_of (types_of circuit) all banks

  abbrev ports : List Port
  ports = top_ports circuit.modules (place_of circuit.name (module_names circuit))

  abbrev stops : List (List ℕ)
  stops = stop_paths circuit.modules (sites_of circuit)

  even : length bindings.signals.paths ≡ length bindings.signals.shapes
  even = length-map all (λ (x : FlatSignal). x.path) ∙ sym (length-map all (λ (x : FlatSignal). x.shape))

  sized : (s : ℕ) → s < length bindings.signals.shapes → IsSized (shape_at bindings.signals.shapes s)
  sized s lt = shape-sized all (signals-sized circuit faultless (sites_of circuit)) s (omega (arith, lt, length-map all (λ (x : FlatSignal). x.shape)))

  built : Built bindings even sized all
  built = all-built bindings even sized [] all (signals-sized circuit faultless (sites_of circuit)) (none-built bindings even sized)

  pub flat-there : (flat : FlatCircuit) × IsFlat circuit flat × AreFitting flat
  flat-there =
      let one = built.flat in
      let stored = all-stored (signals_of all).paths one [] banks (words-sized circuit.modules (sites_of circuit)) (none-stored (signals_of all).paths one) in
      let two = stored.new in
      let three : FlatCircuit = record two { ins = two.ins ++ map (number_of (signals_of all).paths) (port_names direction.Input ports); outs = two.outs ++ map (number_of (signals_of all).paths) (port_names direction.Output ports) } in
      let last : FlatCircuit = record three { outs = three.outs ++ map (number_of (signals_of all).paths) stops; clocks = length (clock_inputs ports) } in (
        last,
        whole (types_of circuit) all banks ports stops (signals_of all) (memory_paths banks) one two three last built.inputs refl refl built.so_far stored.has refl refl refl refl,
        fitting_whole (types_of circuit) all (signals_of all) (memory_paths banks) one last built.inputs refl built.so_far (ap (λ (f : FlatCircuit). f.signals) stored.has.rest) (ap (λ (f : FlatCircuit). f.registers) stored.has.rest),
      )
