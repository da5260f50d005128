-- The registers and the memories of a circuit follow clocks of the circuit.
use Rattle.std.proofs.Common.{◌≡◌, ℕ, ◌<◌, List, length, get_or, sym, ap, ◌∙◌, subst, arith}
use Rattle.std.specs.Prelude.{All, Contains}
use Rattle.std.proofs.lemmas.List.{length-map, get_or-map}
use Rattle.std.proofs.lemmas.List.Elements.{All-map}
use Rattle.gg_bits.specs.Shape.{shape}
use Rattle.gg_ast.specs.Tree.{ModuleTree}
use Rattle.gg_flat.specs.Circuit.{FlatCircuit, driver_at}
use Rattle.gg_flat_tree.specs.Clocked.{clock_at}
use Rattle.gg_flat.specs.Line.{shape_at}
use Rattle.gg_flat.specs.WellFormed.{IsClock, IsClockedMemory}
use Rattle.gg_flat.specs.declared.memory.Memory.{Memory}
use Rattle.gg_flat.specs.declared.memory.Reader.{Reader}
use Rattle.gg_flat.specs.declared.memory.Writer.{Writer}
use Rattle.gg_flat.specs.declared.piece.Register.{Register}
use Rattle.gg_flat.specs.declared.piece.Signal.{Signal}
use Rattle.gg_elab_sites.specs.Sites.{Site, all_sites, module_at}
use Rattle.gg_elab_sites.specs.Clocks.{port_clock, site_clocks}
use Rattle.gg_elab_sites.specs.Flat.{FlatMemory, FlatSignal, Outside, drive_of, flat_memories, flat_memory, flat_signal, flat_signals, memories_at, signals_at, stop_paths}
use Rattle.gg_elab_sites.specs.IsFlat.{IsFlatOf, IsMemoryOf, bindings_of, count_before, drive_at, is_outside, is_register, reader_of, signals_of, writer_of}
use Rattle.gg_elab_sites.specs.Signals.{Types, own_banks, own_signals}
use Rattle.gg_elab_sites.proofs.AmongLemmas.{Element, MadeOf, element-at, from-flat_map, from-map}
use Rattle.gg_elab_sites.proofs.FollowLemmas.{at-below, input_count, sites-below}
use Rattle.gg_elab_tree.proofs.WellFormedLemmas.RegisterClockLemmas.{HoldsAs, held-as, held-follows}
use Rattle.gg_elab_tree.proofs.WellFormedLemmas.HeldLemmas.{held-once}
use Rattle.gg_elab_tree.specs.Held.{HasOneHolder}

module _ (types : Types) (modules : List ModuleTree) (top : ℕ) (flat : FlatCircuit) (is_flat : IsFlatOf types (flat_signals types modules (all_sites modules top)) (flat_memories modules (all_sites modules top)) (module_at modules top).ports (stop_paths modules (all_sites modules top)) flat) where
  abbrev all : List FlatSignal
  all = flat_signals types modules (all_sites modules top)

  abbrev banks : List FlatMemory
  banks = flat_memories modules (all_sites modules top)

  -- what a part of a site follows is a clock of the circuit
  site-clock : (x : Site) (clock : _) → Contains (all_sites modules top) x → IsClock flat.clocks (clock_at (site_clocks modules x) clock)
  site-clock x clock c = subst (λ n. IsClock n (clock_at (site_clocks modules x) clock)) (sym is_flat.clocks) (at-below (input_count (module_at modules top)) (site_clocks modules x) clock (sites-below modules top x c))

  signal-count : length flat.signals ≡ length all
  signal-count = sym (length-map flat.signals (λ (s : Signal). shape s.ty)) ∙ ap length is_flat.shapes ∙ length-map all (λ (x : FlatSignal). x.shape)

  register-clocked : (r : ℕ) (any : Register) → r < length flat.registers → IsClock flat.clocks (get_or flat.registers r any).clock
  register-clocked r any lt = subst (IsClock flat.clocks) (sym (h.clocked any ∙ follows.1)) (site-clock site.of h.own site.among)
    where
      one : HasOneHolder flat r
      one = held-once types all banks (module_at modules top).ports (stop_paths modules (all_sites modules top)) flat is_flat r lt

      inside : one.signal < length all
      inside = omega (arith, one.within, signal-count)

      h : HoldsAs flat.registers (count_before is_register all one.signal) (drive_at all one.signal) r
      h = held-as (bindings_of types all banks) flat.registers (count_before is_outside all one.signal) (count_before is_register all one.signal) (shape_at (signals_of all).shapes one.signal) (drive_at all one.signal) (driver_at flat one.signal) r (is_flat.drivers one.signal inside) one.holds

      e : Element all one.signal
      e = element-at all one.signal inside

      site : MadeOf (λ y z. Contains (signals_at types modules y) z) (all_sites modules top) e.element
      site = from-flat_map (signals_at types modules) (all_sites modules top) e.element e.among

      own : MadeOf (λ y z. flat_signal modules site.of y ≡ z) (own_signals types site.of.number (module_at modules site.of.number)) e.element
      own = from-map (flat_signal modules site.of) (own_signals types site.of.number (module_at modules site.of.number)) e.element site.made

      drive : drive_of modules site.of own.of.name own.of.cause ≡ drive_at all one.signal
      drive =
          ap (λ (y : FlatSignal). y.drive) (own.made ∙ sym (e.is e.element))
          ∙ sym (get_or-map (λ (y : FlatSignal). y.drive) all one.signal e.element Outside inside)

      follows : IsClock (input_count (module_at modules site.of.number)) h.own × (h.clock ≡ clock_at (site_clocks modules site.of) h.own)
      follows = held-follows modules site.of h.own h.clock own.of.name own.of.cause (record { scope = h.holding.scope; reset = h.holding.reset; next = h.holding.next; is = drive ∙ h.holding.is })

  pub registers-clocked : All (λ (register : Register). IsClock flat.clocks register.clock) flat.registers
  registers-clocked = λ r any lt. register-clocked r any lt

  memory-clocked : (m : ℕ) (any : Memory) → m < length flat.memories → IsClockedMemory flat.clocks (get_or flat.memories m any)
  memory-clocked m any lt = record {
    readers = subst (All (λ (reader : Reader). IsClock flat.clocks reader.clock)) (sym is.readers)
        (All-map (λ (reader : Reader). IsClock flat.clocks reader.clock) (reader_of (signals_of all).paths said) bank.of.bank.readers
        (λ k d below. site-clock site.of (port_clock (module_at modules site.of.number) bank.of.name (get_or bank.of.bank.readers k d)) site.among));
    writers = subst (All (λ (writer : Writer). IsClock flat.clocks writer.clock)) (sym is.writers)
        (All-map (λ (writer : Writer). IsClock flat.clocks writer.clock) (writer_of (signals_of all).paths said) bank.of.bank.writers
        (λ k d below. site-clock site.of (port_clock (module_at modules site.of.number) bank.of.name (get_or bank.of.bank.writers k d)) site.among));
  }
    where
      inside : m < length banks
      inside = omega (arith, lt, is_flat.memory_count)

      e : Element banks m
      e = element-at banks m inside

      site : MadeOf (λ y z. Contains (memories_at modules y) z) (all_sites modules top) e.element
      site = from-flat_map (memories_at modules) (all_sites modules top) e.element e.among

      bank : MadeOf (λ y z. flat_memory modules site.of y ≡ z) (own_banks (module_at modules site.of.number).statements) e.element
      bank = from-map (flat_memory modules site.of) (own_banks (module_at modules site.of.number).statements) e.element site.made

      said : FlatMemory
      said = flat_memory modules site.of bank.of

      is : IsMemoryOf (signals_of all).paths said (get_or flat.memories m any)
      is = subst (λ (y : FlatMemory). IsMemoryOf (signals_of all).paths y (get_or flat.memories m any)) (e.is e.element ∙ sym bank.made) (is_flat.memories m e.element any inside)

  pub memories-clocked : All (IsClockedMemory flat.clocks) flat.memories
  memories-clocked = λ m any lt. memory-clocked m any lt
