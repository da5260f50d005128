use Rattle.std.proofs.Common.{◌≡◌, ℕ, ◌<◌, List, ◌∷◌, ◌++◌, [], length, get_or, None, refl, sym, ◌∙◌, ap, subst, arith}
use Rattle.std.specs.Prelude.{Contains, Option}
use Rattle.gg_flat.specs.declared.memory.Memory.{Memory}
use Rattle.gg_flat.specs.WellFormed.{IsClockedMemory}
use Rattle.gg_flat_tree.specs.Scoped.{memory_fields}
use Rattle.gg_part.specs.inside.Clocking.{LeadsTo, PortsFollow, clocks_of_ports}
use Rattle.gg_part.specs.Part.{MemoryBelow, in_whole}
use Rattle.gg_part.proofs.BackLemmas.{LeadsBack, table-back}
use Rattle.gg_part.proofs.LocalLemmas.{memory-renamed, memory-below, memory-clocked, memory-follows}
use Rattle.gg_part.proofs.ClockLemmas.{leads-same}
use Rattle.std.proofs.lemmas.List.Elements.{Contains-get_or}
use Rattle.gg_flat.specs.Line.{value_at}
use Rattle.gg_flat.specs.Circuit.{FlatCircuit}
use Rattle.gg_part.proofs.BuildLemmas.{AreMemories-more, wants-more, only-memories, read-any}
use Rattle.gg_part.proofs.FrameLemmas.{reader-fields, writer-fields}
use Rattle.gg_flat.specs.Renaming.{renamed_memory}
use Rattle.gg_part.proofs.build.add_memories.Goals as goal

pub loop-number-preserved : goal.loop-number-preserved
loop-number-preserved c =
    let whole = c.args.whole.now in
    let frame = c.args.frame.now in
    let globals = frame.globals in
    let numbers = frame.memories in
    let k = c.loop-number.number-index in
    let m = value_at c.as_slice-number-items.result.now k in
    let old = c.loop-number.piece in
    let new = c.add_memory.new.self in
    let own = c.in_ok-own.own in
    let item = c.index-memories-number.result in
    let ports = c.ports_of-ports.result.now in
    let back : ℕ → ℕ = value_at c.local-by.result.signals.now in
    let leads_back : LeadsBack globals back = table-back globals c.local-by.result.signals.now c.local-by.ensures.signals in
    let lt : k < length numbers = omega (arith, ap length c.as_slice-number-items.ensures, c.loop-number-test.true) in
    let same : value_at numbers k ≡ m = ap (λ l. value_at l k) (sym c.as_slice-number-items.ensures) in
    let at : get_or whole.memories m item ≡ item = ap (λ l. get_or l m item) (sym c.memories.ensures) ∙ sym c.index-memories-number.is in
    let read : item ≡ get_or whole.memories (value_at numbers k) item = sym at ∙ ap (λ n. get_or whole.memories n item) (sym same) in
    let within = c.requires.chosen.memory_within k 0 lt in
    let fields : (s : ℕ) → Contains (memory_fields whole (value_at numbers k)) s → Contains globals s = λ s field. c.requires.chosen.fields (value_at numbers k) s (Contains-get_or numbers k 0 lt) field in
    let reads = reader-fields whole globals (value_at numbers k) item within read fields in
    let writes = writer-fields whole globals (value_at numbers k) item within read fields in
    let led : (p : ℕ) → p < length (clocks_of_ports item) → LeadsTo frame.clocks (get_or (clocks_of_ports item) p None) (get_or ports p None) = λ p inside.
    leads-same {clocks = frame.clocks} refl (ap (λ (x : Memory). get_or (clocks_of_ports x) p None) at) (ap (λ (l : List (Option ℕ)). get_or l p None) (sym c.ports_of-ports.ensures))
    (c.requires.timed.port m p item (subst (Contains numbers) same (Contains-get_or numbers k 0 lt)) (omega (arith, inside, ap (λ (x : Memory). length (clocks_of_ports x)) at))) in
    let is = sym c.in_ok-own.ensures in
    record {
      only = only-memories c.args.piece.now old new (old.memories ++ own ∷ []) c.in_ok-add_memory.ensures.ok c.loop-number.invariant.only;
      memories = AreMemories-more whole globals numbers frame.clocks k old.memories new.memories own item c.loop-number.invariant.memories (ap (λ (c : FlatCircuit). c.memories) c.in_ok-add_memory.ensures.ok)
          (subst (λ x. renamed_memory (in_whole globals frame.clocks) x ≡ item) is (memory-renamed globals back leads_back frame.clocks ports item reads writes led))
          (subst (MemoryBelow (length globals)) is (memory-below globals back leads_back frame.clocks ports item reads writes led))
          (subst (IsClockedMemory (length frame.clocks)) is (memory-clocked globals back leads_back frame.clocks ports item reads writes led)) (read-any whole.memories (value_at numbers k) item within read);
      own = wants-more (λ m memory. PortsFollow (get_or c.args.clocking.now.ports (value_at numbers m) []) memory) old.memories new.memories k own c.loop-number.invariant.memories.counted (ap (λ (c : FlatCircuit). c.memories) c.in_ok-add_memory.ensures.ok)
          (subst (λ (l : List (Option ℕ)). PortsFollow l own) (c.ports_of-ports.ensures ∙ ap (λ n. get_or c.args.clocking.now.ports n []) (sym same)) (subst (PortsFollow ports) is (memory-follows globals back leads_back frame.clocks ports item reads writes led))) c.loop-number.invariant.own;
    }
