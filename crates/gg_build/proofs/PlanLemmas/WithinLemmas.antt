-- The network of a plan is within the limits.
use Rattle.std.proofs.Common.{◌≡◌, ℕ, zero, suc, ◌+◌, ◌*◌, ◌<◌, ◌≤◌, List, [], ◌∷◌, length, map, get_or, sym, ◌∙◌, ap, subst, arith}
use Rattle.std.specs.Prelude.{sum}
use Rattle.std.proofs.lemmas.List.{length-map}
use Rattle.gg_bits.specs.Limits.{capacity_limit}
use Rattle.gg_flat.specs.declared.memory.Latency.{Latency}
use Rattle.gg_flat.specs.declared.memory.Latency.TheVariants.{Zero, One}
use Rattle.gg_flat.specs.declared.memory.Memory.{Memory}
use Rattle.gg_flat_tree.specs.Tree.{path_at}
use Rattle.gg_flat.proofs.ListLemmas.{some-item}
use Rattle.gg_flat.specs.Run.{Start}
use Rattle.gg_part.specs.declared.part.Part.{Part}
use Rattle.gg_cut_plan.specs.declared.plan.Body.{Body}
use Rattle.gg_cut_plan.specs.declared.plan.Body.TheVariants.{Cut, Memory as Listing, Source, Tray, Bridge}
use Rattle.gg_cut_plan.specs.Machines.{first_source}
use Rattle.gg_cut_plan.specs.Plan.{wire_at as link_at}
use Rattle.gg_cut_split.proofs.ClosedLemmas.FaultlessLemmas.{range-free, capacity-is}
use Rattle.gg_memunit.specs.inside.MemoryUnit.{count_by}
use Rattle.gg_memunit.specs.MemoryUnit.{ports_of}
use Rattle.gg_memunit.proofs.PortLemmas.{count_ports}
use Rattle.gg_memunit.proofs.UnitLemmas.{sole}
use Rattle.gg_node.specs.Machine.{Machine, machine_at}
use Rattle.gg_net.specs.declared.shape.Wire.{Wire}
use Rattle.gg_net.specs.Network.{wire_at, Kind, kind_of}
use Rattle.gg_net.specs.inside.Net.{IsWithinLimits}
use Rattle.gg_build.specs.plan.Built.{machine_in, wire_of, wires_of_plan, IsMemoryOf, IsBuilt, AreBuilt, plan_frame}
use Rattle.gg_build.specs.inside.Given.{Given, IsBodyAt, cut_of}
use Rattle.gg_build.proofs.PlanLemmas.GivenLemmas.{are-few, are-links, body-at, memory-at, no-fault}
use Rattle.gg_build.proofs.PlanLemmas.LinkLemmas.{length-from, length-wires, wire-from}
use Rattle.gg_build.proofs.PlanLemmas.MemoryPartLemmas.{IsMemoryPart}
use Rattle.gg_build.proofs.PlanLemmas.PlanLemmas.{few}
use Rattle.gg_build.proofs.PlanLemmas.RowLemmas.{sum-first}
use Rattle.gg_flat.specs.Renaming.{renamed_memory, renamed_reader, renamed_writer}
use Rattle.gg_part.specs.Part.{in_whole}

count-most : (latency : Latency) (readers writers : ℕ) → count_by latency readers writers ≤ readers + writers
count-most Zero readers writers = omega arith
count-most (One under) readers writers = omega arith

-- the machine of a listed memory serves at most as many ports as there may be channels
memory-ports : (part : Part) (begins : Start) (memory : Memory) (machine : Machine) → IsMemoryPart part memory → IsMemoryOf begins part machine → length (kind_of machine).ports ≤ 16384
memory-ports part begins memory machine own is =
    let piece = is.alone.piece in
    let found = sole piece.memories is.is_memory.one in
    let inner = found.0 in
    let only = found.1 in
    let low = is.is_part.memory_from 0 (omega (arith, ap length is.memories)) in
    let whole : memory ≡ renamed_memory (in_whole is.alone.globals is.alone.clocks) inner =
    ap (λ (l : List Memory). get_or l 0 memory) (sym own.only)
    ∙ ap (λ (l : List ℕ). get_or part.piece.memories (get_or l 0 0) memory) (sym is.memories)
    ∙ low.is inner memory
    ∙ ap (λ (l : List Memory). renamed_memory (in_whole is.alone.globals is.alone.clocks) (get_or l 0 inner)) only in
    let reads : length memory.readers ≡ length inner.readers = ap (λ (x : Memory). length x.readers) whole ∙ length-map inner.readers (renamed_reader (in_whole is.alone.globals is.alone.clocks)) in
    let writes : length memory.writers ≡ length inner.writers = ap (λ (x : Memory). length x.writers) whole ∙ length-map inner.writers (renamed_writer (in_whole is.alone.globals is.alone.clocks)) in
    let served : length (ports_of piece.memories) ≡ count_by inner.latency (length inner.readers) (length inner.writers) = ap (λ (l : List Memory). length (ports_of l)) only ∙ count_ports inner.latency inner.readers inner.writers in
    subst (λ (t : Machine). length (kind_of t).ports ≤ 16384) (sym is.is)
    (omega (arith, served, count-most inner.latency (length inner.readers) (length inner.writers), reads, writes, own.few))

-- the ports of machines of which only the first ones have ports
ports-sum : (first : ℕ) (machines : List Machine) → ((m : ℕ) → m < length machines → length (kind_of (machine_at machines m)).ports ≤ 16384) → ((m : ℕ) → first ≤ m → m < length machines → length (kind_of (machine_at machines m)).ports ≡ 0) → sum (map (λ (kind : Kind). length kind.ports) (map kind_of machines)) ≤ first * 16384
ports-sum first [] few none = omega arith
ports-sum zero (machine ∷ machines) few none =
    let size : Kind → ℕ = λ kind. length kind.ports in
    let one = none 0 (omega arith) (omega arith) in
    let sums = sum-first size (kind_of machine) (map kind_of machines) in
    let rest = ports-sum 0 machines (λ m lt. few (suc m) (omega (arith, lt))) (λ m le lt. none (suc m) (omega arith) (omega (arith, lt))) in
    omega (arith, one, rest, sums)
ports-sum (suc first) (machine ∷ machines) few none =
    let size : Kind → ℕ = λ kind. length kind.ports in
    let one = few 0 (omega arith) in
    let sums = sum-first size (kind_of machine) (map kind_of machines) in
    let rest = ports-sum first machines (λ m lt. few (suc m) (omega (arith, lt))) (λ m le lt. none (suc m) (omega (arith, le)) (omega (arith, lt))) in
    omega (arith, one, rest, sums)

module _ (given : Given) (token : ℕ → ℕ) (starts : Body → Start) (machines : List Machine) (built : AreBuilt given.plan starts given.columns machines) where
  open given use {design, request, default, plan, columns, n}
  open cut_of design request use {listed, wires}

  body-ports : (m outs : ℕ) (own : Start) (body : Body) (machine : Machine) → IsBodyAt given m body → IsBuilt columns outs own body machine → length (kind_of machine).ports ≤ 16384
  body-ports m outs own (Cut part) machine body is = subst (λ (t : Machine). length (kind_of t).ports ≤ 16384) (sym is.is) (omega arith)
  body-ports m outs own (Listing part) machine body is =
      let memory = memory-at given m part body in
      memory-ports part own memory.0 machine memory.1 is
  body-ports m outs own (Source place) machine body is = subst (λ (t : Machine). length (kind_of t).ports ≤ 16384) (sym is) (omega arith)
  body-ports m outs own Tray machine body is = subst (λ (t : Machine). length (kind_of t).ports ≤ 16384) (sym is) (omega arith)
  body-ports m outs own (Bridge bridge) machine body is = subst (λ (t : Machine). length (kind_of t).ports ≤ 16384) (sym is) (omega arith)

  -- only listed memories have ports, and these are behind the units
  no-ports : (m outs : ℕ) (own : Start) (body : Body) (machine : Machine) → first_source listed ≤ m → IsBodyAt given m body → IsBuilt columns outs own body machine → length (kind_of machine).ports ≡ 0
  no-ports m outs own (Cut part) machine high body is = absurd (omega (arith, high, body.0))
  no-ports m outs own (Listing part) machine high body is = absurd (omega (arith, high, body.1))
  no-ports m outs own (Source place) machine high body is = ap (λ (t : Machine). length (kind_of t).ports) is
  no-ports m outs own Tray machine high body is = ap (λ (t : Machine). length (kind_of t).ports) is
  no-ports m outs own (Bridge bridge) machine high body is = ap (λ (t : Machine). length (kind_of t).ports) is

  machine-ports : (m : ℕ) → m < length machines → length (kind_of (machine_at machines m)).ports ≤ 16384
  machine-ports m lt =
      let known : m < length plan.machines = omega (arith, lt, built.count) in
      body-ports m (length (machine_in plan m).outs) (starts (machine_in plan m).body) (machine_in plan m).body (machine_at machines m) (body-at given m known) (built.each m known)

  later-ports : (m : ℕ) → first_source listed ≤ m → m < length machines → length (kind_of (machine_at machines m)).ports ≡ 0
  later-ports m high lt =
      let known : m < length plan.machines = omega (arith, lt, built.count) in
      no-ports m (length (machine_in plan m).outs) (starts (machine_in plan m).body) (machine_in plan m).body (machine_at machines m) high (body-at given m known) (built.each m known)

  pub plan-within : default ≤ capacity_limit → IsWithinLimits (plan_frame token plan machines n)
  plan-within most =
      let kinds = map kind_of machines in
      let count : length kinds ≡ length machines = length-map machines kind_of in
      let ports = ports-sum (first_source listed) machines machine-ports later-ports in
      let units = (are-few given).units in
      record {
        cycles = given.most;
        machines = omega (arith, given.planned.few, count, built.count);
        channels = omega (arith, few given token starts machines built, length-wires token plan wires (are-links given));
        ports = omega (arith, ports, units);
        capacities = λ c lt.
            let known : c < length plan.channels = omega (arith, lt, length-from token plan 0 plan.channels) in
            let any = some-item plan.channels c known in
            let is : wire_at (wires_of_plan token plan) c ≡ wire_of token plan c (get_or plan.channels c any) = wire-from token plan 0 plan.channels c any known ∙ ap (λ k. wire_of token plan k (get_or plan.channels c any)) (let same : 0 + c ≡ c = omega arith in same) in
            subst (λ (w : Wire). w.capacity ≤ capacity_limit) (sym is)
            (subst (λ n. n ≤ capacity_limit) (sym (given.planned.channel c any known).bound)
            (capacity-is (λ n. n ≤ capacity_limit) (λ n some low. low) request.capacity default (path_at design.circuit.paths (link_at wires c).signal) (range-free design request (no-fault given)) most));
      }
