-- The names of a cut are few enough for 32 bits.
use Rattle.std.proofs.Common.{◌≡◌, ℕ, zero, suc, ◌+◌, ◌-◌, ◌<◌, ◌≤◌, ◌^◌, Bool, true, false, List, [], ◌∷◌, length, map, refl, sym, ap, subst, inl, inr, arith, nat_lt, nat_le}
use Rattle.std.specs.Prelude.{None, if◌then◌else◌, slice_index_or}
use Rattle.std.proofs.lemmas.Bool.{and_parts, cases_order, leb-true, ltb-true}
use Rattle.std.proofs.lemmas.List.{get_or_past, length-map}
use Rattle.gg_flat.specs.Circuit.{readers_at}
use Rattle.gg_flat.specs.Line.{value_at}
use Rattle.gg_flat_tree.specs.Scoped.{writers_at}
use Rattle.gg_flat_tree.specs.Tree.{memory_at, port_count}
use Rattle.gg_flat.specs.declared.memory.Memory.{Memory}
use Rattle.gg_flat_tree.specs.declared.tree.MemoryInstance.{MemoryInstance}
use Rattle.gg_part.specs.KeepsToTree.{KeepsToTree}
use Rattle.gg_order.specs.Design.{IsDesign, Ordered}
use Rattle.gg_partfile.specs.declared.request.Request.{Request}
use Rattle.gg_cut_plan.specs.Bridges.{Models}
use Rattle.gg_cut_plan.specs.Direct.{is_piped, plan_wires}
use Rattle.gg_cut_plan.specs.Ports.{plan_bridges}
use Rattle.gg_cut_plan.specs.Machines.{first_memory, first_source, is_memory}
use Rattle.gg_cut_plan.specs.Fault.{first_fault}
use Rattle.gg_cut_plan.specs.Listed.{listed_of}
use Rattle.gg_cut_plan.specs.Plan.{IsPlan}
use Rattle.gg_cut_plan.specs.declared.listed.Listed.{Listed}
use Rattle.gg_cut_plan.specs.declared.plan.Plan.{Plan}
use Rattle.gg_cut_plan.specs.declared.wires.Wire.{Wire}
use Rattle.gg_cut_split.specs.inside.Apart.{AreFew}
use Rattle.gg_cut_split.proofs.ClosedLemmas.FaultlessLemmas.{faultless-few}
use Rattle.gg_cut_routes.proofs.RoutedLemmas.{routed-base}
use Rattle.gg_build.proofs.PlanLemmas.WordLemmas.{memory-few}
use Rattle.golden_commands.specs.Replay.{port_names}
use Rattle.golden_commands.specs.inside.Replayed.{AreFewNames}

-- a memory's ports are its readers and its writers
ports-counted : (memories : List Memory) (k : ℕ)
    → slice_index_or (map (λ (x : Memory). length x.readers + length x.writers) memories) k 0
    ≡ length (slice_index_or (map (λ (x : Memory). x.readers) memories) k []) + length (slice_index_or (map (λ (x : Memory). x.writers) memories) k [])
ports-counted [] k = refl
ports-counted (x ∷ xs) zero = refl
ports-counted (x ∷ xs) (suc k) = ports-counted xs k

abbrev no_memory : MemoryInstance
no_memory = record { instance = 0; memory = 0; ports = []; clocks = [] }

module _ (design : Ordered) (request : Request) (models : Models) (default : ℕ) (plan : Plan) (is : IsDesign design) (keeps : KeepsToTree design.circuit design.tree) (faultless : first_fault design request ≡ None) (planned : IsPlan design request models default plan) where
  abbrev listed : Listed
  listed = listed_of design.tree request

  abbrev wires_in : List Wire
  wires_in = plan_wires design.circuit design.tree request

  few : AreFew design.circuit design.tree request
  few = faultless-few design request faultless

  held-few : (i : ℕ) → i < length listed.memories → length (memory_at design.tree (value_at listed.memories i)).ports < 2 ^ 32
  held-few i lt =
      let place = value_at listed.memories i in
      let own = (memory_at design.tree place).memory in
      elim (cases_order place (length design.tree.memories)) [
        | inl same ↦ past place (omega (arith, same))
        | inr other ↦ elim other [
          | inl known ↦
              let ports : length (memory_at design.tree place).ports ≡ port_count design.circuit own = (keeps.fitting.held place known).ports in
              let counted : port_count design.circuit own ≡ length (readers_at design.circuit own) + length (writers_at design.circuit own) = ports-counted design.circuit.memories own in
              let most : length (readers_at design.circuit own) + length (writers_at design.circuit own) ≤ length wires_in = memory-few design.circuit design.tree listed (is_piped design.circuit request) request.bridges request.direct (routed-base design request is keeps faultless) i lt in
              let channels = few.channels in
              omega (arith, ports, counted, most, channels)
          | inr above ↦ past place (omega (arith, above))
        ]
      ]
    where
      past : (place : ℕ) → length design.tree.memories ≤ place → length (memory_at design.tree place).ports < 2 ^ 32
      past place le = let none : memory_at design.tree place ≡ no_memory = get_or_past design.tree.memories place no_memory le in omega (arith, ap (λ (x : MemoryInstance). length x.ports) none)

  ports-few : (m : ℕ) → length (port_names design.tree listed m) < 2 ^ 32
  ports-few m = by (is_memory listed m) refl
    where
      by : (b : Bool) → is_memory listed m ≡ b → length (if b then (memory_at design.tree (value_at listed.memories (m - first_memory listed))).ports else []) < 2 ^ 32
      by true e =
          let parts = and_parts (nat_le (first_memory listed) m) (nat_lt m (first_source listed)) e in
          let low : first_memory listed ≤ m = leb-true (first_memory listed) m parts.0 in
          let high : m < first_source listed = ltb-true m (first_source listed) parts.1 in
          held-few (m - first_memory listed) (omega (arith, low, high))
      by false e = omega arith

  pub few-names : AreFewNames plan design.tree
  few-names =
      let channels = few.channels in
      record {
        channels = omega (arith, channels, planned.channel_total);
        machines = planned.few;
        ports = λ m. subst (λ (l : Listed). length (port_names design.tree l m) < 2 ^ 32) (sym planned.listed) (ports-few m);
      }
