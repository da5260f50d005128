-- The machines of a plan have all memories of the circuit.
use Rattle.std.proofs.Common.{◌≡◌, ℕ, ◌<◌, ◌==◌, length, refl, arith}
use Rattle.std.specs.Prelude.{Contains, Option, None, Some}
use Rattle.gg_flat_tree.specs.Tree.{InstanceTree, memory_at}
use Rattle.gg_order.specs.Design.{Ordered}
use Rattle.gg_partfile.specs.declared.request.Request.{Request}
use Rattle.gg_part.specs.KeepsToTree.{KeepsToTree}
use Rattle.gg_cut_plan.specs.declared.listed.Listed.{Listed}
use Rattle.gg_cut_plan.specs.declared.plan.Body.{Body}
use Rattle.gg_cut_plan.specs.declared.plan.Body.TheVariants.{Cut, Memory, Source, Tray, Bridge}
use Rattle.gg_cut_plan.specs.declared.plan.Plan.{Plan}
use Rattle.gg_cut_plan.specs.Bridges.{Models}
use Rattle.gg_cut_plan.specs.Direct.{plan_hub}
use Rattle.gg_cut_plan.specs.Listed.{first_place, listed_of, memory_or, memory_owner, owner_of_instance}
use Rattle.gg_cut_plan.specs.Machines.{first_source}
use Rattle.gg_cut_plan.specs.Plan.{HasMemory, IsBody, IsPlan}
use Rattle.gg_cut_plan.proofs.PathLemmas.{first_place-Some}
use Rattle.gg_cut_plan.proofs.WireLemmas.{unit_or_hub-below}
use Rattle.gg_build.specs.plan.Built.{machine_in, nameless}
use Rattle.gg_snap.specs.inside.Gathered.{IsKeptBy, kept_by}

-- a memory belongs to a machine before the first source
pub memory_owner-below : (tree : InstanceTree) (listed : Listed) (place : ℕ) → memory_owner tree listed place < first_source listed
memory_owner-below tree listed place = by (first_place (λ j. j == place) listed.memories) refl
  where
    outside : ℕ
    outside = owner_of_instance tree listed.units (memory_at tree place).instance

    by : (found : Option ℕ) → first_place (λ j. j == place) listed.memories ≡ found → memory_or (length listed.units) outside found < first_source listed
    by None e = let low = unit_or_hub-below tree listed.units (memory_at tree place).instance in omega (arith, low)
    by (Some j) e = let lt = (first_place-Some (λ j. j == place) listed.memories j e).within in omega (arith, lt)

module _ (design : Ordered) (request : Request) (models : Models) (default : ℕ) (plan : Plan) (planned : IsPlan design request models default plan) (keeps : KeepsToTree design.circuit design.tree) where
  keeps-in : (m k : ℕ) (body : Body) → m < first_source (listed_of design.tree request) → HasMemory design.tree (listed_of design.tree request) m k → IsBody design request models (listed_of design.tree request) (plan_hub design.circuit design.tree request) m body → Contains (kept_by body) k
  keeps-in m k (Cut part) lt has is = (is.1.memories k).1 has
  keeps-in m k (Memory part) lt has is = (is.2.memories k).1 has
  keeps-in m k (Source place) lt has is = absurd (omega (arith, lt, is.1))
  keeps-in m k Tray lt has is = absurd (omega (arith, lt, is.0))
  keeps-in m k (Bridge bridge) lt has is = absurd (omega (arith, lt, is.0))

  pub memories-kept : (k : ℕ) → k < length design.circuit.memories → IsKeptBy plan k
  memories-kept k lt =
      let m = memory_owner design.tree (listed_of design.tree request) k in
      let low = memory_owner-below design.tree (listed_of design.tree request) k in
      let there : k < length design.tree.memories = omega (arith, lt, keeps.fitting.count) in
      let known : m < length plan.machines = omega (arith, low, planned.machine_total) in
      let has : HasMemory design.tree (listed_of design.tree request) m k = record { place = k; known = there; is = keeps.copies.number k there; owner = refl } in
      record { at_machine = m; known = known; keeps = keeps-in m k (machine_in plan m).body low has (planned.machine m nameless known).body }
