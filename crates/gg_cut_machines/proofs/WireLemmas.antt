-- What the channels and the numbers of a plan have.
use Rattle.std.proofs.Common.{◌≡◌, ℕ, ◌+◌, ◌<◌, List, length, sym, ap, subst, arith}
use Rattle.std.specs.Prelude.{All}
use Rattle.gg_flat.specs.Circuit.{FlatCircuit}
use Rattle.gg_order.specs.Design.{Ordered}
use Rattle.gg_partfile.specs.declared.request.Request.{Request}
use Rattle.gg_cut_plan.specs.declared.plan.Machine.{Machine}
use Rattle.gg_cut_plan.specs.declared.listed.Listed.{Listed}
use Rattle.gg_cut_plan.specs.declared.wires.Wire.{Wire}
use Rattle.gg_cut_plan.specs.Listed.{listed_of}
use Rattle.gg_cut_plan.specs.Machines.{first_source}
use Rattle.gg_cut_plan.specs.Channels.{wire}
use Rattle.gg_cut_plan.specs.Direct.{plan_hub, plan_wires}
use Rattle.gg_cut_plan.specs.Plan.{wire_at}
use Rattle.gg_cut_plan.specs.Ports.{Bridges, machine_end, plan_bridges, ports_of}
use Rattle.gg_cut_routes.specs.inside.Routes.{AreRoutes}
use Rattle.gg_cut_parts.specs.declared.draft.Draft.{Draft}
use Rattle.gg_cut_parts.specs.inside.Draft.{IsDraft}
use Rattle.gg_cut_machines.specs.inside.Drafted.{draft_end}

module _ (design : Ordered) (request : Request) (listed : Listed) (same : listed ≡ listed_of design.tree request) (sound : AreRoutes design listed request.bridges (plan_hub design.circuit design.tree request)) where
  abbrev own_bridges : Bridges
  own_bridges = plan_bridges design.circuit design.tree request

  -- each channel is between machines
  pub plan-ends : All (λ r. (r.producer < machine_end own_bridges) × (r.consumer < machine_end own_bridges)) (plan_wires design.circuit design.tree request)
  plan-ends =
      subst (λ (l : Listed). All (λ r. (r.producer < machine_end (ports_of design.circuit design.tree l request.bridges)) × (r.consumer < machine_end (ports_of design.circuit design.tree l request.bridges))) (plan_wires design.circuit design.tree request)) same
      sound.ends

  -- each channel is given by a machine
  pub given-below : (wires : List Wire) (machines : List Machine) → wires ≡ plan_wires design.circuit design.tree request → length machines ≡ machine_end own_bridges → (c : ℕ) → c < length wires → (wire_at wires c).producer < length machines
  given-below wires machines all total c lt =
      let ends = subst (λ (l : List Wire). All (λ r. (r.producer < machine_end own_bridges) × (r.consumer < machine_end own_bridges)) l) (sym all) plan-ends in
      let below = (ends c (wire 0 0 0) lt).0 in
      omega (arith, below, total)

  -- each carries a signal of the circuit
  pub known-below : (wires : List Wire) (whole : FlatCircuit) → wires ≡ plan_wires design.circuit design.tree request → whole ≡ design.circuit → (c : ℕ) → c < length wires → (wire_at wires c).signal < length whole.signals
  known-below wires whole all is c lt =
      let known = subst (λ (l : List Wire). All (λ r. r.signal < length design.circuit.signals) l) (sym all) sound.known in
      let below = known c (wire 0 0 0) lt in
      let count = ap (λ (circuit : FlatCircuit). length circuit.signals) is in
      omega (arith, below, count)

-- ---- numbers

-- a machine before the sources is one of the plan's
pub low-within : (draft : Draft) → IsDraft draft → (m : ℕ) → m < first_source draft.listed → m < draft_end draft
low-within draft is m low = let same = is.listed in omega (arith, low, ap (λ (l : Listed). length l.units) same, ap (λ (l : Listed). length l.memories) same)
