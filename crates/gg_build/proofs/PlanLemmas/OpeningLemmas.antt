-- The machines of the network are before their first step, each in the state in which it begins.
use Rattle.std.proofs.Common.{◌≡◌, ℕ, ◌<◌, List, None, false, length, refl, sym, ◌∙◌, ap, subst, arith}
use Rattle.std.specs.Prelude.{Option, replicate}
use Rattle.std.proofs.lemmas.List.{length-replicate, get_or-map}
use Rattle.gg_flat.specs.Streams.{Flow, state_in}
use Rattle.gg_flat.specs.Run.{Start}
use Rattle.gg_order.specs.Design.{Ordered}
use Rattle.gg_partfile.specs.declared.request.Request.{Request}
use Rattle.gg_cut_plan.specs.Bridges.{Models}
use Rattle.gg_cut_plan.specs.declared.plan.Plan.{Plan}
use Rattle.gg_cut_plan.specs.declared.plan.Body.{Body}
use Rattle.gg_cut_plan.specs.declared.plan.Body.TheVariants.{Cut, Memory, Source, Tray, Bridge}
use Rattle.gg_cut_plan.specs.declared.plan.Machine as planned
use Rattle.gg_bridge.specs.Turned.{turned}
use Rattle.gg_node.specs.Machine.{Machine, machine_at, no_state}
use Rattle.gg_net.specs.inside.Net.{IsOpening}
use Rattle.gg_build.specs.plan.Built.{machine_in, nameless, IsBuilt, AreBuilt, body_start, body_state, states_of, flow_of, IsGiven}
use Rattle.gg_build.specs.inside.Given.{Given, IsBodyAt, given_of}
use Rattle.gg_build.proofs.PlanLemmas.GivenLemmas.{body-at, memory-at}
use Rattle.gg_build.proofs.PlanLemmas.BeginLemmas.{memory-begins}

-- lists of empty latches and of clear flags, by their own length
latches-of : (n : ℕ) → ◌≡◌ {A = List (Option ℕ)} (replicate n None) (replicate (length (replicate {A = Option ℕ} n None)) None)
latches-of n = let none : Option ℕ = None in ap (λ (k : ℕ). replicate k none) (sym (length-replicate n none))

flags-of : (n : ℕ) → replicate n false ≡ replicate (length (replicate n false)) false
flags-of n = ap (λ (k : ℕ). replicate k false) (sym (length-replicate n false))

module _ (given : Given) (machines : List Machine) (built : AreBuilt given.plan (body_start given.start) given.columns machines) where
  open given use {design, request, plan, columns, start, rows}

  abbrev flow : Flow
  flow = flow_of design request plan start rows

  -- a machine with this body begins in its part of the start
  opens : (m outs : ℕ) (body : Body) (machine : Machine) → IsBodyAt given m body → state_in (states_of plan start.state) m ≡ body_state body start.state → IsBuilt columns outs (body_start start body) body machine → IsOpening flow m machine
  opens m outs (Cut part) machine body begins unit =
      subst (IsOpening flow m) (sym unit.is)
      (record {
        cycle = refl;
        state = sym begins;
        served = refl;
        latches = latches-of (length unit.circuit.ins);
        flags = flags-of (length unit.circuit.outs);
        kept = refl;
      })
  opens m outs (Memory part) machine body begins memory =
      let own = memory-at given m part body in
      subst (IsOpening flow m) (sym memory.is)
      (record {
        cycle = refl;
        state = memory-begins part memory.alone start.state memory.is_part memory.memories memory.is_memory.alone own.1.count ∙ sym begins;
        served = refl;
        latches = latches-of (length memory.alone.piece.ins);
        flags = flags-of (length memory.alone.piece.outs);
        kept = refl;
      })
  opens m outs (Source place) machine body begins is = subst (IsOpening flow m) (sym is) (record { cycle = refl; state = refl; served = refl; latches = refl; flags = flags-of outs; kept = refl })
  opens m outs Tray machine body begins is = subst (IsOpening flow m) (sym is) (record { cycle = refl; state = refl; served = refl; latches = refl; flags = refl; kept = refl })
  opens m outs (Bridge bridge) machine body begins is =
      let piece = turned bridge.model bridge.ins bridge.outs in
      subst (IsOpening flow m) (sym is) (record { cycle = refl; state = sym begins; served = refl; latches = latches-of (length piece.ins); flags = flags-of (length piece.outs); kept = refl })

  pub given-opening : (m : ℕ) → m < length machines → IsOpening (flow_of design request plan start rows) m (machine_at machines m)
  given-opening m lt =
      let known : m < length plan.machines = omega (arith, lt, built.count) in
      opens m (length (machine_in plan m).outs) (machine_in plan m).body (machine_at machines m) (body-at given m known)
      (get_or-map (λ (machine : planned.Machine). body_state machine.body start.state) plan.machines m nameless no_state known) (built.each m known)

pub built-opening : (design : Ordered) (request : Request) (models : Models) (default : ℕ) (plan : Plan) (columns : List (List ℕ)) (n : ℕ) (start : Start) (rows : List (List ℕ)) (machines : List Machine) → IsGiven design request models default plan columns n start rows → AreBuilt plan (body_start start) columns machines
    → (m : ℕ) → m < length machines → IsOpening (flow_of design request plan start rows) m (machine_at machines m)
built-opening design request models default plan columns n start rows machines given built = given-opening (given_of given) machines built
