-- The network of a plan before its first step is kept.
use Rattle.std.proofs.Common.{◌≡◌, ℕ, zero, suc, ◌<◌, List, ◌+◌, Some, None, length, refl, sym, ap, ◌∙◌, subst, arith}
use Rattle.std.specs.Prelude.{Option}
use Rattle.std.proofs.lemmas.List.{length-map}
use Rattle.gg_flat.specs.Line.{value_at}
use Rattle.gg_flat.specs.Streams.{Flow}
use Rattle.gg_cut_plan.specs.declared.plan.Plan.{Plan}
use Rattle.gg_flat.specs.Run.{Start}
use Rattle.gg_node.specs.Machine.{Machine, latch_at, machine_at}
use Rattle.gg_node.proofs.EmptyLemmas.{empty-after}
use Rattle.gg_net.specs.declared.shape.Wire.{Wire}
use Rattle.gg_net.specs.Kept.{BetweenAt, IsSound, Kept, list_at}
use Rattle.gg_net.specs.inside.Net.{IsOpening}
use Rattle.gg_net.specs.Net.{opening_net}
use Rattle.gg_net.specs.Network.{Network, entered, entered_by, frame_of, got_by, kind_of, opening_queue, queue_at, takes, wire_at}
use Rattle.gg_net.proofs.OpenLemmas.{machine-open, queue-opens}
use Rattle.gg_net.proofs.MarkingsLemmas.OpeningLemmas.{none-put}
use Rattle.gg_build.specs.plan.Built.{flow_of, wires_of_plan}
use Rattle.gg_build.specs.inside.Given.{given_of}
use Rattle.gg_build.proofs.PlanLemmas.OpeningLemmas.{given-opening}
use Rattle.gg_build.proofs.PlanLemmas.SolvedLemmas.{plan-sound}
use Rattle.gg_build.specs.Build.{IsOpeningFrom, IsToRunFrom, run_token}

-- the queue that a channel opens with, by the token in it
between-first : (first : Option ℕ) (list : List ℕ) (capacity begin taken entered : ℕ) (queue : List ℕ) → queue ≡ opening_queue first → taken ≡ begin → entered ≡ entered_by first begin → 0 < capacity
    → ((token : ℕ) → first ≡ Some token → token ≡ value_at list begin) → BetweenAt list capacity taken entered queue
between-first None list capacity begin taken entered queue is took put some opens =
    record { held = omega (arith, ap length is, took, put); room = omega (arith, ap length is); tokens = λ j lt. absurd (omega (arith, lt, ap length is)) }
between-first (Some token) list capacity begin taken entered queue is took put some opens =
    record { held = omega (arith, ap length is, took, put); room = omega (arith, ap length is, some); tokens = tokens }
  where
    tokens : (j : ℕ) → j < length queue → value_at queue j ≡ value_at list (taken + j)
    tokens zero lt = ap (λ (l : List ℕ). value_at l 0) is ∙ opens token refl ∙ ap (value_at list) (omega (arith, took))
    tokens (suc j) lt = absurd (omega (arith, lt, ap length is))

module _ (flow : Flow) (machines : List Machine) (wires : List Wire) (end : ℕ) (opening : (m : ℕ) → m < length machines → IsOpening flow m (machine_at machines m)) (sound : IsSound flow (frame_of (opening_net machines wires end))) where
  abbrev net : Network
  net = opening_net machines wires end

  there : (m : ℕ) → m < length (frame_of net).kinds → m < length machines
  there m lt = omega (arith, lt, length-map machines kind_of)

  none-taken : (c : ℕ) → c < length wires → takes net c ≡ flow.begin
  none-taken c known =
      let w : Wire = wire_at wires c in
      let x : Machine = machine_at machines w.consumer in
      let open_at = opening w.consumer (there w.consumer (sound.wired.consumer c known)) in
      ap (λ latches. got_by x.cycle (latch_at latches w.place)) open_at.latches ∙ ap (got_by x.cycle) (empty-after (length x.latches) w.place) ∙ open_at.cycle

  between : (c : ℕ) → c < length wires → BetweenAt (list_at flow.lists c) (wire_at wires c).capacity (takes net c) (entered net c) (queue_at net.queues c)
  between c known =
      let w : Wire = wire_at wires c in
      between-first w.first (list_at flow.lists c) w.capacity flow.begin (takes net c) (entered net c) (queue_at net.queues c) (queue-opens wires c) (none-taken c known)
      (ap (entered_by w.first) (none-put flow machines wires end opening c (there w.producer (sound.wired.producer c known)))) (sound.wired.some c known)
      (λ token is. sound.solves.opens c token known is)

  kept-opening : Kept flow net
  kept-opening =
      record {
        queues = length-map wires (λ (w : Wire). opening_queue w.first);
        sound = sound;
        machines = λ m lt. machine-open flow machines wires end sound.solves.begins m (opening m lt);
        channels = between;
      }

module _ (plan : Plan) (start : Start) (columns : List (List ℕ)) (n : ℕ) (flow : Flow) (run : IsToRunFrom plan start columns n flow) (net : Network) (opens : IsOpeningFrom plan start (run_token run) columns n net) where
  -- the machines begin with their parts of the start
  pub begins-so : (m : ℕ) → m < length opens.machines → IsOpening (flow_of run.design run.request plan start run.rows) m (machine_at opens.machines m)
  begins-so m lt = given-opening (given_of run.given) opens.machines opens.built m lt

  pub opening-kept : Kept flow net
  opening-kept =
      let token = run_token run in
      let own = flow_of run.design run.request plan start run.rows in
      subst (Kept flow) (sym opens.is)
      (subst (λ (f : Flow). Kept f (opening_net opens.machines (wires_of_plan token plan) n)) (sym run.flow_is)
      (kept-opening own opens.machines (wires_of_plan token plan) n begins-so
      (plan-sound (given_of run.given) opens.machines opens.built)))
