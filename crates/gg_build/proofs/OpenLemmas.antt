-- The hosts and stations of a plan's machines open its network.
use Rattle.std.proofs.Common.{◌≡◌, ℕ, ◌<◌, List, length, map, get_or, sym, ap, subst, ◌∙◌, arith}
use Rattle.std.proofs.lemmas.List.{get_or-map, length-map}
use Rattle.gg_flat.specs.Line.{value_at}
use Rattle.gg_flat.specs.Run.{Start}
use Rattle.gg_flat.specs.Streams.{Flow}
use Rattle.gg_cut_plan.specs.declared.plan.Body.{Body}
use Rattle.gg_cut_plan.specs.declared.plan.Plan.{Plan}
use Rattle.gg_node.specs.Machine.{Machine, machine_at, no_machine}
use Rattle.gg_net.specs.declared.shape.Wire.{Wire}
use Rattle.gg_net.specs.declared.shape.Station.{Station}
use Rattle.gg_net.specs.Network.{Network, Kind, kind_of, kind_at, IsAtIn, IsAtOut}
use Rattle.gg_net.specs.inside.Stations.{stationed, machines_by}
use Rattle.gg_net.specs.inside.Net.{entry_of, IsListed, Opens}
use Rattle.gg_net.specs.Net.{opening_net}
use Rattle.gg_build.specs.plan.Built.{machine_in, wires_of_plan, AreBuilt, body_start, flow_of}
use Rattle.gg_build.specs.inside.Given.{given_of}
use Rattle.gg_build.proofs.PlanLemmas.PlanLemmas.{plan-listed}
use Rattle.gg_build.proofs.PlanLemmas.FitLemmas.{kind-is}
use Rattle.gg_build.proofs.PlanLemmas.SolvedLemmas.{plan-sound}
use Rattle.gg_build.proofs.PlanLemmas.OpeningLemmas.{given-opening}
use Rattle.gg_build.proofs.PlanLemmas.WithinLemmas.{plan-within}
use Rattle.gg_build.specs.declared.node.Node.{Node}
use Rattle.gg_build.specs.inside.Node.{machines_of}
use Rattle.gg_build.specs.declared.begin.Begin.{Begin}
use Rattle.gg_build.specs.inside.Begin.{AreTokens, starts_of}
use Rattle.gg_build.specs.Build.{IsOpeningFrom, IsToRunFrom, run_token}
use Rattle.gg_build.specs.inside.Build.{Begins}
use Rattle.gg_build.proofs.BeginLemmas.{built-there}
use Rattle.gg_build.specs.inside.Hosts.{IsPlacement, IsBuiltWith}
use Rattle.gg_build.proofs.PlacementLemmas.{no_station}

module _ {B : Type 0} (plan : Plan) (begin : Begin) (columns : List (List ℕ)) (n : ℕ) (hosts : List (Node B)) (stations : List Station) (are : IsPlacement plan (starts_of plan.ratios begin) columns hosts stations) where
  abbrev pub lists_of : List (List Machine)
  lists_of = map machines_of hosts

  abbrev machines : List Machine
  machines = machines_by lists_of stations

  abbrev starts : Body → Start
  starts = starts_of plan.ratios begin

  -- ---- machines

  machine-is : (m : ℕ) (s : Station) → m < length plan.machines → machine_at machines m ≡ stationed lists_of (get_or stations m s)
  machine-is m s lt = get_or-map (stationed lists_of) stations m s no_machine (omega (arith, lt, are.total))

  pub are-built : AreBuilt plan starts columns machines
  are-built =
      record {
        count = length-map stations (stationed lists_of) ∙ are.total;
        each = λ m lt. subst (IsBuiltWith starts columns (length (machine_in plan m).outs) (machine_in plan m).body) (sym (machine-is m no_station lt)) (are.each m no_station lt).built;
      }

  -- ---- for a run

  module _ (start : Start) (flow : Flow) (run : IsToRunFrom plan start columns n flow) (begins : Begins run.design run.request plan start begin) where
    abbrev token : ℕ → ℕ
    token = run_token run

    -- the machines begin with their parts of the start
    built : AreBuilt plan (body_start start) columns machines
    built = built-there (given_of run.given) begin begins machines are-built

    is-listed : (m : ℕ) (s : Station) → m < length plan.machines → IsListed (wires_of_plan token plan) m (kind_at (map kind_of machines) m) (get_or stations m s)
    is-listed m s lt =
        let there = are.each m s lt in
        let at = plan-listed (given_of run.given) token starts machines are-built m lt in
        let kind : kind_at (map kind_of machines) m ≡ kind_of (stationed lists_of (get_or stations m s)) = kind-is machines m (omega (arith, lt, are-built.count)) ∙ ap kind_of (machine-is m s lt) in
        record {
          ins = ap length there.ins ∙ at.ins;
          into = λ i low. subst (λ (l : List ℕ). IsAtIn (wires_of_plan token plan) m i (value_at l i)) (sym there.ins) (at.into i low);
          outs = ap length there.outs ∙ at.outs;
          from = λ o low. subst (λ (l : List ℕ). IsAtOut (wires_of_plan token plan) m o (value_at l o)) (sym there.outs) (at.from o low);
          ports = there.ports ∙ sym (ap (λ (k : Kind). map entry_of k.ports) kind);
          few = at.few;
        }

    opens-plan : Opens (flow_of run.design run.request plan start run.rows) lists_of stations (wires_of_plan token plan) n
    opens-plan =
        record {
          stationed = are.threads;
          opening = λ m lt. given-opening (given_of run.given) machines built m (omega (arith, lt, length-map stations (stationed lists_of)));
          listed = λ m s lt. is-listed m s (omega (arith, lt, are.total));
          limits = plan-within (given_of run.given) token starts machines are-built run.room;
          sound = plan-sound (given_of run.given) machines built;
        }

    module _ (wires : List Wire) (same : (token : ℕ → ℕ) → AreTokens plan.channels token begin.tokens.items → wires ≡ wires_of_plan token plan) where
      pub opens : Opens flow lists_of stations wires n
      opens =
          subst (λ (ws : List Wire). Opens flow lists_of stations ws n) (sym (same token begins.tokens))
          (subst (λ (f : Flow). Opens f lists_of stations (wires_of_plan token plan) n) (sym run.flow_is) opens-plan)

      pub opens-there : (net : Network) → net ≡ opening_net machines wires n → IsOpeningFrom plan start token columns n net
      opens-there net is = record { machines = machines; built = built; is = is ∙ ap (λ (ws : List Wire). opening_net machines ws n) (same token begins.tokens) }
