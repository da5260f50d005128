-- Hosts that the machines of a plan don't have.
use Rattle.std.proofs.Common.{◌≡◌, ℕ, List, [], ◌∷◌, refl, arith}
use Rattle.gg_flat.specs.Run.{Start}
use Rattle.gg_cut_plan.specs.declared.plan.Body.{Body}
use Rattle.gg_cut_plan.specs.declared.plan.Body.TheVariants.{Tray}
use Rattle.gg_cut_plan.specs.declared.plan.Machine as planned
use Rattle.gg_cut_plan.specs.declared.plan.Plan.{Plan}
use Rattle.gg_net.specs.declared.shape.Station.{Station}
use Rattle.gg_build.specs.declared.node.Node.{Node}
use Rattle.gg_build.specs.inside.Hosts.{IsPlacement}
use Rattle.gg_build.proofs.PlacementLemmas.{no_station}

-- a machine that has this host in the plan
abbrev machine_for : ℕ → planned.Machine
machine_for host = record { name = []; host = host; body = Tray; ins = []; outs = [] }

abbrev station_at : ℕ → ℕ → Station
station_at host thread = record { host = host; thread = thread; ins = []; outs = []; ports = [] }

module _ {B : Type 0} (other : Plan) (starts : Body → Start) (columns : List (List ℕ)) (nodes : List (Node B)) where
  -- a plan with two machines, which have these hosts
  abbrev plan : ℕ → ℕ → Plan
  plan first second = record { machines = machine_for first ∷ machine_for second ∷ []; channels = other.channels; listed = other.listed; ratios = other.ratios }

  -- Two machines that share a host in the plan don't have a host each.
  not-apart : IsPlacement (plan 0 0) starts columns nodes (station_at 0 0 ∷ station_at 1 0 ∷ []) → ⊥
  not-apart are = let same : 0 ≡ 1 = (are.together 0 1 no_station no_station (omega arith) (omega arith)).0 refl in absurd (omega (arith, same))

  -- Two machines that have a host each in the plan don't share one.
  not-together : IsPlacement (plan 0 1) starts columns nodes (station_at 0 0 ∷ station_at 0 1 ∷ []) → ⊥
  not-together are = let same : 0 ≡ 1 = (are.together 0 1 no_station no_station (omega arith) (omega arith)).1 refl in absurd (omega (arith, same))

  -- The first machine isn't at the second host.
  not-second : IsPlacement (plan 0 1) starts columns nodes (station_at 1 0 ∷ station_at 0 0 ∷ []) → ⊥
  not-second are = let earlier = (are.ascend no_station 0 0 (omega arith) (omega arith)).earlier in absurd (omega (arith, earlier))
