-- A bridge at the ports of the circuit of WorkedShare: it sees `q` and drives `x`. The names, the hosts and the channels of its plan,
-- and what its machine does.
use Rattle.std.proofs.Common.{◌≡◌, ℕ, List, [], ◌∷◌, refl, ap, arith}
use Rattle.std.specs.Prelude.{codes, map}
use Rattle.gg_flat.specs.Line.{value_at}
use Rattle.gg_partfile.specs.declared.request.Request.{Request}
use Rattle.gg_cut_plan.specs.Bridges.{Models}
use Rattle.gg_cut_plan.specs.Channels.{wire}
use Rattle.gg_cut_plan.specs.Hosts.{host_of}
use Rattle.gg_cut_plan.specs.Plan.{IsBridgeBody, channels_from, channels_to, machine_names}
use Rattle.gg_cut_plan.specs.Ports.{machine_end, plan_bridges}
use Rattle.gg_cut_plan.specs.Direct.{plan_wires}
use Rattle.gg_cut.proofs.WorkedShare.{circuit, tree, design, request, listed}

-- the units `u` and `v` share a host
abbrev echoed : Request
echoed = record request { bridges = record { name = codes "echo8"; sees = codes "q" ∷ []; drives = codes "x" ∷ [] } ∷ [] }

-- one bridge sees both outputs, `q` before `p`
abbrev both_seen : Request
both_seen = record request { bridges = record { name = codes "both"; sees = codes "q" ∷ codes "p" ∷ []; drives = codes "x" ∷ [] } ∷ [] }

-- ---- the machines

names : machine_names design echoed listed ≡ codes "hub:" ∷ codes "u" ∷ codes "v" ∷ codes "out:p" ∷ codes "bridge:echo8" ∷ []
names = refl

total : machine_end (plan_bridges circuit tree echoed) ≡ 5
total = refl

hosts : map (host_of echoed.units echoed.share) (0 ∷ 1 ∷ 2 ∷ 3 ∷ 4 ∷ []) ≡ 0 ∷ 1 ∷ 1 ∷ 2 ∷ 3 ∷ []
hosts = refl

-- no machine is left of the ports if a bridge has them all
both-names : machine_names design both_seen listed ≡ codes "hub:" ∷ codes "u" ∷ codes "v" ∷ codes "bridge:both" ∷ []
both-names = refl

-- ---- the channels

channels : plan_wires circuit tree echoed ≡ wire 0 4 0 ∷ wire 3 0 1 ∷ wire 4 1 0 ∷ wire 6 0 2 ∷ wire 7 2 0 ∷ wire 1 0 3 ∷ wire 2 0 4 ∷ []
channels = refl

takes : channels_to (plan_wires circuit tree echoed) 4 ≡ 6 ∷ []
takes = refl

gives : channels_from (plan_wires circuit tree echoed) 4 ≡ 0 ∷ []
gives = refl

-- ---- what the bridge's machine does

-- any model serves: the plan takes it as it is
abbrev known : List ℕ → Models
known name = (name, circuit) ∷ []

echo-body : IsBridgeBody design echoed (known (codes "echo8")) (plan_wires circuit tree echoed) 4 0 (record { name = codes "echo8"; model = circuit; ins = 0 ∷ []; outs = 0 ∷ [] })
echo-body = record { known = omega arith; name = refl; model = refl; ins = refl; outs = refl }

-- the channels stand in their order, `p` before `q`, and each has the place of its port in the entry
both-body : IsBridgeBody design both_seen (known (codes "both")) (plan_wires circuit tree both_seen) 3 0 (record { name = codes "both"; model = circuit; ins = 1 ∷ 0 ∷ []; outs = 0 ∷ [] })
both-body = record { known = omega arith; name = refl; model = refl; ins = refl; outs = refl }

-- the order of the entry isn't that of the channels
in-list-order : IsBridgeBody design both_seen (known (codes "both")) (plan_wires circuit tree both_seen) 3 0 (record { name = codes "both"; model = circuit; ins = 0 ∷ 1 ∷ []; outs = 0 ∷ [] }) → ⊥
in-list-order is = let wrong : 0 ∷ 1 ∷ [] ≡ 1 ∷ 0 ∷ [] = is.ins in let first : 0 ≡ 1 = ap (λ (l : List ℕ). value_at l 0) wrong in absurd (omega (arith, first))
