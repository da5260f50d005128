-- The plan of an instance within an instance as a unit, whose channel is a pipe; and what isn't the plan of that request.
use Rattle.std.proofs.Common.{◌≡◌, true, false, ℕ, ◌<◌, List, [], ◌∷◌, None, Bool, refl, sym, lit<, lit≤}
use Rattle.std.specs.Prelude.{codes, slice_index_or}
use Rattle.gg_flat.proofs.WorkedForms.{both, three}
use Rattle.gg_partfile.specs.declared.request.Request.{Request}
use Rattle.gg_cut_plan.specs.declared.plan.Channel.{Channel}
use Rattle.gg_cut_plan.specs.declared.plan.Machine.{Machine}
use Rattle.gg_cut_plan.specs.Channels.{capacity_of}
use Rattle.gg_cut_plan.specs.Direct.{Hub, is_piped, plan_hub, plan_wires}
use Rattle.gg_cut_plan.specs.Fault.{first_fault}
use Rattle.gg_cut_plan.specs.Plan.{IsPlan, IsMachine, IsChannel, IsCutPart, wire_at}
use Rattle.gg_cut.proofs.WorkedCore.{nibble, circuit, tree, design, request, listed, hub, core, hub-part, core-part, machines}
use Rattle.gg_cut.proofs.WorkedTests.{ascending, has-needs}
use Rattle.gg_cut.proofs.WorkedHosts.{unshared}
use Rattle.gg_cut.proofs.WorkedParts.{no-memories, is-cut-part}

-- what the core gives comes a cycle late
abbrev late : Request
late = record request { pipe = codes "tile.core.o" ∷ [] }

abbrev routed : Hub
routed = plan_hub circuit tree late

accepted : first_fault design late ≡ None
accepted = refl

hub-cut : IsCutPart design listed routed 0 hub
hub-cut = is-cut-part design listed routed 0 hub hub-part refl refl refl refl refl refl refl refl (no-memories tree listed 0 refl) refl

core-cut : IsCutPart design listed routed 1 core
core-cut = is-cut-part design listed routed 1 core core-part refl refl refl refl refl refl refl refl (no-memories tree listed 1 refl) refl

is-machine : (m : ℕ) (any : Machine) → m < 3 → IsMachine design late [] listed routed m (slice_index_or machines m any)
is-machine m any =
    three (λ k. IsMachine design late [] listed routed k (slice_index_or machines k any))
    (record { name = refl; host = refl; body = (lit< tt, hub-cut); ins = refl; outs = refl })
    (record { name = refl; host = refl; body = (lit< tt, core-cut); ins = refl; outs = refl })
    (record { name = refl; host = refl; body = (lit≤ tt, lit< tt); ins = refl; outs = refl })
    m

-- the channels, where these are pipes
abbrev channels : Bool → Bool → List Channel
channels one other =
    record { signal = 2; name = codes "tile.core.o"; ty = nibble; producer = 1; consumer = 0; capacity = 2; pipe = one; needs = [] }
    ∷ record { signal = 0; name = codes "o"; ty = nibble; producer = 0; consumer = 2; capacity = 2; pipe = other; needs = 0 ∷ [] } ∷ []

is-channel : (c : ℕ) (any : Channel) → c < 2 → IsChannel design (capacity_of [] 2) (is_piped circuit late) machines (wire_at (plan_wires circuit tree late) c) (slice_index_or (channels true false) c any)
is-channel c any =
    both (λ k. IsChannel design (capacity_of [] 2) (is_piped circuit late) machines (wire_at (plan_wires circuit tree late) k) (slice_index_or (channels true false) k any))
    (record { signal = refl; name = refl; type = refl; producer = refl; consumer = refl; bound = refl; pipe = refl; ascending = ascending [] refl; needs = λ other. has-needs core [] 2 [] refl })
    (record { signal = refl; name = refl; type = refl; producer = refl; consumer = refl; bound = refl; pipe = refl; ascending = ascending (0 ∷ []) refl; needs = λ other. has-needs hub (0 ∷ []) 0 (0 ∷ []) refl })
    c

is-plan : IsPlan design late [] 2 (record { machines = machines; channels = channels true false; listed = listed; ratios = [] })
is-plan = record { listed = refl; ratios = refl; machine_total = refl; few = lit< tt; channel_total = refl; machine = is-machine; channel = is-channel; shared = unshared machines refl }

-- ---- what isn't a plan of the request

abbrev any : Channel
any = record { signal = 0; name = []; ty = nibble; producer = 0; consumer = 0; capacity = 0; pipe = false; needs = [] }

clash : false ≡ true → ⊥
clash e = absurd (cc)

-- a channel that should be a pipe and isn't
without : ¬ IsPlan design late [] 2 (record { machines = machines; channels = channels false false; listed = listed; ratios = [] })
without is = clash (is.channel 0 any (lit< tt)).pipe

-- a pipe that isn't asked for
another : ¬ IsPlan design late [] 2 (record { machines = machines; channels = channels true true; listed = listed; ratios = [] })
another is = clash (sym (is.channel 1 any (lit< tt)).pipe)
