-- The plan of the two units of WorkedShare, asked for with direct channels, in full.
--
-- `u.a` comes from the source of `x`, and `p` and `q` come from `u` and `v`. `x` goes to the hub too, which makes `v.a` of it.
use Rattle.std.proofs.Common.{◌≡◌, false, ℕ, ◌<◌, List, [], ◌∷◌, true, set, refl, arith, lit<, lit≤}
use Rattle.std.specs.Prelude.{codes, slice_index_or}
use Rattle.gg_bits.specs.declared.ops.Op1.TheVariants.{Not}
use Rattle.gg_flat.specs.declared.line.Op.TheVariants.{Ref, One}
use Rattle.gg_flat.specs.declared.piece.Driver.TheVariants.{Input, Computed}
use Rattle.gg_flat.proofs.WorkedCircuits.{eight, node}
use Rattle.gg_flat.proofs.WorkedMemories.{signal}
use Rattle.gg_part.specs.Part.{IsPart}
use Rattle.gg_part.specs.declared.part.Part.{Part}
use Rattle.gg_partfile.specs.declared.request.Request.{Request}
use Rattle.gg_cut_plan.specs.declared.plan.Body.TheVariants.{Cut, Source, Tray}
use Rattle.gg_cut_plan.specs.declared.plan.Machine.{Machine}
use Rattle.gg_cut_plan.specs.declared.plan.Channel.{Channel}
use Rattle.gg_cut_plan.specs.declared.wires.Wire.{Wire}
use Rattle.gg_cut_plan.specs.Direct.{Hub, plan_hub, plan_wires}
use Rattle.gg_cut_plan.specs.Channels.{capacity_of}
use Rattle.gg_cut_plan.specs.Plan.{IsPlan, IsMachine, IsChannel, IsCutPart, wire_at}
use Rattle.gg_cut.proofs.WorkedTests.{each-below, ascending, names-below, has-needs}
use Rattle.gg_cut.proofs.WorkedHosts.{shared-two}
use Rattle.gg_cut.proofs.WorkedParts.{is-part, no-memories, is-cut-part}
use Rattle.gg_cut.proofs.WorkedShare.{circuit, tree, design, listed, part_u, part_v, u-part, v-part}
use Rattle.gg_cut.proofs.WorkedShare as share

abbrev request : Request
request = record share.request { direct = true }

abbrev wires : List Wire
wires = plan_wires circuit tree request

abbrev routed : Hub
routed = plan_hub circuit tree request

-- ---- the parts

-- the hub takes `x` and makes `v.a`
abbrev hub : Part
hub =
    record {
      piece =
          record {
            paths = codes "x" ∷ codes "v.a" ∷ [];
            signals =
                signal eight (Input 0)
                ∷ signal eight (Computed (node eight (Ref 0) ∷ node eight (One Not 0) ∷ [])) ∷ [];
            registers = [];
            memories = [];
            ins = 0 ∷ [];
            outs = 1 ∷ [];
            clocks = 0;
          };
      globals = 0 ∷ 6 ∷ [];
      held = [];
      memories = [];
      clocks = [];
    }

hub-part : IsPart circuit hub.piece hub.globals [] [] []
hub-part =
    is-part circuit hub.piece hub.globals refl refl refl refl refl refl
    ((lit< tt, refl), ((names-below 2 (node eight (Ref 0) ∷ node eight (One Not 0) ∷ []) refl, refl), tt))
    ((lit< tt, refl), tt) refl refl refl

hub-cut : IsCutPart design listed routed 0 hub
hub-cut = is-cut-part design listed routed 0 hub hub-part refl refl refl refl refl refl refl refl (no-memories tree listed 0 refl) refl

u-cut : IsCutPart design listed routed 1 part_u
u-cut = is-cut-part design listed routed 1 part_u u-part refl refl refl refl refl refl refl refl (no-memories tree listed 1 refl) refl

v-cut : IsCutPart design listed routed 2 part_v
v-cut = is-cut-part design listed routed 2 part_v v-part refl refl refl refl refl refl refl refl (no-memories tree listed 2 refl) refl

-- ---- the plan

abbrev machines : List Machine
machines =
    record { name = codes "hub:"; host = 0; body = Cut hub; ins = 0 ∷ []; outs = 2 ∷ [] }
    ∷ record { name = codes "u"; host = 1; body = Cut part_u; ins = 1 ∷ []; outs = 3 ∷ [] }
    ∷ record { name = codes "v"; host = 1; body = Cut part_v; ins = 2 ∷ []; outs = 4 ∷ [] }
    ∷ record { name = codes "in:x"; host = 2; body = Source 0; ins = []; outs = 0 ∷ 1 ∷ [] }
    ∷ record { name = codes "out:p"; host = 3; body = Tray; ins = 3 ∷ []; outs = [] }
    ∷ record { name = codes "out:q"; host = 4; body = Tray; ins = 4 ∷ []; outs = [] } ∷ []

abbrev channel : ℕ → List ℕ → ℕ → ℕ → List ℕ → Channel
channel s name producer consumer needs =
    record { signal = s; name = name; ty = eight; producer = producer; consumer = consumer; capacity = 2; pipe = false; needs = needs }

abbrev channels : List Channel
channels =
    channel 0 (codes "x") 3 0 []
    ∷ channel 3 (codes "u.a") 3 1 []
    ∷ channel 6 (codes "v.a") 0 2 (0 ∷ [])
    ∷ channel 1 (codes "p") 1 4 []
    ∷ channel 2 (codes "q") 2 5 [] ∷ []

is-machine : (m : ℕ) (any : Machine) → m < 6 → IsMachine design request [] listed routed m (slice_index_or machines m any)
is-machine m any =
    each-below (λ k. IsMachine design request [] listed routed k (slice_index_or machines k any)) 6 (
      record { name = refl; host = refl; body = (lit< tt, hub-cut); ins = refl; outs = refl },
      (
        record { name = refl; host = refl; body = (lit< tt, u-cut); ins = refl; outs = refl },
        (
          record { name = refl; host = refl; body = (lit< tt, v-cut); ins = refl; outs = refl },
          (
            record { name = refl; host = refl; body = (lit< tt, refl); ins = refl; outs = refl },
            (
              record { name = refl; host = refl; body = (lit≤ tt, lit< tt); ins = refl; outs = refl },
              (record { name = refl; host = refl; body = (lit≤ tt, lit< tt); ins = refl; outs = refl }, tt),
            ),
          ),
        ),
      ),
    ) m

is-channel : (c : ℕ) (any : Channel) → c < 5 → IsChannel design (capacity_of [] 2) (λ s. false) machines (wire_at wires c) (slice_index_or channels c any)
is-channel c any =
    each-below (λ k. IsChannel design (capacity_of [] 2) (λ s. false) machines (wire_at wires k) (slice_index_or channels k any)) 5 (
      record { signal = refl; name = refl; type = refl; producer = refl; consumer = refl; bound = refl; pipe = refl; ascending = ascending [] refl; needs = λ other. refl },
      (
        record { signal = refl; name = refl; type = refl; producer = refl; consumer = refl; bound = refl; pipe = refl; ascending = ascending [] refl; needs = λ other. refl },
        (
          record { signal = refl; name = refl; type = refl; producer = refl; consumer = refl; bound = refl; pipe = refl; ascending = ascending (0 ∷ []) refl; needs = λ other. has-needs hub (0 ∷ []) 6 (0 ∷ []) refl },
          (
            record { signal = refl; name = refl; type = refl; producer = refl; consumer = refl; bound = refl; pipe = refl; ascending = ascending [] refl; needs = λ other. has-needs part_u (1 ∷ []) 4 [] refl },
            (record { signal = refl; name = refl; type = refl; producer = refl; consumer = refl; bound = refl; pipe = refl; ascending = ascending [] refl; needs = λ other. has-needs part_v (2 ∷ []) 7 [] refl }, tt),
          ),
        ),
      ),
    ) c

pub is-plan : IsPlan design request [] 2 (record { machines = machines; channels = channels; listed = listed; ratios = [] })
is-plan =
    record {
      listed = refl;
      ratios = refl;
      machine_total = refl;
      few = lit< tt;
      channel_total = refl;
      machine = is-machine;
      channel = is-channel;
      shared =
          shared-two machines 1 2 9 (lit< tt) (λ e. absurd (omega (arith, e))) refl refl
          (λ any other. record { signals = refl; clocks = refl; registers = refl; memories = refl; ins = refl; outs = λ s. (λ c. c, λ c. c) })
          (λ any other. record { signals = refl; clocks = refl; registers = refl; memories = refl; ins = refl; outs = λ s. (λ c. c, λ c. c) });
    }

-- ---- what is no plan of the cut

abbrev any_machine : Machine
any_machine = record { name = []; host = 0; body = Tray; ins = []; outs = [] }

abbrev any_channel : Channel
any_channel = channel 0 [] 0 0 []

-- the plan that was right without direct channels
passed-on : ¬ IsPlan design request [] 2 (record { machines = share.machines; channels = share.channels; listed = listed; ratios = [] })
passed-on is = let count : 7 ≡ 5 = is.channel_total in absurd (omega (arith, count))

-- a direct channel that still comes from the hub
from-hub : ¬ IsPlan design request [] 2 (record { machines = machines; channels = set channels 1 (channel 3 (codes "u.a") 0 1 []); listed = listed; ratios = [] })
from-hub is = let giver : 0 ≡ 3 = (is.channel 1 any_channel (lit< tt)).producer in absurd (omega (arith, giver))

-- a direct channel under the name of its origin
renamed : ¬ IsPlan design request [] 2 (record { machines = machines; channels = set channels 1 (channel 0 (codes "x") 3 1 []); listed = listed; ratios = [] })
renamed is = let signal : 0 ≡ 3 = (is.channel 1 any_channel (lit< tt)).signal in absurd (omega (arith, signal))
