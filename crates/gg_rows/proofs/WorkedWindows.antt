-- Windows, and what host steps bring to a tray, worked by hand.
use Rattle.std.proofs.Common.{◌≡◌, ℕ, zero, suc, ◌+◌, ◌<◌, List, [], ◌∷◌, Some, None, Bool, true, false, get_or, length, refl, ap, arith, lit<}
use Rattle.std.specs.Prelude.{IsSome, Option}
use Rattle.gg_flat.proofs.WorkedForms.{both, only}
use Rattle.gg_flat.specs.Line.{value_at}
use Rattle.gg_node.specs.Machine.{Machine, kept_value, machine_at, no_state, source_machine, tray_machine}
use Rattle.gg_net.specs.declared.event.Event.{Event}
use Rattle.gg_net.specs.declared.event.Event.TheVariants.{Finish, Fire, Latch}
use Rattle.gg_net.specs.Kept.{BetweenAt, Kept, NeedsChannel, list_at}
use Rattle.gg_net.specs.inside.Net.{IsOpening}
use Rattle.gg_net.specs.Network.{Kind, Network, entered, frame_of, queue_at, takes, wire_at}
use Rattle.gg_net.specs.Step.{Step}
use Rattle.gg_net.proofs.OpenLemmas.{machine-open}
use Rattle.gg_net.proofs.WorkedNets.{fed, fed_flow, fed_wires, fed-solved, fed-wired, no-needs}
use Rattle.gg_net.specs.markings.Steps.{Steps}
use Rattle.gg_net.proofs.MarkingsLemmas.StepsLemmas.{steps-frame, steps-kept}
use Rattle.gg_rows.specs.Rows.{TraysKeep}
use Rattle.gg_rows.specs.inside.Window.{window_end}
use Rattle.gg_rows.proofs.FrameLemmas.{kind-same, same-end, same-machines, same-wires}
use Rattle.gg_rows.proofs.TrayLemmas.{tray-only}

-- of 1,026 cycles: a whole window, and one of two cycles
first-window : window_end 0 1026 ≡ 1024
first-window = refl

last-window : window_end 1024 1026 ≡ 1026
last-window = refl

-- a near miss: the last window ends at the end, and not 1,024 cycles on
near-window : window_end 1024 1026 ≡ 2048 → ⊥
near-window e = absurd (omega (arith, e))

-- a run of no cycles has no window
no-window : window_end 0 0 ≡ 0
no-window = refl

-- ---- a source that gives 4 and 6 feeds a tray: the four steps of cycle 0

abbrev net_with : Machine → Machine → List ℕ → Network
net_with a b queue = record { machines = a ∷ b ∷ []; wires = fed_wires; queues = queue ∷ []; end = 2 }

abbrev source : ℕ → Bool → Machine
source cycle flag = source_machine (4 ∷ 6 ∷ []) cycle (flag ∷ [])

abbrev tray : ℕ → List ℕ → Option ℕ → Machine
tray cycle kept latch = tray_machine 2 2 cycle kept latch

-- the token is in the queue, and then in the tray's latch; the source has finished, and then the tray
abbrev given : Network
given = net_with (source 0 true) (tray 0 [] None) (4 ∷ [])

abbrev taken : Network
taken = net_with (source 0 true) (tray 0 [] (Some 4)) []

abbrev gone : Network
gone = net_with (source 1 false) (tray 0 [] (Some 4)) []

abbrev after : Network
after = net_with (source 1 false) (tray 1 (4 ∷ []) None) []

give : Step fed (Fire 0) given
give = record { ready = refl; after = record { token = 4; is = refl; after = refl } }

take-it : Step given (Latch 0) taken
take-it = record { ready = refl; after = refl }

go : Step taken (Finish 0) gone
go =
    record {
      ready = refl;
      after = record { state = no_state; is = refl; after = refl };
    }

go-on : Step gone (Finish 1) after
go-on =
    record {
      ready = refl;
      after = record { state = no_state; is = refl; after = refl };
    }

abbrev events : List (Option Event)
events = Some (Fire 0) ∷ Some (Latch 0) ∷ Some (Finish 0) ∷ Some (Finish 1) ∷ []

steps : Steps fed events after
steps = (given, give, (taken, take-it, (gone, go, (after, go-on, refl))))

-- ---- the network is kept

lower : (c d : ℕ) → NeedsChannel (frame_of fed) c d → value_at (0 ∷ []) d < value_at (0 ∷ []) c
lower zero d needs = absurd (no-needs 0 needs.place needs.needed)
lower (suc c) d needs = absurd (omega (arith, needs.known))

opening : (m : ℕ) → m < 2 → IsOpening fed_flow m (machine_at fed.machines m)
opening =
    both (λ m. IsOpening fed_flow m (machine_at fed.machines m))
    (record { cycle = refl; state = refl; served = refl; latches = refl; flags = refl; kept = refl })
    (record { cycle = refl; state = refl; served = refl; latches = refl; flags = refl; kept = refl })

kept : Kept fed_flow fed
kept =
    record {
      queues = refl;
      sound = record { wired = fed-wired; no_ring = record { ranks = 0 ∷ []; lower = lower }; solves = fed-solved };
      machines = λ m there. machine-open fed_flow fed.machines fed_wires 2 (omega arith) m (opening m there);
      channels = only (λ c. BetweenAt (list_at fed_flow.lists c) (wire_at fed_wires c).capacity (takes fed c) (entered fed c) (queue_at fed.queues c)) (record { held = refl; room = omega arith; tokens = λ j lt. absurd (omega (arith, lt)) });
    }

-- ---- what comes to the tray

module _ (others : List (Option Event)) (other : Network) (way : Steps fed others other) where
  same : frame_of other ≡ frame_of fed
  same = steps-frame fed others other way

  stays : Kept fed_flow other
  stays = steps-kept fed_flow fed others other kept way

  there : length other.machines ≡ 2
  there = same-machines fed other same

  -- a cycle of the tray whose value it keeps has the value of the source
  no-other : (t value : ℕ) → kept_value (machine_at other.machines 1) t ≡ Some value → value ≡ value_at (4 ∷ 6 ∷ []) t
  no-other t value is =
      let wires : other.wires ≡ fed_wires = same-wires fed other same in
      let kind = kind-same fed other same 1 (lit< tt) in
      (tray-only fed_flow other 1 0 2 t value stays (omega (arith, there)) (omega (arith, ap length wires)) (ap (λ l. (wire_at l 0).consumer) wires) (ap (λ (k : Kind). k.behaviour) kind) is).1

  -- no machine goes past the end
  not-past : 2 < (machine_at other.machines 0).cycle → ⊥
  not-past past = omega (arith, past, (stays.machines 0 (omega (arith, there))).within, same-end fed other same)

-- the tray gets 4 in cycle 0
first-comes : TraysKeep fed 1 0 (4 ∷ [])
first-comes =
    record {
      events = events;
      net = after;
      leads = steps;
      done = both (λ m. 0 < (machine_at after.machines m).cycle) (lit< tt) (lit< tt);
      keep = only (λ k. kept_value (machine_at after.machines (1 + k)) 0 ≡ Some (value_at (4 ∷ []) k)) refl;
      only = comes-only;
    }
  where
    comes-only : (others : List (Option Event)) (other : Network) (k value : ℕ) → Steps fed others other → k < 1 → kept_value (machine_at other.machines (1 + k)) 0 ≡ Some value → value ≡ value_at (4 ∷ []) k
    comes-only others other zero value way lt is = no-other others other way 0 value is
    comes-only others other (suc k) value way lt is = absurd (omega (arith, lt))

-- and no other value
not-another : TraysKeep fed 1 0 (6 ∷ []) → ⊥
not-another keep = let is : ◌≡◌ {A = ℕ} 4 6 = keep.only events after 0 4 steps (lit< tt) refl in omega (arith, is)

-- the value of the cycle before isn't that of the cycle
not-late : TraysKeep fed 1 1 (4 ∷ []) → ⊥
not-late keep = let is : ◌≡◌ {A = ℕ} 4 6 = no-other keep.events keep.net keep.leads 1 4 (keep.keep 0 (lit< tt)) in omega (arith, is)

-- there is no cycle 2, even if nothing has to be kept of it
not-past-the-end : TraysKeep fed 1 2 [] → ⊥
not-past-the-end keep = not-past keep.events keep.net keep.leads (keep.done 0 (omega (arith, there keep.events keep.net keep.leads)))
