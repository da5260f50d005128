-- Networks: their measure, which events can be done, and steps one after another.
-- Source: MEMOCODE 2009 (a network goes on by steps, one node at a time, and without a ring among dependencies it can
-- always go on); Dijkstra, "A Discipline of Programming" (1976), for the measure.
use Rattle.std.specs.Prelude.{◌≡◌, ℕ, ◌+◌, ◌-◌, ◌*◌, ◌<◌, ◌≤◌, min, max, List, [], ◌∷◌, Bool, true, false, length}
use Rattle.gg_flat.specs.Line.{value_at}
use Rattle.gg_flat.specs.Streams.{Flow}
use Rattle.gg_node.specs.Machine.{KeepsLast, machine_at}
use Rattle.gg_net.specs.declared.event.Event.{Event}
use Rattle.gg_net.specs.declared.event.Event.TheVariants.{Latch, Fire, Serve, Finish}
use Rattle.gg_net.specs.Network as network
use Rattle.gg_net.specs.Network.{Network, wire_at, queue_at, opening_queue, cycle_at}
use Rattle.gg_net.specs.Kept.{list_at}
use Rattle.gg_net.specs.Step.{Ready, Step}
use Rattle.gg_net.specs.inside.Step.{cycle_of}
use Rattle.gg_net.specs.markings.Measure.{sum_below}

-- the number of ports that a machine serves in a cycle
abbrev pub dues_at : Network → ℕ → ℕ
dues_at net m = length (machine_at net.machines m).ports

-- ---- the measure

-- the puts and the takes of channel c that are left up to the last cycle
abbrev pub wire_left : Network → ℕ → ℕ
wire_left net c = (net.end - network.puts net c) + (net.end - network.takes net c)

-- the cycles of machine m that are left, and the ports that it has still to serve in all of them
abbrev pub machine_left : Network → ℕ → ℕ
machine_left net m = (net.end - cycle_at net m) + (dues_at net m * net.end - network.serves net m)

-- the number of steps that are still to be done
abbrev pub net_left : Network → ℕ
net_left net = sum_below (wire_left net) (length net.wires) + sum_below (machine_left net) (length net.machines)

-- ---- which events can't be done

-- no token that machine m takes can be taken now
abbrev pub NoLatch : Network → ℕ → Type 0
NoLatch net m = (c : ℕ) → c < length net.wires → (wire_at net.wires c).consumer ≡ m → Ready net (Latch c) → ⊥

-- no token that machine m gives can be given now
abbrev pub NoFire : Network → ℕ → Type 0
NoFire net m = (c : ℕ) → c < length net.wires → (wire_at net.wires c).producer ≡ m → Ready net (Fire c) → ⊥

-- no port of machine m can be served now
abbrev pub NoServe : Network → ℕ → Type 0
NoServe net m = (p : ℕ) → Ready net (Serve m p) → ⊥

-- No event of a machine can be done.
pub record IsIdle (net : Network) (m : ℕ) : Type 0 where
  pub latch : NoLatch net m
  pub fire : NoFire net m
  pub serve : NoServe net m
  pub finish : Ready net (Finish m) → ⊥

-- A machine is below a cycle.
pub record IsAtWork (cycle m : ℕ) (net : Network) : Type 0 where
  pub there : m < length net.machines
  pub below : cycle_at net m < cycle

-- ---- steps one after another

-- A step of a machine that is below a cycle.
pub record StepBelow (cycle : ℕ) (old : Network) (event : Event) (new : Network) : Type 0 where
  pub step : Step old event new
  pub below : cycle_of old event < cycle

-- these events, one after another, lead from one network to another; each is of a machine that is below a cycle
abbrev pub StepsBelow : ℕ → Network → List Event → Network → Type 0
StepsBelow cycle old [] new = new ≡ old
StepsBelow cycle old (event ∷ events) new = (next : Network) × StepBelow cycle old event next × StepsBelow cycle next events new

-- Steps of machines that are below a cycle lead from one network to another; whether there were any.
pub record Goes (cycle : ℕ) (old : Network) (moved : Bool) (new : Network) : Type 0 where
  pub events : List Event
  pub steps : StepsBelow cycle old events new
  pub none : moved ≡ false → events ≡ []
  pub some : moved ≡ true → 0 < length events

-- No count is above both its old value and its number after `cycle` cycles.
pub record StaysWithin (cycle : ℕ) (old new : Network) : Type 0 where
  pub cycles : (m : ℕ) → m < length old.machines → cycle_at new m ≤ max cycle (cycle_at old m)
  pub puts : (c : ℕ) → c < length old.wires → network.puts new c ≤ max cycle (network.puts old c)
  pub takes : (c : ℕ) → c < length old.wires → network.takes new c ≤ max cycle (network.takes old c)
  pub serves : (m : ℕ) → m < length old.machines → network.serves new m ≤ max (dues_at old m * cycle) (network.serves old m)

-- Steps of machines that are below a cycle lead from one network to another.
pub record HasRun (cycle : ℕ) (old new : Network) : Type 0 where
  pub events : List Event
  pub steps : StepsBelow cycle old events new

-- ---- at the end

-- each queue holds as many tokens as it opened with
abbrev pub AreDrained : Network → Type 0
AreDrained net = (c : ℕ) → c < length net.wires → length (queue_at net.queues c) ≡ length (opening_queue (wire_at net.wires c).first)

-- The last values of a list before a cycle: all since `begin`, and at most `rows`.
pub record AreLast (list : List ℕ) (begin rows cycle : ℕ) (kept : List ℕ) : Type 0 where
  pub count : length kept ≡ min rows (cycle - begin)
  pub is : (j : ℕ) → j < length kept → value_at kept j ≡ value_at list (cycle - length kept + j)

-- each tray has kept the last values of each channel that it takes
abbrev pub HaveKept : Flow → Network → Type 0
HaveKept flow net = (m c rows : ℕ) → m < length net.machines → c < length net.wires → (wire_at net.wires c).consumer ≡ m → (machine_at net.machines m).behaviour ≡ KeepsLast rows → AreLast (list_at flow.lists c) flow.begin rows net.end (machine_at net.machines m).kept
