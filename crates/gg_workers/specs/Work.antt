-- A network after workers have run it: its counts, and the events that were done.
-- Source: MEMOCODE 2009 (a network goes on node by node; its counts say what it has done, in whatever order); ICCAD 2019 for memories that are served
-- port by port.
use Rattle.std.specs.Prelude.{◌≡◌, ℕ, ◌*◌, ◌<◌, length}
use Rattle.gg_flat.specs.Streams.{Flow}
use Rattle.gg_node.specs.Machine.{machine_at}
use Rattle.gg_net.specs.Network.{Network, producer_of, consumer_of, puts, takes, serves, frame_of}
use Rattle.gg_net.specs.Kept.{Kept}
use Rattle.gg_net.specs.declared.event.Event.TheVariants.{Latch, Fire, Serve, Finish}
use Rattle.gg_net.specs.Step.{Ready}
use Rattle.gg_workers_pass.specs.Tries.{StandsBelow}
use Rattle.gg_workers_pass.specs.Pass.{RisesTo}

-- No count has fallen, and none is above both its old value and its number after `upto` cycles.
pub record CountsRose (upto : ℕ) (old new : Network) : Type 0 where
  pub cycles : (m : ℕ) → m < length old.machines → RisesTo upto (machine_at old.machines m).cycle (machine_at new.machines m).cycle
  pub serves : (m : ℕ) → m < length old.machines → RisesTo (length (machine_at old.machines m).ports * upto) (serves old m) (serves new m)
  pub puts : (c : ℕ) → c < length old.wires → RisesTo upto (puts old c) (puts new c)
  pub takes : (c : ℕ) → c < length old.wires → RisesTo upto (takes old c) (takes new c)

-- Each event that could be done, of a machine below `upto`, was done: its count has risen.
pub record ReadyDone (upto : ℕ) (old new : Network) : Type 0 where
  pub latch : (c : ℕ) → Ready old (Latch c) → StandsBelow upto (consumer_of old c) → takes old c < takes new c
  pub fire : (c : ℕ) → Ready old (Fire c) → StandsBelow upto (producer_of old c) → puts old c < puts new c
  pub serve : (m p : ℕ) → Ready old (Serve m p) → StandsBelow upto (machine_at old.machines m) → serves old m < serves new m
  pub finish : (m : ℕ) → Ready old (Finish m) → StandsBelow upto (machine_at old.machines m) → (machine_at old.machines m).cycle < (machine_at new.machines m).cycle

-- A network that comes back from workers. It has the old flow and frame, therefore its counts determine it.
pub record IsLater (flow : Flow) (upto : ℕ) (old new : Network) : Type 0 where
  pub frame : frame_of new ≡ frame_of old
  pub kept : Kept flow new
  pub counts : CountsRose upto old new
  pub done : ReadyDone upto old new
