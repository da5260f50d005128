-- A network after some passes over its machines: its counts, and the events that it could do.
use Rattle.std.proofs.Common.{◌*◌, ℕ, ◌<◌, List, length, refl}
use Rattle.gg_flat.specs.Streams.{Flow}
use Rattle.gg_node.specs.Machine.{Machine, machine_at}
use Rattle.gg_net.specs.Network.{Network, puts, takes, serves, wire_at, producer_of, consumer_of, frame_of}
use Rattle.gg_net.specs.Kept.{Kept}
use Rattle.gg_net.specs.declared.event.Event.TheVariants.{Latch, Fire, Serve, Finish}
use Rattle.gg_net.specs.Step.{Ready}
use Rattle.gg_net.proofs.TableLemmas.{latch-can, fire-can, serve-can, finish-can}
use Rattle.gg_net.proofs.MayLemmas.{consumer-there, producer-there}
use Rattle.gg_workers_pass.specs.Tries.{StandsBelow}
use Rattle.gg_workers_pass.specs.Pass.{RisesTo}
use Rattle.gg_workers_pass.specs.inside.Pass.{MachineWentOn, EventsDone}

module _ (flow : Flow) (old : Network) (kept : Kept flow old) (upto : ℕ) (machines : List Machine) (queues : List (List ℕ)) where
  -- the network with these machines and queues
  abbrev pub later : Network
  later = record old { machines = machines; queues = queues }

  -- ---- no count has fallen, and none has risen past the cycle

  module _ (went : (m : ℕ) → m < length old.machines → MachineWentOn (frame_of old) m upto (machine_at old.machines m) (machine_at machines m)) where
    pub cycles-rise : (m : ℕ) → m < length old.machines → RisesTo upto (machine_at old.machines m).cycle (machine_at machines m).cycle
    cycles-rise m lt = (went m lt).cycle

    pub serves-rise : (m : ℕ) → m < length old.machines → RisesTo (length (machine_at old.machines m).ports * upto) (serves old m) (serves later m)
    serves-rise m lt = (went m lt).serves

    pub puts-rise : (c : ℕ) → c < length old.wires → RisesTo upto (puts old c) (puts later c)
    puts-rise c known = (went (wire_at old.wires c).producer (producer-there flow old kept c known)).puts c known refl

    pub takes-rise : (c : ℕ) → c < length old.wires → RisesTo upto (takes old c) (takes later c)
    takes-rise c known = (went (wire_at old.wires c).consumer (consumer-there flow old kept c known)).takes c known refl

  -- ---- what could be done was done

  module _ (done : (m : ℕ) → m < length old.machines → EventsDone old m upto (machine_at machines m)) where
    pub latch-rises : (c : ℕ) → Ready old (Latch c) → StandsBelow upto (consumer_of old c) → takes old c < takes later c
    latch-rises c ready below = (done (wire_at old.wires c).consumer (consumer-there flow old kept c (latch-can old c ready).can.0)).latch c ready refl below

    pub fire-rises : (c : ℕ) → Ready old (Fire c) → StandsBelow upto (producer_of old c) → puts old c < puts later c
    fire-rises c ready below = (done (wire_at old.wires c).producer (producer-there flow old kept c (fire-can old kept.sound.wired c ready).can.0)).fire c ready refl below

    pub serve-rises : (m p : ℕ) → Ready old (Serve m p) → StandsBelow upto (machine_at old.machines m) → serves old m < serves later m
    serve-rises m p ready below = (done m (serve-can old kept.sound.wired m p ready).there.0).serve p ready below

    pub finish-rises : (m : ℕ) → Ready old (Finish m) → StandsBelow upto (machine_at old.machines m) → (machine_at old.machines m).cycle < (machine_at machines m).cycle
    finish-rises m ready below = (done m (finish-can old kept.sound.wired m ready).there).finish ready below
