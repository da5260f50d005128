-- The machines of a network with their seats, grouped by their hosts.
-- Source: ICCAD 2019 (several units of a target that share one host model, thread by thread). That one worker owns all
-- machines of a host is this program's own.
use Rattle.std.specs.Prelude.{◌≡◌, ℕ, ◌<◌, ◌≤◌, ◌⊎◌, List, length, slice_index_or}
use Rattle.gg_flat.specs.Line.{value_at}
use Rattle.gg_flat.specs.Streams.{Flow}
use Rattle.gg_link.specs.Seats.{SeatState}
use Rattle.gg_node.specs.Machine.{Machine, machine_at}
use Rattle.gg_net.specs.declared.shape.Station.{Station}
use Rattle.gg_net.specs.Network.{Network, frame_of}
use Rattle.gg_workers_pass.specs.inside.Pass.{HasSeats, HasNewSeats, MachineWentOn, EventsDone}
use Rattle.gg_workers_pass.specs.declared.machine_seats.MachineSeats.{MachineSeats}
use Rattle.gg_workers.specs.declared.worker.LinkedHost.{LinkedHost}

-- ---- one machine

module _ {X S T : Type 0} (takes_from : X → S → Type 0) (puts_into : X → T → Type 0) (taking : S → SeatState) (putting : T → SeatState) (flow : Flow) (net : Network) (stations : List Station) (links : List X) (upto : ℕ) where
  -- These are the seats of the machine at thread t of host h, which is x. The machine has gone on from the network.
  pub record SeatsAt (h t : ℕ) (x : Machine) (machine_seats : MachineSeats S T) : Type 0 where
    pub known : machine_seats.machine < length stations
    pub host : (s : Station) → (slice_index_or stations machine_seats.machine s).host ≡ h
    pub thread : (s : Station) → (slice_index_or stations machine_seats.machine s).thread ≡ t
    pub seats : (s : Station) → HasSeats takes_from puts_into taking putting flow net links machine_seats.machine (slice_index_or stations machine_seats.machine s).ins (slice_index_or stations machine_seats.machine s).outs x machine_seats.takes.items machine_seats.puts.items
    pub went_on : MachineWentOn (frame_of net) machine_seats.machine upto (machine_at net.machines machine_seats.machine) x

  -- Each event of the machine that could be done in the network was done.
  pub record DoneAt (h t : ℕ) (x : Machine) (machine_seats : MachineSeats S T) : Type 0 where
    pub at : SeatsAt h t x machine_seats
    pub done : EventsDone net machine_seats.machine upto x

  -- Nothing was done yet: the machine is as in the network, and its seats are new.
  abbrev pub IsNewAt : Machine → MachineSeats S T → Type 0
  IsNewAt x machine_seats = (s : Station) → HasNewSeats taking putting net machine_seats.machine (slice_index_or stations machine_seats.machine s).ins (slice_index_or stations machine_seats.machine s).outs x machine_seats.takes.items machine_seats.puts.items

  -- Before a pass: nothing was done yet, or all that could be done in the network.
  pub record ReadyAt (h t : ℕ) (x : Machine) (machine_seats : MachineSeats S T) : Type 0 where
    pub at : SeatsAt h t x machine_seats
    pub before : IsNewAt x machine_seats ⊎ EventsDone net machine_seats.machine upto x

-- ---- hosts

-- Each thread of a host has seats with this property.
pub record EachThread {S T : Type 0} (P : ℕ → ℕ → Machine → MachineSeats S T → Type 0) (h : ℕ) (machines : List Machine) (by_thread : List (MachineSeats S T)) : Type 0 where
  pub count : length by_thread ≡ length machines
  pub each : (t : ℕ) (d : MachineSeats S T) → t < length by_thread → P h t (machine_at machines t) (slice_index_or by_thread t d)

module _ {H S T : Type 0} (machines : H → List Machine) (threads : List ℕ) (P : ℕ → ℕ → Machine → MachineSeats S T → Type 0) where
  -- A host has seats with this property for each of its threads.
  pub record IsLinkedHost (linked_host : LinkedHost H S T) : Type 0 where
    pub by_thread : EachThread P linked_host.number (machines linked_host.host) linked_host.by_thread.items
    pub count : length linked_host.by_thread.items ≡ value_at threads linked_host.number

  -- `IsLinkedHost` for all hosts of a list
  abbrev pub AreLinkedHosts : List (LinkedHost H S T) → Type 0
  AreLinkedHosts linked_hosts = (k : ℕ) (b : LinkedHost H S T) → k < length linked_hosts → IsLinkedHost (slice_index_or linked_hosts k b)

-- no machine of these hosts is below this cycle
abbrev pub AllEnded : {H S T : Type 0} → (H → List Machine) → ℕ → List (LinkedHost H S T) → Type 0
AllEnded {H} {S} {T} machines upto linked_hosts = (k : ℕ) (b : LinkedHost H S T) → k < length linked_hosts → (t : ℕ) → t < length (machines (slice_index_or linked_hosts k b).host) → upto ≤ (machine_at (machines (slice_index_or linked_hosts k b).host) t).cycle

-- these are all hosts, by number
abbrev pub AreNumbered : {H S T : Type 0} → List (LinkedHost H S T) → Type 0
AreNumbered {H} {S} {T} linked_hosts = (k : ℕ) (b : LinkedHost H S T) → k < length linked_hosts → (slice_index_or linked_hosts k b).number ≡ k
