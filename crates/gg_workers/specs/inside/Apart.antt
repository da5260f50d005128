-- Hosts are parted from the seats of their machines, and the seats are put back to their channels.
-- Source: this program's own.
use Rattle.std.specs.Prelude.{◌≡◌, ℕ, ◌<◌, ◌≤◌, List, [], Option, length, map, slice_index_or}
use Rattle.std.specs.Vec.{vec_capacity}
use Rattle.gg_flat.specs.Streams.{Flow}
use Rattle.gg_link.specs.Seats.{SeatState}
use Rattle.gg_node.specs.Machine.{Machine, machine_at}
use Rattle.gg_net.specs.declared.shape.Station.{Station}
use Rattle.gg_net.specs.declared.shape.Shape.{Shape}
use Rattle.gg_net.specs.Network.{Network, wire_at}
use Rattle.gg_net.specs.inside.Queue.{Held}
use Rattle.gg_net.specs.inside.Stations.{AreStationed}
use Rattle.gg_net.specs.inside.Net.{joined, AreParts}
use Rattle.gg_workers_pass.specs.inside.SeatLists.{IsBack}
use Rattle.gg_workers_pass.specs.inside.Pass.{HasSeats}
use Rattle.gg_workers_pass.specs.inside.Seats.{Linked}
use Rattle.gg_workers_pass.specs.declared.machine_seats.MachineSeats.{MachineSeats}
use Rattle.gg_workers.specs.declared.back.ReturnLists.{ReturnLists}
use Rattle.gg_workers.specs.declared.worker.LinkedHost.{LinkedHost}
use Rattle.gg_workers.specs.declared.host_seats.HostSeats.{HostSeats}

-- the machine that takes the channel
abbrev pub consumer_in : Network → ℕ → ℕ
consumer_in net c = (wire_at net.wires c).consumer

-- the machine that gives the channel
abbrev pub producer_in : Network → ℕ → ℕ
producer_in net c = (wire_at net.wires c).producer

-- The seats of a machine's channels are back, each with a property. `end_of` is the machine at one end of a channel. Seats that were back before
-- still are.
pub record MachineBack {A : Type 0} (end_of : ℕ → ℕ) (P : ℕ → A → Type 0) (count m : ℕ) (old new : List (Option A)) : Type 0 where
  pub long : length new ≡ length old
  pub keeps : (c : ℕ) → c < count → IsBack P c old → IsBack P c new
  pub back : (c : ℕ) → c < count → end_of c ≡ m → IsBack P c new

-- `MachineBack` for the machines of one host.
pub record HostBack {S T A : Type 0} (end_of : ℕ → ℕ) (P : ℕ → A → Type 0) (count : ℕ) (by_thread : List (MachineSeats S T)) (old new : List (Option A)) : Type 0 where
  pub long : length new ≡ length old
  pub keeps : (c : ℕ) → c < count → IsBack P c old → IsBack P c new
  pub back : (c k : ℕ) (d : MachineSeats S T) → c < count → k < length by_thread → end_of c ≡ (slice_index_or by_thread k d).machine → IsBack P c new

-- the seats of a host's machines
abbrev pub row_of : {H S T : Type 0} → LinkedHost H S T → HostSeats S T
row_of {H} {S} {T} linked_host = record { by_thread = linked_host.by_thread }

-- `MachineBack` for the machines of these hosts.
pub record AllBack {S T A : Type 0} (end_of : ℕ → ℕ) (P : ℕ → A → Type 0) (count : ℕ) (rows : List (HostSeats S T)) (old new : List (Option A)) : Type 0 where
  pub long : length new ≡ length old
  pub keeps : (c : ℕ) → c < count → IsBack P c old → IsBack P c new
  pub back : (c j k : ℕ) (r : HostSeats S T) (d : MachineSeats S T) → c < count → j < length rows → k < length (slice_index_or rows j r).by_thread.items → end_of c ≡ (slice_index_or (slice_index_or rows j r).by_thread.items k d).machine → IsBack P c new

module _ {X S T : Type 0} (takes_from : X → S → Type 0) (puts_into : X → T → Type 0) (taking : S → SeatState) (putting : T → SeatState) (flow : Flow) (net : Network) (links : List X) (machines : List Machine) where
  -- These are the seats of a machine in this list.
  pub record IsOwned (stations : List Station) (machine_seats : MachineSeats S T) : Type 0 where
    pub known : machine_seats.machine < length stations
    pub seats : (s : Station) → HasSeats takes_from puts_into taking putting flow net links machine_seats.machine (slice_index_or stations machine_seats.machine s).ins (slice_index_or stations machine_seats.machine s).outs (machine_at machines machine_seats.machine) machine_seats.takes.items machine_seats.puts.items

  -- `IsOwned` for all machines of a host
  abbrev pub AreOwned : List Station → List (MachineSeats S T) → Type 0
  AreOwned stations by_thread = (k : ℕ) (d : MachineSeats S T) → k < length by_thread → IsOwned stations (slice_index_or by_thread k d)

  -- `IsOwned` for all machines of these hosts
  abbrev pub AllOwned : List Station → List (HostSeats S T) → Type 0
  AllOwned stations rows = (j : ℕ) (r : HostSeats S T) → j < length rows → AreOwned stations (slice_index_or rows j r).by_thread.items

-- Hosts with these numbers of threads have these stations.
pub record WereStationed (stations : List Station) (threads : List ℕ) : Type 0 where
  pub hosts : List (List Machine)
  pub stationed : AreStationed hosts stations
  pub sizes : threads ≡ map (λ (l : List Machine). length l) hosts

-- A network was made of hosts with these numbers of threads, in this shape.
pub record WasJoined (flow : Flow) (net : Network) (shape : Shape) (threads : List ℕ) : Type 0 where
  pub hosts : List (List Machine)
  pub queues : List Held
  pub parts : AreParts flow hosts shape queues
  pub is : net ≡ joined hosts shape queues
  pub sizes : threads ≡ map (λ (l : List Machine). length l) hosts

-- Each channel of the network was given a link, with seats that have the counts of the network's machines.
pub record WereLinked {X S T : Type 0} (takes_from : X → S → Type 0) (puts_into : X → T → Type 0) (taking : S → SeatState) (putting : T → SeatState) (flow : Flow) (net : Network) (links : List X) (queues : List Held) : Type 0 where
  pub put_seats : List T
  pub take_seats : List S
  pub linked : Linked takes_from puts_into taking putting flow net net.machines links put_seats take_seats queues
  pub all : length links ≡ length net.wires

-- there is a seat for each of `count` channels, with this property
pub record AreSeats {A : Type 0} (P : ℕ → A → Type 0) (count : ℕ) (seats : List A) : Type 0 where
  pub long : length seats ≡ count
  pub each : (c : ℕ) (s : A) → c < count → P c (slice_index_or seats c s)

-- The lists are empty, with room for this many hosts and channels.
pub record AreReturnLists {H S T : Type 0} (hosts channels : ℕ) (return_lists : ReturnLists H S T) : Type 0 where
  pub none : (return_lists.hosts.items ≡ []) × (return_lists.rows.items ≡ []) × (return_lists.takes.items ≡ []) × (return_lists.puts.items ≡ [])
  pub room : (hosts ≤ vec_capacity return_lists.hosts) × (hosts ≤ vec_capacity return_lists.rows) × (channels ≤ vec_capacity return_lists.takes) × (channels ≤ vec_capacity return_lists.puts)
