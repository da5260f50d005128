-- The seats of the machines of a network, by host and thread: first lists with room for them, then the seats.
-- Source: ICCAD 2019 (several units of a target that share one host model, thread by thread).
use Rattle.std.specs.Prelude.{◌≡◌, ℕ, ◌<◌, ◌≤◌, List, [], length, slice_index_or}
use Rattle.std.specs.Vec.{vec_capacity}
use Rattle.gg_flat.specs.Line.{value_at}
use Rattle.gg_node.specs.Machine.{Machine}
use Rattle.gg_net.specs.declared.shape.Station.{Station}
use Rattle.gg_net.specs.inside.Stations.{hosted}
use Rattle.gg_workers_pass.specs.declared.machine_seats.MachineSeats.{MachineSeats}
use Rattle.gg_workers.specs.declared.host_seats.HostSeats.{HostSeats}

-- The row has the seats of these channels, in their order, out of the list of all.
pub record IsRowOf {A : Type 0} (all : List A) (channels : List ℕ) (row : List A) : Type 0 where
  pub long : length row ≡ length channels
  pub each : (k : ℕ) (a : A) → k < length channels → slice_index_or row k a ≡ slice_index_or all (value_at channels k) a

module _ {S T : Type 0} where
  -- The lists of machine m, at this station. They are empty, with room for the seats of the machine's channels.
  pub record IsEmptyFor (m : ℕ) (station : Station) (machine_seats : MachineSeats S T) : Type 0 where
    pub machine : machine_seats.machine ≡ m
    pub no_takes : machine_seats.takes.items ≡ []
    pub no_puts : machine_seats.puts.items ≡ []
    pub takes_room : length station.ins ≤ vec_capacity machine_seats.takes
    pub puts_room : length station.outs ≤ vec_capacity machine_seats.puts

  -- The lists of machine m, at this station. They have the seats of the machine's channels.
  pub record IsFilledFor (all_takes : List S) (all_puts : List T) (m : ℕ) (station : Station) (machine_seats : MachineSeats S T) : Type 0 where
    pub machine : machine_seats.machine ≡ m
    pub takes : IsRowOf all_takes station.ins machine_seats.takes.items
    pub puts : IsRowOf all_puts station.outs machine_seats.puts.items

  -- the seats of the machine at a station
  abbrev pub seats_at : List (HostSeats S T) → Station → HostSeats S T → MachineSeats S T → MachineSeats S T
  seats_at rows station row machine_seats = slice_index_or (slice_index_or rows station.host row).by_thread.items station.thread machine_seats

  -- Each host has a row, with a place for each of its threads.
  pub record HasPlaces (machines : List (List Machine)) (rows : List (HostSeats S T)) : Type 0 where
    pub count : length rows ≡ length machines
    pub each : (h : ℕ) (row : HostSeats S T) → h < length rows → length (slice_index_or rows h row).by_thread.items ≡ length (hosted machines h)

  -- This holds of the seats of machines `from` to `to`.
  abbrev pub EachMachine : (ℕ → Station → MachineSeats S T → Type 0) → List Station → ℕ → ℕ → List (HostSeats S T) → Type 0
  EachMachine P stations from to rows = (m : ℕ) (s : Station) (row : HostSeats S T) (machine_seats : MachineSeats S T) → from ≤ m → m < to → P m (slice_index_or stations m s) (seats_at rows (slice_index_or stations m s) row machine_seats)
