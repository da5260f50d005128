-- Hosts are given the seats of their machines, and workers have room for them.
-- Source: this program's own.
use Rattle.std.specs.Prelude.{◌≡◌, ℕ, ◌<◌, ◌≤◌, List, [], length, map, slice_index_or}
use Rattle.std.specs.Vec.{vec_capacity}
use Rattle.gg_node.specs.Machine.{Machine}
use Rattle.gg_net.specs.declared.shape.Station.{Station}
use Rattle.gg_workers.specs.declared.worker.LinkedHost.{LinkedHost}
use Rattle.gg_workers.specs.declared.worker.Worker.{Worker}
use Rattle.gg_workers.specs.declared.host_seats.HostSeats.{HostSeats}
use Rattle.gg_workers.specs.declared.setup.Setup.{Setup}
use Rattle.gg_workers.specs.inside.HostSeats.{IsEmptyFor, HasPlaces, EachMachine}

module _ {H S T : Type 0} where
  -- Each of these hosts has its number, and the seats of its row.
  pub record HaveTheirSeats (hosts : List H) (rows : List (HostSeats S T)) (linked_hosts : List (LinkedHost H S T)) : Type 0 where
    pub count : length linked_hosts ≡ length hosts
    pub number : (k : ℕ) (b : LinkedHost H S T) → k < length linked_hosts → (slice_index_or linked_hosts k b).number ≡ k
    pub host : (k : ℕ) (b : LinkedHost H S T) (a : H) → k < length linked_hosts → (slice_index_or linked_hosts k b).host ≡ slice_index_or hosts k a
    pub by_thread : (k : ℕ) (b : LinkedHost H S T) (r : HostSeats S T) → k < length linked_hosts → (slice_index_or linked_hosts k b).by_thread.items ≡ (slice_index_or rows k r).by_thread.items

  -- These are `count` workers without hosts, each with room for `hosts` of them.
  pub record AreIdle (count hosts : ℕ) (workers : List (Worker H S T)) : Type 0 where
    pub long : length workers ≡ count
    pub none : (j : ℕ) (w : Worker H S T) → j < length workers → (slice_index_or workers j w).linked_hosts.items ≡ []
    pub room : (j : ℕ) (w : Worker H S T) → j < length workers → hosts ≤ vec_capacity (slice_index_or workers j w).linked_hosts

  -- There is room for hosts with these machines, for the seats of this many channels, and in this many workers.
  pub record IsReserved (machines : List (List Machine)) (stations : List Station) (channels workers : ℕ) (setup : Setup H S T) : Type 0 where
    pub threads : setup.threads.items ≡ map (λ own. length own) machines
    pub places : HasPlaces machines setup.rows.items
    pub empty : EachMachine IsEmptyFor stations 0 (length stations) setup.rows.items
    pub no_takes : setup.takes.items ≡ []
    pub no_puts : setup.puts.items ≡ []
    pub no_linked_hosts : setup.linked_hosts.items ≡ []
    pub takes_room : channels ≤ vec_capacity setup.takes
    pub puts_room : channels ≤ vec_capacity setup.puts
    pub hosts_room : length machines ≤ vec_capacity setup.linked_hosts
    pub idle : AreIdle workers (length machines) setup.workers.items
