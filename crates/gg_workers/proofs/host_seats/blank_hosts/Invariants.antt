use Rattle.std.proofs.Common.{◌≡◌, ℕ, ◌<◌, length, map, slice_index_or}
use Rattle.gg_net.specs.inside.Stations.{hosted}
use Rattle.gg_workers.proofs.host_seats.blank_hosts.Given as goal

abbrev pub invariant-loop-host : goal.invariant-loop-host
invariant-loop-host g l = record {
  count : length l.rows.items ≡ l.host-index;
  each : (h : ℕ) (r : _) → h < l.host-index → length (slice_index_or l.rows.items h r).by_thread.items ≡ length (hosted (map g.H.Host.machines l.hosts) h);
}
