use Rattle.std.proofs.Common.{◌≡◌, ℕ, ◌≤◌, length, slice_index_or}
use Rattle.std.specs.Vec.{vec_capacity}
use Rattle.gg_workers.specs.inside.Making.{HaveTheirSeats}
use Rattle.gg_workers.proofs.setup.link_hosts.Given as goal

abbrev pub invariant-loop-host : goal.invariant-loop-host
invariant-loop-host g l = record {
  have_seats : HaveTheirSeats l.yielded l.initial.rows.items l.linked_hosts.items;
  rest : (k : ℕ) (r : _) → length l.linked_hosts.items ≤ k → slice_index_or l.rows.items k r ≡ slice_index_or l.initial.rows.items k r;
  long : length l.rows.items ≡ length l.initial.rows.items;
  room : vec_capacity l.linked_hosts ≡ vec_capacity l.initial.linked_hosts;
}
