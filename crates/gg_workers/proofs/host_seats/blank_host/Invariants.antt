use Rattle.std.proofs.Common.{◌≡◌, length}
use Rattle.gg_workers.proofs.host_seats.blank_host.Given as goal

abbrev pub invariant-loop : goal.invariant-loop
invariant-loop g l = length l.by_thread.items ≡ l.counter
