-- The turns of a worker: the steps that were done in them, and the order of a turn through the hosts.
-- Source: this program's own.
use Rattle.std.specs.Prelude.{◌≡◌, ℕ, ◌<◌, List, Bool, true, false, length, map, slice_index_or, sum_by}
use Rattle.gg_node.specs.Machine.{Machine}
use Rattle.gg_workers_pass.specs.inside.Rows.{steps_by}
use Rattle.gg_workers.specs.declared.worker.LinkedHost.{LinkedHost}

-- Each number is less than all before it. A worker's hosts are in this order, and a turn goes through them from the
-- last.
abbrev pub Falls : List ℕ → Type 0
Falls numbers = (i k d : ℕ) → i < k → k < length numbers → slice_index_or numbers k d < slice_index_or numbers i d

-- the number of steps that the machines of one host have done
abbrev pub host_steps : List Machine → ℕ
host_steps machines = sum_by steps_by machines

-- the number of steps that the machines of some hosts have done
abbrev pub steps_of : List (List Machine) → ℕ
steps_of hosts = sum_by host_steps hosts

-- the machines of these hosts, a list for each host
abbrev pub machines_in : {H S T : Type 0} → (H → List Machine) → List (LinkedHost H S T) → List (List Machine)
machines_in {H} {S} {T} machines linked_hosts = map (λ (b : LinkedHost H S T). machines b.host) linked_hosts

-- Steps were done, or nothing has changed. `steps` counts all that were done.
abbrev pub StepsTold : {A : Type 0} → (A → ℕ) → A → A → Bool → Type 0
StepsTold steps old new true = steps old < steps new
StepsTold steps old new false = new ≡ old
