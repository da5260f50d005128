-- Hosts: which machines one host runs, and the numbers of hosts.
-- Source: ICCAD 2019 (duplicate instances that share one host unit, a thread each).
use Rattle.std.specs.Prelude.{ℕ, List, [], ◌∷◌, ◌==◌, Option, Some, None, length, filter, find, min}
use Rattle.std.specs.List.{list_any, range_with_len}
use Rattle.gg_cut_plan.specs.Listed.{place_of, unit_or_hub}

-- the machine of the unit with a path
abbrev pub machine_of : List (List ℕ) → List ℕ → ℕ
machine_of units path = unit_or_hub (place_of units path)

-- the least of the machines of these units and one more number
abbrev pub least_machine : List (List ℕ) → List (List ℕ) → ℕ → ℕ
least_machine units [] least = least
least_machine units (path ∷ group) least = least_machine units group (min (machine_of units path) least)

-- the first list of units that has a unit of this machine
abbrev pub group_of : List (List ℕ) → List (List (List ℕ)) → ℕ → Option (List (List ℕ))
group_of units share machine = find (λ group. list_any (λ path. machine_of units path == machine) group) share

-- the first machine of a machine's host, by the list of `share` that has it, if any
abbrev pub leader_in : List (List ℕ) → ℕ → Option (List (List ℕ)) → ℕ
leader_in units machine None = machine
leader_in units machine (Some group) = least_machine units group machine

-- the first machine of a machine's host: the least of the machines in its list of `share`, otherwise the machine itself
abbrev pub leader : List (List ℕ) → List (List (List ℕ)) → ℕ → ℕ
leader units share machine = leader_in units machine (group_of units share machine)

-- the number of a machine's host: hosts are numbered in the order of their first machine
abbrev pub host_of : List (List ℕ) → List (List (List ℕ)) → ℕ → ℕ
host_of units share machine = length (filter (λ m. leader units share m == m) (range_with_len 0 (leader units share machine)))
