-- The hosts of machines, as tables.
-- Source: ICCAD 2019 (duplicate instances that share one host unit).
use Rattle.std.specs.Prelude.{◌≡◌, ℕ, ◌<◌, length}
use Rattle.gg_flat.specs.Line.{value_at}
use Rattle.gg_partfile.specs.declared.request.Request.{Request}
use Rattle.gg_cut_plan.specs.Hosts.{host_of, leader}
use Rattle.gg_cut_machines.specs.declared.hosts.Hosts.{Hosts}

-- the hosts of the first `count` machines: the first machine of each one's host, and the host's number
pub record AreHosts (request : Request) (count : ℕ) (hosts : Hosts) : Type 0 where
  pub leaders_many : length hosts.leaders.items ≡ count
  pub numbers_many : length hosts.numbers.items ≡ count
  pub first : (m : ℕ) → m < count → value_at hosts.leaders.items m ≡ leader request.units request.share m
  pub host : (m : ℕ) → m < count → value_at hosts.numbers.items m ≡ host_of request.units request.share m
