-- The machines of a network at their hosts: each is at a thread of a host.
-- Source: ICCAD 2019 (several units of a target that share one host model, thread by thread).
use Rattle.std.specs.Prelude.{◌≡◌, ℕ, ◌<◌, List, [], All, length, map, slice_index_or, slice_set}
use Rattle.gg_flat.specs.State.{State}
use Rattle.gg_node.specs.Machine.{Machine, machine_at}
use Rattle.gg_node.specs.Token.{IsNextState}
use Rattle.gg_node.specs.Step.{finished}
use Rattle.gg_net.specs.declared.shape.Station.{Station}

-- the machines of the host with a number, by thread; none past the end
abbrev pub hosted : List (List Machine) → ℕ → List Machine
hosted hosts h = slice_index_or hosts h []

-- the machine at a station
abbrev pub stationed : List (List Machine) → Station → Machine
stationed hosts station = machine_at (hosted hosts station.host) station.thread

-- the machines at these stations, in this order
abbrev pub machines_by : List (List Machine) → List Station → List Machine
machines_by hosts stations = map (stationed hosts) stations

-- The host of a station exists, and has the station's thread.
pub record IsStationed (hosts : List (List Machine)) (station : Station) : Type 0 where
  pub host : station.host < length hosts
  pub thread : station.thread < length (hosted hosts station.host)

-- The machine at this thread of this host is at a station.
pub record HasStation (stations : List Station) (h t : ℕ) : Type 0 where
  pub machine : ℕ
  pub known : machine < length stations
  pub host : (s : Station) → (slice_index_or stations machine s).host ≡ h
  pub thread : (s : Station) → (slice_index_or stations machine s).thread ≡ t

-- Each station is stationed, no two are at the same thread, and each thread has a station.
pub record AreStationed (hosts : List (List Machine)) (stations : List Station) : Type 0 where
  pub each : All (IsStationed hosts) stations
  pub alone : (m k : ℕ) (s t : Station) → m < length stations → k < length stations → (slice_index_or stations m s).host ≡ (slice_index_or stations k t).host → (slice_index_or stations m s).thread ≡ (slice_index_or stations k t).thread → m ≡ k
  pub whole : (h t : ℕ) → h < length hosts → t < length (hosted hosts h) → HasStation stations h t

-- The machine at a station is replaced; all others stay as they were.
abbrev pub IsReplacedAt : List (List Machine) → List (List Machine) → Station → Machine → Type 0
IsReplacedAt old new station machine = new ≡ slice_set old station.host (slice_set (hosted old station.host) station.thread machine)

-- The machine at a station has finished its cycle; all others stay as they were.
pub record HasGoneOn (old new : List (List Machine)) (station : Station) : Type 0 where
  pub state : State
  pub is : IsNextState (stationed old station) state
  pub step : IsReplacedAt old new station (finished (stationed old station) state)
