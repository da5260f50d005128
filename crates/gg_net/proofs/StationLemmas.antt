-- Machines at their hosts: one thread of one host is changed.
use Rattle.std.proofs.Common.{◌≡◌, ◌≢◌, ℕ, ◌<◌, List, [], length, map, sym, ap, subst, ◌∙◌, ⊎_elim, arith, get_or-set_same, get_or-set_other}
use Rattle.std.specs.Prelude.{slice_index_or, slice_set}
use Rattle.std.proofs.lemmas.Bool.{cases_eq}
use Rattle.std.proofs.lemmas.List.{map-set, get_or-map, length-map, length-set, ext_get_or}
use Rattle.gg_flat.specs.State.{State}
use Rattle.gg_node.specs.Machine.{Machine, no_machine, machine_at}
use Rattle.gg_node.specs.Token.{IsNextState}
use Rattle.gg_node.specs.Step.{finished}
use Rattle.gg_net.specs.declared.shape.Station.{Station}
use Rattle.gg_net.specs.inside.Stations.{hosted, stationed, machines_by, IsStationed, AreStationed, IsReplacedAt, HasGoneOn}

module _ {X : Type 0} (machines : X → List Machine) (hosts : List X) (station : Station) (host new : X) (is_stationed : IsStationed (map machines hosts) station) (is : host ≡ slice_index_or hosts station.host host) where
  hosted-is : hosted (map machines hosts) station.host ≡ machines host
  hosted-is = get_or-map machines hosts station.host host [] (omega (arith, is_stationed.host, length-map hosts machines)) ∙ ap machines (sym is)

  -- after a call that changed one machine of a host, the machine of the host's station is changed
  pub replaced : (change : Machine → Machine) → machines new ≡ slice_set (machines host) station.thread (change (machine_at (machines host) station.thread)) → IsReplacedAt (map machines hosts) (map machines (slice_set hosts station.host new)) station (change (stationed (map machines hosts) station))
  replaced change step =
      map-set machines hosts station.host new
      ∙ ap (slice_set (map machines hosts) station.host) (step ∙ ap (λ (all : List Machine). slice_set all station.thread (change (machine_at all station.thread))) (sym hosted-is))

  -- after a call that finished the cycle of one machine of a host, the machine of the host's station has gone on
  pub gone-on : IsNextState (machine_at (machines host) station.thread) (machine_at (machines new) station.thread).state
      → machines new ≡ slice_set (machines host) station.thread (finished (machine_at (machines host) station.thread) (machine_at (machines new) station.thread).state) → HasGoneOn (map machines hosts) (map machines (slice_set hosts station.host new)) station
  gone-on next step =
      let state : State = (machine_at (machines new) station.thread).state in
      record {
        state = state;
        is = subst (λ x. IsNextState x state) (sym (ap (λ all. machine_at all station.thread) hosted-is)) next;
        step = replaced (λ x. finished x state) step;
      }

-- ---- all stations

module _ (old new : List (List Machine)) (stations : List Station) (m : ℕ) (s : Station) (machine : Machine) (are : AreStationed old stations) (there : m < length stations) (step : IsReplacedAt old new (slice_index_or stations m s) machine) where
  abbrev at : Station
  at = slice_index_or stations m s

  abbrev threads : List Machine
  threads = slice_set (hosted old at.host) at.thread machine

  here : IsStationed old at
  here = are.each m s there

  -- the machines of the changed host, and of the others
  same-host : (h : ℕ) → h ≡ at.host → hosted new h ≡ threads
  same-host h is = ap (λ k. hosted new k) is ∙ ap (λ hosts. hosted hosts at.host) step ∙ get_or-set_same old at.host threads [] here.host

  other-host : (h : ℕ) → h ≢ at.host → hosted new h ≡ hosted old h
  other-host h other = ap (λ hosts. hosted hosts h) step ∙ get_or-set_other old at.host h threads [] other

  stationed-here : (t : Station) → t.host ≡ at.host → t.thread ≡ at.thread → stationed new t ≡ machine
  stationed-here t host thread =
      ap (λ all. machine_at all t.thread) (same-host t.host host)
      ∙ ap (machine_at threads) thread
      ∙ get_or-set_same (hosted old at.host) at.thread machine no_machine here.thread

  stationed-beside : (t : Station) → t.host ≡ at.host → t.thread ≢ at.thread → stationed new t ≡ stationed old t
  stationed-beside t host other =
      ap (λ all. machine_at all t.thread) (same-host t.host host)
      ∙ get_or-set_other (hosted old at.host) at.thread t.thread machine no_machine other
      ∙ ap (λ h. machine_at (hosted old h) t.thread) (sym host)

  stationed-other : (t : Station) → (t.host ≡ at.host → t.thread ≡ at.thread → ⊥) → stationed new t ≡ stationed old t
  stationed-other t apart =
      ⊎_elim
      (λ (host : t.host ≡ at.host). stationed-beside t host (apart host))
      (λ other. ap (λ all. machine_at all t.thread) (other-host t.host other))
      (cases_eq t.host at.host)

  -- Just the machine of this number has changed.
  pub machines-set : machines_by new stations ≡ slice_set (machines_by old stations) m machine
  machines-set =
      ext_get_or no_machine (machines_by new stations) (slice_set (machines_by old stations) m machine)
      (length-map stations (stationed new) ∙ sym (length-map stations (stationed old)) ∙ sym (length-set (machines_by old stations) m machine))
      (λ k lt.
      let within : k < length stations = omega (arith, lt, length-map stations (stationed new)) in
      let t : Station = slice_index_or stations k s in
      get_or-map (stationed new) stations k s no_machine within
      ∙ ⊎_elim
      (λ (same : k ≡ m).
      stationed-here t (ap (λ j. (slice_index_or stations j s).host) same) (ap (λ j. (slice_index_or stations j s).thread) same)
      ∙ sym (ap (machine_at (slice_set (machines_by old stations) m machine)) same ∙ get_or-set_same (machines_by old stations) m machine no_machine (omega (arith, there, length-map stations (stationed old)))))
      (λ (other : k ≢ m).
      stationed-other t (λ host thread. other (are.alone k m s s within there host thread))
      ∙ sym (get_or-set_other (machines_by old stations) m k machine no_machine other ∙ get_or-map (stationed old) stations k s no_machine within))
      (cases_eq k m))

  -- a host has as many threads as before
  threads-same : (h : ℕ) → length (hosted new h) ≡ length (hosted old h)
  threads-same h =
      ⊎_elim
      (λ (host : h ≡ at.host). ap length (same-host h host) ∙ length-set (hosted old at.host) at.thread machine ∙ ap (λ j. length (hosted old j)) (sym host))
      (λ other. ap length (other-host h other))
      (cases_eq h at.host)

  -- Each station is stationed as before.
  pub are-stationed : AreStationed new stations
  are-stationed =
      record {
        each = λ k d lt.
            let is_stationed : IsStationed old (slice_index_or stations k d) = are.each k d lt in
            record {
              host = omega (arith, is_stationed.host, ap length step, length-set old at.host threads);
              thread = omega (arith, is_stationed.thread, threads-same (slice_index_or stations k d).host);
            };
        alone = are.alone;
        whole = λ h t host thread. are.whole h t (omega (arith, host, ap length step, length-set old at.host threads)) (omega (arith, thread, threads-same h));
      }
