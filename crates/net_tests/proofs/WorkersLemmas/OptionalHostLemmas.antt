-- A host without threads behind the hosts of a network.
use Rattle.std.proofs.Common.{◌≡◌, ℕ, zero, suc, ◌+◌, ◌-◌, ◌<◌, ◌≤◌, List, [], ◌∷◌, ◌++◌, length, map, refl, sym, ap, subst, ◌∙◌, ◌⊎◌, inl, inr, arith}
use Rattle.std.specs.Prelude.{slice_index_or}
use Rattle.std.proofs.Math.Seq.{get_or-append_right}
use Rattle.std.proofs.lemmas.Bool.{cases_lt}
use Rattle.std.proofs.lemmas.List.{get_or-map, get_or_append_left, length-map, length-append, ext_get_or}
use Rattle.gg_flat.specs.Streams.{Flow}
use Rattle.gg_flat.proofs.ListLemmas.{some-item}
use Rattle.gg_node.specs.Machine.{Machine, no_machine, machine_at}
use Rattle.gg_net.specs.declared.shape.Station.{Station}
use Rattle.gg_net.specs.declared.shape.Wire.{Wire}
use Rattle.gg_net.specs.Network.{Network, frame_of}
use Rattle.gg_net.specs.Kept.{Kept}
use Rattle.gg_net.specs.inside.Queue.{Held}
use Rattle.gg_net.specs.inside.Stations.{hosted, stationed, machines_by, HasStation, AreStationed}
use Rattle.gg_net.specs.inside.Net.{AreListed, IsWithinLimits, IsNet}

-- at the one host behind, and past it, there are no threads
none : (n : ℕ) → hosted ([] ∷ []) n ≡ []
none zero = refl
none (suc n) = refl

module _ (hosts all : List (List Machine)) (stations : List Station) (is : all ≡ hosts ++ ([] ∷ [])) (are : AreStationed hosts stations) where
  one-more : length all ≡ length hosts + 1
  one-more = ap length is ∙ length-append hosts ([] ∷ [])

  hosted-same : (h : ℕ) → h < length hosts → hosted all h ≡ hosted hosts h
  hosted-same h lt = ap (λ l. hosted l h) is ∙ get_or_append_left hosts ([] ∷ []) [] h lt

  hosted-none : (h : ℕ) → length hosts ≤ h → hosted all h ≡ []
  hosted-none h past = ap (λ l. hosted l h) is ∙ get_or-append_right hosts ([] ∷ []) h [] past ∙ none (h - length hosts)

  machines-same : machines_by all stations ≡ machines_by hosts stations
  machines-same =
      ext_get_or no_machine (machines_by all stations) (machines_by hosts stations)
      (length-map stations (stationed all) ∙ sym (length-map stations (stationed hosts)))
      (λ k lt.
      let within : k < length stations = omega (arith, lt, length-map stations (stationed all)) in
      let s : Station = some-item stations k within in
      let t : Station = slice_index_or stations k s in
      get_or-map (stationed all) stations k s no_machine within
      ∙ ap (λ threads. machine_at threads t.thread) (hosted-same t.host (are.each k s within).host)
      ∙ sym (get_or-map (stationed hosts) stations k s no_machine within))

  whole : (h t : ℕ) → t < length (hosted all h) → (h < length hosts) ⊎ (length hosts ≤ h) → HasStation stations h t
  whole h t thread (inl lt) = are.whole h t lt (omega (arith, thread, ap length (hosted-same h lt)))
  whole h t thread (inr past) = absurd (omega (arith, thread, ap length (hosted-none h past)))

  stationed-same : AreStationed all stations
  stationed-same =
      record {
        each = λ k d lt.
            let at : Station = slice_index_or stations k d in
            record {
              host = omega (arith, (are.each k d lt).host, one-more);
              thread = omega (arith, (are.each k d lt).thread, ap length (hosted-same at.host (are.each k d lt).host));
            };
        alone = are.alone;
        whole = λ h t host thread. whole h t thread (cases_lt h (length hosts));
      }

-- the network of these machines
abbrev net_with : List Wire → List Held → ℕ → List Machine → Network
net_with wires queues end machines = record { machines = machines; wires = wires; queues = map (λ queue. queue.tokens) queues; end = end }

-- Hosts, stations, channels and queues that are the parts of a network still are with such a host.
pub still-net : (flow : Flow) (hosts all : List (List Machine)) (stations : List Station) (wires : List Wire) (queues : List Held) (end : ℕ) → all ≡ hosts ++ ([] ∷ []) → IsNet flow hosts stations wires queues end → IsNet flow all stations wires queues end
still-net flow hosts all stations wires queues end is net =
    let same = sym (machines-same hosts all stations is net.stationed) in
    record {
      stationed = stationed-same hosts all stations is net.stationed;
      listed = subst (λ machines. AreListed (frame_of (net_with wires queues end machines)) stations) same net.listed;
      room = net.room;
      limits = subst (λ machines. IsWithinLimits (frame_of (net_with wires queues end machines))) same net.limits;
      kept = subst (λ machines. Kept flow (net_with wires queues end machines)) same net.kept;
    }
