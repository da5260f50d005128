-- The parts of a network worked by hand: a source and a tray, which open it for two cycles.
use Rattle.std.proofs.Common.{◌≡◌, ℕ, zero, suc, ◌<◌, [], ◌∷◌, refl, sym, ◌∙◌, arith, lit<}
use Rattle.std.specs.Prelude.{length, slice_index_or}
use Rattle.gg_flat.specs.Line.{value_at}
use Rattle.gg_flat.proofs.WorkedForms.{only, both}
use Rattle.gg_node.specs.Machine.{machine_at}
use Rattle.gg_net.specs.declared.shape.Station.{Station}
use Rattle.gg_net.specs.Network.{IsAtIn, IsAtOut, kind_at, frame_of}
use Rattle.gg_net.specs.Kept.{NeedsChannel}
use Rattle.gg_net.specs.inside.Stations.{hosted, IsStationed, HasStation, AreStationed, machines_by}
use Rattle.gg_net.specs.inside.Net.{IsListed, AreListed, IsOpening, Opens}
use Rattle.gg_net.proofs.WorkedNets.{fed_hosts, fed_stations, fed_wires, fed_flow, fed, fed-wired, fed-solved, no-needs, within-limits}

host-is : (m : ℕ) (s : Station) → m < 2 → (slice_index_or fed_stations m s).host ≡ m
host-is m s lt = both (λ k. (slice_index_or fed_stations k s).host ≡ k) refl refl m lt

-- each host has one thread
lone : (h : ℕ) → h < 2 → length (hosted fed_hosts h) ≡ 1
lone h lt = both (λ h. length (hosted fed_hosts h) ≡ 1) refl refl h lt

whole : (h t : ℕ) → h < 2 → t < length (hosted fed_hosts h) → HasStation fed_stations h t
whole h t host thread =
    let first : 0 ≡ t = omega (arith, thread, lone h host) in
    both (λ h. HasStation fed_stations h t) (record { machine = 0; known = lit< tt; host = λ s. refl; thread = λ s. first }) (record { machine = 1; known = lit< tt; host = λ s. refl; thread = λ s. first }) h host

fed-stationed : AreStationed fed_hosts fed_stations
fed-stationed =
    record {
      each = λ k s lt. both (λ k. IsStationed fed_hosts (slice_index_or fed_stations k s)) (record { host = lit< tt; thread = lit< tt }) (record { host = lit< tt; thread = lit< tt }) k lt;
      alone = λ m k s t low high same threads. sym (host-is m s low) ∙ same ∙ host-is k t high;
      whole = whole;
    }

fed-opening : (m : ℕ) → m < 2 → IsOpening fed_flow m (machine_at (machines_by fed_hosts fed_stations) m)
fed-opening m lt =
    both (λ k. IsOpening fed_flow k (machine_at (machines_by fed_hosts fed_stations) k))
    (record { cycle = refl; state = refl; served = refl; latches = refl; flags = refl; kept = refl })
    (record { cycle = refl; state = refl; served = refl; latches = refl; flags = refl; kept = refl })
    m lt

fed-listed : AreListed (frame_of fed) fed_stations
fed-listed m s lt =
    both (λ m. IsListed fed_wires m (kind_at (frame_of fed).kinds m) (slice_index_or fed_stations m s))
    (record {
      ins = refl;
      into = λ i low. absurd (omega (arith, low));
      outs = refl;
      from = only (λ o. IsAtOut fed_wires 0 o (value_at (0 ∷ []) o)) (record { known = lit< tt; machine = refl; out = refl });
      ports = refl;
      few = (omega arith, omega arith);
    })
    (record {
      ins = refl;
      into = only (λ i. IsAtIn fed_wires 1 i (value_at (0 ∷ []) i)) (record { known = lit< tt; machine = refl; place = refl });
      outs = refl;
      from = λ o low. absurd (omega (arith, low));
      ports = refl;
      few = (omega arith, omega arith);
    })
    m lt

lower : (c d : ℕ) → NeedsChannel (frame_of fed) c d → value_at (0 ∷ []) d < value_at (0 ∷ []) c
lower zero d needs = absurd (no-needs 0 needs.place needs.needed)
lower (suc c) d needs = absurd (omega (arith, needs.known))

fed-opens : Opens fed_flow fed_hosts fed_stations fed_wires 2
fed-opens =
    record {
      stationed = fed-stationed;
      opening = fed-opening;
      listed = fed-listed;
      limits = within-limits;
      sound = record { wired = fed-wired; no_ring = record { ranks = 0 ∷ []; lower = lower }; solves = fed-solved };
    }
