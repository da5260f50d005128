-- The marking after `Latch`.
use Rattle.std.proofs.Common.{◌≡◌, ◌≢◌, ℕ, ◌<◌, List, Option, Some, None, true, false, length, refl, sym, ap, ◌∙◌, ⊎_elim, arith, get_or-set_same, get_or-set_other}
use Rattle.std.specs.Prelude.{is_some, slice_set, drop}
use Rattle.std.proofs.lemmas.Bool.{cases_eq}
use Rattle.std.proofs.lemmas.List.{length-set}
use Rattle.gg_flat.specs.Streams.{Flow}
use Rattle.gg_node.specs.Machine.{Machine, machine_at, latch_at}
use Rattle.gg_node.specs.Step.{with_latch}
use Rattle.gg_net.specs.declared.shape.Wire.{Wire}
use Rattle.gg_net.specs.declared.event.Event.TheVariants.{Latch}
use Rattle.gg_net.specs.Network.{Network, wire_at, queue_at, consumer_of, frame_of}
use Rattle.gg_net.specs.Step.{front_of, after_latch}
use Rattle.gg_net.proofs.Can.{CanLatch}
use Rattle.gg_net.specs.Kept.{Kept}
use Rattle.gg_net.proofs.WireLemmas.{one-in}
use Rattle.gg_net.proofs.MachineLemmas.{place-within}
use Rattle.gg_net.proofs.MayLemmas.{consumer-there}
use Rattle.gg_net.specs.markings.Marking.{Layout, is_set, after}
use Rattle.gg_net.specs.inside.Fits.{marking_of}
use Rattle.gg_net.proofs.MarkingsLemmas.CountLemmas.{taken-at}
use Rattle.gg_net.proofs.MarkingsLemmas.ChangeLemmas.{same-parts, taken-count, same-frame, same-cycles, same-served, taken-by, same-given}

-- the frame stays
pub latch-frame : (net : Network) (c : ℕ) → frame_of (after_latch net c) ≡ frame_of net
latch-frame net c =
    let w : Wire = wire_at net.wires c in
    let x : Machine = consumer_of net c in
    same-frame net w.consumer (with_latch x w.place (front_of net c)) (slice_set net.queues c (drop 1 (queue_at net.queues c)))
    (ap (λ n. record { behaviour = x.behaviour; limit = x.limit; ratios = x.ratios; needs = x.needs; port_count = x.port_count; ports = x.ports; ins = n; outs = length x.flags }) (length-set x.latches w.place (Some (front_of net c))))

module _ (flow : Flow) (net : Network) (kept : Kept flow net) (layout : Layout) (c : ℕ) (can : CanLatch net c) where
  abbrev w : Wire
  w = wire_at net.wires c

  abbrev x : Machine
  x = consumer_of net c

  known : c < length net.wires
  known = can.can.0

  there : w.consumer < length net.machines
  there = consumer-there flow net kept c known

  within : w.place < length x.latches
  within = place-within flow (frame_of net) kept.sound w.consumer (kept.sound.wired.consumer c known) x (kept.machines w.consumer there) c known refl

  -- the channel's mark is set
  mark-here : is_set (slice_set (marking_of net).taken c true) c ≡ true
  mark-here = get_or-set_same (marking_of net).taken c true false (omega (arith, known, taken-count net))

  own : (d : ℕ) → d < length net.wires → (wire_at net.wires d).consumer ≡ w.consumer → is_some (latch_at (slice_set x.latches w.place (Some (front_of net c))) (wire_at net.wires d).place) ≡ is_set (slice_set (marking_of net).taken c true) d
  own d lt to =
      let latches : List (Option ℕ) = slice_set x.latches w.place (Some (front_of net c)) in
      ⊎_elim
      (λ (same : d ≡ c).
      ap (λ k. is_some (latch_at latches (wire_at net.wires k).place)) same
      ∙ ap is_some (get_or-set_same x.latches w.place (Some (front_of net c)) None within)
      ∙ sym mark-here
      ∙ ap (is_set (slice_set (marking_of net).taken c true)) (sym same))
      (λ (other : d ≢ c).
      ap is_some (get_or-set_other x.latches w.place (wire_at net.wires d).place (Some (front_of net c)) None (λ same. other (one-in (frame_of net) kept.sound.wired d c lt known to same)))
      ∙ ap (λ k. is_some (latch_at (machine_at net.machines k).latches (wire_at net.wires d).place)) (sym to)
      ∙ sym (taken-at net d lt)
      ∙ sym (get_or-set_other (marking_of net).taken c d true false other))
      (cases_eq d c)

  pub latch-step : marking_of (after_latch net c) ≡ after layout (marking_of net) (Latch c)
  latch-step =
      let y : Machine = with_latch x w.place (front_of net c) in
      let queues : List (List ℕ) = slice_set net.queues c (drop 1 (queue_at net.queues c)) in
      same-parts (marking_of (after_latch net c)) (after layout (marking_of net) (Latch c))
      (same-cycles net w.consumer y queues refl)
      (same-served net w.consumer y queues refl)
      (taken-by net w.consumer y queues there (slice_set (marking_of net).taken c true) (length-set (marking_of net).taken c true ∙ taken-count net) own
      (λ d lt other. sym (get_or-set_other (marking_of net).taken c d true false (λ (same : d ≡ c). other (ap (λ k. (wire_at net.wires k).consumer) same)))))
      (same-given net w.consumer y queues there refl)
