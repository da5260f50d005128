-- The marking after `Fire`.
use Rattle.std.proofs.Common.{◌≡◌, ◌≢◌, ℕ, ◌<◌, ◌++◌, List, [], ◌∷◌, true, false, length, refl, sym, ap, ◌∙◌, ⊎_elim, arith, get_or-set_same, get_or-set_other}
use Rattle.std.specs.Prelude.{slice_set}
use Rattle.std.proofs.lemmas.Bool.{cases_eq}
use Rattle.std.proofs.lemmas.List.{length-set}
use Rattle.gg_flat.specs.Streams.{Flow}
use Rattle.gg_node.specs.Machine.{Machine, machine_at, flag_at}
use Rattle.gg_node.specs.Step.{with_flag}
use Rattle.gg_net.specs.declared.shape.Wire.{Wire}
use Rattle.gg_net.specs.declared.event.Event.TheVariants.{Fire}
use Rattle.gg_net.specs.Network.{Network, wire_at, queue_at, producer_of, frame_of}
use Rattle.gg_net.specs.Step.{after_fire}
use Rattle.gg_net.proofs.Can.{CanFire}
use Rattle.gg_net.specs.Kept.{Kept}
use Rattle.gg_net.proofs.WireLemmas.{one-out}
use Rattle.gg_net.proofs.MachineLemmas.{out-within}
use Rattle.gg_net.proofs.MayLemmas.{producer-there}
use Rattle.gg_net.specs.markings.Marking.{Layout, is_set, after}
use Rattle.gg_net.specs.inside.Fits.{marking_of}
use Rattle.gg_net.proofs.MarkingsLemmas.CountLemmas.{given-at}
use Rattle.gg_net.proofs.MarkingsLemmas.ChangeLemmas.{same-parts, given-count, same-frame, same-cycles, same-served, same-taken, given-by}

-- the frame stays
pub fire-frame : (net : Network) (c token : ℕ) → frame_of (after_fire net c token) ≡ frame_of net
fire-frame net c token =
    let w : Wire = wire_at net.wires c in
    let x : Machine = producer_of net c in
    same-frame net w.producer (with_flag x w.out) (slice_set net.queues c (queue_at net.queues c ++ token ∷ []))
    (ap (λ n. record { behaviour = x.behaviour; limit = x.limit; ratios = x.ratios; needs = x.needs; port_count = x.port_count; ports = x.ports; ins = length x.latches; outs = n }) (length-set x.flags w.out true))

module _ (flow : Flow) (net : Network) (kept : Kept flow net) (layout : Layout) (c token : ℕ) (can : CanFire net c) where
  abbrev w : Wire
  w = wire_at net.wires c

  abbrev x : Machine
  x = producer_of net c

  known : c < length net.wires
  known = can.can.0

  there : w.producer < length net.machines
  there = producer-there flow net kept c known

  within : w.out < length x.flags
  within = out-within flow (frame_of net) kept.sound w.producer (kept.sound.wired.producer c known) x (kept.machines w.producer there) c known refl

  -- the channel's mark is set
  mark-here : is_set (slice_set (marking_of net).given c true) c ≡ true
  mark-here = get_or-set_same (marking_of net).given c true false (omega (arith, known, given-count net))

  own : (d : ℕ) → d < length net.wires → (wire_at net.wires d).producer ≡ w.producer → flag_at (slice_set x.flags w.out true) (wire_at net.wires d).out ≡ is_set (slice_set (marking_of net).given c true) d
  own d lt from =
      ⊎_elim
      (λ (same : d ≡ c).
      ap (λ k. flag_at (slice_set x.flags w.out true) (wire_at net.wires k).out) same
      ∙ get_or-set_same x.flags w.out true false within
      ∙ sym mark-here
      ∙ ap (is_set (slice_set (marking_of net).given c true)) (sym same))
      (λ (other : d ≢ c).
      get_or-set_other x.flags w.out (wire_at net.wires d).out true false (λ same. other (one-out (frame_of net) kept.sound.wired d c lt known from same))
      ∙ ap (λ k. flag_at (machine_at net.machines k).flags (wire_at net.wires d).out) (sym from)
      ∙ sym (given-at net d lt)
      ∙ sym (get_or-set_other (marking_of net).given c d true false other))
      (cases_eq d c)

  pub fire-step : marking_of (after_fire net c token) ≡ after layout (marking_of net) (Fire c)
  fire-step =
      let y : Machine = with_flag x w.out in
      let queues : List (List ℕ) = slice_set net.queues c (queue_at net.queues c ++ token ∷ []) in
      same-parts (marking_of (after_fire net c token)) (after layout (marking_of net) (Fire c))
      (same-cycles net w.producer y queues refl)
      (same-served net w.producer y queues refl)
      (same-taken net w.producer y queues there refl)
      (given-by net w.producer y queues there (slice_set (marking_of net).given c true) (length-set (marking_of net).given c true ∙ given-count net) own
      (λ d lt other. sym (get_or-set_other (marking_of net).given c d true false (λ (same : d ≡ c). other (ap (λ k. (wire_at net.wires k).producer) same)))))
