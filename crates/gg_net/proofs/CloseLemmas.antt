-- The parts of a network after a step make a network again, the one to which the step leads.
use Rattle.std.proofs.Common.{◌≡◌, ◌≢◌, ℕ, ◌<◌, ◌≤◌, ◌++◌, List, [], ◌∷◌, None, Some, true, false, length, map, drop, refl, sym, ap, subst, ◌∙◌, ⊎_elim, arith, get_or-set_same, get_or-set_other}
use Rattle.std.specs.Prelude.{slice_set, slice_index_or, replicate}
use Rattle.std.proofs.lemmas.Bool.{cases_eq}
use Rattle.std.proofs.lemmas.List.{length-map, length-set, length-replicate, map-set, get_or-map, get_or_default}
use Rattle.std.proofs.Math.Seq.{map-set_same}
use Rattle.gg_flat.specs.Line.{value_at}
use Rattle.gg_flat.specs.State.{State}
use Rattle.gg_flat.specs.Streams.{Flow}
use Rattle.gg_node.specs.Machine.{Machine, no_machine, machine_at}
use Rattle.gg_node.specs.Token.{IsToken, IsNextState}
use Rattle.gg_node.specs.inside.Step.{MayLatch, MayFire, MayServe, MayFinish}
use Rattle.gg_node.specs.Step.{with_latch, with_flag, with_served, finished}
use Rattle.gg_net.specs.declared.shape.Wire.{Wire}
use Rattle.gg_net.specs.declared.shape.Station.{Station}
use Rattle.gg_net.specs.declared.event.Event.TheVariants.{Latch, Fire, Serve, Finish}
use Rattle.gg_net.specs.Network.{Network, wire_at, queue_at, producer_of, consumer_of, Kind, kind_of, frame_of}
use Rattle.gg_net.specs.Step.{front_of, after_latch, after_serve, Gives, GoesOn}
use Rattle.gg_net.proofs.Can.{CanLatch, CanFire, CanServe, CanFinish}
use Rattle.gg_net.specs.Kept.{Kept}
use Rattle.gg_net.specs.inside.Queue.{Held}
use Rattle.gg_net.specs.inside.Stations.{machines_by, stationed, IsStationed, IsReplacedAt, HasGoneOn}
use Rattle.gg_net.specs.inside.Net.{net_of, held_at, AreListed, HasRoom, IsWithinLimits, IsNet}
use Rattle.gg_net.proofs.StationLemmas.{machines-set, are-stationed}
use Rattle.gg_net.proofs.StepLemmas.{kept-step}
use Rattle.gg_net.proofs.TableLemmas.{can-latch, can-fire, can-serve, can-finish}
use Rattle.gg_net.proofs.MayLemmas.{consumer-there, producer-there, may-latch, may-fire}
use Rattle.gg_net.proofs.FrameLemmas.{machine-known}
use Rattle.gg_net.proofs.PartLemmas.{own-may-serve, own-may-finish}

-- ---- kinds

pub kind-latch : (x : Machine) (i value : ℕ) → kind_of (with_latch x i value) ≡ kind_of x
kind-latch x i value = ap (λ n. record { behaviour = x.behaviour; limit = x.limit; ratios = x.ratios; needs = x.needs; port_count = x.port_count; ports = x.ports; ins = n; outs = length x.flags }) (length-set x.latches i (Some value))

pub kind-flag : (x : Machine) (o : ℕ) → kind_of (with_flag x o) ≡ kind_of x
kind-flag x o = ap (λ n. record { behaviour = x.behaviour; limit = x.limit; ratios = x.ratios; needs = x.needs; port_count = x.port_count; ports = x.ports; ins = length x.latches; outs = n }) (length-set x.flags o true)

pub kind-finished : (x : Machine) (next : State) → kind_of (finished x next) ≡ kind_of x
kind-finished x next =
    ap (λ n. record { behaviour = x.behaviour; limit = x.limit; ratios = x.ratios; needs = x.needs; port_count = x.port_count; ports = x.ports; ins = n; outs = length (replicate (length x.flags) false) }) (length-replicate (length x.latches) None)
    ∙ ap (λ n. record { behaviour = x.behaviour; limit = x.limit; ratios = x.ratios; needs = x.needs; port_count = x.port_count; ports = x.ports; ins = length x.latches; outs = n }) (length-replicate (length x.flags) false)

-- ---- queues

abbrev tokens : Held → List ℕ
tokens queue = queue.tokens

abbrev no_tokens : Held
no_tokens = record { tokens = []; room = 0 }

pub tokens-at : (queues : List Held) (c : ℕ) (queue : Held) → c < length queues → queue ≡ slice_index_or queues c queue → queue.tokens ≡ queue_at (map (λ (q : Held). q.tokens) queues) c
tokens-at queues c queue below is = ap tokens is ∙ sym (get_or-map tokens queues c queue [] below)

-- queues have room if one was changed and kept its room
pub room-set : (wires : List Wire) (queues : List Held) (c : ℕ) (queue new : Held) → c < length queues → queue ≡ slice_index_or queues c queue → new.room ≡ queue.room → HasRoom wires queues → HasRoom wires (slice_set queues c new)
room-set wires queues c queue new below is same room d known =
    ⊎_elim
    (λ (here : d ≡ c).
    let at : held_at queues c ≡ queue = exact_default queues c queue below ∙ sym is in
    let is_new : held_at (slice_set queues c new) d ≡ new = ap (held_at (slice_set queues c new)) here ∙ get_or-set_same queues c new no_tokens below in
    let was : (wire_at wires d).capacity ≤ (held_at queues c).room = subst (λ k. (wire_at wires d).capacity ≤ (held_at queues k).room) here (room d known) in
    omega (arith, was, ap (λ (q : Held). q.room) at, ap (λ (q : Held). q.room) is_new, same))
    (λ (other : d ≢ c). subst (λ (q : Held). (wire_at wires d).capacity ≤ q.room) (sym (get_or-set_other queues c d new no_tokens other)) (room d known))
    (cases_eq d c)
  where
    exact_default : (queues : List Held) (c : ℕ) (queue : Held) → c < length queues → held_at queues c ≡ slice_index_or queues c queue
    exact_default queues c queue below = get_or_default queues c no_tokens queue below

-- ---- the parts after a step

module _ {flow : Flow} {hosts : List (List Machine)} {stations : List Station} {wires : List Wire} {queues : List Held} {end : ℕ} (net : IsNet flow hosts stations wires queues end) where
  abbrev old : Network
  old = net_of hosts stations wires queues end

  module _ (m : ℕ) (station : Station) (below : m < length stations) (is : station ≡ slice_index_or stations m station) where
    pub machine-is : machine_at (machines_by hosts stations) m ≡ stationed hosts station
    machine-is = get_or-map (stationed hosts) stations m station no_machine below ∙ ap (stationed hosts) (sym is)

    module _ (after : List (List Machine)) (y : Machine) (step : IsReplacedAt hosts after station y) (queues' : List Held) where
      step-at : IsReplacedAt hosts after (slice_index_or stations m station) y
      step-at = subst (λ s. IsReplacedAt hosts after s y) is step

      -- the network that the parts make
      pub parts-are : net_of after stations wires queues' end ≡ record old { machines = slice_set (machines_by hosts stations) m y; queues = map (λ (q : Held). q.tokens) queues' }
      parts-are = ap (λ (machines : List Machine). record { machines = machines; wires = wires; queues = map (λ (q : Held). q.tokens) queues'; end = end }) (machines-set hosts after stations m station y net.stationed below step-at)

      frame-is : kind_of y ≡ kind_of (stationed hosts station) → frame_of (net_of after stations wires queues' end) ≡ frame_of old
      frame-is kind =
          ap (λ (machines : List Machine). record { kinds = map kind_of machines; wires = wires; end = end }) (machines-set hosts after stations m station y net.stationed below step-at)
          ∙ ap (λ (kinds : List Kind). record { kinds = kinds; wires = wires; end = end }) (map-set_same kind_of (machines_by hosts stations) m y no_machine (kind ∙ ap kind_of (sym machine-is)))

      -- The parts make a network again.
      pub closes : kind_of y ≡ kind_of (stationed hosts station) → HasRoom wires queues' → Kept flow (net_of after stations wires queues' end) → IsNet flow after stations wires queues' end
      closes kind room kept =
          record {
            stationed = are-stationed hosts after stations m station y net.stationed below step-at;
            listed = subst (λ f. AreListed f stations) (sym (frame-is kind)) net.listed;
            room = room;
            limits = subst IsWithinLimits (sym (frame-is kind)) net.limits;
            kept = kept;
          }

  -- ---- channels

  pub queues-there : (c : ℕ) → c < length wires → c < length queues
  queues-there c known = omega (arith, known, net.kept.queues, length-map queues tokens)

  pub consumer-within : (c : ℕ) → c < length wires → (wire_at wires c).consumer < length stations
  consumer-within c known = omega (arith, consumer-there flow old net.kept c known, length-map stations (stationed hosts))

  pub producer-within : (c : ℕ) → c < length wires → (wire_at wires c).producer < length stations
  producer-within c known = omega (arith, producer-there flow old net.kept c known, length-map stations (stationed hosts))

  module _ (c : ℕ) (w : Wire) (w-is : w ≡ slice_index_or wires c w) (known : c < length wires) where
    pub wire-is : w ≡ wire_at wires c
    wire-is = w-is ∙ get_or_default wires c w (record { producer = 0; out = 0; consumer = 0; place = 0; capacity = 0; first = None }) known

    pub consumer-known : w.consumer < length stations
    consumer-known = subst (λ (v : Wire). v.consumer < length stations) (sym wire-is) (consumer-within c known)

    pub producer-known : w.producer < length stations
    producer-known = subst (λ (v : Wire). v.producer < length stations) (sym wire-is) (producer-within c known)

    module _ (giver : Station) (g-is : giver ≡ slice_index_or stations w.producer giver) where
      giver-is : stationed hosts giver ≡ machine_at (machines_by hosts stations) (wire_at wires c).producer
      giver-is = sym (machine-is w.producer giver producer-known g-is) ∙ ap (λ (v : Wire). machine_at (machines_by hosts stations) v.producer) wire-is

      pub fire-stationed : IsStationed hosts giver
      fire-stationed = subst (IsStationed hosts) (sym g-is) (net.stationed.each w.producer giver producer-known)

      pub fire-may : CanFire old c → MayFire (stationed hosts giver) w.out
      fire-may can =
          subst (λ (v : Wire). MayFire (stationed hosts giver) v.out) (sym wire-is)
          (subst (λ x. MayFire x (wire_at wires c).out) (sym giver-is) (may-fire flow old net.kept c can))

    module _ (queue : Held) (q-is : queue ≡ slice_index_or queues c queue) where
      pub queue-is : queue.tokens ≡ queue_at (map (λ (q : Held). q.tokens) queues) c
      queue-is = tokens-at queues c queue (queues-there c known) q-is

      pub latch-held : CanLatch old c → 0 < length queue.tokens
      latch-held can = subst (λ (tokens : List ℕ). 0 < length tokens) (sym queue-is) can.held

      -- ---- `Latch`

      module _ (station : Station) (s-is : station ≡ slice_index_or stations w.consumer station) (token : ℕ) (t-is : token ≡ value_at queue.tokens 0) where
        station-is : stationed hosts station ≡ machine_at (machines_by hosts stations) (wire_at wires c).consumer
        station-is = sym (machine-is w.consumer station consumer-known s-is) ∙ ap (λ (v : Wire). machine_at (machines_by hosts stations) v.consumer) wire-is

        pub latch-stationed : IsStationed hosts station
        latch-stationed = subst (IsStationed hosts) (sym s-is) (net.stationed.each w.consumer station consumer-known)

        token-is : token ≡ front_of old c
        token-is = t-is ∙ ap (λ q. value_at q 0) queue-is

        pub latch-may : CanLatch old c → MayLatch (stationed hosts station) w.place token
        latch-may can =
            subst (λ (v : Wire). MayLatch (stationed hosts station) v.place token) (sym wire-is)
            (subst (λ x. MayLatch x (wire_at wires c).place token) (sym station-is)
            (subst (MayLatch (consumer_of old c) (wire_at wires c).place) (sym token-is) (may-latch flow old net.kept c can)))

        module _ (can : CanLatch old c) (after : List (List Machine)) (new : Held) (rest : new.tokens ≡ drop 1 queue.tokens) (room : new.room ≡ queue.room) (step : IsReplacedAt hosts after station (with_latch (stationed hosts station) w.place token)) where
          pub latch-is : net_of after stations wires (slice_set queues c new) end ≡ after_latch old c
          latch-is =
              parts-are w.consumer station consumer-known s-is after (with_latch (stationed hosts station) w.place token) step (slice_set queues c new)
              ∙ ap (λ (qs : List (List ℕ)). record old { machines = slice_set (machines_by hosts stations) w.consumer (with_latch (stationed hosts station) w.place token); queues = qs })
              (map-set tokens queues c new ∙ ap (slice_set (map tokens queues) c) (rest ∙ ap (drop 1) queue-is))
              ∙ ap (λ x. record old { machines = slice_set (machines_by hosts stations) w.consumer (with_latch x w.place token); queues = slice_set (map tokens queues) c (drop 1 (queue_at (map tokens queues) c)) }) station-is
              ∙ ap (λ t. record old { machines = slice_set (machines_by hosts stations) w.consumer (with_latch (consumer_of old c) w.place t); queues = slice_set (map tokens queues) c (drop 1 (queue_at (map tokens queues) c)) }) token-is
              ∙ ap (λ (v : Wire). record old { machines = slice_set (machines_by hosts stations) v.consumer (with_latch (consumer_of old c) v.place (front_of old c)); queues = slice_set (map tokens queues) c (drop 1 (queue_at (map tokens queues) c)) }) wire-is

          pub latch-closes : IsNet flow after stations wires (slice_set queues c new) end
          latch-closes =
              closes w.consumer station consumer-known s-is after (with_latch (stationed hosts station) w.place token) step (slice_set queues c new) (kind-latch (stationed hosts station) w.place token)
              (room-set wires queues c queue new (queues-there c known) q-is room net.room)
              (kept-step flow old (Latch c) (net_of after stations wires (slice_set queues c new) end) net.kept (record { ready = can-latch old c can; after = latch-is }))

      -- ---- `Fire`

      pub fire-room : CanFire old c → length queue.tokens < queue.room
      fire-room can =
          let at : held_at queues c ≡ queue = get_or_default queues c no_tokens queue (queues-there c known) ∙ sym q-is in
          omega (arith, can.room, net.room c known, ap length queue-is, ap (λ (q : Held). q.room) at)

      module _ (station : Station) (s-is : station ≡ slice_index_or stations w.producer station) where
        module _ (can : CanFire old c) (after : List (List Machine)) (token : ℕ) (gives : IsToken (stationed hosts station) w.out token) (new : Held) (put : new.tokens ≡ queue.tokens ++ token ∷ []) (room : new.room ≡ queue.room) (step : IsReplacedAt hosts after station (with_flag (stationed hosts station) w.out)) where
          pub fire-gives : Gives old c (net_of after stations wires (slice_set queues c new) end)
          fire-gives =
              record {
                token = token;
                is = subst (λ x. IsToken x (wire_at wires c).out token) (giver-is station s-is) (subst (λ (v : Wire). IsToken (stationed hosts station) v.out token) wire-is gives);
                after =
                    parts-are w.producer station producer-known s-is after (with_flag (stationed hosts station) w.out) step (slice_set queues c new)
                    ∙ ap (λ (qs : List (List ℕ)). record old { machines = slice_set (machines_by hosts stations) w.producer (with_flag (stationed hosts station) w.out); queues = qs })
                    (map-set tokens queues c new ∙ ap (slice_set (map tokens queues) c) (put ∙ ap (λ (q : List ℕ). q ++ token ∷ []) queue-is))
                    ∙ ap (λ x. record old { machines = slice_set (machines_by hosts stations) w.producer (with_flag x w.out); queues = slice_set (map tokens queues) c (queue_at (map tokens queues) c ++ token ∷ []) }) (giver-is station s-is)
                    ∙ ap (λ (v : Wire). record old { machines = slice_set (machines_by hosts stations) v.producer (with_flag (producer_of old c) v.out); queues = slice_set (map tokens queues) c (queue_at (map tokens queues) c ++ token ∷ []) }) wire-is;
              }

          pub fire-closes : IsNet flow after stations wires (slice_set queues c new) end
          fire-closes =
              closes w.producer station producer-known s-is after (with_flag (stationed hosts station) w.out) step (slice_set queues c new) (kind-flag (stationed hosts station) w.out)
              (room-set wires queues c queue new (queues-there c known) q-is room net.room)
              (kept-step flow old (Fire c) (net_of after stations wires (slice_set queues c new) end) net.kept (record { ready = can-fire old net.kept.sound.wired c can; after = fire-gives }))

  -- ---- `Serve` and `Finish`

  module _ (m : ℕ) (station : Station) (below : m < length stations) (is : station ≡ slice_index_or stations m station) where
    pub serve-stationed : IsStationed hosts station
    serve-stationed = subst (IsStationed hosts) (sym is) (net.stationed.each m station below)

    pub serve-may : (p : ℕ) → CanServe old m p → MayServe (stationed hosts station) p
    serve-may p can =
        subst (λ x. MayServe x p) (machine-is m station below is)
        (own-may-serve flow (frame_of old) net.kept.sound m (machine-known old m can.there.0) (machine_at (machines_by hosts stations) m) (net.kept.machines m can.there.0) p can.fired can.due can.fields)

    module _ (p : ℕ) (can : CanServe old m p) (after : List (List Machine)) (step : IsReplacedAt hosts after station (with_served (stationed hosts station))) where
      pub serve-is : net_of after stations wires queues end ≡ after_serve old m
      serve-is =
          parts-are m station below is after (with_served (stationed hosts station)) step queues
          ∙ ap (λ x. record old { machines = slice_set (machines_by hosts stations) m (with_served x) }) (sym (machine-is m station below is))

      pub serve-closes : IsNet flow after stations wires queues end
      serve-closes =
          closes m station below is after (with_served (stationed hosts station)) step queues refl net.room
          (kept-step flow old (Serve m p) (net_of after stations wires queues end) net.kept (record { ready = can-serve old net.kept.sound.wired m p can; after = serve-is }))

    module _ (can : CanFinish old m) where
      pub finish-stationed : IsStationed hosts station
      finish-stationed = subst (IsStationed hosts) (sym is) (net.stationed.each m station below)

      pub finish-may : MayFinish (stationed hosts station)
      finish-may =
          subst MayFinish (machine-is m station below is)
          (own-may-finish flow (frame_of old) net.kept.sound m (machine-known old m can.there) (machine_at (machines_by hosts stations) m) (net.kept.machines m can.there) can.below can.fired can.served can.latched)

    module _ (can : CanFinish old m) (after : List (List Machine)) (goes : HasGoneOn hosts after station) where
      pub finish-goes : GoesOn old m (net_of after stations wires queues end)
      finish-goes =
          record {
            state = goes.state;
            is = subst (λ x. IsNextState x goes.state) (sym (machine-is m station below is)) goes.is;
            after =
                parts-are m station below is after (finished (stationed hosts station) goes.state) goes.step queues
                ∙ ap (λ x. record old { machines = slice_set (machines_by hosts stations) m (finished x goes.state) }) (sym (machine-is m station below is));
          }

      pub finish-closes : IsNet flow after stations wires queues end
      finish-closes =
          closes m station below is after (finished (stationed hosts station) goes.state) goes.step queues (kind-finished (stationed hosts station) goes.state) net.room
          (kept-step flow old (Finish m) (net_of after stations wires queues end) net.kept (record { ready = can-finish old net.kept.sound.wired m can; after = finish-goes }))
