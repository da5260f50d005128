-- A network and its marking have the same facts, so the table of steps says the same of both.
use Rattle.std.proofs.Common.{◌≡◌, ℕ, suc, ◌<◌, ◌≤◌, List, [], ◌∷◌, Some, length, map, refl, sym, ap, subst, ◌∙◌, ⊎_elim, arith}
use Rattle.std.specs.Prelude.{All, nat_lt, slice_get, slice_index_or}
use Rattle.std.proofs.lemmas.Bool.{cases_lt}
use Rattle.std.proofs.lemmas.Option.{slice_get_within, slice_get_past, slice_get-get_or, get_or_from_slice_get}
use Rattle.std.proofs.Math.ListN as exact
use Rattle.gg_flat.specs.Line.{value_at}
use Rattle.gg_flat.specs.Streams.{Flow}
use Rattle.gg_node.specs.Machine.{Port, Machine, no_machine, machine_at, needs_at}
use Rattle.gg_node.specs.Step.{fields_of}
use Rattle.gg_net.specs.declared.event.Event.{Event}
use Rattle.gg_net.specs.Refusal.{Turn, Facts}
use Rattle.gg_net.specs.Refusal as table
use Rattle.gg_net.specs.Network.{Network, Kind, kind_of, no_kind, wire_at, kind_at, frame_of}
use Rattle.gg_net.specs.Step.{channel_into, channels_at, turn_of, turn_if, facts_of}
use Rattle.gg_net.specs.Kept.{Kept, IsWired}
use Rattle.gg_net.proofs.PortLemmas.{any_port}
use Rattle.gg_net.proofs.FrameLemmas.{machine-known, machine-there, kind-is}
use Rattle.gg_net.proofs.WireLemmas.{one-in, channel-is}
use Rattle.gg_net.proofs.TableLemmas.{port-there}
use Rattle.gg_net.specs.markings.Marking.{Layout, Marking, turns_at, port_count, marked_facts, marked_refusal}
use Rattle.gg_net.specs.inside.Fits.{HasLayout, AreTaken, AreTurnsOf, IsTurnOf, places_of, marking_of}
use Rattle.gg_net.proofs.MarkingsLemmas.CountLemmas.{cycle-at, served-at, taken-at, given-at, held-is, machine-count}
use Rattle.gg_net.proofs.MarkingsLemmas.AlikeLemmas.{AreAlike, same-refusal}

-- a turn for places where there is none
abbrev any_turn : Turn
any_turn = record { number = 0; fields = [] }

module _ (flow : Flow) (net : Network) (kept : Kept flow net) (layout : Layout) (has : HasLayout (frame_of net) layout) where
  abbrev marking : Marking
  marking = marking_of net

  wired : IsWired (frame_of net)
  wired = kept.sound.wired

  below-same : (m : ℕ) → nat_lt (machine_at net.machines m).cycle net.end ≡ nat_lt (value_at marking.cycles m) layout.end
  below-same m = ap (λ n. nat_lt n net.end) (sym (cycle-at net m)) ∙ ap (nat_lt (value_at marking.cycles m)) (sym has.end)

  ports-same : (m : ℕ) → (machine_at net.machines m).port_count ≡ port_count layout m
  ports-same m =
      sym (ap (λ (counts : List ℕ). value_at counts m) has.ports
      ∙ exact.get_or-map (λ (kind : Kind). kind.port_count) (map kind_of net.machines) m no_kind
      ∙ ap (λ (kind : Kind). kind.port_count) (exact.get_or-map kind_of net.machines m no_machine))

  -- channels that a machine takes are those at their places
  placed-back : (m : ℕ) (channels : List ℕ) → m < length net.machines → AreTaken (frame_of net) m channels → channels_at net.wires m (places_of (frame_of net) channels) ≡ channels
  placed-back m [] there taken = refl
  placed-back m (d ∷ channels) there taken =
      let own : (d < length net.wires) × ((wire_at net.wires d).consumer ≡ m) = taken 0 0 (omega arith) in
      let i : ℕ = (wire_at net.wires d).place in
      let at = channel-is (frame_of net) wired m i (machine-known net m there) (subst (λ k. i < (kind_at (frame_of net).kinds k).ins) own.1 (wired.place d own.0)) in
      ap (λ e. e ∷ channels_at net.wires m (places_of (frame_of net) channels)) (one-in (frame_of net) wired (channel_into net.wires m i) d at.known own.0 (at.machine ∙ sym own.1) at.place)
      ∙ ap (λ rest. d ∷ rest) (placed-back m channels there (λ k any lt. taken (suc k) any (omega (arith, lt))))

  known-of : (m : ℕ) (channels : List ℕ) → AreTaken (frame_of net) m channels → All (λ d. d < length net.wires) channels
  known-of m channels taken k any lt = (taken k any lt).0

  needs-same : (c : ℕ) → c < length net.wires → (facts_of net).needs c ≡ (marked_facts layout marking).needs c
  needs-same c lt =
      let p : ℕ = (wire_at net.wires c).producer in
      let link = has.link c lt in
      ap (λ (k : Kind). channels_at net.wires p (needs_at k.needs (wire_at net.wires c).out)) (sym (kind-is net p))
      ∙ ap (channels_at net.wires p) (sym link.needs)
      ∙ placed-back p ((marked_facts layout marking).needs c) (machine-there net p (wired.producer c lt)) link.taken

  module _ (m : ℕ) (there : m < length net.machines) where
    abbrev x : Machine
    x = machine_at net.machines m

    turns-are : AreTurnsOf (frame_of net) m x.ports (turns_at layout m)
    turns-are = subst (λ (k : Kind). AreTurnsOf (frame_of net) m k.ports (turns_at layout m)) (kind-is net m) (has.turns m (machine-known net m there))

    turn-same : (port : Port) (turn : Turn) → IsTurnOf (frame_of net) m port turn → turn_of net.wires m port ≡ turn
    turn-same port turn is =
        ap (λ n. record { number = n; fields = channels_at net.wires m (fields_of port.access) }) (sym is.number)
        ∙ ap (λ xs. record { number = turn.number; fields = xs }) (ap (channels_at net.wires m) (sym is.fields) ∙ placed-back m turn.fields there is.taken)

    due-same : (facts_of net).due m ≡ (marked_facts layout marking).due m
    due-same =
        ⊎_elim
        (λ (lt : x.served < length x.ports).
        ap (turn_if net.wires m) (slice_get-get_or x.ports x.served any_port lt)
        ∙ ap Some (turn-same (slice_index_or x.ports x.served any_port) (slice_index_or (turns_at layout m) x.served any_turn) (turns-are.each x.served any_port any_turn lt))
        ∙ sym (slice_get-get_or (turns_at layout m) x.served any_turn (omega (arith, lt, turns-are.count)))
        ∙ ap (slice_get (turns_at layout m)) (sym (served-at net m)))
        (λ (le : length x.ports ≤ x.served).
        ap (turn_if net.wires m) (slice_get_past x.ports x.served le)
        ∙ sym (slice_get_past (turns_at layout m) (value_at marking.served m) (omega (arith, le, served-at net m, turns-are.count))))
        (cases_lt x.served (length x.ports))

    fields-known : (turn : Turn) → slice_get (turns_at layout m) (value_at marking.served m) ≡ Some turn → All (λ d. d < length net.wires) turn.fields
    fields-known turn is =
        let s : ℕ = value_at marking.served m in
        let lt : s < length (turns_at layout m) = slice_get_within (turns_at layout m) s turn is in
        let at : slice_index_or (turns_at layout m) s turn ≡ turn = get_or_from_slice_get (turns_at layout m) s turn turn is in
        subst (λ (t : Turn). All (λ d. d < length net.wires) t.fields) at (known-of m (slice_index_or (turns_at layout m) s turn).fields (turns-are.each s any_port turn (omega (arith, lt, turns-are.count))).taken)

  pub alike : AreAlike (facts_of net) (marked_facts layout marking)
  alike =
      record {
        channels = sym has.channels;
        machines = sym (machine-count net layout has);
        ports = ports-same;
        below = below-same;
        producer = λ c lt. sym (has.link c lt).producer;
        consumer = λ c lt. sym (has.link c lt).consumer;
        needs = needs-same;
        capacity = λ c lt. sym (has.link c lt).capacity;
        taken = λ c lt. sym (taken-at net c lt);
        given = λ c lt. sym (given-at net c lt);
        held = λ c lt. sym (held-is net layout has flow kept c lt);
        due = due-same;
        needed = λ c lt. known-of (wire_at net.wires c).producer ((marked_facts layout marking).needs c) (has.link c lt).taken;
        fields = λ m turn there is. fields-known m there turn is;
        there = λ m p lt. port-there net m p lt;
      }

  -- An event of a network is refused just as its marking refuses it.
  pub marked : (event : Event) → table.refusal (facts_of net) event ≡ marked_refusal layout marking event
  marked event = same-refusal (facts_of net) (marked_facts layout marking) alike event
