-- The marking of a network has the counts and the marks of the network.
use Rattle.std.proofs.Common.{◌≡◌, ℕ, ◌-◌, ◌<◌, Option, None, Some, false, length, refl, sym, ap, ◌∙◌, arith}
use Rattle.std.specs.Prelude.{is_some}
use Rattle.std.proofs.lemmas.List.{length-map}
use Rattle.std.proofs.lemmas.List.FromFn.{get_or-map-range_with_len}
use Rattle.std.proofs.Math.ListN as exact
use Rattle.gg_flat.specs.Line.{value_at}
use Rattle.gg_flat.specs.Streams.{Flow}
use Rattle.gg_node.specs.Machine.{Machine, no_machine, machine_at}
use Rattle.gg_net.specs.Network.{Network, wire_at, queue_at, and_one, got_by, entered_by, kind_of, frame_of}
use Rattle.gg_net.specs.Network as network
use Rattle.gg_net.specs.Step.{latch_of, flag_of}
use Rattle.gg_net.specs.Kept.{Kept, BetweenAt, list_at}
use Rattle.gg_net.specs.markings.Marking.{Layout, Marking, is_set, marked_puts, marked_entered, marked_takes, held}
use Rattle.gg_net.specs.inside.Fits.{HasLayout, marking_of}

-- ---- over plain variables

got-counts : (cycle : ℕ) (latch : Option ℕ) → got_by cycle latch ≡ and_one cycle (is_some latch)
got-counts cycle None = refl
got-counts cycle (Some value) = refl

entered-counts : (first : Option ℕ) (n : ℕ) → entered_by first n ≡ and_one n (is_some first)
entered-counts None n = refl
entered-counts (Some token) n = refl

module _ (net : Network) where
  -- ---- what the marking says of a machine and of a channel

  pub cycle-at : (m : ℕ) → value_at (marking_of net).cycles m ≡ (machine_at net.machines m).cycle
  cycle-at m = exact.get_or-map (λ (x : Machine). x.cycle) net.machines m no_machine

  pub served-at : (m : ℕ) → value_at (marking_of net).served m ≡ (machine_at net.machines m).served
  served-at m = exact.get_or-map (λ (x : Machine). x.served) net.machines m no_machine

  pub taken-at : (c : ℕ) → c < length net.wires → is_set (marking_of net).taken c ≡ is_some (latch_of net c)
  taken-at c known = get_or-map-range_with_len (λ d. is_some (latch_of net d)) 0 (length net.wires) c c false known (omega arith)

  pub given-at : (c : ℕ) → c < length net.wires → is_set (marking_of net).given c ≡ flag_of net c
  given-at c known = get_or-map-range_with_len (flag_of net) 0 (length net.wires) c c false known (omega arith)

  module _ (layout : Layout) (has : HasLayout (frame_of net) layout) where
    abbrev marking : Marking
    marking = marking_of net

    -- ---- counts

    pub puts-are : (c : ℕ) → c < length net.wires → network.puts net c ≡ marked_puts layout marking c
    puts-are c known =
        ap (λ b. and_one (machine_at net.machines (wire_at net.wires c).producer).cycle b) (sym (given-at c known))
        ∙ ap (λ n. and_one n (is_set marking.given c)) (sym (cycle-at (wire_at net.wires c).producer))
        ∙ ap (λ m. and_one (value_at marking.cycles m) (is_set marking.given c)) (sym (has.link c known).producer)

    pub entered-are : (c : ℕ) → c < length net.wires → network.entered net c ≡ marked_entered layout marking c
    entered-are c known =
        entered-counts (wire_at net.wires c).first (network.puts net c)
        ∙ ap (λ n. and_one n (is_some (wire_at net.wires c).first)) (puts-are c known)
        ∙ ap (and_one (marked_puts layout marking c)) (sym (has.link c known).piped)

    pub takes-are : (c : ℕ) → c < length net.wires → network.takes net c ≡ marked_takes layout marking c
    takes-are c known =
        got-counts (machine_at net.machines (wire_at net.wires c).consumer).cycle (latch_of net c)
        ∙ ap (λ b. and_one (machine_at net.machines (wire_at net.wires c).consumer).cycle b) (sym (taken-at c known))
        ∙ ap (λ n. and_one n (is_set marking.taken c)) (sym (cycle-at (wire_at net.wires c).consumer))
        ∙ ap (λ m. and_one (value_at marking.cycles m) (is_set marking.taken c)) (sym (has.link c known).consumer)

    -- a queue is as long as the counts say
    pub held-is : (flow : Flow) → Kept flow net → (c : ℕ) → c < length net.wires → held layout marking c ≡ length (queue_at net.queues c)
    held-is flow kept c known = omega (arith, (kept.channels c known).held, entered-are c known, takes-are c known)

    pub machine-count : length layout.turns ≡ length net.machines
    machine-count = has.machines ∙ length-map net.machines kind_of

-- The newest token of a queue is the last one that has entered of its channel's list.
pub newest-is : (flow : Flow) (net : Network) (c : ℕ) → Kept flow net → c < length net.wires → 0 < length (queue_at net.queues c)
    → value_at (queue_at net.queues c) (length (queue_at net.queues c) - 1) ≡ value_at (list_at flow.lists c) (network.entered net c - 1)
newest-is flow net c kept known some =
    let between : BetweenAt (list_at flow.lists c) (wire_at net.wires c).capacity (network.takes net c) (network.entered net c) (queue_at net.queues c) = kept.channels c known in
    between.tokens (length (queue_at net.queues c) - 1) (omega (arith, some)) ∙ ap (value_at (list_at flow.lists c)) (omega (arith, some, between.held))
