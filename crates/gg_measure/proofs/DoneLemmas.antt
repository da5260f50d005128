-- If all machines of a network stand at the end, each queue holds as many tokens as it opened with, and each tray has
-- kept the last values of its channel.
use Rattle.std.proofs.Common.{◌≡◌, ◌↔◌, ◌*◌, ℕ, ◌+◌, ◌-◌, ◌≤◌, List, Option, Some, None, Bool, true, false, length, refl, ap, subst, ◌∙◌, inl, inr, arith}
use Rattle.std.proofs.lemmas.Bool.{cases_lt}
use Rattle.gg_flat.specs.Line.{value_at}
use Rattle.gg_flat.specs.Streams.{Flow}
use Rattle.gg_node.specs.Machine.{Machine, machine_at}
use Rattle.gg_net.specs.Network as network
use Rattle.gg_net.specs.Network.{Network, wire_at, queue_at, opening_queue, frame_of, producer_of, and_one, got_by, entered_by, AllStandAt}
use Rattle.gg_net.specs.Kept.{Kept, MachineAt, BetweenAt, HasKept, Keeps, list_at}
use Rattle.gg_net.specs.Step.{latch_of, flag_of}
use Rattle.gg_net.proofs.MayLemmas.{consumer-there, producer-there}
use Rattle.gg_net.proofs.MarkingsLemmas.PutsLemmas.{puts-within}
use Rattle.gg_measure.specs.inside.Nets.{dues_at, net_left, wire_left, machine_left, AreDrained, AreLast, HaveKept}
use Rattle.gg_net.proofs.MarkingsLemmas.SumLemmas.{sum-each, sum-none}
use Rattle.gg_measure.proofs.NetLemmas.{got-within}

got-least : (cycle : ℕ) (latch : Option ℕ) → cycle ≤ got_by cycle latch
got-least cycle None = omega arith
got-least cycle (Some value) = omega arith

given-least : (cycle : ℕ) (flag : Bool) → cycle ≤ and_one cycle flag
given-least cycle false = omega arith
given-least cycle true = omega arith

-- what has entered is what was put, and what the channel opens with
entered-opens : (first : Option ℕ) (n : ℕ) → entered_by first n ≡ n + length (opening_queue first)
entered-opens None n = omega arith
entered-opens (Some token) n = omega arith

-- what a tray has kept are the last values
pub last-of : (list : List ℕ) (begin rows cycle : ℕ) (kept : List ℕ) → HasKept list begin rows cycle kept → AreLast list begin rows cycle kept
last-of list begin rows cycle kept has =
    record {
      count = elim (cases_lt (length kept) rows) [
        | inl lt ↦ omega (arith, lt, has.whole lt, has.between.held)
        | inr le ↦ omega (arith, le, has.between.room, has.between.held, has.begun)
      ];
      is = λ j lt.
          let base : has.base ≡ cycle - length kept = omega (arith, has.between.held) in
          has.between.tokens j lt ∙ ap (λ n. value_at list (n + j)) base;
    }

module _ (flow : Flow) (net : Network) (kept : Kept flow net) (end : ℕ) (same : end ≡ net.end) (all : AllStandAt end net) where
  pub all-drained : AreDrained net
  all-drained c known =
      let p : ℕ = (wire_at net.wires c).producer in
      let q : ℕ = (wire_at net.wires c).consumer in
      let between : BetweenAt (list_at flow.lists c) (wire_at net.wires c).capacity (network.takes net c) (network.entered net c) (queue_at net.queues c) = kept.channels c known in
      let there : MachineAt flow (frame_of net) q (machine_at net.machines q) = kept.machines q (consumer-there flow net kept c known) in
      let most : network.takes net c ≤ net.end = got-within (machine_at net.machines q).cycle net.end (latch_of net c) there.within (λ value is. (there.latched c value known refl is).0) in
      omega (
        arith,
        between.held,
        most,
        puts-within flow net kept c known,
        got-least (machine_at net.machines q).cycle (latch_of net c),
        given-least (machine_at net.machines p).cycle (flag_of net c),
        entered-opens (wire_at net.wires c).first (network.puts net c),
        all q (consumer-there flow net kept c known),
        all p (producer-there flow net kept c known),
        same,
      )

  pub all-kept : HaveKept flow net
  all-kept m c rows there known at is =
      let x : Machine = machine_at net.machines m in
      let machine : MachineAt flow (frame_of net) m x = kept.machines m there in
      let has : HasKept (list_at flow.lists c) flow.begin rows x.cycle x.kept = subst (λ b. Keeps b flow.begin (list_at flow.lists c) x.cycle x.kept) is (machine.kept c known at) in
      last-of (list_at flow.lists c) flow.begin rows net.end x.kept (subst (λ n. HasKept (list_at flow.lists c) flow.begin rows n x.kept) (all m there ∙ same) has)

-- ---- the measure is 0 exactly at the end

module _ (flow : Flow) (net : Network) (kept : Kept flow net) where
  at-end : net_left net ≡ 0 → AllStandAt net.end net
  at-end none m there = omega (arith, none, sum-each (machine_left net) m (length net.machines) there, (kept.machines m there).within)

  none-there : AllStandAt net.end net → net_left net ≡ 0
  none-there all =
      omega (
        arith,
        sum-none (wire_left net) (length net.wires) (λ c known.
            omega (
              arith,
              all (wire_at net.wires c).producer (producer-there flow net kept c known),
              all (wire_at net.wires c).consumer (consumer-there flow net kept c known),
              given-least (producer_of net c).cycle (flag_of net c),
              got-least (machine_at net.machines (wire_at net.wires c).consumer).cycle (latch_of net c),
            )),
        sum-none (machine_left net) (length net.machines) (λ m there. omega (arith, all m there, ap (λ n. dues_at net m * n) (all m there))),
      )

  pub none-left : (net_left net ≡ 0) ↔ AllStandAt net.end net
  none-left = (at-end, none-there)
