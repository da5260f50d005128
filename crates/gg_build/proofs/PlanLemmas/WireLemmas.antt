-- The channels of the network of a plan: their capacities, and their places in the order of channels.
use Rattle.std.proofs.Common.{◌≡◌, ℕ, ◌<◌, List, length, get_or, refl, sym, ◌∙◌, ap, arith}
use Rattle.std.specs.Prelude.{◌==◌}
use Rattle.gg_cut_plan.specs.declared.plan.Channel.{Channel}
use Rattle.gg_cut_plan.specs.declared.plan.Plan.{Plan}
use Rattle.gg_cut_plan.specs.declared.wires.Wire.{Wire}
use Rattle.gg_cut_plan.specs.Plan.{wire_at, channels_to, channels_from}
use Rattle.gg_net.specs.Network.{wire_at as joint_at}
use Rattle.gg_build.specs.plan.Built.{place_in, wires_of_plan}
use Rattle.gg_build.proofs.PlanLemmas.LinkLemmas.{AreLinks, linked, length-wires, wire-from}
use Rattle.gg_build.proofs.PlanLemmas.ListedLemmas.{taken-in, given-in}
use Rattle.gg_flat.proofs.ListLemmas.{numbers-up}
use Rattle.gg_build.proofs.PlanLemmas.AscendingLemmas.{place-up}

-- ---- at a machine

module _ (wires : List Wire) where
  -- the channels that a machine takes are at its ins in their order
  pub places-up : (m c d : ℕ) → c < d → d < length wires → (wire_at wires c).consumer ≡ m → (wire_at wires d).consumer ≡ m → place_in (channels_to wires m) c < place_in (channels_to wires m) d
  places-up m c d lt known one other =
      place-up (channels_to wires m) c d (numbers-up (λ k. (wire_at wires k).consumer == m) (length wires))
      (taken-in wires m c (record { known = omega (arith, lt, known); consumer = one }))
      (taken-in wires m d (record { known = known; consumer = other })) lt

  pub outs-up : (m c d : ℕ) → c < d → d < length wires → (wire_at wires c).producer ≡ m → (wire_at wires d).producer ≡ m → place_in (channels_from wires m) c < place_in (channels_from wires m) d
  outs-up m c d lt known one other =
      place-up (channels_from wires m) c d (numbers-up (λ k. (wire_at wires k).producer == m) (length wires))
      (given-in wires m c (record { known = omega (arith, lt, known); producer = one }))
      (given-in wires m d (record { known = known; producer = other })) lt

-- ---- in the network

module _ (token : ℕ → ℕ) (plan : Plan) (wires : List Wire) (are : AreLinks plan wires) where
  pub joint-capacity : (c : ℕ) (any : Channel) → c < length plan.channels → (joint_at (wires_of_plan token plan) c).capacity ≡ (get_or plan.channels c any).capacity
  joint-capacity c any lt = ap (λ w. w.capacity) (wire-from token plan 0 plan.channels c any lt)

  -- the in at which a channel is connected is its place among the channels that its machine takes
  pub place-at : (m c : ℕ) → c < length wires → (wire_at wires c).consumer ≡ m → (joint_at (wires_of_plan token plan) c).place ≡ place_in (channels_to wires m) c
  place-at m c known is = (linked token plan wires are c known).place ∙ ap (λ k. place_in (channels_to wires k) c) is

  pub out-at : (m c : ℕ) → c < length wires → (wire_at wires c).producer ≡ m → (joint_at (wires_of_plan token plan) c).out ≡ place_in (channels_from wires m) c
  out-at m c known is = (linked token plan wires are c known).out ∙ ap (λ k. place_in (channels_from wires k) c) is

  pub joints-in-order : (c d : ℕ) → c < d → d < length (wires_of_plan token plan) → (joint_at (wires_of_plan token plan) c).consumer ≡ (joint_at (wires_of_plan token plan) d).consumer → (joint_at (wires_of_plan token plan) c).place < (joint_at (wires_of_plan token plan) d).place
  joints-in-order c d lt inside same =
      let high : d < length wires = omega (arith, inside, length-wires token plan wires are) in
      let low : c < length wires = omega (arith, lt, high) in
      let m = (wire_at wires d).consumer in
      let one : (wire_at wires c).consumer ≡ m = sym (linked token plan wires are c low).consumer ∙ same ∙ (linked token plan wires are d high).consumer in
      omega (arith, places-up wires m c d lt high one refl, place-at m c low one, place-at m d high refl)

  pub outs-in-order : (c d : ℕ) → c < d → d < length (wires_of_plan token plan) → (joint_at (wires_of_plan token plan) c).producer ≡ (joint_at (wires_of_plan token plan) d).producer → (joint_at (wires_of_plan token plan) c).out < (joint_at (wires_of_plan token plan) d).out
  outs-in-order c d lt inside same =
      let high : d < length wires = omega (arith, inside, length-wires token plan wires are) in
      let low : c < length wires = omega (arith, lt, high) in
      let m = (wire_at wires d).producer in
      let one : (wire_at wires c).producer ≡ m = sym (linked token plan wires are c low).producer ∙ same ∙ (linked token plan wires are d high).producer in
      omega (arith, outs-up wires m c d lt high one refl, out-at m c low one, out-at m d high refl)
