-- The channels of the network of a plan.
use Rattle.std.proofs.Common.{◌≡◌, ℕ, ◌+◌, ◌^◌, ◌<◌, ◌≤◌, List, [], Bool, true, false, None, Some, length, map, get_or, refl, sym, ap, subst, ◌∙◌, arith}
use Rattle.std.specs.Prelude.{All, Contains, Option, ◌==◌}
use Rattle.std.proofs.lemmas.List.{get_or-map, length-map, get_or_default, ext_get_or}
use Rattle.gg_flat.specs.Line.{value_at}
use Rattle.gg_flat.proofs.ListLemmas.{some-item}
use Rattle.gg_cut_plan.specs.declared.plan.Plan.{Plan}
use Rattle.gg_cut_plan.specs.declared.plan.Machine as planned
use Rattle.gg_cut_plan.specs.declared.plan.Channel.{Channel}
use Rattle.gg_cut_plan.specs.declared.wires.Wire.{Wire as Link}
use Rattle.gg_cut_plan.specs.Direct.{plan_wires}
use Rattle.gg_cut_plan.specs.Plan.{wire_at as link_at, channels_to, channels_from}
use Rattle.gg_cut_plan.proofs.RangeLemmas.{filter-few}
use Rattle.gg_cut_split.proofs.ClosedLemmas.FaultlessLemmas.{faultless-few}
use Rattle.gg_cut_reference.proofs.WholeLemmas.PlanLemmas.{faultless as no-fault}
use Rattle.gg_net.specs.declared.shape.Wire.{Wire}
use Rattle.gg_net.specs.Network.{wire_at}
use Rattle.gg_build.specs.plan.Built.{nameless, first_token, wire_of, wires_of_plan}
use Rattle.gg_build.proofs.PlanLemmas.LinkLemmas.{AreLinks, length-from, wire-from}
use Rattle.gg_build.proofs.PlanLemmas.ListedLemmas.{given-at, given-in, taken-at, taken-in, at-in, at-out}
use Rattle.gg_build.proofs.PlanLemmas.GivenLemmas.{links-of}
use Rattle.gg_build.specs.inside.Begin.{AreTokens}
use Rattle.gg_build.specs.inside.Build.{IsFaultless}
use Rattle.gg_build.specs.inside.Wires.{channels_at, IsPlace, AreListed, ArePlaces, AreWires}

-- the outs of a plan's machines
abbrev pub outs_of : List planned.Machine → List (List ℕ)
outs_of machines = map (λ (machine : planned.Machine). machine.outs) machines

-- the ins of a plan's machines
abbrev pub ins_of : List planned.Machine → List (List ℕ)
ins_of machines = map (λ (machine : planned.Machine). machine.ins) machines

module _ (plan : Plan) (links : List Link) (are : AreLinks plan links) where
  outs-at : (m : ℕ) → m < length plan.machines → channels_at (outs_of plan.machines) m ≡ channels_from links m
  outs-at m lt = get_or-map (λ (machine : planned.Machine). machine.outs) plan.machines m nameless [] lt ∙ are.outs m lt

  ins-at : (m : ℕ) → m < length plan.machines → channels_at (ins_of plan.machines) m ≡ channels_to links m
  ins-at m lt = get_or-map (λ (machine : planned.Machine). machine.ins) plan.machines m nameless [] lt ∙ are.ins m lt

  outs-few : (m : ℕ) → m < length (outs_of plan.machines) → m < length plan.machines
  outs-few m lt = omega (arith, lt, length-map plan.machines (λ (machine : planned.Machine). machine.outs))

  ins-few : (m : ℕ) → m < length (ins_of plan.machines) → m < length plan.machines
  ins-few m lt = omega (arith, lt, length-map plan.machines (λ (machine : planned.Machine). machine.ins))

  -- ---- what machines list

  pub listed-outs : length links < 2 ^ 32 → AreListed (outs_of plan.machines) (length plan.channels)
  listed-outs few =
      record {
        few = λ m lt. subst (λ (l : List ℕ). length l ≤ 2 ^ 32) (sym (outs-at m (outs-few m lt))) (omega (arith, few, filter-few (λ c. (link_at links c).producer == m) 0 (length links)));
        known = λ m lt. subst (All (λ c. c < length plan.channels)) (sym (outs-at m (outs-few m lt)))
            (λ i d low. omega (arith, get_or_default (channels_from links m) i d 0 low, (given-at links m i low).known, are.count));
        listed = λ c lt.
            let known : c < length links = omega (arith, lt, are.count) in
            let m = (link_at links c).producer in
            let there = (are.ends c known).0 in (
              m,
              omega (arith, there, length-map plan.machines (λ (machine : planned.Machine). machine.outs)),
              subst (λ (l : List ℕ). Contains l c) (sym (outs-at m there)) (given-in links m c (record { known = known; producer = refl })),
            );
      }

  pub listed-ins : length links < 2 ^ 32 → AreListed (ins_of plan.machines) (length plan.channels)
  listed-ins few =
      record {
        few = λ m lt. subst (λ (l : List ℕ). length l ≤ 2 ^ 32) (sym (ins-at m (ins-few m lt))) (omega (arith, few, filter-few (λ c. (link_at links c).consumer == m) 0 (length links)));
        known = λ m lt. subst (All (λ c. c < length plan.channels)) (sym (ins-at m (ins-few m lt)))
            (λ i d low. omega (arith, get_or_default (channels_to links m) i d 0 low, (taken-at links m i low).known, are.count));
        listed = λ c lt.
            let known : c < length links = omega (arith, lt, are.count) in
            let m = (link_at links c).consumer in
            let there = (are.ends c known).1 in (
              m,
              omega (arith, there, length-map plan.machines (λ (machine : planned.Machine). machine.ins)),
              subst (λ (l : List ℕ). Contains l c) (sym (ins-at m there)) (taken-in links m c (record { known = known; consumer = refl })),
            );
      }

  -- ---- places

  module _ (token : ℕ → ℕ) where
    out-is : (c p : ℕ) → IsPlace (outs_of plan.machines) c p → (wire_at (wires_of_plan token plan) c).out ≡ p
    out-is c p at =
        let m = at.at_machine in
        let same = outs-at m (outs-few m at.there) in
        let here : value_at (channels_from links m) p ≡ c = ap (λ l. value_at l p) (sym same) ∙ at.place.is in
        let known : p < length (channels_from links m) = omega (arith, at.place.known, ap length same) in
        subst (λ d. (wire_at (wires_of_plan token plan) d).out ≡ p) here (at-out token plan links are m p known).out

    place-is : (c p : ℕ) → IsPlace (ins_of plan.machines) c p → (wire_at (wires_of_plan token plan) c).place ≡ p
    place-is c p at =
        let m = at.at_machine in
        let same = ins-at m (ins-few m at.there) in
        let here : value_at (channels_to links m) p ≡ c = ap (λ l. value_at l p) (sym same) ∙ at.place.is in
        let known : p < length (channels_to links m) = omega (arith, at.place.known, ap length same) in
        subst (λ d. (wire_at (wires_of_plan token plan) d).place ≡ p) here (at-in token plan links are m p known).place

    -- ---- the network's channels

    abbrev at_places : Channel → ℕ → ℕ → Option ℕ → Wire
    at_places channel o i first = record { producer = channel.producer; out = o; consumer = channel.consumer; place = i; capacity = channel.capacity; first = first }

    module _ (outs ins tokens : List ℕ) (wires : List Wire) (placed_outs : ArePlaces (outs_of plan.machines) (length plan.channels) outs) (placed_ins : ArePlaces (ins_of plan.machines) (length plan.channels) ins) (at : AreWires plan.channels outs ins tokens (length plan.channels) wires) (have : AreTokens plan.channels token tokens) where
      wire-is : (c : ℕ) → c < length plan.channels → wire_at wires c ≡ wire_at (wires_of_plan token plan) c
      wire-is c lt =
          let any = some-item plan.channels c lt in
          let channel = get_or plan.channels c any in
          let is : wire_at (wires_of_plan token plan) c ≡ wire_of token plan c channel = wire-from token plan 0 plan.channels c any lt ∙ ap (λ k. wire_of token plan k channel) (let same : 0 + c ≡ c = omega arith in same) in
          let out : value_at outs c ≡ (wire_of token plan c channel).out = sym (out-is c (value_at outs c) (placed_outs.each c lt)) ∙ ap (λ (w : Wire). w.out) is in
          let place : value_at ins c ≡ (wire_of token plan c channel).place = sym (place-is c (value_at ins c) (placed_ins.each c lt)) ∙ ap (λ (w : Wire). w.place) is in
          at.each c any lt
          ∙ ap (λ o. at_places channel o (value_at ins c) (first_token channel.pipe (value_at tokens c))) out
          ∙ ap (λ i. at_places channel (wire_of token plan c channel).out i (first_token channel.pipe (value_at tokens c))) place
          ∙ ap (at_places channel (wire_of token plan c channel).out (wire_of token plan c channel).place) (first-is channel.pipe (have c any lt))
          ∙ sym is
        where
          first-is : {x y : ℕ} (pipe : Bool) → (pipe ≡ true → x ≡ y) → first_token pipe x ≡ first_token pipe y
          first-is true same = ap (λ (t : ℕ). Some t) (same refl)
          first-is false same = refl

      pub wires-are : wires ≡ wires_of_plan token plan
      wires-are =
          ext_get_or (record { producer = 0; out = 0; consumer = 0; place = 0; capacity = 0; first = None }) wires (wires_of_plan token plan) (at.total ∙ sym (length-from token plan 0 plan.channels))
          (λ c lt. wire-is c (omega (arith, lt, at.total)))

-- ---- the links of a request without a fault

pub links-in : (plan : Plan) (is : IsFaultless plan) → AreLinks plan (plan_wires is.design.circuit is.design.tree is.request)
links-in plan is = links-of is.design is.request is.models is.can is.default plan is.some is.planned

pub few-links : (plan : Plan) (is : IsFaultless plan) → length (plan_wires is.design.circuit is.design.tree is.request) < 2 ^ 32
few-links plan is = let most = (faultless-few is.design is.request (no-fault is.design is.request is.models is.can)).channels in omega (arith, most)
