-- The channels of a plan and those of its network.
use Rattle.std.proofs.Common.{◌≡◌, ℕ, zero, suc, ◌+◌, ◌<◌, List, [], ◌∷◌, length, get_or, refl, sym, ◌∙◌, ap, subst, arith}
use Rattle.std.proofs.lemmas.List.{get_or_default}
use Rattle.gg_cut_plan.specs.declared.plan.Channel.{Channel}
use Rattle.gg_cut_plan.specs.declared.plan.Plan.{Plan}
use Rattle.gg_cut_plan.specs.declared.wires.Wire.{Wire as Link}
use Rattle.gg_cut_plan.specs.Plan.{wire_at as link_at, channels_to, channels_from}
use Rattle.gg_net.specs.declared.shape.Wire.{Wire}
use Rattle.gg_net.specs.Network.{wire_at}
use Rattle.gg_flat.proofs.ListLemmas.{some-item}
use Rattle.gg_build.specs.plan.Built.{machine_in, place_in, first_token, wire_of, wires_from, wires_of_plan}

-- The channels of a plan are these links, whose ends are machines of the plan, and which its machines list. Each may
-- hold a token.
pub record AreLinks (plan : Plan) (links : List Link) : Type 0 where
  pub count : length plan.channels ≡ length links
  pub producer : (c : ℕ) (any : Channel) → c < length plan.channels → (get_or plan.channels c any).producer ≡ (link_at links c).producer
  pub consumer : (c : ℕ) (any : Channel) → c < length plan.channels → (get_or plan.channels c any).consumer ≡ (link_at links c).consumer
  pub some : (c : ℕ) (any : Channel) → c < length plan.channels → 0 < (get_or plan.channels c any).capacity
  pub ins : (m : ℕ) → m < length plan.machines → (machine_in plan m).ins ≡ channels_to links m
  pub outs : (m : ℕ) → m < length plan.machines → (machine_in plan m).outs ≡ channels_from links m
  pub ends : (c : ℕ) → c < length links → ((link_at links c).producer < length plan.machines) × ((link_at links c).consumer < length plan.machines)

-- ---- the network's channels by number

pub length-from : (token : ℕ → ℕ) (plan : Plan) (a : ℕ) (channels : List Channel) → length (wires_from token plan a channels) ≡ length channels
length-from token plan a [] = refl
length-from token plan a (channel ∷ channels) = ap suc (length-from token plan (suc a) channels)

pub wire-from : (token : ℕ → ℕ) (plan : Plan) (a : ℕ) (channels : List Channel) (c : ℕ) (any : Channel) → c < length channels → wire_at (wires_from token plan a channels) c ≡ wire_of token plan (a + c) (get_or channels c any)
wire-from token plan a [] c any lt = absurd (omega (arith, lt))
wire-from token plan a (channel ∷ channels) zero any lt = ap (λ k. wire_of token plan k channel) (let same : a ≡ a + 0 = omega arith in same)
wire-from token plan a (channel ∷ channels) (suc c) any lt =
    wire-from token plan (suc a) channels c any (omega (arith, lt)) ∙ ap (λ k. wire_of token plan k (get_or channels c any)) (let same : suc a + c ≡ a + suc c = omega arith in same)

-- A channel of the network leads where its link does, and stands at the places at which the link's machines list it.
-- It may hold a token, and opens with one if the plan's channel has a pipe.
pub record IsLinkedAs (token : ℕ → ℕ) (plan : Plan) (links : List Link) (c : ℕ) : Type 0 where
  pub producer : (wire_at (wires_of_plan token plan) c).producer ≡ (link_at links c).producer
  pub out : (wire_at (wires_of_plan token plan) c).out ≡ place_in (channels_from links (link_at links c).producer) c
  pub consumer : (wire_at (wires_of_plan token plan) c).consumer ≡ (link_at links c).consumer
  pub place : (wire_at (wires_of_plan token plan) c).place ≡ place_in (channels_to links (link_at links c).consumer) c
  pub some : 0 < (wire_at (wires_of_plan token plan) c).capacity
  pub first : (any : Channel) → c < length plan.channels → (wire_at (wires_of_plan token plan) c).first ≡ first_token (get_or plan.channels c any).pipe (token (get_or plan.channels c any).signal)

module _ (token : ℕ → ℕ) (plan : Plan) (links : List Link) (are : AreLinks plan links) where
  pub length-wires : length (wires_of_plan token plan) ≡ length links
  length-wires = length-from token plan 0 plan.channels ∙ are.count

  pub linked : (c : ℕ) → c < length links → IsLinkedAs token plan links c
  linked c lt =
      let known : c < length plan.channels = omega (arith, lt, are.count) in
      let any = some-item plan.channels c known in
      let channel = get_or plan.channels c any in
      let is : wire_at (wires_of_plan token plan) c ≡ wire_of token plan c channel = wire-from token plan 0 plan.channels c any known ∙ ap (λ k. wire_of token plan k channel) (let same : 0 + c ≡ c = omega arith in same) in
      let ends = are.ends c lt in
      let gives = are.producer c any known in
      let takes = are.consumer c any known in
      record {
        producer = ap (λ w. w.producer) is ∙ gives;
        out = ap (λ w. w.out) is ∙ ap (λ p. place_in (machine_in plan p).outs c) gives ∙ ap (λ l. place_in l c) (are.outs (link_at links c).producer ends.0);
        consumer = ap (λ w. w.consumer) is ∙ takes;
        place = ap (λ w. w.place) is ∙ ap (λ p. place_in (machine_in plan p).ins c) takes ∙ ap (λ l. place_in l c) (are.ins (link_at links c).consumer ends.1);
        some = subst (λ (w : Wire). 0 < w.capacity) (sym is) (are.some c any known);
        first = λ other there.
            ap (λ w. w.first) is ∙ ap (λ (d : Channel). first_token d.pipe (token d.signal)) (get_or_default plan.channels c any other there);
      }
