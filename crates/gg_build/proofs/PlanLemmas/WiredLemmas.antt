-- The network of a plan is wired if its machines have as many ins and outs as the plan lists channels for them.
use Rattle.std.proofs.Common.{◌≡◌, ℕ, ◌<◌, List, length, sym, ◌∙◌, ap, refl, subst, arith}
use Rattle.std.specs.Prelude.{Contains, All}
use Rattle.gg_flat.specs.Line.{value_at}
use Rattle.gg_cut_plan.specs.declared.plan.Plan.{Plan}
use Rattle.gg_cut_plan.specs.declared.wires.Wire.{Wire as Link}
use Rattle.gg_cut_plan.specs.Plan.{wire_at as link_at, channels_to, channels_from}
use Rattle.gg_node.specs.Machine.{needs_at}
use Rattle.gg_node.specs.Step.{fields_of}
use Rattle.gg_net.specs.Network.{wire_at, Kind, kind_at}
use Rattle.gg_net.specs.Kept.{IsWired}
use Rattle.gg_build.specs.plan.Built.{wires_of_plan}
use Rattle.gg_build.proofs.PlanLemmas.LinkLemmas.{AreLinks, linked, length-wires}
use Rattle.gg_build.proofs.PlanLemmas.WireLemmas.{joints-in-order, outs-in-order}
use Rattle.gg_build.proofs.PlanLemmas.ListedLemmas.{taken-placed, given-placed, at-in, at-out}

-- A machine of this kind has an in for each channel that machine m of the plan takes, and an out for each that it gives. The ins
-- that its outs need and its ports look at exist, and the ports that it serves are among its ports.
pub record IsFitting (links : List Link) (m : ℕ) (kind : Kind) : Type 0 where
  pub ins : kind.ins ≡ length (channels_to links m)
  pub outs : kind.outs ≡ length (channels_from links m)
  pub needs : (o i : ℕ) → Contains (needs_at kind.needs o) i → i < kind.ins
  pub fields : All (λ port. All (λ i. i < kind.ins) (fields_of port.access)) kind.ports
  pub numbers : All (λ port. port.number < kind.port_count) kind.ports

-- there are `count` kinds, and each is right for the machine with its number
pub record AreFitting (links : List Link) (count : ℕ) (kinds : List Kind) : Type 0 where
  pub total : length kinds ≡ count
  pub each : (m : ℕ) → m < count → IsFitting links m (kind_at kinds m)

module _ (token : ℕ → ℕ) (plan : Plan) (links : List Link) (kinds : List Kind) (end : ℕ) (are : AreLinks plan links) (fit : AreFitting links (length plan.machines) kinds) where
  -- a channel is connected at an in and an out that exist
  record IsFast (c : ℕ) : Type 0 where
    some : 0 < (wire_at (wires_of_plan token plan) c).capacity
    giver : (wire_at (wires_of_plan token plan) c).producer < length kinds
    out : (wire_at (wires_of_plan token plan) c).out < (kind_at kinds (wire_at (wires_of_plan token plan) c).producer).outs
    taker : (wire_at (wires_of_plan token plan) c).consumer < length kinds
    place : (wire_at (wires_of_plan token plan) c).place < (kind_at kinds (wire_at (wires_of_plan token plan) c).consumer).ins
    gives : value_at (channels_from links (wire_at (wires_of_plan token plan) c).producer) (wire_at (wires_of_plan token plan) c).out ≡ c
    takes : value_at (channels_to links (wire_at (wires_of_plan token plan) c).consumer) (wire_at (wires_of_plan token plan) c).place ≡ c

  fast : (c : ℕ) → c < length (wires_of_plan token plan) → IsFast c
  fast c lt =
      let known : c < length links = omega (arith, lt, length-wires token plan links are) in
      let link = linked token plan links are c known in
      let ends = are.ends c known in
      let p = (link_at links c).producer in
      let q = (link_at links c).consumer in
      let given = given-placed links p c (record { known = known; producer = refl }) in
      let taken = taken-placed links q c (record { known = known; consumer = refl }) in
      let outs = (fit.each p ends.0).outs in
      let ins = (fit.each q ends.1).ins in
      record {
        some = link.some;
        giver = (let there = ends.0 in omega (arith, link.producer, there, fit.total));
        out = subst (λ a. (wire_at (wires_of_plan token plan) c).out < (kind_at kinds a).outs) (sym link.producer) (omega (arith, link.out, given.within, outs));
        taker = (let there = ends.1 in omega (arith, link.consumer, there, fit.total));
        place = subst (λ a. (wire_at (wires_of_plan token plan) c).place < (kind_at kinds a).ins) (sym link.consumer) (omega (arith, link.place, taken.within, ins));
        gives = ap (λ a. value_at (channels_from links a) (wire_at (wires_of_plan token plan) c).out) link.producer ∙ ap (value_at (channels_from links p)) link.out ∙ given.is;
        takes = ap (λ a. value_at (channels_to links a) (wire_at (wires_of_plan token plan) c).place) link.consumer ∙ ap (value_at (channels_to links q)) link.place ∙ taken.is;
      }

  known-kind : (m : ℕ) → m < length kinds → m < length plan.machines
  known-kind m lt = omega (arith, lt, fit.total)

  pub wired : IsWired (record { kinds = kinds; wires = wires_of_plan token plan; end = end })
  wired =
      record {
        some = λ c lt. (fast c lt).some;
        producer = λ c lt. (fast c lt).giver;
        out = λ c lt. (fast c lt).out;
        consumer = λ c lt. (fast c lt).taker;
        place = λ c lt. (fast c lt).place;
        into = λ m i low lt.
            let ins = (fit.each m (known-kind m low)).ins in
            (value_at (channels_to links m) i, at-in token plan links are m i (omega (arith, lt, ins)));
        from = λ m o low lt.
            let outs = (fit.each m (known-kind m low)).outs in
            (value_at (channels_from links m) o, at-out token plan links are m o (omega (arith, lt, outs)));
        order = record { ins = joints-in-order token plan links are; outs = outs-in-order token plan links are };
        needs = λ m o i low has. (fit.each m (known-kind m low)).needs o i has;
        fields = λ m low. (fit.each m (known-kind m low)).fields;
        numbers = λ m low. (fit.each m (known-kind m low)).numbers;
      }
