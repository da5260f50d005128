-- The channels that a plan lists at its machines are connected there in the network.
use Rattle.std.proofs.Common.{◌≡◌, ℕ, ◌<◌, List, length, sym, ◌∙◌, ap, eq-eqb, true-eqb, arith}
use Rattle.std.specs.Prelude.{◌==◌, Contains}
use Rattle.std.proofs.lemmas.List.Elements.{Contains-get_or}
use Rattle.gg_flat.specs.Line.{value_at}
use Rattle.gg_cut_plan.specs.declared.plan.Plan.{Plan}
use Rattle.gg_cut_plan.specs.declared.wires.Wire.{Wire as Link}
use Rattle.gg_cut_plan.specs.Plan.{wire_at as link_at, channels_to, channels_from}
use Rattle.gg_net.specs.Network.{IsAtIn, IsAtOut}
use Rattle.gg_build.specs.plan.Built.{place_in, wires_of_plan}
use Rattle.gg_build.proofs.PlanLemmas.NumberLemmas.{IsPlaced, placed, place-back, numbers-once, number-in, number-cases}
use Rattle.gg_build.proofs.PlanLemmas.LinkLemmas.{AreLinks, linked, length-wires}

-- ---- the links at a machine

module _ (links : List Link) (m : ℕ) where
  -- a link that a machine takes
  pub record IsTakenBy (c : ℕ) : Type 0 where
    pub known : c < length links
    pub consumer : (link_at links c).consumer ≡ m

  -- a link that a machine gives
  pub record IsGivenBy (c : ℕ) : Type 0 where
    pub known : c < length links
    pub producer : (link_at links c).producer ≡ m

  pub taken-in : (c : ℕ) → IsTakenBy c → Contains (channels_to links m) c
  taken-in c is = number-in (λ k. (link_at links k).consumer == m) (length links) c is.known (eq-eqb (link_at links c).consumer m is.consumer)

  pub given-in : (c : ℕ) → IsGivenBy c → Contains (channels_from links m) c
  given-in c is = number-in (λ k. (link_at links k).producer == m) (length links) c is.known (eq-eqb (link_at links c).producer m is.producer)

  pub taken-is : (c : ℕ) → Contains (channels_to links m) c → IsTakenBy c
  taken-is c has =
      let at = number-cases (λ k. (link_at links k).consumer == m) (length links) c has in
      record { known = at.below; consumer = true-eqb (link_at links c).consumer m (sym at.passes) }

  pub given-is : (c : ℕ) → Contains (channels_from links m) c → IsGivenBy c
  given-is c has =
      let at = number-cases (λ k. (link_at links k).producer == m) (length links) c has in
      record { known = at.below; producer = true-eqb (link_at links c).producer m (sym at.passes) }

  pub taken-at : (i : ℕ) → i < length (channels_to links m) → IsTakenBy (value_at (channels_to links m) i)
  taken-at i lt = taken-is (value_at (channels_to links m) i) (Contains-get_or (channels_to links m) i 0 lt)

  pub given-at : (o : ℕ) → o < length (channels_from links m) → IsGivenBy (value_at (channels_from links m) o)
  given-at o lt = given-is (value_at (channels_from links m) o) (Contains-get_or (channels_from links m) o 0 lt)

  pub taken-placed : (c : ℕ) → IsTakenBy c → IsPlaced (channels_to links m) c
  taken-placed c is = placed (channels_to links m) c (taken-in c is)

  pub given-placed : (c : ℕ) → IsGivenBy c → IsPlaced (channels_from links m) c
  given-placed c is = placed (channels_from links m) c (given-in c is)

-- ---- in the network

module _ (token : ℕ → ℕ) (plan : Plan) (links : List Link) (are : AreLinks plan links) where
  pub at-in : (m i : ℕ) → i < length (channels_to links m) → IsAtIn (wires_of_plan token plan) m i (value_at (channels_to links m) i)
  at-in m i lt =
      let c = value_at (channels_to links m) i in
      let taken = taken-at links m i lt in
      let link = linked token plan links are c taken.known in
      record {
        known = omega (arith, taken.known, length-wires token plan links are);
        machine = link.consumer ∙ taken.consumer;
        place = link.place ∙ ap (λ p. place_in (channels_to links p) c) taken.consumer ∙ place-back (channels_to links m) i (numbers-once (λ k. (link_at links k).consumer == m) (length links)) lt;
      }

  pub at-out : (m o : ℕ) → o < length (channels_from links m) → IsAtOut (wires_of_plan token plan) m o (value_at (channels_from links m) o)
  at-out m o lt =
      let c = value_at (channels_from links m) o in
      let given = given-at links m o lt in
      let link = linked token plan links are c given.known in
      record {
        known = omega (arith, given.known, length-wires token plan links are);
        machine = link.producer ∙ given.producer;
        out = link.out ∙ ap (λ p. place_in (channels_from links p) c) given.producer ∙ place-back (channels_from links m) o (numbers-once (λ k. (link_at links k).producer == m) (length links)) lt;
      }
