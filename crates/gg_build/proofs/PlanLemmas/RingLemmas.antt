-- The network of a plan has no ring.
use Rattle.std.proofs.Common.{◌≡◌, ◌≢◌, ℕ, ◌<◌, List, length, map, refl, sym, ◌∙◌, ap, subst, inl, inr, ◌⊎◌, arith}
use Rattle.std.specs.Prelude.{All, Contains}
use Rattle.std.proofs.lemmas.List.{get_or-map}
use Rattle.gg_flat.specs.Line.{value_at}
use Rattle.gg_flat.specs.Circuit.{FlatCircuit}
use Rattle.gg_flat.specs.Reads.{Reaches}
use Rattle.gg_flat.specs.Order.{IsOrder}
use Rattle.gg_cut_plan.specs.declared.plan.Plan.{Plan}
use Rattle.gg_cut_plan.specs.declared.wires.Wire.{Wire as Link}
use Rattle.gg_cut_plan.specs.Channels.{wire}
use Rattle.gg_cut_plan.specs.Plan.{wire_at as link_at, channels_to, channels_from, signals_of, givens_of}
use Rattle.gg_node.specs.Machine.{needs_at}
use Rattle.gg_net.specs.Network.{wire_at, Kind, kind_at}
use Rattle.gg_net.specs.Kept.{NeedsChannel, HasNoRing}
use Rattle.gg_build.specs.plan.Built.{place_in, wires_of_plan}
use Rattle.gg_build.proofs.PlanLemmas.LinkLemmas.{AreLinks, linked, length-wires}
use Rattle.gg_build.proofs.PlanLemmas.ListedLemmas.{taken-placed, given-placed}
use Rattle.gg_build.proofs.PlanLemmas.RankLemmas.{reach-lower}
use Rattle.gg_build.proofs.PlanLemmas.NeedLemmas.{HasNeeds}

module _ (token : ℕ → ℕ) (plan : Plan) (links : List Link) (kinds : List Kind) (end : ℕ) (circuit : FlatCircuit) (order : List ℕ) (ordered : IsOrder circuit order) (are : AreLinks plan links) (reached : All (λ (w : Link). Reaches circuit w.signal w.given) links)
    (needs : (m : ℕ) → m < length plan.machines → HasNeeds circuit links m (kind_at kinds m)) where
  -- the place in the order of the signal by which each link is given
  abbrev ranks : List ℕ
  ranks = map (λ (w : Link). place_in order w.given) links

  rank-at : (c : ℕ) → c < length links → value_at ranks c ≡ place_in order (link_at links c).given
  rank-at c lt = get_or-map (λ (w : Link). place_in order w.given) links c (wire 0 0 0) 0 lt

  -- a link that another needs carries a signal that is reached by the signal by which the other is given
  record IsBehind (c d : ℕ) : Type 0 where
    giver : c < length links
    taker : d < length links
    joined : (link_at links d).consumer ≡ (link_at links c).producer
    behind : Reaches circuit (link_at links c).given (link_at links d).signal
    apart : (link_at links c).given ≢ (link_at links d).signal

  behind : (c d : ℕ) → NeedsChannel (record { kinds = kinds; wires = wires_of_plan token plan; end = end }) c d → IsBehind c d
  behind c d need =
      let lc : c < length links = omega (arith, need.known, length-wires token plan links are) in
      let ld : d < length links = omega (arith, need.at.known, length-wires token plan links are) in
      let from = linked token plan links are c lc in
      let into = linked token plan links are d ld in
      let p = (link_at links c).producer in
      let joined : (link_at links d).consumer ≡ p = sym into.consumer ∙ need.at.machine ∙ from.producer in
      let given = given-placed links p c (record { known = lc; producer = refl }) in
      let taken = taken-placed links p d (record { known = ld; consumer = joined }) in
      let place : need.place ≡ place_in (channels_to links p) d = sym need.at.place ∙ into.place ∙ ap (λ m. place_in (channels_to links m) d) joined in
      let o = place_in (channels_from links p) c in
      let i = place_in (channels_to links p) d in
      let needed = subst (λ k. Contains (needs_at (kind_at kinds p).needs o) k) place
      (subst (λ k. Contains (needs_at (kind_at kinds p).needs k) need.place) from.out
      (subst (λ m. Contains (needs_at (kind_at kinds m).needs (wire_at (wires_of_plan token plan) c).out) need.place) from.producer need.needed)) in
      let to = (needs p (are.ends c lc).0).reach o i needed in
      let out : value_at (givens_of links (channels_from links p)) o ≡ (link_at links c).given = get_or-map (λ k. (link_at links k).given) (channels_from links p) o 0 0 given.within ∙ ap (λ k. (link_at links k).given) given.is in
      let in_signal : value_at (signals_of links (channels_to links p)) i ≡ (link_at links d).signal = get_or-map (λ k. (link_at links k).signal) (channels_to links p) i 0 0 taken.within ∙ ap (λ k. (link_at links k).signal) taken.is in
      record {
        giver = lc;
        taker = ld;
        joined = joined;
        behind = subst (λ (s : ℕ). Reaches circuit s (link_at links d).signal) out (subst (λ (s : ℕ). Reaches circuit (value_at (givens_of links (channels_from links p)) o) s) in_signal to);
        apart = λ same. (needs p (are.ends c lc).0).apart o i needed (out ∙ same ∙ sym in_signal);
      }

  lower : (c d : ℕ) → NeedsChannel (record { kinds = kinds; wires = wires_of_plan token plan; end = end }) c d → value_at ranks d < value_at ranks c
  lower c d need = by is (reach-lower circuit order ordered (link_at links c).given (link_at links d).signal is.behind) (reach-lower circuit order ordered (link_at links d).signal (link_at links d).given (reached d (wire 0 0 0) is.taker))
    where
      is : IsBehind c d
      is = behind c d need

      by : IsBehind c d → ((link_at links c).given ≡ (link_at links d).signal) ⊎ (place_in order (link_at links d).signal < place_in order (link_at links c).given) → ((link_at links d).signal ≡ (link_at links d).given) ⊎ (place_in order (link_at links d).given < place_in order (link_at links d).signal) → value_at ranks d < value_at ranks c
      by b (inl same) copy = absurd (b.apart same)
      by b (inr less) (inl same) = omega (arith, less, ap (place_in order) same, rank-at c b.giver, rank-at d b.taker)
      by b (inr less) (inr copy) = omega (arith, less, copy, rank-at c b.giver, rank-at d b.taker)

  pub no-ring : HasNoRing (record { kinds = kinds; wires = wires_of_plan token plan; end = end })
  no-ring = record { ranks = ranks; lower = lower }
