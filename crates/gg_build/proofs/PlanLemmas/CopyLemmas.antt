-- The signal of a routed channel is computed from the signal by which the channel is given: it is that signal, or reads it along a chain
-- of copies.
use Rattle.std.proofs.Common.{◌≡◌, ℕ, zero, suc, List, ◌∷◌, Option, None, Some, length, not, get_or, refl, sym, subst, arith}
use Rattle.std.specs.Prelude.{All, filter}
use Rattle.std.proofs.lemmas.List.Elements.{All-filter, All-map}
use Rattle.gg_flat.specs.Reads.{Reaches}
use Rattle.gg_flat.specs.Order.{IsOrder}
use Rattle.gg_order.proofs.NeedsLemmas.ReachLemmas.{Reaches-itself}
use Rattle.gg_cut_plan.specs.declared.wires.Wire.{Wire as Link}
use Rattle.gg_cut_plan.specs.Direct.{Hub, copied, origin_within, is_gone, direct_of, route, route_by, routes}
use Rattle.gg_cut_plan.proofs.OriginLemmas.{some-clash, Chain, Here, Copy, chain}
use Rattle.gg_cut_plan.proofs.DirectLemmas.{direct-is}
use Rattle.gg_cut_plan.proofs.SameLemmas.{copied-known}
use Rattle.gg_cut_routes.proofs.WholeLemmas.{copy-reads}

module _ (hub : Hub) (order : List ℕ) (ordered : IsOrder hub.circuit order) where
  -- a copy reaches what the copied signal reaches
  copy-reaches : (s t x : ℕ) → copied hub.circuit s ≡ Some t → Reaches hub.circuit t x → Reaches hub.circuit s x
  copy-reaches s t x to rest = record { path = t ∷ rest.path; reads = (copy-reads hub order ordered s t (copied-known hub.circuit s t to) to, rest.reads) }

  -- an in-channel or a copy reaches its origin
  chain-reaches : (n s x : ℕ) → origin_within hub n s ≡ Some x → Reaches hub.circuit s x
  chain-reaches zero s x e = absurd (some-clash x None e refl)
  chain-reaches (suc n) s x e = by (chain hub (suc n) s x e) (λ t h. chain-reaches n t x h)
    where
      by : Chain hub (suc n) s x → ((t : ℕ) → origin_within hub n t ≡ Some x → Reaches hub.circuit t x) → Reaches hub.circuit s x
      by (Here more same taken plain is) rest = subst (Reaches hub.circuit s) is (Reaches-itself hub.circuit s)
      by (Copy more t same taken own to h) rest =
          let less : more ≡ n = omega (arith, same) in
          copy-reaches s t x to (rest t (subst (λ k. origin_within hub k t ≡ Some x) less h))

  route-reaches : (w : Link) → w.given ≡ w.signal → (o : Option ℕ) → direct_of hub w ≡ o → Reaches hub.circuit (route_by hub w o).signal (route_by hub w o).given
  route-reaches w plain None e = subst (Reaches hub.circuit w.signal) (sym plain) (Reaches-itself hub.circuit w.signal)
  route-reaches w plain (Some x) e =
      let d = direct-is hub w x e in
      copy-reaches w.signal d.next x d.is (chain-reaches (length hub.circuit.signals) d.next x d.from)

  pub routes-reach : All (λ (w : Link). w.given ≡ w.signal) hub.base → All (λ (r : Link). Reaches hub.circuit r.signal r.given) (routes hub)
  routes-reach plain =
      All-map (λ (r : Link). Reaches hub.circuit r.signal r.given) (route hub) (filter (λ (w : Link). not (is_gone hub w.signal)) hub.base)
      (All-filter (λ (w : Link). not (is_gone hub w.signal)) (λ w. Reaches hub.circuit (route hub w).signal (route hub w).given) hub.base
      (λ k d lt. route-reaches (get_or hub.base k d) (plain k d lt) (direct_of hub (get_or hub.base k d)) refl))
