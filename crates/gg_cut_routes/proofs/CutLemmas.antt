-- The routed channels of a cut, by what the cut's plain channels are.
use Rattle.std.proofs.Common.{◌≡◌, ◌≢◌, ℕ, ◌+◌, ◌<◌, List, Bool, true, get_or, refl, sym, subst, ◌⊎◌, arith}
use Rattle.std.specs.Prelude.{◌↔◌, nat_le, Contains, All, AllPairs}
use Rattle.std.proofs.lemmas.Bool.{le-leb, or_right}
use Rattle.std.proofs.lemmas.List.Elements.{All-contains, Contains-get_or}
use Rattle.gg_flat.specs.Circuit.{FlatCircuit}
use Rattle.gg_flat_tree.specs.Tree.{InstanceTree, IsTree}
use Rattle.gg_flat_tree.specs.Scoped.{IsScoped}
use Rattle.gg_flat.specs.WellFormed.{IsWellFormed}
use Rattle.gg_order.specs.Design.{Ordered, IsDesign}
use Rattle.gg_part.specs.inside.Choice.{IsChoice}
use Rattle.gg_partfile.specs.declared.request.BridgeEntry.{BridgeEntry}
use Rattle.gg_cut_plan.specs.declared.wires.Wire.{Wire}
use Rattle.gg_cut_plan.specs.declared.listed.Listed.{Listed}
use Rattle.gg_cut_plan.specs.Machines.{first_source, is_memory}
use Rattle.gg_cut_plan.specs.Ports.{first_bridge, machine_end, ports_of}
use Rattle.gg_cut_plan.specs.Channels.{wires_of}
use Rattle.gg_cut_plan.specs.Plan.{channels_to, channels_from, signals_of, givens_of, Takes, HasMemory}
use Rattle.gg_cut_plan.specs.inside.Plan.{Makes}
use Rattle.gg_part.specs.KeepsToTree.{KeepsToTree}
use Rattle.gg_cut_plan.proofs.WireLemmas.{all-plain}
use Rattle.gg_cut_split.specs.inside.Apart.{AreApart, AreEnds}
use Rattle.gg_cut_split.proofs.ClosedLemmas.ChoiceLemmas.{wire-known}
use Rattle.gg_cut_plan.specs.Direct.{Hub, hub_of, route, routes}
use Rattle.gg_cut_routes.specs.inside.Routes.{AreRoutes}
use Rattle.gg_cut_routes.proofs.RouteLemmas.{IsBase, out-routes, routes-once, routes-known, no-echo, Routing, Plain, Direct, routing, route-consumer, plain-producer, direct-producer}
use Rattle.gg_cut_routes.proofs.CutChoice.{choice}
use Rattle.gg_cut_routes.proofs.SideLemmas.{source-routes, tray-routes}
use Rattle.gg_cut_routes.proofs.BridgeLemmas.{bridge-at}
use Rattle.gg_cut_plan.proofs.SameLemmas.{routes-same, kept-own}

-- the channels before, of a cut whose units lie apart
pub base-of : (circuit : FlatCircuit) (tree : InstanceTree) (listed : Listed) (piped : ℕ → Bool) (entries : List BridgeEntry) (direct : Bool) → IsWellFormed circuit → IsTree circuit tree → IsScoped circuit tree → AreApart tree listed → AllPairs (λ (v w : Wire). v.signal ≢ w.signal) (wires_of circuit tree listed entries) → All (AreEnds (machine_end (ports_of circuit tree listed entries))) (wires_of circuit tree listed entries) → IsBase (hub_of circuit tree listed piped entries direct)
base-of circuit tree listed piped entries direct formed fits scoped apart once ends =
    record {
      once = once;
      apart = λ i d lt. (ends i d lt).apart;
      known = λ i d lt. wire-known circuit tree listed entries formed fits scoped apart (get_or (wires_of circuit tree listed entries) i d) (Contains-get_or (wires_of circuit tree listed entries) i d lt);
      plain = all-plain circuit tree listed entries;
    }

module _ (design : Ordered) (listed : Listed) (piped : ℕ → Bool) (entries : List BridgeEntry) (direct : Bool) (is : IsDesign design) (keeps : KeepsToTree design.circuit design.tree) (apart : AreApart design.tree listed) (once : AllPairs (λ (v w : Wire). v.signal ≢ w.signal) (wires_of design.circuit design.tree listed entries)) (ends : All (AreEnds (machine_end (ports_of design.circuit design.tree listed entries))) (wires_of design.circuit design.tree listed entries)) where
  abbrev hub : Hub
  hub = hub_of design.circuit design.tree listed piped entries direct

  pub cut-base : IsBase (hub_of design.circuit design.tree listed piped entries direct)
  cut-base = base-of design.circuit design.tree listed piped entries direct is.formed keeps.fitting keeps.scoped apart once ends

  ends-at : (w : Wire) → Contains (wires_of design.circuit design.tree listed entries) w → AreEnds (machine_end (ports_of design.circuit design.tree listed entries)) w
  ends-at w h = All-contains (AreEnds (machine_end (ports_of design.circuit design.tree listed entries))) (wires_of design.circuit design.tree listed entries) w ends h

  route-ends : (w : Wire) → Contains (wires_of design.circuit design.tree listed entries) w → ((route hub w).producer < machine_end (ports_of design.circuit design.tree listed entries)) × ((route hub w).consumer < machine_end (ports_of design.circuit design.tree listed entries))
  route-ends w h = (by (routing hub cut-base w), subst (λ m. m < machine_end (ports_of design.circuit design.tree listed entries)) (sym (route-consumer hub cut-base w)) (ends-at w h).consumer)
    where
      by : Routing hub cut-base w → (route hub w).producer < machine_end (ports_of design.circuit design.tree listed entries)
      by (Plain e) = subst (λ m. m < machine_end (ports_of design.circuit design.tree listed entries)) (sym (plain-producer hub cut-base w e)) (ends-at w h).producer
      by (Direct x e d v) = subst (λ m. m < machine_end (ports_of design.circuit design.tree listed entries)) (sym (direct-producer hub cut-base w x e v)) (ends-at v.wire v.among).producer

  -- a bridge produces no origin
  silent-at : (k : ℕ) → hub.silent (first_bridge (ports_of design.circuit design.tree listed entries) + k) ≡ true
  silent-at k = let n = first_bridge (ports_of design.circuit design.tree listed entries) in or_right (is_memory listed (n + k)) (nat_le n (n + k)) (le-leb n (n + k) (omega arith))

  pub are-routes : ((m : ℕ) (globals memories : List ℕ) → m < first_source listed → ((s : ℕ) → Contains globals s ↔ (Makes design.circuit design.tree listed (wires_of design.circuit design.tree listed entries) m s ⊎ Takes (wires_of design.circuit design.tree listed entries) m s)) → AllPairs (λ a b. a ≢ b) globals → ((k : ℕ) → Contains memories k ↔ HasMemory design.tree listed m k) → AllPairs (λ a b. a ≢ b) memories → IsChoice design.circuit globals (signals_of (wires_of design.circuit design.tree listed entries) (channels_to (wires_of design.circuit design.tree listed entries) m)) (givens_of (wires_of design.circuit design.tree listed entries) (channels_from (wires_of design.circuit design.tree listed entries) m)) memories)
      → AreRoutes design listed entries (hub_of design.circuit design.tree listed piped entries direct)
  are-routes plain =
      record {
        once = routes-once hub cut-base;
        known = routes-known hub cut-base;
        ends = λ i d lt.
            let r = out-routes hub cut-base (get_or (routes hub) i d) (Contains-get_or (routes hub) i d lt) in
            subst (λ (q : Wire). (q.producer < machine_end (ports_of design.circuit design.tree listed entries)) × (q.consumer < machine_end (ports_of design.circuit design.tree listed entries))) r.is (route-ends r.wire r.among);
        no_echo = no-echo hub cut-base;
        same = routes-same hub design.circuit (kept-own hub is.formed) (all-plain design.circuit design.tree listed entries);
        choice = λ m globals memories low signals once banks memories-once.
            choice design.circuit design.tree listed piped entries direct cut-base m globals memories (record { choice = λ all banks'. plain m all banks' low }) signals once banks memories-once;
        sources = source-routes design.circuit design.tree listed entries hub cut-base refl;
        trays = tray-routes design.circuit design.tree listed entries hub cut-base refl;
        bridges = λ k lt. bridge-at design.circuit design.tree listed entries hub cut-base refl k (silent-at k);
      }
