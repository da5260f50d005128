-- A design and what its split gives can be routed.
use Rattle.std.proofs.Common.{◌≡◌, ◌≢◌, ◌<◌, ℕ, List, Bool, length, sym, subst, arith}
use Rattle.std.specs.Prelude.{All, AllPairs, slice_index_or}
use Rattle.gg_flat.specs.Circuit.{FlatCircuit}
use Rattle.gg_flat_tree.specs.Tree.{InstanceTree}
use Rattle.gg_order.specs.Design.{Ordered, IsDesign}
use Rattle.gg_part.specs.KeepsToTree.{KeepsToTree}
use Rattle.gg_partfile.specs.declared.request.BridgeEntry.{BridgeEntry}
use Rattle.gg_cut_plan.proofs.PortLemmas.{machine-high}
use Rattle.gg_cut_plan.specs.Ports.{ports_of, machine_end}
use Rattle.gg_cut_plan.specs.declared.listed.Listed.{Listed}
use Rattle.gg_cut_plan.specs.declared.wires.Wire.{Wire}
use Rattle.gg_cut_plan.specs.Channels.{wires_of}
use Rattle.gg_cut_split.specs.inside.Apart.{AreApart, AreEnds}
use Rattle.gg_cut_split.specs.declared.share.Share.{Share}
use Rattle.gg_cut_split.specs.inside.IsShare.{AreShares, IsShare}
use Rattle.gg_cut_plan.specs.Direct.{hub_of}
use Rattle.gg_cut_routes.specs.inside.Routable.{CanRoute, IsRouting}

module _ (design : Ordered) (listed : Listed) (entries : List BridgeEntry) (is : IsDesign design) (keeps : KeepsToTree design.circuit design.tree) (apart : AreApart design.tree listed) (once : AllPairs (λ (v w : Wire). v.signal ≢ w.signal) (wires_of design.circuit design.tree listed entries)) (ends : All (AreEnds (machine_end (ports_of design.circuit design.tree listed entries))) (wires_of design.circuit design.tree listed entries)) where
  -- the hub has a share
  pub some-share : (shares : List Share) → AreShares design listed entries shares → 0 < length shares
  some-share shares are = (let high = machine-high (ports_of design.circuit design.tree listed entries) in omega (arith, are.many, high))

  can-route : (wires : List Wire) (share : Share) → wires ≡ wires_of design.circuit design.tree listed entries → IsShare design listed entries 0 share → CanRoute design.circuit design.tree design.order listed entries wires share.globals share.memories
  can-route wires share base own =
      record {
        formed = is.formed;
        fitting = keeps.fitting;
        scoped = keeps.scoped;
        ordered = is.ordered;
        apart = apart;
        base = base;
        once = once;
        ends = ends;
        signals = own.signals;
        banks = own.banks;
        choice = own.choice (omega arith);
      }

  pub routable : (circuit : FlatCircuit) (tree : InstanceTree) (order : List ℕ) (wires : List Wire) (shares : List Share) (any : Share) (globals memories : List ℕ) → circuit ≡ design.circuit → tree ≡ design.tree → order ≡ design.order → wires ≡ wires_of design.circuit design.tree listed entries → AreShares design listed entries shares → globals ≡ (slice_index_or shares 0 any).globals → memories ≡ (slice_index_or shares 0 any).memories → CanRoute circuit tree order listed entries wires globals memories
  routable circuit tree order wires shares any globals memories a b c base are g m =
      subst (λ k. CanRoute k tree order listed entries wires globals memories) (sym a)
      (subst (λ t. CanRoute design.circuit t order listed entries wires globals memories) (sym b)
      (subst (λ o. CanRoute design.circuit design.tree o listed entries wires globals memories) (sym c)
      (subst (λ l. CanRoute design.circuit design.tree design.order listed entries wires l memories) (sym g)
      (subst (λ l. CanRoute design.circuit design.tree design.order listed entries wires (slice_index_or shares 0 any).globals l) (sym m)
      (can-route wires (slice_index_or shares 0 any) base (are.each 0 any (let high = machine-high (ports_of design.circuit design.tree listed entries) in omega (arith, high))))))))

-- a routing of a design's circuit and tree
pub routing-at : (design : Ordered) (circuit : FlatCircuit) (tree : InstanceTree) (listed : Listed) (piped : ℕ → Bool) (entries : List BridgeEntry) (direct : Bool) (left : List Wire) (gone : List Bool) → circuit ≡ design.circuit → tree ≡ design.tree → IsRouting (hub_of circuit tree listed piped entries direct) left gone → IsRouting (hub_of design.circuit design.tree listed piped entries direct) left gone
routing-at design circuit tree listed piped entries direct left gone is fits routed =
    subst (λ (t : InstanceTree). IsRouting (hub_of design.circuit t listed piped entries direct) left gone) fits (subst (λ (k : FlatCircuit). IsRouting (hub_of k tree listed piped entries direct) left gone) is routed)
