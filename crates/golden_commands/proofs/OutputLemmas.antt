-- The top's outputs, and their ports.
use Rattle.std.proofs.Common.{◌≡◌, ℕ, ◌+◌, ◌<◌, ◌≤◌, List, [], ◌∷◌, ◌++◌, length, map, take, get_or, not, sym, ap, ◌∙◌, subst, arith}
use Rattle.std.specs.Prelude.{All, filter}
use Rattle.std.proofs.lemmas.List.{get_or_append_left, get_or_default, length-append, map-append, take_more}
use Rattle.std.proofs.lemmas.List.Elements.{filter-append}
use Rattle.gg_flat.specs.Circuit.{FlatCircuit}
use Rattle.gg_flat.specs.Line.{value_at}
use Rattle.gg_flat.specs.Ports.{ports_at}
use Rattle.gg_flat_tree.specs.OutputPorts.{output_ports}
use Rattle.gg_flat_tree.specs.Scoped.{output_signals}
use Rattle.gg_flat_tree.specs.Tree.{InstanceTree, path_at}
use Rattle.gg_flat.specs.WellFormed.{IsWellFormed}
use Rattle.gg_flat.specs.declared.ports.Port.{Port}
use Rattle.gg_flat_tree.specs.declared.tree.InstancePort.{InstancePort}
use Rattle.gg_order.specs.Design.{Ordered}
use Rattle.gg_partfile.specs.Size.{all_seen}
use Rattle.gg_partfile.specs.declared.request.BridgeEntry.{BridgeEntry}
use Rattle.gg_partfile.specs.declared.request.Request.{Request}
use Rattle.gg_cut_plan.specs.Listed.{is_among}
use Rattle.golden_commands.specs.RunText.{outputs_of, ports_without, shown_ports}
use Rattle.golden_commands.proofs.OpenLemmas.{open-same}
use Rattle.golden_commands.proofs.WholePortLemmas.{without-at}
use Rattle.golden_commands.proofs.PortLemmas.{ports-count}

-- ---- the outputs among ports

outputs-append : (front back : List InstancePort) → output_signals (front ++ back) ≡ output_signals front ++ output_signals back
outputs-append front back =
    ap (map (λ (port : InstancePort). port.signal)) (filter-append (λ (port : InstancePort). not port.is_input) front back)
    ∙ map-append (λ (port : InstancePort). port.signal) (filter (λ (port : InstancePort). not port.is_input) front) (filter (λ (port : InstancePort). not port.is_input) back)

-- one more port
pub outputs-more : (ports : List InstancePort) (k : ℕ) (d : InstancePort) → k < length ports → (before after : List ℕ) → before ≡ output_signals (take k ports)
    → after ≡ before ++ output_signals (get_or ports k d ∷ []) → after ≡ output_signals (take (k + 1) ports)
outputs-more ports k d lt before after was more =
    more
    ∙ ap (λ l. l ++ output_signals (get_or ports k d ∷ [])) was
    ∙ sym (outputs-append (take k ports) (get_or ports k d ∷ []))
    ∙ sym (ap output_signals (take_more ports k d lt))

-- ---- the top's outputs are the first out-signals

-- the ports that were made are those of the top's outputs
pub output-ports-are : {circuit piece : FlatCircuit} {tree seen : InstanceTree} {signals : List ℕ} {ports : List Port} → piece ≡ circuit → seen ≡ tree → signals ≡ outputs_of seen
    → ports ≡ ports_at piece signals → ports ≡ output_ports circuit tree
output-ports-are {circuit = circuit} {signals = signals} c t s p =
    p ∙ ap (λ (f : FlatCircuit). ports_at f signals) c ∙ ap (ports_at circuit) (s ∙ ap outputs_of t)

module _ (circuit : FlatCircuit) (tree : InstanceTree) (stops : List ℕ) (outs : outputs_of tree ++ stops ≡ circuit.outs) (formed : IsWellFormed circuit) where
  few : length (outputs_of tree) ≤ length circuit.outs
  few = omega (arith, length-append (outputs_of tree) stops, ap (λ (l : List ℕ). length l) outs)

  pub output-known : (k : ℕ) → k < length (outputs_of tree) → value_at (outputs_of tree) k < length circuit.signals
  output-known k lt =
      subst (λ s. s < length circuit.signals)
      (ap (λ (l : List ℕ). value_at l k) (sym outs) ∙ get_or_append_left (outputs_of tree) stops 0 k lt)
      (formed.outs k (omega (arith, lt, few)))

  pub outputs-known : All (λ s. s < length circuit.signals) (outputs_of tree)
  outputs-known k d lt = subst (λ s. s < length circuit.signals) (get_or_default (outputs_of tree) k 0 d lt) (output-known k lt)

  -- there are as many ports as outputs, and no more than out-signals
  pub output-ports-count : length (output_ports circuit tree) ≡ length (outputs_of tree)
  output-ports-count = ports-count circuit formed (outputs_of tree) output-known

  pub output-ports-few : (ports : List Port) → ports ≡ output_ports circuit tree → length ports ≤ length circuit.outs
  output-ports-few ports e = omega (arith, few, output-ports-count, ap (λ (p : List Port). length p) e)

-- the ports that were made are those of the outputs that no bridge sees
pub shown-made : (design : Ordered) (request : Request) → (piece : FlatCircuit) → piece ≡ design.circuit → (entries : List BridgeEntry) → entries ≡ request.bridges
    → (set : List (List ℕ)) → ((name : List ℕ) → is_among set name ≡ is_among (all_seen entries) name) → (outputs : List ℕ) → outputs ≡ outputs_of design.tree → (kept : List ℕ) → kept ≡ filter (λ s. not (is_among set (path_at piece.paths s))) outputs
    → (ports : List Port) → ports ≡ ports_at piece kept → ports ≡ shown_ports design request
shown-made design request piece p entries e set same outputs t kept o ports made =
    let circuit = design.circuit in
    let tree = design.tree in
    made ∙ ap (λ (f : FlatCircuit). ports_at f kept) p
    ∙ ap (ports_at circuit)
    (o ∙ ap (λ (f : FlatCircuit). filter (λ s. not (is_among set (path_at f.paths s))) outputs) p ∙ open-same circuit.paths set (all_seen entries) same outputs
    ∙ ap (filter (λ s. not (is_among (all_seen entries) (path_at circuit.paths s)))) t)
    ∙ sym (without-at (all_seen entries) circuit (outputs_of tree))
    ∙ ap (λ (l : List BridgeEntry). ports_without (all_seen l) (output_ports circuit tree)) e
