-- A request without a fault has none beside its bridges. Without bridges the circuit of a plan is the reference circuit, and so are its runs.
use Rattle.std.proofs.Common.{◌≡◌, ℕ, List, [], ◌∷◌, Option, None, Some, map, refl, sym, ap, ◌∙◌, subst}
use Rattle.std.specs.Prelude.{filter, not}
use Rattle.gg_flat.specs.Circuit.{FlatCircuit}
use Rattle.gg_flat.specs.Ports.{in_ports}
use Rattle.gg_flat_tree.specs.OutputPorts.{output_ports}
use Rattle.gg_flat.specs.Run.{IsRunFrom, clocked_start}
use Rattle.gg_flat_tree.specs.Tree.{path_at}
use Rattle.gg_flat.specs.declared.ports.Port.{Port}
use Rattle.gg_order.specs.Design.{Ordered}
use Rattle.gg_partfile.specs.Size.{all_driven, all_seen}
use Rattle.gg_partfile.specs.declared.request.BridgeEntry.{BridgeEntry}
use Rattle.gg_partfile.specs.declared.request.Request.{Request}
use Rattle.gg_cut_plan.specs.Bridges.{Models}
use Rattle.gg_cut_plan.specs.Clocks.{ratios_of}
use Rattle.gg_cut_plan.specs.Direct.{plan_hub}
use Rattle.gg_cut_plan.specs.Fault.{first_fault, first_fault_with}
use Rattle.gg_bits.specs.Lists.{or_else}
use Rattle.gg_cut_plan.specs.Listed.{is_among}
use Rattle.gg_cut_reference.specs.Follows.{plan_start}
use Rattle.gg_cut_reference.specs.Links.{taken_as}
use Rattle.gg_cut_reference.specs.Made.{plan_reference}
use Rattle.gg_cut_reference.specs.whole.Whole.{plan_circuit, with_bridges}
use Rattle.golden_commands.specs.RunText.{IsRunBy, fed_ports, outputs_kept, outputs_of, outputs_shown, ports_without, shown_ports}

-- ---- faults

first-none : {A : Type 0} (a b : Option A) → or_else a b ≡ None → a ≡ None
first-none None b e = refl
first-none (Some x) b e = absurd (cc)

pub faultless-first : (design : Ordered) (request : Request) (models : Models) → first_fault_with design models request ≡ None → first_fault design request ≡ None
faultless-first design request models none = first-none (first_fault design request) _ none

-- ---- no names

-- all ports have no name of none
without-none : (ports : List Port) → ports_without [] ports ≡ ports
without-none [] = refl
without-none (port ∷ ports) = ap (λ (l : List Port). port ∷ l) (without-none ports)

all-signals : (paths : List (List ℕ)) (signals : List ℕ) → filter (λ s. not (is_among [] (path_at paths s))) signals ≡ signals
all-signals paths [] = refl
all-signals paths (s ∷ signals) = ap (λ (l : List ℕ). s ∷ l) (all-signals paths signals)

-- ---- a request that asks for no bridge

module _ (design : Ordered) (request : Request) (alone : request.bridges ≡ []) where
  pub fed-alone : fed_ports design.circuit request ≡ in_ports design.circuit
  fed-alone = ap (λ (l : List BridgeEntry). ports_without (all_driven l) (in_ports design.circuit)) alone ∙ without-none (in_ports design.circuit)

  pub shown-alone : shown_ports design request ≡ output_ports design.circuit design.tree
  shown-alone = ap (λ (l : List BridgeEntry). ports_without (all_seen l) (output_ports design.circuit design.tree)) alone ∙ without-none (output_ports design.circuit design.tree)

  outputs-alone : outputs_shown design request ≡ outputs_of design.tree
  outputs-alone =
      ap (λ (l : List BridgeEntry). filter (λ s. not (is_among (all_seen l) (path_at design.circuit.paths s))) (outputs_of design.tree)) alone ∙ all-signals design.circuit.paths (outputs_of design.tree)

  pub kept-alone : outputs_kept design request ≡ map (taken_as (plan_hub design.circuit design.tree request)) (outputs_of design.tree)
  kept-alone = ap (map (taken_as (plan_hub design.circuit design.tree request))) outputs-alone

  module _ (models : Models) where
    pub circuit-alone : plan_circuit design request models ≡ plan_reference design request
    circuit-alone = ap (with_bridges models (plan_reference design request)) alone

    module _ (columns : List (List ℕ)) (n : ℕ) (rows : List (List ℕ)) where
      pub run-alone : IsRunBy design request models columns n rows → IsRunFrom (plan_reference design request) (plan_start design request) columns n rows
      run-alone run = subst (λ (f : FlatCircuit). IsRunFrom f (clocked_start f (ratios_of design.tree request)) columns n rows) circuit-alone run

      pub alone-run : IsRunFrom (plan_reference design request) (plan_start design request) columns n rows → IsRunBy design request models columns n rows
      alone-run run = subst (λ (f : FlatCircuit). IsRunFrom f (clocked_start f (ratios_of design.tree request)) columns n rows) (sym circuit-alone) run
