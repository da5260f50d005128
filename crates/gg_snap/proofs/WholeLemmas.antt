-- A snapshot's table has all of the state of a reference circuit.
use Rattle.std.proofs.Common.{◌≡◌, ℕ, ◌+◌, ◌-◌, ◌<◌, ◌≤◌, List, None, length, ap, ◌∙◌, arith, ◌⊎◌, inl, inr}
use Rattle.std.proofs.lemmas.Bool.{cases_lt}
use Rattle.gg_flat.specs.declared.piece.Driver.TheVariants.{Held}
use Rattle.gg_flat.specs.Circuit.{FlatCircuit}
use Rattle.gg_flat_tree.specs.Tree.{InstanceTree}
use Rattle.gg_part.specs.KeepsToTree.{KeepsToTree}
use Rattle.gg_order.specs.Design.{IsDesign, Ordered}
use Rattle.gg_partfile.specs.declared.request.Request.{Request}
use Rattle.gg_cut_plan.specs.Direct.{is_piped, plan_hub}
use Rattle.gg_cut_plan.specs.Fault.{first_fault}
use Rattle.gg_cut_plan.specs.Listed.{listed_of}
use Rattle.gg_cut_split.proofs.ClosedLemmas.FaultlessLemmas.{faultless-apart}
use Rattle.gg_cut_routes.proofs.RoutedLemmas.{routed-base}
use Rattle.gg_cut_reference.specs.Made.{AllHeld, holder_of, keeper_of, plan_reference}
use Rattle.gg_cut_reference.proofs.WholeReference.{made}
use Rattle.gg_cut_reference.specs.inside.Reference.{IsReference}
use Rattle.gg_cut_reference.specs.Reference.{Views}
use Rattle.gg_snap.specs.inside.TextWhole.{HasHolder, IsWhole}
use Rattle.gg_flat.specs.Renaming.{renamed_driver, signals_by}

module _ (one all : FlatCircuit) (views : Views) (pipes : List ℕ) (reference : IsReference one all views pipes) (tree : InstanceTree) (keeps : KeepsToTree one tree) (held : AllHeld one) where
  own : (r : ℕ) → r < length one.registers → HasHolder all r
  own r lt =
      let holder = held r lt in
      let low = holder.within in
      record { signal = holder.signal; known = omega (arith, low, reference.signals); holds = reference.drivers holder.signal low ∙ ap (renamed_driver (signals_by (views.seen (views.maker holder.signal)))) holder.holds }

  piped : (r : ℕ) → length one.registers ≤ r → r < length all.registers → HasHolder all r
  piped r le lt =
      let k = r - length one.registers in
      let low : k < length pipes = omega (arith, le, lt, reference.registers) in
      let same : length one.registers + k ≡ r = omega (arith, le) in
      record { signal = length one.signals + k; known = omega (arith, low, reference.signals); holds = reference.pipe_driver k low ∙ ap Held same }

  whole : IsWhole all tree
  whole = record {
    registers = λ r lt. by r lt (cases_lt r (length one.registers));
    memories = λ m lt.
        let there : m < length tree.memories = omega (arith, lt, reference.memories, keeps.fitting.count) in
        record { place = m; known = there; is = keeps.copies.number m there };
  }
    where
      by : (r : ℕ) → r < length all.registers → (r < length one.registers) ⊎ (length one.registers ≤ r) → HasHolder all r
      by r lt (inl low) = own r low
      by r lt (inr high) = piped r high lt

pub plan-whole : (design : Ordered) (request : Request) → IsDesign design → KeepsToTree design.circuit design.tree → AllHeld design.circuit → first_fault design request ≡ None → IsWhole (plan_reference design request) design.tree
plan-whole design request is keeps held none =
    let hub = plan_hub design.circuit design.tree request in
    whole design.circuit (plan_reference design request) _ _
    (made design.circuit design.tree (listed_of design.tree request) is.formed keeps.fitting keeps.scoped (faultless-apart design request none keeps.fitting) (is_piped design.circuit request) request.bridges request.direct (routed-base design request is keeps none) (holder_of hub) (keeper_of design.tree (listed_of design.tree request)))
    design.tree keeps held
