use Rattle.std.proofs.Common.{◌≢◌, ◌<◌, ◌+◌, ◌++◌, List, ℕ, codes, length, map, sym, ◌∙◌, ap, ap₂, subst, arith}
use Rattle.std.specs.Prelude.{All, AllPairs}
use Rattle.gg_flat.specs.Circuit.{FlatCircuit}
use Rattle.gg_flat_tree.specs.Tree.{path_at}
use Rattle.gg_order.specs.Design.{IsDesign}
use Rattle.gg_cut_plan.specs.declared.plan.Channel.{Channel}
use Rattle.gg_cut_reference.specs.Made.{reference_of}
use Rattle.gg_cut_pipes.specs.inside.Tables.{AreOwned, AreTables, CanFill, views_by, piped_signals}
use Rattle.gg_cut_pipes.proofs.FewLemmas.{few-states}
use Rattle.gg_cut_pipes.proofs.PipingLemmas.{plan-apart, known-pipes, few-pipes, distinct-paths, can-fill, reference-is}
use Rattle.gg_cut_pipes.proofs.piping.circuit_of.Goals as goal

pub owned_of-requires-clause-apart : goal.owned_of-requires-clause-apart
owned_of-requires-clause-apart c = plan-apart c.args.design.now c.args.plan.now (record { formed = c.piece-piece.ensures.formed; ordered = c.order.ensures.ordered }) c.requires.can

pub tables_of-requires : goal.tables_of-requires
tables_of-requires c =
    let design = c.args.design.now in
    let plan = c.args.plan.now in
    let pipes = c.args.pipes.now in
    let same = c.piece-piece.ensures.circuit in
    let ready : IsDesign design = record { formed = c.piece-piece.ensures.formed; ordered = c.order.ensures.ordered } in
    let owned = c.in_ok-owned.owned in
    let owns : AreOwned design plan.listed owned = record { wires = c.in_ok-owned.ensures.wires; count = c.in_ok-owned.ensures.count; signals = c.in_ok-owned.ensures.signals; memories = c.in_ok-owned.ensures.memories } in
    subst (λ (one : FlatCircuit). CanFill one c.as_slice.result.now pipes owned) (sym same)
    (subst (λ (l : List Channel). CanFill design.circuit l pipes owned) (sym c.as_slice.ensures) (subst (λ (l : List ℕ). CanFill design.circuit plan.channels l owned) (sym c.requires.pipes) (can-fill design plan ready c.requires.can owned owns)))

pub made-requires-clause-known : goal.made-requires-clause-known
made-requires-clause-known c =
    let design = c.args.design.now in
    let plan = c.args.plan.now in
    let pipes = c.args.pipes.now in
    let same = c.piece-piece.ensures.circuit in
    let ready : IsDesign design = record { formed = c.piece-piece.ensures.formed; ordered = c.order.ensures.ordered } in
    subst (λ (one : FlatCircuit). All (λ s. s < length one.signals) pipes) (sym same) (subst (λ (l : List ℕ). All (λ s. s < length design.circuit.signals) l) (sym c.requires.pipes) (known-pipes design plan ready c.requires.can))

pub made-requires-clause-few : goal.made-requires-clause-few
made-requires-clause-few c =
    let few = few-pipes c.args.design.now c.args.plan.now c.requires.can in
    let same = ap (λ (one : FlatCircuit). length one.signals) c.piece-piece.ensures.circuit in
    let count = ap length c.requires.pipes in
    let bound : length c.piece-piece.result.now.signals + length c.args.pipes.now < 4294967296 = omega (arith, few, same, count) in
    bound

pub made-requires-clause-registers : goal.made-requires-clause-registers
made-requires-clause-registers c =
    let few = few-states c.args.design.now c.args.plan.now c.requires.can in
    let same = ap (λ (one : FlatCircuit). length one.registers) c.piece-piece.ensures.circuit in
    let count = ap length c.requires.pipes in
    let bound : length c.piece-piece.result.now.registers + length c.args.pipes.now < 4294967296 = omega (arith, few, same, count) in
    bound

pub made-requires-clause-distinct : goal.made-requires-clause-distinct
made-requires-clause-distinct c =
    let design = c.args.design.now in
    let plan = c.args.plan.now in
    let pipes = c.args.pipes.now in
    let same = c.piece-piece.ensures.circuit in
    let ready : IsDesign design = record { formed = c.piece-piece.ensures.formed; ordered = c.order.ensures.ordered } in
    subst (λ (one : FlatCircuit). AllPairs (λ a b. a ≢ b) (one.paths ++ map (λ s. codes "pipe:" ++ path_at one.paths s) pipes)) (sym same)
    (subst (λ (l : List ℕ). AllPairs (λ a b. a ≢ b) (design.circuit.paths ++ map (λ s. codes "pipe:" ++ path_at design.circuit.paths s) l)) (sym c.requires.pipes) (distinct-paths design plan ready c.requires.can))

pub returns : goal.returns
returns c = λ can.
    let design = c.args.design.now in
    let plan = c.args.plan.now in
    let pipes = c.args.pipes.now in
    let same = c.piece-piece.ensures.circuit in
    let ready : IsDesign design = record { formed = c.piece-piece.ensures.formed; ordered = c.order.ensures.ordered } in
    let owned = c.in_ok-owned.owned in
    let owns : AreOwned design plan.listed owned = record { wires = c.in_ok-owned.ensures.wires; count = c.in_ok-owned.ensures.count; signals = c.in_ok-owned.ensures.signals; memories = c.in_ok-owned.ensures.memories } in
    let tables = c.in_ok-tables.tables in
    let are : AreTables design.circuit plan.channels (piped_signals (length design.circuit.signals) plan.channels) owned tables =
    subst (λ (l : List ℕ). AreTables design.circuit plan.channels l owned tables) c.requires.pipes
    (subst (λ (l : List Channel). AreTables design.circuit l pipes owned tables) c.as_slice.ensures
    (subst (λ (one : FlatCircuit). AreTables one c.as_slice.result.now pipes owned tables) same c.in_ok-tables.ensures)) in
    c.in_ok-circuit.ensures ∙ ap₂ (λ (one : FlatCircuit) (l : List ℕ). reference_of one (views_by tables) l) same c.requires.pipes ∙ reference-is design plan ready can owned owns tables are
