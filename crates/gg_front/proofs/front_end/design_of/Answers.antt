-- A loop of the flat circuit is a first fault of the circuit. What holds of the flat circuit and its tree holds of the design.
use Rattle.gg_flat.specs.Circuit.{FlatCircuit}
use Rattle.gg_flat_tree.specs.Tree.{InstanceTree}
use Rattle.gg_flat.specs.WellFormed.{IsWellFormed}
use Rattle.gg_elab_sites.specs.IsFlat.{IsFlat}
use Rattle.gg_elab_tree.specs.Held.{AreHeldOnce}
use Rattle.gg_part.specs.KeepsToTree.{KeepsToTree}
use Rattle.gg_elab_tree.specs.IsTreeOf.{IsTreeOf}
use Rattle.gg_front.proofs.LoopLemmas.{refused-loop}
use Rattle.gg_front.proofs.MeaningLemmas.{accepted-ok, made-ok}
use Rattle.gg_front.proofs.front_end.design_of.Goals as goal

pub returns-clause-refused : goal.returns-clause-refused
returns-clause-refused c =
    refused-loop c.args.circuit.now c.in_ok-piece.piece c.ordered.result c.in_ok-piece.ensures.sound c.in_ok-piece.ensures.within c.in_ok-piece.ensures.flat
    c.ordered.ensures.refused

pub returns-clause-accepted : goal.returns-clause-accepted
returns-clause-accepted c =
    accepted-ok c.args.circuit.now c.in_ok-piece.piece c.ordered.result (λ one other is also. c.one_flat.ensures c.args.circuit.now one other is also)
    c.in_ok-piece.ensures.sound c.in_ok-piece.ensures.within c.in_ok-piece.ensures.flat c.ordered.ensures.free

pub returns-clause-flat : goal.returns-clause-flat
returns-clause-flat c =
    made-ok (λ (f : FlatCircuit) (t : InstanceTree). IsFlat c.args.circuit.now f) c.in_ok-piece.piece c.in_ok-piece.tree c.ordered.result c.in_ok-piece.ensures.flat c.ordered.ensures.circuit c.ordered.ensures.grown

pub returns-clause-grown : goal.returns-clause-grown
returns-clause-grown c =
    made-ok (λ (f : FlatCircuit) (t : InstanceTree). IsTreeOf c.args.circuit.now t) c.in_ok-piece.piece c.in_ok-piece.tree c.ordered.result c.in_ok-piece.ensures.grown c.ordered.ensures.circuit c.ordered.ensures.grown

pub returns-clause-formed : goal.returns-clause-formed
returns-clause-formed c =
    made-ok (λ (f : FlatCircuit) (t : InstanceTree). IsWellFormed f) c.in_ok-piece.piece c.in_ok-piece.tree c.ordered.result c.in_ok-piece.ensures.formed c.ordered.ensures.circuit c.ordered.ensures.grown

pub returns-clause-held : goal.returns-clause-held
returns-clause-held c =
    made-ok (λ (f : FlatCircuit) (t : InstanceTree). AreHeldOnce f) c.in_ok-piece.piece c.in_ok-piece.tree c.ordered.result c.in_ok-piece.ensures.held c.ordered.ensures.circuit c.ordered.ensures.grown

pub returns-clause-keeps : goal.returns-clause-keeps
returns-clause-keeps c =
    made-ok (λ (f : FlatCircuit) (t : InstanceTree). KeepsToTree f t) c.in_ok-piece.piece c.in_ok-piece.tree c.ordered.result c.in_ok-piece.ensures.keeps c.ordered.ensures.circuit c.ordered.ensures.grown
