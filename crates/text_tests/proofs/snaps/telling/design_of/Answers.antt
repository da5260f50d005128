use Rattle.std.proofs.Common.{refl}
use Rattle.std.proofs.lemmas.List.Elements.{All-weaker}
use Rattle.gg_front.specs.inside.Paths.{IsPath, IsSignalPath, is_path_byte, is_signal_byte}
use Rattle.gg_front.proofs.HeldLemmas.{held-once}
use Rattle.gg_front.proofs.PortLemmas.{have-paths}
use Rattle.gg_snap.specs.text.Known.{IsPlain}
use Rattle.gg_snap.proofs.TextLemmas.SaveLemmas.{can-save, plain-path}
use Rattle.text_tests.proofs.snaps.telling.design_of.Goals as goal

pub returns-in-Ok : goal.returns-in-Ok
returns-in-Ok c =
    let design = c.in-Ok.design in
    let means = c.in-Ok.ensures.ok.means in
    let keeps = c.in-Ok.ensures.keeps in
    let have = have-paths c.as_bytes-bytes.result.now means.text.circuit design.circuit design.tree means.text.spelt means.flattened c.in-Ok.ensures.ok.grown keeps.fitting keeps.scoped in
    can-save design.circuit design.tree keeps.fitting (held-once design.circuit means.formed c.in-Ok.ensures.held)
    (All-weaker IsSignalPath IsPlain (λ path is. plain-path is_signal_byte path refl refl is.bytes) design.circuit.paths have.signals)
    (All-weaker IsPath IsPlain (λ path is. plain-path is_path_byte path refl refl is.bytes) design.tree.memory_paths have.memories)
