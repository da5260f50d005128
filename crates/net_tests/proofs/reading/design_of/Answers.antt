use Rattle.gg_front.proofs.FreshLemmas.{none-bridged, none-piped}
use Rattle.gg_front.proofs.HeldLemmas.{held-once}
use Rattle.net_tests.proofs.reading.design_of.Goals as goal

pub returns-in-Ok-clause-held : goal.returns-in-Ok-clause-held
returns-in-Ok-clause-held c = held-once c.in-Ok.design.circuit c.in-Ok.ensures.ok.means.formed c.in-Ok.ensures.held

pub returns-in-Ok-clause-free : goal.returns-in-Ok-clause-free
returns-in-Ok-clause-free c =
    let means = c.in-Ok.ensures.ok.means in
    let text = c.as_bytes-bytes.result.now in
    record {
      pipe = λ s path lt. none-piped text means.text.circuit c.in-Ok.design.circuit means.text.spelt means.flattened s path;
      bridge = λ s path lt. none-bridged text means.text.circuit c.in-Ok.design.circuit means.text.spelt means.flattened s path;
    }
