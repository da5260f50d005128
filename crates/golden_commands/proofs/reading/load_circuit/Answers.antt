use Rattle.std.proofs.Common.{inr, subst, List, ℕ}
use Rattle.gg_front.proofs.HeldLemmas.{held-once}
use Rattle.golden_commands.specs.Run.{TellsCircuit}
use Rattle.gg_io.proofs.EndingLemmas.{IfRefused-map}
use Rattle.golden_commands.proofs.reading.load_circuit.Goals as goal

pub returns-clause-refused : goal.returns-clause-refused
returns-clause-refused g c =
    IfRefused-map
    (λ said h. inr (
      c.in_ok-bytes.bytes.items,
      record { held = c.in_ok-bytes.ensures.held; within = c.in_ok-bytes.ensures.within },
      subst (λ (b : List ℕ). TellsCircuit b said) c.as_slice.ensures.value (c.in-Err.fault, c.in-Err.ensures.refused, h.0, h.1),
    ))
    c.end_at_circuit.result c.end_at_circuit.ensures

pub returns-in-Ok-clause-held : goal.returns-in-Ok-clause-held
returns-in-Ok-clause-held g c = held-once c.in-Ok.design.circuit c.in-Ok.ensures.ok.means.formed c.in-Ok.ensures.held

pub returns-in-Ok-clause-whole : goal.returns-in-Ok-clause-whole
returns-in-Ok-clause-whole g c = λ r lt. let one = c.in-Ok.ensures.held r lt in record { signal = one.signal; within = one.within; holds = one.holds }
