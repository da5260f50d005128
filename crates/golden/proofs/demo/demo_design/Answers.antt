use Rattle.std.proofs.Common.{◌∙◌, ℕ, List, subst}
use Rattle.gg_front.specs.Meaning.{MeansDesign}
use Rattle.gg_front.proofs.HeldLemmas.{held-once}
use Rattle.golden.proofs.demo.demo_design.Goals as goal

pub returns-in-Ok-clause-means : goal.returns-in-Ok-clause-means
returns-in-Ok-clause-means c = subst (λ (b : List ℕ). MeansDesign b c.in-Ok.design) (c.as_bytes-bytes.ensures.value ∙ c.in_ok-text.ensures) c.in-Ok.ensures.ok

pub returns-in-Ok-clause-held : goal.returns-in-Ok-clause-held
returns-in-Ok-clause-held c = held-once c.in-Ok.design.circuit c.in-Ok.ensures.ok.means.formed c.in-Ok.ensures.held

pub returns-in-Ok-clause-whole : goal.returns-in-Ok-clause-whole
returns-in-Ok-clause-whole c = λ r lt. let one = c.in-Ok.ensures.held r lt in record { signal = one.signal; within = one.within; holds = one.holds }
