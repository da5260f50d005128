use Rattle.std.proofs.Common.{[], ◌∷◌, ◌++◌, sym, ap, ◌∙◌}
use Rattle.std.proofs.lemmas.List.{map-append}
use Rattle.gg_workers.specs.inside.Apart.{row_of}
use Rattle.gg_workers.proofs.apart.separate.Goals as goal

pub loop-linked_host-preserved : goal.loop-linked_host-preserved
loop-linked_host-preserved g c = (
  c.push_reserved.ensures.items ∙ ap (λ l. l ++ c.in-Some.linked_host.host ∷ []) c.loop-linked_host.invariant.0 ∙ sym (map-append (λ b. b.host) c.loop-linked_host.yielded (c.in-Some.linked_host ∷ [])),
  c.push_reserved-in-loop-linked_host.ensures.items ∙ ap (λ l. l ++ row_of c.in-Some.linked_host ∷ []) c.loop-linked_host.invariant.1 ∙ sym (map-append row_of c.loop-linked_host.yielded (c.in-Some.linked_host ∷ [])),
  c.push_reserved.ensures.capacity ∙ c.loop-linked_host.invariant.2,
  c.push_reserved-in-loop-linked_host.ensures.capacity ∙ c.loop-linked_host.invariant.3,
)
