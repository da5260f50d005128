use Rattle.std.proofs.Common.{inl, inr}
use Rattle.std.proofs.lemmas.Option.{IfSome_then}
use Rattle.text_tests.proofs.walks.TableGraph.target.Goals as goal

pub returns-clause-first : goal.returns-clause-first
returns-clause-first c =
    IfSome_then c.first_below.result c.first_below.ensures.first
    (λ found h t below. elim (h t below.1 below.0) [ inl old ↦ inl (old, below.1) | inr same ↦ inr same ])
