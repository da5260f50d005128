use Rattle.std.proofs.Common.{◌≡◌, List, length, subst, ap, ◌∙◌, arith}
use Rattle.std.specs.Prelude.{slice_index_or}
use Rattle.std.proofs.lemmas.Option.{IfSome_then}
use Rattle.gg_flat.specs.Circuit.{driver_at}
use Rattle.gg_flat.specs.declared.piece.Driver.{Driver}
use Rattle.gg_flat.specs.declared.piece.Signal.{Signal}
use Rattle.gg_flat.specs.Reads.{NamesSignal}
use Rattle.gg_order.specs.inside.Marks.{driver_of}
use Rattle.gg_order.proofs.MarkLemmas.{driver_of-at}
use Rattle.gg_order.proofs.ReadLemmas.{names_within}
use Rattle.gg_order.proofs.graph.DependenciesGraph.target.Goals as goal

pub returns-clause-within : goal.returns-clause-within
returns-clause-within c =
    let circuit = c.self.inside.piece.now in
    let signals = c.signals.result.now in
    let known = rw (← c.self.view_is) at c.requires in
    let at : (slice_index_or signals c.args.node c.index-signals-node.result).driver ≡ driver_at circuit c.args.node =
    driver_of-at signals c.args.node c.index-signals-node.result (omega (arith, known, ap (λ (l : List Signal). length l) c.signals.ensures)) ∙ ap (λ (l : List Signal). driver_of l c.args.node) c.signals.ensures in
    rw (← c.self.view_is)
    (IfSome_then c.next_named.result c.next_named.ensures.named (λ found h.
    names_within circuit c.args.node found.node c.self.invariant known (subst (λ (d : Driver). NamesSignal d found.node) at h)))
