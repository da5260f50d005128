use Rattle.std.proofs.Common.{ℕ, List, None, get_or, ◌∙◌, ap₂}
use Rattle.std.specs.Prelude.{Option}
use Rattle.gg_flat.specs.declared.memory.Writer.{Writer}
use Rattle.gg_flat.specs.Line.{value_at}
use Rattle.gg_flat.specs.Renaming.{renamed_writer as writer_by}
use Rattle.gg_part.specs.inside.Local.{own_by}
use Rattle.gg_part.proofs.LocalLemmas.{grown-by}
use Rattle.gg_part.proofs.rename.own_writers.Goals as goal

pub loop-place-preserved : goal.loop-place-preserved
loop-place-preserved c =
    let back : ℕ → ℕ = value_at c.args.by.now.signals.now in
    let ports : List (Option ℕ) = c.args.ports.now in
    let k = c.loop-place.place in
    let any : Writer = record { addr = 0; en = 0; word = 0; mask = 0; clock = None } in
    let item : Writer = get_or c.args.writers.now k any in
    grown-by (λ p writer. writer_by (own_by back (get_or ports p None)) writer) c.args.first c.args.writers.now k any c.loop-place.own.items c.push.new.self.items c.renamed_writer.result c.loop-place-test.true c.in_ok-push.ensures.items
    (c.renamed_writer.ensures ∙ ap₂ (λ (signals : List ℕ) (clock : Option ℕ). writer_by (own_by (value_at signals) clock) item) c.at_port-port.ensures.signals c.at_port-port.ensures.clock)
    c.loop-place.invariant
