use Rattle.std.proofs.Common.{◌≡◌, ℕ, ◌+◌, List, None, get_or, ◌∙◌, ap, ap₂, arith}
use Rattle.std.specs.Prelude.{Option}
use Rattle.gg_flat.specs.declared.memory.Reader.{Reader}
use Rattle.gg_flat.specs.Line.{value_at}
use Rattle.gg_flat.specs.Renaming.{renamed_reader as reader_by}
use Rattle.gg_part.specs.inside.Local.{own_by}
use Rattle.gg_part.proofs.LocalLemmas.{grown-by}
use Rattle.gg_part.proofs.rename.own_readers.Goals as goal

pub loop-place-preserved : goal.loop-place-preserved
loop-place-preserved c =
    let back : ℕ → ℕ = value_at c.args.by.now.signals.now in
    let ports : List (Option ℕ) = c.args.ports.now in
    let k = c.loop-place.place in
    let any : Reader = record { addr = 0; en = 0; word = 0; clock = None } in
    let item : Reader = get_or c.args.readers.now k any in
    grown-by (λ p reader. reader_by (own_by back (get_or ports p None)) reader) 0 c.args.readers.now k any c.loop-place.own.items c.push.new.self.items c.renamed_reader.result c.loop-place-test.true c.in_ok-push.ensures.items
    (c.renamed_reader.ensures ∙ ap₂ (λ (signals : List ℕ) (clock : Option ℕ). reader_by (own_by (value_at signals) clock) item) c.at_port-port.ensures.signals c.at_port-port.ensures.clock
    ∙ ap (λ n. reader_by (own_by back (get_or ports n None)) item) (let same : k ≡ 0 + k = omega arith in same))
    c.loop-place.invariant
