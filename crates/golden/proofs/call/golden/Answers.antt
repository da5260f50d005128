use Rattle.std.proofs.Common.{subst}
use Rattle.gg_cut_plan.specs.Bridges.{Models}
use Rattle.gg_io.specs.Ends.{loads_of, puts_of}
use Rattle.gg_words.specs.Meaning.{texts}
use Rattle.golden_commands.specs.Promised.{Promised}
use Rattle.golden_commands.proofs.HandedLemmas.{none-can, none-models}
use Rattle.golden.proofs.call.golden.Goals as goal

pub golden_with-requires-clause-bridges : goal.golden_with-requires-clause-bridges
golden_with-requires-clause-bridges g c κs within = none-can _ _ c.new.result.items c.new.ensures.items

pub returns-clause-promised : goal.returns-clause-promised
returns-clause-promised g c =
    subst
    (λ (models : Models). Promised models (texts c.args.words.now) (loads_of g.S.Shelf c.args.shelf.now c.golden_with.new.shelf) (puts_of g.K.Sink c.args.out.now c.golden_with.new.out) (puts_of g.E.Sink c.args.err.now c.golden_with.new.err) c.golden_with.result)
    (none-models _ c.new.result.items c.new.ensures.items) c.golden_with.ensures.promised
