use Rattle.std.proofs.Common.{List, ◌∙◌, ap, map}
use Rattle.gg_ast.specs.Tree.{ModuleTree}
use Rattle.gg_elab_sites.specs.Counts.{capped, words_in}
use Rattle.gg_elab_sites.proofs.CountLemmas.{words-are}
use Rattle.gg_elab_sites.proofs.counts.word_total.Goals as goal

pub returns : goal.returns
returns c = words-are c.args.circuit.now.modules c.in_ok-words.words.items c.args.place c.gather_at-total.result (c.in_ok-words.ensures ∙ ap (λ (ms : List ModuleTree). map (λ m. capped (words_in m)) ms) c.modules.ensures) c.requires.place c.gather_at-total.ensures
