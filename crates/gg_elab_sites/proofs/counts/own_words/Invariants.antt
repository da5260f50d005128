use Rattle.std.proofs.Common.{◌≡◌, take, map}
use Rattle.gg_elab_sites.specs.Counts.{capped, words_in}
use Rattle.gg_elab_sites.proofs.counts.own_words.Given as goal

-- the words of the modules so far
abbrev pub invariant-loop-module : goal.invariant-loop-module
invariant-loop-module l = l.words.items ≡ map (λ m. capped (words_in m)) (take l.module-index l.modules)
