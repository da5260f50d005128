use Rattle.std.proofs.Common.{◌≡◌, take}
use Rattle.gg_flat.specs.Renaming.{renamed_line}
use Rattle.gg_flat.proofs.renamed.renamed_line.Given as goal

abbrev pub invariant-loop-node : goal.invariant-loop-node
invariant-loop-node g l = l.own ≡ renamed_line (g.R.Renames.numbers l.by).signals (take l.node-index l.node-items)
