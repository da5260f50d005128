use Rattle.std.proofs.Common.{◌≡◌, map, take}
use Rattle.gg_elab_sites.specs.inside.Views.{own_bank_of}
use Rattle.gg_elab_sites.specs.Signals.{own_banks}
use Rattle.gg_elab_sites.proofs.digest.memories.Given as goal

abbrev pub invariant-loop-statement : goal.invariant-loop-statement
invariant-loop-statement l = map own_bank_of l.memories.items ≡ own_banks (take l.statement-index l.statements)
