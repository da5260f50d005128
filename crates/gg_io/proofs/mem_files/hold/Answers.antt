use Rattle.std.proofs.Common.{arith}
use Rattle.std.proofs.lemmas.Map.Text.{text_keys}
use Rattle.gg_io.proofs.mem_files.hold.Goals as goal

-- only the name's bytes were changed in the map
pub returns-clause-others : goal.returns-clause-others
returns-clause-others c = grind (arith, text_keys)
