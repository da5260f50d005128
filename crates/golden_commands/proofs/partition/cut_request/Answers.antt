use Rattle.golden_commands.proofs.HandedLemmas.{all-formed}
use Rattle.golden_commands.proofs.PartitionLemmas.{request-told}
use Rattle.golden_commands.proofs.partition.cut_request.Goals as goal

pub returns-in-Err-clause-refused : goal.returns-in-Err-clause-refused
returns-in-Err-clause-refused c = request-told c.args.models.now c.args.design.now c.args.request c.in-Err.fault c.end_at_request.result c.in-Err.ensures.told c.end_at_request.ensures

pub cut-requires-clause-models : goal.cut-requires-clause-models
cut-requires-clause-models c = all-formed c.args.models.now c.requires.handed.each
