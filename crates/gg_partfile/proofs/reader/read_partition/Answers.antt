use Rattle.serde_json.specs.View.{view}
use Rattle.gg_partfile.proofs.RequestLemmas.{few-read}
use Rattle.gg_partfile.proofs.reader.read_partition.Goals as goal

pub returns-in-Ok-clause-entries : goal.returns-in-Ok-clause-entries
returns-in-Ok-clause-entries c = few-read c.args.bytes.now (view c.in-Ok.value) c.request_of.result c.in-Ok.ensures.ok.1 c.request_of.ensures.asks
