use Rattle.std.proofs.Common.{sym, ◌∙◌, arith}
use Rattle.std.proofs.lemmas.Map.Text.{hash_map_updates_str}
use Rattle.gg_trace.proofs.PortLaws.{name_at-read}
use Rattle.gg_trace.proofs.NameLaws.{tells_one_more}
use Rattle.gg_trace.proofs.port_table.places_of.Goals as goal

pub loop-i-preserved : goal.loop-i-preserved
loop-i-preserved c =
    tells_one_more c.args.ports.now c.loop-i.i c.as_bytes.result.now c.loop-i.places c.insert.new.self c.loop-i.invariant
    (name_at-read c.args.ports.now c.loop-i.i c.index-ports-i.result (omega arith) c.index-ports-i.is ∙ sym c.as_bytes.ensures)
    (hash_map_updates_str c.as_bytes.result.now c.loop-i.places c.insert.new.self _ c.in_ok-insert.ensures.updates)
