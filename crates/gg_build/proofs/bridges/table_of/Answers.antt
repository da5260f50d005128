use Rattle.std.proofs.Common.{sym, ◌∙◌}
use Rattle.gg_build.proofs.BridgeLemmas.{put-start, put-more, put-end}
use Rattle.gg_build.proofs.bridges.table_of.Goals as goal

pub loop-name-init : goal.loop-name-init
loop-name-init g c = put-start c.args.bridges.items c.new-table.result

pub loop-name-preserved : goal.loop-name-preserved
loop-name-preserved g c = put-more c.args.bridges.items c.loop-name.left.items c.pop.new.self.items c.loop-name.table c.insert.new.self c.in-Some.name c.in-Some.bridge c.requires c.in-Some.ensures.items c.in_ok-insert.ensures.updates c.loop-name.invariant

pub loop-name-preserved-in_ok-insert : goal.loop-name-preserved-in_ok-insert
loop-name-preserved-in_ok-insert g c = put-more c.args.bridges.items c.loop-name.left.items c.pop.new.self.items c.loop-name.table c.insert.new.self c.in-Some.name c.in-Some.bridge c.requires c.in-Some.ensures.items c.in_ok-insert.ensures.updates c.loop-name.invariant

pub returns : goal.returns
returns g c = put-end c.args.bridges.items c.loop-name.left.items c.loop-name.table (sym c.loop-name.left.ok.0 ∙ c.in_default.ensures.cases.0) c.loop-name.invariant
