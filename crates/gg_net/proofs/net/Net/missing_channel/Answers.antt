use Rattle.std.proofs.Common.{sym, ◌∙◌}
use Rattle.gg_net.proofs.NetLemmas.{missing-within}
use Rattle.gg_net.proofs.TableLemmas.{needs-none, needs-first}
use Rattle.gg_net.proofs.net.Net.missing_channel.Goals as goal

pub returns-in_default : goal.returns-in_default
returns-in_default g c =
    sym (needs-none c.args.self.now c.kept.ensures.sound.wired c.args.channel c.requires c.wire-wire.result c.wire-wire.ensures.is (sym c.missing.ensures ∙ c.in_default.is))

pub in_channel-requires-clause-within : goal.in_channel-requires-clause-within
in_channel-requires-clause-within g c κs within =
    missing-within g.Z.Streams.flow c.args.self.now c.kept.ensures c.wire-wire.result.producer c.wire-wire.ensures.producer c.wire-wire.result.out c.in-Some.place (sym c.missing.ensures ∙ c.in-Some.is)

pub returns : goal.returns
returns g c =
    sym (needs-first c.args.self.now c.kept.ensures.sound.wired c.args.channel c.requires c.wire-wire.result c.wire-wire.ensures.is c.in-Some.place c.in_channel.result (sym c.missing.ensures ∙ c.in-Some.is) c.in_channel.ensures)
