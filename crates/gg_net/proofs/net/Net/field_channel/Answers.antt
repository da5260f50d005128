use Rattle.std.proofs.Common.{sym, ◌∙◌}
use Rattle.gg_net.proofs.NetLemmas.{field-within}
use Rattle.gg_net.proofs.TableLemmas.{fields-none, fields-first}
use Rattle.gg_net.proofs.net.Net.field_channel.Goals as goal

pub returns-in_default : goal.returns-in_default
returns-in_default g c = sym (fields-none c.args.self.now c.kept.ensures.sound.wired c.args.machine c.requires.there (sym c.missing_field.ensures ∙ c.in_default.is))

pub in_channel-requires-clause-within : goal.in_channel-requires-clause-within
in_channel-requires-clause-within g c κs within =
    field-within g.Z.Streams.flow c.args.self.now c.kept.ensures c.args.machine c.requires.there c.args.port c.in-Some.place c.requires.due (sym c.missing_field.ensures ∙ c.in-Some.is)

pub returns : goal.returns
returns g c =
    sym (fields-first c.args.self.now c.kept.ensures.sound.wired c.args.machine c.requires.there c.in-Some.place c.in_channel.result (sym c.missing_field.ensures ∙ c.in-Some.is) c.in_channel.ensures)
