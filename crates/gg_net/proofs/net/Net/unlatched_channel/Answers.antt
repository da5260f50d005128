use Rattle.std.proofs.Common.{sym}
use Rattle.gg_net.proofs.TableLemmas.{none-unlatched, first-unlatched}
use Rattle.gg_net.proofs.net.Net.unlatched_channel.Goals as goal

pub returns-in_default : goal.returns-in_default
returns-in_default g c = sym (none-unlatched c.args.self.now c.kept.ensures.sound.wired c.args.machine c.requires c.in_default.ensures)

pub returns : goal.returns
returns g c =
    sym (first-unlatched c.args.self.now c.kept.ensures.sound.wired c.args.machine c.requires c.in_channel.result (record { place = c.in-Some.place; first = c.in-Some.ensures; at = c.in_channel.ensures }))
