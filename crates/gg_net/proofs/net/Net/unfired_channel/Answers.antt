use Rattle.std.proofs.Common.{sym}
use Rattle.gg_net.proofs.TableLemmas.{none-unfired, first-unfired}
use Rattle.gg_net.proofs.net.Net.unfired_channel.Goals as goal

pub returns-in_default : goal.returns-in_default
returns-in_default g c = sym (none-unfired c.args.self.now c.kept.ensures.sound.wired c.args.machine c.requires c.in_default.ensures)

pub returns : goal.returns
returns g c =
    sym (first-unfired c.args.self.now c.kept.ensures.sound.wired c.args.machine c.requires c.out_channel.result (record { out = c.in-Some.place; first = c.in-Some.ensures; at = c.out_channel.ensures }))
