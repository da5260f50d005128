use Rattle.std.proofs.Common.{subst, sym}
use Rattle.std.proofs.lemmas.Result.{on_ok_weaker}
use Rattle.gg_replay.specs.inside.Log.{AreFronts}
use Rattle.gg_replay.proofs.FrontLemmas.{newest-added}
use Rattle.gg_replay.proofs.steps.add_newest.Goals as goal

pub returns-in-Some : goal.returns-in-Some
returns-in-Some g c =
    on_ok_weaker c.push.result (λ is. subst (AreFronts g.Z.Streams.flow c.args.net.now) (sym is) (newest-added g.Z.Streams.flow c.args.net.now c.args.log.now c.args.channel c.in-Some.token c.requires (c.in-Some.ensures {u = tt}).1)) c.push.ensures
