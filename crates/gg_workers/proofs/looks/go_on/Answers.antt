use Rattle.std.proofs.Common.{◌∙◌}
use Rattle.gg_workers.specs.inside.Turns.{steps_of, machines_in}
use Rattle.gg_workers.proofs.StepLemmas.{told-then}
use Rattle.gg_workers.proofs.looks.go_on.Goals as goal

pub loop-next-preserved : goal.loop-next-preserved
loop-next-preserved g c =
    let inv = c.loop-next.invariant in
    let looked = c.look_all-looked.ensures in
    record {
      linked_hosts = looked.linked_hosts;
      numbers = looked.numbers ∙ inv.numbers;
      told = told-then steps_of (machines_in g.H.Host.machines c.args.linked_hosts.now.items) (machines_in g.H.Host.machines c.loop-next.linked_hosts.items) (machines_in g.H.Host.machines c.look_all-looked.new.linked_hosts.items) c.loop-next.stepped c.look_all-looked.result.stepped inv.told looked.told;
    }

pub returns-then-waits : goal.returns-then-waits
returns-then-waits g c =
    let inv = c.loop-next.invariant in
    let looked = c.look_all-looked.ensures in
    record {
      linked_hosts = looked.linked_hosts;
      numbers = looked.numbers ∙ inv.numbers;
      told = told-then steps_of (machines_in g.H.Host.machines c.args.linked_hosts.now.items) (machines_in g.H.Host.machines c.loop-next.linked_hosts.items) (machines_in g.H.Host.machines c.look_all-looked.new.linked_hosts.items) c.loop-next.stepped c.look_all-looked.result.stepped inv.told looked.told;
    }
