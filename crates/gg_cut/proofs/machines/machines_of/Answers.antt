use Rattle.std.proofs.Common.{◌∙◌}
use Rattle.gg_cut.proofs.machines.machines_of.Goals as goal

pub all_machines-requires : goal.all_machines-requires
all_machines-requires c =
    record {
      draft = c.requires;
      places = c.in_ok-places.ensures {u = tt};
      domains = c.in_ok-domains.ensures {u = tt};
      hub = λ any. c.deref-hub.ensures.value ∙ c.in_ok-kept.ensures any;
    }
