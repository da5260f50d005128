use Rattle.std.proofs.Common.{arith}
use Rattle.golden_commands.proofs.partition.request_of.Goals as goal

pub returns-in-Ok-clause-small : goal.returns-in-Ok-clause-small
returns-in-Ok-clause-small c =
    let few = c.in-Ok.ensures.entries in
    record {
      units = omega (arith, few.units, c.requires);
      share = omega (arith, few.share, c.requires);
      memories = omega (arith, few.memories, c.requires);
      pipe = omega (arith, few.pipe, c.requires);
      bridges = omega (arith, few.bridges, c.requires);
      seen = omega (arith, few.seen, c.requires);
      driven = omega (arith, few.driven, c.requires);
    }
