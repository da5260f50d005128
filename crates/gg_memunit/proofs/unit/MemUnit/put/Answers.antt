use Rattle.std.proofs.Common.{Some, ◌∙◌}
use Rattle.std.proofs.lemmas.List.{length-set}
use Rattle.gg_memunit.proofs.UnitLemmas.{tokens-set}
use Rattle.gg_memunit.proofs.unit.MemUnit.put.Goals as goal

pub invariant_of-self : goal.invariant_of-self
invariant_of-self c =
    let unit = c.self.inside in
    let kept = c.self.invariant in
    record {
      memory = kept.memory;
      none = kept.none;
      one = kept.one;
      held = kept.held;
      ins = length-set unit.latches.items c.args.place (Some c.args.token) ∙ kept.ins;
      outs = kept.outs;
      tokens = tokens-set unit.inputs.items unit.latches.items c.args.place c.args.token kept.tokens;
    }
