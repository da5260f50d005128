use Rattle.std.proofs.Common.{◌-◌, ◌∙◌, arith}
use Rattle.std.proofs.lemmas.Nat.{pow_pos}
use Rattle.std.proofs.Math.Nat.{mod-lt}
use Rattle.gg_bits.proofs.PatternLaws.{masked, pattern_of-low}
use Rattle.gg_bits.proofs.patterns.fit.Goals as goal

pub returns-clause-low : goal.returns-clause-low
returns-clause-low c = masked c.args.x c.args.width c.ones.result c.ones.ensures

pub returns-clause-small : goal.returns-clause-small
returns-clause-small c =
    rw (masked c.args.x c.args.width c.ones.result c.ones.ensures) (mod-lt c.args.x (pow_pos c.args.width))

pub returns-clause-fitted : goal.returns-clause-fitted
returns-clause-fitted c =
    λ z e. masked c.args.x c.args.width c.ones.result c.ones.ensures
    ∙ pattern_of-low c.args.x c.args.width (128 - c.args.width) 128 (omega arith) z e
