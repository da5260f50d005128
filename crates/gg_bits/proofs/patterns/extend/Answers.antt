use Rattle.gg_bits.proofs.PatternLaws.{below_wider, uint_extended, same_extended}
use Rattle.gg_bits.proofs.patterns.extend.Goals as goal

pub returns-in-UInt-clause-value : goal.returns-in-UInt-clause-value
returns-in-UInt-clause-value c =
    uint_extended c.args.ty.kind c.args.ty.width c.args.width c.args.v.0 c.in-UInt.is c.requires.longer c.requires.typed

pub returns-in-UInt-clause-typed : goal.returns-in-UInt-clause-typed
returns-in-UInt-clause-typed c = below_wider c.args.v.0 c.args.ty.width c.args.width c.requires.longer c.requires.typed

pub returns-in-SInt-clause-value : goal.returns-in-SInt-clause-value
returns-in-SInt-clause-value c =
    same_extended c.args.ty.kind c.args.ty.width c.args.width c.args.v.0 c.if-ty-width.true c.requires.typed
