use Rattle.std.proofs.Common.{◌≡◌, take}
use Rattle.gg_types.specs.Literal.{digits_number}
use Rattle.gg_types.proofs.literals.digits_number.Given as goal

abbrev pub invariant-loop-byte : goal.invariant-loop-byte
invariant-loop-byte l = l.number ≡ digits_number l.radix (take l.byte-index l.digits)
