-- What is wrong with an operation's operands, in words.
-- Source: this program's own.
use Rattle.std.specs.Prelude.{ℕ, List, ◌++◌, codes, decimal}
use Rattle.gg_bits.specs.declared.types.Bad.{Bad}
use Rattle.gg_bits.specs.declared.types.Bad.TheVariants.{Kind, Width, Param}

-- how a value of `Bad` is printed, with the width in decimal
abbrev pub bad_text : Bad → List ℕ
bad_text Kind = codes "an operand is of a kind that the operation does not take"
bad_text (Width width) = codes "the result would have " ++ decimal width ++ codes " bits"
bad_text Param = codes "a parameter is out of range"
