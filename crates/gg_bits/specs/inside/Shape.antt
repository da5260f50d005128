-- More on Shape: what no promise of the program reaches.
-- Source: FIRRTL Specification, "Ground Types".
use Rattle.std.specs.Prelude.{Result, Ok, Err}
use Rattle.gg_bits.specs.declared.types.Ty.{Ty}
use Rattle.gg_bits.specs.declared.types.Bad.{Bad}
use Rattle.gg_bits.specs.Shape.{Shape, shape}

-- the shape of a type that an operation returned
abbrev pub shape_of : Result Ty Bad → Result Shape Bad
shape_of (Ok ty) = Ok (shape ty)
shape_of (Err bad) = Err bad
