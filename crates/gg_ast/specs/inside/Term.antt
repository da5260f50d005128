-- More on Term: what no promise of the program reaches.
use Rattle.std.specs.Prelude.{ℕ, ◌+◌}
use Rattle.gg_ast.specs.Term.{BinaryTerm, ConstantTerm, FixedTerm, MuxTerm, NamedTerm, Term, UnaryTerm}

-- how many operations and leaves a term has; a recursion over the term decreases it
abbrev pub size_of : Term → ℕ
size_of (NamedTerm r) = 1
size_of (ConstantTerm l) = 1
size_of (UnaryTerm o a) = size_of a + 1
size_of (BinaryTerm o a b) = size_of a + size_of b + 1
size_of (FixedTerm o a n m) = size_of a + 1
size_of (MuxTerm c a b) = size_of c + size_of a + size_of b + 1
