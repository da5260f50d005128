-- Lists of references, each with its meaning (FIRRTL Specification, "Namespaces", "References", "Sub-fields").
use Rattle.std.specs.Prelude.{ℕ, Bool, false, ◌&&◌, List, [], ◌∷◌, ◌++◌, Option, Some, None, if◌then◌else◌}
use Rattle.std.specs.Str.{bytes_eq}
use Rattle.gg_ast.specs.declared.expression.Reference.{Reference}
use Rattle.gg_ast.specs.declared.expression.Reference.TheVariants.{Local, PortOf, FieldOf}

-- both references are written alike
abbrev pub same_reference : Reference → Reference → Bool
same_reference (Local a) (Local x) = bytes_eq a x
same_reference (Local a) (PortOf x y) = false
same_reference (Local a) (FieldOf x y z) = false
same_reference (PortOf a b) (Local x) = false
same_reference (PortOf a b) (PortOf x y) = bytes_eq a x && bytes_eq b y
same_reference (PortOf a b) (FieldOf x y z) = false
same_reference (FieldOf a b c) (Local x) = false
same_reference (FieldOf a b c) (PortOf x y) = false
same_reference (FieldOf a b c) (FieldOf x y z) = bytes_eq a x && (bytes_eq b y && bytes_eq c z)

-- the value of the first entry with this reference
abbrev pub entry_of : {A : Type 0} → Reference → List (Reference × A) → Option A
entry_of r [] = None
entry_of r (e ∷ es) = if same_reference r e.0 then Some e.1 else entry_of r es

-- the text of a reference: its names with dots between them
abbrev pub written : Reference → List ℕ
written (Local a) = a
written (PortOf a b) = a ++ 46 ∷ b
written (FieldOf a b c) = a ++ 46 ∷ (b ++ 46 ∷ c)

-- the first name of a reference, which must be declared in the module
abbrev pub first_name : Reference → List ℕ
first_name (Local a) = a
first_name (PortOf a b) = a
first_name (FieldOf a b c) = a
