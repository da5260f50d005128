-- More on Memory: what no promise of the program reaches.
use Rattle.std.specs.Prelude.{ℕ, List, [], ◌∷◌, Option, Some, None, if◌then◌else◌}
use Rattle.std.specs.Str.{bytes_eq}
use Rattle.gg_shape_names.specs.declared.role.PortField.{PortField}
use Rattle.gg_shape_names.specs.Memory.{field_name}

-- the field with this text, among these
abbrev pub field_of : List ℕ → List PortField → Option PortField
field_of name [] = None
field_of name (f ∷ fs) = if bytes_eq name (field_name f) then Some f else field_of name fs
