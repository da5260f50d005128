-- The type of what a reference names. A port, a wire and a register have the type that they are declared with, a node the type of its
-- expression. A port of an instance has the type that its module gives it. A field of a memory has its own.
-- Sources: FIRRTL Specification, "Ground Types", "Instances", "Memories".
use Rattle.std.specs.Prelude.{ℕ, List, Option, Some, None, option_map}
use Rattle.gg_bits.specs.Shape.{uint}
use Rattle.gg_ast.specs.declared.expression.Reference.{Reference}
use Rattle.gg_ast.specs.declared.module.GroundType.{GroundType}
use Rattle.gg_ast.specs.declared.module.Port.{Port}
use Rattle.gg_ast.specs.declared.statement.Field.{Field}
use Rattle.gg_flat.specs.Memory.{address_width}
use Rattle.gg_shape_names.specs.declared.role.Role.{Role}
use Rattle.gg_shape_names.specs.declared.role.Role.TheVariants as roles
use Rattle.gg_shape_names.specs.declared.role.PortField.{PortField}
use Rattle.gg_shape_names.specs.declared.role.PortField.TheVariants.{Addr, En, Clk, Data, Mask}
use Rattle.gg_types.specs.Fields.{first_said, type_said, depth_said}
use Rattle.gg_bits.specs.Lists.{find_word}
use Rattle.gg_shape_names.specs.Scope.{first_name}
use Rattle.gg_shape_names.specs.Namespace.{meaning_of}
use Rattle.gg_types.specs.declared.sort.Sort.{Sort}
use Rattle.gg_types.specs.declared.sort.Sort.TheVariants.{Clock}
use Rattle.gg_types.specs.declared.sort.Own.{Own}
use Rattle.gg_types.specs.declared.sort.Own.TheVariants as own
use Rattle.gg_types.specs.Sorts.{sort_of, bits}

-- ---- memories

-- an address can name each word; `en` and `mask` are one bit, `clk` is a Clock, `data` is a word
abbrev pub field_sort : Option GroundType → Option ℕ → PortField → Option Sort
field_sort word depth Addr = option_map (λ n. bits (uint (address_width n))) depth
field_sort word depth En = Some (bits (uint 1))
field_sort word depth Clk = Some Clock
field_sort word depth Data = option_map sort_of word
field_sort word depth Mask = Some (bits (uint 1))

-- ---- the type data of a declared name

-- a port: its name, and the type that it is declared with
abbrev pub port_own : Port → List ℕ × Option Own
port_own port = (port.name, Some (own.Single (sort_of port.ty)))

-- a memory: the type and the number of its words, as its fields say
abbrev pub memory_own : List Field → Own
memory_own fields = own.Memory (first_said type_said fields) (first_said depth_said fields)

-- the type of a name that has one itself; an instance and a memory have none
abbrev pub single : Own → Option Sort
single (own.Single s) = Some s
single own.Instance = None
single (own.Memory word depth) = None

-- the type of a memory's field; nothing if the name isn't a memory's
abbrev pub field_of : Own → PortField → Option Sort
field_of (own.Single s) field = None
field_of own.Instance field = None
field_of (own.Memory word depth) field = field_sort word depth field

-- ---- references

-- the type of what has this role, given the type data of the first name of its reference
abbrev pub typed_by : Own → Role → Option Sort
typed_by o roles.InputPort = single o
typed_by o roles.OutputPort = single o
typed_by o roles.Wire = single o
typed_by o roles.Register = single o
typed_by o roles.Node = single o
typed_by o roles.Instance = None
typed_by o roles.Memory = None
typed_by o (roles.InstanceInput ty) = Some (sort_of ty)
typed_by o (roles.InstanceOutput ty) = Some (sort_of ty)
typed_by o (roles.MemoryPort kind field) = field_of o field

-- The type of what a reference names, from the type data of its first name and from its role. Nothing if its first name isn't declared; no
-- type if that is a node without one.
abbrev pub typed : Option (Option Own) → Option Role → Option (Option Sort)
typed None role = None
typed (Some None) role = Some None
typed (Some (Some o)) None = None
typed (Some (Some o)) (Some role) = option_map (λ s. Some s) (typed_by o role)

-- What a reference names, by the roles of all that can be written in the module and by the type data of the names that
-- are declared so far: nothing, something with a type, or a node that has no type because its expression has a fault.
abbrev pub known_entry : List (Reference × Role) → List (List ℕ × Option Own) → Reference → Option (Option Sort)
known_entry roles known r = typed (find_word (first_name r) known) (meaning_of roles r)

-- the type, if there is one
abbrev pub known_sort : Option (Option Sort) → Option Sort
known_sort None = None
known_sort (Some s) = s

-- the type of what a reference names, if it names something that has one
abbrev pub sort_of_reference : List (Reference × Role) → List (List ℕ × Option Own) → Reference → Option Sort
sort_of_reference roles known r = known_sort (known_entry roles known r)
