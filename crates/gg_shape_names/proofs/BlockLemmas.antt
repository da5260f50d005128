-- What can be written of one declaration.
use Rattle.std.proofs.Common.{◌≡◌, ℕ, suc, ◌+◌, ◌<◌, true≢false, is_some, Bool, true, false, ◌&&◌, ◌||◌, List, [], ◌∷◌, ◌++◌, length, map, Option, Some, None, refl, sym, ap, ◌∙◌, if◌then◌else◌, arith}
use Rattle.std.specs.List.{list_any, flat_map}
use Rattle.std.specs.Option.{option_map}
use Rattle.std.specs.Str.{bytes_eq}
use Rattle.std.proofs.lemmas.Grind.{flat_map-append}
use Rattle.gg_ast.specs.declared.expression.Reference.{Reference}
use Rattle.gg_ast.specs.declared.expression.Reference.TheVariants.{Local, PortOf, FieldOf}
use Rattle.gg_ast.specs.declared.module.Port.{Port}
use Rattle.gg_ast.specs.declared.statement.Field.{Field}
use Rattle.gg_ast.specs.Places.{place_of}
use Rattle.gg_ast.specs.Tree.{ModuleTree, names_of}
use Rattle.gg_shape_names.specs.declared.role.Role.{Role}
use Rattle.gg_shape_names.specs.declared.role.Role.TheVariants as roles
use Rattle.gg_shape_names.specs.declared.role.PortKind.{PortKind}
use Rattle.gg_shape_names.specs.declared.role.PortKind.TheVariants.{Reader, Writer}
use Rattle.gg_shape_names.specs.declared.role.PortField.{PortField}
use Rattle.gg_shape_names.specs.declared.table.Declared.{Declared}
use Rattle.gg_shape_names.specs.declared.table.Declared.TheVariants.{Plain, Instance, Memory}
use Rattle.gg_shape_names.specs.Memory.{as_port, port_fields, field_name}
use Rattle.gg_shape_names.specs.inside.Memory.{field_of}
use Rattle.gg_shape_names.specs.Modules.{module_at}
use Rattle.gg_shape_names.specs.Namespace.{module_named, instance_port, instance_ports, port_field, port_entries, memory_entries}
use Rattle.gg_shape_names.specs.Scope.{same_reference, entry_of, first_name}
use Rattle.gg_shape_names.specs.inside.Tables.{HavePorts, readers_of, writers_of, through, role_of_port_named, field_role, role_of_field}
use Rattle.gg_bits.specs.Lists.{or_else}

-- These are all entries of what this name declares: a reference that begins with the name stands for what the declaration tells,
-- and no other reference has an entry.
abbrev no_role : Option Role
no_role = None

unfoldable pub IsBlock : List ModuleTree → List ℕ → Declared → List (Reference × Role) → Type 0
IsBlock modules name declared block = (r : Reference) → entry_of r block ≡ (if bytes_eq (first_name r) name then through modules declared r else None)

none_both : (b : Bool) → no_role ≡ (if b then no_role else no_role)
none_both true = refl
none_both false = refl

pub entry_of-append : (r : Reference) (xs ys : List (Reference × Role)) → entry_of r (xs ++ ys) ≡ or_else (entry_of r xs) (entry_of r ys)
entry_of-append r [] ys = refl
entry_of-append r (x ∷ xs) ys = go (same_reference r x.0) refl (entry_of-append r xs ys)
  where
    go : (b : Bool) → same_reference r x.0 ≡ b → entry_of r (xs ++ ys) ≡ or_else (entry_of r xs) (entry_of r ys) → entry_of r (x ∷ (xs ++ ys)) ≡ or_else (entry_of r (x ∷ xs)) (entry_of r ys)
    go true e rest = rw e refl
    go false e rest = rw e rest

-- ---- ports, wires, registers, nodes

pub plain-block : (modules : List ModuleTree) (name : List ℕ) (role : Role) → IsBlock modules name (Plain role) ((Local name, role) ∷ [])
unfolding IsBlock
plain-block modules name role (Local a) = refl
plain-block modules name role (PortOf a b) = none_both (bytes_eq a name)
plain-block modules name role (FieldOf a b c) = none_both (bytes_eq a name)

-- ---- instances

-- the first module with this name is the one at place k
pub record IsAt (modules : List ModuleTree) (name : List ℕ) (k : ℕ) : Type 0 where
  pub within : k < length modules
  pub named : module_named name modules ≡ Some (module_at modules k)

pub at-place : (modules : List ModuleTree) (name : List ℕ) (k : ℕ) → place_of name (names_of modules) ≡ Some k → IsAt modules name k
at-place [] name k h = cc
at-place (m ∷ ms) name k h = go (bytes_eq name m.name) refl (place_of name (names_of ms)) refl (at-place ms name)
  where
    at : Bool → Option ℕ
    at b = if b then Some 0 else option_map (λ j. j + 1) (place_of name (names_of ms))

    go : (b : Bool) → bytes_eq name m.name ≡ b → (o : Option ℕ) → place_of name (names_of ms) ≡ o → ((j : ℕ) → place_of name (names_of ms) ≡ Some j → IsAt ms name j) → IsAt (m ∷ ms) name k
    go true e o u rest =
        let f : Some 0 ≡ Some k = sym (ap at e) ∙ h in
        let z : 0 ≡ k = cc in
        record { within = omega arith; named = ap (λ b. if b then Some m else module_named name ms) e ∙ ap (λ j. Some (module_at (m ∷ ms) j)) z }
    go false e None u rest =
        let f : None ≡ Some k = sym (ap at e ∙ ap (option_map (λ j. j + 1)) u) ∙ h in
        cc
    go false e (Some j) u rest =
        let f : Some (j + 1) ≡ Some k = sym (ap at e ∙ ap (option_map (λ j. j + 1)) u) ∙ h in
        let z : j + 1 ≡ k = cc in
        let inner = rest j u in
        let s : suc j ≡ k = omega arith in
        let lt = inner.within in
        record { within = omega arith; named = ap (λ b. if b then Some m else module_named name ms) e ∙ inner.named ∙ ap (λ j. Some (module_at (m ∷ ms) j)) s }

pub at-none : (modules : List ModuleTree) (name : List ℕ) → place_of name (names_of modules) ≡ None → module_named name modules ≡ None
at-none [] name h = refl
at-none (m ∷ ms) name h = go (bytes_eq name m.name) refl (place_of name (names_of ms)) refl (at-none ms name)
  where
    at : Bool → Option ℕ
    at b = if b then Some 0 else option_map (λ j. j + 1) (place_of name (names_of ms))

    go : (b : Bool) → bytes_eq name m.name ≡ b → (o : Option ℕ) → place_of name (names_of ms) ≡ o → (place_of name (names_of ms) ≡ None → module_named name ms ≡ None) → module_named name (m ∷ ms) ≡ None
    go true e o u rest =
        absurd (true≢false (ap is_some (sym (ap at e) ∙ h)))
    go false e None u rest = ap (λ b. if b then Some m else module_named name ms) e ∙ rest u
    go false e (Some j) u rest =
        absurd (true≢false (ap is_some (sym (ap at e ∙ ap (option_map (λ j. j + 1)) u) ∙ h)))

local-ports : (a name : List ℕ) (ports : List Port) → entry_of (Local a) (map (instance_port name) ports) ≡ None
local-ports a name [] = refl
local-ports a name (p ∷ ps) = local-ports a name ps

field-ports : (a b c name : List ℕ) (ports : List Port) → entry_of (FieldOf a b c) (map (instance_port name) ports) ≡ None
field-ports a b c name [] = refl
field-ports a b c name (p ∷ ps) = field-ports a b c name ps

port-ports : (a b name : List ℕ) (ports : List Port) → entry_of (PortOf a b) (map (instance_port name) ports) ≡ (if bytes_eq a name then role_of_port_named b ports else None)
port-ports a b name [] = none_both (bytes_eq a name)
port-ports a b name (p ∷ ps) = go (bytes_eq a name) refl (bytes_eq b p.name) refl (port-ports a b name ps)
  where
    go : (x : Bool) → bytes_eq a name ≡ x → (y : Bool) → bytes_eq b p.name ≡ y → entry_of (PortOf a b) (map (instance_port name) ps) ≡ (if bytes_eq a name then role_of_port_named b ps else None) → entry_of (PortOf a b) (map (instance_port name) (p ∷ ps)) ≡ (if bytes_eq a name then role_of_port_named b (p ∷ ps) else None)
    go true e true f rest = rw (e, f) refl
    go true e false f rest = rw (e, f) (rest ∙ ap (λ x. if x then role_of_port_named b ps else None) e)
    go false e y f rest = rw e (rest ∙ ap (λ x. if x then role_of_port_named b ps else None) e)

instance-at : (modules : List ModuleTree) (name : List ℕ) (k : ℕ) → IsBlock modules name (Instance (Some k)) ((Local name, roles.Instance) ∷ instance_ports name (Some (module_at modules k)))
unfolding IsBlock
instance-at modules name k (Local a) = ap (λ o. if bytes_eq a name then Some roles.Instance else o) (local-ports a name (module_at modules k).ports)
instance-at modules name k (PortOf a b) = port-ports a b name (module_at modules k).ports
instance-at modules name k (FieldOf a b c) = field-ports a b c name (module_at modules k).ports ∙ none_both (bytes_eq a name)

instance-none : (modules : List ModuleTree) (name : List ℕ) → IsBlock modules name (Instance None) ((Local name, roles.Instance) ∷ [])
unfolding IsBlock
instance-none modules name (Local a) = refl
instance-none modules name (PortOf a b) = none_both (bytes_eq a name)
instance-none modules name (FieldOf a b c) = none_both (bytes_eq a name)

pub instance-block : (modules : List ModuleTree) (name of_module : List ℕ) → IsBlock modules name (Instance (place_of of_module (names_of modules))) ((Local name, roles.Instance) ∷ instance_ports name (module_named of_module modules))
instance-block modules name of_module = go (place_of of_module (names_of modules)) refl
  where
    go : (o : Option ℕ) → place_of of_module (names_of modules) ≡ o → IsBlock modules name (Instance (place_of of_module (names_of modules))) ((Local name, roles.Instance) ∷ instance_ports name (module_named of_module modules))
    go None e = rw (e, at-none modules of_module e) (instance-none modules name)
    go (Some k) e = rw (e, (at-place modules of_module k e).named) (instance-at modules name k)

-- ---- memories

module _ (name : List ℕ) where
  local-fields : (a port : List ℕ) (kind : PortKind) (fs : List PortField) → entry_of (Local a) (map (port_field name port kind) fs) ≡ None
  local-fields a port kind [] = refl
  local-fields a port kind (f ∷ fs) = local-fields a port kind fs

  port-fields : (a b port : List ℕ) (kind : PortKind) (fs : List PortField) → entry_of (PortOf a b) (map (port_field name port kind) fs) ≡ None
  port-fields a b port kind [] = refl
  port-fields a b port kind (f ∷ fs) = port-fields a b port kind fs

  field-fields : (a b c port : List ℕ) (kind : PortKind) (fs : List PortField) → entry_of (FieldOf a b c) (map (port_field name port kind) fs) ≡ (if bytes_eq a name && bytes_eq b port then field_role kind (field_of c fs) else None)
  field-fields a b c port kind [] = none_both (bytes_eq a name && bytes_eq b port)
  field-fields a b c port kind (f ∷ fs) = go (bytes_eq a name) refl (bytes_eq b port) refl (bytes_eq c (field_name f)) refl (field-fields a b c port kind fs)
    where
      go : (x : Bool) → bytes_eq a name ≡ x → (y : Bool) → bytes_eq b port ≡ y → (z : Bool) → bytes_eq c (field_name f) ≡ z
          → entry_of (FieldOf a b c) (map (port_field name port kind) fs) ≡ (if bytes_eq a name && bytes_eq b port then field_role kind (field_of c fs) else None)
          → entry_of (FieldOf a b c) (map (port_field name port kind) (f ∷ fs)) ≡ (if bytes_eq a name && bytes_eq b port then field_role kind (field_of c (f ∷ fs)) else None)
      go false d y e z f rest = rw d (rest ∙ ap (λ x. if x && bytes_eq b port then field_role kind (field_of c fs) else None) d)
      go true d false e z f rest = rw (d, e) (rest ∙ ap (λ x. if x && bytes_eq b port then field_role kind (field_of c fs) else None) d ∙ ap (λ x. if x then field_role kind (field_of c fs) else None) e)
      go true d true e true f rest = rw (d, e, f) refl
      go true d true e false f rest = rw (d, e, f) (rest ∙ ap (λ x. if x && bytes_eq b port then field_role kind (field_of c fs) else None) d ∙ ap (λ x. if x then field_role kind (field_of c fs) else None) e)

  module _ (kind : PortKind) where
    abbrev entries_as : List (List ℕ) → List (Reference × Role)
    entries_as names = flat_map (port_entries name) (map (as_port kind) names)

    local-as : (a : List ℕ) (names : List (List ℕ)) → entry_of (Local a) (entries_as names) ≡ None
    local-as a [] = refl
    local-as a (n ∷ ns) =
        entry_of-append (Local a) (map (port_field name n kind) (port_fields kind)) (entries_as ns)
        ∙ ap (λ o. or_else o (entry_of (Local a) (entries_as ns))) (local-fields a n kind (port_fields kind))
        ∙ local-as a ns

    port-as : (a b : List ℕ) (names : List (List ℕ)) → entry_of (PortOf a b) (entries_as names) ≡ None
    port-as a b [] = refl
    port-as a b (n ∷ ns) =
        entry_of-append (PortOf a b) (map (port_field name n kind) (port_fields kind)) (entries_as ns)
        ∙ ap (λ o. or_else o (entry_of (PortOf a b) (entries_as ns))) (port-fields a b n kind (port_fields kind))
        ∙ port-as a b ns

    abbrev role_as : List ℕ → List ℕ → List (List ℕ) → Option Role
    role_as b c names = if list_any (bytes_eq b) names then field_role kind (field_of c (port_fields kind)) else None

    twice : (x : Option Role) (q : Bool) → or_else x (if q then x else None) ≡ x
    twice (Some r) q = refl
    twice None true = refl
    twice None false = refl

    field-as : (a b c : List ℕ) (names : List (List ℕ)) → entry_of (FieldOf a b c) (entries_as names) ≡ (if bytes_eq a name then role_as b c names else None)
    field-as a b c [] = none_both (bytes_eq a name)
    field-as a b c (n ∷ ns) =
        entry_of-append (FieldOf a b c) (map (port_field name n kind) (port_fields kind)) (entries_as ns)
        ∙ ap (λ o. or_else o (entry_of (FieldOf a b c) (entries_as ns))) (field-fields a b c n kind (port_fields kind))
        ∙ ap (or_else (if bytes_eq a name && bytes_eq b n then field_role kind (field_of c (port_fields kind)) else None)) (field-as a b c ns)
        ∙ go (bytes_eq a name) (bytes_eq b n) refl
      where
        go : (x y : Bool) → bytes_eq b n ≡ y → or_else (if x && y then field_role kind (field_of c (port_fields kind)) else None) (if x then role_as b c ns else None) ≡ (if x then role_as b c (n ∷ ns) else None)
        go false y e = refl
        go true true e = twice (field_role kind (field_of c (port_fields kind))) (list_any (bytes_eq b) ns) ∙ sym (ap (λ t. if t || list_any (bytes_eq b) ns then field_role kind (field_of c (port_fields kind)) else None) e)
        go true false e = sym (ap (λ t. if t || list_any (bytes_eq b) ns then field_role kind (field_of c (port_fields kind)) else None) e)

  memory-parts : (r : Reference) (fields : List Field) → entry_of r (memory_entries name fields) ≡ or_else (entry_of r (entries_as Reader (readers_of fields))) (entry_of r (entries_as Writer (writers_of fields)))
  memory-parts r fields =
      ap (entry_of r) (flat_map-append (port_entries name) (map (as_port Reader) (readers_of fields)) (map (as_port Writer) (writers_of fields)))
      ∙ entry_of-append r (entries_as Reader (readers_of fields)) (entries_as Writer (writers_of fields))

  field-parts : (a b c : List ℕ) (fields : List Field) (readers writers : List (List ℕ)) → HavePorts fields readers writers → entry_of (FieldOf a b c) (memory_entries name fields) ≡ (if bytes_eq a name then role_of_field readers writers b c else None)
  field-parts a b c fields readers writers have =
      memory-parts (FieldOf a b c) fields
      ∙ ap (λ o. or_else o (entry_of (FieldOf a b c) (entries_as Writer (writers_of fields)))) (field-as Reader a b c (readers_of fields))
      ∙ ap (or_else (if bytes_eq a name then role_as Reader b c (readers_of fields) else None)) (field-as Writer a b c (writers_of fields))
      ∙ go (bytes_eq a name)
    where
      same : or_else (role_as Reader b c (readers_of fields)) (role_as Writer b c (writers_of fields)) ≡ role_of_field readers writers b c
      same =
          ap (λ t. or_else (if t then field_role Reader (field_of c (port_fields Reader)) else None) (role_as Writer b c (writers_of fields))) (sym (have.reads b))
          ∙ ap (λ t. or_else (role_as Reader b c readers) (if t then field_role Writer (field_of c (port_fields Writer)) else None)) (sym (have.writes b))

      go : (x : Bool) → or_else (if x then role_as Reader b c (readers_of fields) else None) (if x then role_as Writer b c (writers_of fields) else None) ≡ (if x then role_of_field readers writers b c else None)
      go false = refl
      go true = same

  pub memory-block : (modules : List ModuleTree) (fields : List Field) (readers writers : List (List ℕ)) → HavePorts fields readers writers → IsBlock modules name (Memory readers writers) ((Local name, roles.Memory) ∷ memory_entries name fields)
  unfolding IsBlock
  memory-block modules fields readers writers have (Local a) =
      ap (λ o. if bytes_eq a name then Some roles.Memory else o)
      (memory-parts (Local a) fields
      ∙ ap (λ o. or_else o (entry_of (Local a) (entries_as Writer (writers_of fields)))) (local-as Reader a (readers_of fields))
      ∙ local-as Writer a (writers_of fields))
  memory-block modules fields readers writers have (PortOf a b) =
      memory-parts (PortOf a b) fields
      ∙ ap (λ o. or_else o (entry_of (PortOf a b) (entries_as Writer (writers_of fields)))) (port-as Reader a b (readers_of fields))
      ∙ port-as Writer a b (writers_of fields)
      ∙ none_both (bytes_eq a name)
  memory-block modules fields readers writers have (FieldOf a b c) = field-parts a b c fields readers writers have
