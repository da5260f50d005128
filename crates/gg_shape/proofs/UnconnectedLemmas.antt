-- Which sinks of a declaration are unconnected, part by part.
use Rattle.std.proofs.Common.{◌≡◌, ℕ, ◌<◌, Bool, true, false, true≢false, if◌then◌else◌, arith, List, [], ◌∷◌, ◌++◌, length, map, filter, get_or, Some, None, refl, sym, ap, ◌∙◌}
use denote.Ref.{Bor}
use Rattle.std.specs.List.{flat_map}
use Rattle.std.proofs.lemmas.List.{get_or-map, length-map}
use Rattle.std.proofs.lemmas.List.Folds.{flat_map-map}
use Rattle.std.proofs.lemmas.Grind.{flat_map-append}
use Rattle.gg_ast.specs.declared.expression.Reference.{Reference}
use Rattle.gg_ast.specs.declared.module.Direction.{Direction}
use Rattle.gg_ast.specs.declared.module.Direction.TheVariants.{Input, Output}
use Rattle.gg_ast.specs.declared.module.Port.{Port}
use Rattle.gg_ast.specs.declared.statement.Field.{Field}
use Rattle.gg_ast.specs.Places.{place_of}
use Rattle.gg_ast.specs.Tree.{ModuleTree, empty_module, names_of}
use Rattle.gg_shape_names.specs.declared.role.PortKind.{PortKind}
use Rattle.gg_shape_names.specs.declared.role.PortKind.TheVariants.{Reader, Writer}
use Rattle.gg_shape_names.specs.Memory.{as_port, readers_in, writers_in, port_fields}
use Rattle.gg_shape_names.specs.Modules.{module_at}
use Rattle.gg_shape_names.specs.Namespace.{module_named, instance_port, instance_ports, port_entries, port_field, memory_entries}
use Rattle.gg_shape_names.specs.inside.Tables.{readers_of, writers_of}
use Rattle.gg_shape_names.proofs.BlockLemmas.{at-place, at-none}
use Rattle.gg_shape.specs.Shape.{unconnected_entry}
use Rattle.gg_shape.specs.inside.Told.{is_in, is_input, inputs_of, unconnected_input, unconnected_of_port, unconnected_in_field}

module _ (connected : Reference → Bool) (line : ℕ) where
  -- ---- instances

  input-at : (instance : List ℕ) (port : Port) → is_input port ≡ false → unconnected_entry connected line (instance_port instance port) ≡ []
  input-at instance port none = go port.direction refl
    where
      go : (d : Direction) → port.direction ≡ d → unconnected_entry connected line (instance_port instance port) ≡ []
      go Input e = absurd (true≢false (sym (ap is_in e) ∙ none))
      go Output e = rw e refl

  -- an instance's outputs need no connection, so only its inputs count
  inputs-alone : (instance : List ℕ) (ports : List Port) → flat_map (unconnected_entry connected line) (map (instance_port instance) ports) ≡ flat_map (λ p. unconnected_entry connected line (instance_port instance p)) (filter is_input ports)
  inputs-alone instance [] = refl
  inputs-alone instance (p ∷ ps) = go (is_input p) refl (inputs-alone instance ps)
    where
      go : (b : Bool) → is_input p ≡ b
          → flat_map (unconnected_entry connected line) (map (instance_port instance) ps) ≡ flat_map (λ q. unconnected_entry connected line (instance_port instance q)) (filter is_input ps)
          → flat_map (unconnected_entry connected line) (map (instance_port instance) (p ∷ ps)) ≡ flat_map (λ q. unconnected_entry connected line (instance_port instance q)) (filter is_input (p ∷ ps))
      go true e rest =
          ap (λ l. unconnected_entry connected line (instance_port instance p) ++ l) rest
          ∙ sym (ap (λ b. flat_map (λ q. unconnected_entry connected line (instance_port instance q)) (if b then p ∷ filter is_input ps else filter is_input ps)) e)
      go false e rest =
          ap (λ l. l ++ flat_map (unconnected_entry connected line) (map (instance_port instance) ps)) (input-at instance p e) ∙ rest
          ∙ sym (ap (λ b. flat_map (λ q. unconnected_entry connected line (instance_port instance q)) (if b then p ∷ filter is_input ps else filter is_input ps)) e)

  pub instance-told : (modules : List ModuleTree) (instance held : List ℕ) (place : ℕ) (inputs : List Port) (ports : List (Bor Port)) → place_of held (names_of modules) ≡ Some place → inputs ≡ get_or (map inputs_of modules) place inputs → map (λ (p : Bor Port). p.now) ports ≡ inputs → flat_map (unconnected_entry connected line) (instance_ports instance (module_named held modules)) ≡ flat_map (unconnected_input instance connected line) ports
  instance-told modules instance held place inputs ports is at seen =
      let there = at-place modules held place is in
      let m = module_at modules place in
      let same : inputs ≡ inputs_of m = at ∙ get_or-map inputs_of modules place (empty_module 0 []) inputs there.within in
      ap (λ o. flat_map (unconnected_entry connected line) (instance_ports instance o)) there.named
      ∙ inputs-alone instance m.ports
      ∙ ap (flat_map (λ p. unconnected_entry connected line (instance_port instance p))) (sym same ∙ sym seen)
      ∙ flat_map-map (λ p. unconnected_entry connected line (instance_port instance p)) (λ (p : Bor Port). p.now) ports

  pub place-told : (modules : List ModuleTree) (held : List ℕ) (place : ℕ) (inputs : List (List Port)) → inputs ≡ map inputs_of modules → place_of held (names_of modules) ≡ Some place → place < length inputs
  place-told modules held place inputs all is = omega (arith, (at-place modules held place is).within, ap length all, length-map {A = ModuleTree} {B = List Port})

  pub instance-none : (modules : List ModuleTree) (instance held : List ℕ) → place_of held (names_of modules) ≡ None → flat_map (unconnected_entry connected line) (instance_ports instance (module_named held modules)) ≡ []
  instance-none modules instance held is = ap (λ o. flat_map (unconnected_entry connected line) (instance_ports instance o)) (at-none modules held is)

  -- ---- memories

  port-told : (memory : List ℕ) (kind : PortKind) (port : List ℕ) → flat_map (unconnected_entry connected line) (port_entries memory (port, kind)) ≡ unconnected_of_port kind memory connected line port
  port-told memory kind port = flat_map-map (unconnected_entry connected line) (port_field memory port kind) (port_fields kind)

  ports-told : (memory : List ℕ) (kind : PortKind) (ports : List (List ℕ)) → flat_map (unconnected_entry connected line) (flat_map (port_entries memory) (map (as_port kind) ports)) ≡ flat_map (unconnected_of_port kind memory connected line) ports
  ports-told memory kind [] = refl
  ports-told memory kind (p ∷ ps) =
      flat_map-append (unconnected_entry connected line) (port_entries memory (p, kind)) (flat_map (port_entries memory) (map (as_port kind) ps))
      ∙ ap (λ l. l ++ flat_map (unconnected_entry connected line) (flat_map (port_entries memory) (map (as_port kind) ps))) (port-told memory kind p)
      ∙ ap (λ l. unconnected_of_port kind memory connected line p ++ l) (ports-told memory kind ps)

  readers-told : (memory : List ℕ) (fields : List Field) → flat_map (unconnected_of_port Reader memory connected line) (readers_of fields) ≡ flat_map (unconnected_in_field Reader memory connected line) fields
  readers-told memory [] = refl
  readers-told memory (f ∷ fs) =
      flat_map-append (unconnected_of_port Reader memory connected line) (readers_in f.kind) (readers_of fs)
      ∙ ap (λ l. unconnected_in_field Reader memory connected line f ++ l) (readers-told memory fs)

  writers-told : (memory : List ℕ) (fields : List Field) → flat_map (unconnected_of_port Writer memory connected line) (writers_of fields) ≡ flat_map (unconnected_in_field Writer memory connected line) fields
  writers-told memory [] = refl
  writers-told memory (f ∷ fs) =
      flat_map-append (unconnected_of_port Writer memory connected line) (writers_in f.kind) (writers_of fs)
      ∙ ap (λ l. unconnected_in_field Writer memory connected line f ++ l) (writers-told memory fs)

  pub memory-told : (memory : List ℕ) (fields : List Field) → flat_map (unconnected_entry connected line) (memory_entries memory fields) ≡ flat_map (unconnected_in_field Reader memory connected line) fields ++ flat_map (unconnected_in_field Writer memory connected line) fields
  memory-told memory fields =
      ap (flat_map (unconnected_entry connected line)) (flat_map-append (port_entries memory) (map (as_port Reader) (readers_of fields)) (map (as_port Writer) (writers_of fields)))
      ∙ flat_map-append (unconnected_entry connected line) (flat_map (port_entries memory) (map (as_port Reader) (readers_of fields))) (flat_map (port_entries memory) (map (as_port Writer) (writers_of fields)))
      ∙ ap (λ l. l ++ flat_map (unconnected_entry connected line) (flat_map (port_entries memory) (map (as_port Writer) (writers_of fields)))) (ports-told memory Reader (readers_of fields) ∙ readers-told memory fields)
      ∙ ap (λ l. flat_map (unconnected_in_field Reader memory connected line) fields ++ l) (ports-told memory Writer (writers_of fields) ∙ writers-told memory fields)
