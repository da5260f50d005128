-- The ways of a module's names, and their places.
use Rattle.std.proofs.Common.{◌≡◌, ℕ, ◌<◌, List, [], ◌∷◌, ◌++◌, length, map, Option, Some, None, IfSome, refl, sym, ap, ◌∙◌}
use Rattle.std.proofs.lemmas.List.{map-append}
use Rattle.std.specs.List.{flat_map}
use Rattle.gg_ast.specs.declared.module.Port.{Port}
use Rattle.gg_ast.specs.declared.statement.Stmt.{Stmt}
use Rattle.gg_ast.specs.declared.statement.StmtKind as statements
use Rattle.gg_ast.specs.declared.statement.StmtKind.TheVariants as kinds
use Rattle.gg_ast.specs.Tree.{ModuleTree}
use Rattle.gg_shape_names.specs.Namespace.{name_by, name_by_kind}
use Rattle.gg_shape_names.specs.inside.Namespace.{names_in}
use Rattle.gg_types.specs.declared.way.Way.{Way}
use Rattle.gg_types.specs.Clocks.{port_way, way_of_port, ways_by, ways_of}
use Rattle.gg_types.specs.inside.Places.{place_in}
use Rattle.gg_types.proofs.PlaceLemmas.{place-within}

abbrev name_of : List ℕ × Way → List ℕ
name_of w = w.0

abbrev way_of : List ℕ × Way → Way
way_of w = w.1

port-names : (ports : List Port) → map name_of (map port_way ports) ≡ map (λ (p : Port). p.name) ports
port-names [] = refl
port-names (p ∷ ps) = ap (λ l. p.name ∷ l) (port-names ps)

port-ways : (ports : List Port) → map (λ (p : Port). way_of_port p.direction) ports ≡ map way_of (map port_way ports)
port-ways [] = refl
port-ways (p ∷ ps) = ap (λ l. way_of_port p.direction ∷ l) (port-ways ps)

name-by : (k : statements.StmtKind) → map name_of (ways_by k) ≡ name_by_kind k
name-by (kinds.Wire name ty) = refl
name-by (kinds.Node name value) = refl
name-by (kinds.Register name ty clock reset) = refl
name-by (kinds.Instance name of_module) = refl
name-by (kinds.Memory name fields) = refl
name-by (kinds.Connect sink source) = refl
name-by (kinds.Invalid sink) = refl
name-by kinds.Skip = refl
name-by (kinds.Stop clock condition code label) = refl
name-by (kinds.Report word arguments label) = refl

names-by : (ss : List Stmt) → map name_of (flat_map (λ (s : Stmt). ways_by s.kind) ss) ≡ flat_map name_by ss
names-by [] = refl
names-by (s ∷ ss) =
    map-append name_of (ways_by s.kind) (flat_map (λ (t : Stmt). ways_by t.kind) ss)
    ∙ ap (λ l. l ++ map name_of (flat_map (λ (t : Stmt). ways_by t.kind) ss)) (name-by s.kind)
    ∙ ap (λ l. name_by s ++ l) (names-by ss)

-- the names with ways are those that the module declares
pub ways-names : (m : ModuleTree) → map (λ (w : List ℕ × Way). w.0) (ways_of m) ≡ names_in m
ways-names m =
    map-append name_of (map port_way m.ports) (flat_map (λ (s : Stmt). ways_by s.kind) m.statements)
    ∙ ap (λ l. l ++ map name_of (flat_map (λ (s : Stmt). ways_by s.kind) m.statements)) (port-names m.ports)
    ∙ ap (λ l. map (λ (p : Port). p.name) m.ports ++ l) (names-by m.statements)

-- the ways of the ports come first, and then those of the statements
pub ways-split : (m : ModuleTree) (ports : List Port) (ss : List Stmt) → ports ≡ m.ports → ss ≡ m.statements → map (λ (p : Port). way_of_port p.direction) ports ++ map (λ (w : List ℕ × Way). w.1) (flat_map (λ (s : Stmt). ways_by s.kind) ss) ≡ map (λ (w : List ℕ × Way). w.1) (ways_of m)
ways-split m ports ss p s =
    ap (λ l. map (λ (p : Port). way_of_port p.direction) l ++ map way_of (flat_map (λ (t : Stmt). ways_by t.kind) ss)) p
    ∙ ap (λ l. map (λ (p : Port). way_of_port p.direction) m.ports ++ map way_of (flat_map (λ (t : Stmt). ways_by t.kind) l)) s
    ∙ ap (λ l. l ++ map way_of (flat_map (λ (t : Stmt). ways_by t.kind) m.statements)) (port-ways m.ports)
    ∙ sym (map-append way_of (map port_way m.ports) (flat_map (λ (t : Stmt). ways_by t.kind) m.statements))

-- the place of a name is below the number of names
pub place-there : (name : List ℕ) (ways : List (List ℕ × Way)) (o : Option ℕ) → o ≡ place_in name ways → IfSome o (λ place. place < length ways)
place-there name ways None is = tt
place-there name ways (Some k) is = place-within name ways k (sym is)
