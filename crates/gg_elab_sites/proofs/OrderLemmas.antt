-- An order of modules as gg_shape_names defines it is an order of modules as gg_elab_sites defines it.
use Rattle.std.proofs.Common.{◌≡◌, ℕ, List, [], ◌∷◌, ◌++◌, length, Option, Some, None, option_to_list, refl, ap, ◌∙◌, subst}
use Rattle.std.specs.Prelude.{Contains, option_map, flat_map}
use Rattle.std.specs.List.{cons_option}
use Rattle.gg_ast.specs.declared.statement.Stmt.{Stmt}
use Rattle.gg_ast.specs.declared.statement.StmtKind.{StmtKind}
use Rattle.gg_ast.specs.declared.statement.StmtKind.TheVariants as says
use Rattle.gg_ast.specs.Places.{place_of}
use Rattle.gg_ast.specs.Tree.{ModuleTree, names_of}
use Rattle.gg_elab_sites.specs.Sites.{Held, held, held_by, held_by_kind, module_at}
use Rattle.gg_elab_sites.specs.inside.Sites.{HoldsModule}
use Rattle.gg_elab_sites.proofs.PassLemmas.{numbers_of}
use Rattle.gg_shape_names.specs.Modules as names
use Rattle.gg_graph.specs.inside.Graph.{IsOrderOf}

-- the module of a statement's instance is the same in both definitions
same-kind : (modules : List ModuleTree) (kind : StmtKind) → numbers_of (option_to_list (held_by_kind modules kind)) ≡ names.held_by_kind modules kind
same-kind modules (says.Wire name ty) = refl
same-kind modules (says.Node name value) = refl
same-kind modules (says.Register name ty clock reset) = refl
same-kind modules (says.Instance name of_module) = go (place_of of_module (names_of modules))
  where
    go : (p : Option ℕ) → numbers_of (option_to_list (option_map (held name) p)) ≡ option_to_list p
    go None = refl
    go (Some i) = refl
same-kind modules (says.Memory name fields) = refl
same-kind modules (says.Connect sink source) = refl
same-kind modules (says.Invalid sink) = refl
same-kind modules says.Skip = refl
same-kind modules (says.Stop clock condition code label) = refl
same-kind modules (says.Report word arguments label) = refl

split : (o : Option Held) (rest : List Held) → numbers_of (cons_option o rest) ≡ numbers_of (option_to_list o) ++ numbers_of rest
split None rest = refl
split (Some h) rest = refl

same-list : (modules : List ModuleTree) (ss : List Stmt) → numbers_of (held_by modules ss) ≡ flat_map (names.held_by modules) ss
same-list modules [] = refl
same-list modules (s ∷ ss) =
    split (held_by_kind modules s.kind) (held_by modules ss)
    ∙ ap (λ l. l ++ numbers_of (held_by modules ss)) (same-kind modules s.kind)
    ∙ ap (λ l. names.held_by_kind modules s.kind ++ l) (same-list modules ss)

pub order_of : (modules : List ModuleTree) (order : List ℕ) → IsOrderOf (names.Holds modules) (length modules) order → IsOrderOf (HoldsModule modules) (length modules) order
order_of modules order o = record {
  nodes = o.nodes;
  once = o.once;
  every = o.every;
  after = λ i t lt h. o.after i t lt (subst (λ (l : List ℕ). Contains l t) (same-list modules (module_at modules _).statements) h);
}
