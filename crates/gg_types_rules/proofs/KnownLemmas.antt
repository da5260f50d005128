-- What is seen of a module depends only on its circuit, its place and its flags.
use Rattle.std.proofs.Common.{◌≡◌, ℕ, Bool, List, ◌++◌, map, ap, ◌∙◌}
use Rattle.std.specs.List.{flat_map}
use Rattle.gg_ast.specs.declared.module.Port.{Port}
use Rattle.gg_ast.specs.declared.statement.Stmt.{Stmt}
use Rattle.gg_ast.specs.Tree.{CircuitTree, ModuleTree}
use Rattle.gg_shape_names.specs.Modules.{module_at}
use Rattle.gg_shape_names.specs.inside.Namespace.{names_in}
use Rattle.gg_shape_names.specs.Namespace.{scope_of}
use Rattle.gg_shape_names.specs.Along.{along}
use Rattle.gg_types_rules.specs.declared.known.Known.{Known}
use Rattle.gg_types.specs.Clocks.{leads_to_input}
use Rattle.gg_types_rules.specs.inside.Known.{names_seen, roles_seen, traced_seen}
use Rattle.gg_types.specs.inside.Named.{flagged}
use Rattle.gg_types.specs.Owned.{port_own}
use Rattle.gg_types.specs.Types.{port_faults, faults_of, known_after, known_in, faults_of_module}

module _ (k l : Known) (names : k.names.now ≡ l.names.now) (number : k.number ≡ l.number) where
  module-same : module_at k.names.now.modules k.number ≡ module_at l.names.now.modules l.number
  module-same = ap (λ (c : CircuitTree). module_at c.modules k.number) names ∙ ap (module_at l.names.now.modules) number

  pub names-same : names_seen k ≡ names_seen l
  names-same = ap names_in module-same

  pub roles-same : roles_seen k ≡ roles_seen l
  roles-same =
      ap (λ (c : CircuitTree). scope_of c.modules (module_at k.names.now.modules k.number)) names
      ∙ ap (scope_of l.names.now.modules) module-same

  pub traced-same : k.traced.items ≡ l.traced.items → traced_seen k ≡ traced_seen l
  traced-same same = ap (λ ns. flagged ns k.traced.items) names-same ∙ ap (flagged (names_seen l)) same

pub names-at : (k : Known) (circuit : CircuitTree) (number : ℕ) → k.names.now ≡ circuit → k.number ≡ number → names_seen k ≡ names_in (module_at circuit.modules number)
names-at k circuit number names n =
    ap (λ (c : CircuitTree). names_in (module_at c.modules k.number)) names ∙ ap (λ i. names_in (module_at circuit.modules i)) n

module _ (circuit : CircuitTree) (m : ModuleTree) (traced : List ℕ → Bool) (ports : List Port) (statements : List Stmt) (t : traced ≡ leads_to_input m) (p : ports ≡ m.ports) (s : statements ≡ m.statements) where
  pub faults-same : flat_map port_faults ports ++ along (faults_of (scope_of circuit.modules m) traced (map port_own ports)) statements ≡ faults_of_module circuit.modules m
  faults-same =
      ap (λ f. flat_map port_faults ports ++ along (faults_of (scope_of circuit.modules m) f (map port_own ports)) statements) t
      ∙ ap (λ l. flat_map port_faults l ++ along (faults_of (scope_of circuit.modules m) (leads_to_input m) (map port_own l)) statements) p
      ∙ ap (λ l. flat_map port_faults m.ports ++ along (faults_of (scope_of circuit.modules m) (leads_to_input m) (map port_own m.ports)) l) s

  pub known-same : known_after (scope_of circuit.modules m) traced (map port_own ports) statements ≡ known_in circuit.modules m
  known-same =
      ap (λ f. known_after (scope_of circuit.modules m) f (map port_own ports) statements) t
      ∙ ap (λ l. known_after (scope_of circuit.modules m) (leads_to_input m) (map port_own l) statements) p
      ∙ ap (known_after (scope_of circuit.modules m) (leads_to_input m) (map port_own m.ports)) s
