-- The sites from which the tree is built are the circuit's.
use Rattle.std.proofs.Common.{◌≡◌, ◌≢◌, ℕ, List, Option, Some, None, sym, ap, ◌∙◌}
use Rattle.gg_ast.specs.Tree.{ModuleTree}
use Rattle.gg_elab_sites.specs.Sites.{Site, all_sites, sites_from}

-- all sites of a known top module are the sites of the circuit
pub sites-of : (modules : List ModuleTree) (o : Option ℕ) (top : ℕ) (sites : List Site) → o ≡ Some top → sites ≡ all_sites modules top → sites ≡ sites_from modules o
sites-of modules o top sites is same = same ∙ ap (λ (x : Option ℕ). sites_from modules x) (sym is)

pub is-some : (o : Option ℕ) (n : ℕ) → o ≡ Some n → o ≢ None
is-some o n is none = let never : Some n ≡ None = sym is ∙ none in absurd (cc)
