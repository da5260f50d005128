use Rattle.std.proofs.Common.{rules, ◌≡◌, ℕ, List, ◌∙◌, ap, sym, true}
use Rattle.std.specs.Prelude.{is_some}
use Rattle.gg_ast.specs.Places.{place_of}
use Rattle.gg_flat_tree.specs.Tree.{joined}
use Rattle.gg_shape_names.specs.Scope.{written}
use Rattle.gg_elab_sites.specs.Meaning.{named_if}
use Rattle.gg_elab.proofs.ScopeLemmas.{found-path, is-known}
use Rattle.gg_elab.proofs.lookup.find.Goals as goal

pub returns : goal.returns
returns c =
    let paths = c.args.scope.now.table.now.paths in
    let known : is_some c.value_type.result ≡ true = search rules in
    found-path paths c.in_ok-path.path c.find.result c.len.ensures.distinct c.find.ensures.found c.find.ensures.missing
    ∙ ap (λ (p : List ℕ). place_of p paths) (c.in_ok-path.ensures ∙ ap (joined c.args.scope.now.path.now) c.in_ok-name.ensures)
    ∙ sym (ap (λ b. named_if b paths (joined c.args.scope.now.path.now (written c.args.reference.now))) (is-known c.value_type.result _ c.value_type.ensures known))
