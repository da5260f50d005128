-- The signal that a reference names.
use Rattle.std.proofs.Common.{◌≡◌, ℕ, ◌<◌, List, length, Option, Some, None, Bool, true, false, true≢false, sym, ap}
use Rattle.std.specs.Prelude.{is_some, option_map, slice_get, Contains, IfSome, IfNone}
use Rattle.gg_bits.specs.declared.types.Ty.{Ty}
use Rattle.gg_bits.specs.Shape.{Shape, shape}
use Rattle.gg_ast.specs.declared.expression.Reference.{Reference}
use Rattle.gg_ast.specs.Places.{place_of}
use Rattle.gg_ast.proofs.NamePlaces.{place_of-below}
use Rattle.gg_flat_tree.specs.Tree.{joined}
use Rattle.gg_shape_names.specs.Scope.{written}
use Rattle.gg_elab_sites.specs.Meaning.{Context, named, named_if}
use Rattle.gg_elab_sites.proofs.NameLemmas.{Differ, place_of-at, place_of-missing}

-- the answer of a search for a path is the path's place
pub found-path : (paths : List (List ℕ)) (path : List ℕ) (r : Option ℕ) → Differ paths → IfSome r (λ s. slice_get paths s ≡ Some path) → IfNone r (¬ Contains paths path) → r ≡ place_of path paths
found-path paths path (Some s) differ found missing = sym (place_of-at paths path s found differ)
found-path paths path None differ found missing = sym (place_of-missing paths path missing)

pub is-known : (r : Option Ty) (o : Option Shape) → option_map (λ t. shape t) r ≡ o → is_some r ≡ true → is_some o ≡ true
is-known (Some t) o e h = ap is_some (sym e)
is-known None o e h = absurd (true≢false (sym h))

-- a signal that a reference names is one of the circuit's
pub named-below : (context : Context) (r : Reference) (s : ℕ) → named context r ≡ Some s → s < length context.bindings.signals.paths
named-below context r s e = go (is_some (context.bindings.types context.scope.number r)) e
  where
    go : (b : Bool) → named_if b context.bindings.signals.paths (joined context.scope.path (written r)) ≡ Some s → s < length context.bindings.signals.paths
    go true e = place_of-below (joined context.scope.path (written r)) context.bindings.signals.paths s e
    go false e = absurd (cc)
