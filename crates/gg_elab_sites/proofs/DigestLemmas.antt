-- The digests of the first modules, with the digest of the next one.
use Rattle.std.proofs.Common.{◌≡◌, ℕ, ◌<◌, ◌+◌, List, [], ◌∷◌, ◌++◌, length, get_or, ◌∙◌, ap, sym, subst, arith, below_more}
use Rattle.std.proofs.lemmas.List.{get_or_append_left, get_or_push, length-append}
use Rattle.gg_ast.specs.Tree.{ModuleTree}
use Rattle.gg_elab_sites.specs.declared.digest.Digest.{Digest}
use Rattle.gg_elab_sites.specs.Signals.{Types}
use Rattle.gg_elab_sites.specs.inside.Views.{IsDigest}

pub digests-more : (types : Types) (modules : List ModuleTree) (old new : List Digest) (next : Digest) (i : ℕ) → length old ≡ i → ((k : ℕ) (any : Digest) → k < i → IsDigest types modules k (get_or old k any)) → new ≡ old ++ next ∷ [] → IsDigest types modules i next → (length new ≡ i + 1) × ((k : ℕ) (any : Digest) → k < i + 1 → IsDigest types modules k (get_or new k any))
digests-more types modules old new next i count each is own = (
  ap (λ (l : List Digest). length l) is ∙ omega (arith, count, length-append old (next ∷ [])),
  λ k any lt. below_more (λ (k : ℕ). IsDigest types modules k (get_or new k any)) i
      (λ k less. subst (λ (d : Digest). IsDigest types modules k d) (sym (ap (λ (l : List Digest). get_or l k any) is ∙ get_or_append_left old (next ∷ []) any k (omega (arith, less, count)))) (each k any less))
      (subst (λ (d : Digest). IsDigest types modules i d) (sym (ap (λ (l : List Digest). get_or l i any) is ∙ get_or_push old next any i count)) own) k lt,
)
