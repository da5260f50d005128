-- Lists that a loop makes item by item, each in the part's numbers.
use Rattle.std.proofs.Common.{◌≡◌, ℕ, ◌+◌, ◌<◌, ◌⊎◌, List, [], ◌∷◌, ◌++◌, length, map, take, get_or, sym, ◌∙◌, ap, ap₂, subst, inl, inr}
use Rattle.std.specs.Prelude.{Contains}
use Rattle.std.proofs.lemmas.List.{map_push, take_more}
use Rattle.std.proofs.lemmas.List.Elements.{Contains-push_cases}
use Rattle.gg_flat.specs.declared.line.Node.{Node}
use Rattle.gg_flat.specs.declared.line.Op.{Op}
use Rattle.gg_flat.specs.declared.line.Op.TheVariants.{Ref}
use Rattle.gg_part.specs.Part.{NamesBelow}

-- a list that stands for the first i items, with one more that stands for the next
pub map-grows : {X Y : Type 0} (f : X → Y) (xs more : List X) (x : X) (ys : List Y) (d : Y) (i : ℕ) → i < length ys → more ≡ xs ++ x ∷ [] → f x ≡ get_or ys i d → map f xs ≡ take i ys → map f more ≡ take (i + 1) ys
map-grows f xs more x ys d i lt is here before =
    ap (map f) is ∙ map_push f xs x ∙ ap₂ (λ front last. front ++ last ∷ []) before here ∙ sym (take_more ys i d lt)

-- a line with one more node names what the line or the node names
pub NamesBelow-more : (n : ℕ) (nodes more : List Node) (node : Node) → more ≡ nodes ++ node ∷ [] → NamesBelow n nodes → ((s : ℕ) → node.op ≡ Ref s → s < n) → NamesBelow n more
NamesBelow-more n nodes more node is below here =
    let ops : List Node → List Op = λ nodes. map (λ (node : Node). node.op) nodes in
    λ s named. by s (Contains-push_cases (ops nodes) node.op (Ref s) (subst (λ (all : List Op). Contains all (Ref s)) (ap ops is ∙ map_push (λ (node : Node). node.op) nodes node) named))
  where
    by : (s : ℕ) → Contains (map (λ (node : Node). node.op) nodes) (Ref s) ⊎ (node.op ≡ Ref s) → s < n
    by s (inl named) = below s named
    by s (inr same) = here s same
