-- The reference circuit of a cut is well formed, and has an order.
use Rattle.std.proofs.Common.{◌≡◌, ◌≢◌, ℕ, ◌<◌, List, [], ◌++◌, Bool, length, map, get_or, sym, ◌∙◌, subst, inl, inr, ◌⊎◌, refl, arith}
use Rattle.std.specs.Prelude.{codes, AllPairs}
use Rattle.std.specs.List.{range_with_len}
use Rattle.std.proofs.lemmas.List.{get_or-map, get_or_default, length-map, length-append}
use Rattle.gg_flat.specs.Line.{value_at}
use Rattle.gg_flat.specs.Circuit.{FlatCircuit, readers_at}
use Rattle.gg_flat.specs.WellFormed.{IsWellFormed}
use Rattle.gg_flat.specs.Order.{IsOrder}
use Rattle.gg_flat_tree.specs.Tree.{InstanceTree, IsTree, memory_at, path_at}
use Rattle.gg_flat_tree.specs.Scoped.{IsScoped}
use Rattle.gg_flat.proofs.ListLemmas.{once-apart}
use Rattle.gg_partfile.specs.declared.request.BridgeEntry.{BridgeEntry}
use Rattle.gg_cut_plan.specs.declared.listed.Listed.{Listed}
use Rattle.gg_cut_plan.specs.Listed.{memory_owner}
use Rattle.gg_cut_plan.specs.Plan.{HasMemory}
use Rattle.gg_cut_split.specs.inside.Apart.{AreApart}
use Rattle.gg_cut_split.proofs.ClosedLemmas.ListLemmas.{map-cases, AllPairs-append, AllPairs-map}
use Rattle.gg_cut_split.proofs.ClosedLemmas.ClosedLemmas.{reader-known}
use Rattle.gg_cut_split.proofs.ClosedLemmas.ChoiceLemmas.{place-of-memory}
use Rattle.gg_cut_plan.specs.Direct.{Hub, hub_of}
use Rattle.gg_cut_reference.specs.inside.Reference.{IsReference, IsPiped}
use Rattle.gg_cut_reference.specs.Links.{pipes_of, taken_as, views_of}
use Rattle.gg_cut_reference.specs.Made.{reference, IsFresh}
use Rattle.gg_cut_routes.proofs.RouteLemmas.{IsBase}
use Rattle.gg_cut_reference.proofs.SeenLemmas.{all-seen, taken-seen, pipes-known, pipes-once}
use Rattle.gg_cut_reference.proofs.MadeLemmas.{is-reference}
use Rattle.gg_cut_reference.proofs.OrderedLemmas.{reference_ordered}
use Rattle.gg_cut_reference.proofs.DataLemmas.{word-plain, word-maker}
use Rattle.gg_cut_reference.proofs.FormedLemmas.{AreData, AreOuter, reference_formed}

module _ (circuit : FlatCircuit) (tree : InstanceTree) (listed : Listed) (formed : IsWellFormed circuit) (fits : IsTree circuit tree) (scoped : IsScoped circuit tree) (apart : AreApart tree listed) (piped : ℕ → Bool) (entries : List BridgeEntry) (direct : Bool) (base : IsBase (hub_of circuit tree listed piped entries direct)) (holder keeper : ℕ → ℕ) where
  abbrev hub : Hub
  hub = hub_of circuit tree listed piped entries direct

  pub made : IsReference circuit (reference (hub_of circuit tree listed piped entries direct) holder keeper) (views_of (hub_of circuit tree listed piped entries direct) holder keeper) (pipes_of (hub_of circuit tree listed piped entries direct))
  made = is-reference circuit (views_of hub holder keeper) (pipes_of hub) (pipes-known hub base)

  pub ordered : (order : List ℕ) → IsOrder circuit order → IsOrder (reference (hub_of circuit tree listed piped entries direct) holder keeper) (range_with_len (length circuit.signals) (length (pipes_of (hub_of circuit tree listed piped entries direct))) ++ order)
  ordered order is = reference_ordered circuit (reference hub holder keeper) (views_of hub holder keeper) (pipes_of hub) order made (all-seen hub base) is

  module _ (keeps : (m k : ℕ) → HasMemory tree listed m k → keeper k ≡ m) (fresh : IsFresh circuit) where
    has-memory : (k r : ℕ) → r < length (readers_at circuit k) → HasMemory tree listed (keeper k) k
    has-memory k r lt =
        let at = place-of-memory circuit tree listed formed fits scoped apart k (reader-known circuit tree listed formed fits scoped apart k r lt) in
        let is : (memory_at tree at.place).memory ≡ k = at.holds (record { instance = 0; memory = 0; ports = []; clocks = [] }) in
        let has : HasMemory tree listed (memory_owner tree listed at.place) k = record { place = at.place; known = at.within; is = is; owner = refl } in
        subst (λ m. HasMemory tree listed m k) (sym (keeps (memory_owner tree listed at.place) k has)) has

    data-is : AreData circuit (reference hub holder keeper) (views_of hub holder keeper) (pipes_of hub) made (all-seen hub base) formed
    data-is =
        record {
          maker = λ k r lt. word-maker circuit tree listed formed fits scoped apart piped entries direct base (keeper k) k r (has-memory k r lt) lt;
          plain = λ k r lt. word-plain circuit tree listed formed fits scoped apart piped entries direct base (keeper k) k r (has-memory k r lt) lt;
        }

    pipe-name : ℕ → List ℕ
    pipe-name c = codes "pipe:" ++ path_at circuit.paths c

    names-once : AllPairs (λ a b. a ≢ b) (map (λ c. codes "pipe:" ++ path_at circuit.paths c) (pipes_of hub))
    names-once =
        AllPairs-map (λ a b. a ≢ b) (λ c. codes "pipe:" ++ path_at circuit.paths c) (pipes_of hub) (λ i j d less lt same.
        let low : i < length (pipes_of hub) = omega (arith, less, lt) in
        let known = pipes-known hub base in
        let a = subst (λ c. c < length circuit.paths) (sym (get_or_default (pipes_of hub) i d 0 low)) (let k = known i low in omega (arith, k, formed.named)) in
        let b = subst (λ c. c < length circuit.paths) (sym (get_or_default (pipes_of hub) j d 0 lt)) (let k = known j lt in omega (arith, k, formed.named)) in
        pipes-once hub base i j d less lt (once-apart circuit.paths [] formed.distinct (get_or (pipes_of hub) i d) (get_or (pipes_of hub) j d) a b (cancel (path_at circuit.paths (get_or (pipes_of hub) i d)) (path_at circuit.paths (get_or (pipes_of hub) j d)) same)))
      where
        cancel : (a b : List ℕ) → codes "pipe:" ++ a ≡ codes "pipe:" ++ b → a ≡ b
        cancel a b e = cc

    outer : AreOuter circuit (reference hub holder keeper) (views_of hub holder keeper) (pipes_of hub) made (all-seen hub base) formed data-is
    outer =
        record {
          named = length-append circuit.paths (map (λ c. codes "pipe:" ++ path_at circuit.paths c) (pipes_of hub)) ∙ (let a = formed.named in let b = length-map (pipes_of hub) (λ c. codes "pipe:" ++ path_at circuit.paths c) in let c = made.signals in omega (arith, a, b, c));
          distinct = AllPairs-append (λ a b. a ≢ b) circuit.paths (map (λ c. codes "pipe:" ++ path_at circuit.paths c) (pipes_of hub)) formed.distinct names-once (λ a b p q same.
              let at = map-cases (λ c. codes "pipe:" ++ path_at circuit.paths c) (pipes_of hub) b q in
              let lt : p.0 < length circuit.signals = (let k = p.1 in let n = formed.named in omega (arith, k, n)) in
              fresh p.0 (path_at circuit.paths (get_or (pipes_of hub) at.place 0)) lt (get_or_default circuit.paths p.0 [] a p.1 ∙ p.2 ∙ same ∙ sym (at.holds 0)));
          outs = λ place lt. out place (subst (λ n. place < n) (length-map circuit.outs (taken_as hub)) lt);
          known = pipes-known hub base;
        }
      where
        below : (s : ℕ) → s < length circuit.signals → (taken_as hub s ≡ s) ⊎ IsPiped circuit (pipes_of hub) s (taken_as hub s) → taken_as hub s < length (reference hub holder keeper).signals
        below s lt (inl e) = let n = made.signals in omega (arith, lt, e, n)
        below s lt (inr p) = let k = p.known in let n = made.signals in omega (arith, k, p.is, n)

        out : (place : ℕ) → place < length circuit.outs → value_at (map (taken_as hub) circuit.outs) place < length (reference hub holder keeper).signals
        out place lt = subst (λ s. s < length (reference hub holder keeper).signals) (sym (get_or-map (taken_as hub) circuit.outs place 0 0 lt)) (below (value_at circuit.outs place) (formed.outs place lt) (taken-seen hub base (value_at circuit.outs place)))

    pub whole-formed : IsWellFormed (reference (hub_of circuit tree listed piped entries direct) holder keeper)
    whole-formed = reference_formed circuit (reference hub holder keeper) (views_of hub holder keeper) (pipes_of hub) made (all-seen hub base) formed data-is outer
