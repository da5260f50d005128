-- The listed paths of a request without a fault are those of the units and memories that it lists.
use Rattle.std.proofs.Common.{◌≡◌, ℕ, ◌+◌, ◌<◌, List, [], ◌∷◌, length, map, Bool, true, false, refl, sym, ◌∙◌, ap, Some, None, length-append, arith}
use Rattle.std.specs.Prelude.{Option, filter, cond, unwrap_or, bytes_eq, All}
use Rattle.std.specs.List.{range_with_len}
use Rattle.std.proofs.lemmas.List.{get_or-map, length-map, get_or_append_left, get_or-append-add, ext_get_or}
use Rattle.std.proofs.lemmas.List.FromFn.{get_or-map-range_with_len, length-map-range_with_len}
use Rattle.std.proofs.lemmas.Slice.Eq.{bytes_eq-Decides}
use Rattle.gg_flat.specs.Line.{value_at}
use Rattle.gg_flat_tree.specs.Tree.{InstanceTree, path_at}
use Rattle.gg_partfile.specs.declared.request.Request.{Request}
use Rattle.gg_cut_plan.specs.declared.listed.Listed.{Listed}
use Rattle.gg_cut_plan.specs.Listed.{is_among, is_lower, is_instance_path, instance_of, place_of, listed_of}
use Rattle.gg_cut_plan.proofs.PathLemmas.{first_place-Some}
use Rattle.gg_cut_split.specs.inside.Longest.{listed_paths}
use Rattle.gg_cut_split.proofs.ClosedLemmas.LongestLemmas.{ArePaths}

-- an instance path is the path of the instance that it names
instance-path : (tree : InstanceTree) (path : List ℕ) → is_instance_path tree path ≡ true → path_at tree.paths (instance_of tree path) ≡ path
instance-path tree path e = by (place_of tree.paths path) refl
  where
    clash : {A : Type 0} → false ≡ true → A
    clash e = absurd (cc)

    by : (place : Option ℕ) → place_of tree.paths path ≡ place → path_at tree.paths (instance_of tree path) ≡ path
    by None f = clash (ap is_lower (sym f) ∙ e)
    by (Some k) f =
        ap (λ p. path_at tree.paths (unwrap_or p 0)) f
        ∙ sym ((bytes_eq-Decides path (path_at tree.paths k)).0 ((first_place-Some (bytes_eq path) tree.paths k f).passes []))

-- a test of what f makes of an item can be done before f or after it
kept-map : {A B : Type 0} (f : A → B) (test : B → Bool) (xs : List A) → map f (filter (λ x. test (f x)) xs) ≡ filter test (map f xs)
kept-map f test [] = refl
kept-map f test (x ∷ xs) = by (test (f x)) ∙ ap (λ l. cond (test (f x)) (f x ∷ l) l) (kept-map f test xs)
  where
    by : (b : Bool) → map f (cond b (x ∷ filter (λ y. test (f y)) xs) (filter (λ y. test (f y)) xs)) ≡ cond b (f x ∷ map f (filter (λ y. test (f y)) xs)) (map f (filter (λ y. test (f y)) xs))
    by true = refl
    by false = refl

-- the paths at all places, in order
all-paths : (paths : List (List ℕ)) (n : ℕ) → length paths ≡ n → map (path_at paths) (range_with_len 0 n) ≡ paths
all-paths paths n e =
    ext_get_or [] (map (path_at paths) (range_with_len 0 n)) paths (length-map-range_with_len (path_at paths) 0 n ∙ sym e)
    (λ i lt. get_or-map-range_with_len (path_at paths) 0 n i i [] (omega (arith, lt, length-map-range_with_len (path_at paths) 0 n)) (let same : 0 + i ≡ i = omega arith in same))

-- the paths of the listed memories are, in order, the paths of the tree's memories that the request has
pub memory-paths : (tree : InstanceTree) (request : Request) → length tree.memory_paths ≡ length tree.memories → map (path_at tree.memory_paths) (listed_of tree request).memories ≡ filter (is_among request.memories) tree.memory_paths
memory-paths tree request named =
    kept-map (path_at tree.memory_paths) (is_among request.memories) (range_with_len 0 (length tree.memories))
    ∙ ap (filter (is_among request.memories)) (all-paths tree.memory_paths (length tree.memories) named)

module _ (tree : InstanceTree) (request : Request) (named : length tree.memory_paths ≡ length tree.memories) (known : All (λ path. is_instance_path tree path ≡ true) request.units) where
  abbrev listed : Listed
  listed = listed_of tree request

  abbrev kept : List (List ℕ)
  kept = filter (is_among request.memories) tree.memory_paths

  units-count : length (listed_of tree request).units ≡ length request.units
  units-count = length-map request.units (instance_of tree)

  memories-count : length (filter (is_among request.memories) tree.memory_paths) ≡ length (listed_of tree request).memories
  memories-count = sym (ap length (memory-paths tree request named)) ∙ length-map (listed_of tree request).memories (path_at tree.memory_paths)

  unit-path : (i : ℕ) → i < length (listed_of tree request).units → path_at (listed_paths tree request) i ≡ path_at tree.paths (value_at (listed_of tree request).units i)
  unit-path i lt =
      let inside : i < length request.units = omega (arith, lt, units-count) in
      get_or_append_left request.units kept [] i inside
      ∙ sym (instance-path tree (path_at request.units i) (known i [] inside))
      ∙ ap (path_at tree.paths) (sym (get_or-map (instance_of tree) request.units i [] 0 inside))

  memory-path : (i : ℕ) → i < length (listed_of tree request).memories → path_at (listed_paths tree request) (length (listed_of tree request).units + i) ≡ path_at tree.memory_paths (value_at (listed_of tree request).memories i)
  memory-path i lt =
      ap (λ n. path_at (listed_paths tree request) (n + i)) units-count
      ∙ get_or-append-add request.units kept i []
      ∙ ap (λ l. path_at l i) (sym (memory-paths tree request named))
      ∙ get_or-map (path_at tree.memory_paths) (listed_of tree request).memories i 0 [] lt

  pub listed-are : ArePaths tree (listed_of tree request) (listed_paths tree request)
  listed-are =
      record {
        count = length-append request.units kept ∙ (let both : length request.units + length kept ≡ length (listed_of tree request).units + length (listed_of tree request).memories = omega (arith, units-count, memories-count) in both);
        unit = unit-path;
        memory = memory-path;
      }
