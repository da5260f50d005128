-- Ports by their names: the place of a name among distinct names, and what entries list.
use Rattle.std.proofs.Common.{◌≡◌, ◌≢◌, ℕ, zero, suc, ◌<◌, List, [], ◌∷◌, ◌++◌, length, get_or, true≢false, Option, Some, None, refl, sym, ◌∙◌, ap, arith}
use Rattle.std.specs.Prelude.{AllPairs, Contains, bytes_eq, flat_map, unwrap_or}
use Rattle.std.proofs.lemmas.List.{get_or_append_left, length-append}
use Rattle.std.proofs.lemmas.List.Elements.{Contains-append_left, Contains-append_right, Contains-get_or}
use Rattle.std.proofs.lemmas.Slice.Eq.{bytes_eq-Decides}
use Rattle.gg_flat_tree.specs.Tree.{path_at}
use Rattle.gg_flat.proofs.ListLemmas.{once-apart}
use Rattle.gg_partfile.specs.declared.request.BridgeEntry.{BridgeEntry}
use Rattle.gg_cut_reference.proofs.FittingLemmas.PortLemmas.{back-once}
use Rattle.gg_cut_plan.specs.Listed.{place_of}
use Rattle.gg_cut_plan.specs.Plan.{port_place}
use Rattle.gg_cut_plan.proofs.PathLemmas.{among-contains, first_place-None, first_place-Some}

-- ---- the place of a name

pub record IsPortPlace (names : List (List ℕ)) (name : List ℕ) : Type 0 where
  pub known : port_place names name < length names
  pub is : path_at names (port_place names name) ≡ name

pub port-place : (names : List (List ℕ)) (name : List ℕ) → Contains names name → IsPortPlace names name
port-place names name h = by (place_of names name) refl
  where
    by : (o : Option ℕ) → place_of names name ≡ o → IsPortPlace names name
    by None e = absurd (true≢false (sym (among-contains names name h) ∙ first_place-None (bytes_eq name) names e))
    by (Some i) e =
        let at = first_place-Some (bytes_eq name) names i e in
        let place : port_place names name ≡ i = ap (λ (o : Option ℕ). unwrap_or o 0) e in
        record {
          known = omega (arith, place, at.within);
          is = ap (path_at names) place ∙ sym ((bytes_eq-Decides name (path_at names i)).0 (at.passes []));
        }

-- the name at a place has that place, where names differ
pub place-back : (names : List (List ℕ)) (place : ℕ) → AllPairs (λ a b. a ≢ b) names → place < length names → port_place names (path_at names place) ≡ place
place-back names place once lt =
    let at = port-place names (path_at names place) (Contains-get_or names place [] lt) in
    once-apart names [] once (port_place names (path_at names place)) place at.known lt at.is

-- ---- names that differ

first-differ : (xs ys : List (List ℕ)) → AllPairs (λ a b. a ≢ b) (xs ++ ys) → AllPairs (λ a b. a ≢ b) xs
first-differ xs ys once i j d less lt same =
    once i j d less (omega (arith, lt, length-append xs ys)) (get_or_append_left xs ys d i (omega (arith, less, lt)) ∙ same ∙ sym (get_or_append_left xs ys d j lt))

module _ (ports : BridgeEntry → List (List ℕ)) where
  -- what an entry lists is listed by all
  pub listed-by : (entries : List BridgeEntry) (k : ℕ) (any : BridgeEntry) (name : List ℕ) → k < length entries → Contains (ports (get_or entries k any)) name → Contains (flat_map ports entries) name
  listed-by [] k any name lt h = absurd (omega (arith, lt))
  listed-by (entry ∷ entries) zero any name lt h = Contains-append_left (ports entry) (flat_map ports entries) name h
  listed-by (entry ∷ entries) (suc k) any name lt h = Contains-append_right (ports entry) (flat_map ports entries) name (listed-by entries k any name (omega (arith, lt)) h)

  -- what one entry lists differs
  pub own-differ : (entries : List BridgeEntry) (k : ℕ) (any : BridgeEntry) → AllPairs (λ a b. a ≢ b) (flat_map ports entries) → k < length entries → AllPairs (λ a b. a ≢ b) (ports (get_or entries k any))
  own-differ [] k any once lt = absurd (omega (arith, lt))
  own-differ (entry ∷ entries) zero any once lt = first-differ (ports entry) (flat_map ports entries) once
  own-differ (entry ∷ entries) (suc k) any once lt = own-differ entries k any (back-once (ports entry) (flat_map ports entries) once) (omega (arith, lt))
