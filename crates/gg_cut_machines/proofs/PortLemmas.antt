-- Tables by signals: the places of ports.
use Rattle.std.proofs.Common.{◌≡◌, ℕ, zero, suc, ◌+◌, ◌-◌, ◌<◌, ◌≤◌, List, [], ◌∷◌, length, map, get_or, take, drop, replicate, Bool, true, false, true≢false, refl, sym, ◌∙◌, ap, ap₂, Some, None, inl, inr, ◌⊎◌, arith}
use Rattle.std.specs.Prelude.{All, Option, option_map, unwrap_or, bytes_eq, flat_map, ◌||◌, if◌then◌else◌}
use Rattle.std.proofs.lemmas.Bool.{cases_lt}
use Rattle.std.proofs.lemmas.List.{get_or_past}
use Rattle.std.proofs.lemmas.List.Folds.{length-flat_map-take, list_any_at, list_any_more}
use Rattle.std.proofs.lemmas.Slice.Eq.{bytes_eq-Decides}
use Rattle.gg_flat.specs.Line.{value_at}
use Rattle.gg_flat_tree.specs.Tree.{path_at}
use Rattle.gg_partfile.specs.declared.request.BridgeEntry.{BridgeEntry}
use Rattle.gg_cut_plan.specs.Listed.{is_among, place_of}
use Rattle.gg_cut_plan.specs.Channels.{wire}
use Rattle.gg_cut_plan.specs.declared.wires.Wire.{Wire}
use Rattle.gg_cut_plan.specs.Plan.{port_place, wire_at}
use Rattle.gg_cut_plan.proofs.FindLemmas.{rest-at}
use Rattle.gg_cut_plan.proofs.PathLemmas.{first_place-Some}
use Rattle.gg_cut_split.proofs.TakerLemmas.{all-dropped, eq-back}

-- ---- one place more, from the back

abbrev pub or_behind : ℕ → Option ℕ → ℕ
or_behind base None = 0
or_behind base (Some k) = base + k

pub behind-place : (ports : List (List ℕ)) (path : List ℕ) → or_behind 0 (place_of ports path) ≡ port_place ports path
behind-place ports path = by (place_of ports path)
  where
    by : (o : Option ℕ) → or_behind 0 o ≡ unwrap_or o 0
    by None = refl
    by (Some k) = omega arith

pub place-more : (ports : List (List ℕ)) (step : ℕ) (port path : List ℕ) (old new : ℕ) → step < length ports → port ≡ get_or ports (length ports - 1 - step) port
    → old ≡ or_behind (length ports - step) (place_of (drop (length ports - step) ports) path)
    → new ≡ (if bytes_eq port path then length ports - 1 - step else old)
    → new ≡ or_behind (length ports - (step + 1)) (place_of (drop (length ports - (step + 1)) ports) path)
place-more ports step port path old new lt read was set =
    let i = length ports - (step + 1) in
    let rest = place_of (drop (length ports - step) ports) path in
    let same : length ports - 1 - step ≡ i = omega (arith, lt) in
    let next : i + 1 ≡ length ports - step = omega (arith, lt) in
    let here : drop i ports ≡ port ∷ drop (length ports - step) ports =
    rest-at ports i port (omega (arith, lt)) (read ∙ ap (λ k. get_or ports k port) same) ∙ ap (λ k. port ∷ drop k ports) next in
    set ∙ ap (λ x. if bytes_eq port path then length ports - 1 - step else x) was
    ∙ ap (λ b. if b then length ports - 1 - step else or_behind (length ports - step) rest) (eq-back port path)
    ∙ by (bytes_eq path port) i rest (omega (arith, lt)) (omega (arith, lt))
    ∙ sym (ap (λ l. or_behind i (place_of l path)) here)
  where
    by : (b : Bool) (i : ℕ) (rest : Option ℕ) → length ports - 1 - step ≡ i → length ports - step ≡ i + 1 → (if b then length ports - 1 - step else or_behind (length ports - step) rest) ≡ or_behind i (if b then Some 0 else option_map suc rest)
    by true i rest e f = omega (arith, e)
    by false i None e f = refl
    by false i (Some k) e f = omega (arith, f)

-- nothing is left of the places
pub place-cleared : (ports : List (List ℕ)) (path : List ℕ) → (if is_among ports path then 0 else port_place ports path) ≡ 0
place-cleared ports path = by (is_among ports path) refl (place_of ports path) refl
  where
    by : (a : Bool) → is_among ports path ≡ a → (o : Option ℕ) → place_of ports path ≡ o → (if a then 0 else unwrap_or o 0) ≡ 0
    by true e o f = refl
    by false e None f = refl
    by false e (Some k) f =
        let at = first_place-Some (bytes_eq path) ports k f in
        absurd (true≢false (sym (list_any_at (bytes_eq path) ports k [] at.within (at.passes [])) ∙ e))

-- ---- the places of channels' ports

pub no-place : (ports : List (List ℕ)) (path : List ℕ) (value : ℕ) → value ≡ 0 → value ≡ or_behind (length ports - 0) (place_of (drop (length ports - 0) ports) path)
no-place ports path value is = is ∙ ap (λ l. or_behind (length ports - 0) (place_of l path)) (sym (all-dropped ports (length ports - 0) (omega arith)))

-- what a table with the places of ports has for channels
pub places-as : (paths : List (List ℕ)) (count : ℕ) (ports : List (List ℕ)) (wires : List Wire) (channels table places : List ℕ) → All (λ w. w.signal < count) wires → All (λ c. c < length wires) channels
    → ((s : ℕ) → s < count → value_at table s ≡ port_place ports (path_at paths s)) → places ≡ map (λ c. value_at table (wire_at wires c).signal) channels → places ≡ map (λ c. port_place ports (path_at paths (wire_at wires c).signal)) channels
places-as paths count ports wires channels table places known within are is = is ∙ each channels within
  where
    each : (l : List ℕ) → All (λ c. c < length wires) l → map (λ c. value_at table (wire_at wires c).signal) l ≡ map (λ c. port_place ports (path_at paths (wire_at wires c).signal)) l
    each [] all = refl
    each (c ∷ l) all =
        ap₂ (λ h t. h ∷ t) (are (wire_at wires c).signal (known c (wire 0 0 0) (all 0 c (omega arith)))) (each l (λ k d lt. all (suc k) d (omega (arith, lt))))

-- a table of places is cleared
pub all-cleared : (paths : List (List ℕ)) (count : ℕ) (ports : List (List ℕ)) (places new : List ℕ) → length new ≡ count → ((s : ℕ) → s < count → value_at places s ≡ port_place ports (path_at paths s))
    → ((s : ℕ) → s < count → value_at new s ≡ (if is_among ports (path_at paths s) then 0 else value_at places s)) → (s : ℕ) → value_at new s ≡ 0
all-cleared paths count ports places new many are cleared s = by (cases_lt s count)
  where
    by : (s < count) ⊎ (count ≤ s) → value_at new s ≡ 0
    by (inl lt) = cleared s lt ∙ ap (λ x. if is_among ports (path_at paths s) then 0 else x) (are s lt) ∙ place-cleared ports (path_at paths s)
    by (inr le) = get_or_past new s 0 (omega (arith, le, many))

-- ---- one entry

-- what one entry lists is among what all list
pub part-few : (f : BridgeEntry → List (List ℕ)) (entries : List BridgeEntry) (k : ℕ) (any : BridgeEntry) → k < length entries → length (f (get_or entries k any)) ≤ length (flat_map f entries)
part-few f entries k any lt = let most = length-flat_map-take f entries k any lt in omega (arith, most)
