-- The parts of a cut follow the run of the reference circuit.
use Rattle.std.proofs.Common.{◌≡◌, ℕ, ◌<◌, ◌≤◌, List, [], ◌∷◌, length, map, drop, get_or, refl, sym, ◌∙◌, ap, ap₂, arith, ◌⊎◌, inl, inr}
use Rattle.std.specs.Prelude.{Contains}
use Rattle.std.specs.List.{range_with_len}
use Rattle.std.proofs.lemmas.Bool.{cases_lt}
use Rattle.std.proofs.lemmas.List.{get_or-map, length-map}
use Rattle.std.proofs.lemmas.Grind.{same_number_lists}
use Rattle.std.proofs.lemmas.List.Elements.{Contains-get_or}
use Rattle.std.proofs.lemmas.Simd.{map-map}
use Rattle.gg_flat.specs.declared.piece.Driver.TheVariants.{Input}
use Rattle.gg_flat.specs.Line.{value_at, shape_at}
use Rattle.gg_flat.specs.Circuit.{FlatCircuit, signal_shapes, driver_at}
use Rattle.gg_flat.specs.Settled.{driver_value}
use Rattle.gg_flat.specs.Run.{IsColumns, Start, state_at, row_at, inputs_at, column, later, since}
use Rattle.gg_flat.specs.State.{IsState}
use Rattle.gg_flat.specs.WellFormed.{IsWellFormed}
use Rattle.gg_order.proofs.RunsLemmas.SinceLemmas.{later-since, row-dropped}
use Rattle.gg_order.proofs.RunsLemmas.UniqueLemmas.{IsRunFrom-once}
use Rattle.gg_flat.proofs.ListLemmas.{Contains-map}
use Rattle.gg_flat.proofs.NumberLemmas.{IsOrder-numbers}
use Rattle.gg_part.specs.PartRun.{part_rows, part_start}
use Rattle.gg_part.specs.declared.part.Part.{Part}
use Rattle.gg_cut_plan.specs.Plan.{wire_at, channels_to, channels_from}
use Rattle.gg_cut_plan.specs.Direct.{Hub, routes}
use Rattle.gg_cut_routes.specs.inside.Routes.{GivesInput}
use Rattle.gg_cut_reference.specs.inside.Reference.{IsReference}
use Rattle.gg_cut_reference.specs.Links.{pipes_of, seen_by, maker_of, views_of, taken_as}
use Rattle.gg_cut_reference.specs.inside.Links.{AreHolders}
use Rattle.gg_cut_reference.specs.Made.{reference}
use Rattle.gg_cut_plan.specs.Solves.{AreRows}
use Rattle.gg_cut_reference.specs.inside.Follows.{Follows, given_column, taken_column}
use Rattle.gg_cut_routes.proofs.ChoiceLemmas.{any-wire}
use Rattle.gg_cut_routes.proofs.RouteLemmas.{IsBase}
use Rattle.gg_cut_reference.proofs.MadeLemmas.{is-reference}
use Rattle.gg_cut_reference.proofs.SeenLemmas.{pipes-known}
use Rattle.gg_cut_reference.proofs.LinkLemmas.{link-column}
use Rattle.gg_cut_reference.proofs.PipeLemmas.{since-less}
use Rattle.gg_cut_reference.proofs.MachineLemmas.{IsRoutedPart, machine-run, outs-columns}
use Rattle.gg_flat.specs.Renaming.{renamed_driver, signals_by}

-- the column of an in-signal, from the start on, is what it was given
pub input-column : (circuit : FlatCircuit) (s p : ℕ) → p < length circuit.ins → s < length circuit.signals → driver_at circuit s ≡ Input p → (start : Start) (columns : List (List ℕ)) (end : ℕ) (rows : List (List ℕ)) → IsColumns circuit end columns → AreRows circuit start columns end rows → (t : ℕ) → start.cycle ≤ t → t < end
    → value_at (column rows s) t ≡ value_at (get_or columns p []) t
input-column circuit s p known low driver start columns end rows given run t le lt =
    let k = since start.cycle t in
    let is = row-dropped start.cycle t rows le in
    get_or-map (λ (row : List ℕ). value_at row s) rows t [] 0 (omega (arith, lt, run.count))
    ∙ ap (λ (row : List ℕ). value_at row s) (sym is)
    ∙ (run.run.settled k (since-less start.cycle t end le lt)).driven s low
    ∙ ap (driver_value (state_at circuit start (drop start.cycle rows) k) (inputs_at columns (later start.cycle k)) (row_at (drop start.cycle rows) k) (shape_at (signal_shapes circuit) s)) driver
    ∙ get_or-map (λ (c : List ℕ). value_at c (later start.cycle k)) columns p [] 0 (omega (arith, known, given.count))
    ∙ ap (value_at (get_or columns p [])) (later-since start.cycle t le)

-- ---- two lists of rows of one run

pub column-before : (circuit : FlatCircuit) (start : Start) (columns : List (List ℕ)) (end : ℕ) (rows others : List (List ℕ)) → AreRows circuit start columns end rows → AreRows circuit start columns end others → drop start.cycle rows ≡ drop start.cycle others → (s : ℕ) → column rows s ≡ column others s
column-before circuit start columns end rows others one other same s =
    same_number_lists (column rows s) (column others s) (long rows one.count ∙ sym (long others other.count)) (λ t below.
    let lt : t < end = omega (arith, below, long rows one.count) in
    get_or-map (λ (row : List ℕ). value_at row s) rows t [] 0 (omega (arith, lt, one.count))
    ∙ at t (cases_lt t start.cycle)
    ∙ sym (get_or-map (λ (row : List ℕ). value_at row s) others t [] 0 (omega (arith, lt, other.count))))
  where
    long : (rows : List (List ℕ)) → length rows ≡ end → length (column rows s) ≡ end
    long rows e = length-map rows (λ (row : List ℕ). value_at row s) ∙ e

    at : (t : ℕ) → (t < start.cycle) ⊎ (start.cycle ≤ t) → value_at (row_at rows t) s ≡ value_at (row_at others t) s
    at t (inl low) = one.before t s low ∙ sym (other.before t s low)
    at t (inr le) =
        ap (λ (row : List ℕ). value_at row s) (sym (row-dropped start.cycle t rows le) ∙ ap (λ l. row_at l (since start.cycle t)) same ∙ row-dropped start.cycle t others le)

map-columns : (rows others : List (List ℕ)) (outs : List ℕ) → ((s : ℕ) → column rows s ≡ column others s) → map (column rows) outs ≡ map (column others) outs
map-columns rows others [] same = refl
map-columns rows others (s ∷ outs) same = ap₂ (λ c cs. c ∷ cs) (same s) (map-columns rows others outs same)

module _ (hub : Hub) (base : IsBase hub) (formed : IsWellFormed hub.circuit) (holder keeper : ℕ → ℕ) where
  pub made : IsReference hub.circuit (reference hub holder keeper) (views_of hub holder keeper) (pipes_of hub)
  made = is-reference hub.circuit (views_of hub holder keeper) (pipes_of hub) (pipes-known hub base)

  pub follows : (m : ℕ) (part : Part) → IsRoutedPart hub m part → AreHolders hub holder keeper m part.memories → (start : Start) → IsState (reference hub holder keeper) start.state → (columns : List (List ℕ)) (end : ℕ) (rows : List (List ℕ)) → AreRows (reference hub holder keeper) start columns end rows → Follows hub m start end part rows
  follows m part cut holders start typed columns end rows run =
      let all = reference hub holder keeper in
      let own = part_rows (map (seen_by hub m) part.globals) rows in
      let from = part_start part.held part.memories part.clocks start in
      let is = machine-run hub base all holder keeper made formed m part cut holders start typed columns end rows run in
      record {
        own = own;
        run = is;
        gives = λ others other.
            map-columns others own part.piece.outs
            (column-before part.piece from (map (taken_column hub start end rows) (channels_to (routes hub) m)) end others own other is
            (IsRunFrom-once part.piece (range_with_len 0 (length part.piece.signals)) from (map (taken_column hub start end rows) (channels_to (routes hub) m)) (since start.cycle end) (drop start.cycle others) (drop start.cycle own) (IsOrder-numbers part.piece cut.ordered) other.run is.run))
            ∙ outs-columns hub base all holder keeper made formed m part cut holders start typed columns end rows run
            ∙ map-map (column rows) (λ c. (wire_at (routes hub) c).given) (channels_from (routes hub) m);
      }

  -- what the consumer of a channel gets in the reference circuit
  pub channel-column : (start : Start) → IsState (reference hub holder keeper) start.state → (columns : List (List ℕ)) (end : ℕ) (rows : List (List ℕ)) → AreRows (reference hub holder keeper) start columns end rows → (c : ℕ) → c < length (routes hub) → column rows (taken_as hub (wire_at (routes hub) c).signal) ≡ taken_column hub start end rows c
  channel-column start typed columns end rows run c lt =
      link-column hub base (reference hub holder keeper) holder keeper made formed start typed columns end rows run (wire_at (routes hub) c) (Contains-get_or (routes hub) c any-wire lt)

  -- what the source of an input of the top gives
  pub source-column : (m p : ℕ) → p < length hub.circuit.ins → GivesInput (routes hub) m (value_at hub.circuit.ins p) → (start : Start) (columns : List (List ℕ)) (end : ℕ) (rows : List (List ℕ)) → IsColumns (reference hub holder keeper) end columns → AreRows (reference hub holder keeper) start columns end rows
      → (c : ℕ) → Contains (channels_from (routes hub) m) c → (t : ℕ) → start.cycle ≤ t → t < end → value_at (given_column hub rows c) t ≡ value_at (get_or columns p []) t
  source-column m p lt source start columns end rows given run c h t le below =
      let at = formed.ins p lt in
      ap (λ s. value_at (column rows s) t) (source.all (wire_at (routes hub) c).given (Contains-map (λ d. (wire_at (routes hub) d).given) (channels_from (routes hub) m) c h))
      ∙ input-column (reference hub holder keeper) (value_at hub.circuit.ins p) p lt
      (let low = at.0 in omega (arith, low, made.signals)) (made.drivers (value_at hub.circuit.ins p) at.0 ∙ ap (renamed_driver (signals_by (seen_by hub (maker_of hub (value_at hub.circuit.ins p))))) at.1) start columns end rows given run t le below
