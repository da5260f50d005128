-- In a run of the reference circuit, a machine gives what its piece gives on what the machine takes.
use Rattle.std.proofs.Common.{◌≡◌, ◌≢◌, ℕ, suc, Bool, ◌<◌, List, [], ◌∷◌, length, map, take, sym, ◌∙◌, ap, ap₂, subst, inl, inr, ◌⊎◌, refl, arith}
use Rattle.std.specs.Prelude.{◌↔◌, ◌==◌, Contains}
use Rattle.std.specs.List.{range_with_len}
use Rattle.std.proofs.lemmas.Bool.{eqb-true}
use Rattle.std.proofs.lemmas.List.{get_or-map, get_or_default, length-map}
use Rattle.std.proofs.lemmas.List.Elements.{Contains-get_or}
use Rattle.std.proofs.lemmas.Simd.{map-map}
use Rattle.gg_flat.specs.declared.piece.Driver.TheVariants.{Input}
use Rattle.gg_flat.specs.Line.{value_at}
use Rattle.gg_flat.specs.Circuit.{FlatCircuit, driver_at}
use Rattle.gg_flat.specs.WellFormed.{IsWellFormed}
use Rattle.gg_flat_tree.specs.Tree.{path_at}
use Rattle.gg_flat.specs.State.{IsState}
use Rattle.gg_flat.specs.Run.{Start, column}
use Rattle.gg_flat.proofs.ListLemmas.{map-same, once-apart, filter-cases, range-below}
use Rattle.gg_part.specs.Part.{IsPart}
use Rattle.gg_part.specs.Building.{AreHeld}
use Rattle.gg_flat.specs.InOrder.{IsInOrder}
use Rattle.gg_part.specs.PartRun.{part_row, part_rows, part_start}
use Rattle.gg_part.specs.inside.PartRun.{part_columns}
use Rattle.gg_part.specs.declared.part.Part.{Part}
use Rattle.gg_part.proofs.RenameLemmas.{part_row-at}
use Rattle.gg_order.specs.Design.{Ordered}
use Rattle.gg_partfile.specs.declared.request.BridgeEntry.{BridgeEntry}
use Rattle.gg_cut_plan.specs.declared.listed.Listed.{Listed}
use Rattle.gg_cut_plan.specs.declared.wires.Wire.{Wire}
use Rattle.gg_cut_split.proofs.ClosedLemmas.ListLemmas.{map-cases}
use Rattle.gg_cut_plan.specs.Plan.{wire_at, channels_to, channels_from, signals_of, givens_of, Takes, MakesBy, IsCutPart}
use Rattle.gg_cut_plan.specs.Direct.{Hub, hub_of, routes}
use Rattle.gg_cut_reference.specs.inside.Reference.{IsReference, with_paths}
use Rattle.gg_cut_plan.specs.Solves.{AreRows, stream}
use Rattle.gg_cut_reference.specs.Follows.{token_of}
use Rattle.gg_cut_reference.specs.Links.{pipes_of, seen_by, views_of}
use Rattle.gg_cut_reference.specs.inside.Links.{AreHolders}
use Rattle.gg_cut_routes.proofs.RouteLemmas.{IsBase, chosen-out}
use Rattle.gg_cut_routes.proofs.ChoiceLemmas.{any-wire}
use Rattle.gg_cut_reference.proofs.ReferenceLemmas.{IsOwn, part_of_reference, rows-paths, started-part}
use Rattle.gg_cut_reference.proofs.SeenLemmas.{maker-is, all-seen, gives-seen, seen-own}
use Rattle.gg_cut_reference.proofs.LinkLemmas.{seen-column}

-- two functions that agree on the items of a list make the same list of it
pub map-agree : {B : Type 0} (f g : ℕ → B) (xs : List ℕ) → ((i : ℕ) → i < length xs → f (value_at xs i) ≡ g (value_at xs i)) → map f xs ≡ map g xs
map-agree f g [] same = refl
map-agree f g (x ∷ xs) same = ap₂ (λ y l. y ∷ l) (same 0 (omega arith)) (map-agree f g xs (λ i lt. same (suc i) (omega arith)))

-- What a machine's piece is to a hub: exactly the signals that the machine makes or takes, in an order of evaluation, and exactly
-- the registers that those hold which it doesn't take.
pub record IsRoutedPart (hub : Hub) (m : ℕ) (part : Part) : Type 0 where
  pub is : IsPart hub.circuit part.piece part.globals part.held part.memories part.clocks
  pub signals : (s : ℕ) → Contains part.globals s ↔ (MakesBy hub m s ⊎ Takes (routes hub) m s)
  pub ins : map (value_at part.globals) part.piece.ins ≡ signals_of (routes hub) (channels_to (routes hub) m)
  pub outs : map (value_at part.globals) part.piece.outs ≡ givens_of (routes hub) (channels_from (routes hub) m)
  pub held : AreHeld hub.circuit part.globals (signals_of (routes hub) (channels_to (routes hub) m)) part.held
  pub ordered : IsInOrder part.piece

-- a part of a cut is a machine's piece
pub cut-part : (design : Ordered) (listed : Listed) (piped : ℕ → Bool) (entries : List BridgeEntry) (direct : Bool) (m : ℕ) (part : Part) → IsCutPart design listed (hub_of design.circuit design.tree listed piped entries direct) m part → IsRoutedPart (hub_of design.circuit design.tree listed piped entries direct) m part
cut-part design listed piped entries direct m part cut = record { is = cut.is; signals = cut.signals; ins = cut.ins; outs = cut.outs; held = cut.held; ordered = cut.ordered }

module _ (hub : Hub) (base : IsBase hub) (all : FlatCircuit) (holder keeper : ℕ → ℕ) (reference : IsReference hub.circuit all (views_of hub holder keeper) (pipes_of hub)) (formed : IsWellFormed hub.circuit) (m : ℕ) (part : Part) (cut : IsRoutedPart hub m part) (holders : AreHolders hub holder keeper m part.memories) where
  -- a signal of the part that isn't an input isn't taken
  free : (s : ℕ) → s < length part.globals → ((place : ℕ) → driver_at part.piece s ≢ Input place) → ¬ Takes (routes hub) m (value_at part.globals s)
  free s lt none h =
      let at = map-cases (value_at part.globals) part.piece.ins (value_at part.globals s) (subst (λ (l : List ℕ). Contains l (value_at part.globals s)) (sym cut.ins) h) in
      let local = value_at part.piece.ins at.place in
      let in-at = cut.is.ins at.place at.within in
      let same : local ≡ s = once-apart part.globals 0 cut.is.once local s in-at.0 lt (at.holds 0) in
      none at.place (ap (driver_at part.piece) (sym same) ∙ in-at.1)

  makes : (s : ℕ) → Contains part.globals s → ¬ Takes (routes hub) m s → MakesBy hub m s
  makes s h not-taken = by ((cut.signals s).0 h)
    where
      by : MakesBy hub m s ⊎ Takes (routes hub) m s → MakesBy hub m s
      by (inl made) = made
      by (inr taken) = absurd (not-taken taken)

  pub own-of : IsOwn hub.circuit all (views_of hub holder keeper) (pipes_of hub) reference m (all-seen hub base m) part.piece part.globals part.held part.memories part.clocks cut.is
  own-of =
      record {
        made = λ s lt none. maker-is hub base m (value_at part.globals s) (makes (value_at part.globals s) (Contains-get_or part.globals s 0 lt) (free s lt none));
        plain = λ s lt none. seen-own hub base m (value_at part.globals s) (free s lt none);
        held_by = λ r lt.
            let is = cut.held.sound (value_at part.held r) (Contains-get_or part.held r 0 lt) in
            holders.registers is.signal (value_at part.held r) (subst (λ t. t < length hub.circuit.signals) (get_or_default part.globals is.chosen.0 0 is.signal is.chosen.1 ∙ is.chosen.2) (cut.is.within is.chosen.0 is.chosen.1)) is.holds.holds ∙ maker-is hub base m is.signal (makes is.signal is.chosen is.holds.inside);
        kept_by = λ k lt. holders.kept (value_at part.memories k) (Contains-get_or part.memories k 0 lt);
      }

  -- so its piece is a part of the reference circuit
  pub part-is : IsPart all (with_paths all part.piece (map (seen_by hub m) part.globals)) (map (seen_by hub m) part.globals) part.held part.memories part.clocks
  part-is = part_of_reference hub.circuit all (views_of hub holder keeper) (pipes_of hub) reference m (all-seen hub base m) part.piece part.globals part.held part.memories part.clocks cut.is own-of

  mine-at : (s : ℕ) → s < length part.globals → value_at (map (seen_by hub m) part.globals) s ≡ seen_by hub m (value_at part.globals s)
  mine-at s lt = get_or-map (seen_by hub m) part.globals s 0 0 lt

  module _ (start : Start) (typed : IsState all start.state) (columns : List (List ℕ)) (end : ℕ) (rows : List (List ℕ)) (run : AreRows all start columns end rows) where
    ins-columns : map (λ s. column rows (value_at (map (seen_by hub m) part.globals) s)) part.piece.ins ≡ map (λ c. take end (stream start.cycle (token_of hub start.state (wire_at (routes hub) c).signal) (hub.piped (wire_at (routes hub) c).signal) (column rows (wire_at (routes hub) c).given))) (channels_to (routes hub) m)
    ins-columns =
        map-agree (λ s. column rows (value_at (map (seen_by hub m) part.globals) s)) (λ s. column rows (seen_by hub m (value_at part.globals s))) part.piece.ins (λ i lt. ap (column rows) (mine-at (value_at part.piece.ins i) (cut.is.ins i lt).0))
        ∙ sym (map-map (λ t. column rows (seen_by hub m t)) (value_at part.globals) part.piece.ins)
        ∙ ap (map (λ t. column rows (seen_by hub m t))) cut.ins
        ∙ map-map (λ t. column rows (seen_by hub m t)) (λ c. (wire_at (routes hub) c).signal) (channels_to (routes hub) m)
        ∙ map-agree (λ c. column rows (seen_by hub m (wire_at (routes hub) c).signal)) (λ c. take end (stream start.cycle (token_of hub start.state (wire_at (routes hub) c).signal) (hub.piped (wire_at (routes hub) c).signal) (column rows (wire_at (routes hub) c).given))) (channels_to (routes hub) m) (λ i lt.
        let c = value_at (channels_to (routes hub) m) i in
        let kept = filter-cases (λ c. (wire_at (routes hub) c).consumer == m) (range_with_len 0 (length (routes hub))) c (Contains-get_or (channels_to (routes hub) m) i 0 lt) in
        let r = wire_at (routes hub) c in
        let among = Contains-get_or (routes hub) c any-wire (range-below (length (routes hub)) c kept.among) in
        ap (λ k. column rows (seen_by hub k r.signal)) (sym (eqb-true r.consumer m kept.passes)) ∙ seen-column hub base all holder keeper reference formed start typed columns end rows run r among)

    -- the part's rows are a run of the piece
    pub own-run : AreRows part.piece (part_start part.held part.memories part.clocks start) (part_columns (map (seen_by hub m) part.globals) part.piece rows) end (part_rows (map (seen_by hub m) part.globals) rows)
    own-run =
        rows-paths part.piece (map (path_at all.paths) (map (seen_by hub m) part.globals)) (part_start part.held part.memories part.clocks start) (part_columns (map (seen_by hub m) part.globals) part.piece rows) end (part_rows (map (seen_by hub m) part.globals) rows)
        (started-part all (with_paths all part.piece (map (seen_by hub m) part.globals)) (map (seen_by hub m) part.globals) part.held part.memories part.clocks part-is start columns end rows typed run)

    -- on what the machine takes
    pub machine-run : AreRows part.piece (part_start part.held part.memories part.clocks start) (map (λ c. take end (stream start.cycle (token_of hub start.state (wire_at (routes hub) c).signal) (hub.piped (wire_at (routes hub) c).signal) (column rows (wire_at (routes hub) c).given))) (channels_to (routes hub) m)) end (part_rows (map (seen_by hub m) part.globals) rows)
    machine-run = subst (λ (given : List (List ℕ)). AreRows part.piece (part_start part.held part.memories part.clocks start) given end (part_rows (map (seen_by hub m) part.globals) rows)) ins-columns own-run

    column-part : (s : ℕ) → s < length part.globals → column (part_rows (map (seen_by hub m) part.globals) rows) s ≡ column rows (seen_by hub m (value_at part.globals s))
    column-part s lt =
        map-map (λ (row : List ℕ). value_at row s) (part_row (map (seen_by hub m) part.globals)) rows
        ∙ map-same (λ row. value_at (part_row (map (seen_by hub m) part.globals) row) s) (λ row. value_at row (value_at (map (seen_by hub m) part.globals) s)) rows (λ row. part_row-at (map (seen_by hub m) part.globals) row s (omega (arith, lt, length-map part.globals (seen_by hub m))))
        ∙ ap (column rows) (mine-at s lt)

    pub outs-columns : map (column (part_rows (map (seen_by hub m) part.globals) rows)) part.piece.outs ≡ map (column rows) (givens_of (routes hub) (channels_from (routes hub) m))
    outs-columns =
        map-agree (column (part_rows (map (seen_by hub m) part.globals) rows)) (λ s. column rows (seen_by hub m (value_at part.globals s))) part.piece.outs (λ i lt. column-part (value_at part.piece.outs i) (cut.is.outs i lt))
        ∙ sym (map-map (λ t. column rows (seen_by hub m t)) (value_at part.globals) part.piece.outs)
        ∙ ap (map (λ t. column rows (seen_by hub m t))) cut.outs
        ∙ map-agree (λ t. column rows (seen_by hub m t)) (column rows) (givens_of (routes hub) (channels_from (routes hub) m)) (λ i lt.
        let s = value_at (givens_of (routes hub) (channels_from (routes hub) m)) i in
        let r = chosen-out (routes hub) any-wire (λ (q : Wire). q.producer == m) (λ (q : Wire). q.given) s (Contains-get_or (givens_of (routes hub) (channels_from (routes hub) m)) i 0 lt) in
        ap (column rows) (ap₂ (seen_by hub) (sym (eqb-true r.item.producer m r.passes)) (sym r.is) ∙ gives-seen hub base r.item r.among ∙ r.is))
