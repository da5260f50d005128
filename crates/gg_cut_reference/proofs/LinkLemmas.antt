-- In a run of the reference circuit, what the consumer of a channel gets is what its producer gives, a cycle later where the channel is piped.
use Rattle.std.proofs.Common.{◌≡◌, ℕ, ◌+◌, ◌<◌, ◌≤◌, ◌++◌, List, drop, replicate, [], ◌∷◌, Bool, true, false, Option, Some, None, length, take, sym, ◌∙◌, ap, ap₂, subst, inl, inr, ◌⊎◌, refl, eq-eqb, take_all, arith}
use Rattle.std.specs.Prelude.{◌==◌, not, MatchOption, Contains}
use Rattle.std.specs.List.{list_any}
use Rattle.std.proofs.lemmas.Bool.{and_parts, cases_lt, eqb-true}
use Rattle.std.proofs.lemmas.List.{get_or-map, length-map}
use Rattle.std.proofs.lemmas.List.Elements.{All-contains}
use Rattle.std.proofs.lemmas.Grind.{same_number_lists}
use Rattle.gg_bits.specs.Shape.{Shape, shape}
use Rattle.gg_flat.specs.declared.line.Node.{Node}
use Rattle.gg_flat.specs.declared.line.Op.TheVariants.{Ref}
use Rattle.gg_flat.specs.Line.{value_at, shape_at}
use Rattle.gg_flat.specs.Circuit.{FlatCircuit, signal_shapes}
use Rattle.gg_flat.specs.WellFormed.{IsWellFormed}
use Rattle.gg_flat.specs.State.{IsState}
use Rattle.gg_order.proofs.RunsLemmas.SinceLemmas.{row-dropped}
use Rattle.gg_flat.specs.Run.{Start, row_at, column, state_at, inputs_at, later, since}
use Rattle.gg_cut_plan.specs.declared.wires.Wire.{Wire}
use Rattle.gg_cut_plan.specs.Listed.{first_place}
use Rattle.gg_cut_plan.proofs.PathLemmas.{IsPlace, place-tells}
use Rattle.gg_cut_plan.specs.Direct.{Hub, is_own, routes, origin_within}
use Rattle.gg_cut_plan.specs.inside.Direct.{IsSame}
use Rattle.gg_cut_reference.specs.inside.Reference.{IsReference}
use Rattle.gg_cut_plan.specs.Solves.{AreRows, stream}
use Rattle.gg_cut_reference.specs.Follows.{token_of, token_or}
use Rattle.gg_cut_reference.specs.Links.{pipes_of, taken_as, seen_by, maker_of, views_of}
use Rattle.gg_cut_plan.proofs.OriginLemmas.{finds-any, clash, IsCopied, copied-is, own-free}
use Rattle.gg_cut_routes.proofs.RouteLemmas.{IsBase}
use Rattle.gg_cut_plan.proofs.DirectLemmas.{IsFromBase}
use Rattle.gg_cut_plan.proofs.SameLemmas.{copy-wide, IsKeptIn, AreKeptIn, routes-same}
use Rattle.gg_cut_reference.proofs.PipeLemmas.{IsPipe, pipe-column, since-less}
use Rattle.gg_cut_reference.proofs.SeenLemmas.{maker-inner, maker-wire, pipe-in, place-of, unpiped, takes-seen, seen-origin, pipes-known}
use Rattle.gg_flat.specs.Renaming.{renamed_driver, renamed_op, signals_by}

module _ (hub : Hub) (base : IsBase hub) (all : FlatCircuit) (holder keeper : ℕ → ℕ) (reference : IsReference hub.circuit all (views_of hub holder keeper) (pipes_of hub)) (formed : IsWellFormed hub.circuit) where
  -- a copy of the hub that has an origin is a copy in the reference circuit
  pub kept-reference : AreKeptIn hub all
  kept-reference =
      record {
        more = (let long = reference.signals in omega (arith, long));
        each = λ n s t x lt hubs to from. each n s t x lt (maker s hubs) (copied-is hub.circuit s t to) from;
      }
    where
      maker : (s : ℕ) → (is_own hub s ≡ true) ⊎ IsFromBase hub 0 s → maker_of hub s ≡ 0
      maker s (inl own) = maker-inner hub base s (own-free hub s own) ∙ eqb-true (hub.owner s) 0 (and_parts (hub.owner s == 0) (not (list_any (λ (w : Wire). w.signal == s) hub.base)) own).0
      maker s (inr w) = maker-wire hub base 0 s w

      each : (n s t x : ℕ) → s < length hub.circuit.signals → maker_of hub s ≡ 0 → IsCopied hub.circuit s t → origin_within hub n t ≡ Some x → IsKeptIn hub all s t
      each n s t x lt hub-made is from =
          let wide = copy-wide hub.circuit formed s t lt is in
          let node : Node = record { ty = is.bare.node.ty; op = renamed_op (seen_by hub 0) is.bare.node.op } in
          let low = wide.known in
          let shape-s = reference.shapes s lt in
          let shape-t = reference.shapes t low in
          let width : Shape → ℕ = λ sh. sh.width in
          record {
            is = record {
              bare = record {
                node = node;
                is = reference.drivers s lt ∙ ap₂ (λ m d. renamed_driver (signals_by (seen_by hub m)) d) hub-made is.bare.is;
                op = ap (renamed_op (seen_by hub 0)) is.bare.op ∙ ap Ref (seen-origin hub base n t x from);
              };
              wide = ap₂ (λ (a b : Shape). a.width == b.width) shape-t shape-s ∙ is.wide;
            };
            wide = record {
              known = (let long = reference.signals in omega (arith, low, long));
              own = wide.own ∙ sym (ap width shape-s);
              other = ap width shape-t ∙ wide.other ∙ sym (ap width shape-s);
            };
            below = wide.known;
          }

  -- ---- the two ends of a channel

  pipe-of : (k : ℕ) → k < length (pipes_of hub) → IsPipe all (length hub.circuit.signals + k) (length hub.circuit.registers + k) (value_at (pipes_of hub) k)
  pipe-of k lt =
      let c = value_at (pipes_of hub) k in
      let low : c < length hub.circuit.signals = pipes-known hub base k lt in
      let long = reference.signals in
      let many = reference.registers in
      record {
        known = omega (arith, lt, long);
        driver = reference.pipe_driver k lt;
        register = omega (arith, lt, many);
        from = omega (arith, low, long);
        sink = shape_at (signal_shapes hub.circuit) c;
        is = λ any. reference.pipe_register k any lt;
        shape_is = reference.shapes c low;
      }

  module _ (start : Start) (typed : IsState all start.state) (columns : List (List ℕ)) (end : ℕ) (rows : List (List ℕ)) (run : AreRows all start columns end rows) where
    high : (s : ℕ) → length (column rows s) ≡ end
    high s = length-map rows (λ (row : List ℕ). value_at row s) ∙ run.count

    -- the signal of a channel has the column of what is given
    pub given-column : (r : Wire) → Contains (routes hub) r → column rows r.signal ≡ column rows r.given
    given-column r h =
        same_number_lists (column rows r.signal) (column rows r.given) (high r.signal ∙ sym (high r.given)) (λ t inside.
        let lt : t < end = omega (arith, inside, high r.signal) in
        let below : t < length rows = omega (arith, lt, run.count) in
        get_or-map (λ (row : List ℕ). value_at row r.signal) rows t [] 0 below
        ∙ each t lt (cases_lt t start.cycle)
        ∙ sym (get_or-map (λ (row : List ℕ). value_at row r.given) rows t [] 0 below))
      where
        same : IsSame all r
        same = All-contains (IsSame all) (routes hub) r (routes-same hub all kept-reference base.plain) h

        each : (t : ℕ) → t < end → (t < start.cycle) ⊎ (start.cycle ≤ t) → value_at (row_at rows t) r.signal ≡ value_at (row_at rows t) r.given
        each t lt (inl low) = run.before t r.signal low ∙ sym (run.before t r.given low)
        each t lt (inr le) =
            let k = since start.cycle t in
            let is = row-dropped start.cycle t rows le in
            ap (λ (row : List ℕ). value_at row r.signal) (sym is)
            ∙ same (state_at all start (drop start.cycle rows) k) (inputs_at columns (later start.cycle k)) (row_at (drop start.cycle rows) k) (run.run.settled k (since-less start.cycle t end le lt))
            ∙ ap (λ (row : List ℕ). value_at row r.given) is

    counted : length start.state.registers ≡ length all.registers
    counted = typed.typed.count ∙ length-map all.registers (λ register. shape register.ty)

    -- What the consumer of a channel gets.
    pub link-column : (r : Wire) → Contains (routes hub) r → column rows (taken_as hub r.signal) ≡ take end (stream start.cycle (token_of hub start.state r.signal) (hub.piped r.signal) (column rows r.given))
    link-column r h = by (hub.piped r.signal) refl
      where
        plain : hub.piped r.signal ≡ false → column rows (taken_as hub r.signal) ≡ take end (column rows r.given)
        plain e = ap (column rows) (unpiped hub base r.signal e) ∙ given-column r h ∙ sym (take_all end (column rows r.given) (let long = high r.given in omega (arith, long)))

        place : (o : Option ℕ) → first_place (λ p. p == r.signal) (pipes_of hub) ≡ o → hub.piped r.signal ≡ true → column rows (taken_as hub r.signal) ≡ take end (replicate start.cycle 0 ++ token_or hub start.state o ∷ drop start.cycle (column rows r.given))
        place None e p =
            let none = subst (λ o. MatchOption o (list_any (λ p. p == r.signal) (pipes_of hub) ≡ false) (IsPlace (λ p. p == r.signal) (pipes_of hub))) e (place-tells (λ p. p == r.signal) (pipes_of hub)) in
            let there =
            finds-any (λ p. p == r.signal) (pipes_of hub) r.signal
            (pipe-in hub base r h p)
            (eq-eqb r.signal r.signal refl) in
            absurd (clash (list_any (λ p. p == r.signal) (pipes_of hub)) there none)
        place (Some k) e p =
            let at = place-of hub base r.signal k e in
            ap (column rows) at.is
            ∙ pipe-column all (length hub.circuit.signals + k) (length hub.circuit.registers + k) (value_at (pipes_of hub) k) (pipe-of k at.known) start counted columns end rows run
            ∙ ap (λ c. take end (replicate start.cycle 0 ++ value_at start.state.registers (length hub.circuit.registers + k) ∷ drop start.cycle (column rows c))) at.of
            ∙ ap (λ l. take end (replicate start.cycle 0 ++ value_at start.state.registers (length hub.circuit.registers + k) ∷ drop start.cycle l)) (given-column r h)

        by : (b : Bool) → hub.piped r.signal ≡ b → column rows (taken_as hub r.signal) ≡ take end (stream start.cycle (token_of hub start.state r.signal) (hub.piped r.signal) (column rows r.given))
        by true e = place (first_place (λ p. p == r.signal) (pipes_of hub)) refl e ∙ ap (λ b. take end (stream start.cycle (token_of hub start.state r.signal) b (column rows r.given))) (sym e)
        by false e = plain e ∙ ap (λ b. take end (stream start.cycle (token_of hub start.state r.signal) b (column rows r.given))) (sym e)

    -- so in the columns that it sees
    pub seen-column : (r : Wire) → Contains (routes hub) r → column rows (seen_by hub r.consumer r.signal) ≡ take end (stream start.cycle (token_of hub start.state r.signal) (hub.piped r.signal) (column rows r.given))
    seen-column r h = ap (column rows) (takes-seen hub base r h) ∙ link-column r h
