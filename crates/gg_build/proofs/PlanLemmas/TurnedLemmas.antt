-- A bridge's model, with its ports in the order of a machine's channels, as the piece of a machine: it is well formed, it settles once, no
-- out-signal depends on an in-signal, and the model's runs are runs of it.
use Rattle.std.proofs.Common.{◌≡◌, ℕ, zero, suc, ◌<◌, ◌≤◌, List, [], ◌∷◌, drop, length, map, refl, sym, ◌∙◌, ap, ap₂, subst, inl, inr, ◌⊎◌, arith}
use Rattle.std.specs.Prelude.{All, Contains}
use Rattle.std.proofs.lemmas.Bool.{cases_lt}
use Rattle.std.proofs.lemmas.List.{get_or-map, get_or_past, length-map}
use Rattle.std.proofs.lemmas.List.Elements.{Contains-get_or}
use Rattle.gg_bits.specs.Shape.{Shape}
use Rattle.gg_flat.specs.declared.memory.Latency.{Latency}
use Rattle.gg_flat.specs.declared.memory.Latency.TheVariants.{Zero, One}
use Rattle.gg_flat.specs.declared.memory.Reader.{Reader}
use Rattle.gg_flat.specs.declared.piece.Driver.{Driver}
use Rattle.gg_flat.specs.declared.piece.Driver.TheVariants.{Input, Held, MemoryWord, ReadRegister, Computed}
use Rattle.gg_flat.specs.Circuit.{FlatCircuit, driver_at, latency_at, reader_at, readers_at, signal_shapes}
use Rattle.gg_flat.specs.Clock.{edges_at}
use Rattle.gg_flat.specs.Depends.{DependsOn, SettlesOnce}
use Rattle.gg_flat.specs.Line.{AreTyped, HasType, IsSource, shape_at, value_at}
use Rattle.gg_flat.specs.Run.{IsRunFrom, Start, inputs_at, later, row_at, state_at}
use Rattle.gg_flat.specs.Settled.{Settled, driver_value}
use Rattle.gg_flat.specs.State.{State, next_state}
use Rattle.gg_flat.specs.WellFormed.{IsMemory, IsRegister, IsWellFormed, MayDrive, reader_driver}
use Rattle.gg_order.proofs.RunsLemmas.DependLemmas.{depends-reached}
use Rattle.gg_flat.proofs.ListLemmas.{once-apart}
use Rattle.gg_order.proofs.RunsLemmas.UniqueLemmas.{Settled-once}
use Rattle.gg_bridge.specs.Model.{IsModel}
use Rattle.gg_bridge.specs.Turned.{place_in, turned, turned_driver, turned_signal}
use Rattle.gg_bridge.specs.inside.Turned.{turned_back}
use Rattle.gg_bridge.proofs.NumberLemmas.{place-of}
use Rattle.gg_bridge.specs.inside.Hosted.{ArePorts}
use Rattle.gg_bridge.proofs.HostedLemmas.{driver-turned, shapes, turned-settled}
use Rattle.gg_net.specs.Kept.{in_columns}
use Rattle.gg_net.proofs.StateLemmas.{inputs-are}

-- row t behind the first c rows
row-later : (c t : ℕ) (rows : List (List ℕ)) → row_at (drop c rows) t ≡ row_at rows (later c t)
row-later zero t rows = refl
row-later (suc c) t [] = refl
row-later (suc c) t (row ∷ rows) = row-later c t rows

-- the driver of a reader's data names no in-signal
plain-reader : (ins : List ℕ) (latency : Latency) (m r : ℕ) (reader : Reader) → turned_driver ins (reader_driver latency m r reader) ≡ reader_driver latency m r reader
plain-reader ins Zero m r reader = refl
plain-reader ins (One under) m r reader = refl

no-input : (latency : Latency) (m r : ℕ) (reader : Reader) → Input 0 ≡ reader_driver latency m r reader → ⊥
no-input Zero m r reader e = absurd (cc)
no-input (One under) m r reader e = absurd (cc)

module _ (model : FlatCircuit) (ins outs : List ℕ) (is : IsModel model) (ports : ArePorts model ins outs) where
  abbrev piece : FlatCircuit
  piece = turned model ins outs

  many : length (turned model ins outs).signals ≡ length model.signals
  many = length-map model.signals (turned_signal ins)

  -- ---- it is well formed

  -- the in-signal at a place of the model is at the place's own place
  record IsAtPlace (place : ℕ) : Type 0 where
    known : place_in ins place < length (turned model ins outs).ins
    same : value_at (turned model ins outs).ins (place_in ins place) ≡ value_at model.ins place

  at-place : (place : ℕ) → place < length model.ins → IsAtPlace place
  at-place place lt =
      let at = place-of ins place (ports.takes.every place lt) in
      let known = at.known in
      record {
        known = omega (arith, known, length-map ins (value_at model.ins));
        same = get_or-map (value_at model.ins) ins (place_in ins place) 0 0 at.known ∙ ap (value_at model.ins) at.is;
      }

  may-drive : (s : ℕ) (driver : Driver) → MayDrive model s driver → MayDrive (turned model ins outs) s (turned_driver ins driver)
  may-drive s (Input place) may = let at = at-place place may.0 in (at.known, at.same ∙ may.1)
  may-drive s (Held register) may = (may.0, may.1 ∙ ap (λ (l : List Shape). shape_at l s) (sym (shapes model ins outs)))
  may-drive s (MemoryWord memory reader addr en) may = may
  may-drive s (ReadRegister memory reader) may = may
  may-drive s (Computed line) may = subst (λ (l : List Shape). IsSource (HasType l) (shape_at l s) line) (sym (shapes model ins outs)) may

  in-driver : (place : ℕ) → place < length (turned model ins outs).ins → (value_at (turned model ins outs).ins place < length (turned model ins outs).signals) × (driver_at (turned model ins outs) (value_at (turned model ins outs).ins place) ≡ Input place)
  in-driver place lt =
      let low : place < length ins = omega (arith, lt, length-map ins (value_at model.ins)) in
      let p = value_at ins place in
      let known = ports.takes.known place 0 low in
      let own = is.formed.ins p known in
      let inside = own.0 in
      let signal : value_at (turned model ins outs).ins place ≡ value_at model.ins p = get_or-map (value_at model.ins) ins place 0 0 low in
      let at = place-of ins p (ports.takes.every p known) in
      let same : place_in ins p ≡ place = once-apart ins 0 ports.takes.once (place_in ins p) place at.known low at.is in
      (omega (arith, signal, inside, many), ap (driver_at (turned model ins outs)) signal ∙ driver-turned model ins outs (value_at model.ins p) inside ∙ ap (turned_driver ins) own.1 ∙ ap Input same)

  reader-driver : (m r : ℕ) → m < length model.memories → r < length (readers_at model m) → driver_at (turned model ins outs) (reader_at (readers_at model m) r).word ≡ reader_driver (latency_at model m) m r (reader_at (readers_at model m) r)
  reader-driver m r lt low = by (cases_lt word (length model.signals))
    where
      word : ℕ
      word = (reader_at (readers_at model m) r).word

      own : driver_at model (reader_at (readers_at model m) r).word ≡ reader_driver (latency_at model m) m r (reader_at (readers_at model m) r)
      own = is.formed.reads m lt r low

      by : (word < length model.signals) ⊎ (length model.signals ≤ word) → driver_at (turned model ins outs) word ≡ reader_driver (latency_at model m) m r (reader_at (readers_at model m) r)
      by (inl less) = driver-turned model ins outs word less ∙ ap (turned_driver ins) own ∙ plain-reader ins (latency_at model m) m r (reader_at (readers_at model m) r)
      by (inr past) =
          absurd (no-input (latency_at model m) m r (reader_at (readers_at model m) r)
          (sym (get_or_past (map (λ signal. signal.driver) model.signals) word (Input 0) (omega (arith, past, length-map model.signals (λ signal. signal.driver)))) ∙ own))

  pub turned-formed : IsWellFormed (turned model ins outs)
  turned-formed =
      record {
        named = is.formed.named ∙ sym many;
        distinct = is.formed.distinct;
        drivers = λ s lt.
            let low : s < length model.signals = omega (arith, lt, many) in
            subst (MayDrive (turned model ins outs) s) (sym (driver-turned model ins outs s low)) (may-drive s (driver_at model s) (is.formed.drivers s low));
        ins = in-driver;
        outs = λ place lt.
            let low : place < length outs = omega (arith, lt, length-map outs (value_at model.outs)) in
            let own = is.formed.outs (value_at outs place) (ports.gives place 0 low) in
            omega (arith, own, get_or-map (value_at model.outs) outs place 0 0 low, many);
        registers = subst (λ (l : List Shape). All (IsRegister (HasType l)) model.registers) (sym (shapes model ins outs)) is.formed.registers;
        memories = subst (λ (l : List Shape). All (IsMemory (HasType l)) model.memories) (sym (shapes model ins outs)) is.formed.memories;
        reads = λ m lt r low. reader-driver m r lt low;
        register_clocks = is.formed.register_clocks;
        memory_clocks = is.formed.memory_clocks;
      }

  -- ---- what its signals depend on

  pub turned-once : SettlesOnce (turned model ins outs)
  turned-once = λ state inputs v w sv sw.
      Settled-once model is.order state (turned_back ins inputs) v w is.ordered (turned-settled model ins outs is.formed ports.takes state inputs v sv) (turned-settled model ins outs is.formed ports.takes state inputs w sw)

  none-there : (place : ℕ) → Contains [] place → ⊥
  none-there place h = omega (arith, h.1)

  free : (o : ℕ) → o < length model.outs → DependsOn model (value_at model.outs o) []
  free o lt =
      depends-reached model is.order (value_at model.outs o) [] is.formed is.ordered (is.formed.outs o lt) (λ place within reaches.
      absurd (is.apart (value_at model.outs o) (value_at model.ins place) (Contains-get_or model.outs o 0 lt) (Contains-get_or model.ins place 0 within) reaches))

  pub turned-free : (o : ℕ) → o < length (turned model ins outs).outs → (places : List ℕ) → DependsOn (turned model ins outs) (value_at (turned model ins outs).outs o) places
  turned-free o lt places = λ state inputs others v w sv sw alike.
      let low : o < length outs = omega (arith, lt, length-map outs (value_at model.outs)) in
      let own = free (value_at outs o) (ports.gives o 0 low) state (turned_back ins inputs) (turned_back ins others) v w
      (turned-settled model ins outs is.formed ports.takes state inputs v sv) (turned-settled model ins outs is.formed ports.takes state others w sw) (λ place h. absurd (none-there place h)) in
      subst (λ s. value_at v s ≡ value_at w s) (sym (get_or-map (value_at model.outs) outs o 0 0 low)) own

  -- ---- runs

  pub turned-state : (start : Start) (rows : List (List ℕ)) (t : ℕ) → state_at (turned model ins outs) start rows t ≡ state_at model start rows t
  turned-state start rows zero = refl
  turned-state start rows (suc t) = ap (λ (s : State). next_state (edges_at start.ratios (later start.cycle t)) model s (row_at rows t)) (turned-state start rows t)

  own-value : (state : State) (inputs row : List ℕ) (sink : Shape) (s : ℕ) (driver : Driver) → MayDrive model s driver → value_at row s ≡ driver_value state inputs row sink driver → value_at row s ≡ driver_value state (map (value_at row) (turned model ins outs).ins) row sink (turned_driver ins driver)
  own-value state inputs row sink s (Input place) may e =
      let at = at-place place may.0 in
      ap (value_at row) (sym may.1 ∙ sym at.same) ∙ sym (get_or-map (value_at row) (turned model ins outs).ins (place_in ins place) 0 0 at.known)
  own-value state inputs row sink s (Held register) may e = e
  own-value state inputs row sink s (MemoryWord memory reader addr en) may e = e
  own-value state inputs row sink s (ReadRegister memory reader) may e = e
  own-value state inputs row sink s (Computed line) may e = e

  own-settled : (state : State) (inputs row : List ℕ) → Settled model state inputs row → Settled (turned model ins outs) state (map (value_at row) (turned model ins outs).ins) row
  own-settled state inputs row settled =
      record {
        typed = subst (λ (l : List Shape). AreTyped l row) (sym (shapes model ins outs)) settled.typed;
        driven = λ s lt.
            let low : s < length model.signals = omega (arith, lt, many) in
            own-value state inputs row (shape_at (signal_shapes model) s) s (driver_at model s) (is.formed.drivers s low) (settled.driven s low)
            ∙ ap₂ (λ (l : List Shape) d. driver_value state (map (value_at row) (turned model ins outs).ins) row (shape_at l s) d) (sym (shapes model ins outs)) (sym (driver-turned model ins outs s low));
      }

  -- a run of the model, whatever its columns, is a run of the machine's piece on the columns of the piece's own in-signals
  pub turned-run : (start : Start) (columns : List (List ℕ)) (n : ℕ) (rows : List (List ℕ)) → IsRunFrom model start columns n (drop start.cycle rows) → IsRunFrom (turned model ins outs) start (in_columns (turned model ins outs) rows) n (drop start.cycle rows)
  turned-run start columns n rows run =
      record {
        count = run.count;
        settled = λ t lt.
            let row = row_at (drop start.cycle rows) t in
            let inputs : map (value_at row) (turned model ins outs).ins ≡ inputs_at (in_columns (turned model ins outs) rows) (later start.cycle t) =
            ap (λ (l : List ℕ). map (value_at l) (turned model ins outs).ins) (row-later start.cycle t rows) ∙ sym (inputs-are rows (later start.cycle t) (turned model ins outs).ins) in
            subst (λ (s : State). Settled (turned model ins outs) s (inputs_at (in_columns (turned model ins outs) rows) (later start.cycle t)) row) (sym (turned-state start (drop start.cycle rows) t))
            (subst (λ (l : List ℕ). Settled (turned model ins outs) (state_at model start (drop start.cycle rows) t) l row) inputs
            (own-settled (state_at model start (drop start.cycle rows) t) (inputs_at columns (later start.cycle t)) row (run.settled t lt)));
      }

-- in a run the in-signal at a place has what the run is given for it
pub input-row : (circuit : FlatCircuit) (start : Start) (columns : List (List ℕ)) (n : ℕ) (rows : List (List ℕ)) → IsWellFormed circuit → IsRunFrom circuit start columns n rows → (place t : ℕ) → place < length circuit.ins → t < n → value_at (row_at rows t) (value_at circuit.ins place) ≡ value_at (inputs_at columns (later start.cycle t)) place
input-row circuit start columns n rows formed run place t known lt =
    let at = formed.ins place known in
    let s = value_at circuit.ins place in
    (run.settled t lt).driven s at.0
    ∙ ap (driver_value (state_at circuit start rows t) (inputs_at columns (later start.cycle t)) (row_at rows t) (shape_at (signal_shapes circuit) s)) at.1
