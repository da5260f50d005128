-- In a circuit with an order, the value of a signal depends only on the in-signals that it reaches.
use Rattle.std.proofs.Common.{◌≡◌, ℕ, zero, suc, ◌<◌, ◌≤◌, List, [], ◌∷◌, ◌++◌, length, refl, sym, ◌∙◌, subst, arith, below_more}
use Rattle.std.specs.Prelude.{Contains}
use Rattle.gg_bits.specs.Shape.{Shape}
use Rattle.gg_flat.specs.declared.piece.Driver.{Driver}
use Rattle.gg_flat.specs.declared.piece.Driver.TheVariants.{Input, Held, MemoryWord, ReadRegister, Computed}
use Rattle.gg_flat.specs.Line.{value_at, shape_at}
use Rattle.gg_flat.specs.Circuit.{FlatCircuit, signal_shapes, driver_at}
use Rattle.gg_flat.specs.Reads.{Reads, IsPath, Reaches}
use Rattle.gg_flat.specs.State.{State}
use Rattle.gg_flat.specs.Settled.{Settled, driver_value}
use Rattle.gg_flat.specs.Depends.{DependsOn}
use Rattle.gg_flat.specs.WellFormed.{MayDrive, IsWellFormed}
use Rattle.gg_flat.specs.Order.{IsOrder}
use Rattle.gg_order.proofs.RunsLemmas.AgreeLemmas.{driver_value-agree}
use Rattle.gg_flat.proofs.OrderLemmas.{read-before, place-of}

path-on : (circuit : FlatCircuit) (a : ℕ) (path : List ℕ) (b c : ℕ) → IsPath circuit a path b → Reads circuit b c → IsPath circuit a (path ++ c ∷ []) c
path-on circuit a [] b c is reads = (subst (λ s. Reads circuit s c) (sym is) reads, refl)
path-on circuit a (next ∷ path) b c is reads = (is.0, path-on circuit next path b c is.1 reads)

-- a driver's value with other inputs
other-inputs : (state : State) (inputs others values : List ℕ) (sink : Shape) (driver : Driver) → ((place : ℕ) → driver ≡ Input place → value_at inputs place ≡ value_at others place) → driver_value state inputs values sink driver ≡ driver_value state others values sink driver
other-inputs state inputs others values sink (Input place) same = same place refl
other-inputs state inputs others values sink (Held register) same = refl
other-inputs state inputs others values sink (MemoryWord memory reader addr en) same = refl
other-inputs state inputs others values sink (ReadRegister memory reader) same = refl
other-inputs state inputs others values sink (Computed line) same = refl

module _ (circuit : FlatCircuit) (order : List ℕ) (formed : IsWellFormed circuit) (o : IsOrder circuit order) (out : ℕ) (state : State) (inputs others v w : List ℕ) (sv : Settled circuit state inputs v) (sw : Settled circuit state others w) (alike : (place : ℕ) → place < length circuit.ins → Reaches circuit out (value_at circuit.ins place) → value_at inputs place ≡ value_at others place) where
  -- the signals before place i of the order that are reached have the same values in both rows
  depends-below : (i : ℕ) → i ≤ length order → (j : ℕ) → j < i → Reaches circuit out (value_at order j) → value_at v (value_at order j) ≡ value_at w (value_at order j)
  depends-below zero le j lt to = absurd (omega arith)
  depends-below (suc i) le j lt to =
      let within : i < length order = omega arith in
      let below = depends-below i (omega arith) in
      let s = value_at order i in
      let known = o.signals i within in
      below_more (λ k. Reaches circuit out (value_at order k) → value_at v (value_at order k) ≡ value_at w (value_at order k)) i below (λ here.
      sv.driven s known
      ∙ driver_value-agree state inputs v w (shape_at (signal_shapes circuit) s) (driver_at circuit s) (λ t named.
      let reads : Reads circuit s t = record { signal = known; names = named } in
      let at = read-before circuit order i s t o within refl reads in
      let on : Reaches circuit out t = record { path = here.path ++ t ∷ []; reads = path-on circuit out here.path s t here.reads reads } in
      subst (λ x. value_at v x ≡ value_at w x) at.is (below at.place at.before (subst (Reaches circuit out) (sym at.is) on)))
      ∙ other-inputs state inputs others w (shape_at (signal_shapes circuit) s) (driver_at circuit s) (λ place is.
      let may : (place < length circuit.ins) × (value_at circuit.ins place ≡ s) = subst (MayDrive circuit s) is (formed.drivers s known) in
      alike place may.0 (subst (Reaches circuit out) (sym may.1) here))
      ∙ sym (sw.driven s known)) j (omega arith) to

pub depends-reached : (circuit : FlatCircuit) (order : List ℕ) (s : ℕ) (places : List ℕ) → IsWellFormed circuit → IsOrder circuit order → s < length circuit.signals → ((place : ℕ) → place < length circuit.ins → Reaches circuit s (value_at circuit.ins place) → Contains places place) → DependsOn circuit s places
depends-reached circuit order s places formed o known among = λ state inputs others v w sv sw alike.
    let at = place-of circuit order s o known in
    let itself : Reaches circuit s (value_at order at.place) = subst (Reaches circuit s) (sym at.is) (record { path = []; reads = refl }) in
    subst (λ x. value_at v x ≡ value_at w x) at.is
    (depends-below circuit order formed o s state inputs others v w sv sw (λ place within to. alike place (among place within to)) (length order) (omega arith) at.place at.before itself)
