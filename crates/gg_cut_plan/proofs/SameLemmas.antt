-- A chain of copies has one value in each settled row.
use Rattle.std.proofs.Common.{◌≡◌, ℕ, zero, suc, ◌-◌, ◌^◌, ◌<◌, ◌≤◌, List, [], ◌∷◌, Bool, true, false, not, Option, Some, None, length, map, get_or, sym, ◌∙◌, ap, subst, inl, inr, ◌⊎◌, refl, arith}
use Rattle.std.specs.Prelude.{pos, negsuc, ◌-ℤ◌, ◌%◌, nat_lt, if◌then◌else◌, Contains, All, filter}
use Rattle.std.proofs.Math.Nat.{mod-eq_of_lt}
use Rattle.std.proofs.Math.ListN.{get_or-eq_default}
use Rattle.std.proofs.lemmas.Bool.{cases_lt, eqb-true}
use Rattle.std.proofs.lemmas.Int.{ints}
use Rattle.std.proofs.lemmas.Nat.{pow_pos}
use Rattle.std.proofs.lemmas.List.{length-map}
use Rattle.std.proofs.lemmas.List.Elements.{All-filter, All-map, Contains-get_or}
use Rattle.gg_bits.specs.Shape.{Shape, shape, Fits}
use Rattle.gg_bits.specs.Value.{number_of, pattern_of}
use Rattle.gg_bits.specs.Meaning.{extended}
use Rattle.gg_bits.specs.declared.types.Kind.{Kind}
use Rattle.gg_bits.specs.declared.types.Kind.TheVariants.{UInt, SInt}
use Rattle.gg_flat.specs.declared.line.Node.{Node}
use Rattle.gg_flat.specs.declared.line.Op.TheVariants.{Ref}
use Rattle.gg_flat.specs.declared.piece.Signal.{Signal}
use Rattle.gg_flat.specs.declared.piece.Driver.TheVariants.{Input}
use Rattle.gg_flat.specs.Line.{value_at, shape_at, shapes_of, op_value, connected_value, HasShape, HasType}
use Rattle.gg_flat.specs.Circuit.{FlatCircuit, signal_shapes}
use Rattle.gg_flat.specs.WellFormed.{IsWellFormed, MayDrive}
use Rattle.gg_flat.specs.State.{State}
use Rattle.gg_flat.specs.Settled.{Settled, driver_value}
use Rattle.gg_cut_plan.specs.declared.wires.Wire.{Wire}
use Rattle.gg_cut_plan.specs.Direct.{Hub, is_own, is_gone, origin_within, copied, if_wide, bare_of, direct_of, route, route_by, routes}
use Rattle.gg_cut_plan.specs.inside.Direct.{IsSame}
use Rattle.gg_cut_plan.proofs.OriginLemmas.{some-clash, IsCopied, copied-is, Chain, Here, Copy, chain}
use Rattle.gg_cut_plan.proofs.DirectLemmas.{IsFromBase, direct-is}

-- the pattern of the number that a pattern stands for is that pattern (now in gg_types; it belongs into gg_bits)
pattern_of-number : (kind : Kind) (w p : ℕ) → p < 2 ^ w → pattern_of w (number_of kind w p) ≡ p
pattern_of-number UInt w p small = mod-eq_of_lt small
pattern_of-number SInt w p small = by (nat_lt p (2 ^ (w - 1)))
  where
    less : pos p -ℤ pos (2 ^ w) ≡ negsuc (2 ^ w - 1 - p)
    less = omega (arith, ints)

    back : pattern_of w (negsuc (2 ^ w - 1 - p)) ≡ p
    back = let same : (2 ^ w - 1 - p) % 2 ^ w ≡ 2 ^ w - 1 - p = mod-eq_of_lt (omega (arith, pow_pos w)) in rw same (omega arith)

    by : (t : Bool) → pattern_of w (if t then pos p else (pos p -ℤ pos (2 ^ w))) ≡ p
    by true = mod-eq_of_lt small
    by false = ap (pattern_of w) less ∙ back

-- what a sink gets by a bare reference to a signal that is as wide
pub bare-value : (row : List ℕ) (sink : Shape) (node : Node) (t : ℕ) → node.op ≡ Ref t → (shape node.ty).width ≡ sink.width → Fits sink (value_at row t) → connected_value row sink (node ∷ []) ≡ value_at row t
bare-value row sink node t op wide fits =
    ap (extended (shape node.ty) sink.width) (ap (op_value row (shapes_of (node ∷ [])) []) op)
    ∙ subst (λ w. pattern_of sink.width (number_of node.ty.kind w (value_at row t)) ≡ value_at row t) (sym wide) (pattern_of-number node.ty.kind sink.width (value_at row t) fits)

-- signal s is as wide as signal t and as the reference to it
pub record IsWide (circuit : FlatCircuit) (s t : ℕ) (node : Node) : Type 0 where
  pub known : t < length circuit.signals
  pub own : (shape node.ty).width ≡ (shape_at (signal_shapes circuit) s).width
  pub other : (shape_at (signal_shapes circuit) t).width ≡ (shape_at (signal_shapes circuit) s).width

pub copy-wide : (circuit : FlatCircuit) → IsWellFormed circuit → (s t : ℕ) → s < length circuit.signals → (is : IsCopied circuit s t) → IsWide circuit s t is.bare.node
copy-wide circuit formed s t lt is =
    let line = (subst (λ d. MayDrive circuit s d) is.bare.is (formed.drivers s lt)).line in
    let at : HasType (signal_shapes circuit) t (shape is.bare.node.ty) = subst (λ op. HasShape (HasType (signal_shapes circuit)) (shapes_of (is.bare.node ∷ [])) 0 (shape is.bare.node.ty) op) is.bare.op (line.typed 0 (omega arith)) in
    let same : (shape_at (signal_shapes circuit) t).width ≡ (shape_at (signal_shapes circuit) s).width = eqb-true (shape_at (signal_shapes circuit) t).width (shape_at (signal_shapes circuit) s).width is.wide in
    record {
      known = omega (arith, at.0, length-map circuit.signals (λ signal. shape signal.ty));
      own = ap (λ (sh : Shape). sh.width) (sym at.1) ∙ same;
      other = same;
    }

-- a copy has the value of what it copies
pub copy-value : (circuit : FlatCircuit) (state : State) (inputs row : List ℕ) → Settled circuit state inputs row → (s t : ℕ) → s < length circuit.signals → (is : IsCopied circuit s t) → IsWide circuit s t is.bare.node → value_at row s ≡ value_at row t
copy-value circuit state inputs row settled s t lt is wide =
    let inside : t < length (signal_shapes circuit) = omega (arith, wide.known, length-map circuit.signals (λ signal. shape signal.ty)) in
    settled.driven s lt
    ∙ ap (driver_value state inputs row (shape_at (signal_shapes circuit) s)) is.bare.is
    ∙ bare-value row (shape_at (signal_shapes circuit) s) is.bare.node t is.bare.op wide.own (subst (λ w. value_at row t < 2 ^ w) wide.other (settled.typed.fits t inside))

-- a signal that is a copy is a signal of the circuit
pub copied-known : (circuit : FlatCircuit) (s t : ℕ) → copied circuit s ≡ Some t → s < length circuit.signals
copied-known circuit s t e = by (cases_lt s (length circuit.signals))
  where
    by : (s < length circuit.signals) ⊎ (length circuit.signals ≤ s) → s < length circuit.signals
    by (inl lt) = lt
    by (inr le) =
        let beyond = get_or-eq_default (map (λ (signal : Signal). signal.driver) circuit.signals) (Input 0) (let many = length-map circuit.signals (λ (signal : Signal). signal.driver) in omega (arith, le, many)) in
        absurd (some-clash t (copied circuit s) e (ap (λ d. if_wide circuit s (bare_of d)) beyond))

-- signal s is a copy of signal t in this circuit too, and both are signals of the hub's
pub record IsKeptIn (hub : Hub) (circuit : FlatCircuit) (s t : ℕ) : Type 0 where
  pub is : IsCopied circuit s t
  pub wide : IsWide circuit s t is.bare.node
  pub below : t < length hub.circuit.signals

-- Each copy that has an origin is a copy in this circuit too.
pub record AreKeptIn (hub : Hub) (circuit : FlatCircuit) : Type 0 where
  pub more : length hub.circuit.signals ≤ length circuit.signals
  pub each : (n s t x : ℕ) → s < length hub.circuit.signals → (is_own hub s ≡ true) ⊎ IsFromBase hub 0 s → copied hub.circuit s ≡ Some t → origin_within hub n t ≡ Some x → IsKeptIn hub circuit s t

pub kept-own : (hub : Hub) → IsWellFormed hub.circuit → AreKeptIn hub hub.circuit
kept-own hub formed =
    record {
      more = omega arith;
      each = λ n s t x lt hubs to from.
          let is = copied-is hub.circuit s t to in
          let wide = copy-wide hub.circuit formed s t lt is in
          record { is = is; wide = wide; below = wide.known };
    }

-- the same along a chain, and for each routed channel
module _ (hub : Hub) (whole : FlatCircuit) (kept : AreKeptIn hub whole) where
  pub chain-value : (n s x : ℕ) → s < length hub.circuit.signals → origin_within hub n s ≡ Some x → (state : State) (inputs row : List ℕ) → Settled whole state inputs row → value_at row s ≡ value_at row x
  chain-value zero s x lt e state inputs row settled = absurd (some-clash x None e refl)
  chain-value (suc n) s x lt e state inputs row settled = by (chain hub (suc n) s x e) (λ t known h. chain-value n t x known h state inputs row settled)
    where
      by : Chain hub (suc n) s x → ((t : ℕ) → t < length hub.circuit.signals → origin_within hub n t ≡ Some x → value_at row t ≡ value_at row x) → value_at row s ≡ value_at row x
      by (Here more same taken plain is) rest = ap (value_at row) is
      by (Copy more t same taken own to e) rest =
          let k = kept.each more s t x lt (inl own) to e in
          let less : more ≡ n = omega (arith, same) in
          let many = kept.more in
          copy-value whole state inputs row settled s t (omega (arith, lt, many)) k.is k.wide ∙ rest t k.below (subst (λ k. origin_within hub k t ≡ Some x) less e)

  route-same : (w : Wire) → Contains hub.base w → w.given ≡ w.signal → (o : Option ℕ) → direct_of hub w ≡ o → IsSame whole (route_by hub w o)
  route-same w h plain None e state inputs row settled = ap (value_at row) (sym plain)
  route-same w h plain (Some x) e state inputs row settled =
      let d = direct-is hub w x e in
      let lt = copied-known hub.circuit w.signal d.next d.is in
      let k = kept.each (length hub.circuit.signals) w.signal d.next x lt (inr (record { wire = w; among = h; producer = d.may.producer; is = refl })) d.is d.from in
      let many = kept.more in
      copy-value whole state inputs row settled w.signal d.next (omega (arith, lt, many)) k.is k.wide
      ∙ chain-value (length hub.circuit.signals) d.next x k.below d.from state inputs row settled

  pub routes-same : All (λ w. w.given ≡ w.signal) hub.base → All (IsSame whole) (routes hub)
  routes-same plain =
      All-map (IsSame whole) (route hub) (filter (λ w. not (is_gone hub w.signal)) hub.base)
      (All-filter (λ (w : Wire). not (is_gone hub w.signal)) (λ w. IsSame whole (route hub w)) hub.base
      (λ k d lt. route-same (get_or hub.base k d) (Contains-get_or hub.base k d lt) (plain k d lt) (direct_of hub (get_or hub.base k d)) refl))
