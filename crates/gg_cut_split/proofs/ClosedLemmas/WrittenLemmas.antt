-- What a machine makes is written in an instance of that machine, except the data of a listed memory.
use Rattle.std.proofs.Common.{◌≡◌, ◌≢◌, ℕ, zero, suc, ◌+◌, ◌<◌, List, length, Bool, true, false, not, refl, sym, ◌∙◌, ap, subst, Some, inl, inr, ◌⊎◌, true-eqb, arith}
use Rattle.std.specs.Prelude.{◌==◌, if◌then◌else◌, filter, map, Contains, All}
use Rattle.std.proofs.lemmas.List.{get_or_default}
use Rattle.std.proofs.lemmas.Bool.{not-true}
use Rattle.gg_flat_tree.specs.declared.tree.InstancePort.{InstancePort}
use Rattle.gg_flat.specs.Line.{value_at}
use Rattle.gg_flat.specs.Circuit.{FlatCircuit, readers_at, reader_at}
use Rattle.gg_flat_tree.specs.Tree.{InstanceTree, IsTree, IsInnermost, instance_at, memory_at, parent_place, stop_at}
use Rattle.gg_flat_tree.specs.Scoped.{IsScoped, IsInputOf, IsFieldOf, IsWritten, memory_fields}
use Rattle.gg_flat.proofs.ListLemmas.{Contains-map, Contains-filter}
use Rattle.gg_partfile.specs.declared.request.BridgeEntry.{BridgeEntry}
use Rattle.gg_cut_plan.specs.Ports.{giver_of, ports_of}
use Rattle.gg_cut_plan.proofs.PortLemmas.{giver-low}
use Rattle.gg_cut_plan.specs.declared.wires.Wire.{Wire}
use Rattle.gg_cut_plan.specs.declared.listed.Listed.{Listed}
use Rattle.gg_cut_plan.specs.Listed.{owner_of_instance, owner_of}
use Rattle.gg_cut_plan.specs.Machines.{first_memory, first_source}
use Rattle.gg_cut_plan.specs.Channels.{wire, wires_of}
use Rattle.gg_cut_plan.specs.Plan.{IsInner}
use Rattle.gg_cut_plan.specs.inside.Plan.{Makes}
use Rattle.gg_cut_split.specs.inside.Apart.{AreApart}
use Rattle.gg_cut_split.proofs.ClosedLemmas.ListLemmas.{Somewhere}
use Rattle.gg_cut_split.proofs.ClosedLemmas.TreeLemmas.{Innermost, innermost}
use Rattle.gg_cut_split.proofs.ClosedLemmas.PlaceLemmas.{owner-unit, owner-inner, owner-top}
use Rattle.gg_cut_split.proofs.ClosedLemmas.KindLemmas.{IsPortWire, IsFieldWire, IsInto, IsWordWire, Kind, OfInput, OfPort, OfField, OfOutput, outside_unit, outside_memory, kind-of, input-wire, unit-wire, memory-wire}
use Rattle.gg_cut_split.proofs.ClosedLemmas.NameLemmas.{port-no-field}
use Rattle.gg_cut_split.proofs.ClosedLemmas.OnceLemmas.{out-cases, port-one, stop-port, top-port}
use Rattle.gg_cut_split.proofs.ClosedLemmas.MakerLemmas.{HasPort, HasWire, find-port, find-unit, find-field-in, IsNoField, given-out, no-channel, out-plain, owner-signal, top-owner}

-- signal s is the data of a reader of a listed memory, whose machine is m
pub record IsWord (circuit : FlatCircuit) (tree : InstanceTree) (listed : Listed) (m s : ℕ) : Type 0 where
  pub place : ℕ
  pub known : place < length listed.memories
  pub number : m ≡ first_memory listed + place
  pub reader : ℕ
  pub there : reader < length (readers_at circuit (memory_at tree (value_at listed.memories place)).memory)
  pub is : s ≡ (reader_at (readers_at circuit (memory_at tree (value_at listed.memories place)).memory) reader).word

-- signal s is written in an instance of machine m
pub record IsWrittenIn (tree : InstanceTree) (listed : Listed) (m s : ℕ) : Type 0 where
  pub place : ℕ
  pub written : IsWritten tree place s
  pub owner : owner_of_instance tree listed.units place ≡ m

module _ (circuit : FlatCircuit) (tree : InstanceTree) (listed : Listed) (entries : List BridgeEntry) (fits : IsTree circuit tree) (scoped : IsScoped circuit tree) (apart : AreApart tree listed) where
  abbrev wires : List Wire
  wires = wires_of circuit tree listed entries

  abbrev unit_at : ℕ → ℕ
  unit_at i = value_at listed.units i

  abbrev memory_of : ℕ → ℕ
  memory_of i = value_at listed.memories i

  clash : (b : Bool) → b ≡ true → b ≡ false → ⊥
  clash true e f = absurd (cc)
  clash false e f = absurd (cc)

  -- an output is no input
  output-inner : (k s : ℕ) (port : InstancePort) → k < length tree.instances → Contains (instance_at tree k).ports port → port.signal ≡ s → port.is_input ≡ false → ¬ IsInputOf tree k s
  output-inner k s port lt among is out input =
      let same = port-one circuit tree listed fits scoped apart k port input.port lt among input.listed (is ∙ sym input.is) in
      clash input.port.is_input input.input (ap (λ (p : InstancePort). p.is_input) (sym same) ∙ out)

  above-of : (c : ℕ) → 0 < c → c < length tree.instances → (p : ℕ) × ((instance_at tree c).parent ≡ Some p)
  above-of c low lt = let below = fits.below c low lt in (below.above, below.parent)

  positive : (n : ℕ) → (n ≡ 0 → ⊥) → 0 < n
  positive zero f = absurd (f refl)
  positive (suc n) f = omega arith

  -- ---- a signal without a channel

  -- a signal without a channel is no field of a listed memory
  pub inner-plain : (s : ℕ) → IsInner (wires_of circuit tree listed entries) s → IsNoField circuit tree listed s
  inner-plain s inner = by (find-field-in circuit tree listed listed.memories s)
    where
      by : Somewhere (λ j. IsFieldOf circuit tree j s) listed.memories ⊎ All (λ j. IsFieldOf circuit tree j s → ⊥) listed.memories → IsNoField circuit tree listed s
      by (inr none) = none
      by (inl at) = absurd (has (memory-wire circuit tree listed entries at.place s at.within (at.holds 0)))
        where
          has : Contains (wires_of circuit tree listed entries) (wire s (outside_memory tree listed at.place) (first_memory listed + at.place)) ⊎ Contains (wires_of circuit tree listed entries) (wire s (first_memory listed + at.place) (outside_memory tree listed at.place)) → ⊥
          has (inl w) = no-channel circuit tree listed entries fits scoped apart s (wire s (outside_memory tree listed at.place) (first_memory listed + at.place)) inner w refl
          has (inr w) = no-channel circuit tree listed entries fits scoped apart s (wire s (first_memory listed + at.place) (outside_memory tree listed at.place)) inner w refl

  -- nor is it a port of a unit, or an input of the top
  inner-no-unit : (k s : ℕ) → IsInner (wires_of circuit tree listed entries) s → HasPort (instance_at tree k).ports s → All (λ unit. k ≢ unit) listed.units
  inner-no-unit k s inner h = by (find-unit listed.units k)
    where
      by : Somewhere (λ unit. k ≡ unit) listed.units ⊎ All (λ unit. k ≢ unit) listed.units → All (λ unit. k ≢ unit) listed.units
      by (inr none) = none
      by (inl at) = absurd (has h.port.is_input refl)
        where
          among : Contains (instance_at tree (value_at listed.units at.place)).ports h.port
          among = subst (λ j. Contains (instance_at tree j).ports h.port) (at.holds 0) h.among

          has : (b : Bool) → h.port.is_input ≡ b → ⊥
          has true e =
              no-channel circuit tree listed entries fits scoped apart s (wire h.port.signal (outside_unit tree listed at.place) (suc at.place)) inner
              (subst (λ b. Contains (wires_of circuit tree listed entries) (if b then wire h.port.signal (outside_unit tree listed at.place) (suc at.place) else wire h.port.signal (suc at.place) (outside_unit tree listed at.place))) e
              (unit-wire circuit tree listed entries at.place h.port at.within among))
              h.is
          has false e =
              no-channel circuit tree listed entries fits scoped apart s (wire h.port.signal (suc at.place) (outside_unit tree listed at.place)) inner
              (subst (λ b. Contains (wires_of circuit tree listed entries) (if b then wire h.port.signal (outside_unit tree listed at.place) (suc at.place) else wire h.port.signal (suc at.place) (outside_unit tree listed at.place))) e
              (unit-wire circuit tree listed entries at.place h.port at.within among))
              h.is

  inner-lower : (k s : ℕ) → IsInner (wires_of circuit tree listed entries) s → (h : HasPort (instance_at tree k).ports s) → h.port.is_input ≡ true → 0 < k
  inner-lower k s inner h e = positive k (λ zeroth. top zeroth)
    where
      input : k ≡ 0 → Contains circuit.ins s
      input zeroth =
          subst (λ (l : List ℕ). Contains l s) scoped.ins
          (subst (λ t. Contains (map (λ (port : InstancePort). port.signal) (filter (λ port. port.is_input) (instance_at tree 0).ports)) t) h.is
          (Contains-map (λ (port : InstancePort). port.signal) (filter (λ port. port.is_input) (instance_at tree 0).ports) h.port
          (Contains-filter (λ port. port.is_input) (instance_at tree 0).ports h.port (subst (λ j. Contains (instance_at tree j).ports h.port) zeroth h.among) e)))

      top : k ≡ 0 → ⊥
      top zeroth =
          let c = input zeroth in
          no-channel circuit tree listed entries fits scoped apart s (wire (value_at circuit.ins c.0) (giver_of (ports_of circuit tree listed entries) c.0) 0) inner (input-wire circuit tree listed entries c.0 c.1) (get_or_default circuit.ins c.0 0 s c.1 ∙ c.2)

  inner-written : (m s : ℕ) → s < length circuit.signals → owner_of circuit tree listed s ≡ m → IsInner (wires_of circuit tree listed entries) s → IsWrittenIn tree listed m s
  inner-written m s lt owns inner = by at.is (find-port (instance_at tree at.place).ports s)
    where
      at : Innermost circuit tree fits s
      at = innermost circuit tree fits s lt

      by : IsInnermost tree at.place s → HasPort (instance_at tree at.place).ports s ⊎ (HasPort (instance_at tree at.place).ports s → ⊥) → IsWrittenIn tree listed m s
      by own (inr none) =
          record {
            place = at.place;
            written = inl (record { own = own; inner = λ input. none (record { port = input.port; among = input.listed; is = input.is }) });
            owner = sym (owner-signal circuit tree listed fits scoped apart at.place s own (inner-plain s inner)) ∙ owns;
          }
      by own (inl h) = side h.port.is_input refl
        where
          side : (b : Bool) → h.port.is_input ≡ b → IsWrittenIn tree listed m s
          side true e =
              let up = above-of at.place (inner-lower at.place s inner h e) own.known in
              record {
                place = up.0;
                written = inr (record { child = at.place; parent = up.1; input = record { known = own.known; port = h.port; listed = h.among; is = h.is; input = e } });
                owner = sym (owner-inner circuit tree listed fits apart at.place up.0 own.known up.1 (inner-no-unit at.place s inner h))
                    ∙ sym (owner-signal circuit tree listed fits scoped apart at.place s own (inner-plain s inner)) ∙ owns;
              }
          side false e =
              record {
                place = at.place;
                written = inl (record { own = own; inner = output-inner at.place s h.port own.known h.among h.is e });
                owner = sym (owner-signal circuit tree listed fits scoped apart at.place s own (inner-plain s inner)) ∙ owns;
              }

  -- ---- a signal that a channel carries

  port-written : (m s : ℕ) (w : Wire) → w.producer ≡ m → w.signal ≡ s → IsPortWire tree listed w → IsWrittenIn tree listed m s
  port-written m s w from of p = by p.port.is_input refl
    where
      lt : value_at listed.units p.unit < length tree.instances
      lt = apart.known p.unit 0 p.known

      by : (b : Bool) → p.port.is_input ≡ b → IsWrittenIn tree listed m s
      by true e =
          let up = above-of (unit_at p.unit) (apart.lower p.unit 0 p.known) lt in
          let is : wire p.port.signal (outside_unit tree listed p.unit) (suc p.unit) ≡ w =
          subst (λ b. (if b then wire p.port.signal (outside_unit tree listed p.unit) (suc p.unit) else wire p.port.signal (suc p.unit) (outside_unit tree listed p.unit)) ≡ w) e p.is in
          record {
            place = up.0;
            written = inr (record { child = (unit_at p.unit); parent = up.1; input = record { known = lt; port = p.port; listed = p.among; is = ap (λ (v : Wire). v.signal) is ∙ of; input = e } });
            owner = sym (ap (λ q. owner_of_instance tree listed.units (parent_place q)) up.1) ∙ ap (λ (v : Wire). v.producer) is ∙ from;
          }
      by false e =
          let is : wire p.port.signal (suc p.unit) (outside_unit tree listed p.unit) ≡ w =
          subst (λ b. (if b then wire p.port.signal (outside_unit tree listed p.unit) (suc p.unit) else wire p.port.signal (suc p.unit) (outside_unit tree listed p.unit)) ≡ w) e p.is in
          let signal : p.port.signal ≡ s = ap (λ (v : Wire). v.signal) is ∙ of in
          record {
            place = (unit_at p.unit);
            written = inl (record { own = (scoped.ports (unit_at p.unit) s (record { known = lt; port = p.port; listed = p.among; is = signal })).own; inner = output-inner (unit_at p.unit) s p.port lt p.among signal e });
            owner = owner-unit circuit tree listed fits apart p.unit p.known ∙ ap (λ (v : Wire). v.producer) is ∙ from;
          }

  field-written : (m s : ℕ) (w : Wire) → w.producer ≡ m → w.signal ≡ s → IsFieldWire circuit tree listed w → IsWrittenIn tree listed m s ⊎ IsWord circuit tree listed m s
  field-written m s w from of f = by f.is
    where
      lt : value_at listed.memories f.place < length tree.memories
      lt = apart.memories f.place 0 f.known

      by : IsInto (memory_fields circuit (memory_at tree (memory_of f.place)).memory) (outside_memory tree listed f.place) (first_memory listed + f.place) w
          ⊎ IsWordWire (readers_at circuit (memory_at tree (memory_of f.place)).memory) (outside_memory tree listed f.place) (first_memory listed + f.place) w → IsWrittenIn tree listed m s ⊎ IsWord circuit tree listed m s
      by (inl into) =
          let field : IsFieldOf circuit tree (memory_of f.place) s = subst (λ t. IsFieldOf circuit tree (memory_of f.place) t) of into.field in
          inl
          (record {
            place = (memory_at tree (memory_of f.place)).instance;
            written = inl
                (record {
                  own = (scoped.fields (memory_of f.place) s lt field).own;
                  inner = λ input. port-no-field circuit tree fits scoped (memory_at tree (memory_of f.place)).instance (memory_of f.place) s lt (record { known = input.known; port = input.port; listed = input.listed; is = input.is }) field;
                });
            owner = sym into.producer ∙ from;
          })
      by (inr word) =
          inr
          (record {
            place = f.place;
            known = f.known;
            number = sym from ∙ ap (λ (v : Wire). v.producer) word.is;
            reader = word.reader;
            there = word.known;
            is = sym of ∙ ap (λ (v : Wire). v.signal) word.is;
          })

  out-written : (s : ℕ) → Contains circuit.outs s → IsWrittenIn tree listed (owner_of circuit tree listed s) s
  out-written s has =
      elim (out-cases circuit tree listed fits scoped apart s has) [
        | inl out ↦ (let port = top-port circuit tree listed fits scoped apart s (λ port. not port.is_input) out in
            record {
              place = 0;
              written = inl (record { own = (scoped.ports 0 s port).own; inner = output-inner 0 s out.port fits.top.there out.among out.is (not-true out.port.is_input out.passes) });
              owner = owner-top circuit tree listed fits apart ∙ sym (top-owner circuit tree listed fits scoped apart s port);
            })
        | inr stop ↦ (let own : IsInnermost tree (stop_at tree stop.place).instance s = subst (IsInnermost tree (stop_at tree stop.place).instance) stop.is (scoped.stops stop.place stop.known).own in
            record {
              place = (stop_at tree stop.place).instance;
              written = inl
                  (record {
                    own = own;
                    inner = λ input. stop-port circuit tree listed fits scoped apart (stop_at tree stop.place).instance s stop (record { known = input.known; port = input.port; listed = input.listed; is = input.is });
                  });
              owner = sym (owner-signal circuit tree listed fits scoped apart (stop_at tree stop.place).instance s own (out-plain circuit tree listed fits scoped apart s has));
            })
      ]

  -- what a machine before the sources makes
  pub made : (m s : ℕ) → m < first_source listed → Makes circuit tree listed (wires_of circuit tree listed entries) m s → IsWrittenIn tree listed m s ⊎ IsWord circuit tree listed m s
  made m s low (inl own) = inl (inner-written m s own.0 own.1 own.2)
  made m s low (inr h) = by (kind-of circuit tree listed entries w.wire w.among)
    where
      w : HasWire (wires_of circuit tree listed entries) (λ (v : Wire). v.producer == m) s
      w = given-out circuit tree listed entries m s h

      from : w.wire.producer ≡ m
      from = true-eqb w.wire.producer m (sym w.passes)

      by : Kind circuit tree listed entries w.wire → IsWrittenIn tree listed m s ⊎ IsWord circuit tree listed m s
      by (OfInput f) = absurd (let at = ap (λ (v : Wire). v.producer) f.is in let high = giver-low (ports_of circuit tree listed entries) f.place in omega (arith, at, from, low, high))
      by (OfPort p) = inl (port-written m s w.wire from w.is p)
      by (OfField f) = field-written m s w.wire from w.is f
      by (OfOutput f) =
          let of : value_at circuit.outs f.place ≡ s = sym (ap (λ (v : Wire). v.signal) f.is) ∙ w.is in
          inl (subst (λ n. IsWrittenIn tree listed n s) (ap (owner_of circuit tree listed) (sym of) ∙ sym (ap (λ (v : Wire). v.producer) f.is) ∙ from)
          (out-written s (f.place, f.known, get_or_default circuit.outs f.place s 0 f.known ∙ of)))
