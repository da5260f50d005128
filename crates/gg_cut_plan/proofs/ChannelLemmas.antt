-- The signals of the channels: those of the wires; all in the circuit; and how channels are found by name.
use Rattle.std.proofs.Common.{◌≡◌, ◌≢◌, ℕ, suc, ◌<◌, List, [], ◌∷◌, ◌++◌, length, map, take, slice_get, Bool, true, false, true≢false, true-eqb, eq-eqb, refl, sym, ◌∙◌, ap, ap₂, Some, arith}
use Rattle.std.specs.Prelude.{Contains, All, AllPairs, bytes_eq, ◌||◌, ◌==◌, if◌then◌else◌, flat_map}
use Rattle.std.specs.List.{list_any}
use Rattle.std.proofs.lemmas.List.{map-append, get_or_default}
use Rattle.std.proofs.lemmas.Slice.Eq.{bytes_eq-Decides}
use Rattle.gg_flat_tree.specs.declared.tree.InstancePort.{InstancePort}
use Rattle.gg_flat.specs.Circuit.{FlatCircuit, readers_at}
use Rattle.gg_flat_tree.specs.Tree.{InstanceTree, path_at, instance_at, memory_at, parent_place}
use Rattle.gg_flat_tree.specs.Scoped.{reader_fields, writer_fields, writers_at, memory_fields}
use Rattle.gg_flat.proofs.ListLemmas.{once-apart}
use Rattle.gg_cut_plan.specs.declared.wires.Wire.{Wire}
use Rattle.gg_partfile.specs.declared.request.BridgeEntry.{BridgeEntry}
use Rattle.gg_cut_plan.specs.Ports.{ports_of}
use Rattle.gg_cut_plan.specs.declared.listed.Listed.{Listed}
use Rattle.gg_cut_plan.specs.Listed.{owner_of_instance, is_among}
use Rattle.gg_cut_plan.specs.inside.Listed.{AreMarks}
use Rattle.gg_cut_plan.specs.Machines.{first_memory}
use Rattle.gg_cut_plan.specs.Channels.{wire, numbered, flattened, port_wire, port_wires, reader_wires, writer_wires, field_wires, input_wires, output_wires, wires_of}
use Rattle.gg_cut_plan.specs.inside.Channels.{port_signals, channel_signals}
use Rattle.gg_cut_plan.proofs.PathLemmas.{HoldsPath, holds-path}

abbrev signal_of : Wire → ℕ
signal_of w = w.signal

abbrev signals : List Wire → List ℕ
signals wires = map signal_of wires

-- ---- the signals of wires

numbered-signals : {A : Type 0} (f : ℕ → A → List Wire) (g : A → List ℕ) (n : ℕ) (xs : List A) → ((k : ℕ) (x : A) → signals (f k x) ≡ g x) → signals (numbered f n xs) ≡ flattened g xs
numbered-signals f g n [] same = refl
numbered-signals f g n (x ∷ xs) same = map-append signal_of (f n x) (numbered f (suc n) xs) ∙ ap₂ (λ a b. a ++ b) (same n x) (numbered-signals f g (suc n) xs same)

flattened-signals : {A : Type 0} (f : A → List Wire) (g : A → List ℕ) (xs : List A) → ((x : A) → signals (f x) ≡ g x) → signals (flattened f xs) ≡ flat_map g xs
flattened-signals f g [] same = refl
flattened-signals f g (x ∷ xs) same = map-append signal_of (f x) (flattened f xs) ∙ ap₂ (λ a b. a ++ b) (same x) (flattened-signals f g xs same)

single : (xs : List ℕ) → flattened (λ x. x ∷ []) xs ≡ xs
single [] = refl
single (x ∷ xs) = ap (λ l. x ∷ l) (single xs)

port-signals : (outside unit : ℕ) (ports : List InstancePort) → signals (map (port_wire outside unit) ports) ≡ map (λ port. port.signal) ports
port-signals outside unit [] = refl
port-signals outside unit (port ∷ ports) = ap₂ (λ s l. s ∷ l) (by port.is_input) (port-signals outside unit ports)
  where
    by : (b : Bool) → signal_of (if b then wire port.signal outside unit else wire port.signal unit outside) ≡ port.signal
    by true = refl
    by false = refl

-- the signals of `wires_of` are `channel_signals`, in the same order
pub wires-signals : (circuit : FlatCircuit) (tree : InstanceTree) (listed : Listed) (entries : List BridgeEntry) → map (λ (w : Wire). w.signal) (wires_of circuit tree listed entries) ≡ channel_signals circuit tree listed
wires-signals circuit tree listed entries =
    let b = ports_of circuit tree listed entries in
    let units = numbered (port_wires tree listed.units) 1 listed.units in
    let memories = numbered (field_wires circuit tree listed.units) (first_memory listed) listed.memories in
    let outs = numbered (output_wires circuit tree listed b) 0 circuit.outs in
    map-append signal_of (numbered (input_wires b) 0 circuit.ins) (units ++ (memories ++ outs))
    ∙ ap₂ (λ a b. a ++ b) (numbered-signals (input_wires b) (λ s. s ∷ []) 0 circuit.ins (λ k s. refl) ∙ single circuit.ins)
    (map-append signal_of units (memories ++ outs)
    ∙ ap₂ (λ a b. a ++ b)
    (numbered-signals (port_wires tree listed.units) (port_signals tree) 1 listed.units (λ k unit. port-signals (owner_of_instance tree listed.units (parent_place (instance_at tree unit).parent)) k (instance_at tree unit).ports))
    (map-append signal_of memories outs
    ∙ ap₂ (λ a b. a ++ b)
    (numbered-signals (field_wires circuit tree listed.units) (λ j. memory_fields circuit (memory_at tree j).memory) (first_memory listed) listed.memories (λ k j.
    let outside = owner_of_instance tree listed.units (memory_at tree j).instance in
    map-append signal_of (flattened (reader_wires outside k) (readers_at circuit (memory_at tree j).memory)) (flattened (writer_wires outside k) (writers_at circuit (memory_at tree j).memory))
    ∙ ap₂ (λ a b. a ++ b)
    (flattened-signals (reader_wires outside k) (λ reader. reader_fields reader) (readers_at circuit (memory_at tree j).memory) (λ reader. refl))
    (flattened-signals (writer_wires outside k) (λ writer. writer_fields writer) (writers_at circuit (memory_at tree j).memory) (λ writer. refl))))
    (numbered-signals (output_wires circuit tree listed b) (λ s. s ∷ []) 0 circuit.outs (λ k s. refl) ∙ single circuit.outs)))

-- ---- marks

-- the signals before place i are marked, and nothing else
pub record MarkedTo (signals : List ℕ) (i : ℕ) (old marks : List Bool) : Type 0 where
  pub count : length marks ≡ length old
  pub marked : AreMarks (take i signals) marks

-- ---- channels by name

-- the name of signal k is the name of a channel exactly if k is the signal of one
pub named-channel : (paths : List (List ℕ)) (name : List ℕ) (k : ℕ) (signals : List ℕ) → AllPairs (λ a b. a ≢ b) paths → slice_get paths k ≡ Some name → All (λ s. s < length paths) signals → list_any (λ s. k == s) signals ≡ is_among (map (path_at paths) signals) name
named-channel paths name k [] once found known = refl
named-channel paths name k (s ∷ signals) once found known =
    ap₂ (λ a b. a || b) (by (k == s) refl (bytes_eq name (path_at paths s)) refl)
    (named-channel paths name k signals once found (λ i d lt. known (suc i) d (omega arith)))
  where
    holds : HoldsPath paths k name
    holds = holds-path paths k name found

    by : (p : Bool) → (k == s) ≡ p → (q : Bool) → bytes_eq name (path_at paths s) ≡ q → p ≡ q
    by true e true f = refl
    by false e false f = refl
    by true e false f = absurd (true≢false (sym ((bytes_eq-Decides name (path_at paths s)).1 (sym holds.is ∙ ap (path_at paths) (true-eqb k s (sym e)))) ∙ f))
    by false e true f =
        let same : k ≡ s = once-apart paths [] once k s holds.within (known 0 0 (omega arith)) (holds.is ∙ (bytes_eq-Decides name (path_at paths s)).0 f) in
        absurd (true≢false (sym (eq-eqb k s same) ∙ e))

-- a name that no signal has is the name of no channel
pub unnamed-channel : (paths : List (List ℕ)) (name : List ℕ) (signals : List ℕ) → ¬ Contains paths name → All (λ s. s < length paths) signals → false ≡ is_among (map (path_at paths) signals) name
unnamed-channel paths name [] missing known = refl
unnamed-channel paths name (s ∷ signals) missing known =
    ap₂ (λ a b. a || b) (by (bytes_eq name (path_at paths s)) refl) (unnamed-channel paths name signals missing (λ i d lt. known (suc i) d (omega arith)))
  where
    by : (q : Bool) → bytes_eq name (path_at paths s) ≡ q → false ≡ q
    by false e = refl
    by true e =
        let within : s < length paths = known 0 0 (omega arith) in
        absurd (missing (s, within, get_or_default paths s name [] within ∙ sym ((bytes_eq-Decides name (path_at paths s)).0 e)))
