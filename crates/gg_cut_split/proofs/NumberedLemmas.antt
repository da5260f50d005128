-- Numbered lists, item by item; and the parent of an instance.
use Rattle.std.proofs.Common.{◌≡◌, ℕ, zero, suc, ◌+◌, ◌<◌, List, [], ◌∷◌, ◌++◌, length, get_or, take, map, refl, sym, ◌∙◌, ap, ap₂, subst, Some, None, append_assoc, arith}
use Rattle.std.specs.Prelude.{Option, All}
use Rattle.std.proofs.lemmas.List.{append-nil, get_or_default}
use Rattle.gg_flat_tree.specs.declared.tree.InstancePort.{InstancePort}
use Rattle.gg_flat_tree.specs.declared.tree.Instance.{Instance}
use Rattle.gg_flat_tree.specs.declared.tree.MemoryInstance.{MemoryInstance}
use Rattle.gg_flat.specs.Line.{value_at}
use Rattle.gg_flat.specs.Circuit.{FlatCircuit, readers_at}
use Rattle.gg_flat_tree.specs.Scoped.{writers_at}
use Rattle.gg_flat_tree.specs.Tree.{InstanceTree, IsTree, instance_at, memory_at, parent_place}
use Rattle.gg_partfile.specs.declared.request.BridgeEntry.{BridgeEntry}
use Rattle.gg_cut_plan.specs.declared.wires.Wire.{Wire}
use Rattle.gg_cut_plan.specs.declared.listed.Listed.{Listed}
use Rattle.gg_cut_plan.specs.Listed.{owner_of, owner_of_instance}
use Rattle.gg_cut_plan.specs.Ports.{giver_of, keeper_of, ports_of}
use Rattle.gg_cut_plan.specs.Machines.{first_unit, first_memory}
use Rattle.gg_cut_plan.specs.Channels.{wire, numbered, flattened, port_wire, port_wires, reader_wires, writer_wires, field_wires, input_wires, output_wires, wires_of}
use Rattle.gg_cut_split.specs.inside.Spread.{given_wires, held_wires}
use Rattle.gg_cut_plan.proofs.KnownLemmas.{parents-before}

numbered-more : {A B : Type 0} (f : ℕ → A → List B) (n : ℕ) (xs : List A) (i : ℕ) (d : A) → i < length xs → numbered f n (take (suc i) xs) ≡ numbered f n (take i xs) ++ f (n + i) (get_or xs i d)
numbered-more f n [] i d lt = absurd (omega (arith, lt))
numbered-more f n (x ∷ xs) zero d lt = append-nil (f n x) ∙ ap (λ k. f k x) (let same : n ≡ n + 0 = omega arith in same)
numbered-more f n (x ∷ xs) (suc i) d lt =
    ap (λ l. f n x ++ l)
    (numbered-more f (suc n) xs i d (omega (arith, lt)) ∙ ap (λ k. numbered f (suc n) (take i xs) ++ f k (get_or xs i d)) (let same : suc n + i ≡ n + suc i = omega arith in same))
    ∙ sym (append_assoc (f n x) (numbered f (suc n) (take i xs)) (f (n + suc i) (get_or xs i d)))

-- one more item, with what the function makes of it added at the end
pub numbered-pushed : {A B : Type 0} (f : ℕ → A → List B) (n : ℕ) (xs : List A) (i : ℕ) (d : A) (old now new : List B) → i < length xs → new ≡ now ++ f (n + i) (get_or xs i d) → now ≡ old ++ numbered f n (take i xs) → new ≡ old ++ numbered f n (take (i + 1) xs)
numbered-pushed f n xs i d old now new lt is before =
    is ∙ ap (λ l. l ++ f (n + i) (get_or xs i d)) before
    ∙ append_assoc old (numbered f n (take i xs)) (f (n + i) (get_or xs i d))
    ∙ ap (λ l. old ++ l) (sym (numbered-more f n xs i d lt) ∙ ap (λ k. numbered f n (take k xs)) (let same : suc i ≡ i + 1 = omega arith in same))

-- two functions that agree on the items of a list and their numbers
pub numbered-same : {A B : Type 0} (f g : ℕ → A → List B) (n : ℕ) (xs : List A) → ((k : ℕ) (d : A) → k < length xs → f (n + k) (get_or xs k d) ≡ g (n + k) (get_or xs k d)) → numbered f n xs ≡ numbered g n xs
numbered-same f g n [] same = refl
numbered-same f g n (x ∷ xs) same =
    ap₂ (λ a b. a ++ b)
    (subst (λ k. f k x ≡ g k x) (let here : n + 0 ≡ n = omega arith in here) (same 0 x (omega arith)))
    (numbered-same f g (suc n) xs (λ k d lt. subst (λ j. f j (get_or xs k d) ≡ g j (get_or xs k d)) (let next : n + suc k ≡ suc n + k = omega arith in next) (same (suc k) d (omega (arith, lt)))))

-- the place of an instance's parent is a place of the tree
pub parent-known : (circuit : FlatCircuit) (tree : InstanceTree) → IsTree circuit tree → (k : ℕ) → k < length tree.instances → parent_place (instance_at tree k).parent < length tree.instances
parent-known circuit tree fits k lt = by (instance_at tree k).parent refl
  where
    by : (parent : Option ℕ) → (instance_at tree k).parent ≡ parent → parent_place parent < length tree.instances
    by None e = fits.top.there
    by (Some p) e = let lower = parents-before circuit tree fits k p lt e in omega (arith, lower, lt)

pub some-parent-known : (circuit : FlatCircuit) (tree : InstanceTree) (k p count : ℕ) → IsTree circuit tree → k < length tree.instances → count ≡ length tree.instances → (instance_at tree k).parent ≡ Some p → p < count
some-parent-known circuit tree k p count fits lt many e = let lower = parents-before circuit tree fits k p lt e in omega (arith, lower, lt, many)

pub parent-read : (tree : InstanceTree) (k p : ℕ) (instances : List Instance) (d : Instance) → k < length tree.instances → instances ≡ tree.instances → (get_or instances k d).parent ≡ Some p → (instance_at tree k).parent ≡ Some p
parent-read tree k p instances d lt same e =
    ap (λ (i : Instance). i.parent) (get_or_default tree.instances k (record { parent = None; «module» = 0; first = 0; end = 0; ports = []; memories = []; clocks = [] }) d lt ∙ ap (λ (l : List Instance). get_or l k d) (sym same)) ∙ e

-- what is read at a place is the instance of that place
pub instance-read : (tree : InstanceTree) (instances : List Instance) (k : ℕ) (x : Instance) → k < length tree.instances → instances ≡ tree.instances → x ≡ get_or instances k x → x ≡ instance_at tree k
instance-read tree instances k x lt same e =
    e ∙ ap (λ (l : List Instance). get_or l k x) same ∙ get_or_default tree.instances k x (record { parent = None; «module» = 0; first = 0; end = 0; ports = []; memories = []; clocks = [] }) lt

pub memory-here : (tree : InstanceTree) (memories : List MemoryInstance) (i : ℕ) (x : MemoryInstance) → i < length tree.memories → memories ≡ tree.memories → x ≡ get_or memories i x → x ≡ memory_at tree i
memory-here tree memories i x lt same e =
    e ∙ ap (λ (l : List MemoryInstance). get_or l i x) same ∙ get_or_default tree.memories i x (record { instance = 0; memory = 0; ports = []; clocks = [] }) lt

pub memory-read : (tree : InstanceTree) (memories : List MemoryInstance) (places listed : List ℕ) (i : ℕ) (x : MemoryInstance) → places ≡ listed → value_at listed i < length tree.memories → memories ≡ tree.memories → x ≡ get_or memories (get_or places i 0) x → x ≡ memory_at tree (value_at listed i)
memory-read tree memories places listed i x are lt same e =
    e ∙ ap₂ (λ (l : List MemoryInstance) (p : List ℕ). get_or l (get_or p i 0) x) same are ∙ get_or_default tree.memories (value_at listed i) x (record { instance = 0; memory = 0; ports = []; clocks = [] }) lt

-- ---- the channels of a unit and of a memory, from what is read

pub unit-step : (circuit : FlatCircuit) (tree : InstanceTree) (units owners : List ℕ) (place unit outside : ℕ) (instance : Instance) (ports : List InstancePort) (now new : List Wire) → IsTree circuit tree → unit < length tree.instances → ((k : ℕ) → k < length tree.instances → value_at owners k ≡ owner_of_instance tree units k) → instance ≡ instance_at tree unit → ports ≡ instance.ports → outside ≡ value_at owners (parent_place (instance_at tree unit).parent) → new ≡ now ++ map (port_wire outside (1 + place)) ports → new ≡ now ++ port_wires tree units (1 + place) unit
unit-step circuit tree units owners place unit outside instance ports now new fits lt are is of from e =
    e
    ∙ ap₂ (λ (o : ℕ) (l : List InstancePort). now ++ map (port_wire o (1 + place)) l) (from ∙ are (parent_place (instance_at tree unit).parent) (parent-known circuit tree fits unit lt)) (of ∙ ap (λ (i : Instance). i.ports) is)

pub memory-step : (circuit : FlatCircuit) (tree : InstanceTree) (listed : Listed) (owners : List ℕ) (place j first number : ℕ) (memory : MemoryInstance) (outside : ℕ) (now new : List Wire) → IsTree circuit tree → j < length tree.memories → ((k : ℕ) → k < length tree.instances → value_at owners k ≡ owner_of_instance tree listed.units k) → memory ≡ memory_at tree j → outside ≡ value_at owners memory.instance → number ≡ first_memory listed + place → new ≡ now ++ (flattened (reader_wires outside number) (readers_at circuit memory.memory) ++ flattened (writer_wires outside number) (writers_at circuit memory.memory)) → new ≡ now ++ field_wires circuit tree listed.units (first_memory listed + place) j
memory-step circuit tree listed owners place j first number memory outside now new fits lt are is from counted e =
    e
    ∙ ap₂ (λ (o n : ℕ). now ++ (flattened (reader_wires o n) (readers_at circuit memory.memory) ++ flattened (writer_wires o n) (writers_at circuit memory.memory)))
    (from ∙ ap (λ (m : MemoryInstance). value_at owners m.instance) is ∙ are (memory_at tree j).instance (fits.held j lt).instance) counted
    ∙ ap (λ (m : MemoryInstance). now ++ (flattened (reader_wires (owner_of_instance tree listed.units (memory_at tree j).instance) (first_memory listed + place)) (readers_at circuit m.memory) ++ flattened (writer_wires (owner_of_instance tree listed.units (memory_at tree j).instance) (first_memory listed + place)) (writers_at circuit m.memory))) is

-- ---- all channels

-- the channels that are added one kind after another are those of the cut
pub channels-all : (circuit : FlatCircuit) (tree : InstanceTree) (listed : Listed) (entries : List BridgeEntry) (givers holders keepers ins units outs : List ℕ) (none inputs ports fields all : List Wire) → ins ≡ circuit.ins → units ≡ listed.units → outs ≡ circuit.outs
    → ((p : ℕ) → p < length circuit.ins → value_at givers p ≡ giver_of (ports_of circuit tree listed entries) p) → ((p : ℕ) → p < length circuit.outs → value_at keepers p ≡ keeper_of (ports_of circuit tree listed entries) p)
    → All (λ s. value_at holders s ≡ owner_of circuit tree listed s) circuit.outs → none ≡ []
    → inputs ≡ none ++ numbered (given_wires givers) 0 ins → ports ≡ inputs ++ numbered (port_wires tree units) first_unit units
    → fields ≡ ports ++ numbered (field_wires circuit tree listed.units) (first_memory listed) listed.memories → all ≡ fields ++ numbered (held_wires holders keepers) 0 outs
    → all ≡ wires_of circuit tree listed entries
channels-all circuit tree listed entries givers holders keepers ins units outs none inputs ports fields all i u o gives takes held n s p f a =
    a
    ∙ ap₂ (λ (l : List Wire) (t : List Wire). l ++ t) (f ∙ ap (λ (l : List Wire). l ++ memory_wires) (p ∙ ap₂ (λ (l : List Wire) (us : List ℕ). l ++ numbered (port_wires tree us) first_unit us) (s ∙ ap₂ (λ (l : List Wire) (t : List Wire). l ++ t) n from_inputs) u)) to_outputs
    ∙ append_assoc (input_part ++ unit_part) memory_wires output_part
    ∙ append_assoc input_part unit_part (memory_wires ++ output_part)
  where
    input_part : List Wire
    input_part = numbered (input_wires (ports_of circuit tree listed entries)) 0 circuit.ins

    unit_part : List Wire
    unit_part = numbered (port_wires tree listed.units) first_unit listed.units

    memory_wires : List Wire
    memory_wires = numbered (field_wires circuit tree listed.units) (first_memory listed) listed.memories

    output_part : List Wire
    output_part = numbered (output_wires circuit tree listed (ports_of circuit tree listed entries)) 0 circuit.outs

    from_inputs : numbered (given_wires givers) 0 ins ≡ numbered (input_wires (ports_of circuit tree listed entries)) 0 circuit.ins
    from_inputs =
        ap (λ (l : List ℕ). numbered (given_wires givers) 0 l) i
        ∙ numbered-same (given_wires givers) (input_wires (ports_of circuit tree listed entries)) 0 circuit.ins (λ k d lt. ap (λ m. wire (get_or circuit.ins k d) m 0 ∷ []) (gives (0 + k) (omega (arith, lt))))

    to_outputs : numbered (held_wires holders keepers) 0 outs ≡ numbered (output_wires circuit tree listed (ports_of circuit tree listed entries)) 0 circuit.outs
    to_outputs =
        ap (λ (l : List ℕ). numbered (held_wires holders keepers) 0 l) o
        ∙ numbered-same (held_wires holders keepers) (output_wires circuit tree listed (ports_of circuit tree listed entries)) 0 circuit.outs
        (λ k d lt. ap₂ (λ m n. wire (get_or circuit.outs k d) m n ∷ []) (held k d lt) (takes (0 + k) (omega (arith, lt))))
