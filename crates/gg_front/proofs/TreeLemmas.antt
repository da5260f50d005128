-- A circuit has only one tree.
use Rattle.std.proofs.Common.{◌≡◌, ℕ, ◌+◌, List, [], ◌∷◌, Option, None, Some, Bool, length, refl, sym, ap, ◌∙◌}
use Rattle.std.specs.Prelude.{flat_map}
use Rattle.gg_ast.specs.declared.module.Port.{Port}
use Rattle.gg_ast.specs.Tree.{CircuitTree}
use Rattle.gg_flat_tree.specs.Tree.{InstanceTree}
use Rattle.gg_flat_tree.specs.declared.tree.Instance.{Instance}
use Rattle.gg_flat_tree.specs.declared.tree.InstancePort.{InstancePort}
use Rattle.gg_flat_tree.specs.declared.tree.MemoryInstance.{MemoryInstance}
use Rattle.gg_flat_tree.specs.declared.tree.StopInstance.{StopInstance}
use Rattle.gg_elab_sites.specs.Sites.{Site, Outer, module_at, sites_of}
use Rattle.gg_elab_sites.specs.Flat.{FlatMemory, memories_at, signals_at}
use Rattle.gg_elab_tree.specs.IsTreeOf.{IsAt, Pairwise, IsParent, IsPortFor, IsMemoryAt, IsInstanceFor, AreInstances, IsMemoryFor, HeldMemory, held_memories, IsStopFor, HeldStop, held_stops, IsTreeOf, signal_ports, site_paths}
use Rattle.gg_elab_sites.specs.Known.{types_of}

-- ---- places

at-same : (paths : List (List ℕ)) (path : List ℕ) (a b : ℕ) → IsAt paths path a → IsAt paths path b → a ≡ b
at-same paths path a b p q = let e : Some a ≡ Some b = sym p.is ∙ q.is in cc

-- if each element has only one partner, a list has only one list of partners
Pairwise-same : {A B : Type 0} (R : A → B → Type 0) → ((a : A) (b c : B) → R a b → R a c → b ≡ c) → (xs : List A) (ys zs : List B)
    → Pairwise R xs ys → Pairwise R xs zs → ys ≡ zs
Pairwise-same R once [] [] [] p q = refl
Pairwise-same R once [] [] (z ∷ zs) p q = absurd q
Pairwise-same R once [] (y ∷ ys) zs p q = absurd p
Pairwise-same R once (x ∷ xs) [] zs p q = absurd p
Pairwise-same R once (x ∷ xs) (y ∷ ys) [] p q = absurd q
Pairwise-same R once (x ∷ xs) (y ∷ ys) (z ∷ zs) p q =
    let e : y ≡ z = once x y z p.0 q.0 in let es : ys ≡ zs = Pairwise-same R once xs ys zs p.1 q.1 in cc

-- ---- instances

parent-same : (circuit : CircuitTree) (outer : Option Outer) (a b : Option ℕ) → IsParent circuit outer a → IsParent circuit outer b → a ≡ b
parent-same circuit None None None p q = refl
parent-same circuit None None (Some b) p q = absurd q
parent-same circuit None (Some a) b p q = absurd p
parent-same circuit (Some outer) None b p q = absurd p
parent-same circuit (Some outer) (Some a) None p q = absurd q
parent-same circuit (Some outer) (Some a) (Some b) p q = ap Some (at-same (site_paths circuit) outer.path a b p q)

abbrev pub port_made : ℕ → Bool → InstancePort
port_made signal goes = record { signal = signal; is_input = goes }

ports-equal : (a b : InstancePort) → a.signal ≡ b.signal → a.is_input ≡ b.is_input → a ≡ b
ports-equal a b s g = ap (λ (x : ℕ). port_made x a.is_input) s ∙ ap (λ (x : Bool). port_made b.signal x) g

port-same : (circuit : CircuitTree) (site : Site) (port : Port) (a b : InstancePort) → IsPortFor circuit site port a → IsPortFor circuit site port b → a ≡ b
port-same circuit site port a b p q = ports-equal a b (at-same _ _ a.signal b.signal p.signal q.signal) (p.goes ∙ sym q.goes)

memory-number-same : (circuit : CircuitTree) (said : FlatMemory) (a b : ℕ) → IsMemoryAt circuit said a → IsMemoryAt circuit said b → a ≡ b
memory-number-same circuit said a b p q = at-same _ _ a b p.number q.number

abbrev pub instance_made : Option ℕ → ℕ → ℕ → ℕ → List InstancePort → List ℕ → List (Option ℕ) → Instance
instance_made parent number first end ports memories clocks =
    record { parent = parent; «module» = number; first = first; end = end; ports = ports; memories = memories; clocks = clocks }

instances-equal : (a b : Instance) → a.parent ≡ b.parent → a.«module» ≡ b.«module» → a.first ≡ b.first → a.end ≡ b.end → a.ports ≡ b.ports → a.memories ≡ b.memories → a.clocks ≡ b.clocks → a ≡ b
instances-equal a b p n f e o m c =
    ap (λ (x : Option ℕ). instance_made x a.«module» a.first a.end a.ports a.memories a.clocks) p
    ∙ ap (λ (x : ℕ). instance_made b.parent x a.first a.end a.ports a.memories a.clocks) n
    ∙ ap (λ (x : ℕ). instance_made b.parent b.«module» x a.end a.ports a.memories a.clocks) f
    ∙ ap (λ (x : ℕ). instance_made b.parent b.«module» b.first x a.ports a.memories a.clocks) e
    ∙ ap (λ (x : List InstancePort). instance_made b.parent b.«module» b.first b.end x a.memories a.clocks) o
    ∙ ap (λ (x : List ℕ). instance_made b.parent b.«module» b.first b.end b.ports x a.clocks) m
    ∙ ap (λ (x : List (Option ℕ)). instance_made b.parent b.«module» b.first b.end b.ports b.memories x) c

instance-same : (circuit : CircuitTree) (first : ℕ) (site : Site) (a b : Instance) → IsInstanceFor circuit first site a → IsInstanceFor circuit first site b → a ≡ b
instance-same circuit first site a b p q =
    instances-equal a b
    (parent-same circuit site.outer a.parent b.parent p.parent q.parent)
    (p.number ∙ sym q.number) (p.begins ∙ sym q.begins) (p.ends ∙ sym q.ends)
    (Pairwise-same (IsPortFor circuit site) (port-same circuit site) (signal_ports (module_at circuit.modules site.number)) a.ports b.ports p.ports q.ports)
    (Pairwise-same (IsMemoryAt circuit) (memory-number-same circuit) (memories_at circuit.modules site) a.memories b.memories p.memories q.memories)
    (p.clocks ∙ sym q.clocks)

instances-same : (circuit : CircuitTree) (first : ℕ) (all : List Site) (xs ys : List Instance) → AreInstances circuit first all xs → AreInstances circuit first all ys → xs ≡ ys
instances-same circuit first [] [] [] p q = refl
instances-same circuit first [] [] (y ∷ ys) p q = absurd q
instances-same circuit first [] (x ∷ xs) ys p q = absurd p
instances-same circuit first (site ∷ rest) [] ys p q = absurd p
instances-same circuit first (site ∷ rest) (x ∷ xs) [] p q = absurd q
instances-same circuit first (site ∷ rest) (x ∷ xs) (y ∷ ys) p q =
    let e : x ≡ y = instance-same circuit first site x y p.0 q.0 in
    let es : xs ≡ ys = instances-same circuit (first + length (signals_at (types_of circuit) circuit.modules site)) rest xs ys p.1 q.1 in cc

-- ---- memories

abbrev pub memory_made : ℕ → ℕ → List (List ℕ) → List (Option ℕ) → MemoryInstance
memory_made holder number ports clocks = record { instance = holder; memory = number; ports = ports; clocks = clocks }

memories-equal : (a b : MemoryInstance) → a.instance ≡ b.instance → a.memory ≡ b.memory → a.ports ≡ b.ports → a.clocks ≡ b.clocks → a ≡ b
memories-equal a b h n o c =
    ap (λ (x : ℕ). memory_made x a.memory a.ports a.clocks) h
    ∙ ap (λ (x : ℕ). memory_made b.instance x a.ports a.clocks) n
    ∙ ap (λ (x : List (List ℕ)). memory_made b.instance b.memory x a.clocks) o
    ∙ ap (λ (x : List (Option ℕ)). memory_made b.instance b.memory b.ports x) c

memory-same : (circuit : CircuitTree) (h : HeldMemory) (a b : MemoryInstance) → IsMemoryFor circuit h.site h.said a → IsMemoryFor circuit h.site h.said b → a ≡ b
memory-same circuit h a b p q =
    memories-equal a b (at-same _ _ a.instance b.instance p.holder q.holder) (at-same _ _ a.memory b.memory p.number q.number) (p.ports ∙ sym q.ports) (p.clocks ∙ sym q.clocks)

-- ---- stops

abbrev pub stop_made : ℕ → ℕ → Option ℕ → StopInstance
stop_made holder signal clock = record { instance = holder; signal = signal; clock = clock }

stops-equal : (a b : StopInstance) → a.instance ≡ b.instance → a.signal ≡ b.signal → a.clock ≡ b.clock → a ≡ b
stops-equal a b h s c =
    ap (λ (x : ℕ). stop_made x a.signal a.clock) h ∙ ap (λ (x : ℕ). stop_made b.instance x a.clock) s ∙ ap (λ (x : Option ℕ). stop_made b.instance b.signal x) c

stop-same : (circuit : CircuitTree) (h : HeldStop) (a b : StopInstance) → IsStopFor circuit h.site h.said a → IsStopFor circuit h.site h.said b → a ≡ b
stop-same circuit h a b p q =
    stops-equal a b (at-same _ _ a.instance b.instance p.holder q.holder) (at-same _ _ a.signal b.signal p.signal q.signal) (p.clock ∙ sym q.clock)

-- ---- the tree

abbrev pub tree_made : List (List ℕ) → List Instance → List (List ℕ) → List MemoryInstance → List (List ℕ) → List (Option ℕ) → List StopInstance → InstanceTree
tree_made paths instances memory_paths memories clocks register_clocks stops =
    record { paths = paths; instances = instances; memory_paths = memory_paths; memories = memories; clocks = clocks; register_clocks = register_clocks; stops = stops }

pub tree-same : (circuit : CircuitTree) (a b : InstanceTree) → IsTreeOf circuit a → IsTreeOf circuit b → a ≡ b
tree-same circuit a b p q =
    let paths : a.paths ≡ b.paths = p.paths ∙ sym q.paths in
    let instances : a.instances ≡ b.instances = instances-same circuit 0 (sites_of circuit) a.instances b.instances p.instances q.instances in
    let names : a.memory_paths ≡ b.memory_paths = p.memory_names ∙ sym q.memory_names in
    let memories : a.memories ≡ b.memories =
    Pairwise-same (λ (h : HeldMemory) (memory : MemoryInstance). IsMemoryFor circuit h.site h.said memory) (memory-same circuit) (flat_map (held_memories circuit.modules) (sites_of circuit)) a.memories b.memories p.memories q.memories in
    let stops : a.stops ≡ b.stops =
    Pairwise-same (λ (h : HeldStop) (stop : StopInstance). IsStopFor circuit h.site h.said stop) (stop-same circuit) (flat_map (held_stops circuit.modules) (sites_of circuit)) a.stops b.stops p.stops q.stops in
    ap (λ (x : List (List ℕ)). tree_made x a.instances a.memory_paths a.memories a.clocks a.register_clocks a.stops) paths
    ∙ ap (λ (x : List Instance). tree_made b.paths x a.memory_paths a.memories a.clocks a.register_clocks a.stops) instances
    ∙ ap (λ (x : List (List ℕ)). tree_made b.paths b.instances x a.memories a.clocks a.register_clocks a.stops) names
    ∙ ap (λ (x : List MemoryInstance). tree_made b.paths b.instances b.memory_paths x a.clocks a.register_clocks a.stops) memories
    ∙ ap (λ (x : List (List ℕ)). tree_made b.paths b.instances b.memory_paths b.memories x a.register_clocks a.stops) (p.clocks ∙ sym q.clocks)
    ∙ ap (λ (x : List (Option ℕ)). tree_made b.paths b.instances b.memory_paths b.memories b.clocks x a.stops) (p.register_clocks ∙ sym q.register_clocks)
    ∙ ap (λ (x : List StopInstance). tree_made b.paths b.instances b.memory_paths b.memories b.clocks b.register_clocks x) stops
