-- What the machines of a cut follow is what `part_of` asks for, and units that share a host follow the same Clock inputs.
use Rattle.std.proofs.Common.{◌≡◌, ◌≢◌, ◌⊎◌, inl, inr, ℕ, zero, suc, ◌+◌, ◌-◌, ◌<◌, ◌≤◌, List, [], ◌∷◌, ◌++◌, Bool, false, Option, Some, None, length, get_or, map, refl, sym, ap, ap₂, ◌∙◌, subst, subst₂, arith}
use Rattle.std.specs.Prelude.{All, Contains, option_and_then}
use Rattle.std.proofs.lemmas.Bool.{cases_lt, eqb-true}
use Rattle.std.proofs.lemmas.List.{get_or-map, get_or_past, length-map}
use Rattle.std.proofs.lemmas.List.Elements.{All-append, All-contains, All-map}
use Rattle.std.proofs.lemmas.Option.{same_Some, slice_get-get_or}
use Rattle.gg_flat.specs.declared.memory.Memory.{Memory}
use Rattle.gg_flat.specs.declared.memory.Reader.{Reader}
use Rattle.gg_flat.specs.declared.memory.Writer.{Writer}
use Rattle.gg_flat.specs.declared.piece.Driver.TheVariants.{Input, Held}
use Rattle.gg_flat.specs.declared.piece.Register.{Register}
use Rattle.gg_flat.specs.declared.piece.Signal.{Signal}
use Rattle.gg_flat.specs.Circuit.{FlatCircuit, driver_at}
use Rattle.gg_flat_tree.specs.Clocked.{clocks_from, port_clocks, through_parent, top_clocks}
use Rattle.gg_flat.specs.Line.{value_at}
use Rattle.gg_flat_tree.specs.Tree.{InstanceTree, Holds, IsTree, instance_at, memory_at}
use Rattle.gg_flat.specs.WellFormed.{IsClock, IsClockedMemory, IsWellFormed}
use Rattle.gg_flat.proofs.ListLemmas.{some-item}
use Rattle.gg_flat_tree.proofs.TopClockLemmas.{top_clocks-step}
use Rattle.gg_part.specs.Copies.{above}
use Rattle.gg_part.specs.KeepsToTree.{KeepsToTree}
use Rattle.gg_order.specs.Design.{Ordered}
use Rattle.gg_order.specs.Marks.{is_marked}
use Rattle.gg_part.specs.declared.part.Clocking.{Clocking}
use Rattle.gg_part.specs.inside.Clocking.{AreTimed, LeadsTo, clocks_of_ports}
use Rattle.gg_cut_plan.specs.declared.listed.Listed.{Listed}
use Rattle.gg_cut_plan.specs.Listed.{memory_owner, owner_of_instance}
use Rattle.gg_cut_plan.specs.Machines.{first_memory, first_unit, unit_number}
use Rattle.gg_cut_plan.specs.Plan.{HasMemory, clock_home, machine_clocks}
use Rattle.gg_cut_plan.specs.inside.Plan.{Makes}
use Rattle.gg_cut_plan.proofs.KnownLemmas.{parents-before}
use Rattle.gg_cut_split.specs.inside.Apart.{AreApart}
use Rattle.gg_cut_split.proofs.ClosedLemmas.ClosedLemmas.{owner-listed, owner-unlisted}
use Rattle.gg_cut_split.proofs.ClosedLemmas.ListLemmas.{Somewhere}
use Rattle.gg_cut_split.proofs.ClosedLemmas.MakerLemmas.{find-unit, given-out, owner-signal}
use Rattle.gg_cut_split.proofs.ClosedLemmas.TreeLemmas.{above as stands-above, innermost, lies-holder}
use Rattle.gg_cut_split.proofs.ClosedLemmas.WrittenLemmas.{inner-plain}
use Rattle.gg_cut_split.specs.inside.Again.{AreHomes, IsUnitAgain, again_at, cut_wires}
use Rattle.gg_cut_split.proofs.AgainLemmas.HomeLemmas.{home-none, home-unit, lies-of}
use Rattle.gg_cut_split.proofs.AgainLemmas.LiesLemmas.{lies-in, owner-in}
use Rattle.gg_cut_split.proofs.AgainLemmas.UnitSignalLemmas.{IsAtUnit, at-held, end-at, inner-held}
use Rattle.gg_cut_parts.specs.inside.Domains.{AreUnitClocks, AreWholeClocks}
use Rattle.gg_cut_parts.proofs.TableLemmas.{clocks-length, held-known, led-on, port-leads}
use Rattle.gg_flat.specs.Renaming.{numbers_by, renamed_driver}

-- ---- clocks that are themselves

from-at : (a n k : ℕ) → k < n → get_or (clocks_from a n) k None ≡ Some (a + k)
from-at a zero k lt = absurd (omega (arith, lt))
from-at a (suc n) zero lt = let e : a ≡ a + 0 = omega arith in ap Some e
from-at a (suc n) (suc k) lt = let e : suc a + k ≡ a + suc k = omega arith in from-at (suc a) n k (omega (arith, lt)) ∙ ap Some e

-- a clock of the circuit leads to itself
pub itself-at : (n : ℕ) (c : Option ℕ) → IsClock n c → LeadsTo (clocks_from 0 n) c c
itself-at n None known = record { known = tt; leads = refl }
itself-at n (Some k) known =
    record {
      known = (let count = clocks-length 0 n in let lt : k < n = known in omega (arith, lt, count));
      leads = (let e : 0 + k ≡ k = omega arith in from-at 0 n k known ∙ ap Some e);
    }

-- what is found among clocks is a clock
known-at : (n : ℕ) (clocks : List (Option ℕ)) → All (IsClock n) clocks → (p : ℕ) → IsClock n (get_or clocks p None)
known-at n [] all p = tt
known-at n (c ∷ clocks) all zero = all 0 c (omega arith)
known-at n (c ∷ clocks) all (suc p) = known-at n clocks (λ k d lt. all (suc k) d (omega (arith, lt))) p

ports-known : (n : ℕ) (memory : Memory) → IsClockedMemory n memory → All (IsClock n) (clocks_of_ports memory)
ports-known n memory is =
    All-append (IsClock n) (map (λ (r : Reader). r.clock) memory.readers) (map (λ (w : Writer). w.clock) memory.writers)
    (All-map (IsClock n) (λ (r : Reader). r.clock) memory.readers is.readers)
    (All-map (IsClock n) (λ (w : Writer). w.clock) memory.writers is.writers)

-- ---- the hub, and the listed memories

module _ (circuit : FlatCircuit) (formed : IsWellFormed circuit) (clocking : Clocking) (is : AreWholeClocks circuit clocking) where
  -- a part with the clocks of the circuit follows them
  pub whole-timed : (globals entries memories : List ℕ) → All (λ s. s < length circuit.signals) globals → All (λ m. m < length circuit.memories) memories → AreTimed circuit globals entries memories (clocks_from 0 circuit.clocks) clocking.registers clocking.ports
  whole-timed globals entries memories within banks =
      record {
        register = λ r any held.
            let known = held-known circuit held.signal r formed (All-contains (λ s. s < length circuit.signals) globals held.signal within held.chosen) held.holds.holds in
            let at : get_or clocking.registers r None ≡ (get_or circuit.registers r any).clock =
            ap (λ (l : List (Option ℕ)). get_or l r None) is.registers ∙ get_or-map (λ (register : Register). register.clock) circuit.registers r any None known in
            subst (LeadsTo (clocks_from 0 circuit.clocks) (get_or circuit.registers r any).clock) (sym at)
            (itself-at circuit.clocks (get_or circuit.registers r any).clock (formed.register_clocks r any known));
        port = λ m p any chosen lt.
            let known = All-contains (λ m. m < length circuit.memories) memories m banks chosen in
            let memory = get_or circuit.memories m any in
            let at : get_or clocking.ports m [] ≡ clocks_of_ports memory =
            ap (λ (l : List (List (Option ℕ))). get_or l m []) is.ports ∙ get_or-map (λ (x : Memory). clocks_of_ports x) circuit.memories m any [] known in
            subst (λ (l : List (Option ℕ)). LeadsTo (clocks_from 0 circuit.clocks) (get_or (clocks_of_ports memory) p None) (get_or l p None)) (sym at)
            (itself-at circuit.clocks (get_or (clocks_of_ports memory) p None) (known-at circuit.clocks (clocks_of_ports memory) (ports-known circuit.clocks memory (formed.memory_clocks m any known)) p));
      }

pub home-top : (listed : Listed) (m : ℕ) → (m ≡ 0) ⊎ (first_memory listed ≤ m) → clock_home listed m ≡ 0
home-top listed m (inl e) = ap (λ k. get_or (0 ∷ listed.units) k 0) e
home-top listed m (inr le) = get_or_past (0 ∷ listed.units) m 0 (omega (arith, le))

-- the Clock inputs of a unit are those of its instance
pub home-unit-at : (units : List ℕ) (m : ℕ) → m ≢ 0 → get_or (0 ∷ units) m 0 ≡ get_or units (m - 1) 0
home-unit-at units zero some = absurd (some refl)
home-unit-at units (suc u) some = let e : u ≡ suc u - 1 = omega arith in ap (λ k. get_or units k 0) e

-- the instance whose Clock inputs a machine has is there
pub home-known : (tree : InstanceTree) (listed : Listed) → 0 < length tree.instances → All (λ k. k < length tree.instances) listed.units → (m : ℕ) → clock_home listed m < length tree.instances
home-known tree listed there known zero = there
home-known tree listed there known (suc u) = by (cases_lt u (length listed.units))
  where
    by : (u < length listed.units) ⊎ (length listed.units ≤ u) → clock_home listed (suc u) < length tree.instances
    by (inl lt) = known u 0 lt
    by (inr ge) = subst (λ k. k < length tree.instances) (sym (get_or_past listed.units u 0 ge)) there

-- their clocks are those of the circuit
pub top-clocks : (circuit : FlatCircuit) (tree : InstanceTree) (listed : Listed) → KeepsToTree circuit tree → (m : ℕ) → (m ≡ 0) ⊎ (first_memory listed ≤ m) → machine_clocks tree listed m ≡ clocks_from 0 circuit.clocks
top-clocks circuit tree listed keeps m top =
    ap (top_clocks tree) (home-top listed m top)
    ∙ top_clocks-step tree (parents-before circuit tree keeps.fitting) 0 keeps.fitting.top.there
    ∙ ap (λ (o : Option ℕ). through_parent (top_clocks tree) o (instance_at tree 0).clocks) keeps.fitting.top.parent
    ∙ keeps.clocked.top

-- ---- from an instance up to its unit

climb : (tree : InstanceTree) (l d n k x : ℕ) → l + d ≡ n → above tree l k ≡ Some x → above tree n k ≡ above tree d x
climb tree zero d n k x e is = let same : n ≡ d = omega (arith, e) in ap₂ (above tree) same (same_Some k x is)
climb tree (suc l) d zero k x e is = absurd (omega (arith, e))
climb tree (suc l) d (suc n) k x e is = by (instance_at tree k).parent refl (climb tree l d n)
  where
    by : (o : Option ℕ) → (instance_at tree k).parent ≡ o → ((p x : ℕ) → l + d ≡ n → above tree l p ≡ Some x → above tree n p ≡ above tree d x) → above tree (suc n) k ≡ above tree d x
    by None f rest = let never : None ≡ Some x = sym (ap (option_and_then (above tree l)) f) ∙ is in absurd (cc)
    by (Some p) f rest = ap (option_and_then (above tree n)) f ∙ rest p x (omega (arith, e)) (sym (ap (option_and_then (above tree l)) f) ∙ is)

module _ (circuit : FlatCircuit) (tree : InstanceTree) (listed : Listed) (fits : IsTree circuit tree) (apart : AreApart tree listed) (is_home : ℕ → Bool) (homes : AreHomes listed is_home) (u : ℕ) (lt : u < length listed.units) where
  abbrev unit : ℕ
  unit = value_at listed.units u

  -- an instance isn't above itself
  not-above : (d : ℕ) → 0 < d → above tree d (value_at listed.units u) ≡ Some (value_at listed.units u) → ⊥
  not-above zero some is = omega (arith, some)
  not-above (suc d) some is = by (instance_at tree unit).parent refl
    where
      by : (o : Option ℕ) → (instance_at tree unit).parent ≡ o → ⊥
      by None e = let never : None ≡ Some unit = sym (ap (option_and_then (above tree d)) e) ∙ is in absurd (cc)
      by (Some p) e =
          let low = parents-before circuit tree fits unit p (apart.known u 0 lt) e in
          let known = apart.known u 0 lt in
          let within : p < length tree.instances = omega (arith, low, known) in
          let up = (stands-above circuit tree fits p unit within (lies-of circuit tree fits d p unit within (sym (ap (option_and_then (above tree d)) e) ∙ is))).low in
          omega (arith, low, up)

  -- there is no home between an instance and its unit
  pub none-between : (levels k : ℕ) → above tree levels k ≡ Some (value_at listed.units u) → (l x : ℕ) → l < levels → above tree l k ≡ Some x → is_home x ≡ false
  none-between levels k is l x less at =
      let d = levels - l in
      let whole : l + (levels - l) ≡ levels = omega (arith, less) in
      let rest : above tree (levels - l) x ≡ Some unit = sym (climb tree l (levels - l) levels k x whole at) ∙ is in
      home-none circuit tree listed fits apart is_home homes u lt x (record { levels = levels - l; is = rest })
      (λ same. not-above (levels - l) (omega (arith, less)) (sym (ap (above tree (levels - l)) same) ∙ rest))

-- ---- a unit

module _ (design : Ordered) (listed : Listed) (keeps : KeepsToTree design.circuit design.tree) (apart : AreApart design.tree listed) (u : ℕ) (lt : u < length listed.units) where
  -- what a unit makes is a signal of its instance
  pub made-inside : (s : ℕ) → Makes design.circuit design.tree listed (cut_wires design listed) (unit_number u) s → Holds (instance_at design.tree (value_at listed.units u)) s
  made-inside s (inl (known, owner, inner)) =
      let at = innermost design.circuit design.tree keeps.fitting s known in
      inner-held design.circuit design.tree listed keeps.fitting keeps.scoped apart u lt at.place s at.is
      (sym (owner-signal design.circuit design.tree listed keeps.fitting keeps.scoped apart at.place s at.is (inner-plain design.circuit design.tree listed [] keeps.fitting keeps.scoped apart s inner)) ∙ owner)
  made-inside s (inr given) =
      let w = given-out design.circuit design.tree listed [] (suc u) s given in
      at-held design.circuit design.tree listed keeps.fitting keeps.scoped apart u lt s
      (subst (IsAtUnit design.circuit design.tree listed u) w.is
      (end-at design.circuit design.tree listed keeps.fitting keeps.scoped apart u lt w.wire w.among (inl (eqb-true w.wire.producer (suc u) w.passes))))

  -- a memory that belongs to a unit lies in it; its number is its place
  pub memory-inside : IsWellFormed design.circuit → (k : ℕ) → HasMemory design.tree listed (unit_number u) k → (k < length design.tree.memories) × (owner_of_instance design.tree listed.units (memory_at design.tree k).instance ≡ unit_number u)
  memory-inside formed k has = subst (λ j. (j < length design.tree.memories) × (owner_of_instance design.tree listed.units (memory_at design.tree j).instance ≡ unit_number u)) (sym (keeps.copies.number has.place has.known) ∙ has.is) (by (find-unit listed.memories has.place))
    where
      by : Somewhere (λ j. has.place ≡ j) listed.memories ⊎ All (λ j. has.place ≢ j) listed.memories → (has.place < length design.tree.memories) × (owner_of_instance design.tree listed.units (memory_at design.tree has.place).instance ≡ unit_number u)
      by (inl at) =
          let place : memory_owner design.tree listed has.place ≡ first_memory listed + at.place =
          ap (memory_owner design.tree listed) (at.holds 0) ∙ owner-listed design.circuit design.tree listed formed keeps.fitting keeps.scoped apart at.place at.within in
          absurd (omega (arith, lt, sym has.owner ∙ place))
      by (inr none) = (
        has.known,
        sym (owner-unlisted design.circuit design.tree listed formed keeps.fitting keeps.scoped apart has.place (λ i d low same. none i d low (sym same))) ∙ has.owner,
      )

  module _ (formed : IsWellFormed design.circuit) (clocking : Clocking) (is : AreUnitClocks design listed clocking) where
    abbrev unit-there : ℕ
    unit-there = value_at listed.units u

    timed-register : (s r : ℕ) (any : Register) → s < length design.circuit.signals → Holds (instance_at design.tree (value_at listed.units u)) s → driver_at design.circuit s ≡ Held r → LeadsTo (top_clocks design.tree (value_at listed.units u)) (get_or design.circuit.registers r any).clock (get_or clocking.registers r None)
    timed-register s r any known holds held =
        let circuit = design.circuit in
        let tree = design.tree in
        let at = innermost circuit tree keeps.fitting s known in
        let k = at.place in
        let inside = lies-in circuit tree keeps.fitting k unit-there at.is.known (lies-holder circuit tree keeps.fitting k s unit-there at.is (apart.known u 0 lt) holds) in
        let there = keeps.clocked.registers k s r (get_or circuit.registers r any) at.is held (slice_get-get_or circuit.registers r any (held-known circuit s r formed known held)) in
        subst₂ (LeadsTo (top_clocks tree unit-there)) (sym there) (sym (is.register s r known held k at.is))
        (led-on circuit tree (parents-before circuit tree keeps.fitting) keeps.clocked (is_marked is.marks) inside.levels k unit-there at.is.known (apart.known u 0 lt)
        (home-unit circuit tree listed keeps.fitting apart (is_marked is.marks) is.homes u lt) inside.is
        (none-between circuit tree listed keeps.fitting apart (is_marked is.marks) is.homes u lt inside.levels k inside.is)
        (get_or tree.register_clocks r None))

    timed-port : (m p : ℕ) (any : Memory) → HasMemory design.tree listed (unit_number u) m → LeadsTo (top_clocks design.tree (value_at listed.units u)) (get_or (clocks_of_ports (get_or design.circuit.memories m any)) p None) (get_or (get_or clocking.ports m []) p None)
    timed-port m p any has =
        let circuit = design.circuit in
        let tree = design.tree in
        let own = memory-inside formed m has in
        let known = own.0 in
        let count = keeps.fitting.count in
        let low : m < length circuit.memories = omega (arith, known, count) in
        let k = (memory_at tree m).instance in
        let there = (keeps.fitting.held m known).instance in
        let inside = owner-in circuit tree listed keeps.fitting apart k u there own.1 in
        let ports : port_clocks circuit (memory_at tree m).memory ≡ clocks_of_ports (get_or circuit.memories m any) =
        ap (port_clocks circuit) (keeps.copies.number m known)
        ∙ ap₂ (λ (rs : List Reader) (ws : List Writer). map (λ (r : Reader). r.clock) rs ++ map (λ (w : Writer). w.clock) ws)
        (get_or-map (λ (x : Memory). x.readers) circuit.memories m any [] low) (get_or-map (λ (x : Memory). x.writers) circuit.memories m any [] low) in
        subst₂ (LeadsTo (top_clocks tree unit-there)) (ap (λ (l : List (Option ℕ)). get_or l p None) ports) (ap (λ (l : List (Option ℕ)). get_or l p None) (sym (is.ports m known)))
        (port-leads circuit tree (parents-before circuit tree keeps.fitting) keeps.clocked (is_marked is.marks) m p inside.levels unit-there known (apart.known u 0 lt) there
        (home-unit circuit tree listed keeps.fitting apart (is_marked is.marks) is.homes u lt) inside.is
        (none-between circuit tree listed keeps.fitting apart (is_marked is.marks) is.homes u lt inside.levels k inside.is))

    -- a part of what a unit makes, with its memories, follows the unit's Clock inputs
    pub unit-timed : (globals entries memories : List ℕ) → All (λ s. s < length design.circuit.signals) globals
        → ((s : ℕ) → Contains globals s → ¬ Contains entries s → Makes design.circuit design.tree listed (cut_wires design listed) (unit_number u) s)
        → ((k : ℕ) → Contains memories k → HasMemory design.tree listed (unit_number u) k)
        → AreTimed design.circuit globals entries memories (machine_clocks design.tree listed (unit_number u)) clocking.registers clocking.ports
    unit-timed globals entries memories within makes has =
        record {
          register = λ r any held.
              timed-register held.signal r any (All-contains (λ s. s < length design.circuit.signals) globals held.signal within held.chosen) (made-inside held.signal (makes held.signal held.chosen held.holds.inside)) held.holds.holds;
          port = λ m p any chosen low. timed-port m p any (has m chosen);
        }

-- the same for a machine that is a unit, by its number
pub machine-timed : (design : Ordered) (listed : Listed) → KeepsToTree design.circuit design.tree → AreApart design.tree listed → IsWellFormed design.circuit → (clocking : Clocking) → AreUnitClocks design listed clocking → (m : ℕ) → first_unit ≤ m → m < first_memory listed → (globals entries memories : List ℕ) → All (λ s. s < length design.circuit.signals) globals
    → ((s : ℕ) → Contains globals s → ¬ Contains entries s → Makes design.circuit design.tree listed (cut_wires design listed) m s)
    → ((k : ℕ) → Contains memories k → HasMemory design.tree listed m k)
    → AreTimed design.circuit globals entries memories (machine_clocks design.tree listed m) clocking.registers clocking.ports
machine-timed design listed keeps apart formed clocking is zero low high globals entries memories within makes has = absurd (omega (arith, low))
machine-timed design listed keeps apart formed clocking is (suc u) low high globals entries memories within makes has = unit-timed design listed keeps apart u (omega (arith, high)) formed clocking is globals entries memories within makes has

-- ---- two units that share a host

pub driver-known : (circuit : FlatCircuit) (s r : ℕ) → driver_at circuit s ≡ Held r → s < length circuit.signals
driver-known circuit s r is = by (cases_lt s (length circuit.signals))
  where
    by : (s < length circuit.signals) ⊎ (length circuit.signals ≤ s) → s < length circuit.signals
    by (inl lt) = lt
    by (inr ge) =
        let past = get_or_past (map (λ (signal : Signal). signal.driver) circuit.signals) s (Input 0) (omega (arith, ge, length-map circuit.signals (λ (signal : Signal). signal.driver))) in
        let never : Input 0 ≡ Held r = sym past ∙ is in
        absurd (cc)

module _ (design : Ordered) (listed : Listed) (keeps : KeepsToTree design.circuit design.tree) (m n : ℕ) (again : IsUnitAgain design listed m n) (clocking : Clocking) (is : AreUnitClocks design listed clocking) where
  -- a register that stands for another follows the same Clock input
  pub register-same : (s r : ℕ) → Makes design.circuit design.tree listed (cut_wires design listed) m s → driver_at design.circuit s ≡ Held r → get_or clocking.registers (again.registers r) None ≡ get_or clocking.registers r None
  register-same s r makes held =
      let t = again_at design listed m n s in
      let driven : driver_at design.circuit t ≡ Held (again.registers r) = again.driver s makes ∙ ap (renamed_driver (numbers_by (again_at design listed m n) again.registers again.memories)) held in
      let known = driver-known design.circuit t (again.registers r) driven in
      let at = innermost design.circuit design.tree keeps.fitting t known in
      let there = again.register_clock (is_marked is.marks) s r (get_or clocking.registers r None) is.homes makes held (is.register s r (driver-known design.circuit s r held) held) in
      is.register t (again.registers r) known driven at.place at.is ∙ sym (there at.place at.is)

  -- and so do the ports of a memory
  pub ports-same : (k : ℕ) → HasMemory design.tree listed m k → get_or clocking.ports (again.memories k) [] ≡ get_or clocking.ports k []
  ports-same k has =
      let known : k < length design.tree.memories = subst (λ j. j < length design.tree.memories) (sym (keeps.copies.number has.place has.known) ∙ has.is) has.known in
      let count = keeps.fitting.count in
      let low = (again.memory k (some-item design.circuit.memories k (omega (arith, known, count))) has).0 in
      is.ports (again.memories k) (omega (arith, low, count)) ∙ again.memory_clocks (is_marked is.marks) k is.homes has ∙ sym (is.ports k known)
