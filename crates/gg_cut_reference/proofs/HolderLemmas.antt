-- Each register is held in one machine, and each memory kept in one.
use Rattle.std.proofs.Common.{◌≡◌, ◌≢◌, ℕ, ◌+◌, ◌<◌, List, [], Bool, true, false, Option, Some, None, length, map, get_or, refl, sym, ◌∙◌, ap, subst, eq-eqb, arith}
use Rattle.std.specs.Prelude.{◌==◌, option_map, unwrap_or, Contains}
use Rattle.std.specs.List.{list_any, range_with_len}
use Rattle.std.proofs.lemmas.Bool.{eqb-true}
use Rattle.std.proofs.lemmas.List.{get_or-map, length-map}
use Rattle.std.proofs.lemmas.List.FromFn.{get_or-range_with_len, length-range_with_len}
use Rattle.std.proofs.lemmas.List.Elements.{Contains-get_or}
use Rattle.gg_flat.specs.declared.piece.Driver.{Driver}
use Rattle.gg_flat.specs.declared.piece.Driver.TheVariants.{Input, Held, MemoryWord, ReadRegister, Computed}
use Rattle.gg_flat_tree.specs.declared.tree.MemoryInstance.{MemoryInstance}
use Rattle.gg_flat.specs.Circuit.{FlatCircuit, driver_at}
use Rattle.gg_flat_tree.specs.Tree.{InstanceTree, IsTree, memory_at}
use Rattle.gg_flat.proofs.ListLemmas.{in-range, once-apart}
use Rattle.gg_cut_plan.specs.declared.listed.Listed.{Listed}
use Rattle.gg_cut_plan.specs.Listed.{first_place, memory_owner}
use Rattle.gg_cut_plan.specs.Plan.{HasMemory}
use Rattle.gg_cut_plan.proofs.PathLemmas.{IsPlace, first_place-Some, first_place-None}
use Rattle.gg_cut_split.proofs.ClosedLemmas.ListLemmas.{AllPairs-map}
use Rattle.gg_cut_plan.specs.Direct.{Hub}
use Rattle.gg_cut_reference.specs.Links.{maker_of}
use Rattle.gg_cut_plan.specs.Held.{AreHeldOnce}
use Rattle.gg_cut_reference.specs.Made.{holds, holder_of, keeper_of}
use Rattle.gg_cut_plan.proofs.OriginLemmas.{finds-any, clash}

pub holds-is : (r : ℕ) (driver : Driver) → holds r driver ≡ true → driver ≡ Held r
holds-is r (Input place) e = absurd (clash false e refl)
holds-is r (Held register) e = ap Held (eqb-true register r e)
holds-is r (MemoryWord memory reader addr en) e = absurd (clash false e refl)
holds-is r (ReadRegister memory reader) e = absurd (clash false e refl)
holds-is r (Computed line) e = absurd (clash false e refl)

-- the first place of an item that passes
pub first-found : {A : Type 0} (test : A → Bool) (xs : List A) (x : A) → Contains xs x → test x ≡ true → IsPlace test xs (unwrap_or (first_place test xs) 0)
first-found test xs x h e = by (first_place test xs) refl
  where
    by : (o : Option ℕ) → first_place test xs ≡ o → IsPlace test xs (unwrap_or (first_place test xs) 0)
    by None f = absurd (clash (list_any test xs) (finds-any test xs x h e) (first_place-None test xs f))
    by (Some k) f = subst (λ o. IsPlace test xs (unwrap_or o 0)) (sym f) (first_place-Some test xs k f)

-- the first signal that holds register r
abbrev pub first_holder : FlatCircuit → ℕ → ℕ
first_holder circuit r = unwrap_or (first_place (λ s. holds r (driver_at circuit s)) (range_with_len 0 (length circuit.signals))) 0

pub holder-found : (circuit : FlatCircuit) (s r : ℕ) → s < length circuit.signals → driver_at circuit s ≡ Held r → (first_holder circuit r < length circuit.signals) × (driver_at circuit (first_holder circuit r) ≡ Held r)
holder-found circuit s r lt e =
    let numbers = range_with_len 0 (length circuit.signals) in
    let test = λ (t : ℕ). holds r (driver_at circuit t) in
    let at = first-found test numbers s (in-range (length circuit.signals) s lt) (ap (holds r) e ∙ eq-eqb r r refl) in
    let place = unwrap_or (first_place test numbers) 0 in
    let low : place < length circuit.signals = (let inside = at.within in omega (arith, inside, length-range_with_len 0 (length circuit.signals))) in
    let is : get_or numbers place 0 ≡ place = get_or-range_with_len 0 (length circuit.signals) place 0 low ∙ (let same : 0 + place ≡ place = omega arith in same) in
    (low, holds-is r (driver_at circuit place) (subst (λ t. holds r (driver_at circuit t) ≡ true) is (at.passes 0)))

-- a register that a signal holds has the machine of the first that holds it
pub holder-first : (hub : Hub) (s r : ℕ) → s < length hub.circuit.signals → driver_at hub.circuit s ≡ Held r → holder_of hub r ≡ maker_of hub (first_holder hub.circuit r)
holder-first hub s r lt e = by (first_place test numbers) refl
  where
    numbers : List ℕ
    numbers = range_with_len 0 (length hub.circuit.signals)

    test : ℕ → Bool
    test t = holds r (driver_at hub.circuit t)

    by : (o : Option ℕ) → first_place test numbers ≡ o → unwrap_or (option_map (maker_of hub) (first_place test numbers)) 0 ≡ maker_of hub (unwrap_or (first_place test numbers) 0)
    by None f = absurd (clash (list_any test numbers) (finds-any test numbers s (in-range (length hub.circuit.signals) s lt) (ap (holds r) e ∙ eq-eqb r r refl)) (first_place-None test numbers f))
    by (Some k) f = ap (λ o. unwrap_or (option_map (maker_of hub) o) 0) f ∙ sym (ap (λ o. maker_of hub (unwrap_or o 0)) f)

pub holder-is : (hub : Hub) → AreHeldOnce hub.circuit → (s r : ℕ) → s < length hub.circuit.signals → driver_at hub.circuit s ≡ Held r → holder_of hub r ≡ maker_of hub s
holder-is hub once s r lt e =
    let found = holder-found hub.circuit s r lt e in
    holder-first hub s r lt e ∙ ap (maker_of hub) (once (first_holder hub.circuit r) s r found.0 lt found.1 e)

pub keeper-is : (circuit : FlatCircuit) (tree : InstanceTree) (listed : Listed) → IsTree circuit tree → (m k : ℕ) → HasMemory tree listed m k → keeper_of tree listed k ≡ m
keeper-is circuit tree listed fits m k has =
    let any : MemoryInstance = record { instance = 0; memory = 0; ports = []; clocks = [] } in
    let test = λ (memory : MemoryInstance). memory.memory == k in
    let at = first-found test tree.memories (memory_at tree has.place) (Contains-get_or tree.memories has.place any has.known) (eq-eqb (memory_at tree has.place).memory k has.is) in
    let place = unwrap_or (first_place test tree.memories) 0 in
    let long = length-map tree.memories (λ (memory : MemoryInstance). memory.memory) in
    let inside = at.within in
    let known = has.known in
    let same =
    once-apart (map (λ (memory : MemoryInstance). memory.memory) tree.memories) 0 (AllPairs-map (λ a b. a ≢ b) (λ (memory : MemoryInstance). memory.memory) tree.memories fits.once) place has.place (omega (arith, inside, long)) (omega (arith, known, long))
    (get_or-map (λ (memory : MemoryInstance). memory.memory) tree.memories place any 0 at.within ∙ eqb-true (get_or tree.memories place any).memory k (at.passes any) ∙ sym (get_or-map (λ (memory : MemoryInstance). memory.memory) tree.memories has.place any 0 has.known ∙ has.is)) in
    ap (memory_owner tree listed) same ∙ has.owner
