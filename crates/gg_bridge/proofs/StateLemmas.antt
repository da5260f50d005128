-- A state of the circuit with a model is one of the circuit and one of the model.
use Rattle.std.proofs.Common.{◌≡◌, ℕ, ◌+◌, ◌-◌, ◌<◌, ◌≤◌, List, [], ◌∷◌, ◌++◌, length, map, get_or, replicate, refl, sym, ◌∙◌, ap, ap₂, subst, inl, inr, ◌⊎◌, ext_get_or, arith}
use Rattle.std.specs.List.{range_with_len}
use Rattle.std.proofs.lemmas.Bool.{cases_lt}
use Rattle.std.proofs.lemmas.List.{get_or-map, get_or_append_left, get_or-append-add, length-append, length-map, length-replicate, map-append}
use Rattle.std.proofs.lemmas.List.FromFn.{length-map-range_with_len, get_or-map-range_with_len}
use Rattle.gg_bits.specs.Shape.{Shape, shape, uint, Fits}
use Rattle.gg_flat.specs.declared.memory.Memory.{Memory}
use Rattle.gg_flat.specs.declared.piece.Register.{Register}
use Rattle.gg_flat.specs.Circuit.{FlatCircuit, register_shapes}
use Rattle.gg_flat.specs.Line.{value_at, shape_at}
use Rattle.gg_flat.specs.Memory.{Bank, AreWords, IsBank, bank_at, opening_bank, read_count}
use Rattle.gg_flat.specs.State.{State, IsState, opening}
use Rattle.gg_flat.proofs.StateLemmas.{IsState-opening}
use Rattle.gg_flat.proofs.ListLemmas.{some-item}
use Rattle.gg_flat.specs.Renaming.{renamed_register, renamed_memory}
use Rattle.gg_part.specs.PartRun.{part_state}
use Rattle.gg_flat.proofs.RenamedLaws.{opening-renamed}
use Rattle.gg_bridge.specs.inside.Joined.{numbers_behind}
use Rattle.gg_bridge.specs.Joined.{held_behind, memories_behind, joined}
use Rattle.gg_bridge.specs.inside.All.{Attached, joined_all, joined_states, with_bridge}
use Rattle.gg_bridge.specs.All.{joined_state}
use Rattle.gg_bridge.proofs.AtLemmas.{many, banks, register-old, register-new, memory-old, memory-new}

-- ---- two lists, one behind the other

-- the items of the first
pub front-items : {X : Type 0} (d : X) (xs ys : List X) (n : ℕ) → n ≡ length xs → map (λ k. get_or (xs ++ ys) k d) (range_with_len 0 n) ≡ xs
front-items d xs ys n is =
    ext_get_or d (map (λ k. get_or (xs ++ ys) k d) (range_with_len 0 n)) xs (length-map-range_with_len (λ k. get_or (xs ++ ys) k d) 0 n ∙ is) (λ i lt.
    let low : i < n = omega (arith, lt, length-map-range_with_len (λ k. get_or (xs ++ ys) k d) 0 n) in
    get_or-map-range_with_len (λ k. get_or (xs ++ ys) k d) 0 n i i d low (let z : 0 + i ≡ i = omega arith in z)
    ∙ get_or_append_left xs ys d i (omega (arith, low, is)))

-- the items of the second
pub behind-items : {X : Type 0} (d : X) (xs ys : List X) (a n : ℕ) → a ≡ length xs → n ≡ length ys → map (λ k. get_or (xs ++ ys) k d) (range_with_len a n) ≡ ys
behind-items d xs ys a n first is =
    ext_get_or d (map (λ k. get_or (xs ++ ys) k d) (range_with_len a n)) ys (length-map-range_with_len (λ k. get_or (xs ++ ys) k d) a n ∙ is) (λ i lt.
    let low : i < n = omega (arith, lt, length-map-range_with_len (λ k. get_or (xs ++ ys) k d) a n) in
    get_or-map-range_with_len (λ k. get_or (xs ++ ys) k d) a n i (a + i) d low refl
    ∙ ap (λ k. get_or (xs ++ ys) (k + i) d) first
    ∙ get_or-append-add xs ys i d)

zeros-both : {X Y : Type 0} (xs : List X) (ys : List Y) (f : Y → X) → replicate {A = ℕ} (length (xs ++ map f ys)) 0 ≡ replicate (length xs) 0 ++ replicate (length ys) 0
zeros-both [] ys f = ap (λ n. replicate {A = ℕ} n 0) (length-map ys f)
zeros-both (x ∷ xs) ys f = ap (λ (l : List ℕ). 0 ∷ l) (zeros-both xs ys f)

module _ (one : FlatCircuit) (front : List ℕ) (model : FlatCircuit) (sees drives : List ℕ) where
  -- ---- zeros

  opening-behind : (memories : List Memory) → map (λ memory. opening_bank memory) (map (λ memory. renamed_memory (numbers_behind one model) memory) memories) ≡ map (λ memory. opening_bank memory) memories
  opening-behind [] = refl
  opening-behind (memory ∷ memories) = ap₂ (λ (b : Bank) (l : List Bank). b ∷ l) (opening-renamed (numbers_behind one model) memory) (opening-behind memories)

  pub opening-joined : joined_state (opening one) (opening model) ≡ opening (joined one front model sees drives)
  opening-joined =
      let make : List ℕ → List Bank → State = λ registers held. record { registers = registers; banks = held } in
      ap₂ make (sym (zeros-both one.registers model.registers (λ register. renamed_register (numbers_behind one model) register)))
      (sym (map-append (λ memory. opening_bank memory) one.memories (map (λ memory. renamed_memory (numbers_behind one model) memory) model.memories)
      ∙ ap (λ (l : List Bank). map (λ memory. opening_bank memory) one.memories ++ l) (opening-behind model.memories)))

  module _ (state begin : State) (first : IsState one state) (second : IsState model begin) where
    abbrev all : FlatCircuit
    all = joined one front model sees drives

    abbrev both : State
    both = joined_state state begin

    abbrev type_of : Register → Shape
    type_of register = shape register.ty

    count-one : length state.registers ≡ length one.registers
    count-one = first.typed.count ∙ length-map one.registers type_of

    count-model : length begin.registers ≡ length model.registers
    count-model = second.typed.count ∙ length-map model.registers type_of

    -- ---- the parts of the state

    pub front-state : part_state (range_with_len 0 (length one.registers)) (range_with_len 0 (length one.memories)) (joined_state state begin) ≡ state
    front-state =
        let make : List ℕ → List Bank → State = λ registers held. record { registers = registers; banks = held } in
        ap₂ make (front-items 0 state.registers begin.registers (length one.registers) (sym count-one))
        (front-items (record { words = []; reads = [] }) state.banks begin.banks (length one.memories) (sym first.held.count))

    pub model-state : part_state (held_behind one model) (memories_behind one model) (joined_state state begin) ≡ begin
    model-state =
        let make : List ℕ → List Bank → State = λ registers held. record { registers = registers; banks = held } in
        ap₂ make (behind-items 0 state.registers begin.registers (length one.registers) (length model.registers) (sym count-one) (sym count-model))
        (behind-items (record { words = []; reads = [] }) state.banks begin.banks (length one.memories) (length model.memories) (sym first.held.count) (sym second.held.count))

    -- ---- its types

    shape-one : (r : ℕ) → r < length one.registers → shape_at (register_shapes all) r ≡ shape_at (register_shapes one) r
    shape-one r lt =
        let any = some-item one.registers r lt in
        get_or-map type_of all.registers r any (uint 0) (omega (arith, lt, many one front model sees drives))
        ∙ ap type_of (register-old one front model sees drives r any lt)
        ∙ sym (get_or-map type_of one.registers r any (uint 0) lt)

    shape-model : (r : ℕ) → r < length model.registers → shape_at (register_shapes all) (length one.registers + r) ≡ shape_at (register_shapes model) r
    shape-model r lt =
        let any = some-item model.registers r lt in
        get_or-map type_of all.registers (length one.registers + r) any (uint 0) (omega (arith, lt, many one front model sees drives))
        ∙ ap type_of (register-new one front model sees drives r any any lt)
        ∙ sym (get_or-map type_of model.registers r any (uint 0) lt)

    value-fits : (r : ℕ) → r < length all.registers → (r < length one.registers) ⊎ (length one.registers ≤ r) → Fits (shape_at (register_shapes all) r) (value_at both.registers r)
    value-fits r lt (inl low) =
        subst (Fits (shape_at (register_shapes all) r)) (sym (get_or_append_left state.registers begin.registers 0 r (omega (arith, low, count-one))))
        (subst (λ (sh : Shape). Fits sh (value_at state.registers r)) (sym (shape-one r low)) (first.typed.fits r (omega (arith, low, length-map one.registers type_of))))
    value-fits r lt (inr high) =
        let k = r - length one.registers in
        let low : k < length model.registers = omega (arith, lt, high, many one front model sees drives) in
        let back : length one.registers + k ≡ r = omega (arith, high) in
        let at : value_at both.registers r ≡ value_at begin.registers k = ap (value_at both.registers) (sym back) ∙ ap (λ n. value_at both.registers (n + k)) (sym count-one) ∙ get_or-append-add state.registers begin.registers k 0 in
        subst (Fits (shape_at (register_shapes all) r)) (sym at)
        (subst (λ (sh : Shape). Fits sh (value_at begin.registers k)) (sym (ap (shape_at (register_shapes all)) (sym back) ∙ shape-model k low)) (second.typed.fits k (omega (arith, low, length-map model.registers type_of))))

    bank-renamed : (memory : Memory) (bank : Bank) → IsBank memory bank → IsBank (renamed_memory (numbers_behind one model) memory) bank
    bank-renamed memory bank is =
        let own = renamed_memory (numbers_behind one model) memory in
        let same : read_count own.latency own.readers ≡ read_count memory.latency memory.readers =
        sym (length-replicate (read_count own.latency own.readers) 0) ∙ ap (λ (b : Bank). length b.reads) (opening-renamed (numbers_behind one model) memory) ∙ length-replicate (read_count memory.latency memory.readers) 0 in
        record { words = is.words; reads = subst (λ n. AreWords (shape memory.word) n bank.reads) (sym same) is.reads }

    bank-is : (m : ℕ) (any : Memory) → m < length all.memories → (m < length one.memories) ⊎ (length one.memories ≤ m) → IsBank (get_or all.memories m any) (bank_at both.banks m)
    bank-is m any lt (inl low) =
        subst (IsBank (get_or all.memories m any)) (sym (get_or_append_left state.banks begin.banks (record { words = []; reads = [] }) m (omega (arith, low, first.held.count))))
        (subst (λ memory. IsBank memory (bank_at state.banks m)) (sym (memory-old one front model sees drives m any low)) (first.held.each m any low))
    bank-is m any lt (inr high) =
        let k = m - length one.memories in
        let low : k < length model.memories = omega (arith, lt, high, banks one front model sees drives) in
        let back : length one.memories + k ≡ m = omega (arith, high) in
        let at : bank_at both.banks m ≡ bank_at begin.banks k = ap (bank_at both.banks) (sym back) ∙ ap (λ n. bank_at both.banks (n + k)) (sym first.held.count) ∙ get_or-append-add state.banks begin.banks k (record { words = []; reads = [] }) in
        subst (IsBank (get_or all.memories m any)) (sym at)
        (subst (λ memory. IsBank memory (bank_at begin.banks k)) (sym (ap (λ n. get_or all.memories n any) (sym back) ∙ memory-new one front model sees drives k any any low)) (bank-renamed (get_or model.memories k any) (bank_at begin.banks k) (second.held.each k any low)))

    pub state-joined : IsState (joined one front model sees drives) (joined_state state begin)
    state-joined =
        record {
          typed = record {
            count = length-append state.registers begin.registers ∙ omega (arith, count-one, count-model, many one front model sees drives, length-map all.registers type_of);
            fits = λ r lt. value-fits r (omega (arith, lt, length-map all.registers type_of)) (cases_lt r (length one.registers));
          };
          held = record {
            count = length-append state.banks begin.banks ∙ omega (arith, first.held.count, second.held.count, banks one front model sees drives);
            each = λ m any lt. bank-is m any lt (cases_lt m (length one.memories));
          };
        }

-- ---- several bridges

pub zeros-all : (one : FlatCircuit) (bridges : List Attached) → joined_states (opening one) bridges ≡ opening (joined_all one bridges)
zeros-all one [] = refl
zeros-all one (bridge ∷ bridges) =
    ap (λ (state : State). joined_states state bridges) (opening-joined one bridge.front bridge.model bridge.sees bridge.drives)
    ∙ zeros-all (with_bridge one bridge) bridges

pub states-all : (one : FlatCircuit) (bridges : List Attached) (state : State) → IsState one state → IsState (joined_all one bridges) (joined_states state bridges)
states-all one [] state is = is
states-all one (bridge ∷ bridges) state is =
    states-all (with_bridge one bridge) bridges (joined_state state (opening bridge.model))
    (state-joined one bridge.front bridge.model bridge.sees bridge.drives state (opening bridge.model) is (IsState-opening bridge.model))
