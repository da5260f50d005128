-- A part while it is made: one signal, register or memory more.
use Rattle.std.proofs.Common.{◌≡◌, ◌≢◌, ℕ, ◌+◌, ◌<◌, List, [], ◌∷◌, ◌++◌, length, map, take, get_or, sym, ◌∙◌, ap, ap₂, subst, arith, below_more}
use Rattle.std.specs.Prelude.{All, AllPairs, Contains, Option}
use Rattle.std.proofs.lemmas.List.{map_push, map_more, length_push, length-map, length-take-le, get_or_append_left, get_or_push, get_or-map, get_or-take, get_or_default}
use Rattle.gg_bits.specs.Shape.{shape, uint}
use Rattle.gg_flat.specs.declared.piece.Signal.{Signal}
use Rattle.gg_flat.specs.declared.piece.Driver.{Driver}
use Rattle.gg_flat.specs.declared.piece.Driver.TheVariants.{Input}
use Rattle.gg_flat.specs.Line.{shape_at, value_at}
use Rattle.gg_flat.specs.Circuit.{FlatCircuit, signal_shapes, driver_at}
use Rattle.gg_flat_tree.specs.Tree.{path_at}
use Rattle.gg_flat.specs.WellFormed.{IsClock, IsClockedMemory}
use Rattle.gg_flat.specs.declared.piece.Register.{Register}
use Rattle.gg_flat.specs.declared.memory.Memory.{Memory}
use Rattle.gg_flat.proofs.ListLemmas.{once-apart}
use Rattle.gg_part.specs.Part.{RegisterBelow, MemoryBelow, in_whole}
use Rattle.gg_part.specs.inside.Building.{IsDriven, IsAdded, AreSignals, AreRegisters, AreMemories}
use Rattle.gg_flat.specs.Renaming.{renamed_memory, renamed_register}

-- ---- one more of a list

-- each item so far stands for the whole's item of its number, and so does one more
pub each-more : {X : Type 0} (f : X → X) (whole old new : List X) (numbers : List ℕ) (k : ℕ) (own item : X) → length old ≡ k → new ≡ old ++ own ∷ [] → f own ≡ item → ((other : X) → get_or whole (value_at numbers k) other ≡ item) → ((r : ℕ) (any other : X) → r < k → get_or whole (value_at numbers r) other ≡ f (get_or old r any)) → (r : ℕ) (any other : X) → r < k + 1 → get_or whole (value_at numbers r) other ≡ f (get_or new r any)
each-more {X} f whole old new numbers k own item counted is here read before r any other lt =
    below_more (λ r. (any other : X) → get_or whole (value_at numbers r) other ≡ f (get_or new r any)) k
    (λ r lt any other. before r any other lt ∙ ap f (sym (ap (λ (l : List X). get_or l r any) is ∙ get_or_append_left old (own ∷ []) any r (omega (arith, lt, counted)))))
    (λ any other. read other ∙ sym here ∙ ap f (sym (ap (λ (l : List X). get_or l k any) is ∙ get_or_push old own any k counted)))
    r lt any other

-- what holds of each item so far and of one more holds of each item of the new list
pub all-more : {X : Type 0} (P : X → Type 0) (old new : List X) (k : ℕ) (own : X) → length old ≡ k → new ≡ old ++ own ∷ [] → P own → ((r : ℕ) (any : X) → r < k → P (get_or old r any)) → (r : ℕ) (any : X) → r < k + 1 → P (get_or new r any)
all-more {X} P old new k own counted is here before r any lt =
    below_more (λ r. (any : X) → P (get_or new r any)) k
    (λ r lt any. subst P (sym (ap (λ (l : List X). get_or l r any) is ∙ get_or_append_left old (own ∷ []) any r (omega (arith, lt, counted)))) (before r any lt))
    (λ any. subst P (sym (ap (λ (l : List X). get_or l k any) is ∙ get_or_push old own any k counted)) here)
    r lt any

-- each item so far follows what stands for its place, and so does one more
pub follows-more : {X : Type 0} (f : X → Option ℕ) (at : ℕ → Option ℕ) (old new : List X) (k : ℕ) (own : X) → length old ≡ k → new ≡ old ++ own ∷ [] → f own ≡ at k → ((r : ℕ) (any : X) → r < k → f (get_or old r any) ≡ at r) → (r : ℕ) (any : X) → r < k + 1 → f (get_or new r any) ≡ at r
follows-more {X} f at old new k own counted is here before r any lt =
    below_more (λ r. (any : X) → f (get_or new r any) ≡ at r) k
    (λ r lt any. ap f (ap (λ (l : List X). get_or l r any) is ∙ get_or_append_left old (own ∷ []) any r (omega (arith, lt, counted))) ∙ before r any lt)
    (λ any. ap f (ap (λ (l : List X). get_or l k any) is ∙ get_or_push old own any k counted) ∙ here)
    r lt any

-- each item so far has what is wanted of its place, and so has one more
pub wants-more : {X : Type 0} (P : ℕ → X → Type 0) (old new : List X) (k : ℕ) (own : X) → length old ≡ k → new ≡ old ++ own ∷ [] → P k own → ((r : ℕ) (any : X) → r < k → P r (get_or old r any)) → (r : ℕ) (any : X) → r < k + 1 → P r (get_or new r any)
wants-more {X} P old new k own counted is here before r any lt =
    below_more (λ r. (any : X) → P r (get_or new r any)) k
    (λ r lt any. subst (P r) (sym (ap (λ (l : List X). get_or l r any) is ∙ get_or_append_left old (own ∷ []) any r (omega (arith, lt, counted)))) (before r any lt))
    (λ any. subst (P k) (sym (ap (λ (l : List X). get_or l k any) is ∙ get_or_push old own any k counted)) here)
    r lt any

-- what was read at a place stands there, whatever the default is
pub read-any : {X : Type 0} (xs : List X) (i : ℕ) (item : X) → i < length xs → item ≡ get_or xs i item → (other : X) → get_or xs i other ≡ item
read-any {X} xs i item lt read other = get_or_default xs i other item lt ∙ sym read

-- ---- one more signal

driver-before : (old new : FlatCircuit) (own : Signal) (s : ℕ) → new.signals ≡ old.signals ++ own ∷ [] → s < length old.signals → driver_at new s ≡ driver_at old s
driver-before old new own s is lt =
    let drivers : List Signal → List Driver = λ signals. map (λ (signal : Signal). signal.driver) signals in
    ap (λ l. get_or (drivers l) s (Input 0)) is
    ∙ ap (λ l. get_or l s (Input 0)) (map_push (λ (signal : Signal). signal.driver) old.signals own)
    ∙ get_or_append_left (drivers old.signals) (own.driver ∷ []) (Input 0) s (omega (arith, lt, length-map old.signals (λ (signal : Signal). signal.driver)))

driver-last : (old new : FlatCircuit) (own : Signal) (k : ℕ) → new.signals ≡ old.signals ++ own ∷ [] → length old.signals ≡ k → driver_at new k ≡ own.driver
driver-last old new own k is counted =
    let drivers : List Signal → List Driver = λ signals. map (λ (signal : Signal). signal.driver) signals in
    ap (λ l. get_or (drivers l) k (Input 0)) is
    ∙ ap (λ l. get_or l k (Input 0)) (map_push (λ (signal : Signal). signal.driver) old.signals own)
    ∙ get_or_push (drivers old.signals) own.driver (Input 0) k (length-map old.signals (λ (signal : Signal). signal.driver) ∙ counted)

module _ (whole : FlatCircuit) (globals ins held memories : List ℕ) (k : ℕ) (lt : k < length globals) where
  pub AreSignals-more : (old new : FlatCircuit) → IsAdded whole globals ins held memories (value_at globals k) old new → AreSignals whole globals ins held memories k old → AreSignals whole globals ins held memories (k + 1) new
  AreSignals-more old new added before =
      let own = added.own in
      let signals : new.signals ≡ old.signals ++ own ∷ [] = ap (λ (c : FlatCircuit). c.signals) added.is in
      let Here : ℕ → Type 0 = λ s. IsDriven whole globals ins held memories (value_at globals s) (driver_at new s) in
      record {
        counted = ap length signals ∙ length_push old.signals own ∙ ap (λ n. n + 1) before.counted;
        paths =
            ap (λ (c : FlatCircuit). c.paths) added.is
            ∙ ap (λ front. front ++ path_at whole.paths (value_at globals k) ∷ []) before.paths
            ∙ sym (map_more (path_at whole.paths) globals k 0 lt);
        types =
            ap (map (λ (signal : Signal). shape signal.ty)) signals
            ∙ map_push (λ (signal : Signal). shape signal.ty) old.signals own
            ∙ ap₂ (λ front last. front ++ last ∷ []) before.types added.typed
            ∙ sym (map_more (shape_at (signal_shapes whole)) globals k 0 lt);
        drivers =
            below_more Here k
            (λ s earlier. subst (IsDriven whole globals ins held memories (value_at globals s)) (sym (driver-before old new own s signals (omega (arith, earlier, before.counted)))) (before.drivers s earlier))
            (subst (IsDriven whole globals ins held memories (value_at globals k)) (sym (driver-last old new own k signals before.counted)) added.driven);
      }

  -- the path of the next signal isn't among the paths so far
  pub path-fresh : (paths : List (List ℕ)) → AllPairs (λ a b. a ≢ b) whole.paths → AllPairs (λ a b. a ≢ b) globals → All (λ s. s < length whole.paths) globals → paths ≡ map (path_at whole.paths) (take k globals) → Contains paths (path_at whole.paths (value_at globals k)) → ⊥
  path-fresh paths distinct once within are there =
      let path = path_at whole.paths (value_at globals k) in
      let at = subst (λ (l : List (List ℕ)). Contains l path) are there in
      let count : length (map (path_at whole.paths) (take k globals)) ≡ k = length-map (take k globals) (path_at whole.paths) ∙ length-take-le k globals (omega arith) in
      let before : at.0 < k = omega (arith, at.1, count) in
      let same : path_at whole.paths (value_at globals at.0) ≡ path =
      ap (path_at whole.paths) (sym (get_or-take k globals at.0 0 before))
      ∙ sym (get_or-map (path_at whole.paths) (take k globals) at.0 0 path (omega (arith, before, length-take-le k globals (omega arith))))
      ∙ at.2 in
      let one = once-apart whole.paths [] distinct (value_at globals at.0) (value_at globals k) (within at.0 0 (omega arith)) (within k 0 lt) same in
      once at.0 k 0 before lt one

-- AreSignals depends only on the paths and the signals of a piece
pub AreSignals-same : (whole : FlatCircuit) (globals ins held memories : List ℕ) (k : ℕ) (old new : FlatCircuit) → new.paths ≡ old.paths → new.signals ≡ old.signals → AreSignals whole globals ins held memories k old → AreSignals whole globals ins held memories k new
AreSignals-same whole globals ins held memories k old new paths signals are =
    record {
      counted = ap length signals ∙ are.counted;
      paths = paths ∙ are.paths;
      types = ap (map (λ (signal : Signal). shape signal.ty)) signals ∙ are.types;
      drivers = λ s lt.
          subst (IsDriven whole globals ins held memories (value_at globals s)) (sym (ap (λ (l : List Signal). get_or (map (λ (signal : Signal). signal.driver) l) s (Input 0)) signals))
          (are.drivers s lt);
    }

-- ---- what else a step leaves

module _ (first old new : FlatCircuit) where
  pub only-signals : (paths : List (List ℕ)) (signals : List Signal) → new ≡ record old { paths = paths; signals = signals } → old ≡ record first { paths = old.paths; signals = old.signals } → new ≡ record first { paths = new.paths; signals = new.signals }
  only-signals paths signals is before =
      is ∙ ap (λ (c : FlatCircuit). let d : FlatCircuit = record c { paths = paths; signals = signals } in d) before
      ∙ ap₂ (λ p s. let d : FlatCircuit = record first { paths = p; signals = s } in d) (sym (ap (λ (c : FlatCircuit). c.paths) is)) (sym (ap (λ (c : FlatCircuit). c.signals) is))

  pub only-registers : (registers : List Register) → new ≡ record old { registers = registers } → old ≡ record first { registers = old.registers } → new ≡ record first { registers = new.registers }
  only-registers registers is before =
      is ∙ ap (λ (c : FlatCircuit). let d : FlatCircuit = record c { registers = registers } in d) before
      ∙ ap (λ l. let d : FlatCircuit = record first { registers = l } in d) (sym (ap (λ (c : FlatCircuit). c.registers) is))

  pub only-memories : (memories : List Memory) → new ≡ record old { memories = memories } → old ≡ record first { memories = old.memories } → new ≡ record first { memories = new.memories }
  only-memories memories is before =
      is ∙ ap (λ (c : FlatCircuit). let d : FlatCircuit = record c { memories = memories } in d) before
      ∙ ap (λ l. let d : FlatCircuit = record first { memories = l } in d) (sym (ap (λ (c : FlatCircuit). c.memories) is))

-- ---- one more register or memory

pub AreRegisters-more : (whole : FlatCircuit) (globals held : List ℕ) (clocks : List (Option ℕ)) (k : ℕ) (old new : List Register) (own item : Register) → AreRegisters whole globals held clocks k old → new ≡ old ++ own ∷ [] → renamed_register (in_whole globals clocks) own ≡ item → RegisterBelow (length globals) own → IsClock (length clocks) own.clock → ((other : Register) → get_or whole.registers (value_at held k) other ≡ item) → AreRegisters whole globals held clocks (k + 1) new
AreRegisters-more whole globals held clocks k old new own item before is here below clocked read =
    record {
      counted = ap length is ∙ length_push old own ∙ ap (λ n. n + 1) before.counted;
      each = each-more (renamed_register (in_whole globals clocks)) whole.registers old new held k own item before.counted is here read before.each;
      below = all-more (λ register. RegisterBelow (length globals) register) old new k own before.counted is below before.below;
      clocked = all-more (λ register. IsClock (length clocks) register.clock) old new k own before.counted is clocked before.clocked;
    }

pub AreMemories-more : (whole : FlatCircuit) (globals numbers : List ℕ) (clocks : List (Option ℕ)) (k : ℕ) (old new : List Memory) (own item : Memory) → AreMemories whole globals numbers clocks k old → new ≡ old ++ own ∷ [] → renamed_memory (in_whole globals clocks) own ≡ item → MemoryBelow (length globals) own → IsClockedMemory (length clocks) own → ((other : Memory) → get_or whole.memories (value_at numbers k) other ≡ item) → AreMemories whole globals numbers clocks (k + 1) new
AreMemories-more whole globals numbers clocks k old new own item before is here below clocked read =
    record {
      counted = ap length is ∙ length_push old own ∙ ap (λ n. n + 1) before.counted;
      each = each-more (renamed_memory (in_whole globals clocks)) whole.memories old new numbers k own item before.counted is here read before.each;
      below = all-more (λ memory. MemoryBelow (length globals) memory) old new k own before.counted is below before.below;
      clocked = all-more (λ memory. IsClockedMemory (length clocks) memory) old new k own before.counted is clocked before.clocked;
    }

-- the shape of a signal that was read
pub shape-read : (whole : FlatCircuit) (s : ℕ) (item : Signal) (signals : List Signal) → signals ≡ whole.signals → s < length whole.signals → shape (get_or signals s item).ty ≡ shape_at (signal_shapes whole) s
shape-read whole s item signals same lt = ap (λ l. shape (get_or l s item).ty) same ∙ sym (get_or-map (λ (k : Signal). shape k.ty) whole.signals s item (uint 0) lt)
