-- Every choice of a circuit's signals and memories has a part.
use Rattle.std.proofs.Common.{◌≡◌, ℕ, suc, ◌<◌, List, [], ◌∷◌, ◌++◌, false, if◌then◌else◌, length, map, get_or, refl, sym, ◌∙◌, ap, subst, inl, inr, ◌⊎◌, arith}
use Rattle.std.specs.Prelude.{All, Contains, Option, None}
use Rattle.std.proofs.lemmas.Bool.{cond-false, cond-true, false_from_ne_true}
use Rattle.std.proofs.lemmas.List.{get_or-map, get_or_default, length-map, same_lists, take_all}
use Rattle.std.proofs.lemmas.List.Elements.{Contains-append_cases, Contains-append_left, Contains-append_right, Contains-get_or}
use Rattle.std.proofs.lemmas.Option.{slice_get-get_or}
use Rattle.gg_bits.specs.Shape.{shape, uint}
use Rattle.gg_flat.specs.declared.memory.Memory.{Memory}
use Rattle.gg_flat.specs.declared.piece.Driver.{Driver}
use Rattle.gg_flat.specs.declared.piece.Driver.TheVariants.{Input, Held, MemoryWord, ReadRegister, Computed}
use Rattle.gg_flat.specs.declared.piece.Register.{Register}
use Rattle.gg_flat.specs.declared.piece.Signal.{Signal}
use Rattle.gg_flat.specs.Circuit.{FlatCircuit, driver_at, signal_shapes}
use Rattle.gg_flat.specs.Line.{shape_at, value_at}
use Rattle.gg_flat.specs.Reads.{NamesSignal, RegisterNames}
use Rattle.gg_flat_tree.specs.Scoped.{memory_fields}
use Rattle.gg_flat_tree.specs.Tree.{path_at}
use Rattle.gg_flat.specs.WellFormed.{IsClock, IsClockedMemory, IsWellFormed}
use Rattle.gg_flat.proofs.ListLemmas.{Contains-cases, further, here, some-item}
use Rattle.gg_part.specs.Building.{AreHeld, Holds, IsHeldIn}
use Rattle.gg_part.specs.inside.Building.{AreMemories, AreRegisters, AreSignals, IsDriven}
use Rattle.gg_part.specs.inside.Choice.{IsChoice, NamesMemory}
use Rattle.gg_part.specs.inside.Clocking.{AreTimed, IsTimed, LeadsTo, PortsFollow, clocks_of_ports}
use Rattle.gg_part.specs.Part.{IsFrom, IsPart, MemoryBelow, in_whole}
use Rattle.gg_flat.specs.Renaming.{Renaming, renamed_driver, renamed_memory, renamed_register}
use Rattle.gg_part.specs.inside.Local.{own_by, own_memory}
use Rattle.gg_part.proofs.BackLemmas as back
use Rattle.gg_part.proofs.BackLemmas.{LeadsBack, register-back, register-below}
use Rattle.gg_part.proofs.LocalLemmas.{memory-renamed, memory-below, memory-clocked, memory-follows}
use Rattle.gg_part.proofs.FrameLemmas.{held-within, reader-fields, register-closed, writer-fields}
use Rattle.gg_part.proofs.PartLemmas.{IsChoice-frame, IsPart-made}
use Rattle.gg_cut.proofs.ExistenceLemmas.FilledLemmas.{IsFilled, Something, filled, has, has-cases, contains-has, has-contains, place_in, placed}

-- ---- the registers that signals hold

abbrev pub held_by : Driver → List ℕ
held_by (Input place) = []
held_by (Held register) = register ∷ []
held_by (MemoryWord memory reader addr en) = []
held_by (ReadRegister memory reader) = []
held_by (Computed line) = []

-- that of a signal that doesn't come from outside
abbrev pub held_at : FlatCircuit → List ℕ → ℕ → List ℕ
held_at whole ins s = if has ins s then [] else held_by (driver_at whole s)

abbrev pub held_in : FlatCircuit → List ℕ → List ℕ → List ℕ
held_in whole ins [] = []
held_in whole ins (s ∷ globals) = held_at whole ins s ++ held_in whole ins globals

by-driver : (driver : Driver) (r : ℕ) → Contains (held_by driver) r → driver ≡ Held r
by-driver (Input place) r c = absurd (let lt = c.1 in omega (arith, lt))
by-driver (Held register) r c = one (Contains-cases register r [] c)
  where
    one : (register ≡ r) ⊎ Contains [] r → Held register ≡ Held r
    one (inl same) = ap Held same
    one (inr none) = absurd (let lt = none.1 in omega (arith, lt))
by-driver (MemoryWord memory reader addr en) r c = absurd (let lt = c.1 in omega (arith, lt))
by-driver (ReadRegister memory reader) r c = absurd (let lt = c.1 in omega (arith, lt))
by-driver (Computed line) r c = absurd (let lt = c.1 in omega (arith, lt))

module _ (whole : FlatCircuit) (ins : List ℕ) where
  -- a signal that isn't among them
  off : (s : ℕ) → (Contains ins s → ⊥) → has ins s ≡ false
  off s outside = false_from_ne_true (has ins s) (λ e. outside (has-contains ins s e))

  at-held : (s r : ℕ) → Contains (held_at whole ins s) r → Holds whole ins s r
  at-held s r c = by (has-cases ins s)
    where
      by : Contains ins s ⊎ (Contains ins s → ⊥) → Holds whole ins s r
      by (inl inside) =
          let none = subst (λ (l : List ℕ). Contains l r) (cond-true (has ins s) [] (held_by (driver_at whole s)) (contains-has ins s inside)) c in
          absurd (let lt = none.1 in omega (arith, lt))
      by (inr outside) =
          record {
            inside = outside;
            holds = by-driver (driver_at whole s) r (subst (λ (l : List ℕ). Contains l r) (cond-false (has ins s) [] (held_by (driver_at whole s)) (off s outside)) c);
          }

  held-at : (s r : ℕ) → Holds whole ins s r → Contains (held_at whole ins s) r
  held-at s r holds =
      subst (λ (l : List ℕ). Contains l r) (sym (cond-false (has ins s) [] (held_by (driver_at whole s)) (off s holds.inside)))
      (subst (λ (d : Driver). Contains (held_by d) r) (sym holds.holds) (here r []))

  held-every : (globals : List ℕ) (s r : ℕ) → Contains globals s → Holds whole ins s r → Contains (held_in whole ins globals) r
  held-every [] s r among holds = absurd (let lt = among.1 in omega (arith, lt))
  held-every (x ∷ globals) s r among holds = by (Contains-cases x s globals among) (λ later. held-every globals s r later holds)
    where
      by : (x ≡ s) ⊎ Contains globals s → (Contains globals s → Contains (held_in whole ins globals) r) → Contains (held_at whole ins x ++ held_in whole ins globals) r
      by (inl same) rest = Contains-append_left (held_at whole ins x) (held_in whole ins globals) r (subst (λ t. Contains (held_at whole ins t) r) (sym same) (held-at s r holds))
      by (inr later) rest = Contains-append_right (held_at whole ins x) (held_in whole ins globals) r (rest later)

  held-sound : (globals : List ℕ) (r : ℕ) → Contains (held_in whole ins globals) r → IsHeldIn whole globals ins r
  held-sound [] r c = absurd (let lt = c.1 in omega (arith, lt))
  held-sound (x ∷ globals) r c = by (Contains-append_cases (held_at whole ins x) (held_in whole ins globals) r c) (λ later. held-sound globals r later)
    where
      by : Contains (held_at whole ins x) r ⊎ Contains (held_in whole ins globals) r → (Contains (held_in whole ins globals) r → IsHeldIn whole globals ins r) → IsHeldIn whole (x ∷ globals) ins r
      by (inl first) rest = record { signal = x; chosen = here x globals; holds = at-held x r first }
      by (inr later) rest = let at = rest later in record { signal = at.signal; chosen = further x globals at.signal at.chosen; holds = at.holds }

  pub held-are : (globals : List ℕ) → AreHeld whole globals ins (held_in whole ins globals)
  held-are globals = record { every = held-every globals; sound = held-sound globals }

-- ---- drivers

-- the place of a number leads back from it
pub leads-back : (globals : List ℕ) → LeadsBack globals (place_in globals)
leads-back globals = record { found = λ s among. (placed globals s among).found; within = λ s among. (placed globals s among).within }

-- the numbers of the part
abbrev pub by_places : (globals held memories : List ℕ) → Renaming
by_places globals held memories = record { signals = place_in globals; registers = place_in held; memories = place_in memories; clocks = λ clock. None }

-- a part of a circuit, beside its signals and memories
pub record HasPart (whole : FlatCircuit) (globals ins outs memories : List ℕ) (clocks registers : List (Option ℕ)) (ports : List (List (Option ℕ))) : Type 0 where
  pub piece : FlatCircuit
  pub held : List ℕ
  pub is : IsPart whole piece globals held memories clocks
  pub taken : map (value_at globals) piece.ins ≡ ins
  pub given : map (value_at globals) piece.outs ≡ outs
  pub are : AreHeld whole globals ins held
  pub timed : IsTimed piece held memories registers ports

-- what is placed stands there again
pub placed-again : (globals xs : List ℕ) → All (λ s. Contains globals s) xs → map (value_at globals) (map (place_in globals) xs) ≡ xs
placed-again globals [] among = refl
placed-again globals (x ∷ xs) among =
    let make : ℕ → List ℕ → List ℕ = λ y l. y ∷ l in
    ap (λ y. make y (map (value_at globals) (map (place_in globals) xs))) (placed globals x (among 0 0 (omega arith))).found
    ∙ ap (make x) (placed-again globals xs (λ k d lt. among (suc k) d (omega (arith, lt))))

pub placed-below : (globals xs : List ℕ) → All (λ s. Contains globals s) xs → All (λ s. s < length globals) (map (place_in globals) xs)
placed-below globals xs among = λ k d lt.
    let known : k < length xs = omega (arith, lt, length-map xs (place_in globals)) in
    subst (λ s. s < length globals) (sym (get_or-map (place_in globals) xs k 0 d known)) (placed globals (get_or xs k 0) (among k 0 known)).within

module _ (whole : FlatCircuit) (globals ins outs memories : List ℕ) (clocks registers : List (Option ℕ)) (ports : List (List (Option ℕ))) (formed : IsWellFormed whole) (choice : IsChoice whole globals ins outs memories) (timed : AreTimed whole globals ins memories clocks registers ports) where
  abbrev chosen : IsChoice whole globals ins [] memories
  chosen = IsChoice-frame whole globals ins outs memories globals ins memories refl refl refl choice

  abbrev own_held : List ℕ
  own_held = held_in whole ins globals

  abbrev are_held : AreHeld whole globals ins own_held
  are_held = held-are whole ins globals

  driver-from : (s : ℕ) (driver : Driver) → Contains globals s → ¬ Contains ins s → driver_at whole s ≡ driver → IsFrom ins globals own_held memories s driver (renamed_driver (by_places globals own_held memories) driver)
  driver-from s driver among outside is =
      back.driver-from globals own_held memories (place_in globals) (place_in own_held) (place_in memories) (leads-back globals) (leads-back own_held) (leads-back memories) ins s None driver
      (λ place e. outside (choice.given s place (is ∙ e) among))
      (λ t n. choice.closed s t among outside (subst (λ (d : Driver). NamesSignal d t) (sym is) n))
      (λ r e. are_held.every s r among (record { inside = outside; holds = is ∙ e }))
      (λ m n. choice.banks s m among outside (subst (λ (d : Driver). NamesMemory d m) (sym is) n))

  -- what stands for the signal at a place
  abbrev StandsFor : ℕ → Signal → Type 0
  StandsFor k signal = (shape signal.ty ≡ shape_at (signal_shapes whole) (value_at globals k)) × IsDriven whole globals ins own_held memories (value_at globals k) signal.driver

  signal-for : (k : ℕ) (item : Signal) → Contains globals (value_at globals k) → shape item.ty ≡ shape_at (signal_shapes whole) (value_at globals k) → Contains ins (value_at globals k) ⊎ (Contains ins (value_at globals k) → ⊥) → Something StandsFor k
  signal-for k item among typed (inl inside) =
      let at = placed ins (value_at globals k) inside in
      record { it = record { ty = item.ty; driver = Input (place_in ins (value_at globals k)) }; is = (typed, record { from = (at.within, at.found); given = λ c. (place_in ins (value_at globals k), refl) }) }
  signal-for k item among typed (inr outside) =
      record {
        it = record { ty = item.ty; driver = renamed_driver (by_places globals own_held memories) (driver_at whole (value_at globals k)) };
        is = (typed, record { from = driver-from (value_at globals k) (driver_at whole (value_at globals k)) among outside refl; given = λ c. absurd (outside c) });
      }

  signal-there : (k : ℕ) → k < length globals → Something StandsFor k
  signal-there k lt =
      let s = value_at globals k in
      let known = choice.within k 0 lt in
      let any = some-item whole.signals s known in
      signal-for k (get_or whole.signals s any) (Contains-get_or globals k 0 lt) (sym (get_or-map (λ (x : Signal). shape x.ty) whole.signals s any (uint 0) known)) (has-cases ins s)

  abbrev RegisterFor : ℕ → Register → Type 0
  RegisterFor k register =
      ((other : Register) → get_or whole.registers (value_at own_held k) other ≡ renamed_register (in_whole globals clocks) register)
      × ((t : ℕ) → RegisterNames register t → t < length globals)
      × IsClock (length clocks) register.clock
      × (register.clock ≡ get_or registers (value_at own_held k) None)

  register-there : (k : ℕ) → k < length own_held → Something RegisterFor k
  register-there k lt =
      let r = value_at own_held k in
      let among = Contains-get_or own_held k 0 lt in
      let known = held-within whole globals ins own_held formed choice.within are_held k 0 lt in
      let any = some-item whole.registers r known in
      let item = get_or whole.registers r any in
      let leads = timed.register r any (are_held.sound r among) in
      let closed : (t : ℕ) → RegisterNames item t → Contains globals t = λ t n. register-closed whole globals ins own_held memories chosen are_held r t item among (slice_get-get_or whole.registers r any known) n in
      record {
        it = renamed_register (own_by (place_in globals) (get_or registers r None)) item;
        is = (
          λ other. get_or_default whole.registers r other any known ∙ sym (register-back globals (place_in globals) (leads-back globals) clocks (get_or registers r None) item closed leads.leads),
          register-below globals (place_in globals) (leads-back globals) (get_or registers r None) item closed,
          leads.known,
          refl,
        );
      }

  abbrev MemoryFor : ℕ → Memory → Type 0
  MemoryFor k memory =
      ((other : Memory) → get_or whole.memories (value_at memories k) other ≡ renamed_memory (in_whole globals clocks) memory)
      × MemoryBelow (length globals) memory
      × IsClockedMemory (length clocks) memory
      × PortsFollow (get_or ports (value_at memories k) []) memory

  memory-there : (k : ℕ) → k < length memories → Something MemoryFor k
  memory-there k lt =
      let m = value_at memories k in
      let among = Contains-get_or memories k 0 lt in
      let known = choice.memory_within k 0 lt in
      let any = some-item whole.memories m known in
      let item : Memory = get_or whole.memories m any in
      let own = get_or ports m [] in
      let fields : (s : ℕ) → Contains (memory_fields whole m) s → Contains globals s = λ s c. choice.fields m s among c in
      let read : item ≡ get_or whole.memories m item = get_or_default whole.memories m any item known in
      let reads = reader-fields whole globals m item known read fields in
      let writes = writer-fields whole globals m item known read fields in
      let leads : (p : ℕ) → p < length (clocks_of_ports item) → LeadsTo clocks (get_or (clocks_of_ports item) p None) (get_or own p None) = λ p inside. timed.port m p any among inside in
      record {
        it = own_memory (place_in globals) own item;
        is = (
          λ other. get_or_default whole.memories m other any known ∙ sym (memory-renamed globals (place_in globals) (leads-back globals) clocks own item reads writes leads),
          memory-below globals (place_in globals) (leads-back globals) clocks own item reads writes leads,
          memory-clocked globals (place_in globals) (leads-back globals) clocks own item reads writes leads,
          memory-follows globals (place_in globals) (leads-back globals) clocks own item reads writes leads,
        );
      }

  -- all of a kind
  module _ (signals : IsFilled StandsFor (length globals)) (own_registers : IsFilled RegisterFor (length own_held)) (own_memories : IsFilled MemoryFor (length memories)) where
    abbrev built : FlatCircuit
    built =
        record {
          paths = map (path_at whole.paths) globals;
          signals = signals.items;
          registers = own_registers.items;
          memories = own_memories.items;
          ins = map (place_in globals) ins;
          outs = map (place_in globals) outs;
          clocks = length clocks;
        }

    signals-are : AreSignals whole globals ins own_held memories (length globals) built
    signals-are =
        record {
          counted = signals.many;
          paths = sym (ap (map (path_at whole.paths)) (take_all (length globals) globals (omega arith)));
          types =
              same_lists (map (λ (x : Signal). shape x.ty) signals.items) (map (shape_at (signal_shapes whole)) globals)
              (length-map signals.items (λ (x : Signal). shape x.ty) ∙ signals.many ∙ sym (length-map globals (shape_at (signal_shapes whole))))
              (λ k d lt.
              let known : k < length signals.items = omega (arith, lt, length-map signals.items (λ (x : Signal). shape x.ty)) in
              let low : k < length globals = omega (arith, known, signals.many) in
              let any = some-item signals.items k known in
              get_or-map (λ (x : Signal). shape x.ty) signals.items k any d known ∙ (signals.each k any low).0 ∙ sym (get_or-map (shape_at (signal_shapes whole)) globals k 0 d low))
              ∙ sym (ap (map (shape_at (signal_shapes whole))) (take_all (length globals) globals (omega arith)));
          drivers = λ k lt.
              let known : k < length signals.items = omega (arith, lt, signals.many) in
              let any = some-item signals.items k known in
              subst (IsDriven whole globals ins own_held memories (value_at globals k)) (sym (get_or-map (λ (x : Signal). x.driver) signals.items k any (Input 0) known)) (signals.each k any lt).1;
        }

    registers-are : AreRegisters whole globals own_held clocks (length own_held) own_registers.items
    registers-are =
        record {
          counted = own_registers.many;
          each = λ r any other lt. (own_registers.each r any lt).0 other;
          below = λ r any lt. (own_registers.each r any lt).1;
          clocked = λ r any lt. (own_registers.each r any lt).2;
        }

    memories-are : AreMemories whole globals memories clocks (length memories) own_memories.items
    memories-are =
        record {
          counted = own_memories.many;
          each = λ m any other lt. (own_memories.each m any lt).0 other;
          below = λ m any lt. (own_memories.each m any lt).1;
          clocked = λ m any lt. (own_memories.each m any lt).2;
        }

    part-of : HasPart whole globals ins outs memories clocks registers ports
    part-of =
        record {
          piece = built;
          held = own_held;
          is = IsPart-made whole built globals ins own_held memories clocks formed chosen are_held signals-are registers-are memories-are (placed-again globals ins choice.ins) (placed-below globals ins choice.ins) (placed-below globals outs choice.outs) refl;
          taken = placed-again globals ins choice.ins;
          given = placed-again globals outs choice.outs;
          are = are_held;
          timed = record { register = λ r any lt. (own_registers.each r any lt).3; port = λ m any lt. (own_memories.each m any lt).3 };
        }

  pub part-there : HasPart whole globals ins outs memories clocks registers ports
  part-there = part-of (filled StandsFor (length globals) signal-there) (filled RegisterFor (length own_held) register-there) (filled MemoryFor (length memories) memory-there)
