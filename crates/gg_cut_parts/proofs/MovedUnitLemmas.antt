-- What a unit has stands again for another unit of its host.
use Rattle.std.proofs.Common.{◌≡◌, ◌≢◌, ℕ, ◌<◌, ◌≤◌, List, length, map, get_or, sym, ◌∙◌, ap, subst, inl, inr, arith}
use Rattle.std.specs.Prelude.{All, AllPairs, Contains}
use Rattle.std.proofs.lemmas.List.{length-map, get_or-map}
use Rattle.std.proofs.lemmas.List.Elements.{Contains-get_or}
use Rattle.gg_flat.specs.declared.memory.Memory.{Memory}
use Rattle.gg_flat.specs.declared.piece.Driver.TheVariants.{Input, Held}
use Rattle.gg_flat.specs.declared.piece.Register.{Register}
use Rattle.gg_flat.specs.Circuit.{driver_at}
use Rattle.gg_flat.specs.Line.{value_at}
use Rattle.gg_flat.proofs.ListLemmas.{some-item, once-apart, Contains-map}
use Rattle.gg_part.specs.Moved.{unclocked_register, unclocked_memory}
use Rattle.gg_part.proofs.MovedLemmas.{register-moved, memory-moved}
use Rattle.gg_order.specs.Design.{Ordered}
use Rattle.gg_part.specs.declared.part.Clocking.{Clocking}
use Rattle.gg_part.specs.declared.part.Part.{Part}
use Rattle.gg_part.specs.Building.{Holds}
use Rattle.gg_part.specs.Part.{IsFrom, in_whole}
use Rattle.gg_cut_plan.specs.declared.listed.Listed.{Listed}
use Rattle.gg_cut_plan.specs.Plan.{channels_to, signals_of, HasMemory}
use Rattle.gg_cut_plan.specs.inside.Plan.{Makes}
use Rattle.gg_cut_split.proofs.ClosedLemmas.ListLemmas.{map-cases, AllPairs-map}
use Rattle.gg_cut_split.specs.inside.Again.{IsUnitAgain, HasSignal, again_at, cut_wires, unit_first}
use Rattle.gg_cut_parts.specs.inside.MovedPart.{HoldAgain, IsUnitPart, IsUnitShare, AreGivens}
use Rattle.gg_flat.specs.Renaming.{numbers_by, renamed_driver, renamed_memory, renamed_register, signals_by}

module _ (design : Ordered) (listed : Listed) (clocking : Clocking) (m n : ℕ) (leader : Part) (again : IsUnitAgain design listed m n) (own_givens : List ℕ) (cut : IsUnitPart design listed clocking m own_givens leader) where
  -- ---- signals

  pub among-has : (s : ℕ) → Contains leader.globals s → HasSignal design listed m s
  among-has s c = (cut.signals s).0 c

  pub behind-first : All (λ s. unit_first design.tree listed m ≤ s) leader.globals
  behind-first k d lt = again.behind (get_or leader.globals k d) (among-has (get_or leader.globals k d) (Contains-get_or leader.globals k d lt))

  -- two signals of a unit don't have one counterpart
  pub counterpart-one : (x y : ℕ) → HasSignal design listed m x → HasSignal design listed m y → again_at design listed m n x ≡ again_at design listed m n y → x ≡ y
  counterpart-one x y a b e =
      let low = again.behind x a in
      let other = again.behind y b in
      omega (arith, low, other, e)

  pub counterparts-once : AllPairs (λ a b. a ≢ b) (map (again_at design listed m n) leader.globals)
  counterparts-once =
      AllPairs-map (λ a b. a ≢ b) (again_at design listed m n) leader.globals
      (λ i j d less lt e.
      cut.is.once i j d less lt
      (counterpart-one (get_or leader.globals i d) (get_or leader.globals j d) (among-has (get_or leader.globals i d) (Contains-get_or leader.globals i d (omega (arith, less, lt)))) (among-has (get_or leader.globals j d) (Contains-get_or leader.globals j d lt)) e))

  -- the unit makes each signal that its part doesn't get from outside
  makes : (s : ℕ) → s < length leader.globals → ((place : ℕ) → driver_at leader.piece s ≢ Input place) → Makes design.circuit design.tree listed (cut_wires design listed) m (value_at leader.globals s)
  makes s lt own = by (among-has (value_at leader.globals s) (Contains-get_or leader.globals s 0 lt))
    where
      by : HasSignal design listed m (value_at leader.globals s) → Makes design.circuit design.tree listed (cut_wires design listed) m (value_at leader.globals s)
      by (inl made) = made
      by (inr taken) =
          let at = map-cases (value_at leader.globals) leader.piece.ins (value_at leader.globals s) (subst (λ (l : List ℕ). Contains l (value_at leader.globals s)) (sym cut.ins) taken) in
          let h = cut.is.ins at.place at.within in
          let same : value_at leader.piece.ins at.place ≡ s = once-apart leader.globals 0 cut.is.once (value_at leader.piece.ins at.place) s h.0 lt (at.holds 0) in
          absurd (own at.place (ap (driver_at leader.piece) (sym same) ∙ h.1))

  -- the counterpart of a signal has the counterpart of its driver, unless the part gets it from outside
  pub counterpart-driver : (s : ℕ) → s < length leader.globals → ((place : ℕ) → driver_at leader.piece s ≢ Input place)
      → driver_at design.circuit (again_at design listed m n (value_at leader.globals s)) ≡ renamed_driver (numbers_by (again_at design listed m n) again.registers again.memories) (driver_at design.circuit (value_at leader.globals s))
  counterpart-driver s lt own = again.driver (value_at leader.globals s) (makes s lt own)

  -- the counterpart of a signal of the part that holds a register holds the register's counterpart
  pub hold-again : HoldAgain design.circuit leader (map (again_at design listed m n) leader.globals) again.registers
  hold-again s k below e =
      let lt : s < length leader.globals = omega (arith, below, length-map leader.globals (again_at design listed m n)) in
      let from = subst (IsFrom leader.piece.ins leader.globals leader.held leader.memories s (driver_at design.circuit (value_at leader.globals s))) e (cut.is.drivers s lt) in
      ap (driver_at design.circuit) (get_or-map (again_at design listed m n) leader.globals s 0 0 lt)
      ∙ counterpart-driver s lt (λ place i. let c : Held k ≡ Input place = sym e ∙ i in cc)
      ∙ ap (renamed_driver (numbers_by (again_at design listed m n) again.registers again.memories)) from.1

  -- ---- registers

  -- a signal that the unit makes holds this register
  pub record IsHeldBy (r : ℕ) : Type 0 where
    pub signal : ℕ
    pub made : Makes design.circuit design.tree listed (cut_wires design listed) m signal
    pub is : driver_at design.circuit signal ≡ Held r

  made-held : (r s : ℕ) → HasSignal design listed m s → Holds design.circuit (signals_of (cut_wires design listed) (channels_to (cut_wires design listed) m)) s r → IsHeldBy r
  made-held r s (inl made) holds = record { signal = s; made = made; is = holds.holds }
  made-held r s (inr taken) holds = absurd (holds.inside taken)

  pub held-by : (r : ℕ) → Contains leader.held r → IsHeldBy r
  held-by r c = let at = cut.held.sound r c in made-held r at.signal (among-has at.signal at.chosen) at.holds

  register-again : (r : ℕ) (any : Register) → r < length leader.held
      → (again.registers (value_at leader.held r) < length design.circuit.registers)
      × (unclocked_register (get_or design.circuit.registers (again.registers (value_at leader.held r)) any) ≡ unclocked_register (renamed_register (signals_by (again_at design listed m n)) (get_or design.circuit.registers (value_at leader.held r) any)))
  register-again r any lt =
      let h = held-by (value_at leader.held r) (Contains-get_or leader.held r 0 lt) in
      again.register h.signal (value_at leader.held r) any h.made h.is

  pub registers-within : All (λ r. r < length design.circuit.registers) (map again.registers leader.held)
  registers-within r d below =
      let lt : r < length leader.held = omega (arith, below, length-map leader.held again.registers) in
      subst (λ (k : ℕ). k < length design.circuit.registers) (sym (get_or-map again.registers leader.held r 0 d lt))
      (register-again r (some-item design.circuit.registers (value_at leader.held r) (cut.is.register_from r lt).within) lt).0

  -- the counterpart of a register is the part's with other numbers, but for its clock
  pub register-there : (r : ℕ) (any other : Register) → r < length leader.held → unclocked_register (get_or design.circuit.registers (again.registers (value_at leader.held r)) other) ≡ unclocked_register (renamed_register (in_whole (map (again_at design listed m n) leader.globals) leader.clocks) (get_or leader.piece.registers r any))
  register-there r any other lt =
      let from = cut.is.register_from r lt in
      (register-again r other lt).1
      ∙ ap (λ (x : Register). unclocked_register (renamed_register (signals_by (again_at design listed m n)) x)) (from.is any other)
      ∙ ap (λ (x : Register). unclocked_register x) (sym (register-moved (again_at design listed m n) leader.globals leader.clocks (get_or leader.piece.registers r any) (from.below any)))

  -- ---- memories

  pub has-memory : (k : ℕ) → k < length leader.memories → HasMemory design.tree listed m (value_at leader.memories k)
  has-memory k lt = (cut.memories (value_at leader.memories k)).0 (Contains-get_or leader.memories k 0 lt)

  pub memories-within : All (λ k. k < length design.circuit.memories) (map again.memories leader.memories)
  memories-within k d below =
      let lt : k < length leader.memories = omega (arith, below, length-map leader.memories again.memories) in
      subst (λ (j : ℕ). j < length design.circuit.memories) (sym (get_or-map again.memories leader.memories k 0 d lt))
      (again.memory (value_at leader.memories k) (some-item design.circuit.memories (value_at leader.memories k) (cut.is.memory_from k lt).within) (has-memory k lt)).0

  -- the counterpart of a memory is the part's with other numbers, but for its clocks
  pub memory-there : (k : ℕ) (any other : Memory) → k < length leader.memories → unclocked_memory (get_or design.circuit.memories (again.memories (value_at leader.memories k)) other) ≡ unclocked_memory (renamed_memory (in_whole (map (again_at design listed m n) leader.globals) leader.clocks) (get_or leader.piece.memories k any))
  memory-there k any other lt =
      let from = cut.is.memory_from k lt in
      (again.memory (value_at leader.memories k) other (has-memory k lt)).1
      ∙ ap (λ (x : Memory). unclocked_memory (renamed_memory (signals_by (again_at design listed m n)) x)) (from.is any other)
      ∙ ap (λ (x : Memory). unclocked_memory x) (sym (memory-moved (again_at design listed m n) leader.globals leader.clocks (get_or leader.piece.memories k any) (from.below any)))

  -- ---- with the share of the other unit

  module _ (signals banks : List ℕ) (share : IsUnitShare design listed n signals banks) where
    signal-known : (t : ℕ) → HasSignal design listed n t → t < length design.circuit.signals
    signal-known t h =
        let c = (share.signals t).1 h in
        subst (λ (k : ℕ). k < length design.circuit.signals) c.2 (share.within c.0 t c.1)

    pub counterparts-within : All (λ s. s < length design.circuit.signals) (map (again_at design listed m n) leader.globals)
    counterparts-within s d below =
        let lt : s < length leader.globals = omega (arith, below, length-map leader.globals (again_at design listed m n)) in
        subst (λ (k : ℕ). k < length design.circuit.signals) (sym (get_or-map (again_at design listed m n) leader.globals s 0 d lt))
        (signal-known (again_at design listed m n (value_at leader.globals s)) (again.has (value_at leader.globals s) (among-has (value_at leader.globals s) (Contains-get_or leader.globals s 0 lt))))

    -- each signal of the other unit is the counterpart of one of the part's
    pub counterpart-of : (t : ℕ) → HasSignal design listed n t → Contains (map (again_at design listed m n) leader.globals) t
    counterpart-of t h =
        let s = again.back t h in
        subst (Contains (map (again_at design listed m n) leader.globals)) s.2
        (Contains-map (again_at design listed m n) leader.globals s.0 ((cut.signals s.0).1 s.1))

    pub givens-known : (givens : List ℕ) → AreGivens design listed n givens → All (λ s. Contains (map (again_at design listed m n) leader.globals) s) givens
    givens-known givens are k d lt =
        let t = get_or givens k d in
        counterpart-of t (inl (inr ((are t).0 (Contains-get_or givens k d lt))))

    pub banks-again : AllPairs (λ a b. a < b) leader.memories → banks ≡ map again.memories leader.memories
    banks-again ascend = again.banks leader.memories banks ascend share.ascend cut.memories share.banks
