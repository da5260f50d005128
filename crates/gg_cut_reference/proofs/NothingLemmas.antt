-- Where nothing is piped, the reference circuit is the circuit.
use Rattle.std.proofs.Common.{◌≡◌, ℕ, suc, List, [], ◌∷◌, ◌++◌, Bool, true, false, length, map, refl, ◌∙◌, ap, ap₂}
use Rattle.std.specs.Prelude.{◌&&◌, ◌==◌, if◌then◌else◌, cond, filter}
use Rattle.std.specs.List.{list_any, range_with_len}
use Rattle.std.proofs.lemmas.List.{append-nil, map-id}
use Rattle.gg_flat.specs.declared.memory.Memory.{Memory}
use Rattle.gg_flat.specs.declared.piece.Signal.{Signal}
use Rattle.gg_flat.specs.declared.piece.Register.{Register}
use Rattle.gg_flat.specs.declared.piece.Driver.{Driver}
use Rattle.gg_flat.specs.Circuit.{FlatCircuit}
use Rattle.gg_flat.proofs.ListLemmas.{map-same}
use Rattle.gg_flat_tree.specs.Tree.{path_at}
use Rattle.gg_order.specs.Design.{Ordered}
use Rattle.gg_partfile.specs.declared.request.Request.{Request}
use Rattle.gg_cut_plan.specs.Listed.{first_place, is_among, listed_of}
use Rattle.gg_cut_plan.specs.declared.wires.Wire.{Wire}
use Rattle.gg_cut_plan.specs.Direct.{Hub, routes, plan_hub}
use Rattle.gg_flat.specs.Renaming.{signals_by, renamed_driver, renamed_memory, renamed_register}
use Rattle.gg_flat.specs.inside.Renaming.{same_numbers}
use Rattle.gg_flat.proofs.RenamedLaws as things
use Rattle.gg_cut_reference.specs.Reference.{Views}
use Rattle.gg_cut_reference.specs.Links.{is_carried, pipes_of, taken_as, seen_by, views_of}
use Rattle.gg_cut_reference.specs.Made.{seen_signal, reference_of, reference, holder_of, keeper_of, plan_reference}
use Rattle.gg_bits.specs.Lists.{number_or, by_number}

-- a function that changes nothing leaves a list as it is
all-same : {A : Type 0} (f : A → A) → ((x : A) → f x ≡ x) → (xs : List A) → map f xs ≡ xs
all-same f same xs = map-same f (λ x. x) xs same ∙ map-id xs

numbers-same : {A : Type 0} (f : ℕ → A → A) → ((n : ℕ) (x : A) → f n x ≡ x) → (n : ℕ) (xs : List A) → by_number f n xs ≡ xs
numbers-same f same n [] = refl
numbers-same f same n (x ∷ xs) = ap₂ (λ y ys. y ∷ ys) (same n x) (numbers-same f same (suc n) xs)

-- ---- names that are the same

module _ (to : ℕ → ℕ) (same : (s : ℕ) → to s ≡ s) where
  register-same : (register : Register) → renamed_register (signals_by to) register ≡ register
  register-same register = things.register-agree (signals_by to) same_numbers register (λ s named. same s) refl ∙ things.register-same register

  memory-same : (memory : Memory) → renamed_memory (signals_by to) memory ≡ memory
  memory-same memory =
      things.memory-agree (signals_by to) same_numbers memory
      (things.memory-each (things.AgreeAt (signals_by to) same_numbers) memory same) (things.follows-each (things.AgreeOn (signals_by to) same_numbers) memory (λ clock. refl))
      ∙ things.memory-same memory

  driver-same : (driver : Driver) → renamed_driver (signals_by to) driver ≡ driver
  driver-same driver = things.driver-agree (signals_by to) same_numbers driver (λ s named. same s) (λ r named. refl) (λ m named. refl) ∙ things.driver-same driver

-- ---- the circuit

same-circuit : (circuit : FlatCircuit) (views : Views) → ((m s : ℕ) → views.seen m s ≡ s) → ((s : ℕ) → views.kept s ≡ s) → reference_of circuit views [] ≡ circuit
same-circuit circuit views seen kept =
    ap₂ (λ signals registers. let all : FlatCircuit = record { paths = circuit.paths ++ []; signals = signals; registers = registers; memories = by_number (λ m memory. renamed_memory (signals_by (views.seen (views.keeper m))) memory) 0 circuit.memories; ins = circuit.ins; outs = map views.kept circuit.outs; clocks = circuit.clocks } in all)
    (append-nil (by_number (seen_signal views) 0 circuit.signals) ∙ numbers-same (seen_signal views) signal-same 0 circuit.signals)
    (append-nil (by_number (λ r register. renamed_register (signals_by (views.seen (views.holder r))) register) 0 circuit.registers) ∙ numbers-same (λ r register. renamed_register (signals_by (views.seen (views.holder r))) register) (λ r register. register-same (views.seen (views.holder r)) (seen (views.holder r)) register) 0 circuit.registers)
    ∙ ap₂ (λ paths memories. let all : FlatCircuit = record { paths = paths; signals = circuit.signals; registers = circuit.registers; memories = memories; ins = circuit.ins; outs = map views.kept circuit.outs; clocks = circuit.clocks } in all)
    (append-nil circuit.paths)
    (numbers-same (λ m memory. renamed_memory (signals_by (views.seen (views.keeper m))) memory) (λ m memory. memory-same (views.seen (views.keeper m)) (seen (views.keeper m)) memory) 0 circuit.memories)
    ∙ ap (λ outs. let all : FlatCircuit = record circuit { outs = outs } in all) (all-same views.kept kept circuit.outs)
  where
    signal-same : (s : ℕ) (own : Signal) → seen_signal views s own ≡ own
    signal-same s own = ap (λ driver. let one : Signal = record { ty = own.ty; driver = driver } in one) (driver-same (views.seen (views.maker s)) (seen (views.maker s)) own.driver)

module _ (hub : Hub) (holder keeper : ℕ → ℕ) (none : pipes_of hub ≡ []) where
  pub taken-same : (s : ℕ) → taken_as hub s ≡ s
  taken-same s = ap (λ pipes. number_or count s (first_place (λ p. p == s) pipes)) none
    where
      count : ℕ
      count = length hub.circuit.signals

  seen-same : (m s : ℕ) → seen_by hub m s ≡ s
  seen-same m s = by (list_any (λ (r : Wire). (r.consumer == m) && (r.signal == s)) (routes hub))
    where
      by : (b : Bool) → (if b then taken_as hub s else s) ≡ s
      by true = taken-same s
      by false = refl

  pub nothing-piped : reference hub holder keeper ≡ hub.circuit
  nothing-piped =
      ap (λ pipes. reference_of hub.circuit (views_of hub holder keeper) pipes) none
      ∙ same-circuit hub.circuit (views_of hub holder keeper) seen-same taken-same

-- ---- a request that asks for no pipe

pub filter-none : {A : Type 0} (test : A → Bool) → ((x : A) → test x ≡ false) → (xs : List A) → filter test xs ≡ []
filter-none test none [] = refl
filter-none test none (x ∷ xs) = ap (λ b. cond b (x ∷ filter test xs) (filter test xs)) (none x) ∙ filter-none test none xs

-- where no signal is to be piped, there are no pipes
no-pipes : (hub : Hub) → ((s : ℕ) → hub.piped s ≡ false) → pipes_of hub ≡ []
no-pipes hub none = filter-none (λ s. hub.piped s && is_carried hub s) (λ s. ap (λ b. b && is_carried hub s) (none s)) (range_with_len 0 (length hub.circuit.signals))

module _ (design : Ordered) (request : Request) (none : request.pipe ≡ []) where
  nothing-asked : pipes_of (plan_hub design.circuit design.tree request) ≡ []
  nothing-asked = no-pipes (plan_hub design.circuit design.tree request) (λ s. ap (λ names. is_among names (path_at design.circuit.paths s)) none)

  -- each signal is taken as itself
  pub plan-taken-same : (s : ℕ) → taken_as (plan_hub design.circuit design.tree request) s ≡ s
  plan-taken-same s = let hub = plan_hub design.circuit design.tree request in taken-same hub (holder_of hub) (keeper_of design.tree (listed_of design.tree request)) nothing-asked s

  pub plan-plain : plan_reference design request ≡ design.circuit
  plan-plain = let hub = plan_hub design.circuit design.tree request in nothing-piped hub (holder_of hub) (keeper_of design.tree (listed_of design.tree request)) nothing-asked
