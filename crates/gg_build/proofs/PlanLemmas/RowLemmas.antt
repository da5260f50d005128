-- The rows of the circuit that the network computes: the reference circuit's signals have in them what they have in the reference circuit's
-- own rows, and each machine's rows are found in them.
use Rattle.std.proofs.Common.{◌≡◌, ℕ, zero, suc, ◌+◌, ◌-◌, ◌<◌, ◌≤◌, List, [], ◌∷◌, Option, None, Some, length, map, take, get_or, refl, sym, ◌∙◌, ap, ap₂, arith}
use Rattle.std.specs.Prelude.{◌==◌, sum, sum_by}
use Rattle.std.proofs.lemmas.List.Sums.{sum-map, sum_by-cons, sum_by_more}
use Rattle.std.specs.List.{range_with_len}
use Rattle.std.proofs.lemmas.List.{length-map}
use Rattle.std.proofs.lemmas.List.FromFn.{length-range_with_len, get_or-range_with_len}
use Rattle.std.proofs.lemmas.Grind.{same_number_lists}
use Rattle.std.proofs.lemmas.List.{get_or-map}
use Rattle.gg_flat.specs.Circuit.{FlatCircuit}
use Rattle.gg_flat.specs.Line.{value_at}
use Rattle.gg_flat.specs.Run.{column, row_at}
use Rattle.gg_part.specs.PartRun.{part_rows}
use Rattle.gg_partfile.specs.declared.request.BridgeEntry.{BridgeEntry}
use Rattle.gg_cut_plan.specs.declared.plan.Body.{Body}
use Rattle.gg_cut_plan.specs.declared.plan.Body.TheVariants.{Cut, Memory, Source, Tray, Bridge}
use Rattle.gg_cut_plan.specs.declared.plan.Channel.{Channel}
use Rattle.gg_cut_plan.specs.declared.plan.Machine as planned
use Rattle.gg_cut_plan.specs.Bridges.{model_of}
use Rattle.gg_cut_plan.specs.Listed.{first_place}
use Rattle.gg_cut_plan.specs.Plan.{entry_at}
use Rattle.gg_cut_plan.specs.Ports.{first_bridge}
use Rattle.gg_cut_plan.proofs.PathLemmas.{first_place-Some}
use Rattle.gg_cut_reference.proofs.FittingLemmas.OpenLemmas.{ins-count}
use Rattle.gg_cut_reference.specs.Links.{pipes_of, taken_as}
use Rattle.gg_bits.specs.Lists.{number_or}
use Rattle.gg_cut_reference.specs.Made.{plan_reference}
use Rattle.gg_cut_reference.proofs.PlanLemmas.{plan-made}
use Rattle.gg_net.specs.Kept.{rows_at}
use Rattle.gg_net.proofs.StateLemmas.{column-at}
use Rattle.gg_build.specs.plan.Built.{body_rows, nameless, own_signals, rows_from}
use Rattle.gg_build.specs.inside.Given.{Given, IsBodyAt, cut_of}
use Rattle.gg_build.proofs.PlanLemmas.BridgeLemmas.{entry-model}
use Rattle.gg_build.proofs.PlanLemmas.GivenLemmas.{body-at, no-fault}
use Rattle.gg_build.proofs.PlanLemmas.ShownLemmas.{column-shown, rows-twice}

-- ---- the first signals of rows

module _ (count : ℕ) (rows : List (List ℕ)) where
  -- the rows of the first signals
  abbrev front : List (List ℕ)
  front = part_rows (range_with_len 0 count) rows

  long : length (range_with_len 0 count) ≡ count
  long = length-range_with_len 0 count

  number : (s : ℕ) → s < count → value_at (range_with_len 0 count) s ≡ s
  number s lt = get_or-range_with_len 0 count s 0 lt ∙ (let same : 0 + s ≡ s = omega arith in same)

  pub front-column : (s : ℕ) → s < count → column rows s ≡ column (part_rows (range_with_len 0 count) rows) s
  front-column s lt = ap (column rows) (sym (number s lt)) ∙ column-shown (range_with_len 0 count) rows s (omega (arith, lt, long))

  pub front-value : (t s : ℕ) → s < count → value_at (row_at rows t) s ≡ value_at (row_at (part_rows (range_with_len 0 count) rows) t) s
  front-value t s lt = sym (column-at rows s t) ∙ ap (λ (l : List ℕ). value_at l t) (front-column s lt) ∙ column-at (part_rows (range_with_len 0 count) rows) s t

  pub front-rows : (own : List ℕ) → ((k : ℕ) → k < length own → value_at own k < count) → part_rows own rows ≡ part_rows own (part_rows (range_with_len 0 count) rows)
  front-rows own below =
      let numbers = length-map own (value_at (range_with_len 0 count)) in
      let same : map (value_at (range_with_len 0 count)) own ≡ own =
      same_number_lists (map (value_at (range_with_len 0 count)) own) own numbers (λ k lt.
      let low : k < length own = omega (arith, lt, numbers) in
      get_or-map (value_at (range_with_len 0 count)) own k 0 0 low ∙ number (value_at own k) (below k low)) in
      ap (λ (l : List ℕ). part_rows l rows) (sym same) ∙ rows-twice (range_with_len 0 count) own rows (λ k lt. let low = below k lt in omega (arith, low, long))

-- ---- sums

sum-next : {A : Type 0} (f : A → ℕ) (xs : List A) (k : ℕ) (any : A) → k < length xs → sum (map f (take (suc k) xs)) ≡ sum (map f (take k xs)) + f (get_or xs k any)
sum-next f xs k any lt =
    let next : sum_by f (take (k + 1) xs) ≡ sum_by f (take k xs) + f (get_or xs k any) = sum_by_more f xs k any lt in
    sum-map f (take (suc k) xs) ∙ ap (λ n. sum_by f (take n xs)) (let same : suc k ≡ k + 1 = omega arith in same) ∙ next ∙ ap (λ n. n + f (get_or xs k any)) (sym (sum-map f (take k xs)))

pub sum-first : {A : Type 0} (f : A → ℕ) (x : A) (xs : List A) → sum (map f (x ∷ xs)) ≡ f x + sum (map f xs)
sum-first f x xs = sum-map f (x ∷ xs) ∙ sum_by-cons f x xs ∙ ap (λ n. f x + n) (sym (sum-map f xs))

-- ---- the rows of machines

-- how many signals the models of these machines have
abbrev pub models_in : List planned.Machine → ℕ
models_in machines = sum (map (λ machine. own_signals machine.body) machines)

-- the rows of a machine by its number
pub rows-at : (seen : ℕ → ℕ → ℕ) (a behind : ℕ) (machines : List planned.Machine) (rows : List (List ℕ)) (m : ℕ) → m < length machines
    → rows_at (rows_from seen a behind machines rows) m ≡ body_rows (seen (a + m)) (behind + models_in (take m machines)) (get_or machines m nameless).body rows
rows-at seen a behind [] rows m lt = absurd (omega (arith, lt))
rows-at seen a behind (machine ∷ machines) rows zero lt =
    ap₂ (λ k j. body_rows (seen k) j machine.body rows) (let same : a ≡ a + 0 = omega arith in same) (let same : behind ≡ behind + 0 = omega arith in same)
rows-at seen a behind (machine ∷ machines) rows (suc m) lt =
    let rest = models_in (take m machines) in
    let first : models_in (machine ∷ take m machines) ≡ own_signals machine.body + rest = sum-first (λ (machine : planned.Machine). own_signals machine.body) machine (take m machines) in
    rows-at seen (suc a) (behind + own_signals machine.body) machines rows m (omega (arith, lt))
    ∙ ap₂ (λ k j. body_rows (seen k) j (get_or machines m nameless).body rows) (let same : suc a + m ≡ a + suc m = omega arith in same) (let same : behind + own_signals machine.body + rest ≡ behind + models_in (machine ∷ take m machines) = omega (arith, first) in same)

-- ---- a plan

module _ (given : Given) where
  open given use {design, request, models, plan, can}
  open cut_of design request use {hub, bridges as b}

  -- the reference circuit has the design's signals and the pipes
  pub reference-many : length (plan_reference design request).signals ≡ length design.circuit.signals + length (pipes_of hub)
  reference-many = (plan-made design request can.design_is can.keeps given.held (no-fault given)).signals

  -- what a consumer takes is a signal of the reference circuit
  pub taken-below : (s : ℕ) → s < length design.circuit.signals → taken_as hub s < length (plan_reference design request).signals
  taken-below s lt = by (first_place (λ p. p == s) (pipes_of hub)) refl
    where
      by : (o : Option ℕ) → first_place (λ p. p == s) (pipes_of hub) ≡ o → number_or (length design.circuit.signals) s o < length (plan_reference design request).signals
      by None e = omega (arith, lt, reference-many)
      by (Some k) e = let at = first_place-Some (λ p. p == s) (pipes_of hub) k e in omega (arith, at.within, reference-many)

  -- a machine that is no bridge has no model
  none-before : (m : ℕ) (own : Body) → m < first_bridge b → IsBodyAt given m own → own_signals own ≡ 0
  none-before m (Cut part) lt is = refl
  none-before m (Memory part) lt is = refl
  none-before m (Source place) lt is = refl
  none-before m Tray lt is = refl
  none-before m (Bridge bridge) lt is = absurd (omega (arith, lt, is.0))

  first-models : (m : ℕ) → m ≤ first_bridge b → m ≤ length plan.machines → models_in (take m plan.machines) ≡ 0
  first-models zero le within = refl
  first-models (suc m) le within =
      let lt : m < length plan.machines = omega (arith, within) in
      let rest = first-models m (omega (arith, le)) (omega (arith, within)) in
      let none = none-before m (get_or plan.machines m nameless).body (omega (arith, le)) (body-at given m lt) in
      let next = sum-next (λ (machine : planned.Machine). own_signals machine.body) plan.machines m nameless lt in
      omega (arith, rest, none, next)

  abbrev model_size : BridgeEntry → ℕ
  model_size entry = length (model_of models entry).signals

  own-model : (m k : ℕ) (own : Body) → m ≡ first_bridge b + k → IsBodyAt given m own → own_signals own ≡ model_size (entry_at request.bridges k)
  own-model m k (Cut part) at is = absurd (omega (arith, at, is.0))
  own-model m k (Memory part) at is = absurd (omega (arith, at, is.1))
  own-model m k (Source place) at is = absurd (omega (arith, at, is.0, is.1, ins-count design.circuit design.tree request))
  own-model m k Tray at is = absurd (omega (arith, at, is.1))
  own-model m k (Bridge bridge) at is =
      ap (λ (l : FlatCircuit). length l.signals) (sym (entry-model given m bridge is)) ∙ ap (λ j. model_size (entry_at request.bridges j)) (let same : m - first_bridge b ≡ k = omega (arith, at) in same)

  pub models-before : (k : ℕ) → first_bridge b + k ≤ length plan.machines
      → models_in (take (first_bridge b + k) plan.machines) ≡ sum (map (λ entry. length (model_of models entry).signals) (take k request.bridges))
  models-before zero within = let same : first_bridge b ≡ first_bridge b + 0 = omega arith in ap (λ m. models_in (take m plan.machines)) (sym same) ∙ first-models (first_bridge b) (omega arith) (omega (arith, within))
  models-before (suc k) within =
      let m = first_bridge b + k in
      let same : first_bridge b + suc k ≡ suc m = omega arith in
      let lt : m < length plan.machines = omega (arith, within) in
      let known : k < length request.bridges = omega (arith, lt, given.planned.machine_total) in
      let rest = models-before k (omega (arith, within)) in
      let own = own-model m k (get_or plan.machines m nameless).body refl (body-at given m lt) in
      let next = sum-next (λ (machine : planned.Machine). own_signals machine.body) plan.machines m nameless lt in
      let after = sum-next model_size request.bridges k (record { name = []; sees = []; drives = [] }) known in
      ap (λ n. models_in (take n plan.machines)) same ∙ (let sums : models_in (take (suc m) plan.machines) ≡ sum (map model_size (take (suc k) request.bridges)) = omega (arith, rest, own, next, after) in sums)

-- columns of signals that are among the first ones
pub front-columns : (count : ℕ) (channels : List Channel) (rows : List (List ℕ)) → ((c : ℕ) (any : Channel) → c < length channels → (get_or channels c any).signal < count) → map (λ channel. column rows channel.signal) channels ≡ map (λ channel. column (part_rows (range_with_len 0 count) rows) channel.signal) channels
front-columns count [] rows below = refl
front-columns count (channel ∷ channels) rows below =
    ap₂ (λ (l : List ℕ) (rest : List (List ℕ)). l ∷ rest) (front-column count rows channel.signal (below 0 channel (omega arith))) (front-columns count channels rows (λ c any lt. below (suc c) any (omega (arith, lt))))
