-- The last state of a run is a state of the reference circuit, whose memories are as large as the design's.
use Rattle.std.proofs.Common.{◌≡◌, ℕ, zero, suc, ◌<◌, ◌≤◌, List, [], ◌∷◌, drop, length, map, get_or, refl, sym, ap, ◌∙◌, subst, arith, ◌⊎◌, inl, inr}
use Rattle.std.proofs.lemmas.Bool.{cases_lt}
use Rattle.std.proofs.lemmas.List.{get_or-map, length-map, length-replicate}
use Rattle.gg_flat.specs.declared.memory.Latency.{Latency}
use Rattle.gg_flat.specs.declared.memory.Latency.TheVariants.{Zero, One}
use Rattle.gg_flat.specs.declared.memory.Memory.{Memory}
use Rattle.gg_flat.specs.declared.memory.Reader.{Reader}
use Rattle.gg_flat.specs.Circuit.{FlatCircuit}
use Rattle.gg_flat.specs.Memory.{bank_at, opening_bank, read_count}
use Rattle.gg_flat.specs.State.{IsState, State, opening}
use Rattle.gg_flat.proofs.ListLemmas.{some-item}
use Rattle.gg_flat.specs.Run.{Start, since}
use Rattle.gg_flat.specs.Streams.{Flow}
use Rattle.gg_order.proofs.RunsLemmas.AlongLemmas.{IsState-at}
use Rattle.gg_cut_plan.specs.declared.plan.Plan.{Plan}
use Rattle.gg_cut_reference.specs.Made.{IsFresh, plan_reference}
use Rattle.gg_cut_reference.specs.inside.Reference.{IsReference}
use Rattle.gg_cut_reference.specs.Reference.{Views}
use Rattle.gg_cut_reference.proofs.PlanLemmas.{plan-formed, plan-made}
use Rattle.gg_build.specs.Build.{IsToRunFrom}
use Rattle.gg_snap.specs.inside.Parts.{HasSizeOf}
use Rattle.gg_snap.proofs.TextLemmas.PartLemmas.{no_bank}
use Rattle.gg_snap.specs.Whole.{last_state}
use Rattle.gg_snap.proofs.AloneLemmas.{run-alone}
use Rattle.gg_flat.specs.Renaming.{renamed_reader, signals_by}

past : {A : Type 0} (xs : List A) (k : ℕ) (d : A) → length xs ≤ k → get_or xs k d ≡ d
past [] k d le = refl
past (x ∷ xs) zero d le = absurd (omega (arith, le))
past (x ∷ xs) (suc k) d le = past xs k d (omega (arith, le))

reads-same : (latency : Latency) (to : ℕ → ℕ) (readers : List Reader) → read_count latency (map (λ reader. renamed_reader (signals_by to) reader) readers) ≡ read_count latency readers
reads-same Zero to readers = refl
reads-same (One under) to readers = length-map readers (λ reader. renamed_reader (signals_by to) reader)

module _ (one all : FlatCircuit) (views : Views) (pipes : List ℕ) (reference : IsReference one all views pipes) (state : State) (typed : IsState all state) where
  inside : (m : ℕ) (any : Memory) → m < length one.memories → HasSizeOf (bank_at state.banks m) (bank_at (opening one).banks m)
  inside m any lt =
      let memory = get_or one.memories m any in
      let to = views.seen (views.keeper m) in
      let other = get_or all.memories m any in
      let same = reference.memory m any any lt in
      let bank = typed.held.each m any (omega (arith, lt, reference.memories)) in
      let opens : bank_at (opening one).banks m ≡ opening_bank memory = get_or-map (λ (k : Memory). opening_bank k) one.memories m any no_bank lt in
      let depth : other.depth ≡ memory.depth = ap (λ (k : Memory). k.depth) same in
      let reads : read_count other.latency other.readers ≡ read_count memory.latency memory.readers = ap (λ (k : Memory). read_count k.latency k.readers) same ∙ reads-same memory.latency to memory.readers in
      subst (HasSizeOf (bank_at state.banks m)) (sym opens) (record {
        words = bank.words.count ∙ depth ∙ sym (length-replicate memory.depth 0);
        reads = bank.reads.count ∙ reads ∙ sym (length-replicate (read_count memory.latency memory.readers) 0);
      })

  outside : (m : ℕ) → length one.memories ≤ m → HasSizeOf (bank_at state.banks m) (bank_at (opening one).banks m)
  outside m le =
      let a : bank_at state.banks m ≡ no_bank = past state.banks m no_bank (omega (arith, le, typed.held.count, reference.memories)) in
      let b : bank_at (opening one).banks m ≡ no_bank = past (opening one).banks m no_bank (omega (arith, le, length-map one.memories (λ memory. opening_bank memory))) in
      subst (λ k. HasSizeOf k (bank_at (opening one).banks m)) (sym a) (subst (HasSizeOf no_bank) (sym b) (record { words = refl; reads = refl }))

  sizes : (m : ℕ) → HasSizeOf (bank_at state.banks m) (bank_at (opening one).banks m)
  sizes m = by (cases_lt m (length one.memories))
    where
      by : (m < length one.memories) ⊎ (length one.memories ≤ m) → HasSizeOf (bank_at state.banks m) (bank_at (opening one).banks m)
      by (inl lt) = inside m (some-item one.memories m lt) lt
      by (inr le) = outside m le

-- ---- the last state of a run

module _ (plan : Plan) (start : Start) (columns : List (List ℕ)) (n : ℕ) (flow : Flow) (run : IsToRunFrom plan start columns n flow) (none : run.request.bridges ≡ []) (fresh : IsFresh run.design.circuit) where
  pub last-typed : IsState (plan_reference run.design run.request) (last_state run)
  last-typed =
      let given = run-alone run none in
      let formed = plan-formed run.design run.request given.design_is given.keeps given.held given.faultless fresh in
      IsState-at (plan_reference run.design run.request) start columns (since start.cycle n) (drop start.cycle run.rows) formed given.typed given.run.run (since start.cycle n) (omega arith)

  pub last-sizes : (m : ℕ) → HasSizeOf (bank_at (last_state run).banks m) (bank_at (opening run.design.circuit).banks m)
  last-sizes =
      let given = run-alone run none in
      sizes run.design.circuit (plan_reference run.design run.request) _ _ (plan-made run.design run.request given.design_is given.keeps given.held given.faultless) (last_state run) last-typed
