-- Where the whole run of a request starts: cycle 0, with zeros. It is a case of a run from any start.
use Rattle.std.proofs.Common.{◌≡◌, ℕ, zero, suc, ◌+◌, List, [], ◌∷◌, Option, None, Some, length, map, replicate, refl, sym, ◌∙◌, ap, ap₂, arith}
use Rattle.std.specs.Prelude.{◌==◌}
use Rattle.gg_flat.specs.declared.memory.Memory.{Memory}
use Rattle.gg_flat.specs.Clock.{Ratio}
use Rattle.gg_flat.specs.Circuit.{FlatCircuit}
use Rattle.gg_flat.specs.Line.{value_at}
use Rattle.gg_flat.specs.Memory.{Bank, bank_at, opening_bank}
use Rattle.gg_flat.specs.State.{IsState, State, opening}
use Rattle.gg_flat.specs.Run.{IsRunFrom, Start, clocked_start}
use Rattle.gg_flat.proofs.StateLemmas.{IsState-opening}
use Rattle.gg_part.specs.Part.{IsPart}
use Rattle.gg_part.specs.PartRun.{part_ratios, part_start, part_state}
use Rattle.gg_part.specs.declared.part.Part.{Part}
use Rattle.gg_part.proofs.RunLemmas.{opening-part}
use Rattle.gg_order.specs.Design.{Ordered}
use Rattle.gg_partfile.specs.declared.request.Request.{Request}
use Rattle.gg_cut_plan.specs.Clocks.{ratios_of}
use Rattle.gg_cut_plan.specs.Direct.{Hub, plan_hub}
use Rattle.gg_cut_plan.specs.Listed.{first_place, listed_of}
use Rattle.gg_cut_plan.specs.Plan.{IsCutPart}
use Rattle.gg_cut_plan.specs.Solves.{AreRows}
use Rattle.gg_flat.specs.Renaming.{signals_by, renamed_memory}
use Rattle.gg_flat.proofs.RenamedLaws.{opening-renamed}
use Rattle.gg_cut_reference.specs.Reference.{Views}
use Rattle.gg_cut_reference.specs.Links.{pipes_of}
use Rattle.gg_cut_reference.specs.Made.{plan_reference, reference_of}
use Rattle.gg_cut_reference.specs.inside.Made.{views_in}
use Rattle.gg_bits.specs.Lists.{by_number}
use Rattle.gg_cut_reference.specs.Follows.{plan_start, plan_token, token_of, token_or}

-- ---- rows

-- a run from cycle 0 has its rows by cycle
pub opening-rows : (circuit : FlatCircuit) (ratios : List Ratio) (columns : List (List ℕ)) (n : ℕ) (rows : List (List ℕ)) → IsRunFrom circuit (clocked_start circuit ratios) columns n rows → AreRows circuit (clocked_start circuit ratios) columns n rows
opening-rows circuit ratios columns n rows run = record { begun = omega arith; count = run.count; before = λ t s lt. absurd (omega (arith, lt)); run = run }

-- and back
pub opening-run : (circuit : FlatCircuit) (ratios : List Ratio) (columns : List (List ℕ)) (n : ℕ) (rows : List (List ℕ)) → AreRows circuit (clocked_start circuit ratios) columns n rows → IsRunFrom circuit (clocked_start circuit ratios) columns n rows
opening-run circuit ratios columns n rows all = all.run

-- ---- states

zero-at : (n i : ℕ) → value_at (replicate n 0) i ≡ 0
zero-at zero i = refl
zero-at (suc n) zero = refl
zero-at (suc n) (suc i) = zero-at n i

zeros-at : (n k : ℕ) (places : List ℕ) → map (value_at (replicate n 0)) places ≡ map (value_at (replicate k 0)) places
zeros-at n k [] = refl
zeros-at n k (place ∷ places) = ap₂ (λ (x : ℕ) xs. x ∷ xs) (zero-at n place ∙ sym (zero-at k place)) (zeros-at n k places)

banks-by : (to : ℕ → ℕ → ℕ) (n : ℕ) (memories : List Memory) → map (λ memory. opening_bank memory) (by_number (λ m memory. renamed_memory (signals_by (to m)) memory) n memories) ≡ map (λ memory. opening_bank memory) memories
banks-by to n [] = refl
banks-by to n (memory ∷ memories) = ap₂ (λ (bank : Bank) banks. bank ∷ banks) (opening-renamed (signals_by (to n)) memory) (banks-by to (suc n) memories)

-- a part begins with the same zeros in the reference circuit and in the design
zeros-by : (one : FlatCircuit) (views : Views) (pipes held memories : List ℕ) → part_state held memories (opening (reference_of one views pipes)) ≡ part_state held memories (opening one)
zeros-by one views pipes held memories =
    let make : List ℕ → List Bank → State = λ registers banks. record { registers = registers; banks = banks } in
    ap₂ make (zeros-at (length (reference_of one views pipes).registers) (length one.registers) held)
    (ap (λ (banks : List Bank). map (bank_at banks) memories) (banks-by (λ m. views.seen (views.keeper m)) 0 one.memories))

-- the state is one of the reference circuit
pub plan-typed : (design : Ordered) (request : Request) → IsState (plan_reference design request) (plan_start design request).state
plan-typed design request = IsState-opening (plan_reference design request)

-- ---- pipes

-- a pipe has 0 in a state of zeros
pub opening-token : (hub : Hub) (circuit : FlatCircuit) (s : ℕ) → token_of hub (opening circuit) s ≡ 0
opening-token hub circuit s = by (first_place (λ p. p == s) (pipes_of hub))
  where
    by : (o : Option ℕ) → token_or hub (opening circuit) o ≡ 0
    by None = refl
    by (Some k) = zero-at (length circuit.registers) (length hub.circuit.registers + k)

pub start-token : (design : Ordered) (request : Request) (s : ℕ) → plan_token design request (plan_start design request).state s ≡ 0
start-token design request s = opening-token (plan_hub design.circuit design.tree request) (plan_reference design request) s

-- ---- parts

-- a part begins at cycle 0, too, with zeros and the ratios of its clocks
pub opening-start : (whole part : FlatCircuit) (globals held memories : List ℕ) (clocks : List (Option ℕ)) → IsPart whole part globals held memories clocks → (ratios : List Ratio) → part_start held memories clocks (clocked_start whole ratios) ≡ clocked_start part (part_ratios clocks ratios)
opening-start whole part globals held memories clocks is ratios =
    let from : State → Start = λ state. record { cycle = 0; state = state; ratios = part_ratios clocks ratios } in
    ap from (opening-part whole part globals held memories clocks is)

-- so does a part of a plan
pub part-start : (design : Ordered) (request : Request) (m : ℕ) (part : Part) → IsCutPart design (listed_of design.tree request) (plan_hub design.circuit design.tree request) m part
    → part_start part.held part.memories part.clocks (plan_start design request) ≡ clocked_start part.piece (part_ratios part.clocks (ratios_of design.tree request))
part-start design request m part cut =
    let ratios = ratios_of design.tree request in
    let hub = plan_hub design.circuit design.tree request in
    let from : State → Start = λ state. record { cycle = 0; state = state; ratios = part_ratios part.clocks ratios } in
    ap from (zeros-by design.circuit (views_in design.circuit design.tree (listed_of design.tree request) hub.piped request.bridges request.direct) (pipes_of hub) part.held part.memories)
    ∙ opening-start design.circuit part.piece part.globals part.held part.memories part.clocks cut.is ratios
