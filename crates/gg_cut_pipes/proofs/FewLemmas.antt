-- What is numbered has few numbers: the machines of a plan, and the registers and the pipes of its reference circuit.
use Rattle.std.proofs.Common.{◌≡◌, ◌≢◌, ℕ, ◌+◌, ◌<◌, ◌≤◌, List, [], length, map, get_or, sym, ◌∙◌, ap, subst, arith}
use Rattle.std.specs.Prelude.{◌^◌, All, AllPairs}
use Rattle.std.specs.List.{range_with_len}
use Rattle.std.proofs.lemmas.List.{length-map}
use Rattle.std.proofs.lemmas.List.Elements.{All-map}
use Rattle.std.proofs.lemmas.List.FromFn.{get_or-range_with_len, length-range_with_len}
use Rattle.gg_flat.specs.declared.piece.Driver.TheVariants.{Held}
use Rattle.gg_flat.specs.Circuit.{FlatCircuit, driver_at}
use Rattle.gg_order.specs.Design.{Ordered, IsDesign}
use Rattle.gg_part.proofs.FrameLemmas.{length-once}
use Rattle.gg_cut_plan.specs.Listed.{listed_of}
use Rattle.gg_cut_plan.specs.Ports.{machine_end, ports_of}
use Rattle.gg_cut_plan.proofs.PortLemmas.{end-plain}
use Rattle.gg_cut_plan.specs.declared.listed.Listed.{Listed}
use Rattle.gg_cut_plan.specs.declared.plan.Plan.{Plan}
use Rattle.gg_cut_split.proofs.ClosedLemmas.FaultlessLemmas.{faultless-apart, faultless-few}
use Rattle.gg_cut_split.proofs.ClosedLemmas.ListLemmas.{AllPairs-map}
use Rattle.gg_cut_routes.proofs.FewLemmas as routed
use Rattle.gg_cut_routes.proofs.RoutedLemmas.{plan-routed}
use Rattle.gg_cut_reference.specs.Made.{AllHeld}
use Rattle.gg_cut_reference.proofs.HolderLemmas.{first_holder, holder-found}
use Rattle.gg_cut_pipes.specs.inside.CanPipe.{CanPipe}
use Rattle.gg_cut_pipes.specs.inside.Tables.{piped_signals}
use Rattle.gg_cut_pipes.proofs.PipingLemmas.{few-pipes}

-- each top input gives a channel of the plan, and each out-signal is taken by one, whichever machines are at them
pub few-machines : (design : Ordered) (plan : Plan) → IsDesign design → CanPipe design plan → machine_end (ports_of design.circuit design.tree plan.listed []) ≤ 33025
few-machines design plan is can =
    subst (λ (l : Listed). machine_end (ports_of design.circuit design.tree l []) ≤ 33025) (sym can.is.listed)
    (let few = faultless-few design can.request can.none in
    let ports = routed.few-ports design can.request is can.keeps (faultless-apart design can.request can.none can.keeps.fitting) (plan-routed design can.request is can.keeps can.none) in
    omega (arith, end-plain design.circuit design.tree (listed_of design.tree can.request), few.units, few.channels, ports.0, ports.1))

-- if each register is that of a signal, there are at most as many registers as signals
pub few-registers : (circuit : FlatCircuit) → AllHeld circuit → length circuit.registers ≤ length circuit.signals
few-registers circuit whole =
    let long = length-map numbers (first_holder circuit) in
    let few = length-once (map (first_holder circuit) numbers) (length circuit.signals) once known in
    omega (arith, long, count, few)
  where
    numbers : List ℕ
    numbers = range_with_len 0 (length circuit.registers)

    count : length (range_with_len 0 (length circuit.registers)) ≡ length circuit.registers
    count = length-range_with_len 0 (length circuit.registers)

    found : (r : ℕ) → r < length circuit.registers → (first_holder circuit r < length circuit.signals) × (driver_at circuit (first_holder circuit r) ≡ Held r)
    found r lt = let has = whole r lt in holder-found circuit has.signal r has.within has.holds

    at : (r d : ℕ) → r < length circuit.registers → get_or numbers r d ≡ r
    at r d lt = get_or-range_with_len 0 (length circuit.registers) r d lt ∙ (let same : 0 + r ≡ r = omega arith in same)

    known : All (λ s. s < length circuit.signals) (map (first_holder circuit) numbers)
    known =
        All-map (λ s. s < length circuit.signals) (first_holder circuit) numbers
        (λ r d lt.
        let low : r < length circuit.registers = omega (arith, lt, count) in
        subst (λ k. first_holder circuit k < length circuit.signals) (sym (at r d low)) (found r low).0)

    once : AllPairs (λ a b. a ≢ b) (map (first_holder circuit) numbers)
    once = AllPairs-map (λ a b. a ≢ b) (first_holder circuit) numbers pairs
      where
        pairs : AllPairs (λ a b. first_holder circuit a ≢ first_holder circuit b) numbers
        pairs q r d less lt same =
            let high : r < length circuit.registers = omega (arith, lt, count) in
            let low : q < length circuit.registers = omega (arith, less, high) in
            let one : first_holder circuit q ≡ first_holder circuit r = ap (first_holder circuit) (sym (at q d low)) ∙ same ∙ ap (first_holder circuit) (at r d high) in
            let both : Held q ≡ Held r = sym (found q low).1 ∙ ap (driver_at circuit) one ∙ (found r high).1 in
            let equal : q ≡ r = cc in
            absurd (omega (arith, less, equal))

pub few-states : (design : Ordered) (plan : Plan) → CanPipe design plan → length design.circuit.registers + length (piped_signals (length design.circuit.signals) plan.channels) < 2 ^ 32
few-states design plan can =
    let few = few-pipes design plan can in
    let most = few-registers design.circuit can.whole in
    omega (arith, few, most)
