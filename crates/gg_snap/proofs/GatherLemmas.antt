-- A state that is gathered from the machines of a network.
use Rattle.std.proofs.Common.{◌≡◌, ℕ, ◌+◌, ◌<◌, ◌≤◌, List, ◌++◌, drop, length, take, get_or, sym, ap, ap₂, ◌∙◌, subst, arith, ◌⊎◌, inl, inr}
use Rattle.std.specs.Prelude.{Contains}
use Rattle.std.proofs.lemmas.Bool.{cases_lt}
use Rattle.std.proofs.lemmas.List.{get_or-take, get_or_default, length-take-le, same_lists, take-append-drop}
use Rattle.gg_flat.specs.Circuit.{FlatCircuit}
use Rattle.gg_flat.specs.Line.{value_at}
use Rattle.gg_flat.specs.Memory.{Bank, bank_at}
use Rattle.gg_flat.specs.State.{State}
use Rattle.gg_cut_plan.specs.declared.plan.Body.{Body}
use Rattle.gg_cut_plan.specs.declared.plan.Machine as planned
use Rattle.gg_cut_plan.specs.declared.plan.Plan.{Plan}
use Rattle.gg_node.specs.Machine.{Machine}
use Rattle.gg_net.specs.Network.{Network}
use Rattle.gg_build.specs.plan.Built.{machine_in, nameless}
use Rattle.gg_snap.specs.inside.Parts.{HasPart, HasSizeOf}
use Rattle.gg_snap.proofs.TextLemmas.PartLemmas.{no_bank}
use Rattle.gg_snap.specs.inside.Gathered.{AreDone, ArePipes, HoldsBody, IsAll, IsSized, held_by, kept_by, newest_tokens}
use Rattle.gg_snap.proofs.PipeLemmas.{one-list}

-- ---- machine by machine

pub body-is : (plan : Plan) (machines : List planned.Machine) (m : ℕ) (any : planned.Machine) → plan.machines ≡ machines → any ≡ get_or machines m any → m < length machines → (machine_in plan m).body ≡ any.body
body-is plan machines m any same is lt =
    ap (λ (l : List planned.Machine). (get_or l m nameless).body) same ∙ ap (λ (x : planned.Machine). x.body) (get_or_default machines m nameless any lt ∙ sym is)

pub holds-sized : (whole : State) (a b c d : ℕ) (body : Body) (machine : Machine) → a ≡ c → b ≡ d → HoldsBody whole a b body machine → HoldsBody whole c d body machine
holds-sized whole a b c d body machine e f holds = subst (λ x. HoldsBody whole x d body machine) e (subst (λ y. HoldsBody whole a y body machine) f holds)

pub done-more : (plan : Plan) (whole old new : State) (k : ℕ) (body : Body) → (machine_in plan k).body ≡ body → AreDone plan whole k old → HasPart whole (held_by body) (kept_by body) old new → AreDone plan whole (k + 1) new
done-more plan whole old new k body is done drawn = record {
  registers = λ j r lt has. register j r has (cases_lt j k) lt;
  memories = λ j m lt has. memory j m has (cases_lt j k) lt;
}
  where
    register : (j r : ℕ) → Contains (held_by (machine_in plan j).body) r → (j < k) ⊎ (k ≤ j) → j < k + 1 → value_at new.registers r ≡ value_at whole.registers r
    register j r has (inl low) lt = drawn.registers r (done.registers j r low has)
    register j r has (inr le) lt =
        let e : j ≡ k = omega (arith, le, lt) in
        drawn.put_registers r (subst (λ b. Contains (held_by b) r) is (subst (λ n. Contains (held_by (machine_in plan n).body) r) e has))

    memory : (j m : ℕ) → Contains (kept_by (machine_in plan j).body) m → (j < k) ⊎ (k ≤ j) → j < k + 1 → bank_at new.banks m ≡ bank_at whole.banks m
    memory j m has (inl low) lt = drawn.banks m (done.memories j m low has)
    memory j m has (inr le) lt =
        let e : j ≡ k = omega (arith, le, lt) in
        drawn.put_memories m (subst (λ b. Contains (kept_by b) m) is (subst (λ n. Contains (kept_by (machine_in plan n).body) m) e has))

pub sized-more : (circuit : FlatCircuit) (whole old new : State) (held memories : List ℕ) → IsSized circuit old → HasPart whole held memories old new → ((m : ℕ) → HasSizeOf (bank_at new.banks m) (bank_at old.banks m)) → IsSized circuit new
sized-more circuit whole old new held memories sized drawn sizes = record {
  registers = drawn.register_count ∙ sized.registers;
  banks = drawn.bank_count ∙ sized.banks;
  sizes = λ m. record { words = (sizes m).words ∙ (sized.sizes m).words; reads = (sizes m).reads ∙ (sized.sizes m).reads };
}

-- ---- all of it

module _ (circuit : FlatCircuit) (plan : Plan) (net : Network) (whole draft : State) (sized : IsSized circuit draft) (done : AreDone plan whole (length plan.machines) draft) (all : IsAll circuit plan net whole) where
  own : draft.registers ≡ take (length circuit.registers) whole.registers
  own =
      let n = length circuit.registers in
      let size = length-take-le n whole.registers all.register_count in
      same_lists draft.registers (take n whole.registers) (sized.registers ∙ sym size) (λ k d lt.
      let low : k < n = omega (arith, lt, sized.registers) in
      let high : k < length whole.registers = omega (arith, low, all.register_count) in
      let held = all.registers k low in
      get_or_default draft.registers k d 0 lt ∙ done.registers held.at_machine k held.known held.holds ∙ get_or_default whole.registers k 0 d high ∙ sym (get_or-take n whole.registers k d low))

  banks : draft.banks ≡ whole.banks
  banks =
      same_lists draft.banks whole.banks (sized.banks ∙ sym all.bank_count) (λ k d lt.
      let low : k < length circuit.memories = omega (arith, lt, sized.banks) in
      let kept = all.memories k low in
      get_or_default draft.banks k d no_bank lt ∙ done.memories kept.at_machine k kept.known kept.keeps ∙ get_or_default whole.banks k no_bank d (omega (arith, low, all.bank_count)))

  pub gathered : (state : State) (pipes : List ℕ) → ArePipes plan.channels (length circuit.signals) (newest_tokens net.queues (length plan.channels)) pipes → state.registers ≡ draft.registers ++ pipes → state.banks ≡ draft.banks → state ≡ whole
  gathered state pipes are registers held =
      let n = length circuit.registers in
      let same = one-list plan.channels (length circuit.signals) (newest_tokens net.queues (length plan.channels)) pipes (drop n whole.registers) are all.pipes in
      let values : state.registers ≡ whole.registers = registers ∙ ap₂ (λ (a b : List ℕ). a ++ b) own same ∙ take-append-drop n whole.registers in
      ap₂ (λ (r : List ℕ) (b : List Bank). record { registers = r; banks = b }) values (held ∙ banks)
