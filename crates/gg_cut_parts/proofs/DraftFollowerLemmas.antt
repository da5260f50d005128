-- What another unit of a host does comes from what the first one does, in a draft.
use Rattle.std.proofs.Common.{◌≡◌, ℕ, ◌<◌, ◌≤◌, ◌^◌, List, length, map, arith}
use Rattle.std.specs.Prelude.{All, AllPairs}
use Rattle.gg_flat.specs.Circuit.{FlatCircuit}
use Rattle.gg_flat.specs.Line.{value_at}
use Rattle.gg_part.specs.Moved.{shifted}
use Rattle.gg_order.specs.Design.{Ordered, IsDesign}
use Rattle.gg_part.specs.declared.part.Clocking.{Clocking}
use Rattle.gg_part.specs.declared.part.Part.{Part}
use Rattle.gg_part.specs.Building.{AreHeld}
use Rattle.gg_part.specs.inside.Clocking.{IsTimed}
use Rattle.gg_part.specs.Part.{IsPart}
use Rattle.gg_cut_plan.specs.declared.listed.Listed.{Listed}
use Rattle.gg_cut_plan.specs.Direct.{Hub, routes}
use Rattle.gg_cut_plan.specs.Plan.{channels_from, givens_of, machine_clocks}
use Rattle.gg_cut_split.specs.inside.Again.{IsUnitAgain, again_at, unit_first}
use Rattle.gg_cut_parts.specs.declared.machine_draft.MachineDraft.{MachineDraft}
use Rattle.gg_cut_parts.specs.inside.Draft.{IsDraftPart, IsMachineDraft, draft_hub}
use Rattle.gg_cut_parts.specs.inside.MovedPart.{IsUnitRouted, IsUnitShare, IsMovedPiece, IsFollower, HoldAgain}
use Rattle.gg_cut_parts.proofs.DraftLemmas.{draft-routed, draft-share}
use Rattle.gg_cut_parts.proofs.FollowerLemmas as follower
use Rattle.gg_cut_parts.proofs.FollowerLemmas.{IsReady}

-- the first unit of the host has the number m
module _ (machine : MachineDraft) (known : IsMachineDraft machine) (sound : IsDesign machine.draft.now.design.now) (m : ℕ) (leader : Part) (again : IsUnitAgain machine.draft.now.design.now machine.draft.now.listed m machine.number) (cut : IsDraftPart machine.draft.now m leader) (timed : IsTimed leader.piece leader.held leader.memories machine.domains.now.units.registers machine.domains.now.units.ports) (ascend : AllPairs (λ a b. a < b) leader.memories) where
  abbrev design : Ordered
  design = machine.draft.now.design.now

  abbrev listed : Listed
  listed = machine.draft.now.listed

  abbrev hub : Hub
  hub = draft_hub machine.draft.now

  abbrev clocking : Clocking
  clocking = machine.domains.now.units

  abbrev n : ℕ
  n = machine.number

  abbrev signals : List ℕ
  signals = machine.globals.now

  abbrev banks : List ℕ
  banks = machine.memories.now

  abbrev to : ℕ → ℕ
  to = again_at design listed m n

  routed : IsUnitRouted design listed hub m
  routed = let some = again.units.0 in let low = again.units.1 in draft-routed machine.draft.now known.draft sound m (λ z. absurd (omega (arith, some, z))) (omega (arith, low))

  there : IsUnitRouted design listed hub n
  there = let some = again.units.2 in let low = again.units.3 in draft-routed machine.draft.now known.draft sound n (λ z. absurd (omega (arith, some, z))) (omega (arith, low))

  share : IsUnitShare design listed n signals banks
  share = let low = again.units.3 in draft-share machine known there (omega (arith, low))

  pub all-behind : (from : ℕ) → from ≡ unit_first design.tree listed m → All (λ s. from ≤ s) leader.globals
  all-behind = follower.all-behind design listed hub clocking m n leader again routed there cut timed signals banks share ascend

  pub all-few : (whole : FlatCircuit) (from first : ℕ) → whole ≡ design.circuit → length whole.signals < 2 ^ 32 → from ≡ unit_first design.tree listed m → first ≡ unit_first design.tree listed n → All (λ s. shifted from first s < 2 ^ 32) leader.globals
  all-few = follower.all-few design listed hub clocking m n leader again routed there cut timed signals banks share ascend

  pub held-is : (whole : FlatCircuit) (globals held : List ℕ) → whole ≡ design.circuit → globals ≡ map to leader.globals → ((registers : ℕ → ℕ) (taken : List ℕ) → AreHeld whole leader.globals taken leader.held → taken ≡ map (value_at leader.globals) leader.piece.ins → HoldAgain whole leader globals registers → held ≡ map registers leader.held) → held ≡ map again.registers leader.held
  held-is = follower.held-is design listed hub clocking m n leader again routed there cut timed signals banks share ascend

  pub part-in : (whole : FlatCircuit) → whole ≡ design.circuit → IsPart whole leader.piece leader.globals leader.held leader.memories leader.clocks
  part-in = follower.part-in design listed hub clocking m n leader again routed there cut timed signals banks share ascend

  pub globals-within : (whole : FlatCircuit) (globals : List ℕ) → whole ≡ design.circuit → globals ≡ map to leader.globals → All (λ s. s < length whole.signals) globals
  globals-within = follower.globals-within design listed hub clocking m n leader again routed there cut timed signals banks share ascend

  module _ (whole : FlatCircuit) (globals givens : List ℕ) (is : whole ≡ design.circuit) (these : globals ≡ map to leader.globals) (gives : givens ≡ givens_of (routes hub) (channels_from (routes hub) n)) where
    pub ready : IsReady whole leader globals givens
    ready = follower.ready design listed hub clocking m n leader again routed there cut timed signals banks share ascend whole globals givens is these gives

    pub follows : (part : Part) → IsMovedPiece whole leader.piece globals givens part.piece → part.globals ≡ globals → part.held ≡ map again.registers leader.held → part.memories ≡ banks → part.clocks ≡ machine_clocks design.tree listed n → IsFollower design listed hub clocking n leader part
    follows = follower.follows design listed hub clocking m n leader again routed there cut timed signals banks share ascend whole globals givens is these gives known.draft.keeps known.draft.apart sound.formed known.domains.units
