-- What the machine with a number is in a draft.
use Rattle.std.proofs.Common.{◌≡◌, ℕ, ◌+◌, ◌-◌, ◌<◌, ◌≤◌, ◌^◌, length, ◌∙◌, ap, subst, inl, inr, ◌⊎◌, arith}
use Rattle.gg_cut_plan.specs.declared.listed.Listed.{Listed}
use Rattle.gg_cut_plan.specs.declared.numbering.Role.{Role}
use Rattle.gg_cut_plan.specs.declared.numbering.Role.TheVariants.{Hub, Unit, Memory, Source, Tray, Bridge}
use Rattle.gg_cut_plan.specs.Machines.{first_source}
use Rattle.gg_cut_plan.specs.Ports.{first_bridge, first_kept_tray, machine_end, ports_of}
use Rattle.gg_cut_plan.specs.inside.Machines.{Counts, IsRole, count_end}
use Rattle.gg_cut_plan.specs.inside.Ports.{counts_of}
use Rattle.gg_cut_parts.specs.declared.draft.Draft.{Draft}
use Rattle.gg_cut_parts.specs.inside.Draft.{IsDraft}
use Rattle.gg_cut_machines.specs.inside.Drafted.{draft_bridges, draft_end}

module _ (draft : Draft) (is : IsDraft draft) where
  counts : draft.ends.numbering ≡ counts_of draft.listed (draft_bridges draft)
  counts = is.ends.numbers ∙ ap (λ (l : Listed). counts_of draft.listed (ports_of draft.design.now.circuit draft.design.now.tree l draft.request.now.bridges)) is.listed

  first : first_source draft.listed ≡ (draft_bridges draft).first
  first = ap first_source is.listed

  -- how many machines there are
  pub end-is : (numbering : Counts) → numbering ≡ draft.ends.numbering → (count : ℕ) → count ≡ count_end numbering → count ≡ draft_end draft
  end-is numbering same count counted = let all = counted ∙ ap count_end (same ∙ counts) in omega (arith, all, first)

  pub end-few : draft_end draft < 2 ^ 32
  end-few = subst (λ (l : Listed). machine_end (ports_of draft.design.now.circuit draft.design.now.tree l draft.request.now.bridges) < 2 ^ 32) is.listed is.ends.few

  role : (numbering : Counts) → numbering ≡ draft.ends.numbering → (m : ℕ) (r : Role) → IsRole numbering m r → IsRole (counts_of draft.listed (draft_bridges draft)) m r
  role numbering same m r at = subst (λ (n : Counts). IsRole n m r) (same ∙ counts) at

  -- the hub, a unit or a listed memory comes before the sources
  pub low-role : (numbering : Counts) → numbering ≡ draft.ends.numbering → (m : ℕ) (r : Role) → IsRole numbering m r → (r ≡ Hub) ⊎ (((place : ℕ) × (r ≡ Unit place)) ⊎ ((place : ℕ) × (r ≡ Memory place))) → m < first_source draft.listed
  low-role numbering same m r at (inl hub) = let there = role numbering same m Hub (subst (IsRole numbering m) hub at) in omega (arith, there)
  low-role numbering same m r at (inr (inl unit)) = let there = role numbering same m (Unit unit.0) (subst (IsRole numbering m) unit.1 at) in omega (arith, there.0, there.1)
  low-role numbering same m r at (inr (inr memory)) = let there = role numbering same m (Memory memory.0) (subst (IsRole numbering m) memory.1 at) in omega (arith, there.0, there.1)

  pub source-role : (numbering : Counts) → numbering ≡ draft.ends.numbering → (m place : ℕ) → IsRole numbering m (Source place) → ((draft_bridges draft).first ≤ m) × (m < first_kept_tray (draft_bridges draft)) × (place ≡ m - (draft_bridges draft).first)
  source-role numbering same m place at =
      let there = role numbering same m (Source place) at in
      (omega (arith, there.1, first), omega (arith, there.0, there.1, first), omega (arith, there.1, first))

  pub tray-role : (numbering : Counts) → numbering ≡ draft.ends.numbering → (m place : ℕ) → IsRole numbering m (Tray place) → (first_kept_tray (draft_bridges draft) ≤ m) × (m < first_bridge (draft_bridges draft))
  tray-role numbering same m place at =
      let there = role numbering same m (Tray place) at in
      (omega (arith, there.1, first), omega (arith, there.0, there.1, first))

  pub bridge-role : (numbering : Counts) → numbering ≡ draft.ends.numbering → (m place : ℕ) → IsRole numbering m (Bridge place) → (place < length draft.request.now.bridges) × (m ≡ first_bridge (draft_bridges draft) + place)
  bridge-role numbering same m place at =
      let there = role numbering same m (Bridge place) at in
      (there.0, omega (arith, there.1, first))
