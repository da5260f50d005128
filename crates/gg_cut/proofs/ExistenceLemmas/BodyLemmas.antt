-- The parts of machines: a machine's own, and for a unit that shares its host the part of the host's first unit, moved.
use Rattle.std.proofs.Common.{◌≡◌, ◌≢◌, ℕ, ◌-◌, ◌<◌, ◌≤◌, List, Option, map, refl, sym, subst, inl, inr, ◌⊎◌, arith}
use Rattle.std.specs.Prelude.{All, AllPairs, Contains}
use Rattle.std.proofs.lemmas.Bool.{cases_eq, cases_lt}
use Rattle.gg_flat.specs.Circuit.{FlatCircuit}
use Rattle.gg_flat_tree.specs.Tree.{path_at}
use Rattle.gg_part.specs.KeepsToTree.{KeepsToTree}
use Rattle.gg_order.specs.Design.{IsDesign, Ordered}
use Rattle.gg_part.specs.declared.part.Clocking.{Clocking}
use Rattle.gg_part.specs.declared.part.Part.{Part}
use Rattle.gg_part.specs.inside.Clocking.{AreTimed, IsTimed}
use Rattle.gg_part.proofs.AlongLemmas.{IsInOrder-along}
use Rattle.gg_cut_plan.specs.declared.listed.Listed.{Listed}
use Rattle.gg_cut_plan.specs.Alike.{IsAlike}
use Rattle.gg_cut_plan.specs.Direct.{Hub, routes}
use Rattle.gg_cut_plan.specs.Machines.{first_memory, first_source, first_unit}
use Rattle.gg_cut_plan.specs.Plan.{IsCutPart, channels_from, channels_to, givens_of, machine_clocks, signals_of}
use Rattle.gg_cut_plan.specs.inside.Plan.{Makes}
use Rattle.gg_cut_split.specs.inside.Apart.{AreApart}
use Rattle.gg_cut_split.specs.inside.Again.{HasSignal, IsUnitAgain, again_at, cut_wires}
use Rattle.gg_cut_parts.specs.inside.Domains.{AreUnitClocks}
use Rattle.gg_cut_parts.proofs.DomainTimes.{machine-timed, top-clocks, whole-timed}
use Rattle.gg_cut_parts.specs.inside.MovedPart.{IsFollower, IsMovedPiece, IsUnitRouted, IsUnitShare}
use Rattle.gg_cut_parts.proofs.FollowerLemmas.{follows, ready}
use Rattle.gg_cut_parts.proofs.MachineLemmas.{cut-part}
use Rattle.gg_cut_parts.proofs.RoutedLemmas.{unit-share}
use Rattle.gg_cut.proofs.ExistenceLemmas.ClockLemmas.{whole-are, whole_clocks}
use Rattle.gg_cut.proofs.ExistenceLemmas.FilledLemmas.{place_in}
use Rattle.gg_cut.proofs.ExistenceLemmas.PartLemmas.{HasPart, part-there, placed-again, placed-below}
use Rattle.gg_cut.proofs.ExistenceLemmas.ShareLemmas.{HasShare}

-- ---- a machine's own part

pub record HasCutPart (design : Ordered) (listed : Listed) (hub : Hub) (clocking : Clocking) (m : ℕ) : Type 0 where
  pub part : Part
  pub cut : IsCutPart design listed hub m part
  pub ascend : AllPairs (λ a b. a < b) part.memories
  pub timed : first_unit ≤ m → m < first_memory listed → IsTimed part.piece part.held part.memories clocking.registers clocking.ports

module _ (design : Ordered) (listed : Listed) (hub : Hub) (is : IsDesign design) (keeps : KeepsToTree design.circuit design.tree) (apart : AreApart design.tree listed) (units : Clocking) (are : AreUnitClocks design listed units) (m : ℕ) (has : HasShare design listed hub m) (low : m < first_source listed) where
  abbrev taken : List ℕ
  taken = signals_of (routes hub) (channels_to (routes hub) m)

  abbrev given : List ℕ
  given = givens_of (routes hub) (channels_from (routes hub) m)

  abbrev clocks : List (Option ℕ)
  clocks = machine_clocks design.tree listed m

  -- the part, where its registers and ports follow these clocks
  abbrev Timed : Clocking → Type 0
  Timed clocking = AreTimed design.circuit has.globals taken has.memories clocks clocking.registers clocking.ports

  cut-by : (clocking : Clocking) → Timed clocking → (first_unit ≤ m → m < first_memory listed → clocking ≡ units) → HasPart design.circuit has.globals taken given has.memories clocks clocking.registers clocking.ports → HasCutPart design listed hub units m
  cut-by clocking timed own found =
      let part : Part = record { piece = found.piece; globals = has.globals; held = found.held; memories = has.memories; clocks = clocks } in
      record {
        part = part;
        cut = cut-part design listed hub (routes hub) refl m (channels_to (routes hub) m) (channels_from (routes hub) m) has.globals has.memories design.circuit part has.is refl found.is refl refl refl found.taken found.given found.are is.ordered IsInOrder-along;
        ascend = has.is.ascend;
        timed = λ first high. subst (λ (c : Clocking). IsTimed found.piece found.held has.memories c.registers c.ports) (own first high) found.timed;
      }

  cut-with : (clocking : Clocking) → Timed clocking → (first_unit ≤ m → m < first_memory listed → clocking ≡ units) → HasCutPart design listed hub units m
  cut-with clocking timed own =
      cut-by clocking timed own
      (part-there design.circuit has.globals taken given has.memories clocks clocking.registers clocking.ports is.formed (has.is.choice low) timed)

  -- a machine that is no unit follows the clocks of the circuit
  top-timed : (m ≡ 0) ⊎ (first_memory listed ≤ m) → Timed (whole_clocks design.circuit)
  top-timed top =
      subst (λ (l : List (Option ℕ)). AreTimed design.circuit has.globals taken has.memories l (whole_clocks design.circuit).registers (whole_clocks design.circuit).ports) (sym (top-clocks design.circuit design.tree listed keeps m top))
      (whole-timed design.circuit is.formed (whole_clocks design.circuit) (whole-are design.circuit) has.globals taken has.memories (has.is.choice low).within (has.is.choice low).memory_within)

  -- a unit follows its own Clock inputs
  unit-timed : first_unit ≤ m → m < first_memory listed → IsUnitRouted design listed hub m → Timed units
  unit-timed first high routed =
      machine-timed design listed keeps apart is.formed units are m first high has.globals taken has.memories (has.is.choice low).within
      (λ s chosen outside. makes s outside ((routed.signals s).0 ((has.is.signals s).0 chosen)))
      (λ k h. (has.is.banks k).0 h)
    where
      makes : (s : ℕ) → ¬ Contains taken s → HasSignal design listed m s → Makes design.circuit design.tree listed (cut_wires design listed) m s
      makes s outside (inl made) = made
      makes s outside (inr takes) = absurd (outside (subst (λ (l : List ℕ). Contains l s) (sym routed.ins) takes))

  pub part-for : (m ≢ 0 → IsUnitRouted design listed hub m) → HasCutPart design listed hub units m
  part-for routed = by (cases_eq m 0) (cases_lt m (first_memory listed))
    where
      by : (m ≡ 0) ⊎ (m ≡ 0 → ⊥) → (m < first_memory listed) ⊎ (first_memory listed ≤ m) → HasCutPart design listed hub units m
      by (inl none) q = cut-with (whole_clocks design.circuit) (top-timed (inl none)) (λ first high. absurd (omega (arith, none, first)))
      by (inr some) (inl lt) = cut-with units (unit-timed (let other : m ≢ 0 = some in omega (arith, other)) lt (routed some)) (λ first high. refl)
      by (inr some) (inr ge) = cut-with (whole_clocks design.circuit) (top-timed (inr ge)) (λ first high. absurd (omega (arith, ge, high)))

-- ---- what a unit does that shares its host with an earlier one

-- what it does, like that one
pub record HasLike (design : Ordered) (listed : Listed) (hub : Hub) (clocking : Clocking) (m : ℕ) (leader : Part) : Type 0 where
  pub part : Part
  pub cut : IsCutPart design listed hub m part
  pub ascend : AllPairs (λ a b. a < b) part.memories
  pub timed : IsTimed part.piece part.held part.memories clocking.registers clocking.ports
  pub alike : IsAlike leader.piece part.piece

module _ (design : Ordered) (listed : Listed) (hub : Hub) (is : IsDesign design) (keeps : KeepsToTree design.circuit design.tree) (apart : AreApart design.tree listed) (units : Clocking) (are : AreUnitClocks design listed units)
    (l m : ℕ) (again : IsUnitAgain design listed l m) (routed : IsUnitRouted design listed hub l) (there : IsUnitRouted design listed hub m) (has : HasShare design listed hub m) where
  module _ (leader : Part) (cut : IsCutPart design listed hub l leader) (ascend : AllPairs (λ a b. a < b) leader.memories) (timed : IsTimed leader.piece leader.held leader.memories units.registers units.ports) where
    abbrev signals_there : List ℕ
    signals_there = map (again_at design listed l m) leader.globals

    abbrev givens_there : List ℕ
    givens_there = givens_of (routes hub) (channels_from (routes hub) m)

    low : m < first_source listed
    low = let high = again.units.3 in omega (arith, high)

    abbrev own_share : IsUnitShare design listed m has.globals has.memories
    own_share = unit-share design listed hub m (channels_to (routes hub) m) (channels_from (routes hub) m) has.globals has.memories there low has.is

    known : All (λ s. Contains signals_there s) givens_there
    known = (ready design listed hub units l m leader again routed there cut timed has.globals has.memories own_share ascend design.circuit signals_there givens_there refl refl refl).givens_known

    abbrev moved_piece : FlatCircuit
    moved_piece =
        record {
          paths = map (path_at design.circuit.paths) signals_there;
          signals = leader.piece.signals;
          registers = leader.piece.registers;
          memories = leader.piece.memories;
          ins = leader.piece.ins;
          outs = map (place_in signals_there) givens_there;
          clocks = leader.piece.clocks;
        }

    piece-is : IsMovedPiece design.circuit leader.piece signals_there givens_there moved_piece
    piece-is = record { paths = refl; signals = refl; registers = refl; memories = refl; ins = refl; outs = placed-again signals_there givens_there known; outs_within = placed-below signals_there givens_there known; clocks = refl }

    abbrev moved_part : Part
    moved_part = record { piece = moved_piece; globals = signals_there; held = map again.registers leader.held; memories = has.memories; clocks = machine_clocks design.tree listed m }

    follower : IsFollower design listed hub units m leader moved_part
    follower =
        follows design listed hub units l m leader again routed there cut timed has.globals has.memories own_share ascend design.circuit signals_there givens_there refl refl refl
        keeps apart is.formed are moved_part piece-is refl refl refl refl

    pub like-part : HasLike design listed hub units m leader
    like-part = record { part = moved_part; cut = follower.cut; ascend = follower.ascend; timed = follower.timed; alike = follower.alike }
