-- The steps by which the part of a unit is made from that of the first unit of its host.
use Rattle.std.proofs.Common.{◌≡◌, ◌≢◌, ℕ, ◌<◌, ◌≤◌, ◌^◌, List, length, map, get_or, sym, ◌∙◌, ap, subst, inl, inr, arith}
use Rattle.std.specs.Prelude.{All, AllPairs, Contains}
use Rattle.std.proofs.lemmas.List.{length-map, get_or-map}
use Rattle.std.proofs.lemmas.List.Elements.{Contains-get_or}
use Rattle.gg_flat.specs.Circuit.{FlatCircuit}
use Rattle.gg_flat.specs.Line.{value_at}
use Rattle.gg_flat.specs.WellFormed.{IsWellFormed}
use Rattle.gg_part.specs.KeepsToTree.{KeepsToTree}
use Rattle.gg_part.specs.Moved.{shifted}
use Rattle.gg_order.specs.Design.{Ordered}
use Rattle.gg_part.specs.declared.part.Clocking.{Clocking}
use Rattle.gg_part.specs.declared.part.Part.{Part}
use Rattle.gg_part.specs.Building.{AreHeld}
use Rattle.gg_part.specs.inside.Clocking.{AreTimed, IsTimed}
use Rattle.gg_part.specs.Part.{IsPart}
use Rattle.gg_cut_plan.specs.declared.listed.Listed.{Listed}
use Rattle.gg_cut_plan.specs.Direct.{Hub, routes}
use Rattle.gg_cut_plan.specs.Plan.{channels_to, channels_from, signals_of, givens_of, IsCutPart, machine_clocks}
use Rattle.gg_cut_plan.specs.inside.Plan.{Makes}
use Rattle.gg_cut_split.specs.inside.Apart.{AreApart}
use Rattle.gg_cut_split.proofs.ClosedLemmas.ListLemmas.{Somewhere, map-cases}
use Rattle.gg_cut_split.specs.inside.Again.{HasSignal, IsUnitAgain, again_at, cut_wires, unit_first}
use Rattle.gg_cut_parts.specs.inside.Domains.{AreUnitClocks}
use Rattle.gg_cut_parts.proofs.DomainTimes.{machine-timed}
use Rattle.gg_cut_parts.specs.inside.MovedPart.{IsUnitPart, IsUnitRouted, IsUnitShare, IsMovedPiece, IsFollower, HoldAgain}
use Rattle.gg_cut_parts.proofs.RoutedLemmas.{to-unit, from-unit}
use Rattle.gg_cut_parts.proofs.MovedUnitLemmas.{behind-first, counterparts-once, hold-again, counterparts-within, givens-known, banks-again}
use Rattle.gg_cut_parts.proofs.MovedPartLemmas.{moved-part, moved-alike}

-- a moved piece can be made of these
pub record IsReady (whole : FlatCircuit) (leader : Part) (globals givens : List ℕ) : Type 0 where
  pub signals : length leader.piece.signals ≡ length globals
  pub within : All (λ s. s < length whole.signals) globals
  pub once : AllPairs (λ a b. a ≢ b) globals
  pub givens_known : All (λ s. Contains globals s) givens

module _ (design : Ordered) (listed : Listed) (hub : Hub) (clocking : Clocking) (m n : ℕ) (leader : Part) (again : IsUnitAgain design listed m n) (routed : IsUnitRouted design listed hub m) (there : IsUnitRouted design listed hub n) (cut : IsCutPart design listed hub m leader) (timed : IsTimed leader.piece leader.held leader.memories clocking.registers clocking.ports) (signals banks : List ℕ) (share : IsUnitShare design listed n signals banks) (ascend : AllPairs (λ a b. a < b) leader.memories) where
  abbrev to : ℕ → ℕ
  to = again_at design listed m n

  abbrev own_givens : List ℕ
  own_givens = givens_of (routes hub) (channels_from (routes hub) m)

  abbrev givens_there : List ℕ
  givens_there = givens_of (routes hub) (channels_from (routes hub) n)

  abbrev cut-own : IsUnitPart design listed clocking m own_givens leader
  cut-own = to-unit design listed hub clocking m leader routed cut timed

  banks-are : banks ≡ map again.memories leader.memories
  banks-are = banks-again design listed clocking m n leader again own_givens cut-own signals banks share ascend

  pub all-behind : (from : ℕ) → from ≡ unit_first design.tree listed m → All (λ s. from ≤ s) leader.globals
  all-behind from is = subst (λ f. All (λ s. f ≤ s) leader.globals) (sym is) (behind-first design listed clocking m n leader again own_givens cut-own)

  -- the counterparts have numbers below 2^32
  pub all-few : (whole : FlatCircuit) (from first : ℕ) → whole ≡ design.circuit → length whole.signals < 2 ^ 32 → from ≡ unit_first design.tree listed m → first ≡ unit_first design.tree listed n → All (λ s. shifted from first s < 2 ^ 32) leader.globals
  all-few whole from first is few a b k d lt =
      let within = counterparts-within design listed clocking m n leader again own_givens cut-own signals banks share k (to d) (omega (arith, lt, length-map leader.globals to)) in
      let at : get_or (map to leader.globals) k (to d) ≡ to (get_or leader.globals k d) = get_or-map to leader.globals k d (to d) lt in
      let count : length whole.signals ≡ length design.circuit.signals = ap (λ (c : FlatCircuit). length c.signals) is in
      omega (arith, within, at, count, few, a, b)

  -- what the signals hold, in the terms of the loop that looks for it
  pub held-is : (whole : FlatCircuit) (globals held : List ℕ) → whole ≡ design.circuit → globals ≡ map to leader.globals → ((registers : ℕ → ℕ) (taken : List ℕ) → AreHeld whole leader.globals taken leader.held → taken ≡ map (value_at leader.globals) leader.piece.ins → HoldAgain whole leader globals registers → held ≡ map registers leader.held) → held ≡ map again.registers leader.held
  held-is whole globals held is these told =
      told again.registers (signals_of (cut_wires design listed) (channels_to (cut_wires design listed) m))
      (subst (λ (c : FlatCircuit). AreHeld c leader.globals (signals_of (cut_wires design listed) (channels_to (cut_wires design listed) m)) leader.held) (sym is) cut-own.held)
      (sym cut-own.ins)
      (subst (λ (c : FlatCircuit). HoldAgain c leader globals again.registers) (sym is)
      (subst (λ (l : List ℕ). HoldAgain design.circuit leader l again.registers) (sym these) (hold-again design listed clocking m n leader again own_givens cut-own)))

  pub part-in : (whole : FlatCircuit) → whole ≡ design.circuit → IsPart whole leader.piece leader.globals leader.held leader.memories leader.clocks
  part-in whole is = subst (λ (c : FlatCircuit). IsPart c leader.piece leader.globals leader.held leader.memories leader.clocks) (sym is) cut.is

  pub globals-within : (whole : FlatCircuit) (globals : List ℕ) → whole ≡ design.circuit → globals ≡ map to leader.globals → All (λ s. s < length whole.signals) globals
  globals-within whole globals is these =
      subst (λ (c : FlatCircuit). All (λ s. s < length c.signals) globals) (sym is)
      (subst (λ (l : List ℕ). All (λ s. s < length design.circuit.signals) l) (sym these) (counterparts-within design listed clocking m n leader again own_givens cut-own signals banks share))

  -- ---- what the other unit follows

  -- what it has from outside it doesn't make
  makes-there : (s : ℕ) → Contains (map (again_at design listed m n) leader.globals) s → ¬ Contains (signals_of (cut_wires design listed) (channels_to (cut_wires design listed) n)) s → Makes design.circuit design.tree listed (cut_wires design listed) n s
  makes-there s chosen outside = by (subst (HasSignal design listed n) (at.holds 0) (again.has (value_at leader.globals at.place) ((cut-own.signals (value_at leader.globals at.place)).0 (Contains-get_or leader.globals at.place 0 at.within))))
    where
      at : Somewhere (λ s'. to s' ≡ s) leader.globals
      at = map-cases to leader.globals s chosen

      by : HasSignal design listed n s → Makes design.circuit design.tree listed (cut_wires design listed) n s
      by (inl made) = made
      by (inr taken) = absurd (outside taken)

  -- ---- with what was made so far

  module _ (whole : FlatCircuit) (globals givens : List ℕ) (is : whole ≡ design.circuit) (these : globals ≡ map (again_at design listed m n) leader.globals) (gives : givens ≡ givens_there) where
    pub ready : IsReady whole leader globals givens
    ready = record {
      signals = cut.is.count ∙ sym (ap length these ∙ length-map leader.globals to);
      within = globals-within whole globals is these;
      once = subst (λ (l : List ℕ). AllPairs (λ a b. a ≢ b) l) (sym these) (counterparts-once design listed clocking m n leader again own_givens cut-own);
      givens_known =
          subst (λ (l : List ℕ). All (λ s. Contains l s) givens) (sym these)
          (subst (λ (l : List ℕ). All (λ s. Contains (map to leader.globals) s) l) (sym gives) (givens-known design listed clocking m n leader again own_givens cut-own signals banks share givens_there there.givens));
    }

    module _ (keeps : KeepsToTree design.circuit design.tree) (apart : AreApart design.tree listed) (formed : IsWellFormed design.circuit) (units : AreUnitClocks design listed clocking) where
      pub follows : (part : Part) → IsMovedPiece whole leader.piece globals givens part.piece → part.globals ≡ globals → part.held ≡ map again.registers leader.held → part.memories ≡ banks → part.clocks ≡ machine_clocks design.tree listed n → IsFollower design listed hub clocking n leader part
      follows part moved a b c d =
          let made =
          moved-part design listed clocking m n leader again own_givens givens_there cut-own routed.givens there.givens signals banks share up keeps units follow part banks-are
          (record { piece = piece; signals = a ∙ these; registers = b; memories = c ∙ banks-are; follows = d }) in
          record {
            cut = from-unit design listed hub clocking n part there made;
            timed = made.timed;
            ascend = subst (λ (l : List ℕ). AllPairs (λ a b. a < b) l) (sym c) share.ascend;
            alike = moved-alike design listed clocking m n leader again own_givens givens_there cut-own routed.givens there.givens signals banks share up keeps units follow part.piece piece;
          }
        where
          up : AllPairs (λ a b. a < b) (map again.memories leader.memories)
          up = subst (λ (l : List ℕ). AllPairs (λ a b. a < b) l) banks-are share.ascend

          follow : AreTimed design.circuit (map to leader.globals) (signals_of (cut_wires design listed) (channels_to (cut_wires design listed) n)) (map again.memories leader.memories) (machine_clocks design.tree listed n) clocking.registers clocking.ports
          follow =
              machine-timed design listed keeps apart formed clocking units n again.units.2 again.units.3 (map to leader.globals) (signals_of (cut_wires design listed) (channels_to (cut_wires design listed) n)) (map again.memories leader.memories)
              (counterparts-within design listed clocking m n leader again own_givens cut-own signals banks share) makes-there
              (λ k h. (share.banks k).0 (subst (λ (l : List ℕ). Contains l k) (sym banks-are) h))

          piece : IsMovedPiece design.circuit leader.piece (map to leader.globals) givens_there part.piece
          piece =
              subst (λ (w : FlatCircuit). IsMovedPiece w leader.piece (map to leader.globals) givens_there part.piece) is
              (subst (λ (l : List ℕ). IsMovedPiece whole leader.piece l givens_there part.piece) these
              (subst (λ (l : List ℕ). IsMovedPiece whole leader.piece globals l part.piece) gives moved))
