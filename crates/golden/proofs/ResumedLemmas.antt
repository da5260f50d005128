-- What `resume` answers for the bytes of its files is one: the text, or what is reported for the snapshot.
use Rattle.std.proofs.Common.{◌≡◌, ◌⊎◌, ◌-◌, ℕ, List, None, refl, sym, ap, ◌∙◌, subst, inl, inr, arith}
use Rattle.gg_cut_plan.specs.Bridges.{Models}
use Rattle.gg_cut_plan.specs.Fault.{first_fault}
use Rattle.gg_cut_plan.specs.Held.{AreHeldOnce}
use Rattle.gg_cut_plan.specs.Solves.{AreRows}
use Rattle.gg_flat.specs.Circuit.{FlatCircuit}
use Rattle.gg_flat.specs.State.{State}
use Rattle.gg_flat_tree.specs.Tree.{InstanceTree}
use Rattle.gg_part.specs.KeepsToTree.{KeepsToTree}
use Rattle.gg_order.specs.Design.{IsDesign, Ordered}
use Rattle.gg_partfile.specs.declared.request.Request.{Request}
use Rattle.gg_front.specs.inside.Paths.{HavePaths}
use Rattle.gg_cut_reference.specs.Made.{plan_reference}
use Rattle.gg_rows.specs.Printed.{plan_stops}
use Rattle.gg_snap.specs.text.FaultText.{fault_words}
use Rattle.gg_snap.specs.text.Known.{CanSave}
use Rattle.gg_snap.specs.text.Standing.{IsFirstFault, IsSnap}
use Rattle.gg_snap.specs.declared.text.fault.SnapFault.TheVariants.{S1}
use Rattle.gg_io.specs.Order.{IsExactFile, IsOnly, IsUniqueFile}
use Rattle.gg_io.specs.Said.{Said}
use Rattle.gg_io.proofs.OrderLemmas.{exact-by}
use Rattle.gg_trace.specs.Printing.{text_from}
use Rattle.golden_commands.specs.Lines.{few_rows, snap_fault}
use Rattle.golden_commands.specs.Meaning.{AreMeant, Meaning, meant_reference}
use Rattle.golden_commands.specs.Resumed.{CanBeResumed, HasRest, IsResumedText, TellsLate, TellsNoSnap, rest_rows, rest_text, snap_file_for, start_at}
use Rattle.golden_commands.specs.Partition.{Known, to_save}
use Rattle.golden_commands.specs.RunText.{columns_of, outputs_kept, shown_ports, stops_kept}
use Rattle.golden.proofs.FromLemmas.{counts-from, texts-from}
use Rattle.golden.proofs.MeantLemmas.{meant-faultless, meant-given, meant-is, meant-ordered, meant-paths, meant-snap, reference_order}
use Rattle.golden_commands.proofs.PartitionLemmas.{DesignsAgree}

-- ---- what snapshots are

-- a state of the circuit that a plan's network computes can be saved
abbrev pub PlansCanSave : Type 0
PlansCanSave = (design : Ordered) (request : Request) → IsDesign design → KeepsToTree design.circuit design.tree → AreHeldOnce design.circuit → HavePaths design.circuit design.tree → first_fault design request ≡ None → CanSave (plan_reference design request) design.tree

-- the text of a snapshot has no fault
abbrev pub NoSnapFault : Type 0
NoSnapFault = (circuit : FlatCircuit) (tree : InstanceTree) (text : List ℕ) (cycle line : ℕ) (s : State) → CanSave circuit tree → IsSnap circuit tree text cycle s → IsFirstFault circuit tree text line → ⊥

-- a text is a snapshot before at most one cycle
abbrev pub OneCycle : Type 0
OneCycle = (circuit : FlatCircuit) (tree : InstanceTree) (text : List ℕ) (c d : ℕ) (s t : State) → IsSnap circuit tree text c s → IsSnap circuit tree text d t → c ≡ d

-- a text has at most one first line that can't stand
abbrev pub OneSnapFault : Type 0
OneSnapFault = (circuit : FlatCircuit) (tree : InstanceTree) (text : List ℕ) (line other : ℕ) → IsFirstFault circuit tree text line → IsFirstFault circuit tree text other → line ≡ other

-- ---- the file of a snapshot

module _ (models : Models) (agree : DesignsAgree) (can : PlansCanSave) (right : NoSnapFault) (one-cycle : OneCycle) (one-fault : OneSnapFault) (circuit partition trace : List ℕ) where
  can-save : {meant : Meaning} → AreMeant (to_save models) circuit partition trace meant → CanSave (meant_reference meant) meant.design.tree
  can-save {meant = meant} are = can meant.design meant.request are.designed are.keeps are.held (meant-paths are) (meant-faultless are)

  -- a snapshot for one meaning of the bytes has no fault for another
  fault-apart : (snap : List ℕ) (one other : Meaning) (cycle line : ℕ) (state : State) → AreMeant (to_save models) circuit partition trace one → AreMeant (to_save models) circuit partition trace other
      → IsSnap (meant_reference one) one.design.tree snap cycle state → IsFirstFault (meant_reference other) other.design.tree snap line → ⊥
  fault-apart snap one other cycle line state x y is first =
      right (meant_reference other) other.design.tree snap cycle line state (can-save y) (meant-snap agree one other x y snap cycle state is) first

  cycle-same : (snap : List ℕ) (one other : Meaning) (c d : ℕ) (s t : State) → AreMeant (to_save models) circuit partition trace one → AreMeant (to_save models) circuit partition trace other
      → IsSnap (meant_reference one) one.design.tree snap c s → IsSnap (meant_reference other) other.design.tree snap d t → c ≡ d
  cycle-same snap one other c d s t x y is own = one-cycle (meant_reference other) other.design.tree snap c d s t (meant-snap agree one other x y snap c s is) own

  snap-apart : (snap : List ℕ) (said : Said) → CanBeResumed (to_save models) circuit partition trace snap → TellsNoSnap (to_save models) circuit partition trace snap said ⊎ TellsLate (to_save models) circuit partition trace snap said → ⊥
  snap-apart snap said (one, cycle, state, x, is, le) (inl (other, line, y, first, told)) = fault-apart snap one other cycle line state x y is first
  snap-apart snap said (one, cycle, state, x, is, le) (inr (other, c, s, y, is', lt, told)) =
      omega (arith, le, lt, cycle-same snap one other cycle c state s x y is is', (meant-given agree one other x y).0)

  snap-status : (snap : List ℕ) (said : Said) → TellsNoSnap (to_save models) circuit partition trace snap said ⊎ TellsLate (to_save models) circuit partition trace snap said → said.status ≡ 10
  snap-status snap said (inl (meant, line, x, first, told)) = ap (λ (s : Said). s.status) told
  snap-status snap said (inr (meant, cycle, state, x, is, lt, told)) = ap (λ (s : Said). s.status) told

  late-apart : (snap : List ℕ) (said other : Said) → TellsLate (to_save models) circuit partition trace snap said → TellsNoSnap (to_save models) circuit partition trace snap other → ⊥
  late-apart snap said other (one, cycle, state, x, is, lt, told) (another, line, y, first, told') = fault-apart snap one another cycle line state x y is first

  no-snap-once : (snap : List ℕ) (said other : Said) → TellsNoSnap (to_save models) circuit partition trace snap said → TellsNoSnap (to_save models) circuit partition trace snap other → said ≡ other
  no-snap-once snap said other (one, line, x, first, told) (another, line', y, first', told') =
      told
      ∙ ap (λ (l : ℕ). snap_fault (fault_words (S1 l)))
      (one-fault (meant_reference another) another.design.tree snap line line' (subst (λ (m : Meaning). IsFirstFault (meant_reference m) m.design.tree snap line) (meant-is agree one another x y) first) first')
      ∙ sym told'

  late-once : (snap : List ℕ) (said other : Said) → TellsLate (to_save models) circuit partition trace snap said → TellsLate (to_save models) circuit partition trace snap other → said ≡ other
  late-once snap said other (one, c, s, x, is, lt, told) (another, d, t, y, is', lt', told') =
      told ∙ ap (λ (k : ℕ). few_rows k one.cycles) (cycle-same snap one another c d s t x y is is') ∙ ap (few_rows d) (meant-given agree one another x y).0 ∙ sym told'

  snap-once : (snap : List ℕ) (said other : Said) → TellsNoSnap (to_save models) circuit partition trace snap said ⊎ TellsLate (to_save models) circuit partition trace snap said → TellsNoSnap (to_save models) circuit partition trace snap other ⊎ TellsLate (to_save models) circuit partition trace snap other → said ≡ other
  snap-once snap said other (inl a) (inl b) = no-snap-once snap said other a b
  snap-once snap said other (inl a) (inr b) = absurd (late-apart snap other said b a)
  snap-once snap said other (inr a) (inl b) = absurd (late-apart snap said other a b)
  snap-once snap said other (inr a) (inr b) = late-once snap said other a b

  -- nothing is reported for a snapshot that can be resumed, and all that is reported for other bytes has the status 10
  pub snap_file-exact : (name : List ℕ) → IsExactFile (snap_file_for (to_save models) circuit partition trace name)
  snap_file-exact name = exact-by 10 (inr (inr (inr (inr refl)))) snap-apart snap-status

  -- at most one thing is reported for other bytes
  pub snap_file-unique : (name : List ℕ) → IsUniqueFile (snap_file_for (to_save models) circuit partition trace name)
  snap_file-unique name = snap-once

-- ---- the text

-- the rows of two runs from the same snapshot have the same text
rest-same : (meant : Meaning) (cycle : ℕ) (state : State) (rows others : List (List ℕ)) {known : Known} {circuit partition trace : List ℕ} → AreMeant known circuit partition trace meant
    → AreRows (meant_reference meant) (start_at meant cycle state) meant.columns meant.cycles rows → AreRows (meant_reference meant) (start_at meant cycle state) meant.columns meant.cycles others
    → rest_text meant cycle rows ≡ rest_text meant cycle others
rest-same meant cycle state rows others are run ran =
    let order = reference_order meant.design meant.request in
    let ports = shown_ports meant.design meant.request in
    texts-from (meant_reference meant) order (meant-ordered are) (start_at meant cycle state) meant.columns meant.cycles rows others run.run ran.run ports (outputs_kept meant.design meant.request) (rest_rows meant cycle rows)
    ∙ ap (text_from ports (columns_of (outputs_kept meant.design meant.request) others) cycle)
    (counts-from (meant_reference meant) order (meant-ordered are) (start_at meant cycle state) meant.columns meant.cycles rows others run.run ran.run (plan_stops meant.design meant.request)
    (stops_kept meant.design meant.request) (meant.cycles - cycle))

-- the text is the only one
pub resumed-only : DesignsAgree → {known : Known} {circuit partition trace snap : List ℕ} (meant : Meaning) (cycle : ℕ) (state : State) (rows : List (List ℕ)) → HasRest known circuit partition trace snap meant cycle state rows
    → IsOnly (IsResumedText known circuit partition trace snap) (rest_text meant cycle rows)
resumed-only agree {known} {circuit} {partition} {trace} {snap} meant cycle state rows has = record { is = (meant, cycle, state, rows, has, refl); only = only }
  where
    only : (text : List ℕ) → IsResumedText known circuit partition trace snap text → text ≡ rest_text meant cycle rows
    only text (other, c, s, others, y, is) =
        let same = has.only c s (meant-snap agree other meant y.are has.are snap c s y.reads) in
        let moved : AreRows (meant_reference meant) (start_at meant c s) meant.columns meant.cycles others =
        subst (λ (m : Meaning). AreRows (meant_reference m) (start_at m c s) m.columns m.cycles others) (meant-is agree other meant y.are has.are) y.run in
        is
        ∙ ap (λ (m : Meaning). rest_text m c others) (meant-is agree other meant y.are has.are)
        ∙ ap (λ (k : ℕ). rest_text meant k others) same.0
        ∙ rest-same meant cycle state others rows has.are
        (subst (λ (k : ℕ). AreRows (meant_reference meant) (start_at meant k state) meant.columns meant.cycles others) same.0
        (subst (λ (z : State). AreRows (meant_reference meant) (start_at meant c z) meant.columns meant.cycles others) same.1 moved)) has.run
