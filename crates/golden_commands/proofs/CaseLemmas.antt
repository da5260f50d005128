-- What a case is to its circuit. How a command ends whose first files are read: what it ends with behind them is how it ends.
use Rattle.std.proofs.Common.{◌≡◌, ℕ, zero, suc, List, [], ◌∷◌, None, true, subst, sym, ap, ◌∙◌, inl, inr, arith}
use Rattle.std.specs.List.{list_all}
use Rattle.std.specs.Prelude.{Contains, Result}
use Rattle.std.proofs.lemmas.Bool.{and_parts}
use Rattle.std.proofs.lemmas.List.Elements.{All-contains, All-map}
use Rattle.gg_io.specs.Told.{Told}
use Rattle.gg_flat.specs.Circuit.{FlatCircuit}
use Rattle.gg_cut_plan.specs.Models.{model_names}
use Rattle.gg_flat.specs.Order.{IsOrder}
use Rattle.gg_flat_tree.specs.Tree.{InstanceTree}
use Rattle.gg_flat.proofs.OrderLemmas.{IsLoop-none}
use Rattle.gg_cut_plan.specs.Bridges.{Models}
use Rattle.gg_cut_plan.specs.Fault.{first_fault}
use Rattle.gg_cut_plan.specs.Held.{AreHeldOnce}
use Rattle.gg_cut_reference.specs.fitting.Fitting.{AreModels}
use Rattle.gg_part.specs.KeepsToTree.{KeepsToTree}
use Rattle.gg_order.specs.Design.{IsDesign, Ordered}
use Rattle.gg_partfile.specs.declared.request.Request.{Request}
use Rattle.gg_front.specs.inside.Paths.{HavePaths}
use Rattle.gg_front.proofs.FreshLemmas.{none-bridged, none-piped}
use Rattle.gg_front.proofs.PortLemmas.{have-paths}
use Rattle.gg_snap.specs.text.Known.{CanSave}
use Rattle.gg_cut_reference.specs.Made.{IsFresh, plan_reference}
use Rattle.gg_cut_reference.specs.whole.Whole.{CanBridge, plan_circuit}
use Rattle.gg_order.proofs.FoundLemmas.{found-is}
use Rattle.gg_cut_reference.proofs.WholeLemmas.PlanLemmas.{circuit-formed, circuit-ordered}
use Rattle.gg_build.specs.Build.{circuit_order}
use Rattle.gg_io.specs.Said.{Said}
use Rattle.gg_io.specs.Order.{Order}
use Rattle.gg_io.specs.Ends.{Loads, Puts}
use Rattle.gg_io.specs.inside.Endings.{EndedOn, StopsBy}
use Rattle.gg_io.specs.declared.endings.Ending.{Ending}
use Rattle.gg_io.proofs.EndingLemmas.{GoOn, accepted-ends, later-stops, loads-same}
use Rattle.golden_commands.specs.Case.{IsCase}
use Rattle.golden_commands.specs.inside.Case.{CaseRead, FedRead, case_order, trace_order}
use Rattle.golden_commands.specs.Commands.{Asked, read_order}
use Rattle.golden_commands.specs.inside.Commands.{fed_order}
use Rattle.golden_commands.specs.Handed.{AreHandedIn, IsBridgeName, is_word_byte}
use Rattle.golden_commands.specs.Partition.{IsPartitionFor, Known}
use Rattle.golden_commands.specs.Run.{IsTraceFor}
use Rattle.golden_commands.specs.declared.case.Case.{Case}
use Rattle.golden_commands.specs.declared.case.Fed.{Fed}
use Rattle.golden_commands.proofs.AloneLemmas.{faultless-first}

-- ---- the circuit

-- no path of a circuit's signals begins with `pipe:`
pub case-fresh : {known : Known} {circuit partition : List ℕ} {capacity : ℕ} {case : Case} → IsCase known circuit partition capacity case → IsFresh case.design.circuit
case-fresh {circuit = circuit} {case = case} is = λ s path lt.
    let means = is.means.means in
    none-piped circuit means.text.circuit case.design.circuit means.text.spelt means.flattened s path

-- a name has no dot
name-plain : (name : List ℕ) → list_all is_word_byte name ≡ true → ¬ Contains name 46
name-plain [] e h = omega (arith, h.1)
name-plain (b ∷ name) e (zero, known, is) = let bad : is_word_byte 46 ≡ true = ap is_word_byte (sym is) ∙ (and_parts (is_word_byte b) (list_all is_word_byte name) e).0 in absurd (cc)
name-plain (b ∷ name) e (suc k, known, is) = name-plain name (and_parts (is_word_byte b) (list_all is_word_byte name) e).1 (k, omega (arith, known), is)

-- what is handed in can be the models of bridges
pub handed-models : {models : Models} → AreHandedIn models → AreModels models
handed-models {models} handed =
    record { each = handed.each; plain = λ name among. name-plain name (All-contains IsBridgeName (model_names models) name (All-map IsBridgeName (λ model. model.0) models handed.names) among).bytes }

-- the models of the bridges can be joined in
pub case-can : {known : Known} {circuit partition : List ℕ} {capacity : ℕ} {case : Case} → IsCase known circuit partition capacity case → CanBridge case.design case.cut.request known.models
case-can {circuit = circuit} {case = case} is =
    let means = is.means.means in
    record {
      design_is = is.designed;
      keeps = is.keeps;
      free = record {
        pipe = λ s path lt. none-piped circuit means.text.circuit case.design.circuit means.text.spelt means.flattened s path;
        bridge = λ s path lt. none-bridged circuit means.text.circuit case.design.circuit means.text.spelt means.flattened s path;
      };
      faultless = is.cuts.faultless;
      are = handed-models is.handed;
    }

-- the request has no fault, its bridges aside
pub case-faultless : {known : Known} {circuit partition : List ℕ} {capacity : ℕ} {case : Case} → IsCase known circuit partition capacity case → first_fault case.design case.cut.request ≡ None
case-faultless {known = known} {case = case} is = faultless-first case.design case.cut.request known.models is.cuts.faultless

-- the circuit of the plan has an order
pub case-ordered : {known : Known} {circuit partition : List ℕ} {capacity : ℕ} {case : Case} → IsCase known circuit partition capacity case
    → IsOrder (plan_circuit case.design case.cut.request known.models) (circuit_order case.design case.cut.request known.models)
case-ordered {known = known} {case = case} is =
    let circuit = plan_circuit case.design case.cut.request known.models in
    let formed = circuit-formed case.design case.cut.request known.models (case-can is) in
    let ordered = circuit-ordered case.design case.cut.request known.models (case-can is) in
    found-is circuit formed (λ loop around. IsLoop-none circuit ordered.order loop ordered.is around)

-- the paths of its signals and of its memories have only characters of names
pub case-paths : {known : Known} {circuit partition : List ℕ} {capacity : ℕ} {case : Case} → IsCase known circuit partition capacity case → HavePaths case.design.circuit case.design.tree
case-paths {circuit = circuit} {case = case} is =
    let means = is.means.means in
    have-paths circuit means.text.circuit case.design.circuit case.design.tree means.text.spelt means.flattened is.means.grown is.keeps.fitting is.keeps.scoped

-- the reference circuit can be saved
abbrev pub PlansCanSave : Type 0
PlansCanSave =
    (design : Ordered) (request : Request) → IsDesign design → KeepsToTree design.circuit design.tree → AreHeldOnce design.circuit → HavePaths design.circuit design.tree → first_fault design request ≡ None
    → CanSave (plan_reference design request) design.tree

pub case-can-save : PlansCanSave → {known : Known} {circuit partition : List ℕ} {capacity : ℕ} {case : Case} → IsCase known circuit partition capacity case → CanSave (plan_reference case.design case.cut.request) case.design.tree
case-can-save can {case = case} is = can case.design case.cut.request is.designed is.keeps is.held (case-paths is) (case-faultless is)

-- what holds of a circuit that was made and of its tree holds of those that they are
pub of-made : (P : FlatCircuit → InstanceTree → Type 0) {f g : FlatCircuit} {t u : InstanceTree} → f ≡ g → t ≡ u → P f t → P g u
of-made P {f = f} {u = u} circuit tree holds = subst (λ (x : FlatCircuit). P x u) circuit (subst (P f) tree holds)

-- ---- refusals

-- what is reported for the first two files is reported whatever follows them
pub case-stops : {known : Known} (loads : Loads) {said : Said} (asked : Asked) (next : (circuit partition : List ℕ) → Order) → StopsBy loads (case_order known asked) said → StopsBy loads (read_order known asked next) said
case-stops loads asked next (inl h) = inl h
case-stops loads asked next (inr (c, can, accepts, inl h)) = inr (c, can, accepts, inl h)
case-stops loads asked next (inr (c, can, accepts, inr (p, can', accepts', h))) = absurd h

-- the same of the first three
pub fed-stops : {known : Known} (loads : Loads) {said : Said} (asked : Asked) (trace : List ℕ) (next : (circuit partition trace : List ℕ) → Order)
    → StopsBy loads (trace_order known asked trace) said → StopsBy loads (fed_order known asked trace next) said
fed-stops loads asked trace next (inl h) = inl h
fed-stops loads asked trace next (inr (c, can, accepts, inl h)) = inr (c, can, accepts, inl h)
fed-stops loads asked trace next (inr (c, can, accepts, inr (p, can', accepts', inl h))) = inr (c, can, accepts, inr (p, can', accepts', inl h))
fed-stops loads asked trace next (inr (c, can, accepts, inr (p, can', accepts', inr (t, can'', accepts'', h)))) = absurd h

-- ---- what was read

-- the partition that was read is one of the circuit that was read
case-fits : {known : Known} {files : List ℕ → Told} {asked : Asked} {case : Case} (read : CaseRead known files asked case) → IsPartitionFor known read.circuit read.partition
case-fits {case = case} read = (case.design, read.is.means, (case.cut.request, read.is.cuts))

-- and so is the trace
fed-feeds : {known : Known} {files : List ℕ → Told} {asked : Asked} {trace : List ℕ} {fed : Fed} (read : FedRead known files asked trace fed) → IsTraceFor read.read.circuit read.read.partition read.bytes
fed-feeds {fed = fed} read = (fed.case.design.circuit, read.read.is.means.means, (fed.case.cut.request, read.read.is.cuts.asks, (fed.trace.rows, fed.trace.columns, read.is.feeds.feeds)))

module _ {whole rest : Loads} (on : GoOn whole rest) where
  -- the first two files were read, and then one that follows them was refused
  pub case-later : {known : Known} {asked : Asked} {case : Case} {said : Said} (next : (circuit partition : List ℕ) → Order) (read : CaseRead known whole.files asked case)
      → StopsBy rest (next read.circuit read.partition) said → StopsBy whole (read_order known asked next) said
  case-later next read stops = inr (read.circuit, read.at_circuit, read.is.means.means.text, later-stops on (next read.circuit) read.partition read.at_partition (case-fits read) stops)

  module _ {T : Type 0} {out : Puts} {r : Result T Ending} where
    -- the first two files were read, and what follows them has ended
    pub case-ends : {known : Known} {asked : Asked} {case : Case} {next : (circuit partition : List ℕ) → Order} (read : CaseRead known whole.files asked case)
        → EndedOn rest out (next read.circuit read.partition) r → EndedOn whole out (read_order known asked next) r
    case-ends read ended = accepted-ends loads-same read.circuit read.at_circuit read.is.means.means.text (accepted-ends on read.partition read.at_partition (case-fits read) ended)

    -- the first three files were read, and what follows them has ended
    pub fed-ends : {known : Known} {asked : Asked} {trace : List ℕ} {fed : Fed} {next : (circuit partition trace : List ℕ) → Order} (read : FedRead known whole.files asked trace fed)
        → EndedOn rest out (next read.read.circuit read.read.partition read.bytes) r → EndedOn whole out (fed_order known asked trace next) r
    fed-ends read ended =
        accepted-ends loads-same read.read.circuit read.read.at_circuit read.read.is.means.means.text
        (accepted-ends loads-same read.read.partition read.read.at_partition (case-fits read.read) (accepted-ends on read.bytes read.at_trace (fed-feeds read) ended))
