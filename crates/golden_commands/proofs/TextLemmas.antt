-- The run of a design with the pipes and the bridges of a request has only one text.
use Rattle.std.proofs.Common.{◌≡◌, ℕ, List, sym, ap, ◌∙◌, subst}
use Rattle.gg_flat.specs.Circuit.{FlatCircuit}
use Rattle.gg_flat.specs.Order.{IsOrder}
use Rattle.gg_flat.specs.Run.{IsRunFrom, Start, clocked_start}
use Rattle.gg_front.specs.Meaning.{Means, MeansDesign}
use Rattle.gg_order.specs.Design.{Ordered}
use Rattle.gg_partfile.specs.Partition.{IsPartition}
use Rattle.gg_partfile.specs.declared.request.Request.{Request}
use Rattle.gg_partfile.proofs.OnceLemmas.{request-once}
use Rattle.gg_cut_reference.specs.whole.Whole.{plan_circuit}
use Rattle.gg_cut_plan.specs.Bridges.{Models}
use Rattle.gg_cut_plan.specs.Clocks.{ratios_of}
use Rattle.gg_cut_reference.specs.inside.Alike.{AreAlike}
use Rattle.gg_cut_reference.proofs.TextLemmas.SameCutLemmas.{alike-is}
use Rattle.golden_commands.specs.Partition.{Known}
use Rattle.golden_commands.specs.Run.{IsTextOf}
use Rattle.golden_commands.specs.RunText.{Feeds, FeedsOnly, IsRunBy, run_text}
use Rattle.golden_commands.proofs.PartitionLemmas.{DesignsAgree}

-- some bytes mean at most one flat circuit
abbrev pub OneFlat : Type 0
OneFlat = (bytes : List ℕ) (one other : FlatCircuit) → Means bytes one → Means bytes other → one ≡ other

-- a circuit with an order has one run from a start on the same columns
abbrev pub OneRun : Type 0
OneRun = (circuit : FlatCircuit) (order : List ℕ) (start : Start) (columns : List (List ℕ)) (n : ℕ) (rows others : List (List ℕ)) → IsOrder circuit order → IsRunFrom circuit start columns n rows → IsRunFrom circuit start columns n others → rows ≡ others

-- designs that are alike have the same circuit with the models of the bridges
pub circuit-same : (models : Models) (one other : Ordered) → AreAlike one other → (request requested : Request) → request ≡ requested → plan_circuit one request models ≡ plan_circuit other requested models
circuit-same models one other s request requested e =
    ap (λ (r : Request). plan_circuit one r models) e ∙ ap (λ (design : Ordered). plan_circuit design requested models) (alike-is one other s)

-- the run of a design is that of any that is alike
pub alike-run : (models : Models) (one other : Ordered) → AreAlike one other → (request requested : Request) → request ≡ requested → (columns : List (List ℕ)) (n : ℕ) (rows : List (List ℕ)) → IsRunBy one request models columns n rows → IsRunBy other requested models columns n rows
alike-run models one other s request requested e columns n rows run =
    subst (λ (design : Ordered). IsRunBy design requested models columns n rows) (alike-is one other s) (subst (λ (r : Request). IsRunBy one r models columns n rows) e run)

-- what a trace gives to the inputs of one circuit and one request it gives to those of others that are the same
pub feeds-moved : (one other : FlatCircuit) (request requested : Request) → one ≡ other → request ≡ requested → (trace : List ℕ) (n : ℕ) (columns : List (List ℕ)) → Feeds one request trace n columns → Feeds other requested trace n columns
feeds-moved one other request requested e r trace n columns feeds =
    subst (λ (f : FlatCircuit). Feeds f requested trace n columns) e (subst (λ (q : Request). Feeds one q trace n columns) r feeds)

-- Any run of an alike design, with the same request, on the same trace has as many cycles and the same rows.
pub same-run : OneRun → (models : Models) (trace : List ℕ) (design : Ordered) (request : Request) (order : List ℕ) → IsOrder (plan_circuit design request models) order
    → (n : ℕ) (columns rows : List (List ℕ)) → IsRunBy design request models columns n rows → FeedsOnly design.circuit request trace n columns
    → (another : Ordered) (requested : Request) → AreAlike another design → requested ≡ request → (k : ℕ) (values others : List (List ℕ)) → Feeds another.circuit requested trace k values → IsRunBy another requested models values k others → (n ≡ k) × (others ≡ rows)
same-run once models trace design request order ordered n columns rows run feeds another requested alike e k values others fed ran =
    let same = feeds.only k values (feeds-moved another.circuit design.circuit requested request alike.circuit e trace k values fed) in
    let turned : IsRunBy design request models columns n others =
    subst (λ (c : ℕ). IsRunBy design request models columns c others) (sym same.0)
    (subst (λ (c : List (List ℕ)). IsRunBy design request models c k others) (sym same.1) (alike-run models another design alike requested request e values k others ran)) in
    (same.0, sym (once (plan_circuit design request models) order (clocked_start (plan_circuit design request models) (ratios_of design.tree request)) columns n rows others ordered run turned))

-- and each text of a run is the text of this one
pub only-text : DesignsAgree → OneRun → (known : Known) (circuit partition trace : List ℕ) (design : Ordered) (request : Request) (order : List ℕ) → IsOrder (plan_circuit design request known.models) order → MeansDesign circuit design → IsPartition partition request
    → (n : ℕ) (columns rows : List (List ℕ)) → IsRunBy design request known.models columns n rows → FeedsOnly design.circuit request trace n columns
    → (other : List ℕ) → IsTextOf known circuit partition trace other → other ≡ run_text design request rows n
only-text agree once known circuit partition trace design request order ordered means asks n columns rows run feeds other (another, meant, (requested, asked, text)) =
    let alike : AreAlike another design = agree circuit another design meant means in
    let e : requested ≡ request = request-once partition requested request asked asks in
    let same = same-run once known.models trace design request order ordered n columns rows run feeds another requested alike e text.cycles text.columns text.rows text.feeds text.run in
    text.is
    ∙ ap (λ (r : Request). run_text another r text.rows text.cycles) e
    ∙ ap (λ (d : Ordered). run_text d request text.rows text.cycles) (alike-is another design alike)
    ∙ ap (λ (x : List (List ℕ)). run_text design request x text.cycles) same.1
    ∙ ap (run_text design request rows) (sym same.0)
