-- A partition has at most one fault, whichever design the circuit's bytes are taken to mean.
use Rattle.std.proofs.Common.{◌≡◌, ◌≢◌, ℕ, ◌++◌, List, [], None, Some, true, refl, sym, ap, ◌∙◌, subst, inl, inr}
use Rattle.std.specs.Prelude.{Err, IfOk, Ok, Result, codes}
use Rattle.std.proofs.lemmas.Option.{same_Some}
use Rattle.gg_cut_plan.specs.Bridges.{Models}
use Rattle.gg_cut_plan.specs.Fault.{first_fault_with}
use Rattle.gg_cut_plan.specs.Fault as cut
use Rattle.gg_cut_plan.specs.declared.fault.CutFault.{CutFault}
use Rattle.gg_cut_plan.specs.declared.fault.CutFault.TheVariants as cut_fault
use Rattle.gg_cut_reference.specs.inside.Alike.{AreAlike}
use Rattle.gg_cut_reference.proofs.TextLemmas.SameCutLemmas.{alike-is}
use Rattle.gg_flat.specs.Circuit.{FlatCircuit}
use Rattle.gg_front.specs.Meaning.{Means, MeansDesign}
use Rattle.gg_io.specs.Told.{Told}
use Rattle.gg_order.specs.Design.{Ordered}
use Rattle.gg_partfile.specs.Fault as file
use Rattle.gg_partfile.proofs.OnceLemmas.{request-once}
use Rattle.gg_partfile.specs.Partition.{IsPartition}
use Rattle.gg_partfile.specs.declared.fault.PartFault.TheVariants as file_fault
use Rattle.gg_partfile.specs.declared.request.Request.{Request}
use Rattle.gg_io.specs.Said.{Said}
use Rattle.gg_io.specs.inside.Endings.{IfRefused}
use Rattle.gg_io.specs.declared.endings.Ending.{Ending}
use Rattle.gg_io.proofs.EndingLemmas.{IfRefused-map}
use Rattle.golden_commands.specs.declared.partition.Cut.{Cut}
use Rattle.golden_commands.specs.Lines.{partition_fault}
use Rattle.gg_io.specs.Ends.{Loads}
use Rattle.gg_io.specs.Order.{CanBe, IsExactFile, IsUniqueFile, IsRefused}
use Rattle.gg_io.proofs.OrderLemmas.{exact-by}
use Rattle.golden_commands.specs.Partition.{Cuts, HasFault, Known, OfBridges, OfFile, OfRequest, IsPartitionFor, TellsPartitionOf, TellsPartitionFor, partition_file_for}
use Rattle.golden_commands.specs.inside.Partition.{partition_file_of}

-- ---- the fault of bytes

-- for all designs that are alike, a request has the same first fault
pub fault-with-same : (models : Models) (one other : Ordered) → AreAlike one other → (request : Request) → first_fault_with one models request ≡ first_fault_with other models request
fault-with-same models one other s request = ap (λ (design : Ordered). first_fault_with design models request) (alike-is one other s)

-- a fault for one design is a fault for a design that is alike
fault-carried : (known : Known) (one other : Ordered) → AreAlike one other → (bytes text : List ℕ) → HasFault known one bytes text → HasFault known other bytes text
fault-carried known one other a bytes text (OfFile key wrong is) = OfFile key wrong is
fault-carried known one other a bytes text (OfRequest request asks fault first is) = OfRequest request asks fault (sym (fault-with-same known.models one other a request) ∙ first) is
fault-carried known one other a bytes text (OfBridges request asks none saves some is) = OfBridges request asks (sym (fault-with-same known.models one other a request) ∙ none) saves some is

-- bytes that hold a request aren't refused for a key
abbrev pub FileApart : Type 0
FileApart = (bytes key : List ℕ) (request : Request) → IsPartition bytes request → ¬ file.IsRefused bytes key

-- bytes are refused for at most one key
abbrev pub OneKey : Type 0
OneKey = (bytes first second : List ℕ) → file.IsRefused bytes first → file.IsRefused bytes second → first ≡ second

-- all designs that some bytes mean are alike
abbrev pub DesignsAgree : Type 0
DesignsAgree = (bytes : List ℕ) (one other : Ordered) → MeansDesign bytes one → MeansDesign bytes other → AreAlike one other

pub designs-agree : ((bytes : List ℕ) (one other : FlatCircuit) → Means bytes one → Means bytes other → one ≡ other)
    → ((bytes : List ℕ) (one other : Ordered) → MeansDesign bytes one → MeansDesign bytes other → one.tree ≡ other.tree)
    → DesignsAgree
designs-agree flat tree = λ bytes one other a b. record { circuit = flat bytes one.circuit other.circuit a.means b.means; tree = tree bytes one other a b }

cut-once : (models : Models) (design : Ordered) (a b : Request) (one other : CutFault) → a ≡ b → first_fault_with design models a ≡ Some one → first_fault_with design models b ≡ Some other → one ≡ other
cut-once models design a b one other e p q = same_Some one other (sym p ∙ ap (first_fault_with design models) e ∙ q)

none-some : (models : Models) (design : Ordered) (a b : Request) (fault : CutFault) → a ≡ b → first_fault_with design models a ≡ None → first_fault_with design models b ≡ Some fault → ⊥
none-some models design a b fault e p q = let h : None ≡ Some fault = sym p ∙ ap (first_fault_with design models) e ∙ q in absurd (cc)

pub fault-once : (known : Known) → FileApart → OneKey → (design : Ordered) (bytes text other : List ℕ) → HasFault known design bytes text → HasFault known design bytes other → text ≡ other
fault-once known apart key design bytes text other (OfFile k wrong is) (OfFile k' wrong' is') =
    is ∙ ap (λ (x : List ℕ). file.fault_text (file_fault.WrongKey x)) (key bytes k k' wrong wrong') ∙ sym is'
fault-once known apart key design bytes text other (OfFile k wrong is) (OfRequest request asks fault first is') = absurd (apart bytes k request asks wrong)
fault-once known apart key design bytes text other (OfFile k wrong is) (OfBridges request asks none saves some is') = absurd (apart bytes k request asks wrong)
fault-once known apart key design bytes text other (OfRequest request asks fault first is) (OfFile k wrong is') = absurd (apart bytes k request asks wrong)
fault-once known apart key design bytes text other (OfRequest request asks fault first is) (OfRequest request' asks' fault' first' is') =
    is ∙ ap (λ (x : CutFault). cut.fault_text x) (cut-once known.models design request request' fault fault' (request-once bytes request request' asks asks') first first') ∙ sym is'
fault-once known apart key design bytes text other (OfRequest request asks fault first is) (OfBridges request' asks' none saves some is') =
    absurd (none-some known.models design request' request fault (request-once bytes request' request asks' asks) none first)
fault-once known apart key design bytes text other (OfBridges request asks none saves some is) (OfFile k wrong is') = absurd (apart bytes k request asks wrong)
fault-once known apart key design bytes text other (OfBridges request asks none saves some is) (OfRequest request' asks' fault first is') =
    absurd (none-some known.models design request request' fault (request-once bytes request request' asks asks') none first)
fault-once known apart key design bytes text other (OfBridges request asks none saves some is) (OfBridges request' asks' none' saves' some' is') = is ∙ sym is'

-- bytes that hold a request without a fault have no fault
faultless : (known : Known) → FileApart → (design : Ordered) (bytes text : List ℕ) (request : Request) → Cuts known design bytes request → HasFault known design bytes text → ⊥
faultless known apart design bytes text request cuts (OfFile key wrong is) = apart bytes key request cuts.asks wrong
faultless known apart design bytes text request cuts (OfRequest request' asks fault first is) =
    none-some known.models design request request' fault (request-once bytes request request' cuts.asks asks) cuts.faultless first
faultless known apart design bytes text request cuts (OfBridges request' asks none saves some is) =
    some (subst (λ (r : Request). r.bridges ≡ []) (request-once bytes request request' cuts.asks asks) (cuts.alone saves))

module _ (known : Known) (agree : DesignsAgree) (apart : FileApart) (key : OneKey) (circuit : List ℕ) where
  partition-apart : (bytes : List ℕ) (said : Said) → IsPartitionFor known circuit bytes → TellsPartitionFor known circuit bytes said → ⊥
  partition-apart bytes said (one, means, (request, cuts)) (other, means', (text, has, is)) =
      faultless known apart one bytes text request cuts (fault-carried known other one (agree circuit other one means' means) bytes text has)

  partition-once : (bytes : List ℕ) (said said' : Said) → TellsPartitionFor known circuit bytes said → TellsPartitionFor known circuit bytes said' → said ≡ said'
  partition-once bytes said said' (one, means, (text, has, is)) (other, means', (text', has', is')) =
      is
      ∙ ap (λ (x : List ℕ). partition_fault x) (fault-once known apart key other bytes text text' (fault-carried known one other (agree circuit one other means means') bytes text has) has')
      ∙ sym is'

  partition-status : (bytes : List ℕ) (said : Said) → TellsPartitionFor known circuit bytes said → said.status ≡ 6
  partition-status bytes said (one, means, (text, has, is)) = ap (λ (s : Said). s.status) is

  -- nothing is reported for a partition without a fault, and all that is reported for others has the status 6
  pub partition_file-exact : (name : List ℕ) → IsExactFile (partition_file_for known circuit name)
  partition_file-exact name = exact-by 6 (inr (inl refl)) partition-apart partition-status

  -- at most one thing is reported for a partition
  pub partition_file-unique : (name : List ℕ) → IsUniqueFile (partition_file_for known circuit name)
  partition_file-unique name = partition-once

-- what can be a partition's file for a design can be one for some bytes
pub partition-can : {known : Known} {files : List ℕ → Told} {circuit : List ℕ} {design : Ordered} {name bytes : List ℕ} → CanBe files (partition_file_of known design name) bytes → CanBe files (partition_file_for known circuit name) bytes
partition-can can = record { held = can.held; within = can.within }

-- a partition that is refused for a design that some bytes mean is refused for these bytes
pub partition-refused : {known : Known} (loads : Loads) {circuit : List ℕ} {design : Ordered} {name : List ℕ} → MeansDesign circuit design
    → (said : Said) → IsRefused loads.files loads.lost loads.cut (partition_file_of known design name) said → IsRefused loads.files loads.lost loads.cut (partition_file_for known circuit name) said
partition-refused loads means said (inl load) = inl load
partition-refused loads {design = design} means said (inr (bytes, can, tells)) = inr (bytes, record { held = can.held; within = can.within }, (design, means, tells))

-- ---- what is reported for a fault

-- if a key is refused, this may be reported for the bytes
pub file-refused : (known : Known) (design : Ordered) (bytes slice : List ℕ) (said : Said) → slice ≡ bytes
    → (key : List ℕ) × file.IsRefused slice key × (said ≡ partition_fault (codes "P1 " ++ key)) → TellsPartitionOf known design bytes said
file-refused known design bytes slice said e (key, wrong, is) =
    (codes "P1 " ++ key, OfFile key (subst (λ (b : List ℕ). file.IsRefused b key) e wrong) refl, is)

-- if the request that the bytes hold has a fault, the first one may be reported for the bytes
pub request-refused : (known : Known) (design : Ordered) (bytes slice : List ℕ) (request : Request) (said : Said) → slice ≡ bytes → IsPartition slice request
    → (fault : CutFault) × (first_fault_with design known.models request ≡ Some fault) × (said ≡ partition_fault (cut.fault_text fault)) → TellsPartitionOf known design bytes said
request-refused known design bytes slice request said e asks (fault, first, is) =
    (cut.fault_text fault, OfRequest request (subst (λ (b : List ℕ). IsPartition b request) e asks) fault first refl, is)

-- if the request has no fault and asks for a bridge where none may be asked, P17 may be reported for the bytes
pub bridges-refused : (known : Known) (design : Ordered) (bytes slice : List ℕ) (request : Request) (said : Said) → slice ≡ bytes → IsPartition slice request
    → first_fault_with design known.models request ≡ None → known.saves ≡ true → request.bridges ≢ [] → said ≡ partition_fault (codes "P17") → TellsPartitionOf known design bytes said
bridges-refused known design bytes slice request said e asks none saves some is =
    (codes "P17", OfBridges request (subst (λ (b : List ℕ). IsPartition b request) e asks) none saves some refl, is)

-- what is reported for the fault that was told is the request's first
pub request-told : (models : Models) (design : Ordered) (request : Request) (fault : CutFault) (ending : Ending) → cut.IsTold (first_fault_with design models request) fault
    → IfRefused (λ said. (fault ≢ cut_fault.NoMemory) × (said ≡ partition_fault (cut.fault_text fault))) ending
    → IfRefused (λ said. (first : CutFault) × (first_fault_with design models request ≡ Some first) × (said ≡ partition_fault (cut.fault_text first))) ending
request-told models design request fault ending (inl wants) = IfRefused-map (λ said h. absurd (h.0 wants)) ending
request-told models design request fault ending (inr first) = IfRefused-map (λ said h. (fault, first, h.1)) ending

-- ---- a cut that the command allows

-- the cut of a request that has no fault is one of the partition, if the command allows it
pub cuts-allowed : (known : Known) (design : Ordered) (bytes : List ℕ) (request : Request) (cut : Cut) → IsPartition bytes request → cut.request ≡ request → first_fault_with design known.models request ≡ None
    → {files : List ℕ → Told} {name : List ℕ} (result : Result Cut Ending) → CanBe files (partition_file_of known design name) bytes → IfOk result (λ own. own ≡ cut) → IfOk result (λ own. known.saves ≡ true → cut.request.bridges ≡ [])
    → IfOk result (λ own. (bytes : List ℕ) × CanBe files (partition_file_of known design name) bytes × Cuts known design bytes own.request)
cuts-allowed known design bytes request cut asks of none (Ok own) can same alone =
    let is : own.request ≡ request = ap (λ (x : Cut). x.request) same ∙ of in
    (bytes, can, subst (Cuts known design bytes) (sym is) (record { asks = asks; faultless = none; alone = λ saves. ap (λ (r : Request). r.bridges) (sym of) ∙ alone saves }))
cuts-allowed known design bytes request cut asks of none (Err ending) can same alone = tt

-- what is reported for a cut that the command doesn't allow may be reported for the bytes
pub allowed-refused : (known : Known) (design : Ordered) (bytes slice : List ℕ) (request : Request) (cut : Cut) (said : Said) → slice ≡ bytes → IsPartition slice request → cut.request ≡ request → first_fault_with design known.models request ≡ None
    → (known.saves ≡ true) × (cut.request.bridges ≢ []) × (said ≡ partition_fault (codes "P17")) → TellsPartitionOf known design bytes said
allowed-refused known design bytes slice request cut said e asks of none (saves, some, is) =
    bridges-refused known design bytes slice request said e asks none saves (λ alone. some (ap (λ (r : Request). r.bridges) of ∙ alone)) is
