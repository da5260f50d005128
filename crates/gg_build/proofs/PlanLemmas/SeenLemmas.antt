-- What a machine of a plan has of the circuit that the network computes: a run, and the state in which it begins. The machine's part
-- is a part of that circuit too, but for its paths.
use Rattle.std.proofs.Common.{◌≡◌, ℕ, List, None, map, subst}
use Rattle.gg_flat.specs.Circuit.{FlatCircuit}
use Rattle.gg_flat.specs.State.{IsState, State}
use Rattle.gg_flat.specs.Run.{Start}
use Rattle.gg_part.specs.KeepsToTree.{KeepsToTree}
use Rattle.gg_order.specs.Design.{Ordered, IsDesign}
use Rattle.gg_partfile.specs.declared.request.Request.{Request}
use Rattle.gg_part.specs.Part.{IsPart}
use Rattle.gg_part.specs.PartRun.{part_rows, part_start, part_state}
use Rattle.gg_part.specs.declared.part.Part.{Part}
use Rattle.gg_cut_plan.specs.Fault.{first_fault}
use Rattle.gg_cut_plan.specs.Listed.{listed_of}
use Rattle.gg_cut_plan.specs.Direct.{plan_hub}
use Rattle.gg_cut_plan.specs.Plan.{IsCutPart}
use Rattle.gg_cut_plan.specs.Solves.{AreRows}
use Rattle.gg_cut_reference.specs.inside.Reference.{with_paths}
use Rattle.gg_cut_plan.specs.Held.{AreHeldOnce}
use Rattle.gg_cut_reference.specs.Made.{plan_reference, plan_seen}
use Rattle.gg_cut_reference.proofs.PlanLemmas.{plan-part, rows-run}
use Rattle.gg_net.specs.Kept.{in_columns}
use Rattle.gg_build.proofs.PlanLemmas.ShownLemmas.{own-columns}
use Rattle.gg_build.proofs.PlanLemmas.StateLemmas.{IsState-part}

module _ (design : Ordered) (request : Request) (is : IsDesign design) (keeps : KeepsToTree design.circuit design.tree) (held : AreHeldOnce design.circuit) (none : first_fault design request ≡ None) (m : ℕ) (part : Part) (cut : IsCutPart design (listed_of design.tree request) (plan_hub design.circuit design.tree request) m part) where
  abbrev all : FlatCircuit
  all = plan_reference design request

  -- the signals of the part, as the machine sees them
  abbrev mine : List ℕ
  mine = map (plan_seen design request m) part.globals

  pub seen-part : IsPart (plan_reference design request) (with_paths (plan_reference design request) part.piece (map (plan_seen design request m) part.globals)) (map (plan_seen design request m) part.globals) part.held part.memories part.clocks
  seen-part = plan-part design request is keeps held none m part cut

  -- a machine begins in a state of its piece
  pub seen-typed : (state : State) → IsState (plan_reference design request) state → IsState part.piece (part_state part.held part.memories state)
  seen-typed state typed =
      let own = IsState-part all (with_paths all part.piece mine) mine part.held part.memories part.clocks seen-part state typed in
      record { typed = own.typed; held = own.held }

  -- what the machine sees of a run of the circuit is a run of its piece, from its part of the start, on the columns of the piece's own ins
  pub seen-run : (start : Start) (columns : List (List ℕ)) (end : ℕ) (rows : List (List ℕ)) → IsState (plan_reference design request) start.state → AreRows (plan_reference design request) start columns end rows
      → AreRows part.piece (part_start part.held part.memories part.clocks start) (in_columns part.piece (part_rows (map (plan_seen design request m) part.globals) rows)) end (part_rows (map (plan_seen design request m) part.globals) rows)
  seen-run start columns end rows typed run =
      subst (λ (given : List (List ℕ)). AreRows part.piece (part_start part.held part.memories part.clocks start) given end (part_rows mine rows))
      (own-columns all (with_paths all part.piece mine) mine part.held part.memories part.clocks seen-part rows) (rows-run design request is keeps held none start typed columns end rows run m part cut)
