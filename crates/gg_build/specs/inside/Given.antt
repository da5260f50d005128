-- A plan that is given with a run, as one value, and the parts of its cut under short names. The lemmas of a plan are about such a value.
-- Source: this program's own.
use Rattle.std.specs.Prelude.{ℕ, List, length, map}
use Rattle.gg_flat.specs.Run.{Start, column}
use Rattle.gg_order.specs.Design.{Ordered}
use Rattle.gg_partfile.specs.declared.request.Request.{Request}
use Rattle.gg_cut_plan.specs.declared.listed.Listed.{Listed}
use Rattle.gg_cut_plan.specs.declared.plan.Body.{Body}
use Rattle.gg_cut_plan.specs.declared.plan.Plan.{Plan}
use Rattle.gg_cut_plan.specs.declared.wires.Wire.{Wire}
use Rattle.gg_cut_plan.specs.Bridges.{Models}
use Rattle.gg_cut_plan.specs.Direct.{Hub, plan_hub, plan_wires}
use Rattle.gg_cut_plan.specs.Listed.{listed_of}
use Rattle.gg_cut_plan.specs.Plan.{IsBody}
use Rattle.gg_cut_plan.specs.Ports.{Bridges, plan_bridges}
use Rattle.gg_cut_reference.specs.Follows.{plan_token}
use Rattle.gg_cut_reference.specs.Made.{plan_reference}
use Rattle.gg_cut_reference.specs.inside.Whole.{reference_rows}
use Rattle.gg_build.specs.plan.Built.{IsGiven}

-- ---- the parts of a cut

-- The parts of the cut of a design.
pub record CutNames : Type 0 where
  pub listed : Listed
  pub hub : Hub
  pub bridges : Bridges
  -- the channels between the plan's machines
  pub wires : List Wire

-- the cut of a design by a request
abbrev pub cut_of : Ordered → Request → CutNames
cut_of design request =
    record {
      listed = listed_of design.tree request;
      hub = plan_hub design.circuit design.tree request;
      bridges = plan_bridges design.circuit design.tree request;
      wires = plan_wires design.circuit design.tree request;
    }

-- ---- a plan with a run

-- A plan that can be run from a start, with the run of its circuit: all that `IsGiven` is about.
pub record Given : Type 0 where
  pub design : Ordered
  pub request : Request
  pub models : Models
  pub default : ℕ
  pub plan : Plan
  pub columns : List (List ℕ)
  pub n : ℕ
  pub start : Start
  pub rows : List (List ℕ)
  pub is : IsGiven design request models default plan columns n start rows
  pub open is use *

abbrev pub given_of : {design : Ordered} {request : Request} {models : Models} {default : ℕ} {plan : Plan} {columns : List (List ℕ)} {n : ℕ} {start : Start} {rows : List (List ℕ)} → IsGiven design request models default plan columns n start rows → Given
given_of {design = design} {request = request} {models = models} {default = default} {plan = plan} {columns = columns} {n = n} {start = start} {rows = rows} is =
    record {
      design = design;
      request = request;
      models = models;
      default = default;
      plan = plan;
      columns = columns;
      n = n;
      start = start;
      rows = rows;
      is = is;
    }

-- this is the body of machine m, by its number
abbrev pub IsBodyAt : Given → ℕ → Body → Type 0
IsBodyAt given m body = IsBody given.design given.request given.models (listed_of given.design.tree given.request) (plan_hub given.design.circuit given.design.tree given.request) m body

-- ---- the run of the reference circuit

-- The run of the reference circuit in a plan's run.
pub record RunNames : Type 0 where
  -- its rows, and the columns of its inputs
  pub own : List (List ℕ)
  pub fed : List (List ℕ)
  -- how many signals it has
  pub count : ℕ
  -- the token of each signal's pipe
  pub token : ℕ → ℕ

abbrev pub run_of : Given → RunNames
run_of given =
    record {
      own = reference_rows given.design given.request given.rows;
      fed = map (column given.rows) (plan_reference given.design given.request).ins;
      count = length (plan_reference given.design given.request).signals;
      token = plan_token given.design given.request given.start.state;
    }
