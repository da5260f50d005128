-- The network of a cut has only one text: that of the run.
use Rattle.std.proofs.Common.{◌≡◌, ℕ, List, refl, sym, ap, ◌∙◌, subst, arith}
use Rattle.gg_flat.specs.Circuit.{FlatCircuit}
use Rattle.gg_flat.specs.Run.{IsColumns}
use Rattle.gg_flat.specs.Streams.{Flow}
use Rattle.gg_flat_tree.specs.Tree.{InstanceTree}
use Rattle.gg_part.specs.KeepsToTree.{KeepsToTree}
use Rattle.gg_order.specs.Design.{Ordered}
use Rattle.gg_partfile.specs.declared.request.Request.{Request}
use Rattle.gg_partfile.proofs.OnceLemmas.{request-once}
use Rattle.gg_cut_reference.specs.inside.Alike.{AreAlike}
use Rattle.gg_cut_reference.proofs.TextLemmas.SameCutLemmas.{alike-is}
use Rattle.gg_cut_reference.specs.whole.Whole.{CanBridge, HasFreeFronts, plan_circuit}
use Rattle.gg_cut_plan.specs.Held.{AreHeldOnce}
use Rattle.gg_cut_reference.specs.Follows.{plan_start}
use Rattle.gg_cut_reference.proofs.StartLemmas.{plan-typed}
use Rattle.gg_build.specs.plan.Built.{flow_of}
use Rattle.gg_build.specs.Build.{IsToRunFrom}
use Rattle.gg_rows.proofs.TextLemmas.{shown-text}
use Rattle.golden_commands.specs.Case.{IsFed}
use Rattle.golden_commands.specs.Network.{IsNetworkText}
use Rattle.golden_commands.specs.Partition.{Known}
use Rattle.golden_commands.specs.RunText.{IsRunBy, run_text, shown_ports}
use Rattle.golden_commands.specs.declared.case.Fed.{Fed}
use Rattle.golden_commands.proofs.BeginLemmas.{rows-of}
use Rattle.golden_commands.proofs.CaseLemmas.{case-can}
use Rattle.golden_commands.proofs.PartitionLemmas.{DesignsAgree}
use Rattle.golden_commands.proofs.TextLemmas.{alike-run, circuit-same, feeds-moved}
use Rattle.golden_commands.proofs.WholePortLemmas.{whole-text}

module _ (known : Known) (agree : DesignsAgree) (circuit partition trace : List ℕ) (capacity : ℕ) (fed : Fed) (is : IsFed known circuit partition trace capacity fed)
    (rows : List (List ℕ)) (run : IsRunBy fed.case.design fed.case.cut.request known.models fed.trace.columns fed.trace.rows rows)
    (other : List ℕ) (told : IsNetworkText known circuit partition trace capacity other) where
  abbrev design : Ordered
  design = fed.case.design

  abbrev request : Request
  request = fed.case.cut.request

  alike : AreAlike told.meant.design design
  alike = agree circuit told.meant.design design told.is_meant.means is.case.means

  one-request : told.meant.request ≡ request
  one-request = request-once partition told.meant.request request told.is_meant.cuts.asks is.case.cuts.asks

  -- the trace gives the same
  given : (fed.trace.rows ≡ told.meant.cycles) × (fed.trace.columns ≡ told.meant.columns)
  given = is.feeds.only told.meant.cycles told.meant.columns (feeds-moved told.meant.design.circuit design.circuit told.meant.request request alike.circuit one-request trace told.meant.cycles told.meant.columns told.is_meant.feeds)

  own-alike : AreAlike design told.meant.design
  own-alike = agree circuit design told.meant.design is.case.means told.is_meant.means

  own-run : IsRunBy told.meant.design told.meant.request known.models told.meant.columns told.meant.cycles rows
  own-run =
      alike-run known.models design told.meant.design own-alike request told.meant.request (sym one-request) told.meant.columns told.meant.cycles rows
      (subst (λ (c : List (List ℕ)). IsRunBy design request known.models c told.meant.cycles rows) given.1
      (subst (λ (k : ℕ). IsRunBy design request known.models fed.trace.columns k rows) given.0 run))

  own-columns : IsColumns (plan_circuit told.meant.design told.meant.request known.models) told.meant.cycles told.meant.columns
  own-columns =
      subst (λ (f : FlatCircuit). IsColumns f told.meant.cycles told.meant.columns) (circuit-same known.models design told.meant.design own-alike request told.meant.request (sym one-request))
      (subst (λ (c : List (List ℕ)). IsColumns (plan_circuit design request known.models) told.meant.cycles c) given.1
      (subst (λ (k : ℕ). IsColumns (plan_circuit design request known.models) k fed.trace.columns) given.0 is.columns))

  own-keeps : KeepsToTree told.meant.design.circuit told.meant.design.tree
  own-keeps =
      subst (λ (f : FlatCircuit). KeepsToTree f told.meant.design.tree) (sym alike.circuit)
      (subst (λ (t : InstanceTree). KeepsToTree design.circuit t) (sym alike.tree) is.case.keeps)

  own-can : CanBridge told.meant.design told.meant.request known.models
  own-can =
      record {
        design_is = told.designed;
        keeps = own-keeps;
        free = subst HasFreeFronts (sym alike.circuit) (case-can is.case).free;
        faultless = told.is_meant.cuts.faultless;
        are = (case-can is.case).are;
      }

  abbrev flow : Flow
  flow = flow_of told.meant.design told.meant.request told.plan (plan_start told.meant.design told.meant.request) rows

  -- the plan's network can be built for this run
  abbrev to-run : IsToRunFrom told.plan (plan_start told.meant.design told.meant.request) told.meant.columns told.meant.cycles flow
  to-run =
      record {
        design = told.meant.design;
        request = told.meant.request;
        models = known.models;
        default = capacity;
        rows = rows;
        given = record {
          can = own-can;
          held = subst AreHeldOnce (sym alike.circuit) is.case.held;
          some = is.case.bounded.0;
          planned = told.planned;
          most = omega (arith, is.most, given.0);
          given = own-columns;
          typed = plan-typed told.meant.design told.meant.request;
          clocked = refl;
          run = rows-of told.meant.design told.meant.request known.models told.meant.columns told.meant.cycles rows own-run;
        };
        room = is.case.bounded.1;
        flow_is = refl;
      }

  pub network-only : other ≡ run_text fed.case.design fed.case.cut.request rows fed.trace.rows
  network-only =
      told.is
      ∙ shown-text told.plan (plan_start told.meant.design told.meant.request) told.meant.columns told.meant.cycles flow to-run refl (shown_ports told.meant.design told.meant.request) told.told told.kept told.trays told.each told.ends
      ∙ whole-text told.meant.design told.meant.request known.models own-can rows told.meant.cycles
      ∙ ap (λ (r : Request). run_text told.meant.design r rows told.meant.cycles) one-request
      ∙ ap (λ (d : Ordered). run_text d request rows told.meant.cycles) (alike-is told.meant.design design alike)
      ∙ ap (run_text design request rows) (sym given.0)
