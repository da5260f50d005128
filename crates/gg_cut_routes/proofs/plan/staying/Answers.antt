use Rattle.std.proofs.Common.{◌++◌, [], ◌∷◌, ◌<◌, ◌∙◌, ℕ, List, Bool, not, sym, ap, ap₂, subst}
use Rattle.std.specs.Prelude.{◌&&◌, ◌==◌, if◌then◌else◌, All, filter}
use Rattle.std.specs.List.{list_any}
use Rattle.std.proofs.lemmas.List.Elements.{All-filter, All-map}
use Rattle.gg_flat.specs.Line.{value_at}
use Rattle.gg_order.specs.Marks.{is_marked}
use Rattle.gg_cut_plan.specs.declared.wires.Wire.{Wire}
use Rattle.gg_cut_routes.specs.inside.Share.{is_past_hub, stays_by}
use Rattle.gg_cut_routes.proofs.ListTables.{filter-next}
use Rattle.gg_cut_routes.proofs.plan.staying.Goals as goal

pub marks_of-requires : goal.marks_of-requires
marks_of-requires c =
    subst (λ (l : List ℕ). All (λ s. s < c.args.count) l) (sym (c.deref.ensures.value ∙ c.in_ok-passing.ensures))
    (All-map (λ s. s < c.args.count) (λ (w : Wire). w.signal) (filter is_past_hub c.args.wires.now) (All-filter is_past_hub (λ w. w.signal < c.args.count) c.args.wires.now c.requires.wires))

pub loop-signal-preserved : goal.loop-signal-preserved
loop-signal-preserved c =
    let s = value_at c.args.globals.now c.loop-signal.signal-index in
    let marked = ap (λ (l : List Bool). is_marked l s) c.as_slice-past.ensures.value ∙ c.in_ok-marks.ensures.marks s ∙ ap (λ (l : List ℕ). list_any (λ t. s == t) l) (c.deref.ensures.value ∙ c.in_ok-passing.ensures) in
    c.in_ok-push_if.ensures
    ∙ ap₂ (λ found chosen. found ++ (if chosen then s ∷ [] else [])) c.loop-signal.invariant (c.stays.ensures ∙ ap (λ b. not (is_marked c.args.gone.now s) && not b) marked)
    ∙ sym (filter-next (stays_by c.args.wires.now c.args.gone.now) c.args.globals.now c.loop-signal.signal-index 0 c.loop-signal-test.true)
