use Rattle.std.proofs.Common.{◌++◌, List, ℕ, sym, ap, ◌∙◌}
use Rattle.std.specs.Prelude.{flat_map}
use Rattle.std.proofs.lemmas.List.{append-nil, take_all}
use Rattle.gg_flat.specs.Circuit.{driver_at}
use Rattle.gg_cut_plan.specs.Direct.{driver_names}
use Rattle.gg_cut_routes.proofs.ListTables.{flat-next}
use Rattle.gg_cut_routes.proofs.names.push_drivers.Goals as goal

pub loop-signal-init : goal.loop-signal-init
loop-signal-init c = sym (append-nil c.args.names.now.items)

pub push_driver_of-requires-clause-known : goal.push_driver_of-requires-clause-known
push_driver_of-requires-clause-known c = c.requires.known c.loop-signal.signal-index 0 c.loop-signal-test.true

pub loop-signal-preserved : goal.loop-signal-preserved
loop-signal-preserved c =
    flat-next (λ s. driver_names c.args.piece.now (driver_at c.args.piece.now s)) c.args.names.now.items c.loop-signal.names.items c.push_driver_of.new.names.items c.args.signals.now c.loop-signal.signal-index 0 c.loop-signal-test.true c.loop-signal.invariant (c.in_ok-push_driver_of.ensures {u = tt})

pub returns : goal.returns
returns c =
    c.loop-signal.invariant
    ∙ ap (λ (l : List ℕ). c.args.names.now.items ++ flat_map (λ s. driver_names c.args.piece.now (driver_at c.args.piece.now s)) l) (take_all c.loop-signal.signal-index c.args.signals.now c.loop-signal-test.false)
