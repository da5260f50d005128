use Rattle.std.proofs.Common.{◌≡◌, ◌++◌, flat_map, take}
use Rattle.gg_elab_sites.specs.Sites.{module_at}
use Rattle.gg_elab_sites.specs.inside.Views.{cause_of}
use Rattle.gg_elab_tree.specs.inside.TreeParts.{clock_kept, with_register_clocks}
use Rattle.gg_elab_tree.proofs.clocks.add_all_kept.Given as goal

abbrev pub invariant-loop-signal : goal.invariant-loop-signal
invariant-loop-signal l =
    l.tree ≡ with_register_clocks l.fn.tree (l.fn.tree.register_clocks ++ flat_map (λ s. clock_kept (module_at l.typed.circuit.modules l.number) (cause_of s.origin)) (take l.signal-index l.signals))
