use Rattle.std.proofs.Common.{◌+◌, List, take, subst, sym, arith, option_to_list}
use Rattle.std.specs.Prelude.{Contains}
use Rattle.std.proofs.lemmas.List.Elements.{All-contains}
use Rattle.gg_ast.specs.declared.module.Port.{Port}
use Rattle.gg_flat_tree.specs.Tree.{joined}
use Rattle.gg_flat_tree.specs.declared.tree.InstancePort.{InstancePort}
use Rattle.gg_flat.proofs.ListLemmas.{Contains-filter}
use Rattle.gg_elab_tree.specs.IsTreeOf.{Pairwise}
use Rattle.gg_elab_tree.specs.inside.TreeParts.{IsPortAt, is_signal, signals_among}
use Rattle.gg_elab_tree.proofs.TreePartLemmas.{Pairwise-filter}
use Rattle.gg_elab_tree.proofs.instances.ports.Goals as goal

pub loop-one-preserved : goal.loop-one-preserved
loop-one-preserved c =
    subst (λ (l : List InstancePort). Pairwise (IsPortAt c.args.paths.now c.args.outer.now) (signals_among (take (c.loop-one.one-index + 1) c.args.ports.now)) l) (sym c.in_ok-add_port.ensures)
    (Pairwise-filter (IsPortAt c.args.paths.now c.args.outer.now) is_signal c.args.ports.now c.loop-one.one-index c.one-item.result c.loop-one.found.items (option_to_list c.in_ok-next.next) (omega arith) c.one-item.is c.loop-one.invariant c.in_ok-next.ensures)

pub port-requires : goal.port-requires
port-requires c = record {
  there = λ signal.
      All-contains (λ (p : Port). Contains c.args.paths.now (joined c.args.outer.now p.name)) (signals_among c.args.ports.now) c.one-item.result c.requires.there
      (Contains-filter is_signal c.args.ports.now c.one-item.result (c.loop-one.one-index, omega arith, sym c.one-item.is) signal);
}
