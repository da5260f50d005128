use Rattle.std.proofs.Common.{◌≡◌, drop}
use Rattle.gg_cut_reference.specs.inside.Whole.{CanStandAll}
use Rattle.gg_cut_reference.specs.whole.Whole.{with_bridges}
use Rattle.golden_commands.proofs.whole.joined_all.Given as goal

abbrev pub invariant-loop-entry : goal.invariant-loop-entry
invariant-loop-entry l = record {
  can : CanStandAll l.models l.made.circuit (drop l.entry-index l.entries);
  same : with_bridges l.models l.made.circuit (drop l.entry-index l.entries) ≡ with_bridges l.models l.initial.made.circuit l.entries;
}
