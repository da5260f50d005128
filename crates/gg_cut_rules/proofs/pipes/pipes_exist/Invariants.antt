use Rattle.std.proofs.Common.{◌≡◌, drop}
use Rattle.std.specs.Prelude.{find, not}
use Rattle.gg_cut_plan.specs.Listed.{is_among}
use Rattle.gg_cut_plan.specs.Channels.{channel_names}
use Rattle.gg_cut_rules.proofs.pipes.pipes_exist.Given as goal

abbrev pub invariant-loop-name : goal.invariant-loop-name
invariant-loop-name l = find (λ name. not (is_among (channel_names l.piece l.signals) name)) l.pipes ≡ find (λ name. not (is_among (channel_names l.piece l.signals) name)) (drop l.name-index l.pipes)
