use Rattle.std.proofs.Common.{◌≡◌, take}
use Rattle.gg_flat.specs.Circuit.{no_circuit}
use Rattle.gg_cut_reference.specs.Made.{seen_signal}
use Rattle.gg_bits.specs.Lists.{by_number}
use Rattle.gg_cut_pipes.specs.inside.Tables.{views_by}
use Rattle.gg_cut_pipes.proofs.made.add_signals.Given as goal

abbrev pub invariant-loop-place : goal.invariant-loop-place
invariant-loop-place l = l.piece ≡ record no_circuit { paths = take l.place l.one.paths; signals = by_number (seen_signal (views_by l.tables)) 0 (take l.place l.one.signals) }
