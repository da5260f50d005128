use Rattle.std.proofs.Common.{◌≡◌, ◌<◌, length, map, take}
use Rattle.std.specs.Prelude.{All}
use Rattle.gg_flat.specs.Line.{value_at}
use Rattle.gg_part.proofs.build.add_outs.Given as goal

abbrev pub invariant-loop-signal : goal.invariant-loop-signal
invariant-loop-signal l =
    record {
      only : l.piece ≡ record l.initial.piece { outs = l.piece.outs };
      outs : map (value_at l.globals) l.piece.outs ≡ take l.signal-index l.outs;
      below : All (λ s. s < length l.globals) l.piece.outs;
    }
