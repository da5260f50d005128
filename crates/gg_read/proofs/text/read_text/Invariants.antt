use Rattle.std.proofs.Common.{◌≡◌, ◌+◌, length, take}
use Rattle.std.specs.Str.Lines.{lines}
use Rattle.gg_read.specs.inside.Stages.{IsStage, HasRead}
use Rattle.gg_read.proofs.text.read_text.Given as goal

abbrev pub invariant-loop-line : goal.invariant-loop-line
invariant-loop-line l =
    record {
      count : l.number ≡ length l.yielded;
      stays : IsStage l.stage (l.number + 1);
      read : HasRead (take (length l.yielded) (lines l.text)) l.stage;
    }
