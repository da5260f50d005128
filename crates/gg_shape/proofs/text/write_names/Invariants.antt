use Rattle.std.proofs.Common.{◌++◌, take}
use Rattle.std.specs.Fmt.{HasWritten, IsPlainFormatter}
use Rattle.gg_shape.specs.FaultText.{behind_blanks}
use Rattle.gg_shape.proofs.text.write_names.Given as goal

abbrev pub invariant-loop-name : goal.invariant-loop-name
invariant-loop-name g l =
    IsPlainFormatter l.fn.f → HasWritten g.W.Write.write_str_gives l.fn.f (l.code ++ behind_blanks (take l.name-index l.names)) l.f
