use Rattle.std.proofs.Common.{◌≡◌, List, ℕ, ◌++◌, take}
use Rattle.gg_shape_names.specs.Along.{along}
use Rattle.gg_shape_names.specs.Repetitions.{repeated_port_of}
use Rattle.gg_shape_names.specs.inside.Tables.{HaveSame, IsEither}
use Rattle.gg_shape_names.proofs.AlongLemmas.{left}
use Rattle.gg_shape_names.proofs.memory.add_words.Given as goal

abbrev pub invariant-loop-name : goal.invariant-loop-name
invariant-loop-name l = record {
  same : HaveSame l.words (l.initial.words ++ take l.name-index l.names);
  left_is : (earlier : List (List ℕ)) → IsEither earlier l.initial.words l.others → along (repeated_port_of earlier l.line) l.names ≡ left (repeated_port_of earlier l.line) l.names l.name-index;
}
