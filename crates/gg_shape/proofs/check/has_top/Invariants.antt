use Rattle.std.proofs.Common.{◌≡◌, drop}
use Rattle.std.specs.List.{list_any}
use Rattle.std.specs.Str.{bytes_eq}
use Rattle.gg_shape.proofs.check.has_top.Given as goal

abbrev pub invariant-loop-module : goal.invariant-loop-module
invariant-loop-module l =
    list_any (λ m. bytes_eq l.circuit.name m.name) l.circuit.modules ≡ list_any (λ m. bytes_eq l.circuit.name m.name) (drop l.module-index l.circuit.modules)
