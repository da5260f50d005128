use Rattle.std.proofs.Common.{◌≡◌, ◌∷◌, ◌++◌, take, codes, string_bytes}
use Rattle.std.specs.List.{flat_map}
use Rattle.gg_trace.proofs.printing.header_text.Given as goal

abbrev pub invariant-loop-port : goal.invariant-loop-port
invariant-loop-port l = string_bytes l.text ≡ codes "cycle" ++ flat_map (λ p. 32 ∷ p.name) (take l.port-index l.ports)
