use Rattle.std.proofs.Common.{◌≡◌, length, take}
use Rattle.gg_elab_sites.specs.inside.Views.{TellsConnections}
use Rattle.gg_elab_sites.proofs.connections.connections.Given as goal

abbrev pub invariant-loop-statement : goal.invariant-loop-statement
invariant-loop-statement l = (length l.sinks.sources.items ≡ length l.sinks.names) × TellsConnections (take l.statement-index l.statements) l.sinks.names l.sinks.sources.items
