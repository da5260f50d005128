use Rattle.gg_link.specs.Seats.{stream_of}
use Rattle.gg_ruled.proofs.link.RuledLink.make.Given as goal

abbrev pub ghosts-opened : goal.ghosts-opened
ghosts-opened g a = record { chosen = stream_of g.Z.Streams.flow a._which a._start; places = a.capacity }
