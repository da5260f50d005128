use Rattle.std.proofs.Common.{rules}
use Rattle.gg_ring.proofs.StepLemmas.{loads_tail}
use Rattle.gg_ring.proofs.ring.Ring.look_at_tail.Goals as goal

pub load-seat-requires : goal.load-seat-requires
load-seat-requires c =
    let moves = loads_tail c.args.self.now.table.shared.key c.args.self.now.table.shared.table_id.slots c.args.seat.now.seat.id c.args.seat.now.seat.me (search rules) (search rules) in
    (search rules, search rules, moves)
