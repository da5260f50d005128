use Rattle.std.proofs.Common.{◌≤◌, take, vec_len}
use Rattle.gg_part.specs.Building.{AreHeld}
use Rattle.gg_part.proofs.frame.held_by.Given as goal

abbrev pub invariant-loop-signal : goal.invariant-loop-signal
invariant-loop-signal l =
    record {
      are : AreHeld l.whole (take l.signal-index l.globals) l.ins l.held.items;
      few : vec_len l.held ≤ l.signal-index;
    }
