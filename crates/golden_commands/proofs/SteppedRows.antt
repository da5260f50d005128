-- What the network of a cut tells of steps, by hand.
use Rattle.std.proofs.Common.{◌≡◌, List, [], codes, length, ap, ◌∙◌}
use Rattle.std.specs.Prelude.{Option, flat_map}
use Rattle.std.specs.List.{range_with_len}
use Rattle.gg_flat.specs.Streams.{Flow}
use Rattle.gg_net.specs.declared.event.Event.{Event}
use Rattle.gg_replay.specs.steps_file.Naming.{Naming}
use Rattle.gg_io.specs.Said.{Said}
use Rattle.golden_commands.specs.Replayed.{IsNetText, TellsStop, net_line}
use Rattle.golden_commands.specs.declared.case.Fed.{Fed}

-- a near miss: a text where there is no channel
none-written : (fed : Fed) (flow : Flow) (events : List (Option Event)) → length fed.case.cut.plan.channels ≡ 0 → IsNetText fed flow events (codes "x") → ⊥
none-written fed flow events none told =
    let is : codes "x" ≡ [] = told.is ∙ ap (λ k. flat_map (net_line fed.case.cut.plan flow told.net) (range_with_len 0 k)) none in
    absurd (cc)

-- a near miss: a step that was refused, of a file without steps
none-refused : (fed : Fed) (flow : Flow) (naming : Naming) (said : Said) → TellsStop fed flow naming [] said → ⊥
none-refused fed flow naming said told = let next = told.stops.next in absurd (cc)
