use Rattle.std.proofs.Common.{refl, ap, ◌∙◌}
use Rattle.gg_workers_pass.specs.declared.machine_seats.MachineSeats.{MachineSeats}
use Rattle.gg_workers.proofs.host_seats.fill_row.Goals as goal

pub returns : goal.returns
returns g c =
    let old = c.index_mut.result.now in
    (c.fill_seats.new.machine_seats, refl, c.fill_seats.ensures.machine ∙ ap (λ (d : MachineSeats g.row.S.Denot g.row.T.Denot). d.machine) c.index_mut.ensures.value ∙ (c.requires.empty old).machine, c.fill_seats.ensures.takes, c.fill_seats.ensures.puts)
