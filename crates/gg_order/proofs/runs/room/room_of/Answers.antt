use Rattle.std.proofs.Common.{arith}
use Rattle.gg_order.proofs.runs.room.room_of.Goals as goal

pub returns-clause-enough : goal.returns-clause-enough
returns-clause-enough c =
    let drivers = rw c.signals.ensures at c.longest_driver.ensures.longest in
    let registers = rw c.registers.ensures at c.longest_register.ensures.longest in
    record {
      drivers = λ k d within. omega (arith, drivers k d within, c.max.ensures);
      registers = λ k d within. omega (arith, registers k d within, c.max.ensures);
    }

pub returns-clause-least : goal.returns-clause-least
returns-clause-least c =
    let drivers = rw c.signals.ensures at c.longest_driver.ensures.least in
    let registers = rw c.registers.ensures at c.longest_register.ensures.least in
    λ places room. omega (arith, drivers places room.drivers, registers places room.registers, c.max.ensures)
