use Rattle.std.proofs.Common.{refl}
use Rattle.gg_bits.specs.Shape.{shape}
use Rattle.gg_tape.proofs.RegisterLemmas.{reset-more}
use Rattle.gg_tape.proofs.code.Code.tell_register.Goals as goal

pub returns-clause-told : goal.returns-clause-told
returns-clause-told c =
    let register = c.args.register.now in
    record {
      clock = refl;
      reset = reset-more c.args.signals c.tell_reset.new.self c.tell_next.new.self (shape register.ty) c.in_ok-reset.reset register.reset c.in_ok-next.ensures.grown c.in_ok-reset.ensures.told;
      next = c.in_ok-next.ensures.told;
    }
