use Rattle.gg_tape.proofs.CodeLemmas.{Grows-none, line-more}
use Rattle.gg_tape.proofs.code.Code.tell_reset.Goals as goal

pub returns-in_ok-init-in-Some-clause-told : goal.returns-in_ok-init-in-Some-clause-told
returns-in_ok-init-in-Some-clause-told c =
    let reset = c.in-Some.reset in
    let condition = c.in_ok-condition-in-Some.ensures.told in (
      reset,
      c.in-Some.is,
      record {
        condition = line-more c.args.signals c.tell.new.self c.tell-in-Some.new.self c.in_ok-condition-in-Some.condition reset.condition c.in_ok-init-in-Some.ensures.grown condition.tells;
        init = c.in_ok-init-in-Some.ensures.told;
      },
    )

pub returns-in-None-clause-grown : goal.returns-in-None-clause-grown
returns-in-None-clause-grown c = Grows-none c.args.self.now
