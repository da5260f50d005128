use Rattle.gg_tape.proofs.CodeLemmas.{connects-tells, natural-connects}
use Rattle.gg_tape.proofs.code.Code.connected.Goals as goal

pub returns-in-UInt-clause-value : goal.returns-in-UInt-clause-value
returns-in-UInt-clause-value c = λ line can.
    let told = c.value-value.ensures.value line (connects-tells _ _ _ line can) in
    (natural-connects _ _ _ line c.value-value.result can c.in-UInt.is told c.value-value.ensures.fits).value_is

pub returns-in-UInt-clause-fits : goal.returns-in-UInt-clause-fits
returns-in-UInt-clause-fits c =
    let line = c.requires.0 in
    let told = c.value-value.ensures.value line (connects-tells _ _ _ line c.requires.1) in
    (natural-connects _ _ _ line c.value-value.result c.requires.1 c.in-UInt.is told c.value-value.ensures.fits).fits
