use Rattle.gg_cut_reference.proofs.FittingLemmas.PortLemmas.{driver-has, driver-is, viewer-has, viewer-is}
use Rattle.gg_cut_reference.proofs.fitting.laws.bridge_ports.Goals as goal

pub returns-clause-drives : goal.returns-clause-drives
returns-clause-drives c = λ circuit tree request p k found. driver-has circuit tree request p k found

pub returns-clause-driver : goal.returns-clause-driver
returns-clause-driver c = λ circuit tree request p k once lt h. driver-is circuit tree request p k once lt h

pub returns-clause-sees : goal.returns-clause-sees
returns-clause-sees c = λ circuit tree request p k found. viewer-has circuit tree request p k found

pub returns-clause-viewer : goal.returns-clause-viewer
returns-clause-viewer c = λ circuit tree request p k once low lt h. viewer-is circuit tree request p k once low lt h
