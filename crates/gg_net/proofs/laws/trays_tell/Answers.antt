use Rattle.gg_net.specs.Network.{consumer_of}
use Rattle.gg_net.specs.Kept.{list_at}
use Rattle.gg_net.proofs.TrayLemmas.{tells, tells-only, tray-keeps}
use Rattle.gg_net.proofs.laws.trays_tell.Goals as goal

pub returns-clause-tells : goal.returns-clause-tells
returns-clause-tells c = λ flow net k rows t kept known is begun lt near. tells (list_at flow.lists k) flow.begin rows (consumer_of net k) (tray-keeps flow net kept k rows known is) t begun lt near

pub returns-clause-only : goal.returns-clause-only
returns-clause-only c = λ flow net k rows t value kept known is told. tells-only (list_at flow.lists k) flow.begin rows (consumer_of net k) (tray-keeps flow net kept k rows known is) t value told
