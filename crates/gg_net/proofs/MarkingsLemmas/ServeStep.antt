-- The marking after `Serve`.
use Rattle.std.proofs.Common.{◌≡◌, ℕ, ◌<◌, length, refl}
use Rattle.gg_node.specs.Machine.{Machine, machine_at}
use Rattle.gg_node.specs.Step.{with_served}
use Rattle.gg_net.specs.declared.event.Event.TheVariants.{Serve}
use Rattle.gg_net.specs.Network.{Network, frame_of}
use Rattle.gg_net.specs.Step.{after_serve}
use Rattle.gg_net.specs.markings.Marking.{Layout, after}
use Rattle.gg_net.specs.inside.Fits.{marking_of}
use Rattle.gg_net.proofs.MarkingsLemmas.ChangeLemmas.{same-parts, same-frame, same-cycles, next-served, same-taken, same-given}

-- the frame stays
pub serve-frame : (net : Network) (m : ℕ) → frame_of (after_serve net m) ≡ frame_of net
serve-frame net m = same-frame net m (with_served (machine_at net.machines m)) net.queues refl

pub serve-step : (net : Network) (layout : Layout) (m p : ℕ) → m < length net.machines → marking_of (after_serve net m) ≡ after layout (marking_of net) (Serve m p)
serve-step net layout m p there =
    let y : Machine = with_served (machine_at net.machines m) in
    same-parts (marking_of (after_serve net m)) (after layout (marking_of net) (Serve m p))
    (same-cycles net m y net.queues refl)
    (next-served net m y net.queues refl)
    (same-taken net m y net.queues there refl)
    (same-given net m y net.queues there refl)
