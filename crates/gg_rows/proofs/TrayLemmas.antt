-- A tray tells the values of its channel.
use Rattle.std.proofs.Common.{◌≡◌, ℕ, ◌<◌, Some, length, ap, subst, ◌∙◌}
use Rattle.std.specs.Prelude.{unwrap_or}
use Rattle.gg_flat.specs.Line.{value_at}
use Rattle.gg_flat.specs.Streams.{Flow}
use Rattle.gg_node.specs.Machine.{KeepsLast, Machine, machine_at, kept_value}
use Rattle.gg_net.specs.Network.{Network, wire_at}
use Rattle.gg_net.specs.Kept.{Kept, HasKept, Keeps, list_at}
use Rattle.gg_net.proofs.TrayLemmas.{tells, tells-only}
use Rattle.gg_rows.specs.inside.Rows.{StillHas, told_by, told_value}

-- machine m, which is a tray at the end of channel c, has kept the last values of the channel
has-kept : (flow : Flow) (net : Network) (m c rows : ℕ) → Kept flow net → m < length net.machines → c < length net.wires → (wire_at net.wires c).consumer ≡ m → (machine_at net.machines m).behaviour ≡ KeepsLast rows
    → HasKept (list_at flow.lists c) flow.begin rows (machine_at net.machines m).cycle (machine_at net.machines m).kept
has-kept flow net m c rows kept there known taken tray =
    let x : Machine = machine_at net.machines m in
    subst (λ b. Keeps b flow.begin (list_at flow.lists c) x.cycle x.kept) tray ((kept.machines m there).kept c known taken)

-- it keeps the value of a cycle that it still has
pub tray-keeps : (flow : Flow) (net : Network) (m c t : ℕ) → Kept flow net → StillHas net m c flow.begin t → kept_value (machine_at net.machines m) t ≡ Some (value_at (list_at flow.lists c) t)
tray-keeps flow net m c t kept has =
    tells (list_at flow.lists c) flow.begin has.rows (machine_at net.machines m) (has-kept flow net m c has.rows kept has.there has.known has.taken has.tray) t has.begun has.done has.last

pub tray-tells : (flow : Flow) (net : Network) (m c t : ℕ) → Kept flow net → StillHas net m c flow.begin t → told_value (machine_at net.machines m) t ≡ value_at (list_at flow.lists c) t
tray-tells flow net m c t kept has =
    ap (λ b. told_by b (kept_value (machine_at net.machines m) t)) has.tray ∙ ap (λ v. unwrap_or v 0) (tray-keeps flow net m c t kept has)

-- it keeps no other value, and none of a cycle that it hasn't done
pub tray-only : (flow : Flow) (net : Network) (m c rows t value : ℕ) → Kept flow net → m < length net.machines → c < length net.wires → (wire_at net.wires c).consumer ≡ m → (machine_at net.machines m).behaviour ≡ KeepsLast rows
    → kept_value (machine_at net.machines m) t ≡ Some value → (t < (machine_at net.machines m).cycle) × (value ≡ value_at (list_at flow.lists c) t)
tray-only flow net m c rows t value kept there known taken tray is =
    let told = tells-only (list_at flow.lists c) flow.begin rows (machine_at net.machines m) (has-kept flow net m c rows kept there known taken tray) t value is in
    (told.1, told.3)
