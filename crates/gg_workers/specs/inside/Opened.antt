-- A network between its opening and its closing: links in place of queues, and hosts with the seats of their machines.
-- Source: this program's own.
use Rattle.std.specs.Prelude.{◌≡◌, ℕ, ◌<◌, ◌≤◌, List, length}
use Rattle.gg_flat.specs.Streams.{Flow}
use Rattle.gg_link.specs.Seats.{SeatState}
use Rattle.gg_node.specs.Machine.{Machine}
use Rattle.gg_net.specs.Network.{Network}
use Rattle.gg_workers.specs.inside.LinkedHosts.{ReadyAt, AreLinkedHosts, AreNumbered}
use Rattle.gg_workers.specs.inside.Assigned.{Assigning}
use Rattle.gg_workers.specs.inside.Apart.{WasJoined, WereLinked, AreReturnLists}
use Rattle.gg_workers.specs.declared.opened.Opened.{Opened}

-- The network was opened for some workers, who have no hosts yet. Nothing was done, and all memory was taken.
pub record IsOpened {H X S T : Type 0} (machines : H → List Machine) (takes_from : X → S → Type 0) (puts_into : X → T → Type 0) (taking : S → SeatState) (putting : T → SeatState) (flow : Flow) (net : Network) (opened : Opened H X S T) : Type 0 where
  pub joined : WasJoined flow net opened.shape opened.threads.items
  pub linked : WereLinked {S = S} {T = T} takes_from puts_into taking putting flow net opened.links.items opened.queues.items
  pub count : length opened.linked_hosts.items ≡ length opened.threads.items
  pub numbered : AreNumbered opened.linked_hosts.items
  pub linked_hosts : (upto : ℕ) → AreLinkedHosts machines opened.threads.items (ReadyAt takes_from puts_into taking putting flow net opened.shape.stations.items opened.links.items upto) opened.linked_hosts.items
  pub few : (0 < length opened.workers.items) × (length opened.workers.items ≤ 64)
  pub ready : Assigning opened.linked_hosts.items (length opened.workers.items) (length opened.linked_hosts.items) 0 opened.linked_hosts.items opened.workers.items
  pub long : (length opened.takes.items ≡ length net.wires) × (length opened.puts.items ≡ length net.wires)
  pub return_lists : AreReturnLists (length opened.linked_hosts.items) (length net.wires) opened.return_lists
