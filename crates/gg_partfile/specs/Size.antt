-- How many entries a request has.
-- Source: RFC 8259. Each text and each number of a JSON text takes bytes of its own, so there are at most as many of them as bytes.
use Rattle.std.specs.Prelude.{ℕ, ◌≤◌, List, length, flat_map}
use Rattle.gg_partfile.specs.declared.request.BridgeEntry.{BridgeEntry}
use Rattle.gg_partfile.specs.declared.request.Request.{Request}

-- the entries of all lists of `share`, in order
abbrev pub entries : List (List (List ℕ)) → List (List ℕ)
entries share = flat_map (λ group. group) share

-- the ports that all entries of `bridges` see, in order
abbrev pub all_seen : List BridgeEntry → List (List ℕ)
all_seen bridges = flat_map (λ entry. entry.sees) bridges

-- the ports that all entries of `bridges` drive, in order
abbrev pub all_driven : List BridgeEntry → List (List ℕ)
all_driven bridges = flat_map (λ entry. entry.drives) bridges

-- The request has at most n entries of each kind.
pub record HasAtMost (n : ℕ) (request : Request) : Type 0 where
  pub units : length request.units ≤ n
  pub share : length (entries request.share) ≤ n
  pub memories : length request.memories ≤ n
  pub capacity : length request.capacity ≤ n
  pub pipe : length request.pipe ≤ n
  pub clocks : length request.clocks ≤ n
  pub bridges : length request.bridges ≤ n
  pub seen : length (all_seen request.bridges) ≤ n
  pub driven : length (all_driven request.bridges) ≤ n
