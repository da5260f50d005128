-- A partition file: a JSON object (RFC 8259) with optional keys (Keys), each with a value of its shape (Shapes).
use Rattle.std.specs.Prelude.{◌≡◌, ℕ, List, true, Some, None, is_some, codes}
use Rattle.std.specs.Str.{IsUtf8}
use Rattle.serde_json.specs.Data.{Data}
use Rattle.serde_json.specs.Find.{as_bool, as_object}
use Rattle.serde_json.specs.Read.{read}
use Rattle.gg_partfile.specs.Keys.{under, unknown}
use Rattle.gg_partfile.specs.Request.{no_request}
use Rattle.gg_partfile.specs.Shapes.{texts, groups, numbers, ratios, bridges}
use Rattle.gg_partfile.specs.declared.request.Request.{Request}

-- the value is an object of the right shapes, and holds this request
pub record Asks (d : Data) (request : Request) : Type 0 where
  pub object : is_some (as_object d) ≡ true
  pub units : under no_request.units texts (codes "units") d ≡ Some request.units
  pub share : under no_request.share groups (codes "share") d ≡ Some request.share
  pub memories : under no_request.memories texts (codes "memories") d ≡ Some request.memories
  pub capacity : under no_request.capacity numbers (codes "capacity") d ≡ Some request.capacity
  pub direct : under no_request.direct as_bool (codes "direct") d ≡ Some request.direct
  pub pipe : under no_request.pipe texts (codes "pipe") d ≡ Some request.pipe
  pub clocks : under no_request.clocks ratios (codes "clocks") d ≡ Some request.clocks
  pub bridges : under no_request.bridges bridges (codes "bridges") d ≡ Some request.bridges
  pub known : unknown d ≡ None

-- the bytes are JSON that holds this request
pub record IsPartition (bytes : List ℕ) (request : Request) : Type 0 where
  pub value : Data
  pub utf8 : IsUtf8 bytes
  pub is : read bytes ≡ Some value
  pub asks : Asks value request
