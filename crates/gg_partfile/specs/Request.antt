-- The empty request.
-- Source: this program's own form; docs/FORMATS.md describes it.
use Rattle.std.specs.Prelude.{[], false}
use Rattle.gg_partfile.specs.declared.request.Request.{Request}

-- the request of a file without keys: all lists are empty, and no channel is direct
abbrev pub no_request : Request
no_request = record { units = []; share = []; memories = []; capacity = []; direct = false; pipe = []; clocks = []; bridges = [] }
