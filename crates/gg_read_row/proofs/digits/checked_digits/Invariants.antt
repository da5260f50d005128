use Rattle.std.proofs.Common.{◌≡◌, string_bytes, take}
use Rattle.gg_read_row.proofs.digits.checked_digits.Given as goal

abbrev pub invariant-loop-byte : goal.invariant-loop-byte
invariant-loop-byte l = string_bytes l.text ≡ take l.byte-index l.bytes
