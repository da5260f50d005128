use Rattle.std.proofs.Common.{◌≡◌, ◌++◌, take, string_bytes}
use Rattle.gg_replay.specs.ReplayText.{tokens_text}
use Rattle.gg_replay.proofs.line.channel_line.Given as goal

abbrev pub invariant-loop-token : goal.invariant-loop-token
invariant-loop-token l = string_bytes l.line ≡ string_bytes l.initial.line ++ tokens_text l.width (take l.token-index l.tokens)
