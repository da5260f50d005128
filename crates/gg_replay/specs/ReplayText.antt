-- The line of a channel: the numbers of tokens that were put into it and were taken from it, and the tokens that were
-- put.
-- Source: this program's own. Values are written as in the rows of an output trace.
use Rattle.std.specs.Prelude.{ℕ, List, ◌∷◌, ◌++◌, codes, decimal}
use Rattle.std.specs.List.{flat_map}
use Rattle.gg_trace.specs.Printing.{hex_digits, digit_count}

-- the tokens with a blank before each, in lower-case hexadecimal with a quarter of the channel's width in digits,
-- rounded up
abbrev pub tokens_text : ℕ → List ℕ → List ℕ
tokens_text width tokens = flat_map (λ token. 32 ∷ hex_digits (digit_count width) token) tokens

-- the channel's name, a blank, the count of puts, a slash, the count of takes, the tokens in their order, and a line
-- feed
abbrev pub channel_line : List ℕ → ℕ → ℕ → ℕ → List ℕ → List ℕ
channel_line name width puts takes tokens = name ++ codes " " ++ decimal puts ++ codes "/" ++ decimal takes ++ tokens_text width tokens ++ codes "\n"
