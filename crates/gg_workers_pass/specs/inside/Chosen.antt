-- Which events of one machine are tried.
-- Source: this program's own.
use Rattle.std.specs.Prelude.{◌-◌, ◌^◌, true, false}
use Rattle.gg_workers_pass.specs.declared.choice.Chosen.{Chosen}

-- each event
abbrev pub all_chosen : Chosen
all_chosen = record { first_in = 0; past_in = 2 ^ 32 - 1; first_out = 0; past_out = 2 ^ 32 - 1; serves = true; finishes = true }

-- no event
abbrev pub none_chosen : Chosen
none_chosen = record { first_in = 0; past_in = 0; first_out = 0; past_out = 0; serves = false; finishes = false }
