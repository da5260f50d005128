-- Why a signal, an instance, a memory or a model was not added, in words.
-- Source: this program's own.
use Rattle.std.specs.Prelude.{ℕ, List, codes}
use Rattle.gg_bits.specs.declared.paths.AddError.{AddError}
use Rattle.gg_bits.specs.declared.paths.AddError.TheVariants.{Doubled, NoMemory}

-- how a value of `AddError` is printed
abbrev pub error_text : AddError → List ℕ
error_text Doubled = codes "the path is there already"
error_text NoMemory = codes "out of memory"
