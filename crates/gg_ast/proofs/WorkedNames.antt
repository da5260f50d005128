-- Texts that are names, and near misses.
use Rattle.std.proofs.Common.{◌≡◌, true, false, [], refl}
use Rattle.std.specs.Prelude.{codes}
use Rattle.gg_ast.specs.Names.{is_name}

one_letter : is_name (codes "a") ≡ true
one_letter = refl

underscore_first : is_name (codes "_T_12") ≡ true
underscore_first = refl

dollar_inside : is_name (codes "io$bits") ≡ true
dollar_inside = refl

-- near misses
no_bytes : is_name [] ≡ false
no_bytes = refl

digit_first : is_name (codes "1a") ≡ false
digit_first = refl

dollar_first : is_name (codes "$a") ≡ false
dollar_first = refl

dot_inside : is_name (codes "a.b") ≡ false
dot_inside = refl

dash_inside : is_name (codes "read-latency") ≡ false
dash_inside = refl

blank_behind : is_name (codes "a ") ≡ false
blank_behind = refl
