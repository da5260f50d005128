-- The texts of faults, worked by hand.
use Rattle.std.proofs.Common.{◌≡◌, ◌∷◌, [], codes, refl}
use Rattle.std.specs.Fmt.{digits}
use Rattle.gg_bits.specs.declared.ops.Op2.TheVariants.{Geq}
use Rattle.gg_ast.specs.declared.statement.Report.TheVariants.{Cover}
use Rattle.gg_shape.specs.declared.fault.Fault.TheVariants.{MissingTop, ModuleRing, MemoryField, WrongKind, WrongWidth, WrongParameter, LiteralTooLarge, TooWide, WrongClock, OverLimit, Loop}
use Rattle.gg_shape.specs.declared.fault.MemoryKey.TheVariants.{ReadLatency}
use Rattle.gg_shape.specs.declared.fault.Limit.TheVariants.{Words}
use Rattle.gg_shape.specs.declared.fault.Word.TheVariants.{Binary, Connect, Report}
use Rattle.gg_shape.specs.FaultText.{fault_text}

no_top : fault_text (MissingTop (codes "Count")) ≡ codes "F1 Count"
no_top = refl

ring : fault_text (ModuleRing (codes "Counter" ∷ codes "Counter" ∷ [])) ≡ codes "F7 Counter Counter"
ring = refl

latency : fault_text (MemoryField 8 ReadLatency) ≡ codes "F8 line 8 read-latency"
unfolding digits
latency = refl

kinds_differ : fault_text (WrongKind 10 Connect) ≡ codes "F9 line 10 connect"
unfolding digits
kinds_differ = refl

covered : fault_text (WrongKind 12 (Report Cover)) ≡ codes "F9 line 12 cover"
unfolding digits
covered = refl

shifted_too_far : fault_text (WrongWidth 10 4294967295) ≡ codes "F10 line 10 4294967295"
unfolding digits
shifted_too_far = refl

compared : fault_text (WrongParameter 11 (Binary Geq)) ≡ codes "F11 line 11 geq"
unfolding digits
compared = refl

too_large : fault_text (LiteralTooLarge 9) ≡ codes "F12 line 9"
unfolding digits
too_large = refl

too_wide : fault_text (TooWide 11 9 8) ≡ codes "F13 line 11 9 8"
unfolding digits
too_wide = refl

clock_of_nothing : fault_text (WrongClock 20 (codes "a.clock")) ≡ codes "F14 line 20 a.clock"
unfolding digits
clock_of_nothing = refl

many_words : fault_text (OverLimit Words 1114112) ≡ codes "F15 words 1114112"
unfolding digits
many_words = refl

loop : fault_text (Loop (codes "a.k" ∷ codes "a.q" ∷ [])) ≡ codes "F16 a.k a.q"
loop = refl
