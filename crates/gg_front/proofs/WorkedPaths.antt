-- Paths at small texts, and at near misses.
use Rattle.std.proofs.Common.{◌≡◌, codes, refl, arith, false}
use Rattle.std.specs.List.{list_all}
use Rattle.gg_front.specs.inside.Paths.{IsPath, IsSignalPath, is_path_byte, is_signal_byte}

-- names, with dots between them
signal : IsPath (codes "store.m.r.addr")
signal = record { some = omega arith; bytes = refl }

top_signal : IsPath (codes "_a$7")
top_signal = record { some = omega arith; bytes = refl }

-- a blank, a colon, a dash, a line feed, and no byte at all
blank : list_all is_path_byte (codes "a b") ≡ false
blank = refl

colon : list_all is_path_byte (codes "in:a") ≡ false
colon = refl

dash : list_all is_path_byte (codes "a-b") ≡ false
dash = refl

line_feed : list_all is_path_byte (codes "a\n") ≡ false
line_feed = refl

-- a stop, and a blank in its name
stop : IsSignalPath (codes "store.stop:12")
stop = record { some = omega arith; bytes = refl }

stop_blank : list_all is_signal_byte (codes "stop: 12") ≡ false
stop_blank = refl

nothing : IsPath (codes "") → ⊥
nothing path = omega (arith, path.some)
