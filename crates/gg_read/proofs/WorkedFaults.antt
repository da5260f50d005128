-- Fault lines worked by hand: each of the 26 words and 4 symbols that are left out of the language, and lines with many brackets;
-- and how faults are printed.
use Rattle.std.proofs.Common.{◌≡◌, ℕ, zero, suc, ◌≤◌, List, [], ◌∷◌, ◌++◌, ◌+◌, take, None, Some, codes, refl, arith}
use Rattle.std.specs.Fmt.{digits}
use Rattle.gg_lex.specs.declared.token.Tok.{Tok}
use Rattle.gg_lex.specs.declared.token.Tok.TheVariants.{Word, Number, Text, Symbol}
use Rattle.gg_lex.specs.declared.token.Symbol.TheVariants.{PartialConnect, CloseBracket, CloseBrace, Connect, OpenParen, CloseParen, OpenBracket, OpenBrace, OpenAnnotations}
use Rattle.gg_read.specs.FaultText.{fault_text}
use Rattle.gg_read.specs.declared.text.ReadFault.{ReadFault}
use Rattle.gg_read.specs.declared.text.ReadFault.TheVariants.{NotText, Syntax, Outside, TooDeep}
use Rattle.gg_read.specs.Text.{opened, closed, IsTooDeep, first_outside}

-- The token is the first outside word or symbol of `node Whens TOKEN else`, and it is reported as this text.
record IsOutside (token : Tok) (text : List ℕ) : Type 0 where
  pub outside : first_outside (Word (codes "node") ∷ (Word (codes "Whens") ∷ (token ∷ (Word (codes "else") ∷ [])))) ≡ Some text

outside_when : IsOutside (Word (codes "when")) (codes "when")
outside_when = record { outside = refl }

outside_else : IsOutside (Word (codes "else")) (codes "else")
outside_else = record { outside = refl }

outside_extmodule : IsOutside (Word (codes "extmodule")) (codes "extmodule")
outside_extmodule = record { outside = refl }

outside_intmodule : IsOutside (Word (codes "intmodule")) (codes "intmodule")
outside_intmodule = record { outside = refl }

outside_cmem : IsOutside (Word (codes "cmem")) (codes "cmem")
outside_cmem = record { outside = refl }

outside_smem : IsOutside (Word (codes "smem")) (codes "smem")
outside_smem = record { outside = refl }

outside_infer : IsOutside (Word (codes "infer")) (codes "infer")
outside_infer = record { outside = refl }

outside_attach : IsOutside (Word (codes "attach")) (codes "attach")
outside_attach = record { outside = refl }

outside_layer : IsOutside (Word (codes "layer")) (codes "layer")
outside_layer = record { outside = refl }

outside_layerblock : IsOutside (Word (codes "layerblock")) (codes "layerblock")
outside_layerblock = record { outside = refl }

outside_group : IsOutside (Word (codes "group")) (codes "group")
outside_group = record { outside = refl }

outside_define : IsOutside (Word (codes "define")) (codes "define")
outside_define = record { outside = refl }

outside_parameter : IsOutside (Word (codes "parameter")) (codes "parameter")
outside_parameter = record { outside = refl }

outside_defname : IsOutside (Word (codes "defname")) (codes "defname")
outside_defname = record { outside = refl }

outside_Analog : IsOutside (Word (codes "Analog")) (codes "Analog")
outside_Analog = record { outside = refl }

outside_Fixed : IsOutside (Word (codes "Fixed")) (codes "Fixed")
outside_Fixed = record { outside = refl }

outside_Interval : IsOutside (Word (codes "Interval")) (codes "Interval")
outside_Interval = record { outside = refl }

outside_AsyncReset : IsOutside (Word (codes "AsyncReset")) (codes "AsyncReset")
outside_AsyncReset = record { outside = refl }

outside_Reset : IsOutside (Word (codes "Reset")) (codes "Reset")
outside_Reset = record { outside = refl }

outside_Probe : IsOutside (Word (codes "Probe")) (codes "Probe")
outside_Probe = record { outside = refl }

outside_flip : IsOutside (Word (codes "flip")) (codes "flip")
outside_flip = record { outside = refl }

outside_asClock : IsOutside (Word (codes "asClock")) (codes "asClock")
outside_asClock = record { outside = refl }

outside_asAsyncReset : IsOutside (Word (codes "asAsyncReset")) (codes "asAsyncReset")
outside_asAsyncReset = record { outside = refl }

outside_asFixedPoint : IsOutside (Word (codes "asFixedPoint")) (codes "asFixedPoint")
outside_asFixedPoint = record { outside = refl }

outside_asInterval : IsOutside (Word (codes "asInterval")) (codes "asInterval")
outside_asInterval = record { outside = refl }

outside_readwriter : IsOutside (Word (codes "readwriter")) (codes "readwriter")
outside_readwriter = record { outside = refl }

outside_partial_connect : IsOutside (Symbol PartialConnect) (codes "<-")
outside_partial_connect = record { outside = refl }

outside_open_bracket : IsOutside (Symbol OpenBracket) (codes "[")
outside_open_bracket = record { outside = refl }

outside_open_brace : IsOutside (Symbol OpenBrace) (codes "{")
outside_open_brace = record { outside = refl }

outside_open_annotations : IsOutside (Symbol OpenAnnotations) (codes "%[")
outside_open_annotations = record { outside = refl }

-- near misses: `mem`, `reset`, `reader`, a number, a text and other symbols are not left out
record NoneIsOutside (ts : List Tok) : Type 0 where
  pub none : first_outside ts ≡ None

near_misses : NoneIsOutside (Word (codes "mem") ∷ (Word (codes "reset") ∷ (Word (codes "reader") ∷ (Word (codes "Whens") ∷ (Number (codes "1") ∷ (Text (codes "when") ∷ (Symbol Connect ∷ (Symbol CloseBracket ∷ (Symbol CloseBrace ∷ [])))))))))
near_misses = record { none = refl }

-- n opening brackets
opens : ℕ → List Tok
opens zero = []
opens (suc n) = Symbol OpenParen ∷ opens n

all_of_them : (n : ℕ) → (opened (take n (opens n)) ≡ n) × (closed (take n (opens n)) ≡ 0)
unfolding opens
all_of_them zero = (refl, refl)
all_of_them (suc n) = let more = all_of_them n in (omega (arith, more.0), more.1)

some_of_them : (k n : ℕ) → opened (take k (opens n)) ≤ n
unfolding opens
some_of_them zero n = omega arith
some_of_them (suc k) zero = omega arith
some_of_them (suc k) (suc n) = omega (arith, some_of_them k n)

too_deep : IsTooDeep (opens 257)
too_deep = let all = all_of_them 257 in (257, omega (arith, all.0, all.1))

deep_enough : IsTooDeep (opens 256) → ⊥
deep_enough (k, h) = omega (arith, h, some_of_them k 256)

-- a `)` before the 257 `(` lowers the count
closed_before : IsTooDeep (Symbol CloseParen ∷ opens 257) → ⊥
closed_before (zero, h) = omega (arith, h)
closed_before (suc k, h) = omega (arith, h, some_of_them k 257)

-- 256 `(`, a `)` and one more `(` are not too deep either: of n and these two, at most n are open at a time
between : (k n : ℕ) → opened (take k (opens n ++ Symbol CloseParen ∷ (Symbol OpenParen ∷ []))) ≤ n + closed (take k (opens n ++ Symbol CloseParen ∷ (Symbol OpenParen ∷ [])))
unfolding opens
between zero n = omega arith
between (suc zero) zero = omega arith
between (suc (suc zero)) zero = omega arith
between (suc (suc (suc k))) zero = omega arith
between (suc k) (suc n) = omega (arith, between k n)

closed_between : IsTooDeep (opens 256 ++ Symbol CloseParen ∷ (Symbol OpenParen ∷ [])) → ⊥
closed_between (k, h) = omega (arith, h, between k 256)

-- 257 `(` and a `)` after them are too deep
first_of_them : (n : ℕ) → (opened (take n (opens n ++ Symbol CloseParen ∷ [])) ≡ n) × (closed (take n (opens n ++ Symbol CloseParen ∷ [])) ≡ 0)
unfolding opens
first_of_them zero = (refl, refl)
first_of_them (suc n) = let more = first_of_them n in (omega (arith, more.0), more.1)

closed_behind : IsTooDeep (opens 257 ++ Symbol CloseParen ∷ [])
closed_behind = let all = first_of_them 257 in (257, omega (arith, all.0, all.1))

closed_before_more : IsTooDeep (Symbol CloseParen ∷ opens 258)
closed_before_more = let all = all_of_them 258 in (259, omega (arith, all.0, all.1))

-- the text of a fault
record Says (fault : ReadFault) (text : List ℕ) : Type 0 where
  pub same : fault_text fault ≡ text

no_text : Says NotText (codes "not text")
no_text = record { same = refl }

syntax_said : Says (Syntax 12) (codes "syntax line 12")
unfolding digits
syntax_said = record { same = refl }

outside_said : Says (Outside 10 (codes "when")) (codes "outside line 10 when")
unfolding digits
outside_said = record { same = refl }

deep_said : Says (TooDeep 200001) (codes "too deep line 200001")
unfolding digits
deep_said = record { same = refl }
