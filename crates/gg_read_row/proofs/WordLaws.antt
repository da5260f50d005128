-- The words of operations and of lines: each names what is spelt so, and nothing else.
use Rattle.std.proofs.Common.{◌≡◌, ℕ, List, [], ◌∷◌, Bool, true, false, Option, None, Some, refl, ap, ◌∙◌, ◌⊎◌, inl, inr}
use Rattle.std.specs.Prelude.{if◌then◌else◌, codes, option_map}
use Rattle.std.specs.Option.{option_or}
use Rattle.std.specs.Str.{bytes_eq}
use Rattle.std.proofs.lemmas.Option.{same_Some}
use Rattle.gg_bits.specs.declared.ops.Op1.TheVariants as one
use Rattle.gg_bits.specs.declared.ops.Op2.TheVariants as two
use Rattle.gg_bits.specs.declared.ops.OpN.TheVariants as fix
use Rattle.gg_ast.specs.declared.module.Direction.TheVariants as direction
use Rattle.gg_ast.specs.declared.statement.Report.TheVariants as report
use Rattle.gg_ast.specs.declared.words.FieldWord.TheVariants as field
use Rattle.gg_ast.specs.declared.words.Operation.{Operation}
use Rattle.gg_ast.specs.declared.words.Operation.TheVariants.{Unary, Binary, Fixed, Mux}
use Rattle.gg_ast.specs.declared.words.Keyword.{Keyword}
use Rattle.gg_ast.specs.declared.words.Keyword.TheVariants as keyword
use Rattle.gg_bits.specs.Spelling.{text1, text2, text_const}
use Rattle.gg_bits.specs.inside.Spelling.{written_as, all1, all2, all_const, named1, named2, named_const}
use Rattle.gg_ast.specs.Words.{direction_text, report_text}
use Rattle.gg_ast.specs.inside.Words.{field_text, operation_of, head_words, tail_words, field_words, second_words, keyword_of}
use Rattle.gg_bits.specs.Lists.{find_word}
use Rattle.gg_read_row.proofs.Leaves.{equal_bytes}

-- in each entry of the table, the word is the spelling of the value
abbrev IsSpelt : {A : Type 0} → (A → List ℕ) → List (List ℕ × A) → Type 0
IsSpelt text [] = Unit {0}
IsSpelt text (entry ∷ table) = (entry.0 ≡ text entry.1) × IsSpelt text table

by_test : {A : Type 0} (text : A → List ℕ) (word : List ℕ) (entry : List ℕ × A) (rest : Option A) (x : A) (b : Bool) → bytes_eq word entry.0 ≡ b → entry.0 ≡ text entry.1 → (rest ≡ Some x → word ≡ text x) → (if b then Some entry.1 else rest) ≡ Some x → word ≡ text x
by_test text word entry rest x true e spelt more h = equal_bytes word entry.0 e ∙ spelt ∙ ap text (same_Some entry.1 x h)
by_test text word entry rest x false e spelt more h = more h

find_word-spells : {A : Type 0} (text : A → List ℕ) (word : List ℕ) (table : List (List ℕ × A)) (x : A) → IsSpelt text table → find_word word table ≡ Some x → word ≡ text x
find_word-spells text word [] x spelt h = absurd (cc)
find_word-spells text word (entry ∷ table) x spelt h =
    by_test text word entry (find_word word table) x (bytes_eq word entry.0) refl spelt.0 (find_word-spells text word table x spelt.1) h

first_or : {A : Type 0} (a b : Option A) (x : A) → option_or a b ≡ Some x → (a ≡ Some x) ⊎ (b ≡ Some x)
first_or None b x h = inr h
first_or (Some y) b x h = inl h

mapped : {A B : Type 0} (f : A → B) (o : Option A) (x : B) → option_map f o ≡ Some x → (y : A) × (o ≡ Some y) × (f y ≡ x)
mapped f None x h = absurd (cc)
mapped f (Some y) x h = (y, refl, same_Some (f y) x h)

-- the word of an operation
abbrev pub operation_text : Operation → List ℕ
operation_text (Unary o) = text1 o
operation_text (Binary o) = text2 o
operation_text (Fixed o) = text_const o
operation_text Mux = codes "mux"

-- the operation that is found for a word is written as this word
written : {A : Type 0} (text : A → List ℕ) (word : List ℕ) (ops : List A) (x : A) → written_as text word ops ≡ Some x → word ≡ text x
written text word [] x h = absurd (cc)
written text word (op ∷ ops) x h =
    by_test text word (text op, op) (written_as text word ops) x (bytes_eq word (text op)) refl refl (written text word ops x) h

from_all : {A : Type 0} (wrap : A → Operation) (text : A → List ℕ) (word : List ℕ) (ops : List A) (o : Operation) → ((a : A) → text a ≡ operation_text (wrap a)) → option_map wrap (written_as text word ops) ≡ Some o → word ≡ operation_text o
from_all wrap text word ops o same h =
    let m = mapped wrap (written_as text word ops) o h in
    written text word ops m.0 m.1 ∙ same m.0 ∙ ap operation_text m.2

is_mux : (word : List ℕ) (o : Operation) (b : Bool) → bytes_eq word (codes "mux") ≡ b → (if b then Some Mux else None) ≡ Some o → word ≡ operation_text o
is_mux word o true e h = equal_bytes word (codes "mux") e ∙ ap operation_text (same_Some Mux o h)
is_mux word o false e h = absurd (cc)

pub operation_of-spells : (word : List ℕ) (o : Operation) → operation_of word ≡ Some o → word ≡ operation_text o
operation_of-spells word o h =
    elim (first_or (option_map Unary (named1 word)) _ o h) [
      | inl a ↦ from_all Unary text1 word all1 o (λ x. refl) a
      | inr b ↦ elim (first_or (option_map Binary (named2 word)) _ o b) [
        | inl a ↦ from_all Binary text2 word all2 o (λ x. refl) a
        | inr c ↦ elim (first_or (option_map Fixed (named_const word)) _ o c) [
          | inl a ↦ from_all Fixed text_const word all_const o (λ x. refl) a
          | inr e ↦ is_mux word o (bytes_eq word (codes "mux")) refl e
        ]
      ]
    ]

pub operation_of-here : (o : Operation) → operation_of (operation_text o) ≡ Some o
operation_of-here (Unary one.AsUInt) = refl
operation_of-here (Unary one.AsSInt) = refl
operation_of-here (Unary one.Cvt) = refl
operation_of-here (Unary one.Neg) = refl
operation_of-here (Unary one.Not) = refl
operation_of-here (Unary one.Andr) = refl
operation_of-here (Unary one.Orr) = refl
operation_of-here (Unary one.Xorr) = refl
operation_of-here (Binary two.Add) = refl
operation_of-here (Binary two.Sub) = refl
operation_of-here (Binary two.Mul) = refl
operation_of-here (Binary two.Div) = refl
operation_of-here (Binary two.Rem) = refl
operation_of-here (Binary two.Lt) = refl
operation_of-here (Binary two.Leq) = refl
operation_of-here (Binary two.Gt) = refl
operation_of-here (Binary two.Geq) = refl
operation_of-here (Binary two.Eq) = refl
operation_of-here (Binary two.Neq) = refl
operation_of-here (Binary two.Dshl) = refl
operation_of-here (Binary two.Dshr) = refl
operation_of-here (Binary two.And) = refl
operation_of-here (Binary two.Or) = refl
operation_of-here (Binary two.Xor) = refl
operation_of-here (Binary two.Cat) = refl
operation_of-here (Binary two.Validif) = refl
operation_of-here (Fixed fix.Pad) = refl
operation_of-here (Fixed fix.Shl) = refl
operation_of-here (Fixed fix.Shr) = refl
operation_of-here (Fixed fix.Bits) = refl
operation_of-here (Fixed fix.Head) = refl
operation_of-here (Fixed fix.Tail) = refl
operation_of-here Mux = refl

-- the first word of a line that isn't a connection
abbrev pub keyword_text : Keyword → List ℕ
keyword_text keyword.Version = codes "FIRRTL"
keyword_text keyword.Circuit = codes "circuit"
keyword_text keyword.Module = codes "module"
keyword_text (keyword.Port d) = direction_text d
keyword_text keyword.Wire = codes "wire"
keyword_text keyword.Node = codes "node"
keyword_text keyword.Register = codes "reg"
keyword_text keyword.Reset = codes "reset"
keyword_text keyword.Instance = codes "inst"
keyword_text keyword.Memory = codes "mem"
keyword_text (keyword.Field word) = field_text word
keyword_text keyword.Skip = codes "skip"
keyword_text keyword.Stop = codes "stop"
keyword_text (keyword.Report word) = report_text word
keyword_text keyword.Public = codes "public"
keyword_text keyword.Connect = codes "connect"
keyword_text keyword.Invalidate = codes "invalidate"
keyword_text keyword.Regreset = codes "regreset"

pub keyword_of-spells : (word : List ℕ) (k : Keyword) → keyword_of word ≡ Some k → word ≡ keyword_text k
keyword_of-spells word k h =
    elim (first_or (option_or (option_or (find_word word head_words) (find_word word tail_words)) (find_word word field_words)) _ k h) [
      | inl first ↦ elim (first_or (option_or (find_word word head_words) (find_word word tail_words)) _ k first) [
        | inl known ↦ elim (first_or (find_word word head_words) _ k known) [
          | inl a ↦ find_word-spells keyword_text word head_words k (refl, (refl, (refl, (refl, (refl, (refl, (refl, (refl, tt)))))))) a
          | inr b ↦ find_word-spells keyword_text word tail_words k (refl, (refl, (refl, (refl, (refl, (refl, (refl, (refl, (refl, tt))))))))) b
        ]
        | inr c ↦ find_word-spells keyword_text word field_words k (refl, (refl, (refl, (refl, (refl, (refl, (refl, tt))))))) c
      ]
      | inr d ↦ find_word-spells keyword_text word second_words k (refl, (refl, (refl, (refl, tt)))) d
    ]

pub keyword_of-here : (k : Keyword) → keyword_of (keyword_text k) ≡ Some k
keyword_of-here keyword.Version = refl
keyword_of-here keyword.Circuit = refl
keyword_of-here keyword.Module = refl
keyword_of-here (keyword.Port direction.Input) = refl
keyword_of-here (keyword.Port direction.Output) = refl
keyword_of-here keyword.Wire = refl
keyword_of-here keyword.Node = refl
keyword_of-here keyword.Register = refl
keyword_of-here keyword.Reset = refl
keyword_of-here keyword.Instance = refl
keyword_of-here keyword.Memory = refl
keyword_of-here (keyword.Field field.DataType) = refl
keyword_of-here (keyword.Field field.Depth) = refl
keyword_of-here (keyword.Field field.ReadLatency) = refl
keyword_of-here (keyword.Field field.WriteLatency) = refl
keyword_of-here (keyword.Field field.Reader) = refl
keyword_of-here (keyword.Field field.Writer) = refl
keyword_of-here (keyword.Field field.ReadUnderWrite) = refl
keyword_of-here keyword.Skip = refl
keyword_of-here keyword.Stop = refl
keyword_of-here (keyword.Report report.Printf) = refl
keyword_of-here (keyword.Report report.Assert) = refl
keyword_of-here (keyword.Report report.Assume) = refl
keyword_of-here (keyword.Report report.Cover) = refl
keyword_of-here keyword.Public = refl
keyword_of-here keyword.Connect = refl
keyword_of-here keyword.Invalidate = refl
keyword_of-here keyword.Regreset = refl
