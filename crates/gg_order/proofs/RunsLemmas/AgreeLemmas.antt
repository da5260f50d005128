-- A driver's value depends on the signals that the driver names, and on no other.
use Rattle.std.proofs.Common.{◌≡◌, ℕ, suc, ◌-◌, List, [], ◌∷◌, ◌++◌, length, refl, ◌∙◌, ap, ap₂, inl, inr, arith}
use Rattle.std.specs.Prelude.{fold, Option, Some, None, Bool, ◌==◌, if◌then◌else◌}
use Rattle.gg_bits.specs.Shape.{Shape, shape}
use Rattle.gg_bits.specs.Meaning.{extended}
use Rattle.gg_flat.specs.declared.line.Node.{Node}
use Rattle.gg_flat.specs.declared.line.Op.{Op}
use Rattle.gg_flat.specs.declared.line.Op.TheVariants.{Ref, Literal, One, Two, Fix, Mux}
use Rattle.gg_flat.specs.declared.piece.Driver.{Driver}
use Rattle.gg_flat.specs.declared.piece.Driver.TheVariants.{Input, Held, MemoryWord, ReadRegister, Computed}
use Rattle.gg_flat.specs.Clock.{ticks}
use Rattle.gg_flat.specs.Line.{value_at, shapes_of, line_shape, op_value, with_node, line_value, connected_value}
use Rattle.gg_flat.specs.declared.piece.Register.{Register}
use Rattle.gg_flat.specs.declared.piece.Reset.{Reset}
use Rattle.gg_flat.specs.Reads.{Names, NamesSignal, ResetNames, NextNames, RegisterNames}
use Rattle.gg_flat.specs.Memory.{read_word, bank_at}
use Rattle.gg_flat.specs.State.{State, connected_or, reset_or, next_register}
use Rattle.gg_flat.specs.Settled.{driver_value}

pub op_value-agree : (v w : List ℕ) (shapes : List Shape) (before : List ℕ) (op : Op) → ((s : ℕ) → op ≡ Ref s → value_at v s ≡ value_at w s) → op_value v shapes before op ≡ op_value w shapes before op
op_value-agree v w shapes before (Ref s) same = same s refl
op_value-agree v w shapes before (Literal value) same = refl
op_value-agree v w shapes before (One op i) same = refl
op_value-agree v w shapes before (Two op i j) same = refl
op_value-agree v w shapes before (Fix op i n m) same = refl
op_value-agree v w shapes before (Mux c i j) same = refl

pub values-agree : (v w : List ℕ) (shapes : List Shape) (before : List ℕ) (nodes : List Node) → ((s : ℕ) → Names nodes s → value_at v s ≡ value_at w s) → fold (with_node v shapes) before nodes ≡ fold (with_node w shapes) before nodes
values-agree v w shapes before [] same = refl
values-agree v w shapes before (node ∷ nodes) same =
    ap (λ more. fold (with_node v shapes) (before ++ more ∷ []) nodes) (op_value-agree v w shapes before node.op (λ s is. same s (0, omega arith, is)))
    ∙ values-agree v w shapes (with_node w shapes before node) nodes (λ s named. same s (suc named.0, omega (arith, named.1), named.2))

pub line_value-agree : (v w : List ℕ) (nodes : List Node) → ((s : ℕ) → Names nodes s → value_at v s ≡ value_at w s) → line_value v nodes ≡ line_value w nodes
line_value-agree v w nodes same = ap (λ values. value_at values (length nodes - 1)) (values-agree v w (shapes_of nodes) [] nodes same)

pub driver_value-agree : (state : State) (inputs v w : List ℕ) (sink : Shape) (driver : Driver) → ((s : ℕ) → NamesSignal driver s → value_at v s ≡ value_at w s) → driver_value state inputs v sink driver ≡ driver_value state inputs w sink driver
driver_value-agree state inputs v w sink (Input place) same = refl
driver_value-agree state inputs v w sink (Held register) same = refl
driver_value-agree state inputs v w sink (MemoryWord memory reader addr en) same = ap₂ (read_word (bank_at state.banks memory).words) (same addr (inl refl)) (same en (inr refl))
driver_value-agree state inputs v w sink (ReadRegister memory reader) same = refl
driver_value-agree state inputs v w sink (Computed line) same = ap (λ value. extended (line_shape line) sink.width value) (line_value-agree v w line same)

connected-agree : (v w : List ℕ) (sink : Shape) (line : List Node) → ((s : ℕ) → Names line s → value_at v s ≡ value_at w s) → connected_value v sink line ≡ connected_value w sink line
connected-agree v w sink line same = ap (λ value. extended (line_shape line) sink.width value) (line_value-agree v w line same)

connected_or-agree : (v w : List ℕ) (sink : Shape) (next : Option (List Node)) (own : ℕ) → ((s : ℕ) → NextNames next s → value_at v s ≡ value_at w s) → connected_or v sink next own ≡ connected_or w sink next own
connected_or-agree v w sink None own same = refl
connected_or-agree v w sink (Some line) own same = connected-agree v w sink line same

reset_or-agree : (v w : List ℕ) (sink : Shape) (reset : Option Reset) (other : ℕ) → ((s : ℕ) → ResetNames reset s → value_at v s ≡ value_at w s) → reset_or v sink reset other ≡ reset_or w sink reset other
reset_or-agree v w sink None other same = refl
reset_or-agree v w sink (Some reset) other same =
    ap₂ (λ condition init. if condition == 1 then init else other) (line_value-agree v w reset.condition (λ s named. same s (inl named))) (connected-agree v w sink reset.init (λ s named. same s (inr named)))

-- a register's next value depends on the signals that the register names, and on no other
pub next_register-agree : (edges : List Bool) (v w : List ℕ) (register : Register) (own : ℕ) → ((s : ℕ) → RegisterNames register s → value_at v s ≡ value_at w s) → next_register edges v register own ≡ next_register edges w register own
next_register-agree edges v w register own same =
    ap (λ taken. if ticks edges register.clock then taken else own)
    (ap (reset_or v (shape register.ty) register.reset) (connected_or-agree v w (shape register.ty) register.next own (λ s named. same s (inr named)))
    ∙ reset_or-agree v w (shape register.ty) register.reset (connected_or w (shape register.ty) register.next own) (λ s named. same s (inl named)))
