-- Code: what is added at the end changes nothing before it, and what a stretch gives.
use Rattle.std.proofs.Common.{◌≡◌, ℕ, ◌<◌, ◌≤◌, ◌+◌, ◌-◌, ◌^◌, List, [], ◌++◌, length, take, drop, inl, inr, sym, ◌∙◌, ap, ap₂, subst, arith}
use Rattle.std.proofs.Math.Nat.{mod-eq_of_lt}
use Rattle.std.proofs.Math.Pow.{pow_mono}
use Rattle.std.proofs.lemmas.Bool.Decides.{leb_tells}
use Rattle.std.proofs.lemmas.List.{append-nil, length-append, length-drop, take-append-le, drop-append-le, take_all, drop_all}
use Rattle.gg_bits.specs.Shape.{Shape, Fits}
use Rattle.gg_bits.specs.Value.{pattern_of, number_of}
use Rattle.gg_bits.specs.Meaning.{extended}
use Rattle.gg_bits.specs.declared.types.Kind.TheVariants.{UInt}
use Rattle.gg_flat.specs.declared.line.Op.{Op}
use Rattle.gg_flat.specs.declared.line.Op.TheVariants.{Ref, Literal, One, Two, Fix, Mux}
use Rattle.gg_flat.specs.declared.line.Node.{Node}
use Rattle.gg_flat.specs.Line.{shape_at, shapes_of, op_at, HasShape, HasType, IsLine, IsSource, line_shape, line_value, connected_value}
use Rattle.gg_flat.specs.inside.Line.{HasValue}
use Rattle.gg_tape.specs.declared.instruction.Instruction.{Instruction}
use Rattle.gg_tape.specs.declared.code.Stretch.{Stretch}
use Rattle.gg_tape.specs.declared.code.Code.{Code}
use Rattle.gg_tape.specs.inside.Instruction.{small}
use Rattle.gg_tape.specs.inside.Cells.{Celled}
use Rattle.gg_tape.specs.inside.Told.{NamesBefore, Told, IsAdded, IsTold}
use Rattle.gg_tape.specs.inside.Tape.{stretch_of, TellsLine, TellsFor, Grows, CanTell, CanConnect}
use Rattle.gg_tape.proofs.TellLemmas.{Told-more}

-- ---- more behind it

pub Grows-none : (code : Code) → Grows code code
Grows-none code =
    record {
      more = [];
      further = [];
      instructions_are = sym (append-nil code.instructions.items);
      literals_are = sym (append-nil code.literals.items);
    }

pub Grows-added : (line : List Node) (n : ℕ) (old new : Code) → IsAdded line n old.instructions.items old.literals.items new.instructions.items new.literals.items → Grows old new
Grows-added line n old new added = record { more = added.made; further = added.more; instructions_are = added.are; literals_are = added.literals_are }

-- a stretch has the same instructions if more stand behind it
stretch-more : (instructions more : List Instruction) (stretch : Stretch) → stretch.to ≤ length instructions → stretch_of (instructions ++ more) stretch ≡ stretch_of instructions stretch
stretch-more instructions more stretch within =
    elim (leb_tells stretch.from stretch.to) [
      | inl in-order ↦
          let from : stretch.from ≤ length instructions = omega (arith, in-order.1, within) in
          let count : length (drop stretch.from instructions) ≡ length instructions - stretch.from = length-drop stretch.from instructions in
          ap (take (stretch.to - stretch.from)) (drop-append-le stretch.from instructions more from)
          ∙ take-append-le (stretch.to - stretch.from) (drop stretch.from instructions) more (omega (arith, count, within))
      | inr none ↦
          let zero : stretch.to - stretch.from ≡ 0 = omega (arith, none.1) in
          ap (λ n. take n (drop stretch.from (instructions ++ more))) zero ∙ sym (ap (λ n. take n (drop stretch.from instructions)) zero)
    ]

pub line-more : (n : ℕ) (old new : Code) (stretch : Stretch) (line : List Node) → Grows old new → TellsLine n old stretch line → TellsLine n new stretch line
line-more n old new stretch line grows tells =
    let instructions = old.instructions.items in
    let literals = old.literals.items in
    let before : Told line n (literals ++ grows.further) 0 (stretch_of instructions stretch) = Told-more line n literals grows.further 0 (stretch_of instructions stretch) tells.told in
    let behind : stretch_of new.instructions.items stretch ≡ stretch_of instructions stretch = ap (λ xs. stretch_of xs stretch) grows.instructions_are ∙ stretch-more instructions grows.more stretch tells.within in
    record {
      within = omega (arith, tells.within, length-append instructions grows.more, ap length grows.instructions_are);
      own = tells.own;
      told =
          subst (λ (xs : List Instruction). Told line n new.literals.items 0 xs) (sym behind)
          (subst (λ (ls : List ℕ). Told line n ls 0 (stretch_of instructions stretch)) (sym grows.literals_are) before);
    }

pub for-more : (n : ℕ) (old new : Code) (sink : Shape) (stretch : Stretch) (line : List Node) → Grows old new → TellsFor n old sink stretch line → TellsFor n new sink stretch line
for-more n old new sink stretch line grows is = record { tells = line-more n old new stretch line grows is.tells; sink_is = is.sink_is }

-- ---- one stretch more

-- the new instructions are those behind the old ones
stretch-made : (old made : List Instruction) (stretch : Stretch) → stretch.from ≡ length old → stretch.to ≡ length (old ++ made) → stretch_of (old ++ made) stretch ≡ made
stretch-made old made stretch from to =
    let count : length (old ++ made) ≡ length old + length made = length-append old made in
    let few : stretch.to - stretch.from ≡ length made = omega (arith, from, to, count) in
    let behind : drop stretch.from (old ++ made) ≡ made = ap (λ k. drop k (old ++ made)) from ∙ drop-append-le (length old) old made (omega arith) ∙ ap (λ xs. xs ++ made) (drop_all (length old) old (omega arith)) in
    ap₂ take few behind ∙ take_all (length made) made (omega arith)

pub line-made : (n : ℕ) (old new : Code) (stretch : Stretch) (line : List Node) → IsAdded line n old.instructions.items old.literals.items new.instructions.items new.literals.items → small stretch.own ≡ line_shape line → stretch.from ≡ length old.instructions.items → stretch.to ≡ length new.instructions.items → TellsLine n new stretch line
line-made n old new stretch line added own from to =
    let is : stretch_of new.instructions.items stretch ≡ added.made = ap (λ xs. stretch_of xs stretch) added.are ∙ stretch-made old.instructions.items added.made stretch from (to ∙ ap length added.are) in
    record {
      within = omega (arith, to);
      own = own;
      told = subst (λ (xs : List Instruction). Told line n new.literals.items 0 xs) (sym is) added.told;
    }

-- ---- what a stretch gives

-- its instructions tell the line, from the cells' values on
pub told-by : (code : Code) (stretch : Stretch) (cells : Celled) (line : List Node) → CanTell code stretch cells line → IsTold line code.literals.items (stretch_of code.instructions.items stretch) cells.values cells.room
told-by code stretch cells line can = record { told = can.tells.told; line = can.line_is; enough = can.room }

pub connects-tells : (code : Code) (stretch : Stretch) (cells : Celled) (line : List Node) → CanConnect code stretch cells line → CanTell code stretch cells line
connects-tells code stretch cells line can = record { tells = can.tells; line_is = can.source.line; room = can.room }

-- it can be computed for the sink that it tells it for
pub for-can : (code : Code) (sink : Shape) (stretch : Stretch) (cells : Celled) (line : List Node) → TellsFor (length cells.values) code sink stretch line → IsSource (HasValue cells.values) sink line → length line ≤ cells.room → CanConnect code stretch cells line
for-can code sink stretch cells line is source room =
    record { tells = is.tells; source = subst (λ (s : Shape). IsSource (HasValue cells.values) s line) (sym is.sink_is) source; room = room }

-- a natural number is its own extension
pub natural-same : (s : Shape) (w v : ℕ) → s.kind ≡ UInt → s.width ≤ w → Fits s v → v ≡ extended s w v
natural-same s w v is longer fits =
    let whole : 2 ^ s.width ≤ 2 ^ w = pow_mono longer in
    let small : v < 2 ^ w = omega (arith, fits, whole) in
    sym (ap (λ k. pattern_of w (number_of k s.width v)) is ∙ mod-eq_of_lt small)

-- The value of a line of kind `UInt` is what its sink gets.
pub record IsConnected (values : List ℕ) (sink : Shape) (line : List Node) (value : ℕ) : Type 0 where
  pub value_is : value ≡ connected_value values sink line
  pub fits : Fits sink value

pub natural-connects : (code : Code) (stretch : Stretch) (cells : Celled) (line : List Node) (value : ℕ) → CanConnect code stretch cells line → stretch.own.kind ≡ UInt → value ≡ line_value cells.values line → Fits (small stretch.own) value → IsConnected cells.values (small stretch.sink) line value
natural-connects code stretch cells line value can natural is fits =
    let own : small stretch.own ≡ line_shape line = can.tells.own in
    let wide : stretch.own.width ≤ stretch.sink.width = subst (λ (s : Shape). s.width ≤ stretch.sink.width) (sym own) can.source.width in
    let whole : 2 ^ stretch.own.width ≤ 2 ^ stretch.sink.width = pow_mono wide in
    record {
      value_is = natural-same (small stretch.own) stretch.sink.width value natural wide fits ∙ ap₂ (λ (s : Shape) (v : ℕ). extended s stretch.sink.width v) own is;
      fits = omega (arith, fits, whole);
    }

-- ---- a line's nodes name earlier ones

names-before : (signals : List Shape) (shapes : List Shape) (k : ℕ) (to : Shape) (op : Op) → HasShape (HasType signals) shapes k to op → NamesBefore k op
names-before signals shapes k to (Ref s) has = tt
names-before signals shapes k to (Literal value) has = tt
names-before signals shapes k to (One op i) has = has.0
names-before signals shapes k to (Two op i j) has = (has.0, has.1)
names-before signals shapes k to (Fix op i n m) has = has.0
names-before signals shapes k to (Mux c i j) has = (has.0, has.1, has.2)

pub line-names : (shapes : List Shape) (line : List Node) → IsLine (HasType shapes) line → (k : ℕ) → k < length line → NamesBefore k (op_at line k)
line-names shapes line is k lt = names-before shapes (shapes_of line) k (shape_at (shapes_of line) k) (op_at line k) (is.typed k lt)
