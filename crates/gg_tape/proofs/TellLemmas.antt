-- The instructions that are made of a line tell it.
use Rattle.std.proofs.Common.{◌≡◌, ℕ, ◌<◌, ◌≤◌, ◌+◌, List, [], ◌∷◌, ◌++◌, length, inl, inr, refl, sym, ◌∙◌, ap, subst, arith}
use Rattle.std.proofs.lemmas.Bool.Decides.{eqb_tells}
use Rattle.std.proofs.lemmas.List.{get_or_append_left, append-nil, append_assoc, length-append}
use Rattle.gg_flat.specs.declared.line.Node.{Node}
use Rattle.gg_flat.specs.declared.line.Op.{Op}
use Rattle.gg_flat.specs.declared.line.Op.TheVariants.{Ref, Literal, One, Two, Fix, Mux}
use Rattle.gg_flat.specs.Line.{op_at}
use Rattle.gg_tape.specs.declared.instruction.Instruction.{Instruction}
use Rattle.gg_tape.specs.inside.Told.{IsRef, DoesOp, Does, IsNext, Told, TellsTo, IsAdded}

-- ---- more literals change nothing

does-op-more : (nodes : List Node) (n : ℕ) (literals further : List ℕ) (i : Instruction) (op : Op) → DoesOp nodes n literals i op → DoesOp nodes n (literals ++ further) i op
does-op-more nodes n literals further i (Ref s) does = does
does-op-more nodes n literals further i (Literal value) does = (does.0, omega (arith, does.1, length-append literals further), get_or_append_left literals further 0 i.first does.1 ∙ does.2)
does-op-more nodes n literals further i (One op j) does = does
does-op-more nodes n literals further i (Two op j k) does = does
does-op-more nodes n literals further i (Fix op j p q) does = does
does-op-more nodes n literals further i (Mux c j k) does = does

pub Does-more : (nodes : List Node) (n : ℕ) (literals further : List ℕ) (k : ℕ) (i : Instruction) → Does nodes n literals k i → Does nodes n (literals ++ further) k i
Does-more nodes n literals further k i does = record { cell = does.cell; ty = does.ty; op = does-op-more nodes n literals further i (op_at nodes k) does.op }

pub Told-more : (nodes : List Node) (n : ℕ) (literals further : List ℕ) (i : ℕ) (instructions : List Instruction) → Told nodes n literals i instructions → Told nodes n (literals ++ further) i instructions
Told-more nodes n literals further i [] told = told
Told-more nodes n literals further i (instruction ∷ rest) told =
    let next : IsNext nodes n literals i told.0 instruction = told.1 in
    let more : IsNext nodes n (literals ++ further) i told.0 instruction =
    record { from = next.from; within = next.within; between = next.between; does = Does-more nodes n literals further told.0 instruction next.does } in
    (told.0, more, Told-more nodes n literals further (told.0 + 1) rest told.2)

-- ---- one node

-- between the nodes from k on and from k + 1 on stands node k
among-more : (nodes : List Node) (k top j : ℕ) → IsRef (op_at nodes k) → ((x : ℕ) → k + 1 ≤ x → x < top → IsRef (op_at nodes x)) → k ≤ j → j < top → IsRef (op_at nodes j)
among-more nodes k top j ref later from lt =
    elim (eqb_tells k j) [
      | inl same ↦ subst (λ x. IsRef (op_at nodes x)) same.1 ref
      | inr other ↦ let above : k + 1 ≤ j = omega (arith, from, other.1) in later j above lt
    ]

-- a reference that isn't the last node
told-ref : (nodes : List Node) (n : ℕ) (literals : List ℕ) (k : ℕ) (rest : List Instruction) → k + 1 < length nodes → IsRef (op_at nodes k) → Told nodes n literals (k + 1) rest → Told nodes n literals k rest
told-ref nodes n literals k [] within ref told = absurd (omega (arith, told, within))
told-ref nodes n literals k (instruction ∷ rest) within ref told =
    let next : IsNext nodes n literals (k + 1) told.0 instruction = told.1 in
    let more : IsNext nodes n literals k told.0 instruction =
    record {
      from = omega (arith, next.from);
      within = next.within;
      between = λ j from lt. among-more nodes k told.0 j ref next.between from lt;
      does = next.does;
    } in
    (told.0, more, told.2)

pub TellsTo-ref : (nodes : List Node) (n : ℕ) (k : ℕ) (old : List Instruction) (literals : List ℕ) → k + 1 < length nodes → IsRef (op_at nodes k) → TellsTo nodes n k (k + 1) old literals old literals
TellsTo-ref nodes n k old literals within ref =
    record {
      made = [];
      more = [];
      are = sym (append-nil old);
      literals_are = sym (append-nil literals);
      told = λ further rest told. told-ref nodes n (literals ++ further) k rest within ref told;
    }

pub TellsTo-does : (nodes : List Node) (n : ℕ) (k : ℕ) (old : List Instruction) (old_literals literals more : List ℕ) (i : Instruction) → k < length nodes → literals ≡ old_literals ++ more → Does nodes n literals k i → TellsTo nodes n k (k + 1) old old_literals (old ++ i ∷ []) literals
TellsTo-does nodes n k old old_literals literals more i within are does =
    record {
      made = i ∷ [];
      more = more;
      are = refl;
      literals_are = are;
      told = λ further rest told.
          (k, (record { from = omega arith; within = within; between = λ j from lt. absurd (omega (arith, from, lt)); does = Does-more nodes n literals further k i does }), told);
    }

-- ---- one after another

pub TellsTo-none : (nodes : List Node) (n : ℕ) (old : List Instruction) (literals : List ℕ) → TellsTo nodes n 0 0 old literals old literals
TellsTo-none nodes n old literals =
    record { made = []; more = []; are = sym (append-nil old); literals_are = sym (append-nil literals); told = λ further rest told. told }

pub TellsTo-join : (nodes : List Node) (n : ℕ) (i k m : ℕ) (a b c : List Instruction) (la lb lc : List ℕ) → TellsTo nodes n i k a la b lb → TellsTo nodes n k m b lb c lc → TellsTo nodes n i m a la c lc
TellsTo-join nodes n i k m a b c la lb lc one two =
    record {
      made = one.made ++ two.made;
      more = one.more ++ two.more;
      are = two.are ∙ ap (λ xs. xs ++ two.made) one.are ∙ append_assoc a one.made two.made;
      literals_are = two.literals_are ∙ ap (λ xs. xs ++ two.more) one.literals_are ∙ append_assoc la one.more two.more;
      told = λ further rest told.
          let literals : lc ++ further ≡ lb ++ (two.more ++ further) = ap (λ xs. xs ++ further) two.literals_are ∙ append_assoc lb two.more further in
          let behind : Told nodes n (lb ++ (two.more ++ further)) k (two.made ++ rest) = subst (λ (xs : List ℕ). Told nodes n xs k (two.made ++ rest)) literals (two.told further rest told) in
          let all : Told nodes n (lb ++ (two.more ++ further)) i (one.made ++ (two.made ++ rest)) = one.told (two.more ++ further) (two.made ++ rest) behind in
          subst (λ (xs : List Instruction). Told nodes n (lc ++ further) i xs) (sym (append_assoc one.made two.made rest))
          (subst (λ (xs : List ℕ). Told nodes n xs i (one.made ++ (two.made ++ rest))) (sym literals) all);
    }

pub IsAdded-of : (nodes : List Node) (n i : ℕ) (old new : List Instruction) (old_literals literals : List ℕ) → i ≡ length nodes → TellsTo nodes n 0 i old old_literals new literals → IsAdded nodes n old old_literals new literals
IsAdded-of nodes n i old new old_literals literals end tells =
    let all : Told nodes n (literals ++ []) 0 (tells.made ++ []) = tells.told [] [] end in
    record {
      made = tells.made;
      more = tells.more;
      are = tells.are;
      literals_are = tells.literals_are;
      told = subst (λ (xs : List ℕ). Told nodes n xs 0 tells.made) (append-nil literals) (subst (λ (xs : List Instruction). Told nodes n (literals ++ []) 0 xs) (append-nil tells.made) all);
    }
