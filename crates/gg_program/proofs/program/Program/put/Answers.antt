use Rattle.std.proofs.Common.{◌≡◌, ℕ, ◌<◌, ◌≤◌, List, length, true, subst, sym, ap, ◌∙◌, arith}
use Rattle.std.specs.Prelude.{slice_set}
use Rattle.gg_flat.specs.Line.{value_at}
use Rattle.gg_flat.specs.WellFormed.{IsWellFormed}
use Rattle.gg_program.specs.Programmed.{Programmed}
use Rattle.gg_program.specs.Slots.{Slotted, inputs_in}
use Rattle.gg_program.specs.inside.Slots.{with_input}
use Rattle.gg_program.specs.Right.{InCycle}
use Rattle.gg_program.proofs.RightLemmas.{inputs-put}
use Rattle.gg_program.proofs.EvaluateLemmas.{values-count}
use Rattle.gg_program.specs.Unset.{unset}
use Rattle.gg_program.proofs.UnsetLemmas.{unset-put}
use Rattle.gg_program.proofs.CycleLemmas.{InCycle-put}
use Rattle.gg_program.proofs.program.Program.put.Goals as goal

-- slots with a value put into a signal's place
abbrev placed : Slotted → ℕ → ℕ → Slotted
placed slots s value = record { values = slice_set slots.values s value; done = slice_set slots.done s true; room = slots.room }

pub returns-clause-cycle : goal.returns-clause-cycle
returns-clause-cycle c =
    λ state h.
    let circuit = c.args.self.now.circuit in
    let formed : IsWellFormed circuit = subst (λ (p : Programmed). IsWellFormed p.circuit) c.self.view_is c.self.invariant.formed in
    let put : c.put.new.self ≡ with_input circuit c.args.slots.now c.args.place c.args.input =
    c.put.ensures ∙ ap (λ (l : List ℕ). placed c.args.slots.now (value_at l c.args.place) c.args.input) (c.ins.ensures ∙ ap (λ (p : Programmed). p.circuit.ins) c.self.view_is) in
    subst (InCycle circuit state) (sym put) (InCycle-put circuit state c.args.slots.now c.args.place c.args.input formed c.requires.place c.requires.typed c.requires.free h)

pub returns-clause-inputs : goal.returns-clause-inputs
returns-clause-inputs c =
    let circuit = c.args.self.now.circuit in
    let slots = c.args.slots.now in
    let formed : IsWellFormed circuit = subst (λ (p : Programmed). IsWellFormed p.circuit) c.self.view_is c.self.invariant.formed in
    let put : c.put.new.self ≡ with_input circuit slots c.args.place c.args.input =
    c.put.ensures ∙ ap (λ (l : List ℕ). placed slots (value_at l c.args.place) c.args.input) (c.ins.ensures ∙ ap (λ (p : Programmed). p.circuit.ins) c.self.view_is) in
    ap (λ (s : Slotted). inputs_in circuit s.values) put
    ∙ inputs-put circuit slots.values c.args.place c.args.input formed c.requires.place (values-count circuit slots.values c.requires.slots.typed)

pub returns-clause-unset : goal.returns-clause-unset
returns-clause-unset c =
    let circuit = c.args.self.now.circuit in
    let slots = c.args.slots.now in
    let formed : IsWellFormed circuit = subst (λ (p : Programmed). IsWellFormed p.circuit) c.self.view_is c.self.invariant.formed in
    let put : c.put.new.self ≡ with_input circuit slots c.args.place c.args.input =
    c.put.ensures ∙ ap (λ (l : List ℕ). placed slots (value_at l c.args.place) c.args.input) (c.ins.ensures ∙ ap (λ (p : Programmed). p.circuit.ins) c.self.view_is) in
    let marked : value_at circuit.ins c.args.place < length slots.done = omega (arith, (formed.ins c.args.place c.requires.place).0, c.requires.slots.count) in
    subst (λ (s : Slotted). unset circuit s ≤ unset circuit slots) (sym put) (unset-put circuit slots c.args.place c.args.input marked)
