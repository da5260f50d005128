use Rattle.std.proofs.Common.{◌≡◌, ℕ, ◌∷◌, List, Bool, codes, set, true, false, length, get_or, ◌<◌, arith, sym, subst}
use Rattle.gg_trace.specs.Header.{HasHeaderFault}
use Rattle.gg_trace.proofs.HeaderLaws.{ReadsNames, reads_name, name_fault, reads_header, missing_name}
use Rattle.gg_trace.proofs.heading.take_names.Goals as goal

pub returns-in_default-take_name : goal.returns-in_default-take_name
returns-in_default-take_name c =
    let ports = c.args.table.now in
    let header = codes "cycle" ∷ c.args.rest.now in
    let reads = subst (λ rest. ReadsNames ports header rest c.loop-name.places.items c.loop-name.named.items) c.in-Some.ensures c.loop-name.invariant in
    let fault = name_fault ports header c.next.new.self c.in-Some.name.now c.loop-name.places.items c.loop-name.named.items reads c.requires c.in_default-take_name.ensures.1 in
    subst (HasHeaderFault ports header) (omega (arith, c.len-in_default-take_name.ensures, c.loop-name.places.ok.0)) fault

pub loop-name-preserved : goal.loop-name-preserved
loop-name-preserved c =
    let ports = c.args.table.now in
    let header = codes "cycle" ∷ c.args.rest.now in
    let reads = subst (λ rest. ReadsNames ports header rest c.loop-name.places.items c.loop-name.named.items) c.in-Some.ensures c.loop-name.invariant in
    let taken = c.in-Some-take_name.ensures in
    let new = reads_name ports header c.next.new.self _ c.loop-name.places.items c.loop-name.named.items c.in-Some-take_name.place reads taken.0 taken.1 in
    subst (λ marks. ReadsNames ports header c.next.new.self c.push.new.self.items marks) (sym taken.2)
    (subst (λ places. ReadsNames ports header c.next.new.self places (set c.loop-name.named.items c.in-Some-take_name.place true)) (sym c.in_ok-push.ensures.items) new)

pub returns-then-not-all_named : goal.returns-then-not-all_named
returns-then-not-all_named c =
    let ports = c.args.table.now in
    let header = codes "cycle" ∷ c.args.rest.now in
    let reads = subst (λ rest. ReadsNames ports header rest c.loop-name.places.items c.loop-name.named.items) c.in_default.ensures.0 c.loop-name.invariant in
    let found = subst (λ (marks : List Bool). (i : ℕ) × (i < length marks) × (get_or marks i false ≡ false)) c.deref.ensures.value c.if-not-all_named.ensures.missing in
    let fault = missing_name ports header c.loop-name.places.items c.loop-name.named.items found.0 reads c.requires found.1 found.2 in
    subst (HasHeaderFault ports header) (omega (arith, c.len-then-not-all_named.ensures, c.loop-name.places.ok.0)) fault

pub returns : goal.returns
returns c =
    let ports = c.args.table.now in
    let header = codes "cycle" ∷ c.args.rest.now in
    let reads = subst (λ rest. ReadsNames ports header rest c.loop-name.places.items c.loop-name.named.items) c.in_default.ensures.0 c.loop-name.invariant in
    let whole = subst (λ (marks : List Bool). (i : ℕ) → i < length marks → get_or marks i false ≡ true) c.deref.ensures.value c.if-not-all_named.ensures.all in
    reads_header ports header c.loop-name.places.items c.loop-name.named.items reads c.requires whole
