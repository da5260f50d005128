-- The part of a header whose names were read.
use Rattle.std.proofs.Common.{◌≡◌, ◌≢◌, ℕ, ◌+◌, ◌<◌, ◌≤◌, zero, suc, Bool, true, false, List, [], ◌∷◌, ◌++◌, length, get_or, set, drop, codes, ◌⊎◌, inl, inr, refl, sym, ap, ◌∙◌, subst, arith, add-one, length-drop}
use Rattle.std.proofs.lemmas.List.{get_or_append_left, get_or_at, length_push, get_or-set_same, get_or-set_other, length-set}
use Rattle.std.proofs.lemmas.Bool.{false≢true, cases_eq}
use Rattle.gg_trace.proofs.ListLaws.{next_item}
use Rattle.gg_flat.specs.declared.ports.Port.{Port}
use Rattle.gg_trace.specs.Ports.{name_at, IsNamed, HasDistinctNames}
use Rattle.gg_trace.specs.Header.{field, MayStand, IsListed, HasHeaderFault}
use Rattle.gg_trace.specs.inside.Places.{IsPlace, IsHeading}

-- the header begins with `cycle` and the names of the ports at these places, and rest is left; the marks show the named ports
pub record ReadsNames (ports : List Port) (header rest : List (List ℕ)) (places : List ℕ) (marks : List Bool) : Type 0 where
  pub begins : field header 0 ≡ codes "cycle"
  pub left : drop (length places + 1) header ≡ rest
  pub enough : length places + 1 ≤ length header
  pub size : length marks ≡ length ports
  pub named : (g : ℕ) → g < length places → IsNamed ports (field header (g + 1)) (get_or places g 0)
  pub distinct : (g h : ℕ) → g < h → h < length places → get_or places g 0 ≢ get_or places h 0
  pub marked : (i : ℕ) → get_or marks i false ≡ true → IsPlace places i
  pub unmarked : (i : ℕ) → i < length marks → get_or marks i false ≡ false → (g : ℕ) → g < length places → get_or places g 0 ≢ i

-- a name belongs to at most one port
pub one_port : (ports : List Port) → HasDistinctNames ports → (name : List ℕ) (i j : ℕ) → IsNamed ports name i → IsNamed ports name j → i ≡ j
one_port ports distinct name i j p q = distinct i j p.within q.within (p.is ∙ sym q.is)

along : (ports : List Port) (x y : List ℕ) (i : ℕ) → x ≡ y → IsNamed ports x i → IsNamed ports y i
along ports x y i e p = record { within = p.within; is = p.is ∙ e }

-- two fields that were read differ
differ : {ports : List Port} {header rest : List (List ℕ)} {places : List ℕ} {marks : List Bool} → ReadsNames ports header rest places marks → HasDistinctNames ports
    → (g h : ℕ) → g < h → h < length places → field header (g + 1) ≢ field header (h + 1)
differ {ports} {header} reads distinct g h before within e =
    reads.distinct g h before within
    (one_port ports distinct (field header (h + 1)) _ _ (along ports _ _ _ e (reads.named g (omega arith))) (reads.named h within))

-- each field that was read is right
pub stands : {ports : List Port} {header rest : List (List ℕ)} {places : List ℕ} {marks : List Bool} → ReadsNames ports header rest places marks → HasDistinctNames ports
    → (f : ℕ) → f < length places + 1 → MayStand ports header f
stands reads distinct zero h = reads.begins
stands {ports} {header} {rest} {places} reads distinct (suc f) h = record {
  port = get_or places f 0;
  is = subst (λ n. IsNamed ports (field header n) (get_or places f 0)) (add-one f) (reads.named f (omega arith));
  new = new;
}
  where
    new : (g : ℕ) → 0 < g → g < suc f → field header g ≢ field header (suc f)
    new zero some before e = absurd (omega arith)
    new (suc g) some before e =
        differ reads distinct g f (omega arith) (omega arith) (ap (field header) (add-one g) ∙ e ∙ ap (field header) (sym (add-one f)))

-- if the next field names no port, or a port that was named before, the fault is there
pub name_fault : (ports : List Port) (header more : List (List ℕ)) (x : List ℕ) (places : List ℕ) (marks : List Bool) → ReadsNames ports header (x ∷ more) places marks → HasDistinctNames ports
    → ((i : ℕ) → IsNamed ports x i → get_or marks i false ≡ true) → HasHeaderFault ports header (length places + 1)
name_fault ports header more x places marks reads distinct taken = record {
  before = stands reads distinct;
  here = inl (here.1, (λ may. refused (subst (MayStand ports header) (add-one (length places)) may)));
}
  where
    here : (field header (length places + 1) ≡ x) × (length places + 1 < length header) × (drop (length places + 1 + 1) header ≡ more)
    here = next_item header more x [] (length places + 1) reads.left

    refused : MayStand ports header (suc (length places)) → ⊥
    refused may =
        let is : field header (suc (length places)) ≡ x = ap (field header) (sym (add-one (length places))) ∙ here.0 in
        let named : IsNamed ports x may.port = along ports _ x may.port is may.is in
        let place = reads.marked may.port (taken may.port named) in
        let earlier = reads.named place.at place.within in
        may.new (place.at + 1) (omega arith) (omega (arith, place.within))
        (sym earlier.is ∙ ap (name_at ports) place.is ∙ named.is ∙ sym is)

push_named : (ports : List Port) (header : List (List ℕ)) (places : List ℕ) (p : ℕ) → ((g : ℕ) → g < length places → IsNamed ports (field header (g + 1)) (get_or places g 0))
    → IsNamed ports (field header (length places + 1)) p → (g : ℕ) → g < length (places ++ p ∷ []) → IsNamed ports (field header (g + 1)) (get_or (places ++ p ∷ []) g 0)
push_named ports header places p named here g h = by_place (cases_eq g (length places))
  where
    by_place : (g ≡ length places) ⊎ (g ≡ length places → ⊥) → IsNamed ports (field header (g + 1)) (get_or (places ++ p ∷ []) g 0)
    by_place (inl e) =
        subst (λ n. IsNamed ports (field header (n + 1)) (get_or (places ++ p ∷ []) n 0)) (sym e)
        (subst (IsNamed ports (field header (length places + 1))) (sym (get_or_at places p [] 0 (length places) refl)) here)
    by_place (inr ne) =
        let before : g < length places = omega (arith, length_push places p) in
        subst (IsNamed ports (field header (g + 1))) (sym (get_or_append_left places (p ∷ []) 0 g before)) (named g before)

push_distinct : (places : List ℕ) (p : ℕ) → ((g h : ℕ) → g < h → h < length places → get_or places g 0 ≢ get_or places h 0)
    → ((g : ℕ) → g < length places → get_or places g 0 ≢ p) → (g h : ℕ) → g < h → h < length (places ++ p ∷ []) → get_or (places ++ p ∷ []) g 0 ≢ get_or (places ++ p ∷ []) h 0
push_distinct places p distinct new g h before within = by_place (cases_eq h (length places))
  where
    early : get_or (places ++ p ∷ []) g 0 ≡ get_or places g 0
    early = get_or_append_left places (p ∷ []) 0 g (omega (arith, length_push places p))

    by_place : (h ≡ length places) ⊎ (h ≡ length places → ⊥) → get_or (places ++ p ∷ []) g 0 ≢ get_or (places ++ p ∷ []) h 0
    by_place (inl e) same = new g (omega arith) (sym early ∙ same ∙ get_or_at places p [] 0 h (sym e))
    by_place (inr ne) same =
        let inside : h < length places = omega (arith, length_push places p) in
        distinct g h before inside (sym early ∙ same ∙ get_or_append_left places (p ∷ []) 0 h inside)

more_places : (places : List ℕ) (p i : ℕ) → IsPlace places i → IsPlace (places ++ p ∷ []) i
more_places places p i place = record {
  at = place.at;
  within = omega (arith, length_push places p, place.within);
  is = get_or_append_left places (p ∷ []) 0 place.at place.within ∙ place.is;
}

last_place : (places : List ℕ) (p : ℕ) → IsPlace (places ++ p ∷ []) p
last_place places p = record { at = length places; within = omega (arith, length_push places p); is = get_or_at places p [] 0 (length places) refl }

push_marked : (places : List ℕ) (marks : List Bool) (p : ℕ) → p < length marks → ((i : ℕ) → get_or marks i false ≡ true → IsPlace places i)
    → (i : ℕ) → get_or (set marks p true) i false ≡ true → IsPlace (places ++ p ∷ []) i
push_marked places marks p within marked i is = by_place (cases_eq i p)
  where
    by_place : (i ≡ p) ⊎ (i ≡ p → ⊥) → IsPlace (places ++ p ∷ []) i
    by_place (inl e) = subst (IsPlace (places ++ p ∷ [])) (sym e) (last_place places p)
    by_place (inr ne) = more_places places p i (marked i (sym (get_or-set_other marks p i true false ne) ∙ is))

push_unmarked : (places : List ℕ) (marks : List Bool) (p : ℕ) → p < length marks
    → ((i : ℕ) → i < length marks → get_or marks i false ≡ false → (g : ℕ) → g < length places → get_or places g 0 ≢ i)
    → (i : ℕ) → i < length (set marks p true) → get_or (set marks p true) i false ≡ false → (g : ℕ) → g < length (places ++ p ∷ []) → get_or (places ++ p ∷ []) g 0 ≢ i
push_unmarked places marks p within unmarked i inside is g h same = by_port (cases_eq i p)
  where
    by_port : (i ≡ p) ⊎ (i ≡ p → ⊥) → ⊥
    by_port (inl e) = false≢true (sym is ∙ ap (λ k. get_or (set marks p true) k false) e ∙ get_or-set_same marks p true false within)
    by_port (inr ne) = by_place (cases_eq g (length places))
      where
        by_place : (g ≡ length places) ⊎ (g ≡ length places → ⊥) → ⊥
        by_place (inl e) = ne (sym same ∙ get_or_at places p [] 0 g (sym e))
        by_place (inr other) =
            let before : g < length places = omega (arith, length_push places p) in
            unmarked i (omega (arith, length-set marks p true)) (sym (get_or-set_other marks p i true false ne) ∙ is) g before
            (sym (get_or_append_left places (p ∷ []) 0 g before) ∙ same)

-- if the next field names a port that wasn't named before, its name is read too
pub reads_name : (ports : List Port) (header more : List (List ℕ)) (x : List ℕ) (places : List ℕ) (marks : List Bool) (p : ℕ) → ReadsNames ports header (x ∷ more) places marks
    → IsNamed ports x p → get_or marks p false ≡ false → ReadsNames ports header more (places ++ p ∷ []) (set marks p true)
reads_name ports header more x places marks p reads is new =
    let n = length places in
    let here = next_item header more x [] (n + 1) reads.left in
    let longer : length (places ++ p ∷ []) + 1 ≡ n + 1 + 1 = omega (arith, length_push places p) in
    let within : p < length marks = omega (arith, reads.size, is.within) in
    record {
      begins = reads.begins;
      left = ap (λ k. drop k header) longer ∙ here.2;
      enough = omega (arith, longer, here.1);
      size = length-set marks p true ∙ reads.size;
      named = push_named ports header places p reads.named (along ports x _ p (sym here.0) is);
      distinct = push_distinct places p reads.distinct (reads.unmarked p within new);
      marked = push_marked places marks p within reads.marked;
      unmarked = push_unmarked places marks p within reads.unmarked;
    }

-- if all fields were read and each port was named, the fields are a header
pub reads_header : (ports : List Port) (header : List (List ℕ)) (places : List ℕ) (marks : List Bool) → ReadsNames ports header [] places marks → HasDistinctNames ports
    → ((i : ℕ) → i < length marks → get_or marks i false ≡ true) → IsHeading ports header places
reads_header ports header places marks reads distinct whole = record {
  is_header = record {
    begins = omega (arith, reads.enough);
    each = λ f h. stands reads distinct f (omega (arith, ends));
    all = listed;
  };
  count = ends;
  named = reads.named;
  distinct = reads.distinct;
  all = place;
}
  where
    ends : length header ≡ length places + 1
    ends = omega (arith, length-drop (length places + 1) header, ap length reads.left, reads.enough)

    place : (i : ℕ) → i < length ports → IsPlace places i
    place i h = reads.marked i (whole i (omega (arith, reads.size)))

    listed : (i : ℕ) → i < length ports → IsListed ports header i
    listed i h =
        let here = place i h in
        record {
          at = here.at + 1;
          behind = omega arith;
          within = omega (arith, here.within, ends);
          is = sym ((reads.named here.at here.within).is) ∙ ap (name_at ports) here.is;
        }

-- if all fields were read and a port wasn't named, the fault is just past the last field
pub missing_name : (ports : List Port) (header : List (List ℕ)) (places : List ℕ) (marks : List Bool) (i : ℕ) → ReadsNames ports header [] places marks → HasDistinctNames ports
    → i < length marks → get_or marks i false ≡ false → HasHeaderFault ports header (length places + 1)
missing_name ports header places marks i reads distinct within is = record {
  before = stands reads distinct;
  here = inr (sym ends, λ whole. refused (whole.all i (omega (arith, reads.size))));
}
  where
    ends : length header ≡ length places + 1
    ends = omega (arith, length-drop (length places + 1) header, ap length reads.left, reads.enough)

    at_place : (at : ℕ) → 0 < at → at < length header → field header at ≡ name_at ports i → ⊥
    at_place zero behind inside e = absurd (omega arith)
    at_place (suc g) behind inside e =
        let before : g < length places = omega (arith, ends) in
        let named = reads.named g before in
        reads.unmarked i within is g before
        (distinct _ i named.within (omega (arith, reads.size)) (named.is ∙ ap (field header) (add-one g) ∙ e))

    refused : IsListed ports header i → ⊥
    refused listed = at_place listed.at listed.behind listed.within listed.is
