-- What the smallest readers find is spelt so, and they find what is spelt so.
use Rattle.std.proofs.Common.{◌≡◌, ℕ, List, [], ◌∷◌, Bool, true, false, Option, None, Some, IsTrue, refl, sym, ap, ◌∙◌, subst}
use Rattle.std.specs.Prelude.{if◌then◌else◌, codes}
use Rattle.std.specs.Str.{bytes_eq}
use Rattle.std.specs.Str.Parse.{digits_value}
use Rattle.std.proofs.lemmas.Slice.Eq.{bytes_eq-Decides}
use Rattle.std.proofs.lemmas.Option.{same_Some}
use Rattle.gg_lex.specs.declared.token.Tok.{Tok}
use Rattle.gg_lex.specs.declared.token.Tok.TheVariants.{Word, Number, Text, Symbol}
use Rattle.gg_lex.specs.declared.token.Symbol.{Symbol as Mark}
use Rattle.gg_lex.specs.declared.token.Symbol.TheVariants.{Connect, Arrow, PartialConnect, Colon, Comma, Dot, OpenParen, CloseParen, Less, Greater, Equals, OpenBracket, CloseBracket, OpenBrace, CloseBrace, OpenAnnotations}
use Rattle.gg_lex.specs.Tokens.{spelling}
use Rattle.gg_ast.specs.Names.{IsName, is_name}
use Rattle.gg_read_row.specs.Forms.{IsNatural, is_natural}
use Rattle.gg_read_row.specs.inside.Reading.{◌>>=◌, choose, symbol_at, word_at, name_at, natural_of, natural_at, end_at, text_at}

-- if a chain found something, its first part did, and the next part found that from there
pub bound : {A B : Type 0} (o : Option A) (f : A → Option B) (y : B) → (o >>= f) ≡ Some y → (x : A) × (o ≡ Some x) × (f x ≡ Some y)
bound None f y h = absurd (cc)
bound (Some x) f y h = (x, refl, h)

-- a chain goes on with what its first part found
pub goes_on : {A B : Type 0} (o : Option A) (f : A → Option B) (x : A) → o ≡ Some x → (o >>= f) ≡ f x
goes_on o f x e = rw e refl

pub chosen : {A B : Type 0} (o : Option A) (f : A → B) (other : B) (x : A) → o ≡ Some x → choose o f other ≡ f x
chosen o f other x e = rw e refl

pub not_chosen : {A B : Type 0} (o : Option A) (f : A → B) (other : B) → o ≡ None → choose o f other ≡ other
not_chosen o f other e = rw e refl

-- bytes that the test says are equal are equal
pub equal_bytes : (xs ys : List ℕ) → bytes_eq xs ys ≡ true → xs ≡ ys
equal_bytes xs ys h = (bytes_eq-Decides xs ys).0 h

pub same_bytes : (xs : List ℕ) → bytes_eq xs xs ≡ true
same_bytes xs = (bytes_eq-Decides xs xs).1 refl

-- the symbol that some bytes spell
mark_of : List ℕ → Mark
mark_of bs =
    if bytes_eq bs (codes "<=") then Connect else (if bytes_eq bs (codes "=>") then Arrow else (if bytes_eq bs (codes "<-") then PartialConnect else (if bytes_eq bs (codes ":") then Colon
    else (if bytes_eq bs (codes ",") then Comma else (if bytes_eq bs (codes ".") then Dot else (if bytes_eq bs (codes "(") then OpenParen else (if bytes_eq bs (codes ")") then CloseParen
    else (if bytes_eq bs (codes "<") then Less else (if bytes_eq bs (codes ">") then Greater else (if bytes_eq bs (codes "=") then Equals else (if bytes_eq bs (codes "[") then OpenBracket
    else (if bytes_eq bs (codes "]") then CloseBracket else (if bytes_eq bs (codes "{") then OpenBrace else (if bytes_eq bs (codes "}") then CloseBrace else OpenAnnotations))))))))))))))

mark_of-spelling : (m : Mark) → mark_of (spelling m) ≡ m
unfolding mark_of
mark_of-spelling Connect = refl
mark_of-spelling Arrow = refl
mark_of-spelling PartialConnect = refl
mark_of-spelling Colon = refl
mark_of-spelling Comma = refl
mark_of-spelling Dot = refl
mark_of-spelling OpenParen = refl
mark_of-spelling CloseParen = refl
mark_of-spelling Less = refl
mark_of-spelling Greater = refl
mark_of-spelling Equals = refl
mark_of-spelling OpenBracket = refl
mark_of-spelling CloseBracket = refl
mark_of-spelling OpenBrace = refl
mark_of-spelling CloseBrace = refl
mark_of-spelling OpenAnnotations = refl

same_mark : (a b : Mark) → spelling a ≡ spelling b → a ≡ b
same_mark a b e = sym (mark_of-spelling a) ∙ ap mark_of e ∙ mark_of-spelling b

-- if a choice by a test gives something, the test passed
passed : {A : Type 0} (b : Bool) (x y : A) → (if b then Some x else None) ≡ Some y → (b ≡ true) × (x ≡ y)
passed true x y h = (refl, cc)
passed false x y h = absurd (cc)

pub symbol_at-spells : (m : Mark) (ts t : List Tok) → symbol_at m ts ≡ Some t → ts ≡ Symbol m ∷ t
symbol_at-spells m [] t h = absurd (cc)
symbol_at-spells m (Word w ∷ ts) t h = absurd (cc)
symbol_at-spells m (Number w ∷ ts) t h = absurd (cc)
symbol_at-spells m (Text w ∷ ts) t h = absurd (cc)
symbol_at-spells m (Symbol a ∷ ts) t h =
    let p = passed (bytes_eq (spelling a) (spelling m)) ts t h in
    let same : a ≡ m = same_mark a m (equal_bytes (spelling a) (spelling m) p.0) in
    ap (λ x. Symbol x ∷ ts) same ∙ ap (λ l. Symbol m ∷ l) p.1

pub word_at-spells : (w : List ℕ) (ts t : List Tok) → word_at w ts ≡ Some t → ts ≡ Word w ∷ t
word_at-spells w [] t h = absurd (cc)
word_at-spells w (Number v ∷ ts) t h = absurd (cc)
word_at-spells w (Text v ∷ ts) t h = absurd (cc)
word_at-spells w (Symbol a ∷ ts) t h = absurd (cc)
word_at-spells w (Word v ∷ ts) t h =
    let p = passed (bytes_eq v w) ts t h in
    ap (λ x. Word x ∷ ts) (equal_bytes v w p.0) ∙ ap (λ l. Word w ∷ l) p.1

pub true_is : (b : Bool) → b ≡ true → IsTrue b
true_is b h = h

pub is_true : (b : Bool) → IsTrue b → b ≡ true
is_true b h = h

pub name_at-spells : (ts : List Tok) (n : List ℕ) (t : List Tok) → name_at ts ≡ Some (n, t) → IsName n × (ts ≡ Word n ∷ t)
name_at-spells [] n t h = absurd (cc)
name_at-spells (Number v ∷ ts) n t h = absurd (cc)
name_at-spells (Text v ∷ ts) n t h = absurd (cc)
name_at-spells (Symbol a ∷ ts) n t h = absurd (cc)
name_at-spells (Word v ∷ ts) n t h =
    let p = passed (is_name v) (v, ts) (n, t) h in
    let name : v ≡ n = ap (λ (q : List ℕ × List Tok). q.0) p.1 in
    let rest : ts ≡ t = ap (λ (q : List ℕ × List Tok). q.1) p.1 in
    (subst IsName name (true_is (is_name v) p.0), ap (λ x. Word x ∷ ts) name ∙ ap (λ l. Word n ∷ l) rest)

pub name_at-here : (n : List ℕ) (t : List Tok) → IsName n → name_at (Word n ∷ t) ≡ Some (n, t)
name_at-here n t h = ap (λ b. if b then Some (n, t) else None) (is_true (is_name n) h)

pub natural_at-spells : (ts : List Tok) (n : ℕ) (t : List Tok) → natural_at ts ≡ Some (n, t) → (digits : List ℕ) × IsNatural digits n × (ts ≡ Number digits ∷ t)
natural_at-spells [] n t h = absurd (cc)
natural_at-spells (Word v ∷ ts) n t h = absurd (cc)
natural_at-spells (Text v ∷ ts) n t h = absurd (cc)
natural_at-spells (Symbol a ∷ ts) n t h = absurd (cc)
natural_at-spells (Number v ∷ ts) n t h =
    let b = bound (natural_of v) (λ k. Some (k, ts)) (n, t) h in
    let p = passed (is_natural v) (digits_value 10 v) b.0 b.1 in
    let number : b.0 ≡ n = ap (λ (q : ℕ × List Tok). q.0) (same_Some (b.0, ts) (n, t) b.2) in
    let rest : ts ≡ t = ap (λ (q : ℕ × List Tok). q.1) (same_Some (b.0, ts) (n, t) b.2) in
    (v, record { decimal = true_is (is_natural v) p.0; value = p.1 ∙ number }, ap (λ l. Number v ∷ l) rest)

pub natural_at-here : (digits : List ℕ) (n : ℕ) (t : List Tok) → IsNatural digits n → natural_at (Number digits ∷ t) ≡ Some (n, t)
natural_at-here digits n t h =
    goes_on (natural_of digits) (λ k. Some (k, t)) (digits_value 10 digits) (ap (λ b. if b then Some (digits_value 10 digits) else None) (is_true (is_natural digits) h.decimal)) ∙ ap (λ k. Some (k, t)) h.value

pub end_at-spells : (ts t : List Tok) → end_at ts ≡ Some t → ts ≡ []
end_at-spells [] t h = refl
end_at-spells (x ∷ ts) t h = absurd (cc)

pub text_at-spells : (ts : List Tok) (x : List ℕ) (t : List Tok) → text_at ts ≡ Some (x, t) → ts ≡ Text x ∷ t
text_at-spells [] x t h = absurd (cc)
text_at-spells (Word v ∷ ts) x t h = absurd (cc)
text_at-spells (Number v ∷ ts) x t h = absurd (cc)
text_at-spells (Symbol a ∷ ts) x t h = absurd (cc)
text_at-spells (Text v ∷ ts) x t h =
    let e = same_Some (v, ts) (x, t) h in
    ap (λ (q : List ℕ × List Tok). Text q.0 ∷ q.1) e

-- a reader that must be at the end of the line found it: no token is left
pub ended : {A : Type 0} (rest : List Tok) (x y : A) → (end_at rest >>= λ u. Some x) ≡ Some y → (rest ≡ []) × (x ≡ y)
ended rest x y h = let e = bound (end_at rest) (λ u. Some x) y h in (end_at-spells rest e.0 e.1, same_Some x y e.2)
