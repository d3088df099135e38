-- Specifications that are the same but for places have one printed text.
use Rattle.std.proofs.Common.{◌≡◌, ℕ, zero, suc, ◌+◌, ◌-◌, ◌<◌, ◌≤◌, true, List, [], ◌∷◌, ◌++◌}
use Rattle.std.proofs.Common.{length, take, drop, map, refl, sym, ◌∙◌, ap, subst, arith, Some}
use Rattle.std.proofs.Common.{slice_get}
use Rattle.std.specs.Prelude.{slice_range}
use Rattle.std.proofs.lemmas.List.{drop-drop, take_rest}
use Rattle.est_lexer.specs.declared.kind.Token.{Token}
use Rattle.est_lexer.specs.declared.kind.TokenKind.{TokenKind}
use Rattle.est_lexer.specs.declared.kind.TokenKind.TheVariants.{Bad}
use Rattle.est_lexer.specs.Spans.{spelling, end_of}
use Rattle.est_lexer.specs.Spellings.{kind_of}
use Rattle.est_lexer.specs.TokenList.{AreTokensFrom, bad, next}
use Rattle.est_lexer.proofs.Marks.{between_onward}
use Rattle.est_syntax.specs.declared.specification.Spec.{Spec}
use Rattle.text_productions.specs.Productions as grammar
use Rattle.text_productions.specs.Productions.{Production}
use Rattle.text_printer.specs.PlainNodes.{estelle, plain_layer}
use Rattle.text_printer.specs.PlainSpelling.{IsSpelledPlainly, AreSpelledPlainly}
use Rattle.text_printer.specs.Printing.{plain_production}
use Rattle.text_printer.specs.Spacing.{between_them, open_after, AreSpacedFrom}
use Rattle.est_print.specs.PrintedText.{IsPrintedText}
use Rattle.law_print.specs.PrintLaws.{OnePrintedText}
use Rattle.law_print.proofs.SameShapes.{Twin, tells_all, told_same, same_level}

-- the kind and the bytes of a token
abbrev Spelt : Type 0
Spelt = TokenKind × List ℕ

abbrev spelt_in : List ℕ → Token → Spelt
spelt_in text x = (x.kind, spelling text x)

-- the text of tokens, where so many round brackets are open before them
abbrev render : ℕ → List Spelt → List ℕ
render nested [] = []
render nested (x ∷ []) = x.1 ++ 10 ∷ []
render nested (x ∷ y ∷ rest) = x.1 ++ (between_them (open_after nested x.0) x.0 y.0
    ++ render (open_after nested x.0) (y ∷ rest))

taken : (n : ℕ) (xs : List ℕ) → xs ≡ take n xs ++ drop n xs
taken zero xs = refl
taken (suc n) [] = refl
taken (suc n) (x ∷ xs) = ap (λ l. x ∷ l) (taken n xs)

-- from one place up to another, and then on
cut : (text : List ℕ) (a b : ℕ) → a ≤ b → drop a text ≡ slice_range text a b ++ drop b text
cut text a b h =
    taken (b - a) (drop a text)
    ∙ ap (λ l. take (b - a) (drop a text) ++ l)
    (drop-drop (b - a) a text ∙ ap (λ n. drop n text) (omega arith))

cut_end : (text : List ℕ) (a : ℕ) → drop a text ≡ slice_range text a (length text)
cut_end text a = sym (take_rest text a)

rendered : (text : List ℕ) (from offset nested : ℕ) (tokens : List Token)
    → AreTokensFrom text from tokens
    → ((place : ℕ) (x : Token) → slice_get tokens place ≡ Some x → x.kind ≡ Bad → ⊥)
    → AreSpacedFrom text offset nested tokens
    → drop offset text ≡ render nested (map (spelt_in text) tokens)
rendered text from offset nested [] l g h = absurd h
rendered text from offset nested (x ∷ rest) (bad _ _ i e s) g h = absurd (g 0 x refl e)
rendered text from offset nested (x ∷ []) (next _ _ _ i long l) g h =
    ap (λ n. drop n text) (sym h.0) ∙ cut text x.start (end_of x) (omega arith)
    ∙ ap (λ r. spelling text x ++ r) (cut_end text (end_of x) ∙ h.1)
rendered text from offset nested (x ∷ y ∷ rest) (next _ _ _ i long l) g h =
    let many = open_after nested x.kind in
    ap (λ n. drop n text) (sym h.0) ∙ cut text x.start (end_of x) (omega arith)
    ∙ ap (λ r. spelling text x ++ r) (cut text (end_of x) y.start (after y rest l)
    ∙ ap (λ r. r ++ drop y.start text) h.1
    ∙ ap (λ r. between_them many x.kind y.kind ++ r)
    (rendered text (end_of x) y.start many (y ∷ rest) l (λ place z e. g (suc place) z e) h.2))
  where
    after : (y : Token) (rest : List Token) → AreTokensFrom text (end_of x) (y ∷ rest)
        → end_of x ≤ y.start
    after y rest (bad _ _ i e s) = between_onward i
    after y rest (next _ _ _ i long l) = between_onward i

-- tokens that are spelled alike are of one kind
spelt_same : (text other : List ℕ) (s s' : List Token) → length s ≡ length s'
    → AreSpelledPlainly text s → AreSpelledPlainly other s'
    → ((i : ℕ) → i < length s → Twin text other s s' i i)
    → map (spelt_in text) s ≡ map (spelt_in other) s'
spelt_same text other [] [] e p q t = refl
spelt_same text other [] (y ∷ s') e p q t = absurd (omega arith)
spelt_same text other (x ∷ s) [] e p q t = absurd (omega arith)
spelt_same text other (x ∷ s) (y ∷ s') e p q t =
    let w = t 0 (omega arith) in
    let one : x ≡ w.one = cc in
    let two : y ≡ w.two = cc in
    let bytes : spelling text x ≡ spelling other y =
    ap (spelling text) one ∙ w.spelled ∙ sym (ap (spelling other) two) in
    let kinds : Some x.kind ≡ Some y.kind =
    sym (p 0 x refl).token ∙ ap kind_of bytes ∙ (q 0 y refl).token in
    let kind_is : x.kind ≡ y.kind = cc in
    let first : spelt_in text x ≡ spelt_in other y =
    ap (λ k. (k, spelling text x)) kind_is ∙ ap (λ bs. (y.kind, bs)) bytes in
    let more = spelt_same text other s s' (omega arith) (λ place z f. p (suc place) z f)
    (λ place z f. q (suc place) z f) (λ i h. later (t (suc i) (omega arith))) in
    ap (λ f. f ∷ map (spelt_in text) s) first ∙ ap (λ l. spelt_in other y ∷ l) more
  where
    later : {i : ℕ} → Twin text other (x ∷ s) (y ∷ s') (suc i) (suc i) → Twin text other s s' i i
    later w = record {
      one = w.one;
      two = w.two;
      there = w.there;
      there_too = w.there_too;
      spelled = w.spelled;
    }

all_told : (p : Production) → tells_all (plain_production estelle p) ≡ true
all_told grammar.specification = refl
all_told grammar.common = refl
all_told grammar.own = refl
all_told grammar.consts = refl
all_told grammar.constdef = refl
all_told grammar.constant = refl
all_told grammar.types = refl
all_told grammar.typedef = refl
all_told grammar.typetext = refl
all_told grammar.shorttype = refl
all_told grammar.arraytype = refl
all_told grammar.recordtype = refl
all_told grammar.settype = refl
all_told grammar.vars = refl
all_told grammar.vardef = refl
all_told grammar.channel = refl
all_told grammar.by_part = refl
all_told grammar.interaction = refl
all_told grammar.param = refl
all_told grammar.header = refl
all_told grammar.point = refl
all_told grammar.dims = refl
all_told grammar.queue = refl
all_told grammar.export = refl
all_told grammar.modvar = refl
all_told grammar.stateset = refl
all_told grammar.body = refl
all_told grammar.routine = refl
all_told grammar.formal = refl
all_told grammar.block = refl
all_told grammar.transpart = refl
all_told grammar.transition = refl
all_told grammar.clause = refl
all_told grammar.access = refl
all_told grammar.statement = refl
all_told grammar.arm = refl
all_told grammar.sending = refl
all_told grammar.init = refl
all_told grammar.end_point = refl
all_told grammar.expr = refl
all_told grammar.simple = refl
all_told grammar.term = refl
all_told grammar.factor = refl
all_told grammar.selector = refl
all_told grammar.member = refl

-- a token that is spelled in the one way is not bad
no_bad : (k : TokenKind) (bytes : List ℕ) → IsSpelledPlainly k bytes → k ≡ Bad → ⊥
no_bad k bytes p e = (subst (λ j. IsSpelledPlainly j bytes) e p).plain

pub one_text : OnePrintedText
one_text a b text other h p q =
    let level = same_level text other p.tokens q.tokens (plain_production estelle) all_told
    p.spelled q.spelled (length p.tokens) (length q.tokens) refl p.plain.tree q.plain.tree
    (told_same plain_layer h p.plain.tells q.plain.tells) in
    let words = spelt_same text other p.tokens q.tokens
    (omega (arith, level.ends, level.ends_too)) p.spelled q.spelled
    (λ i k. at (level.twins i (omega (arith, level.ends)))) in
    whole a text p ∙ ap (render 0) words ∙ sym (whole b other q)
  where
    at : {i : ℕ} → Twin text other p.tokens q.tokens (0 + i) (0 + i)
        → Twin text other p.tokens q.tokens i i
    at {i} w = subst (λ n. Twin text other p.tokens q.tokens n n) (omega arith) w

    whole : (c : Spec) (text : List ℕ) (r : IsPrintedText c text)
        → text ≡ render 0 (map (spelt_in text) r.tokens)
    whole c text r = rendered text 0 0 0 r.tokens r.list
        (λ place x e. no_bad x.kind (spelling text x) (r.spelled place x e)) r.spaced
