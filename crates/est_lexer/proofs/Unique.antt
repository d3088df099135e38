use Rattle.std.proofs.Common.{◌≡◌, ◌≤◌, ◌<◌, ◌+◌, ◌-◌, ℕ, suc, zero, List, [], ◌∷◌, length}
use Rattle.std.proofs.Common.{take, drop, get_or, arith, true, false, refl, ap, sym, subst}
use Rattle.std.proofs.Common.{◌∙◌, Some, None, eqb, slice_range, ◌⊎◌, inl, inr}
use Rattle.std.specs.List.{prefix_len}
use Rattle.std.specs.Char.{is_ascii_alphabetic, is_ascii_digit}
use Rattle.std.proofs.lemmas.Bool.{both_ways, cases_lt, cases_order, cases_Bool, false_from_ne_true}
use Rattle.std.proofs.lemmas.Bool.Decides.{nat_tests}
use Rattle.std.proofs.lemmas.List.{drop_more, drop_all, get_or_past}
use Rattle.est_lexer.specs.Between.{is_blank, opening, closing, IsBetween}
use Rattle.est_lexer.specs.Between.{IsComment, IsFirstEnd, nothing, blank, comment}
use Rattle.est_lexer.specs.inside.Scanning.{IsBegin}
use Rattle.est_lexer.specs.Spans.{end_of, spelling}
use Rattle.est_lexer.specs.Spellings.{kind_of}
use Rattle.est_lexer.specs.TokenList.{IsLongest, IsBadSpan, illegal, open_comment, many_digits}
use Rattle.est_lexer.specs.TokenList.{digits_at, AreTokensFrom, none_left, bad, next}
use Rattle.est_lexer.specs.declared.kind.Token.{Token}
use Rattle.est_lexer.proofs.KindOf.{kind_of_other, blank_no_symbol}
use Rattle.est_lexer.proofs.Marks.{opening_inside}
use Rattle.est_lexer.proofs.TokenLaws.{longest_some, bad_within}

-- The first end of a comment is one place.
first_end_unique : (text : List ℕ) (from a b : ℕ) → IsFirstEnd text from a → IsFirstEnd text from b
    → a ≡ b
first_end_unique text from a b x y = of_order (cases_order x.mark y.mark)
  where
    of_order : (x.mark ≡ y.mark) ⊎ ((x.mark < y.mark) ⊎ (y.mark < x.mark)) → a ≡ b
    of_order (inl same) =
        let sizes : closing text x.mark ≡ closing text y.mark = ap (λ (k : ℕ). closing text k) same
        in
        omega (arith, x.whole, y.whole)
    of_order (inr (inl less)) = absurd (let none = y.first x.mark x.onward less in omega
        (arith, x.ends))
    of_order (inr (inr more)) = absurd (let none = x.first y.mark y.onward more in omega
        (arith, y.ends))

-- No comment that has an end begins where none does.
no_comment_at_begin : (text : List ℕ) (from to : ℕ) → IsComment text from to → IsBegin text from → ⊥
no_comment_at_begin text from to c begin =
    let none = (begin.unended c.begins).none c.ended.mark c.ended.onward in
    omega (arith, c.ended.ends)

-- A blank begins no comment.
blank_no_comment : (text : List ℕ) (place : ℕ) → is_blank (get_or text place 0) ≡ true
    → opening text place ≡ 0
unfolding opening
blank_no_comment text place b = grind (arith, nat_tests)

digit_no_comment : (text : List ℕ) (place : ℕ) → is_ascii_digit (get_or text place 0) ≡ true
    → opening text place ≡ 0
unfolding opening
digit_no_comment text place d = grind (arith, nat_tests)

-- Blanks and comments in a row end at one place at which neither begins.
between_unique : (text : List ℕ) (from a b : ℕ) → IsBetween text from a → IsBetween text from b
    → IsBegin text a → IsBegin text b → a ≡ b
between_unique text from _ _ (nothing _) (nothing _) p q = refl
between_unique text from _ b (nothing _) (blank _ _ h more) p q = absurd (both_ways _ p.no_blank h)
between_unique text from _ b (nothing _) (comment _ _ _ c more) p q =
    absurd (no_comment_at_begin text from _ c p)
between_unique text from a _ (blank _ _ h more) (nothing _) p q = absurd (both_ways _ q.no_blank h)
between_unique text from a b (blank _ _ h more) (blank _ _ k rest) p q = between_unique text
    (from + 1) a b more rest p q
between_unique text from a b (blank _ _ h more) (comment _ _ _ c rest) p q =
    absurd (let none = blank_no_comment text from h in omega (arith, c.begins))
between_unique text from a _ (comment _ _ _ c more) (nothing _) p q =
    absurd (no_comment_at_begin text from _ c q)
between_unique text from a b (comment _ _ _ c more) (blank _ _ k rest) p q =
    absurd (let none = blank_no_comment text from k in omega (arith, c.begins))
between_unique text from a b (comment _ m _ c more) (comment _ n _ d rest) p q =
    let same = first_end_unique text (from + opening text from) n m d.ended c.ended in
    between_unique text m a b more (subst (λ (k : ℕ). IsBetween text k b) same rest) p q

-- What begins with a blank is no token.
blank_no_token : (first : ℕ) (rest : List ℕ) → is_blank first ≡ true → kind_of (first ∷ rest) ≡ None
blank_no_token first rest b =
    let no_letter : is_ascii_alphabetic first ≡ false = grind (arith, nat_tests) in
    let no_digit : is_ascii_digit first ≡ false = grind (arith, nat_tests) in
    let no_quote : eqb first 39 ≡ false = grind (arith, nat_tests) in
    kind_of_other first rest no_letter no_digit no_quote ∙ blank_no_symbol first rest b

-- No blank begins a longest token.
token_no_blank : (text : List ℕ) (token : Token) → IsLongest text token
    → is_blank (get_or text token.start 0) ≡ false
token_no_blank text token long = false_from_ne_true _ (λ b. differs b (end_of token - token.start)
    refl)
  where
    differs : is_blank (get_or text token.start 0) ≡ true → (size : ℕ)
        → size ≡ end_of token - token.start → ⊥
    differs b zero size = let some = longest_some text token long in omega arith
    differs b (suc n) size =
        let some = longest_some text token long in
        let inside : token.start < length text = omega (arith, long.inside) in
        let split = drop_more text token.start 0 inside in
        let none = ap (λ (r : List ℕ). kind_of (take (suc n) r)) split
        ∙ blank_no_token (get_or text token.start 0) (take n (drop (token.start + 1) text)) b in
        let front = ap (λ (k : ℕ). kind_of (take k (drop token.start text))) size ∙ long.kind in
        let differ = sym none ∙ front in
        cc

token_begins : (text : List ℕ) (token : Token) → IsLongest text token → IsBegin text token.start
token_begins text token long = record {
  no_blank = token_no_blank text token long;
  unended = λ more. absurd (omega (arith, long.may_begin.no_comment));
}

-- Where digits stand in a row, the first is one.
digits_first : (text : List ℕ) (place : ℕ) → 0 < digits_at text place
    → is_ascii_digit (get_or text place 0) ≡ true
digits_first text place some = of_place (cases_lt place (length text))
  where
    of_place : (place < length text) ⊎ (length text ≤ place)
        → is_ascii_digit (get_or text place 0) ≡ true
    of_place (inr past) = absurd (let none : digits_at text place ≡ 0 =
        ap (λ (r : List ℕ). prefix_len is_ascii_digit r) (drop_all place text past) in omega arith)
    of_place (inl inside) = of_test (cases_Bool (is_ascii_digit (get_or text place 0)))
      where
        of_test : (is_ascii_digit (get_or text place 0) ≡ true)
            ⊎ (is_ascii_digit (get_or text place 0) ≡ false)
            → is_ascii_digit (get_or text place 0) ≡ true
        of_test (inl digit) = digit
        of_test (inr no_digit) = absurd (let none : digits_at text place ≡ 0 =
            rw (drop_more text place 0 inside, no_digit) refl in omega arith)

digit_no_blank : (b : ℕ) → is_ascii_digit b ≡ true → is_blank b ≡ false
digit_no_blank b digit = grind (arith, nat_tests)

opening_no_blank : (text : List ℕ) (place : ℕ) → 0 < opening text place
    → is_blank (get_or text place 0) ≡ false
opening_no_blank text place begins = false_from_ne_true _ (λ b. let none = blank_no_comment text
    place b in omega arith)

opening_no_digits : (text : List ℕ) (place : ℕ) → 0 < opening text place → 0 < digits_at text place
    → ⊥
opening_no_digits text place begins some = let none = digit_no_comment text place
    (digits_first text place some) in omega arith

bad_begins : (text : List ℕ) (place size : ℕ) → IsBadSpan text place size → IsBegin text place
bad_begins text place _ (illegal none) = record {
  no_blank = none.no_blank;
  unended = λ more. absurd (omega (arith, none.may_begin.no_comment));
}
bad_begins text place _ (open_comment unended) = record {
  no_blank = opening_no_blank text place unended.begins;
  unended = λ more. unended.unended;
}
bad_begins text place _ (many_digits many) =
    let digit = digits_first text place (omega arith) in
    let none = digit_no_comment text place digit in
    record {
      no_blank = digit_no_blank (get_or text place 0) digit;
      unended = λ more. absurd (omega arith);
    }

end_begins : (text : List ℕ) → IsBegin text (length text)
end_begins text = record {
  no_blank = ap is_blank (get_or_past text (length text) 0 (omega arith));
  unended = λ more. absurd (let inside = opening_inside text (length text) more in omega arith);
}

-- A longest token has no longer one at its start.
not_longer : (text : List ℕ) (t u : Token) → IsLongest text t → IsLongest text u → t.start ≡ u.start
    → t.length < u.length → ⊥
not_longer text t u p q same less =
    let none = p.longest (end_of u) (omega arith) q.inside in
    let some = subst (λ (place : ℕ). kind_of (slice_range text place (end_of u)) ≡ Some u.kind)
    (sym same) q.kind in
    let differ = sym none ∙ some in
    cc

-- The longest token at a place is one token.
longest_unique : (text : List ℕ) (t u : Token) → IsLongest text t → IsLongest text u
    → t.start ≡ u.start → t ≡ u
longest_unique text t u p q same = of_order (cases_order t.length u.length)
  where
    of_order : (t.length ≡ u.length) ⊎ ((t.length < u.length) ⊎ (u.length < t.length)) → t ≡ u
    of_order (inr (inl less)) = absurd (not_longer text t u p q same less)
    of_order (inr (inr more)) = absurd (not_longer text u t q p (sym same) more)
    of_order (inl sizes) =
        let spellings : spelling text t ≡ spelling text u = λ i. slice_range text (same i)
        (same i + sizes i) in
        let kinds : Some t.kind ≡ Some u.kind = sym p.kind ∙ ap kind_of spellings ∙ q.kind in
        let kind : t.kind ≡ u.kind = cc in
        λ i. record { kind = kind i; start = same i; length = sizes i }

-- A bad token stands where no longest one does.
bad_not_longest : (text : List ℕ) (t u : Token) → IsBadSpan text t.start t.length → IsLongest text u
    → t.start ≡ u.start → ⊥
bad_not_longest text t u span long same =
    of_span (subst (λ (place : ℕ). IsBadSpan text place t.length) same span)
  where
    of_span : {n : ℕ} → IsBadSpan text u.start n → ⊥
    of_span (illegal none) = let differ = sym (none.no_token (end_of u) long.inside)
        ∙ long.kind in cc
    of_span (open_comment unended) = omega (arith, unended.begins, long.may_begin.no_comment)
    of_span (many_digits many) = omega (arith, long.may_begin.few_digits)

-- A bad token has one span.
span_unique : (text : List ℕ) (place m n : ℕ) → IsBadSpan text place m → IsBadSpan text place n
    → m ≡ n
span_unique text place _ _ (illegal none) (illegal other) = refl
span_unique text place _ _ (illegal none) (open_comment unended) =
    absurd (omega (arith, unended.begins, none.may_begin.no_comment))
span_unique text place _ _ (illegal none) (many_digits many) =
    absurd (omega (arith, none.may_begin.few_digits))
span_unique text place _ _ (open_comment unended) (illegal none) =
    absurd (omega (arith, unended.begins, none.may_begin.no_comment))
span_unique text place _ _ (open_comment unended) (open_comment other) = refl
span_unique text place _ _ (open_comment unended) (many_digits many) =
    absurd (opening_no_digits text place unended.begins (omega arith))
span_unique text place _ _ (many_digits many) (illegal none) =
    absurd (omega (arith, none.may_begin.few_digits))
span_unique text place _ _ (many_digits many) (open_comment unended) =
    absurd (opening_no_digits text place unended.begins (omega arith))
span_unique text place _ _ (many_digits many) (many_digits other) = refl

bad_unique : (text : List ℕ) (t u : Token) → IsBadSpan text t.start t.length
    → IsBadSpan text u.start u.length → t.kind ≡ u.kind → t.start ≡ u.start → t ≡ u
bad_unique text t u p q kind same =
    let there = subst (λ (place : ℕ). IsBadSpan text place t.length) same p in
    let size = span_unique text u.start t.length u.length there q in
    λ i. record { kind = kind i; start = same i; length = size i }

-- The tokens from a place on are one list.
pub tokens_unique : (text : List ℕ) (from : ℕ) (xs ys : List Token) → AreTokensFrom text from xs
    → AreTokensFrom text from ys → xs ≡ ys
tokens_unique text from [] [] (none_left _ gap) (none_left _ other) = refl
tokens_unique text from [] (u ∷ []) (none_left _ gap) (bad _ _ other kind span) =
    absurd (let same = between_unique text from _ _ gap other (end_begins text)
    (bad_begins text _ _ span) in let within = bad_within text _ _ span in omega arith)
tokens_unique text from [] (u ∷ us) (none_left _ gap) (next _ _ _ other long more) =
    absurd (let same = between_unique text from _ _ gap other (end_begins text)
    (token_begins text u long) in let some = longest_some text u long in omega
    (arith, long.inside))
tokens_unique text from (t ∷ []) [] (bad _ _ gap kind span) (none_left _ other) =
    absurd (let same = between_unique text from _ _ other gap (end_begins text)
    (bad_begins text _ _ span) in let within = bad_within text _ _ span in omega arith)
tokens_unique text from (t ∷ []) (u ∷ []) (bad _ _ gap kind span) (bad _ _ other kind' span') =
    let same = between_unique text from _ _ gap other (bad_begins text _ _ span)
    (bad_begins text _ _ span') in
    ap (λ (v : Token). v ∷ []) (bad_unique text t u span span' (kind ∙ sym kind') same)
tokens_unique text from (t ∷ []) (u ∷ us) (bad _ _ gap kind span) (next _ _ _ other long more) =
    absurd (bad_not_longest text t u span long (between_unique text from _ _ gap other
    (bad_begins text _ _ span) (token_begins text u long)))
tokens_unique text from (t ∷ ts) [] (next _ _ _ gap long more) (none_left _ other) =
    absurd (let same = between_unique text from _ _ other gap (end_begins text)
    (token_begins text t long) in let some = longest_some text t long in omega
    (arith, long.inside))
tokens_unique text from (t ∷ ts) (u ∷ []) (next _ _ _ gap long more) (bad _ _ other kind span) =
    absurd (bad_not_longest text u t span long (between_unique text from _ _ other gap
    (bad_begins text _ _ span) (token_begins text t long)))
tokens_unique text from (t ∷ ts) (u ∷ us) (next _ _ _ gap long more)
    (next _ _ _ other long' more') =
    let same = between_unique text from _ _ gap other (token_begins text t long)
    (token_begins text u long') in
    let tokens = longest_unique text t u long long' same in
    let rest = subst (λ (v : Token). AreTokensFrom text (end_of v) us) (sym tokens) more' in
    let lists = tokens_unique text (end_of t) ts us more rest in
    λ i. tokens i ∷ lists i
