-- A line that is `end` has no events: with `end` after it, one stands there too many.
use Rattle.std.proofs.Common.{◌≡◌, ◌∙◌, ◌⊎◌, inl, inr, ℕ, suc, zero, ◌+◌, ◌-◌, ◌<◌, ◌≤◌}
use Rattle.std.proofs.Common.{Bool, true, false}
use Rattle.std.proofs.Common.{List, [], ◌∷◌, ◌++◌, length, codes, get_or, take, drop, Some, None}
use Rattle.std.proofs.Common.{sym, subst, ap, refl, arith, eqb, slice_range, slice_get, ◌&&◌}
use Rattle.std.proofs.Common.{Option}
use Rattle.std.specs.Char.{is_ascii_alphabetic}
use Rattle.std.specs.List.{list_all, prefix_len}
use Rattle.std.specs.Prelude.{bytes_eq}
use Rattle.std.specs.Char.{to_ascii_lowercase}
use Rattle.std.specs.Str.{str_to_ascii_lowercase}
use Rattle.std.proofs.lemmas.Bool.{cases_lt}
use Rattle.std.proofs.lemmas.Bool.Decides.{nat_tests}
use Rattle.std.proofs.lemmas.List.{get_or-append-add, get_or_append_left, get_or_past}
use Rattle.std.proofs.lemmas.List.{length-append}
use Rattle.std.proofs.lemmas.List.{drop-append-le, take-append-le, drop_more, length-drop}
use Rattle.std.proofs.lemmas.List.Folds.{list_all-append}
use Rattle.std.proofs.Math.Seq.{get_or-append_seam, drop-append-add, take-append-add}
use Rattle.est_lexer.specs.declared.kind.Token.{Token}
use Rattle.est_lexer.specs.Between.{is_blank, opening, closing, IsBetween, IsComment}
use Rattle.est_lexer.specs.Between.{nothing, blank, comment}
use Rattle.est_lexer.specs.Spans.{end_of, spelling}
use Rattle.est_lexer.specs.Spellings.{kind_of, is_identifier_part}
use Rattle.est_lexer.specs.TokenList.{IsLongest}
use Rattle.est_lexer.specs.Spellings.{name_kind}
use Rattle.est_lexer.specs.TokenList.{IsTokenList, none_left, bad, next}
use Rattle.est_lexer.specs.inside.Scanning.{IsTokenAt}
use Rattle.est_lexer.specs.declared.kind.TokenKind.TheVariants.{Number, Bad}
use Rattle.est_lexer.proofs.TokenLaws.{longest_some}
use Rattle.est_lexer.proofs.There.{name_there, number_there}
use Rattle.est_lexer.proofs.Unique.{tokens_unique}
use Rattle.est_lexer.proofs.KindOf.{kind_of_letter, letter_no_digit}
use Rattle.est_lexer.proofs.Longest.{may_begin_there}
use Rattle.est_lexer.proofs.Marks.{opening_inside, closing_inside, between_onward, between_append}
use Rattle.est_lexer.proofs.Marks.{letter_opens_none, digit_opens_none}
use Rattle.text_reader.specs.Grammar.{Tree, At, meets, rule, t_done, t_word, t_seq, t_rule, t_left}
use Rattle.text_reader.specs.Grammar.{t_right, t_opt_out, t_opt_in, t_deeper}
use Rattle.text_reader.specs.Going.{Shape}
use Rattle.text_reader.specs.Tests.{Test, apart, holds, said, is_spelled, lowered}
use Rattle.text_reader.proofs.Apart.{apart-holds}
use Rattle.text_reader.proofs.Members.{and_left, and_right}
use Rattle.est_syntax.specs.declared.ports.Port.{Port}
use Rattle.est_meaning.specs.declared.event.Event.{Event}
use Rattle.text_values.specs.declared.formats.Format.TheVariants.{Complete}
use Rattle.text_values.specs.TraceGrammar.{events_at}
use Rattle.est_trace.specs.LineText.{first_version, IsEndAlone, IsLineText, IsOnlyLineText}
use Rattle.est_trace.specs.TraceText.{traces}
use Rattle.call_watch.specs.Lines.{IsEndLine, HasEvents, judged}

-- WITHIN A LONGER TEXT

module _ (front bytes back : List ℕ) where
  abbrev pub around : List ℕ
  around = front ++ (bytes ++ 10 ∷ back)

  -- the bytes stand there
  byte_same : (i : ℕ) → i < length bytes → get_or around (length front + i) 0 ≡ get_or bytes i 0
  byte_same i lt = get_or-append-add front (bytes ++ 10 ∷ back) i 0
      ∙ get_or_append_left bytes (10 ∷ back) 0 i lt

  byte_after : get_or around (length front + length bytes) 0 ≡ 10
  byte_after = get_or-append-add front (bytes ++ 10 ∷ back) (length bytes) 0
      ∙ get_or-append_seam bytes 10 back 0

  next_same : (i : ℕ) → i < length bytes
      → (get_or around (length front + i + 1) 0 ≡ get_or bytes (i + 1) 0)
      ⊎ ((get_or around (length front + i + 1) 0 ≡ 10) × (get_or bytes (i + 1) 0 ≡ 0))
  next_same i lt = elim (cases_lt (i + 1) (length bytes)) [
    | inl l ↦
        inl (subst (λ (z : ℕ). get_or around z 0 ≡ get_or bytes (i + 1) 0) (omega arith)
        (byte_same (i + 1) l))
    | inr ge ↦
        inr (
          subst (λ (z : ℕ). get_or around z 0 ≡ 10) (omega (arith, lt, ge)) byte_after,
          get_or_past bytes (i + 1) 0 ge,
        )
  ]

  opening_same : (i : ℕ) → i < length bytes → opening around (length front + i) ≡ opening bytes i
  unfolding opening
  opening_same i lt = elim (next_same i lt) [
    | inl e ↦ rw (byte_same i lt, e) refl
    | inr e ↦ rw (byte_same i lt, e.0, e.1) refl
  ]

  closing_same : (i : ℕ) → i < length bytes → closing around (length front + i) ≡ closing bytes i
  unfolding closing
  closing_same i lt = elim (next_same i lt) [
    | inl e ↦ rw (byte_same i lt, e) refl
    | inr e ↦ rw (byte_same i lt, e.0, e.1) refl
  ]

  comment_same : (a b : ℕ) → IsComment bytes a b
      → IsComment around (length front + a) (length front + b)
  comment_same a b c =
      let begins = c.begins in
      let within = opening_inside bytes a c.begins in
      let same = opening_same a (omega (arith, begins, within)) in
      let ends = c.ended.ends in
      let last = closing_inside bytes c.ended.mark c.ended.ends in
      let same_end = closing_same c.ended.mark (omega (arith, ends, last)) in
      record {
        begins = omega (arith, begins, same);
        ended = record {
          mark = length front + c.ended.mark;
          onward = omega (arith, same, c.ended.onward);
          first = λ place ge lt.
              let here : place ≡ length front + (place - length front) = omega (arith, ge) in
              subst (λ (z : ℕ). closing around z ≡ 0) (sym here)
              (closing_same (place - length front) (omega (arith, lt, ge, ends, last))
              ∙ c.ended.first (place - length front) (omega (arith, ge, same))
              (omega (arith, lt, ge)));
          ends = omega (arith, ends, same_end);
          whole = omega (arith, same_end, c.ended.whole);
        };
      }

  pub between_same : (a b : ℕ) → IsBetween bytes a b → b ≤ length bytes
      → IsBetween around (length front + a) (length front + b)
  between_same a _ (nothing _) le = nothing (length front + a)
  between_same a b (blank _ _ h more) le =
      let on = between_onward more in
      let rest = between_same (a + 1) b more le in
      blank (length front + a) (length front + b)
      (ap is_blank (byte_same a (omega (arith, on, le))) ∙ h)
      (subst (λ (z : ℕ). IsBetween around z (length front + b)) (omega arith) rest)
  between_same a b (comment _ m _ c more) le =
      comment (length front + a) (length front + m) (length front + b) (comment_same a m c)
      (between_same m b more le)

  -- what is cut out of them is cut out there
  slice_same : (a b : ℕ) → a ≤ b → b ≤ length bytes
      → slice_range around (length front + a) (length front + b) ≡ slice_range bytes a b
  slice_same a b le within =
      let n = length-drop a bytes in
      let size : (length front + b) - (length front + a) ≡ b - a = omega arith in
      let there : drop (length front + a) around ≡ drop a bytes ++ 10 ∷ back =
      drop-append-add front (bytes ++ 10 ∷ back) a
      ∙ drop-append-le a bytes (10 ∷ back) (omega (arith, le, within)) in
      ap (λ (z : ℕ). take z (drop (length front + a) around)) size
      ∙ ap (λ (z : List ℕ). take (b - a) z) there
      ∙ take-append-le (b - a) (drop a bytes) (10 ∷ back) (omega (arith, n, le, within))

  -- and what goes on after them has the line feed
  slice_over : (a b m : ℕ) → a ≤ length bytes → b ≡ length bytes + suc m
      → slice_range around (length front + a) (length front + b)
      ≡ drop a bytes ++ 10 ∷ take m back
  slice_over a b m le is =
      let n = length-drop a bytes in
      let size : (length front + b) - (length front + a) ≡ length (drop a bytes) + suc m =
      omega (arith, n, le, is) in
      let there : drop (length front + a) around ≡ drop a bytes ++ 10 ∷ back =
      drop-append-add front (bytes ++ 10 ∷ back) a ∙ drop-append-le a bytes (10 ∷ back) le in
      ap (λ (z : ℕ). take z (drop (length front + a) around)) size
      ∙ ap (λ (z : List ℕ). take (length (drop a bytes) + suc m) z) there
      ∙ take-append-add (drop a bytes) (10 ∷ back) (suc m)

  -- no name goes on over it
  no_name : (first : ℕ) (rest more : List ℕ) → is_ascii_alphabetic first ≡ true
      → kind_of (first ∷ (rest ++ 10 ∷ more)) ≡ None
  no_name first rest more letter =
      let fails : list_all is_identifier_part (rest ++ 10 ∷ more) ≡ false =
      list_all-append is_identifier_part rest (10 ∷ more)
      ∙ and_false (list_all is_identifier_part rest) in
      kind_of_letter first (rest ++ 10 ∷ more) letter ∙ rw fails refl
    where
      and_false : (b : Bool) → (b && false) ≡ false
      and_false true = refl
      and_false false = refl

  -- a token
  abbrev pub moved : Token → Token
  moved t = record { kind = t.kind; start = length front + t.start; length = t.length }

  pub around_length : length around ≡ length front + (length bytes + suc (length back))
  around_length = length-append front (bytes ++ 10 ∷ back)
      ∙ ap (λ (z : ℕ). length front + z) (length-append bytes (10 ∷ back))

  pub spelling_same : (t : Token) → end_of t ≤ length bytes
      → spelling around (moved t) ≡ spelling bytes t
  spelling_same t inside =
      let e : length front + t.start + t.length ≡ length front + (t.start + t.length) =
      omega arith in
      ap (λ (z : ℕ). slice_range around (length front + t.start) z) e
      ∙ slice_same t.start (t.start + t.length) (omega arith) inside

  pub longest_same : (t : Token) → IsLongest bytes t → t.start < length bytes
      → is_ascii_alphabetic (get_or bytes t.start 0) ≡ true → IsLongest around (moved t)
  longest_same t long lt letter =
      let size = around_length in
      let inside = long.inside in
      let there : is_ascii_alphabetic (get_or around (length front + t.start) 0) ≡ true =
      ap is_ascii_alphabetic (byte_same t.start lt) ∙ letter in
      record {
        may_begin = may_begin_there around (length front + t.start) (omega (arith, size, lt))
            (letter_opens_none around (length front + t.start) there)
            (letter_no_digit (get_or around (length front + t.start) 0) there);
        inside = omega (arith, size, inside);
        kind = ap kind_of (spelling_same t inside) ∙ long.kind;
        longest = λ end more within.
            let here : end ≡ length front + (end - length front) = omega (arith, more) in
            subst (λ (z : ℕ). kind_of (slice_range around (length front + t.start) z) ≡ None)
            (sym here)
            (elim (cases_lt (length bytes) (end - length front)) [
              | inl over ↦
                  ap kind_of (slice_over t.start (end - length front)
                  (end - length front - length bytes - 1) (omega (arith, lt)) (omega (arith, over))
                  ∙ ap (λ (z : List ℕ). z ++ 10 ∷ take (end - length front - length bytes - 1) back)
                  (drop_more bytes t.start 0 lt))
                  ∙ no_name (get_or bytes t.start 0) (drop (t.start + 1) bytes)
                  (take (end - length front - length bytes - 1) back) letter
              | inr le ↦
                  ap kind_of (slice_same t.start (end - length front) (omega (arith, more)) le)
                  ∙ long.longest (end - length front) (omega (arith, more)) le
            ]);
      }

-- A LINE THAT IS `end`

-- a token that is `end` begins with a letter
spelled_letter : (bytes : List ℕ) (t : Token) → IsLongest bytes t
    → holds bytes (said "end") t ≡ true → is_ascii_alphabetic (get_or bytes t.start 0) ≡ true
spelled_letter bytes t long says = by t.length refl
  where
    is_e : (b : ℕ) (rest : List ℕ)
        → bytes_eq (codes "end") (str_to_ascii_lowercase (b ∷ rest)) ≡ true
        → is_ascii_alphabetic b ≡ true
    is_e b rest h =
        let low : eqb 101 (to_ascii_lowercase b) ≡ true =
        and_left (eqb 101 (to_ascii_lowercase b)) _ h in
        grind (arith, nat_tests)

    by : (n : ℕ) → t.length ≡ n → is_ascii_alphabetic (get_or bytes t.start 0) ≡ true
    by zero e = absurd (let some = longest_some bytes t long in omega (arith, e, some))
    by (suc n) e =
        let inside = long.inside in
        let lt : t.start < length bytes = omega (arith, inside, e) in
        let size : t.start + t.length - t.start ≡ suc n = omega (arith, e) in
        let split : spelling bytes t ≡ get_or bytes t.start 0 ∷ take n (drop (t.start + 1) bytes) =
        ap (λ (z : ℕ). take z (drop t.start bytes)) size
        ∙ ap (λ (z : List ℕ). take (suc n) z) (drop_more bytes t.start 0 lt) in
        let same = and_right (is_spelled t.kind) _ says in
        let first : bytes_eq (codes "end") (str_to_ascii_lowercase (get_or bytes t.start 0
        ∷ take n (drop (t.start + 1) bytes))) ≡ true =
        subst (λ (z : List ℕ). bytes_eq (codes "end") (str_to_ascii_lowercase z) ≡ true) split
        same in
        is_e (get_or bytes t.start 0) (take n (drop (t.start + 1) bytes)) first

-- the text that is judged
abbrev pub with_end : List ℕ → List ℕ
with_end bytes = around (codes "trace 1\n") bytes (codes "end")

module _ (bytes : List ℕ) (t : Token) (gap : IsBetween bytes 0 t.start) (long : IsLongest bytes t)
    (rest : IsBetween bytes (end_of t) (length bytes))
    (says : holds bytes (said "end") t ≡ true) where
  abbrev place_after : ℕ
  place_after = 8 + (length bytes + 1)

  abbrev first_token : Token
  first_token = record {
    kind = name_kind (slice_range (with_end bytes) 0 5);
    start = 0;
    length = 5;
  }

  abbrev second_token : Token
  second_token = record { kind = Number; start = 6; length = 1 }

  abbrev last_token : Token
  last_token = record {
    kind = name_kind (slice_range (with_end bytes) place_after (place_after + 3));
    start = place_after;
    length = place_after + 3 - place_after;
  }

  size_is : length (with_end bytes) ≡ 8 + (length bytes + 4)
  size_is = around_length (codes "trace 1\n") bytes (codes "end")

  first_there : IsTokenAt (with_end bytes) 0 first_token
  first_there =
      let size = size_is in
      name_there (with_end bytes) 0 5 first_token.kind first_token (omega (arith, size))
      (letter_opens_none (with_end bytes) 0 refl) refl refl refl refl

  second_there : IsTokenAt (with_end bytes) 6 second_token
  second_there =
      let size = size_is in
      number_there (with_end bytes) 6 1 second_token (omega (arith, size))
      (digit_opens_none (with_end bytes) 6 refl) refl refl (omega arith) refl

  last_there : IsTokenAt (with_end bytes) place_after last_token
  last_there =
      let size = size_is in
      let letter : get_or (with_end bytes) place_after 0 ≡ 101 =
      get_or-append-add (codes "trace 1\n") (bytes ++ codes "\nend") (length bytes + 1) 0
      ∙ get_or-append-add bytes (codes "\nend") 1 0 in
      let left : drop (place_after + 1) (with_end bytes) ≡ codes "nd" =
      ap (λ (z : ℕ). drop z (with_end bytes))
      (let e : place_after + 1 ≡ 8 + (length bytes + 2) = omega arith in e)
      ∙ drop-append-add (codes "trace 1\n") (bytes ++ codes "\nend") (length bytes + 2)
      ∙ drop-append-add bytes (codes "\nend") 2 in
      let two : prefix_len is_identifier_part (drop (place_after + 1) (with_end bytes)) ≡ 2 =
      ap (λ (z : List ℕ). prefix_len is_identifier_part z) left in
      let alphabetic : is_ascii_alphabetic (get_or (with_end bytes) place_after 0) ≡ true =
      ap is_ascii_alphabetic letter in
      name_there (with_end bytes) place_after (place_after + 3) last_token.kind last_token
      (omega (arith, size)) (letter_opens_none (with_end bytes) place_after alphabetic) alphabetic
      (omega (arith, two)) refl refl

  abbrev pub four : List Token
  four = first_token ∷ second_token ∷ moved (codes "trace 1\n") bytes (codes "end") t
      ∷ last_token ∷ []

  blank_after : is_blank (get_or (with_end bytes) (8 + length bytes) 0) ≡ true
  blank_after = ap is_blank (byte_after (codes "trace 1\n") bytes (codes "end"))

  pub four_tokens : IsTokenList (with_end bytes) four
  four_tokens =
      let size = size_is in
      let within = long.inside in
      let some = longest_some bytes t long in
      let own = moved (codes "trace 1\n") bytes (codes "end") t in
      let before = between_same (codes "trace 1\n") bytes (codes "end") 0 t.start gap
      (omega (arith, within)) in
      let after : IsBetween (with_end bytes) (end_of own) (8 + length bytes) =
      subst (λ (z : ℕ). IsBetween (with_end bytes) z (8 + length bytes)) (omega arith)
      (between_same (codes "trace 1\n") bytes (codes "end") (end_of t) (length bytes) rest
      (omega arith)) in
      let feed : IsBetween (with_end bytes) (8 + length bytes) place_after =
      blank (8 + length bytes) place_after blank_after
      (subst (λ (z : ℕ). IsBetween (with_end bytes) z place_after) (omega arith)
      (nothing place_after)) in
      let done : IsBetween (with_end bytes) (end_of last_token) (length (with_end bytes)) =
      subst (λ (z : ℕ). IsBetween (with_end bytes) z (length (with_end bytes)))
      (omega (arith, size)) (nothing (length (with_end bytes))) in
      next 0 first_token _ (nothing 0) first_there.longest
      (next 5 second_token _ (blank 5 6 refl (nothing 6)) second_there.longest
      (next 7 own _ (blank 7 (8 + t.start) refl before)
      (longest_same (codes "trace 1\n") bytes (codes "end") t long (omega (arith, within, some))
      (spelled_letter bytes t long says))
      (next (end_of own) last_token _ (between_append after feed) last_there.longest
      (none_left (end_of last_token) done))))

  pub third_is : At (traces (with_end bytes)) four 2 (said "end")
  third_is = subst (λ (z : List ℕ). (is_spelled t.kind
      && bytes_eq (codes "end") (str_to_ascii_lowercase z)) ≡ true)
      (sym (spelling_same (codes "trace 1\n") bytes (codes "end") t long.inside)) says

-- no token meets two tests that are apart
not_both : (text : List ℕ) (x y : Test) (o : Option Token) → apart x y ≡ true
    → meets (holds text) x o ≡ true → meets (holds text) y o ≡ true → ⊥
not_both text x y None e h k = cc
not_both text x y (Some token) e h k = apart-holds text x y token e h k

-- where the third token is `end`, there are three
module _ (text : List ℕ) (tokens : List Token) (n : ℕ) (ports : List Port)
    (is : At (traces text) tokens 2 (said "end")) where
  no_event : {d b : ℕ} {u : Shape}
      → Tree (traces text) tokens n (rule (events_at Complete ports)) d 2 b u → b ≡ 2
  no_event (t_rule t_opt_out) = refl
  no_event (t_rule (t_opt_in (t_deeper (t_seq (t_left (t_word k l m x)) y)))) =
      absurd (not_both text (said "time") (said "end") (slice_get tokens 2) refl m is)
  no_event (t_rule (t_opt_in (t_deeper (t_seq (t_right (t_left (t_word k l m x))) y)))) =
      absurd (not_both text (said "in") (said "end") (slice_get tokens 2) refl m is)
  no_event (t_rule (t_opt_in (t_deeper (t_seq (t_right (t_right (t_word k l m x))) y)))) =
      absurd (not_both text (said "out") (said "end") (slice_get tokens 2) refl m is)

  three_tokens : {d b : ℕ} {u : Shape}
      → Tree (traces text) tokens n (first_version ports) d 0 b u → b ≡ 3
  three_tokens (t_word _ l m (t_word _ l' m' (t_seq x (t_word _ l'' m'' t_done)))) =
      ap (λ (z : ℕ). suc z) (no_event x)

end_alone : (bytes : List ℕ) (own tokens : List Token) (ports : List Port) (room : ℕ)
    (events : List Event) → IsTokenList bytes own → IsEndAlone bytes own
    → IsTokenList (with_end bytes) tokens → IsLineText room ports (with_end bytes) tokens events → ⊥
end_alone bytes [] tokens ports room events list alone all is = absurd (omega (arith, alone.0))
end_alone bytes (t ∷ u ∷ us) tokens ports room events list alone all is =
    absurd (omega (arith, alone.0))
end_alone bytes (t ∷ []) tokens ports room events (bad _ _ gap kind span) alone all is =
    let no : (is_spelled Bad && bytes_eq (codes "end") (lowered bytes t)) ≡ true =
    subst (λ k. (is_spelled k && bytes_eq (codes "end") (lowered bytes t)) ≡ true) kind alone.1 in
    absurd cc
end_alone bytes (t ∷ []) tokens ports room events (next _ _ _ gap long (none_left _ rest)) alone all
    is =
    let same : tokens ≡ four bytes t gap long rest alone.1 =
    tokens_unique (with_end bytes) 0 tokens (four bytes t gap long rest alone.1) all
    (four_tokens bytes t gap long rest alone.1) in
    let count : length tokens ≡ 4 = ap (λ (ts : List Token). length ts) same in
    let third : At (traces (with_end bytes)) tokens 2 (said "end") =
    subst (λ (ts : List Token). At (traces (with_end bytes)) ts 2 (said "end")) (sym same)
    (third_is bytes t gap long rest alone.1) in
    let three = three_tokens (with_end bytes) tokens (length tokens) ports third is.1 in
    absurd (omega (arith, count, three))

pub end_has_none : (ports : List Port) (room : ℕ) (bytes : List ℕ) (events : List Event)
    → IsEndLine bytes → HasEvents ports room false bytes events → ⊥
end_has_none ports room bytes events line has =
    let only : IsOnlyLineText room ports (judged false bytes) has.0 events = has.2 in
    end_alone bytes line.0 has.0 ports room events line.1 line.2 has.1 only.0
