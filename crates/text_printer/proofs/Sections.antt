-- Two sections of parts are printed, of which a text had parts in any sections.
use Rattle.std.proofs.Common.{◌≡◌, ℕ, ◌<◌, ◌≤◌, true, false, List, [], ◌∷◌, ◌++◌, length, refl, sym}
use Rattle.std.proofs.Common.{subst, append_assoc, slice_get, map, arith}
use Rattle.std.proofs.lemmas.List.{append-nil}
use Rattle.est_lexer.specs.declared.kind.Token.{Token}
use Rattle.est_lexer.specs.declared.kind.TokenKind.{TokenKind}
use Rattle.est_lexer.specs.TokenList.{AreSpelled}
use Rattle.text_reader.specs.Grammar.{word, seq, alt, rep, Tree, t_word, t_seq, t_left, t_right}
use Rattle.text_reader.specs.Grammar.{t_rep_out, t_rep_in, nothing, both, left, right}
use Rattle.text_reader.specs.Shown.{Shows, empty, first, second, node, nodes, sections, s_none}
use Rattle.text_reader.specs.Shown.{s_more, s_no_section, s_first_section, s_second_section}
use Rattle.text_reader.specs.Tests.{kind, language}
use Rattle.text_reader.specs.Going.{Rule, Shape, View}
use Rattle.text_printer.specs.declared.printer.Printer.{Printer}
use Rattle.text_printer.specs.PlainGrammar.{plainly}
use Rattle.text_printer.specs.PlainNodes.{section}
use Rattle.text_printer.specs.PlainSpelling.{IsSpelledPlainly}
use Rattle.text_printer.specs.Aside.{Tells, a_empty, a_pair, a_first, a_second, a_none, a_more}
use Rattle.text_printer.specs.Putting.{count, PutsKind, next_token}
use Rattle.text_printer.specs.Printing.{Plan, plain_production, Extends, is_else, AreSpelledWithin}
use Rattle.text_printer.specs.Printing.{Grows, PrintsClosed}
use Rattle.text_printer.specs.Turns.{Turns, no_turn, turn, Section, no_section, one_section}
use Rattle.text_printer.proofs.Putting.{put_count, put_grows, put_there, put_spelled}
use Rattle.text_printer.proofs.Parts.{is_no_else, one_and_others, put_front, put_meets, put_inside}
use Rattle.text_printer.proofs.Printing.{grows_here, grows_on}
use Rattle.text_printer.proofs.Within.{within_none, within_one, within_both}

-- the parts of items, where there are none or some
pub none_listed : {T N : Type 0} (part : T → N) (xs : List T) → length xs ≤ 0 → map part xs ≡ []
none_listed part [] h = refl
none_listed part (x ∷ xs) h = absurd (omega arith)

pub some_listed : {T N : Type 0} (part : T → N) (xs : List T) → 0 < length xs → map part xs ≡ []
    → ⊥
some_listed part [] h e = omega arith
some_listed part (x ∷ xs) h e = cc

module _ {P N : Type 0} (X : Plan P N) where
  -- WHAT THE TEXT HAD

  -- Each of these parts had a tree by g with d levels to open.
  data Had (source : List ℕ) (read : List Token) (g : Rule P) (d : ℕ) : List N → Type 0 where
    had_none : Had source read g d []
    had_more : {n : N} {ns : List N} (a b : ℕ) (u : Shape)
        → Tree (language X.production source) read (length read) g d a b u
        → Shows X.layer (node n) u → Had source read g d ns → Had source read g d (n ∷ ns)

  -- One part had such a tree.
  record One (source : List ℕ) (read : List Token) (g : Rule P) (d : ℕ) (n : N) : Type 0 where
    from : ℕ
    to : ℕ
    shape : Shape
    tree : Tree (language X.production source) read (length read) g d from to shape
    shows : Shows X.layer (node n) shape

  module _ {source : List ℕ} {read : List Token} {d : ℕ} where
    had_both : {g : Rule P} {ns ms : List N} → Had source read g d ns → Had source read g d ms
        → Had source read g d (ns ++ ms)
    had_both had_none k = k
    had_both (had_more a b u z j h) k = had_more a b u z j (had_both h k)

    had_parts : {g : Rule P} (ns : List N) {ms : List N} → Had source read g d (ns ++ ms)
        → Had source read g d ns × Had source read g d ms
    had_parts [] h = (had_none, h)
    had_parts (n ∷ ns) (had_more a b u z j h) =
        let r = had_parts ns h in (had_more a b u z j r.0, r.1)

    had_one : {g : Rule P} {n : N} → Had source read g d (n ∷ []) → One source read g d n
    had_one (had_more a b u z j h) =
        record { from = a; to = b; shape = u; tree = z; shows = j }

    had_turns : {g : Rule P} {ns : List N} {a b : ℕ} {u : Shape}
        → Tree (language X.production source) read (length read) (rep g) d a b u
        → Shows X.layer (nodes ns) u → Had source read g d ns
    had_turns t_rep_out s_none = had_none
    had_turns (t_rep_in {a = a} {b = b} {t = t} z y) (s_more j k) =
        had_more a b t z j (had_turns y k)

    had_several : {g : Rule P} {ns : List N} {a b : ℕ} {u : Shape}
        → Tree (language X.production source) read (length read) (seq g (rep g)) d a b u
        → Shows X.layer (nodes ns) u → Had source read g d ns
    had_several (t_seq {a = a} {b = b} {t = t} z y) (s_more j k) =
        had_more a b t z j (had_turns y k)

    had_sections : {k l : TokenKind} {g h : Rule P} {ns ms : List N} {a b : ℕ} {u : Shape}
        → Tree (language X.production source) read (length read)
        (rep (alt (word (kind k) (seq g (rep g))) (word (kind l) (seq h (rep h))))) d a b u
        → Shows X.layer (sections nodes nodes ns ms) u
        → Had source read g d ns × Had source read h d ms
    had_sections t_rep_out s_no_section = (had_none, had_none)
    had_sections (t_rep_in (t_left (t_word _ i e z)) y) (s_first_section ks j r) =
        let q = had_sections y r in (had_both (had_several z j) q.0, q.1)
    had_sections (t_rep_in (t_right (t_word _ i e z)) y) (s_second_section ks j r) =
        let q = had_sections y r in (q.0, had_both (had_several z j) q.1)

  -- WHAT IS PRINTED

  pub turns_grow : {g : Rule P} {ns : List N} {A B : Printer} → Turns X g ns A B
      → B.spent ≡ false → Grows A B
  turns_grow no_turn e = grows_here e
  turns_grow (turn ns n t x) e = grows_on (turns_grow t) (x.grows e)

  -- from one place up to another there is a tree by g, which the view tells, and which begins with
  -- no `else`
  record Stand (g : Rule P) (d : ℕ) (v : View N) (a b : ℕ) (text : List ℕ) (s : List Token)
      : Type 0 where
    shape : Shape
    tree : Tree (language (plain_production X) text) s (length s) (plainly g) d a b shape
    tells : Tells X.plain v shape
    spelled : AreSpelledWithin text s a b
    front : is_else (slice_get s a) ≡ false

  module _ {text : List ℕ} {s : List Token} where
    -- parts before others
    turns_stand : {source : List ℕ} {read : List Token} → AreSpelled source read → {g : Rule P}
        {d : ℕ} {ns ms : List N} {A B : Printer} {b : ℕ} → Turns X g ns A B → B.spent ≡ false
        → Extends B text s → Had source read g d ns
        → Stand (rep g) d (nodes ms) (count B) b text s
        → Stand (rep g) d (nodes (ns ++ ms)) (count A) b text s
    turns_stand l no_turn w x h r = r
    turns_stand {source} {read} l {g} {d} {ms = ms} {A} {b = b} (turn {B = B} {C = C} ns n t y) w x
        h r =
        let k = had_parts ns h in
        let o = y.grows w in
        let i = had_one k.1 in
        let q = y.without w source read d i.from i.to i.shape l i.tree i.shows text s x r.front in
        let more : Stand (rep g) d (nodes (n ∷ ms)) (count B) b text s = record {
          shape = both q.shape r.shape;
          tree = t_rep_in q.tree r.tree;
          tells = a_more q.tells r.tells;
          spelled = within_both (count B) (count C) b q.spelled r.spelled;
          front = q.front;
        } in
        subst (λ v. Stand (rep g) d (nodes v) (count A) b text s)
        (sym (append_assoc ns (n ∷ []) ms)) (turns_stand l t o.well (o.extends text s x) k.0 more)

    -- one and others, which are some
    some_stand : {g : Rule P} {d : ℕ} {n : N} {ns : List N} {a b : ℕ}
        → Stand (rep g) d (nodes (n ∷ ns)) a b text s
        → Stand (seq g (rep g)) d (nodes (n ∷ ns)) a b text s
    some_stand {g} {d} {n} {ns} {a} {b} r = record {
      shape = r.shape;
      tree = one_and_others X text s r.tree r.tells;
      tells = r.tells;
      spelled = r.spelled;
      front = r.front;
    }

    -- all parts of a section, before what begins with no `else`
    all_stand : {source : List ℕ} {read : List Token} → AreSpelled source read → {g : Rule P}
        {d : ℕ} {n : N} {ns : List N} {A B : Printer}
        → Turns X g (n ∷ ns) A B → B.spent ≡ false → Extends B text s
        → Had source read g d (n ∷ ns) → is_else (slice_get s (count B)) ≡ false
        → Stand (seq g (rep g)) d (nodes (n ∷ ns)) (count A) (count B) text s
    all_stand l {g} {d} {n} {ns} {A} {B} t w x h f =
        let none : Stand (rep g) d (nodes []) (count B) (count B) text s = record {
          shape = nothing;
          tree = t_rep_out;
          tells = a_none;
          spelled = within_none (count B);
          front = f;
        } in
        some_stand (subst (λ v. Stand (rep g) d (nodes v) (count A) (count B) text s)
        (append-nil (n ∷ ns)) (turns_stand l t w x h none))

    -- a word, and then such a tree
    word_stand : {k : TokenKind} {g : Rule P} {d : ℕ} {v : View N} {A B : Printer} {b : ℕ}
        → is_no_else k ≡ true → PutsKind k A B → B.spent ≡ false → Extends B text s
        → Stand g d v (count B) b text s → Stand (word (kind k) g) d v (count A) b text s
    word_stand {k} {g} {d} {A = A} {B} {b} n p w x r =
        let q = p.puts.put w in
        record {
          shape = r.shape;
          tree = t_word (kind k) (put_inside n q text s x) (put_meets n q text s x)
              (subst (λ (i : ℕ). Tree (language (plain_production X) text) s (length s) (plainly g)
              d i b r.shape) (sym (put_count q)) r.tree);
          tells = r.tells;
          spelled = within_both (count A) (count B) b
              (subst (λ (i : ℕ). AreSpelledWithin text s (count A) i) (put_count q)
              (within_one (count A) (next_token A k p.bytes) (put_there q text s x)
              (subst (λ (bs : List ℕ). IsSpelledPlainly k bs) (sym (put_spelled q text s x))
              p.spelled))) r.spelled;
          front = put_front n q text s x;
        }

  pub section_grows : {k : TokenKind} {g : Rule P} {ns : List N} {A B : Printer}
      → Section X k g ns A B → B.spent ≡ false → Grows A B
  section_grows no_section e = grows_here e
  section_grows (one_section n ns p t) e =
      grows_on (λ w. put_grows (p.puts.put w)) (turns_grow t e)

  -- no parts, or some after the word that begins their section
  pub section_none : {k : TokenKind} {g : Rule P} {ns : List N} {A : Printer} → ns ≡ []
      → Section X k g ns A A
  section_none {k} {g} {A = A} e = subst (λ l. Section X k g l A A) (sym e) no_section

  pub section_some : {k : TokenKind} {g : Rule P} (ns : List N) {A B C : Printer} → (ns ≡ [] → ⊥)
      → PutsKind k A B → Turns X g ns B C → Section X k g ns A C
  section_some [] h p t = absurd (h refl)
  section_some (n ∷ ns) h p t = one_section n ns p t

  -- two sorts of parts, in any sections, each after its word
  abbrev both_of : (k l : TokenKind) (g h : Rule P) → Rule P
  both_of k l g h = rep (alt (word (kind k) (seq g (rep g))) (word (kind l) (seq h (rep h))))

  -- Where a text had parts of two sorts in any sections, they are printed in one section each.
  pub sections_print : {k l : TokenKind} {g h : Rule P} {ns ms : List N} {A B C : Printer}
      → is_no_else k ≡ true → is_no_else l ≡ true → Section X k g ns A B → Section X l h ms B C
      → PrintsClosed X (both_of k l g h)
      (sections nodes nodes ns ms) (section first ns (section second ms empty)) A C
  sections_print {k} {l} {g} {h} {ns} {ms} {A} {B} {C} i i' p q = record {
    grows = λ e. grows_on (section_grows p) (section_grows q e);
    without = λ e source read d a b u f z j text s x c.
        let o = section_grows q e in
        let had = had_sections z j in
        let later = seconds f e d text s q x had.1 c in
        let r = firsts f e d text s p o (o.extends text s x) had.0 later in
        record {
          shape = r.shape;
          tree = r.tree;
          tells = r.tells;
          spelled = r.spelled;
          front = r.front;
        };
  }
    where
      seconds : {source : List ℕ} {read : List Token} {ms : List N} {B C : Printer}
          → AreSpelled source read → C.spent ≡ false → (d : ℕ) (text : List ℕ) (s : List Token)
          → Section X l h ms B C
          → Extends C text s → Had source read h d ms → is_else (slice_get s (count C)) ≡ false
          → Stand (both_of k l g h) d (section second ms empty) (count B) (count C) text s
      seconds {C = C} f e d text s no_section x had c = record {
        shape = nothing;
        tree = t_rep_out;
        tells = a_empty;
        spelled = within_none (count C);
        front = c;
      }
      seconds {C = C} f e d text s (one_section n ns p t) x had c =
          let o = turns_grow t e in
          let r = word_stand i' p o.well (o.extends text s x) (all_stand f t e x had c) in
          record {
            shape = both (right r.shape) nothing;
            tree = t_rep_in (t_right r.tree) t_rep_out;
            tells = a_pair (a_second r.tells) a_empty;
            spelled = r.spelled;
            front = r.front;
          }

      firsts : {source : List ℕ} {read : List Token} {ns : List N} {v : View N} {A B C : Printer}
          → AreSpelled source read → C.spent ≡ false → (d : ℕ) (text : List ℕ) (s : List Token)
          → Section X k g ns A B → Grows B C → Extends B text s → Had source read g d ns
          → Stand (both_of k l g h) d v (count B) (count C) text s
          → Stand (both_of k l g h) d (section first ns v) (count A) (count C) text s
      firsts f e d text s no_section o x had r = r
      firsts {A = A} {B} {C} f e d text s (one_section n ns p t) o x had r =
          let o' = turns_grow t o.well in
          let q = word_stand i p o'.well (o'.extends text s x)
          (all_stand f t o.well x had r.front) in
          record {
            shape = both (left q.shape) r.shape;
            tree = t_rep_in (t_left q.tree) r.tree;
            tells = a_pair (a_first q.tells) r.tells;
            spelled = within_both (count A) (count B) (count C) q.spelled r.spelled;
            front = q.front;
          }
