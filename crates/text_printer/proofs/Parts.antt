-- What is printed of each form of grammar, where it had a tree.
use Rattle.std.proofs.Common.{◌≡◌, ℕ, suc, ◌<◌, Bool, true, false, not, ◌&&◌, List, [], ◌∷◌, length}
use Rattle.std.proofs.Common.{refl, sym, ◌∙◌, ap, subst, Option, Some, None, slice_get}
use Rattle.std.proofs.lemmas.Bool.{and_parts, both_ways, not-true}
use Rattle.std.proofs.lemmas.Option.{slice_get_within}
use Rattle.est_lexer.specs.declared.kind.Token.{Token}
use Rattle.est_lexer.specs.declared.kind.TokenKind.{TokenKind}
use Rattle.est_lexer.specs.declared.kind.ReservedWord.TheVariants.{Else}
use Rattle.est_lexer.specs.declared.kind.TokenKind.TheVariants.{Reserved, Bad}
use Rattle.est_lexer.specs.Spans.{spelling}
use Rattle.est_lexer.specs.Spellings.{kind_of}
use Rattle.est_lexer.specs.TokenKinds.{is_same}
use Rattle.text_reader.specs.Grammar.{done, word, token, here, skip, seq, alt, opt, rep, nearest}
use Rattle.text_reader.specs.Grammar.{ended, deeper, rule, meets, KeptOf, Tree, t_done, t_word}
use Rattle.text_reader.specs.Grammar.{t_token, t_here, t_skip, t_seq, t_left, t_right, t_opt_out}
use Rattle.text_reader.specs.Grammar.{t_opt_in, t_rep_out, t_rep_in, t_nearest_out, t_nearest_in}
use Rattle.text_reader.specs.Grammar.{t_ended_out, t_ended_last, t_ended_in, t_deeper, t_rule}
use Rattle.text_reader.specs.Grammar.{nothing, leaf, placed, both, left, right, some}
use Rattle.text_reader.specs.Shown.{Shows, empty, kept, at, pair, first, second, given, node}
use Rattle.text_reader.specs.Shown.{nodes, s_empty, s_kept, s_at, s_pair, s_first, s_second}
use Rattle.text_reader.specs.Shown.{s_given, s_node, s_none, s_more}
use Rattle.text_reader.specs.Tests.{Test, kind, Kept, kept_as, kept_of, holds, language}
use Rattle.text_reader.specs.Going.{Rule, Shape, View}
use Rattle.text_printer.specs.declared.printer.Printer.{Printer}
use Rattle.text_printer.specs.PlainGrammar.{plainly}
use Rattle.text_printer.specs.Aside.{Tells, a_empty, a_kept, a_at, a_pair, a_first, a_second}
use Rattle.text_printer.specs.Aside.{a_given, a_node, a_none, a_more}
use Rattle.text_printer.specs.PlainSpelling.{IsSpelledPlainly}
use Rattle.text_printer.specs.Putting.{Put, next_token, count}
use Rattle.text_printer.specs.Printing.{Plan, plain_production, Extends, is_else, Next, any_next}
use Rattle.text_printer.specs.Printing.{same_else, no_else, Follows, AreSpelledWithin, PrintsAs}
use Rattle.text_printer.specs.Printing.{Grows}
use Rattle.text_printer.proofs.Putting.{put_count, put_there, put_spelled}
use Rattle.text_printer.proofs.Within.{within_none, within_one, within_both}

-- a kind that is no `else`
abbrev pub is_no_else : TokenKind → Bool
is_no_else k = is_same k k && not (is_same k (Reserved Else))

abbrev pub else_word : Test
else_word = kind (Reserved Else)

-- a token that is no `else` has any next one that is asked
no_front : (f : Next) (o p : Option Token) → is_else o ≡ false → Follows f o p
no_front any_next o p e = tt
no_front same_else o p e = λ h. absurd (both_ways _ e h)
no_front no_else o p e = e

-- a token of a list, and that it meets a test
meets_else : (text : List ℕ) (o : Option Token) → meets (holds text) else_word o ≡ is_else o
meets_else text None = refl
meets_else text (Some x) = refl

else_inside : (s : List Token) (a : ℕ) → is_else (slice_get s a) ≡ true → a < length s
else_inside s a e = found (slice_get s a) refl e
  where
    found : (o : Option Token) → slice_get s a ≡ o → is_else o ≡ true → a < length s
    found None p h = absurd cc
    found (Some x) p h = slice_get_within s a x p

-- The token that meets a test of its kind.
record Met (source : List ℕ) (read : List Token) (a : ℕ) (k : TokenKind) : Type 0 where
  token : Token
  there : slice_get read a ≡ Some token
  kind_is : is_same token.kind k ≡ true

met : (source : List ℕ) (read : List Token) (a : ℕ) (k : TokenKind)
    → meets (holds source) (kind k) (slice_get read a) ≡ true → Met source read a k
met source read a k e = found (slice_get read a) refl e
  where
    found : (o : Option Token) → slice_get read a ≡ o → meets (holds source) (kind k) o ≡ true
        → Met source read a k
    found None p h = absurd cc
    found (Some x) p h = record { token = x; there = p; kind_is = h }

module _ {k : TokenKind} {bytes : List ℕ} {A B : Printer} (n : is_no_else k ≡ true)
    (p : Put k bytes A B) where
  -- the printed token is no `else`
  pub put_front : (text : List ℕ) (s : List Token) → Extends B text s
      → is_else (slice_get s (count A)) ≡ false
  put_front text s x = ap is_else (put_there p text s x) ∙ not-true _ (and_parts _ _ n).1

  pub put_meets : (text : List ℕ) (s : List Token) → Extends B text s
      → meets (holds text) (kind k) (slice_get s (count A)) ≡ true
  put_meets text s x = ap (meets (holds text) (kind k)) (put_there p text s x)
      ∙ (and_parts _ _ n).0

  pub put_inside : (text : List ℕ) (s : List Token) → Extends B text s → count A < length s
  put_inside text s x = slice_get_within s (count A) (next_token A k bytes)
      (put_there p text s x)

-- turns of which there is one are one, and then others
pub one_and_others : {P N : Type 0} (X : Plan P N) (text : List ℕ) (s : List Token) {g : Rule P}
    {d a b : ℕ} {t : Shape} {n : N} {ns : List N}
    → Tree (language (plain_production X) text) s (length s) (rep g) d a b t
    → Tells X.plain (nodes (n ∷ ns)) t
    → Tree (language (plain_production X) text) s (length s) (seq g (rep g)) d a b t
one_and_others X text s (t_rep_in z z') i = t_seq z z'
one_and_others X text s t_rep_out i = elim i [ ]

module _ {P N : Type 0} {X : Plan P N} where
  -- NOTHING

  pub done_as : (e : Next) {A : Printer} → PrintsAs X e e done empty empty A A
  done_as e {A = A} source read d a _ _ l t_done s_empty text s x h = record {
    shape = nothing;
    tree = t_done;
    tells = a_empty;
    spelled = within_none (count A);
    front = h;
  }

  pub skip_as : {g : Rule P} {A : Printer} → PrintsAs X no_else no_else (skip g) empty empty A A
  skip_as {A = A} source read d a b _ l (t_skip y) s_empty text s x h = record {
    shape = nothing;
    tree = t_skip t_done;
    tells = a_empty;
    spelled = within_none (count A);
    front = h;
  }

  -- TOKENS

  module _ {k : TokenKind} {bytes : List ℕ} {A B : Printer} (n : is_no_else k ≡ true)
      (p : Put k bytes A B) where
    pub said_as : (e : Next) {C : Printer} {h : Rule P} {v w : View N} {m f : Next}
        → IsSpelledPlainly k bytes → Grows B C → PrintsAs X e m h v w B C
        → PrintsAs X e f (word (kind k) h) v w A C
    said_as e {C} {h} {v} {w} {m} {f} q g y source read d a b u l (t_word _ i j z) j' text s x c =
        let r = y source read d (suc a) b u l z j' text s x c in
        let xb = g.extends text s x in
        record {
          shape = r.shape;
          tree = t_word (kind k) (put_inside n p text s xb) (put_meets n p text s xb)
              (subst (λ (i : ℕ). Tree (language (plain_production X) text) s (length s) (plainly h)
              d i (count C) r.shape) (sym (put_count p)) r.tree);
          tells = r.tells;
          spelled = within_both (count A) (count B) (count C)
              (subst (λ (i : ℕ). AreSpelledWithin text s (count A) i) (put_count p)
              (within_one (count A) (next_token A k bytes) (put_there p text s xb)
              (subst (λ (bs : List ℕ). IsSpelledPlainly k bs) (sym (put_spelled p text s xb)) q)))
              r.spelled;
          front = no_front f _ _ (put_front n p text s xb);
        }

    -- a token of which a tree keeps something
    pub token_as : (e : Next) {v : Kept} {f : Next} → ((l : TokenKind) → is_same l k ≡ true → l ≡ k)
        → (k ≡ Bad → ⊥)
        → ((old : List ℕ) → kind_of old ≡ Some k → kept_as k old ≡ v
        → IsSpelledPlainly k bytes × (kept_as k bytes ≡ v))
        → PrintsAs X e f (token (kind k)) (kept v) (kept v) A B
    token_as e {v} {f} one good told source read d a _ _ l (t_token _ _ i j z) (s_kept _) text s x
        c =
        let m = met source read a k j in
        let kind_is : m.token.kind ≡ k = one m.token.kind m.kind_is in
        let was : kept_of source m.token ≡ v =
        subst (λ o. KeptOf (language X.production source) o v) m.there z in
        let q = told (spelling source m.token)
        (l a m.token m.there (λ bad. good (sym kind_is ∙ bad)) ∙ ap Some kind_is)
        (ap (λ j. kept_as j (spelling source m.token)) (sym kind_is) ∙ was) in
        let here = put_there p text s x in
        let bytes_are = put_spelled p text s x in
        record {
          shape = leaf v;
          tree = subst (λ (i : ℕ). Tree (language (plain_production X) text) s (length s)
              (token (kind k)) d (count A) i (leaf v)) (put_count p)
              (t_token v (kind k) (put_inside n p text s x) (put_meets n p text s x)
              (subst (λ o. KeptOf (language (plain_production X) text) o v) (sym here)
              (ap (kept_as k) bytes_are ∙ q.1)));
          tells = a_kept v;
          spelled = subst (λ (i : ℕ). AreSpelledWithin text s (count A) i) (put_count p)
              (within_one (count A) (next_token A k bytes) here
              (subst (λ (bs : List ℕ). IsSpelledPlainly k bs) (sym bytes_are) q.0));
          front = no_front f _ _ (put_front n p text s x);
        }

  -- PARTS

  pub here_as : (e : Next) {g : Rule P} {v w : View N} {p : ℕ} {f : Next} {A B : Printer}
      → PrintsAs X e f g v w A B → PrintsAs X e f (here g) (at p v) (at p w) A B
  here_as e {p = p} {A = A} y source read d a b _ l (t_here z) (s_at _ j) text s x c =
      let r = y source read d a b _ l z j text s x c in
      record {
        shape = placed (count A) r.shape;
        tree = t_here r.tree;
        tells = a_at p (count A) r.tells;
        spelled = r.spelled;
        front = r.front;
      }

  pub seq_as : (e : Next) {g h : Rule P} {v w v' w' : View N} {m f : Next} {A B C : Printer}
      → Grows B C → PrintsAs X m f g v w A B → PrintsAs X e m h v' w' B C
      → PrintsAs X e f (seq g h) (pair v v') (pair w w') A C
  seq_as e {A = A} {B} {C} g y y' source read d a b _ l (t_seq {b = i} z z') (s_pair j j') text s x
      c =
      let r = y' source read d i b _ l z' j' text s x c in
      let q = y source read d a i _ l z j text s (g.extends text s x) r.front in
      record {
        shape = both q.shape r.shape;
        tree = t_seq q.tree r.tree;
        tells = a_pair q.tells r.tells;
        spelled = within_both (count A) (count B) (count C) q.spelled r.spelled;
        front = q.front;
      }

  module _ (e : Next) {g : Rule P} {v w : View N} {f : Next} {A B : Printer}
      (y : PrintsAs X e f g v w A B) where
    pub left_as : {h : Rule P} → PrintsAs X e f (alt g h) (first v) (first w) A B
    left_as source read d a b _ l (t_left z) (s_first j) text s x c =
        let r = y source read d a b _ l z j text s x c in
        record {
          shape = left r.shape;
          tree = t_left r.tree;
          tells = a_first r.tells;
          spelled = r.spelled;
          front = r.front;
        }
    left_as source read d a b _ l (t_right z) j text s x c = elim j [ ]

    pub right_as : {h : Rule P} → PrintsAs X e f (alt h g) (second v) (second w) A B
    right_as source read d a b _ l (t_right z) (s_second j) text s x c =
        let r = y source read d a b _ l z j text s x c in
        record {
          shape = right r.shape;
          tree = t_right r.tree;
          tells = a_second r.tells;
          spelled = r.spelled;
          front = r.front;
        }
    right_as source read d a b _ l (t_left z) j text s x c = elim j [ ]

    pub opt_in_as : PrintsAs X e f (opt g) (given v) (given w) A B
    opt_in_as source read d a b _ l (t_opt_in z) (s_given j) text s x c =
        let r = y source read d a b _ l z j text s x c in
        record {
          shape = some r.shape;
          tree = t_opt_in r.tree;
          tells = a_given r.tells;
          spelled = r.spelled;
          front = r.front;
        }
    opt_in_as source read d a b _ l t_opt_out j text s x c = elim j [ ]

    pub deeper_as : PrintsAs X e f (deeper g) v w A B
    deeper_as source read _ a b u l (t_deeper {d = d} z) j text s x c =
        let r = y source read d a b u l z j text s x c in
        record {
          shape = r.shape;
          tree = t_deeper r.tree;
          tells = r.tells;
          spelled = r.spelled;
          front = r.front;
        }

  pub opt_out_as : (e : Next) {g : Rule P} {A : Printer} → PrintsAs X e e (opt g) empty empty A A
  opt_out_as e {A = A} source read d a _ _ l t_opt_out s_empty text s x c = record {
    shape = nothing;
    tree = t_opt_out;
    tells = a_empty;
    spelled = within_none (count A);
    front = c;
  }
  opt_out_as e source read d a b _ l (t_opt_in z) j text s x c = elim j [ ]

  pub rule_as : (e : Next) {p : P} {v w : View N} {f : Next} {A B : Printer}
      → PrintsAs X e f (X.production p) v w A B → PrintsAs X e f (rule p) v w A B
  rule_as e y source read d a b u l (t_rule z) j text s x c =
      let r = y source read d a b u l z j text s x c in
      record {
        shape = r.shape;
        tree = t_rule r.tree;
        tells = r.tells;
        spelled = r.spelled;
        front = r.front;
      }

  pub node_as : (e : Next) {g : Rule P} {n : N} {f : Next} {A B : Printer}
      → PrintsAs X e f g (X.layer n) (X.plain n) A B → PrintsAs X e f g (node n) (node n) A B
  node_as e y source read d a b u l z (s_node j) text s x c =
      let r = y source read d a b u l z j text s x c in
      record {
        shape = r.shape;
        tree = r.tree;
        tells = a_node r.tells;
        spelled = r.spelled;
        front = r.front;
      }

  -- REPETITIONS

  pub rep_out_as : (e : Next) {g : Rule P} {A : Printer}
      → PrintsAs X e e (rep g) (nodes []) (nodes []) A A
  rep_out_as e {A = A} source read d a _ _ l t_rep_out s_none text s x c = record {
    shape = nothing;
    tree = t_rep_out;
    tells = a_none;
    spelled = within_none (count A);
    front = c;
  }
  rep_out_as e source read d a b _ l (t_rep_in z z') j text s x c = elim j [ ]

  module _ (e : Next) {g : Rule P} {n : N} {ns : List N} {m f : Next} {A B C : Printer}
      (k : Grows B C) (y : PrintsAs X m f g (node n) (node n) A B) where
    pub rep_in_as : PrintsAs X e m (rep g) (nodes ns) (nodes ns) B C
        → PrintsAs X e f (rep g) (nodes (n ∷ ns)) (nodes (n ∷ ns)) A C
    rep_in_as y' source read d a b _ l (t_rep_in {b = i} z z') (s_more j j') text s x c =
        let r = y' source read d i b _ l z' j' text s x c in
        let q = y source read d a i _ l z j text s (k.extends text s x) r.front in
        record {
          shape = both q.shape r.shape;
          tree = t_rep_in q.tree r.tree;
          tells = a_more q.tells r.tells;
          spelled = within_both (count A) (count B) (count C) q.spelled r.spelled;
          front = q.front;
        }
    rep_in_as y' source read d a _ _ l t_rep_out j text s x c = elim j [ ]

    -- one, and then the others
    pub several_as : {h : Rule P} → PrintsAs X e m h (nodes ns) (nodes ns) B C
        → PrintsAs X e f (seq g h) (nodes (n ∷ ns)) (nodes (n ∷ ns)) A C
    several_as y' source read d a b _ l (t_seq {b = i} z z') (s_more j j') text s x c =
        let r = y' source read d i b _ l z' j' text s x c in
        let q = y source read d a i _ l z j text s (k.extends text s x) r.front in
        record {
          shape = both q.shape r.shape;
          tree = t_seq q.tree r.tree;
          tells = a_more q.tells r.tells;
          spelled = within_both (count A) (count B) (count C) q.spelled r.spelled;
          front = q.front;
        }

  pub ended_out_as : {k : Test} {g : Rule P} {A : Printer}
      → PrintsAs X no_else no_else (ended k g) (nodes []) (nodes []) A A
  ended_out_as {A = A} source read d a _ _ l t_ended_out s_none text s x c = record {
    shape = nothing;
    tree = t_rep_out;
    tells = a_none;
    spelled = within_none (count A);
    front = c;
  }
  ended_out_as {A = A} source read d a _ _ l (t_ended_last _ i j) s_none text s x c = record {
    shape = nothing;
    tree = t_rep_out;
    tells = a_none;
    spelled = within_none (count A);
    front = c;
  }
  ended_out_as source read d a b _ l (t_ended_in _ i j z z') j' text s x c = elim j' [ ]

  pub ended_in_as : {k : Test} {g : Rule P} {n : N} {ns : List N} {A B C : Printer} → Grows B C
      → PrintsAs X no_else no_else (word k g) (node n) (node n) A B
      → PrintsAs X no_else no_else (ended k g) (nodes ns) (nodes ns) B C
      → PrintsAs X no_else no_else (ended k g) (nodes (n ∷ ns)) (nodes (n ∷ ns)) A C
  ended_in_as {k = k} {A = A} {B} {C} o y y' source read d a b _ l (t_ended_in {b = i} _ h h' z z')
      (s_more j j') text s x c =
      let r = y' source read d i b _ l z' j' text s x c in
      let q = y source read d a i _ l (t_word k h h' z) j text s (o.extends text s x) r.front in
      record {
        shape = both q.shape r.shape;
        tree = t_rep_in q.tree r.tree;
        tells = a_more q.tells r.tells;
        spelled = within_both (count A) (count B) (count C) q.spelled r.spelled;
        front = q.front;
      }
  ended_in_as o y y' source read d a _ _ l t_ended_out j text s x c = elim j [ ]
  ended_in_as o y y' source read d a _ _ l (t_ended_last _ h h') j text s x c = elim j [ ]

  -- WHAT BELONGS TO THE NEAREST

  pub else_out_same : {g : Rule P} {A : Printer}
      → PrintsAs X same_else same_else (nearest else_word g) empty empty A A
  else_out_same {A = A} source read d a _ _ l (t_nearest_out z) s_empty text s x c = record {
    shape = nothing;
    tree = t_nearest_out (λ i e. let f = c (sym (meets_else text (slice_get s (count A))) ∙ e) in
        z (else_inside read a f) (meets_else source (slice_get read a) ∙ f));
    tells = a_empty;
    spelled = within_none (count A);
    front = c;
  }
  else_out_same source read d a b _ l (t_nearest_in _ i e z) j text s x c = elim j [ ]

  pub else_out_without : {g : Rule P} {A : Printer}
      → PrintsAs X no_else same_else (nearest else_word g) empty empty A A
  else_out_without {A = A} source read d a _ _ l (t_nearest_out z) s_empty text s x c = record {
    shape = nothing;
    tree = t_nearest_out (λ i e. both_ways _ c (sym (meets_else text (slice_get s (count A))) ∙ e));
    tells = a_empty;
    spelled = within_none (count A);
    front = λ h. absurd (both_ways _ c h);
  }
  else_out_without source read d a b _ l (t_nearest_in _ i e z) j text s x c = elim j [ ]

  pub else_in_as : (e : Next) {g : Rule P} {v w : View N} {bytes : List ℕ} {m : Next}
      {A B C : Printer} → Put (Reserved Else) bytes A B
      → IsSpelledPlainly (Reserved Else) bytes → Grows B C → PrintsAs X e m g v w B C
      → PrintsAs X e same_else (nearest else_word g) (given v) (given w) A C
  else_in_as e {g = g} {bytes = bytes} {A = A} {B} {C} p q k y source read d a b _ l
      (t_nearest_in _ i i' z) (s_given j) text s x c =
      let r = y source read d (suc a) b _ l z j text s x c in
      let xb = k.extends text s x in
      let there = put_there p text s xb in
      record {
        shape = some r.shape;
        tree = t_nearest_in else_word (slice_get_within s (count A)
            (next_token A (Reserved Else) bytes) there)
            (ap (meets (holds text) else_word) there)
            (subst (λ (i : ℕ). Tree (language (plain_production X) text) s (length s) (plainly g)
            d i (count C) r.shape) (sym (put_count p)) r.tree);
        tells = a_given r.tells;
        spelled = within_both (count A) (count B) (count C)
            (subst (λ (i : ℕ). AreSpelledWithin text s (count A) i) (put_count p)
            (within_one (count A) (next_token A (Reserved Else) bytes) there
            (subst (λ (bs : List ℕ). IsSpelledPlainly (Reserved Else) bs)
            (sym (put_spelled p text s xb)) q))) r.spelled;
        front = λ h. sym (meets_else source (slice_get read a)) ∙ i';
      }
  else_in_as e p q k y source read d a _ _ l (t_nearest_out z) j text s x c = elim j [ ]

  -- what has no tree that the view shows
  pub never_as : (e : Next) {g : Rule P} {v w : View N} {f : Next} {A B : Printer}
      → ((source : List ℕ) (read : List Token) (d a b : ℕ) (u : Shape)
      → Tree (language X.production source) read (length read) g d a b u → Shows X.layer v u → ⊥)
      → PrintsAs X e f g v w A B
  never_as e n source read d a b u l z j text s x c = absurd (n source read d a b u z j)

  -- what begins with no `else` begins with any token that is asked
  pub weaker : (e : Next) {g : Rule P} {v w : View N} {A B : Printer}
      → PrintsAs X e no_else g v w A B → PrintsAs X e same_else g v w A B
  weaker e y source read d a b u l z j text s x c =
      let r = y source read d a b u l z j text s x c in
      record {
        shape = r.shape;
        tree = r.tree;
        tells = r.tells;
        spelled = r.spelled;
        front = λ h. absurd (both_ways _ r.front h);
      }

  -- what is printed of parts one after the other, where there must be one
  pub as_several : (e : Next) {g : Rule P} {ns : List N} {f : Next} {A B : Printer}
      → PrintsAs X e f (rep g) (nodes ns) (nodes ns) A B
      → PrintsAs X e f (seq g (rep g)) (nodes ns) (nodes ns) A B
  as_several e y source read d a b _ l (t_seq z z') (s_more j j') text s x c =
      let r = y source read d a b _ l (t_rep_in z z') (s_more j j') text s x c in
      record {
        shape = r.shape;
        tree = one_and_others X text s r.tree r.tells;
        tells = r.tells;
        spelled = r.spelled;
        front = r.front;
      }
