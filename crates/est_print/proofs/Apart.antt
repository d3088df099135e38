-- Tokens that stand side by side in a tree, of which the first would not go on into the next.
use Rattle.std.proofs.Common.{◌≡◌, ℕ, suc, ◌<◌, ◌≤◌, Bool, true, false, not, ◌||◌, ◌&&◌, inl, inr}
use Rattle.std.proofs.Common.{List, refl, sym, ◌∙◌, ap, subst, arith, Option, Some, slice_get}
use Rattle.std.proofs.lemmas.Bool.{and_parts, cases_lt, not-true}
use Rattle.est_lexer.specs.declared.kind.Token.{Token}
use Rattle.est_lexer.specs.declared.kind.TokenKind.{TokenKind}
use Rattle.est_lexer.specs.declared.kind.TokenKind.TheVariants.{Identifier, Number, Character}
use Rattle.est_lexer.specs.declared.kind.TokenKind.TheVariants.{Reserved, Symbol, LeftOut, Bad}
use Rattle.est_lexer.specs.declared.kind.Symbol.TheVariants as sign
use Rattle.est_lexer.specs.TokenKinds.{is_same}
use Rattle.est_lexer.proofs.SameKinds.{is_same-apart}
use Rattle.text_reader.specs.Grammar.{Shape, done, none, word, token, here, skip, seq, alt, opt}
use Rattle.text_reader.specs.Grammar.{rep, nearest, ended, deeper, rule, meets, Tree, t_done}
use Rattle.text_reader.specs.Grammar.{t_word, t_token, t_here, t_skip, t_seq, t_left, t_right}
use Rattle.text_reader.specs.Grammar.{t_opt_out, t_opt_in, t_rep_out, t_rep_in, t_nearest_out}
use Rattle.text_reader.specs.Grammar.{t_nearest_in, t_ended_out, t_ended_last, t_ended_in, t_deeper}
use Rattle.text_reader.specs.Grammar.{t_rule}
use Rattle.text_reader.proofs.Trees.{step, tree_forward}
use Rattle.text_reader.specs.Tests.{Test, kind, Kept, holds, language}
use Rattle.text_reader.specs.Going.{Rule}
use Rattle.text_printer.proofs.Joined.{is_period, is_star, runs_on}

-- KINDS

-- whether a token of this kind may go on into a next one
abbrev pub leads : TokenKind → Bool
leads k = is_period k || is_same k (Symbol sign.LeftParenthesis)

-- whether one before it may go on into it
abbrev pub follows : TokenKind → Bool
follows k = is_period k || is_star k

or_false : (a b : Bool) → a || b ≡ false → (a ≡ false) × (b ≡ false)
or_false true b h = absurd cc
or_false false b h = (refl, h)

no_follow : (k l : TokenKind) → follows l ≡ false → runs_on k l ≡ false
no_follow Identifier l h = refl
no_follow Number l h = refl
no_follow Character l h = refl
no_follow (Reserved w) l h = refl
no_follow (LeftOut left) l h = refl
no_follow Bad l h = refl
no_follow (Symbol sign.Plus) l h = refl
no_follow (Symbol sign.Minus) l h = refl
no_follow (Symbol sign.Star) l h = refl
no_follow (Symbol sign.Equal) l h = refl
no_follow (Symbol sign.Unequal) l h = refl
no_follow (Symbol sign.Below) l h = refl
no_follow (Symbol sign.AtMost) l h = refl
no_follow (Symbol sign.Above) l h = refl
no_follow (Symbol sign.AtLeast) l h = refl
no_follow (Symbol sign.LeftParenthesis) l h = (or_false _ _ h).1
no_follow (Symbol sign.RightParenthesis) l h = refl
no_follow (Symbol sign.LeftBracket) l h = refl
no_follow (Symbol sign.RightBracket) l h = refl
no_follow (Symbol sign.Comma) l h = refl
no_follow (Symbol sign.Semicolon) l h = refl
no_follow (Symbol sign.Colon) l h = refl
no_follow (Symbol sign.Assign) l h = refl
no_follow (Symbol sign.Period) l h = (or_false _ _ h).0
no_follow (Symbol sign.DoublePeriod) l h = (or_false _ _ h).0
no_follow (Symbol sign.Underscore) l h = refl
no_follow (Symbol sign.QuestionMark) l h = refl

no_lead : (k l : TokenKind) → leads k ≡ false → runs_on k l ≡ false
no_lead Identifier l h = refl
no_lead Number l h = refl
no_lead Character l h = refl
no_lead (Reserved w) l h = refl
no_lead (LeftOut left) l h = refl
no_lead Bad l h = refl
no_lead (Symbol sign.Plus) l h = refl
no_lead (Symbol sign.Minus) l h = refl
no_lead (Symbol sign.Star) l h = refl
no_lead (Symbol sign.Equal) l h = refl
no_lead (Symbol sign.Unequal) l h = refl
no_lead (Symbol sign.Below) l h = refl
no_lead (Symbol sign.AtMost) l h = refl
no_lead (Symbol sign.Above) l h = refl
no_lead (Symbol sign.AtLeast) l h = refl
no_lead (Symbol sign.LeftParenthesis) l h = absurd cc
no_lead (Symbol sign.RightParenthesis) l h = refl
no_lead (Symbol sign.LeftBracket) l h = refl
no_lead (Symbol sign.RightBracket) l h = refl
no_lead (Symbol sign.Comma) l h = refl
no_lead (Symbol sign.Semicolon) l h = refl
no_lead (Symbol sign.Colon) l h = refl
no_lead (Symbol sign.Assign) l h = refl
no_lead (Symbol sign.Period) l h = absurd cc
no_lead (Symbol sign.DoublePeriod) l h = absurd cc
no_lead (Symbol sign.Underscore) l h = refl
no_lead (Symbol sign.QuestionMark) l h = refl

-- what is of one kind is not of another
apart_from : (x k l : TokenKind) → is_same x k ≡ true → is_same k l ≡ false → is_same x l ≡ false
apart_from x k l h e = by (is_same x l) refl
  where
    by : (b : Bool) → is_same x l ≡ b → b ≡ false
    by false f = refl
    by true f = absurd (is_same-apart k l x (ap not e) h f)

same_period : (x k : TokenKind) → is_same x k ≡ true → is_period k ≡ false → is_period x ≡ false
same_period x k h e =
    let p = or_false _ _ e in
    rw (apart_from x k (Symbol sign.Period) h p.0, apart_from x k (Symbol sign.DoublePeriod) h p.1)
    refl

same_lead : (x k : TokenKind) → is_same x k ≡ true → leads k ≡ false → leads x ≡ false
same_lead x k h e =
    let p = or_false _ _ e in
    rw (same_period x k h p.0, apart_from x k (Symbol sign.LeftParenthesis) h p.1) refl

same_follow : (x k : TokenKind) → is_same x k ≡ true → follows k ≡ false → follows x ≡ false
same_follow x k h e =
    let p = or_false _ _ e in
    rw (same_period x k h p.0, apart_from x k (Symbol sign.Star) h p.1) refl

-- TESTS

abbrev leads_test : Test → Bool
leads_test (kind k) = leads k
leads_test _ = true

abbrev follows_test : Test → Bool
follows_test (kind k) = follows k
follows_test _ = true

met_leads : (text : List ℕ) (k : Test) (o : Option Token) (x : Token) → o ≡ Some x
    → meets (holds text) k o ≡ true → leads_test k ≡ false → leads x.kind ≡ false
met_leads text (kind k) o x e h f =
    same_lead x.kind k (sym (ap (meets (holds text) (kind k)) e) ∙ h) f
met_leads text k o x e h f = absurd cc

met_follows : (text : List ℕ) (k : Test) (o : Option Token) (x : Token) → o ≡ Some x
    → meets (holds text) k o ≡ true → follows_test k ≡ false → follows x.kind ≡ false
met_follows text (kind k) o x e h f =
    same_follow x.kind k (sym (ap (meets (holds text) (kind k)) e) ∙ h) f
met_follows text k o x e h f = absurd cc

-- GRAMMARS

module _ {P : Type 0} (well some tidy : P → Bool) where
  -- each tree by it has a token
  abbrev pub takes : Rule P → Bool
  takes done = false
  takes none = true
  takes (word k g) = true
  takes (token k) = true
  takes (here g) = takes g
  takes (skip g) = takes g
  takes (seq g h) = takes g || takes h
  takes (alt g h) = takes g && takes h
  takes (opt g) = false
  takes (rep g) = false
  takes (nearest k g) = false
  takes (ended k g) = false
  takes (deeper g) = takes g
  takes (rule p) = some p

  -- no token before a tree by it goes on into the first of the tree
  abbrev pub begins_well : Rule P → Bool
  begins_well done = true
  begins_well none = true
  begins_well (word k g) = not (follows_test k)
  begins_well (token k) = not (follows_test k)
  begins_well (here g) = begins_well g
  begins_well (skip g) = begins_well g
  begins_well (seq g h) = begins_well g && (takes g || begins_well h)
  begins_well (alt g h) = begins_well g && begins_well h
  begins_well (opt g) = begins_well g
  begins_well (rep g) = begins_well g
  begins_well (nearest k g) = not (follows_test k)
  begins_well (ended k g) = not (follows_test k)
  begins_well (deeper g) = begins_well g
  begins_well (rule p) = well p

  -- a token of this test before a tree by g
  abbrev parts_well : Test → Rule P → Bool
  parts_well k g = not (leads_test k) || (takes g && begins_well g)

  -- no token of a tree by it goes on into the next, which may stand after the tree
  abbrev pub clean : Rule P → Bool
  clean done = true
  clean none = true
  clean (word k g) = clean g && parts_well k g
  clean (token k) = not (leads_test k)
  clean (here g) = clean g
  clean (skip g) = clean g
  clean (seq g h) = clean g && clean h
  clean (alt g h) = clean g && clean h
  clean (opt g) = clean g
  clean (rep g) = clean g
  clean (nearest k g) = clean g && parts_well k g
  clean (ended k g) = false
  clean (deeper g) = clean g
  clean (rule p) = tidy p

  -- no token of a tree by it goes on into the next of the tree
  abbrev pub clean_within : Rule P → Bool
  clean_within done = true
  clean_within (word k done) = true
  clean_within (word k (word j g)) = clean_within (word j g) && parts_well k (word j g)
  clean_within (word k (seq g h)) = clean_within (seq g h) && parts_well k (seq g h)
  clean_within (seq g h) = clean g && clean_within h
  clean_within _ = false

  module _ (production : P → Rule P) (text : List ℕ) (s : List Token) (n : ℕ)
      (is_some : (p : P) → some p ≡ true → takes (production p) ≡ true)
      (is_well : (p : P) → well p ≡ true → begins_well (production p) ≡ true)
      (is_tidy : (p : P) → tidy p ≡ true → clean (production p) ≡ true) where
    abbrev pub By : Rule P → ℕ → ℕ → ℕ → Shape Kept → Type 0
    By g d a b t = Tree (language production text) s n g d a b t

    onward : {g : Rule P} {d a b : ℕ} {t : Shape Kept} → By g d a b t → a ≤ b
    onward x = tree_forward (language production text) s n x

    seq_some : (g h : Rule P) {d a b c : ℕ} {t u : Shape Kept} → By g d a b t → By h d b c u
        → (takes g ≡ true → a < b) → (takes h ≡ true → b < c) → (v : Bool) → takes g ≡ v
        → v || takes h ≡ true → a < c
    seq_some g h x y p q true e f = omega (arith, p e, onward y)
    seq_some g h x y p q false e f = omega (arith, onward x, q f)

    -- a tree has a token where each has one
    pub has_some : {g : Rule P} {d a b : ℕ} {t : Shape Kept} → By g d a b t → takes g ≡ true → a < b
    has_some t_done h = absurd cc
    has_some (t_word k i e x) h = omega (arith, onward x)
    has_some (t_token v k i e z) h = omega arith
    has_some (t_here x) h = has_some x h
    has_some (t_skip x) h = has_some x h
    has_some (t_seq {g = g} {h} x y) e =
        seq_some g h x y (λ f. has_some x f) (λ f. has_some y f) (takes g) refl e
    has_some (t_left x) h = has_some x (and_parts _ _ h).0
    has_some (t_right x) h = has_some x (and_parts _ _ h).1
    has_some t_opt_out h = absurd cc
    has_some (t_opt_in x) h = absurd cc
    has_some t_rep_out h = absurd cc
    has_some (t_rep_in x y) h = absurd cc
    has_some (t_nearest_out z) h = absurd cc
    has_some (t_nearest_in k i e x) h = absurd cc
    has_some t_ended_out h = absurd cc
    has_some (t_ended_last k i e) h = absurd cc
    has_some (t_ended_in k i e x y) h = absurd cc
    has_some (t_deeper x) h = has_some x h
    has_some (t_rule {p = p} x) h = has_some x (is_some p h)

    -- the first token of a tree
    abbrev Fine : ℕ → Type 0
    Fine a = (y : Token) → slice_get s a ≡ Some y → follows y.kind ≡ false

    met_fine : (a : ℕ) (k : Test) → not (follows_test k) ≡ true
        → meets (holds text) k (slice_get s a) ≡ true → Fine a
    met_fine a k f e y q = met_follows text k (slice_get s a) y q e (not-true _ f)

    seq_begins : (g h : Rule P) (a b c : ℕ) {d : ℕ} {t : Shape Kept} → By g d a b t
        → (a < b → Fine a) → (begins_well h ≡ true → b < c → Fine b)
        → takes g || begins_well h ≡ true → a < c → Fine a
    seq_begins g h a b c x p q e l = elim (step a b (onward x)) [
      | inl k ↦ p k
      | inr k ↦ later k (takes g) refl e
    ]
      where
        later : b ≡ a → (v : Bool) → takes g ≡ v → v || begins_well h ≡ true → Fine a
        later k true f e = absurd (omega (arith, has_some x f))
        later k false f e = subst Fine k (q e (omega arith))

    rep_begins : (g : Rule P) (a b c : ℕ) {d : ℕ} {t : Shape Kept} → By g d a b t
        → (a < b → Fine a) → (b < c → Fine b) → a < c → Fine a
    rep_begins g a b c x p q l = elim (step a b (onward x)) [
      | inl k ↦ p k
      | inr k ↦ subst Fine k (q (omega arith))
    ]

    begins : {g : Rule P} {d a b : ℕ} {t : Shape Kept} → By g d a b t → begins_well g ≡ true → a < b
        → Fine a
    begins t_done h l = absurd (omega arith)
    begins {a = a} (t_word k i e x) h l = met_fine a k h e
    begins {a = a} (t_token v k i e z) h l = met_fine a k h e
    begins (t_here x) h l = begins x h l
    begins (t_skip x) h l = begins x h l
    begins {a = a} {b = c} (t_seq {g = g} {h} {b = b} x y) e l =
        seq_begins g h a b c x (begins x (and_parts _ _ e).0) (λ f. begins y f)
        (and_parts _ _ e).1 l
    begins (t_left x) h l = begins x (and_parts _ _ h).0 l
    begins (t_right x) h l = begins x (and_parts _ _ h).1 l
    begins t_opt_out h l = absurd (omega arith)
    begins (t_opt_in x) h l = begins x h l
    begins t_rep_out h l = absurd (omega arith)
    begins {a = a} {b = c} (t_rep_in {g = g} {b = b} x y) h l =
        rep_begins g a b c x (begins x h) (begins y h) l
    begins (t_nearest_out z) h l = absurd (omega arith)
    begins {a = a} (t_nearest_in k i e x) h l = met_fine a k h e
    begins t_ended_out h l = absurd (omega arith)
    begins {a = a} (t_ended_last k i e) h l = met_fine a k h e
    begins {a = a} (t_ended_in k i e x y) h l = met_fine a k h e
    begins (t_deeper x) h l = begins x h l
    begins (t_rule {p = p} x) h l = begins x (is_well p h) l

    -- side by side
    abbrev Beside : ℕ → ℕ → Type 0
    Beside a b = (i : ℕ) (x y : Token) → a ≤ i → i < b → slice_get s i ≡ Some x
        → slice_get s (suc i) ≡ Some y → runs_on x.kind y.kind ≡ false

    beside_none : (a : ℕ) → Beside a a
    beside_none a i x y l m e f = absurd (omega arith)

    beside_both : (a b c : ℕ) → Beside a b → Beside b c → Beside a c
    beside_both a b c p q i x y l m e f = elim (cases_lt i b) [
      | inl k ↦ p i x y l k e f
      | inr k ↦ q i x y k m e f
    ]

    -- a token that meets a test, and then a tree
    beside_word : {g : Rule P} {d a b : ℕ} {t : Shape Kept} (k : Test)
        → meets (holds text) k (slice_get s a) ≡ true → parts_well k g ≡ true
        → By g d (suc a) b t → Beside a (suc a)
    beside_word {g} {a = a} {b} k e h z i x y l m p q =
        by (leads_test k) refl h
      where
        at : i ≡ a
        at = omega arith

        here : slice_get s a ≡ Some x
        here = subst (λ j. slice_get s j ≡ Some x) at p

        next : slice_get s (suc a) ≡ Some y
        next = subst (λ j. slice_get s (suc j) ≡ Some y) at q

        by : (v : Bool) → leads_test k ≡ v → not v || (takes g && begins_well g) ≡ true
            → runs_on x.kind y.kind ≡ false
        by false f h = no_lead x.kind y.kind (met_leads text k (slice_get s a) x here e f)
        by true f h =
            let r = and_parts _ _ h in
            no_follow x.kind y.kind (begins z r.1 (has_some z r.0) y next)

    beside_token : (a : ℕ) (k : Test) → not (leads_test k) ≡ true
        → meets (holds text) k (slice_get s a) ≡ true → Beside a (suc a)
    beside_token a k h e i x y l m p q =
        let at : i ≡ a = omega arith in
        let here : slice_get s a ≡ Some x = subst (λ j. slice_get s j ≡ Some x) at p in
        no_lead x.kind y.kind (met_leads text k (slice_get s a) x here e (not-true _ h))

    side : {g : Rule P} {d a b : ℕ} {t : Shape Kept} → By g d a b t → clean g ≡ true → Beside a b
    side {a = a} t_done h = beside_none a
    side {a = a} {b} (t_word {g = g} k i e x) h =
        let p = and_parts _ _ h in
        beside_both a (suc a) b (beside_word {g = g} k e p.1 x) (side x p.0)
    side {a = a} (t_token v k i e z) h = beside_token a k h e
    side (t_here x) h = side x h
    side (t_skip x) h = side x h
    side {a = a} {b = c} (t_seq {b = b} x y) h =
        let p = and_parts _ _ h in
        beside_both a b c (side x p.0) (side y p.1)
    side (t_left x) h = side x (and_parts _ _ h).0
    side (t_right x) h = side x (and_parts _ _ h).1
    side {a = a} t_opt_out h = beside_none a
    side (t_opt_in x) h = side x h
    side {a = a} t_rep_out h = beside_none a
    side {a = a} {b = c} (t_rep_in {b = b} x y) h = beside_both a b c (side x h) (side y h)
    side {a = a} (t_nearest_out z) h = beside_none a
    side {a = a} {b} (t_nearest_in {g = g} k i e x) h =
        let p = and_parts _ _ h in
        beside_both a (suc a) b (beside_word {g = g} k e p.1 x) (side x p.0)
    side t_ended_out h = absurd cc
    side (t_ended_last k i e) h = absurd cc
    side (t_ended_in k i e x y) h = absurd cc
    side (t_deeper x) h = side x h
    side (t_rule {p = p} x) h = side x (is_tidy p h)

    -- side by side, but for the last token
    abbrev pub Within : ℕ → ℕ → Type 0
    Within a b = (i : ℕ) (x y : Token) → a ≤ i → suc i < b → slice_get s i ≡ Some x
        → slice_get s (suc i) ≡ Some y → runs_on x.kind y.kind ≡ false

    within_both : (a b c : ℕ) → Beside a b → Within b c → Within a c
    within_both a b c p q i x y l m e f = elim (cases_lt i b) [
      | inl k ↦ p i x y l k e f
      | inr k ↦ q i x y k m e f
    ]

    -- No token of a tree goes on into the next.
    pub side_within : (g : Rule P) {d a b : ℕ} {t : Shape Kept} → clean_within g ≡ true
        → By g d a b t → Within a b
    side_within done h t_done = λ i x y l m e f. absurd (omega arith)
    side_within (word k done) h (t_word _ i' e' t_done) = λ i x y l m e f. absurd (omega arith)
    side_within (word k (word j g)) {a = a} {b} h (t_word _ i e x) =
        let p = and_parts _ _ h in
        within_both a (suc a) b (beside_word {g = word j g} k e p.1 x)
        (side_within (word j g) p.0 x)
    side_within (word k (seq g g')) {a = a} {b} h (t_word _ i e x) =
        let p = and_parts _ _ h in
        within_both a (suc a) b (beside_word {g = seq g g'} k e p.1 x)
        (side_within (seq g g') p.0 x)
    side_within (seq g g') {a = a} {b = c} h (t_seq {b = b} x y) =
        let p = and_parts _ _ h in
        within_both a b c (side x p.0) (side_within g' p.1 y)
    side_within g h x = absurd cc
