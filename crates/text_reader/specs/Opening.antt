-- Which token opens a level for which none is left.
use Rattle.std.specs.Prelude.{◌≡◌, ℕ, zero, suc, ◌<◌, List}
use Rattle.text_reader.specs.Grammar.{Grammar, word, here, skip, seq, alt, opt, rep, nearest}
use Rattle.text_reader.specs.Grammar.{ended, deeper, rule, Language, Shape, At, Tree, Partial}

module _ {Token V T P : Type 0} (L : Language Token V T P) (s : List Token) (i : ℕ) where
  -- OpensOneMore L s i g d a: the tokens of s from place a up to i have a partial tree by g with d
  -- levels to open, which is within all of them at its end, and token i opens one more there.
  pub data OpensOneMore : Grammar T P → ℕ → ℕ → Type 0 where
    -- it begins a part that opens a level
    o_now : {g : Grammar T P} {a : ℕ} → a ≡ i → Partial L s (suc i) g zero a
        → OpensOneMore (deeper g) zero a
    -- else the parts up to some part have trees, and it opens a level of that part
    o_word : {g : Grammar T P} {d a : ℕ} (k : T) → a < i → At L s a k → OpensOneMore g d (suc a)
        → OpensOneMore (word k g) d a
    o_here : {g : Grammar T P} {d a : ℕ} → OpensOneMore g d a → OpensOneMore (here g) d a
    o_skip : {g : Grammar T P} {d a : ℕ} → OpensOneMore g d a → OpensOneMore (skip g) d a
    o_first : {g h : Grammar T P} {d a : ℕ} → OpensOneMore g d a → OpensOneMore (seq g h) d a
    o_second : {g h : Grammar T P} {d a b : ℕ} {t : Shape V} → Tree L s (suc i) g d a b t
        → OpensOneMore h d b → OpensOneMore (seq g h) d a
    o_left : {g h : Grammar T P} {d a : ℕ} → OpensOneMore g d a → OpensOneMore (alt g h) d a
    o_right : {g h : Grammar T P} {d a : ℕ} → OpensOneMore h d a → OpensOneMore (alt g h) d a
    o_opt : {g : Grammar T P} {d a : ℕ} → OpensOneMore g d a → OpensOneMore (opt g) d a
    o_rep_first : {g : Grammar T P} {d a : ℕ} → OpensOneMore g d a → OpensOneMore (rep g) d a
    o_rep_more : {g : Grammar T P} {d a b : ℕ} {t : Shape V} → Tree L s (suc i) g d a b t
        → OpensOneMore (rep g) d b → OpensOneMore (rep g) d a
    o_nearest : {g : Grammar T P} {d a : ℕ} (k : T) → a < i → At L s a k
        → OpensOneMore g d (suc a) → OpensOneMore (nearest k g) d a
    o_ended_first : {g : Grammar T P} {d a : ℕ} (k : T) → a < i → At L s a k
        → OpensOneMore g d (suc a) → OpensOneMore (ended k g) d a
    o_ended_more : {g : Grammar T P} {d a b : ℕ} {t : Shape V} (k : T) → a < i → At L s a k
        → Tree L s (suc i) g d (suc a) b t → OpensOneMore (ended k g) d b
        → OpensOneMore (ended k g) d a
    o_deeper : {g : Grammar T P} {d a : ℕ} → OpensOneMore g d a → OpensOneMore (deeper g) (suc d) a
    o_rule : {p : P} {d a : ℕ} → OpensOneMore (L.production p) d a → OpensOneMore (rule p) d a
