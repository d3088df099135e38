-- When one token decides each choice of a grammar.
use Rattle.std.specs.Prelude.{◌≡◌, false, [], ◌∷◌}
use Rattle.text_reader.specs.Grammar.{Grammar, done, none, word, token, here, skip, seq}
use Rattle.text_reader.specs.Grammar.{alt, opt, rep, nearest, ended, deeper, rule, Language}
use Rattle.text_reader.specs.Marks.{Apart, Marks, can_be_empty, can_begin, can_go_on}

-- The next token alone tells which alternative stands at a place, and whether a part goes on there
-- or what stands after it begins. Of the productions that g names only the table is read.
abbrev pub OneTokenDecides : {Token V T P : Type 0} → Language Token V T P → Marks T P → Grammar T P
    → Type 0
OneTokenDecides L S done = Unit {0}
OneTokenDecides L S none = Unit {0}
OneTokenDecides L S (word k g) = OneTokenDecides L S g
OneTokenDecides L S (token k) = Unit {0}
OneTokenDecides L S (here g) = OneTokenDecides L S g
OneTokenDecides L S (skip g) = OneTokenDecides L S g
OneTokenDecides L S (seq g h) =
    OneTokenDecides L S g × OneTokenDecides L S h × Apart L (can_go_on S g) (can_begin S h)
OneTokenDecides L S (alt g h) = OneTokenDecides L S g × OneTokenDecides L S h
    × Apart L (can_begin S g) (can_begin S h) × (can_be_empty S g ≡ false)
    × (can_be_empty S h ≡ false)
OneTokenDecides L S (opt g) = OneTokenDecides L S g × (can_be_empty S g ≡ false)
OneTokenDecides L S (rep g) =
    OneTokenDecides L S g × (can_be_empty S g ≡ false) × Apart L (can_go_on S g) (can_begin S g)
-- k always belongs to the nearest that can take it
OneTokenDecides L S (nearest k g) = OneTokenDecides L S g
OneTokenDecides L S (ended k g) =
    OneTokenDecides L S g × (can_be_empty S g ≡ false) × Apart L (can_go_on S g) (k ∷ [])
OneTokenDecides L S (deeper g) = OneTokenDecides L S g
OneTokenDecides L S (rule p) = Unit {0}
