-- Grammars of plain texts: what need not be written is left out.
use Rattle.text_reader.specs.Grammar.{Grammar, done, none, word, token, here, skip, seq, alt}
use Rattle.text_reader.specs.Grammar.{opt, rep, nearest, ended, deeper, rule}

-- g without what a tree keeps nothing of, and without the mark that may stand at the end of a list
abbrev pub plainly : {T P : Type 0} → Grammar T P → Grammar T P
plainly done = done
plainly none = none
plainly (word k g) = word k (plainly g)
plainly (token k) = token k
plainly (here g) = here (plainly g)
plainly (skip g) = skip done
plainly (seq g h) = seq (plainly g) (plainly h)
plainly (alt g h) = alt (plainly g) (plainly h)
plainly (opt g) = opt (plainly g)
plainly (rep g) = rep (plainly g)
plainly (nearest k g) = nearest k (plainly g)
plainly (ended k g) = rep (word k (plainly g))
plainly (deeper g) = deeper (plainly g)
plainly (rule p) = rule p
