-- No token of a specification goes on into the next.
use Rattle.std.proofs.Common.{◌≡◌, ℕ, suc, ◌<◌, Bool, true, false, List, length, refl, arith, Some}
use Rattle.std.proofs.Common.{slice_get}
use Rattle.std.proofs.lemmas.Option.{slice_get_within}
use Rattle.est_lexer.specs.declared.kind.Token.{Token}
use Rattle.text_reader.specs.Grammar.{rule, t_rule}
use Rattle.text_reader.specs.Sentences.{HasTree}
use Rattle.text_reader.specs.Tests.{language}
use Rattle.text_reader.specs.Going.{Shape}
use Rattle.text_productions.specs.Productions as grammar
use Rattle.text_productions.specs.Productions.{Production}
use Rattle.text_printer.specs.PlainNodes.{estelle}
use Rattle.text_printer.specs.Printing.{plain_production}
use Rattle.text_printer.proofs.Joined.{runs_on}
use Rattle.est_print.proofs.Apart.{takes, begins_well, clean, has_some, side_within}

-- whether each tree by a production has a token
abbrev some : Production → Bool
some grammar.statement = false
some p = true

-- whether no token before a tree by a production goes on into the first of the tree
abbrev well : Production → Bool
well grammar.selector = false
well p = true

-- whether no token of a tree by a production goes on into the next, also after the tree
abbrev tidy : Production → Bool
tidy grammar.specification = false
tidy p = true

is_some : (p : Production) → some p ≡ true
    → takes well some tidy (plain_production estelle p) ≡ true
is_some grammar.specification h = refl
is_some grammar.common h = refl
is_some grammar.own h = refl
is_some grammar.consts h = refl
is_some grammar.constdef h = refl
is_some grammar.constant h = refl
is_some grammar.types h = refl
is_some grammar.typedef h = refl
is_some grammar.typetext h = refl
is_some grammar.shorttype h = refl
is_some grammar.arraytype h = refl
is_some grammar.recordtype h = refl
is_some grammar.settype h = refl
is_some grammar.vars h = refl
is_some grammar.vardef h = refl
is_some grammar.channel h = refl
is_some grammar.by_part h = refl
is_some grammar.interaction h = refl
is_some grammar.param h = refl
is_some grammar.header h = refl
is_some grammar.point h = refl
is_some grammar.dims h = refl
is_some grammar.queue h = refl
is_some grammar.export h = refl
is_some grammar.modvar h = refl
is_some grammar.stateset h = refl
is_some grammar.body h = refl
is_some grammar.routine h = refl
is_some grammar.formal h = refl
is_some grammar.block h = refl
is_some grammar.transpart h = refl
is_some grammar.transition h = refl
is_some grammar.clause h = refl
is_some grammar.access h = refl
is_some grammar.statement h = absurd cc
is_some grammar.arm h = refl
is_some grammar.sending h = refl
is_some grammar.init h = refl
is_some grammar.end_point h = refl
is_some grammar.expr h = refl
is_some grammar.simple h = refl
is_some grammar.term h = refl
is_some grammar.factor h = refl
is_some grammar.selector h = refl
is_some grammar.member h = refl

is_well : (p : Production) → well p ≡ true
    → begins_well well some tidy (plain_production estelle p) ≡ true
is_well grammar.specification h = refl
is_well grammar.common h = refl
is_well grammar.own h = refl
is_well grammar.consts h = refl
is_well grammar.constdef h = refl
is_well grammar.constant h = refl
is_well grammar.types h = refl
is_well grammar.typedef h = refl
is_well grammar.typetext h = refl
is_well grammar.shorttype h = refl
is_well grammar.arraytype h = refl
is_well grammar.recordtype h = refl
is_well grammar.settype h = refl
is_well grammar.vars h = refl
is_well grammar.vardef h = refl
is_well grammar.channel h = refl
is_well grammar.by_part h = refl
is_well grammar.interaction h = refl
is_well grammar.param h = refl
is_well grammar.header h = refl
is_well grammar.point h = refl
is_well grammar.dims h = refl
is_well grammar.queue h = refl
is_well grammar.export h = refl
is_well grammar.modvar h = refl
is_well grammar.stateset h = refl
is_well grammar.body h = refl
is_well grammar.routine h = refl
is_well grammar.formal h = refl
is_well grammar.block h = refl
is_well grammar.transpart h = refl
is_well grammar.transition h = refl
is_well grammar.clause h = refl
is_well grammar.access h = refl
is_well grammar.statement h = refl
is_well grammar.arm h = refl
is_well grammar.sending h = refl
is_well grammar.init h = refl
is_well grammar.end_point h = refl
is_well grammar.expr h = refl
is_well grammar.simple h = refl
is_well grammar.term h = refl
is_well grammar.factor h = refl
is_well grammar.selector h = absurd cc
is_well grammar.member h = refl

is_tidy : (p : Production) → tidy p ≡ true
    → clean well some tidy (plain_production estelle p) ≡ true
is_tidy grammar.specification h = absurd cc
is_tidy grammar.common h = refl
is_tidy grammar.own h = refl
is_tidy grammar.consts h = refl
is_tidy grammar.constdef h = refl
is_tidy grammar.constant h = refl
is_tidy grammar.types h = refl
is_tidy grammar.typedef h = refl
is_tidy grammar.typetext h = refl
is_tidy grammar.shorttype h = refl
is_tidy grammar.arraytype h = refl
is_tidy grammar.recordtype h = refl
is_tidy grammar.settype h = refl
is_tidy grammar.vars h = refl
is_tidy grammar.vardef h = refl
is_tidy grammar.channel h = refl
is_tidy grammar.by_part h = refl
is_tidy grammar.interaction h = refl
is_tidy grammar.param h = refl
is_tidy grammar.header h = refl
is_tidy grammar.point h = refl
is_tidy grammar.dims h = refl
is_tidy grammar.queue h = refl
is_tidy grammar.export h = refl
is_tidy grammar.modvar h = refl
is_tidy grammar.stateset h = refl
is_tidy grammar.body h = refl
is_tidy grammar.routine h = refl
is_tidy grammar.formal h = refl
is_tidy grammar.block h = refl
is_tidy grammar.transpart h = refl
is_tidy grammar.transition h = refl
is_tidy grammar.clause h = refl
is_tidy grammar.access h = refl
is_tidy grammar.statement h = refl
is_tidy grammar.arm h = refl
is_tidy grammar.sending h = refl
is_tidy grammar.init h = refl
is_tidy grammar.end_point h = refl
is_tidy grammar.expr h = refl
is_tidy grammar.simple h = refl
is_tidy grammar.term h = refl
is_tidy grammar.factor h = refl
is_tidy grammar.selector h = refl
is_tidy grammar.member h = refl

module _ (text : List ℕ) (tokens : List Token) {d : ℕ} {t : Shape}
    (x : HasTree (language (plain_production estelle) text) (rule grammar.specification) d tokens t)
  where
    -- a specification has tokens
    pub some_tokens : 0 < length tokens
    some_tokens = has_some well some tidy (plain_production estelle) text tokens (length tokens)
        is_some is_well is_tidy x refl

    pub tokens_apart : (i : ℕ) (y z : Token) → slice_get tokens i ≡ Some y
        → slice_get tokens (suc i) ≡ Some z → runs_on y.kind z.kind ≡ false
    tokens_apart i y z e f = by x
      where
        by : {t : Shape} → HasTree (language (plain_production estelle) text)
            (rule grammar.specification) d tokens t → runs_on y.kind z.kind ≡ false
        by (t_rule w) = side_within well some tidy (plain_production estelle) text tokens
            (length tokens) is_some is_well is_tidy
            (plain_production estelle grammar.specification) refl w i y z (omega arith)
            (slice_get_within tokens (suc i) z f) e f
