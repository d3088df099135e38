use Rattle.std.proofs.Common.{refl, ap, sym, ◌∙◌, add-one, option_map}
use Rattle.std.specs.Str.{str_eq_ignore_ascii_case}
use Rattle.est_lexer.specs.Words.{Word}
use Rattle.est_lexer.proofs.Lookups.{find_more, find_here, alike, unlike}
use Rattle.est_lexer.proofs.table.find_word.Goals as goal

pub returns-then-eq_ignore_ascii_case : goal.returns-then-eq_ignore_ascii_case
returns-then-eq_ignore_ascii_case c =
    let here = find_here (λ w. str_eq_ignore_ascii_case w.0 c.args.bytes.now) c.args.words.now
    c.loop-word.word-index _ c.loop-word-test.true
    (alike _ _ (c.if-eq_ignore_ascii_case.ensures.test.0 refl)) in
    ap (option_map (λ (w : Word). w.1)) (sym here ∙ c.loop-word.invariant)

pub loop-word-preserved : goal.loop-word-preserved
loop-word-preserved c =
    let more = find_more (λ w. str_eq_ignore_ascii_case w.0 c.args.bytes.now) c.args.words.now
    c.loop-word.word-index _ c.loop-word-test.true
    (unlike _ _ c.if-eq_ignore_ascii_case.ensures.test.1) in
    rw add-one (more ∙ c.loop-word.invariant)
