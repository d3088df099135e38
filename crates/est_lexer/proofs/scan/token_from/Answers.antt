use Rattle.std.proofs.Common.{◌≡◌, ◌<◌, arith, refl, sym, subst, get_or, true, rules}
use Rattle.std.specs.Char.{is_ascii_alphabetic, is_ascii_digit}
use Rattle.est_lexer.proofs.Marks.{letter_opens_none, digit_opens_none, quote_opens_none}
use Rattle.est_lexer.specs.Between.{opening, IsOpenComment}
use Rattle.est_lexer.specs.declared.kind.Token.{Token}
use Rattle.est_lexer.specs.inside.Scanning.{IsBadAt}
use Rattle.est_lexer.specs.TokenList.{open_comment}
use Rattle.est_lexer.proofs.scan.token_from.Goals as goal

pub name-requires-clause-no_comment : goal.name-requires-clause-no_comment
name-requires-clause-no_comment c =
    let letter : is_ascii_alphabetic (get_or c.args.text.now c.args.place 0) ≡ true = search rules
    in
    letter_opens_none _ _ letter

pub number-requires-clause-no_comment : goal.number-requires-clause-no_comment
number-requires-clause-no_comment c =
    let digit : is_ascii_digit (get_or c.args.text.now c.args.place 0) ≡ true = search rules in
    digit_opens_none _ _ digit

pub character-requires-clause-no_comment : goal.character-requires-clause-no_comment
character-requires-clause-no_comment c = quote_opens_none _ _ c.if-first-eq-QUOTE.true

pub returns-then-opening_at-gt0 : goal.returns-then-opening_at-gt0
returns-then-opening_at-gt0 c =
    let begins : 0 < opening c.args.text.now c.args.place = omega arith in
    let unended : IsOpenComment c.args.text.now c.args.place = record {
      begins = begins;
      unended = c.requires.begin.unended begins;
    } in
    subst (λ (t : Token). IsBadAt c.args.text.now c.args.place t) (sym c.bad_token.ensures)
    (record { starts = refl; kind = refl; span = open_comment unended })
