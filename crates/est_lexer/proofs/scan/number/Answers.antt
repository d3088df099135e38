use Rattle.std.proofs.Common.{◌≡◌, ◌-◌, arith}
use Rattle.est_lexer.specs.TokenList.{digits_at}
use Rattle.est_lexer.proofs.There.{number_there, many_there}
use Rattle.est_lexer.proofs.scan.number.Goals as goal

pub returns-then-size-gt-MOST_DIGITS : goal.returns-then-size-gt-MOST_DIGITS
returns-then-size-gt-MOST_DIGITS c =
    let size : c.digits_end.result - c.args.place ≡ digits_at c.args.text.now c.args.place =
    omega (arith, c.digits_end.ensures.value) in
    many_there _ _ _ _ size c.if-size-gt-MOST_DIGITS.true c.bad_token.ensures

pub returns-else-size-gt-MOST_DIGITS : goal.returns-else-size-gt-MOST_DIGITS
returns-else-size-gt-MOST_DIGITS c =
    let size : c.digits_end.result - c.args.place ≡ digits_at c.args.text.now c.args.place =
    omega (arith, c.digits_end.ensures.value) in
    number_there _ _ _ _ c.requires.inside c.requires.no_comment c.requires.digit size
    c.if-size-gt-MOST_DIGITS.false c.token.ensures
