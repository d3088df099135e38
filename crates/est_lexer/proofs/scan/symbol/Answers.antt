use Rattle.std.proofs.Common.{arith, length-drop}
use Rattle.est_lexer.proofs.There.{symbol_there, symbol_token, byte_there}
use Rattle.est_lexer.proofs.scan.symbol.Goals as goal

pub token-requires-clause-length_fits : goal.token-requires-clause-length_fits
token-requires-clause-length_fits c =
    let long = symbol_there c.args.text.now c.args.place c.requires.inside c.requires.no_letter
    c.requires.no_digit c.requires.no_quote (c.in-Some.size, c.in-Some.kind) c.in-Some.ensures
    in
    omega (arith, long.inside, length-drop c.args.place c.args.text.now)

pub returns-in-Some : goal.returns-in-Some
returns-in-Some c =
    let long = symbol_there c.args.text.now c.args.place c.requires.inside c.requires.no_letter
    c.requires.no_digit c.requires.no_quote (c.in-Some.size, c.in-Some.kind) c.in-Some.ensures
    in
    symbol_token _ _ _ _ _ c.requires.inside c.requires.no_comment c.requires.no_digit long
    c.token.ensures

pub returns-in-None : goal.returns-in-None
returns-in-None c = byte_there _ _ _ c.requires.inside c.requires.begin c.requires.no_comment
    c.requires.no_letter c.requires.no_digit c.requires.no_quote c.in-None.ensures
    c.bad_token.ensures
