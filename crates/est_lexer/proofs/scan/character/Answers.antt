use Rattle.std.proofs.Common.{◌≡◌, ◌&&◌, ◌+◌, true, false, eqb, get_or}
use Rattle.est_lexer.specs.Spellings.{is_plain_character}
use Rattle.est_lexer.proofs.There.{plain_there, quotes_there, quote_there}
use Rattle.est_lexer.proofs.scan.character.Goals as goal

pub returns-then-is_plain_constant : goal.returns-then-is_plain_constant
returns-then-is_plain_constant c =
    let plain : is_plain_character (get_or c.args.text.now (c.args.place + 1) 0) && eqb
    (get_or c.args.text.now (c.args.place + 2) 0) 39 ≡ true = cc in
    plain_there _ _ _ c.requires.inside c.requires.no_comment c.requires.quote plain c.token.ensures

pub returns-then-is_quote_constant : goal.returns-then-is_quote_constant
returns-then-is_quote_constant c =
    let quotes : eqb (get_or c.args.text.now (c.args.place + 1) 0) 39 && eqb
    (get_or c.args.text.now (c.args.place + 2) 0) 39 && eqb
    (get_or c.args.text.now (c.args.place + 3) 0) 39 ≡ true = cc in
    quotes_there _ _ _ c.requires.inside c.requires.no_comment c.requires.quote quotes
    c.token-then-is_quote_constant.ensures

pub returns-else-is_quote_constant : goal.returns-else-is_quote_constant
returns-else-is_quote_constant c =
    let no_plain : is_plain_character (get_or c.args.text.now (c.args.place + 1) 0) && eqb
    (get_or c.args.text.now (c.args.place + 2) 0) 39 ≡ false = cc in
    let no_quotes : eqb (get_or c.args.text.now (c.args.place + 1) 0) 39 && eqb
    (get_or c.args.text.now (c.args.place + 2) 0) 39 && eqb
    (get_or c.args.text.now (c.args.place + 3) 0) 39 ≡ false = cc in
    quote_there _ _ _ c.requires.inside c.requires.begin c.requires.no_comment c.requires.quote
    no_plain no_quotes c.bad_token.ensures
