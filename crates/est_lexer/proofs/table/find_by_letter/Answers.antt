use Rattle.std.proofs.Common.{arith, ◌≡◌, ◌+◌, ◌-◌, ap, ◌∙◌, option_map, get_or}
use Rattle.std.specs.Char.{to_ascii_lowercase}
use Rattle.est_lexer.proofs.Lookups.{letter_decides, lower_letter}
use Rattle.est_lexer.specs.Words.{Word}
use Rattle.est_lexer.proofs.table.find_by_letter.Goals as goal

pub returns : goal.returns
returns c =
    let range = lower_letter (get_or c.args.bytes.now 0 0) c.requires.letter in
    let at : to_ascii_lowercase (get_or c.args.bytes.now 0 0)
    ≡ 97 + (c.to_ascii_lowercase.result - 97) =
    omega (arith, c.to_ascii_lowercase.ensures.value) in
    c.find_word.ensures ∙ ap (option_map (λ (w : Word). w.1)) (letter_decides c.args.table.now
    c.args.bytes.now _ _ c.requires.full c.requires.by_letter c.requires.some c.requires.letter
    at)
