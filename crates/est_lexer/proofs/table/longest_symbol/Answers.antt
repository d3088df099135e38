use Rattle.std.proofs.Common.{◌∙◌}
use Rattle.est_lexer.specs.Words.{symbols}
use Rattle.est_lexer.proofs.SymbolBytes.{at_first, at_second, at_third, two_periods, one_period}
use Rattle.est_lexer.proofs.SymbolBytes.{colon_alone, below_alone, above_alone, several_are_four}
use Rattle.est_lexer.proofs.table.longest_symbol.Goals as goal

pub returns-in-46-eq46-eq46 : goal.returns-in-46-eq46-eq46
unfolding symbols
returns-in-46-eq46-eq46 c = at_third c.args.first c.args.second c.args.third 46 46 46 c.in-46-eq46-eq46.is-0 c.in-46-eq46-eq46.is-1
    c.in-46-eq46-eq46.is-2

pub returns-in-46-eq46-default : goal.returns-in-46-eq46-default
returns-in-46-eq46-default c = two_periods c.args.third c.in-46-eq46-default.is-2.1
    ∙ at_second c.args.first c.args.second c.args.third 46 46 c.in-46-eq46-default.is-0 c.in-46-eq46-default.is-1

pub returns-in-46-default-default : goal.returns-in-46-default-default
returns-in-46-default-default c = one_period c.args.second c.args.third c.in-46-default-default.is-1.1
    ∙ at_first c.args.first c.args.second c.args.third 46 c.in-46-default-default.is-0

pub returns-in-58-default-default : goal.returns-in-58-default-default
returns-in-58-default-default c = colon_alone c.args.second c.args.third c.in-58-default-default.is-1.1
    ∙ at_first c.args.first c.args.second c.args.third 58 c.in-58-default-default.is-0

pub returns-in-60-default-default : goal.returns-in-60-default-default
returns-in-60-default-default c = below_alone c.args.second c.args.third c.in-60-default-default.is-1.0.1
    c.in-60-default-default.is-1.1 ∙ at_first c.args.first c.args.second c.args.third 60 c.in-60-default-default.is-0

pub returns-in-62-default-default : goal.returns-in-62-default-default
returns-in-62-default-default c = above_alone c.args.second c.args.third c.in-62-default-default.is-1.1
    ∙ at_first c.args.first c.args.second c.args.third 62 c.in-62-default-default.is-0

pub returns-in-58-eq61-default : goal.returns-in-58-eq61-default
unfolding symbols
returns-in-58-eq61-default c = at_second c.args.first c.args.second c.args.third 58 61 c.in-58-eq61-default.is-0
    c.in-58-eq61-default.is-1

pub returns-in-60-eq62-default : goal.returns-in-60-eq62-default
unfolding symbols
returns-in-60-eq62-default c = at_second c.args.first c.args.second c.args.third 60 62 c.in-60-eq62-default.is-0
    c.in-60-eq62-default.is-1

pub returns-in-60-eq61-default : goal.returns-in-60-eq61-default
unfolding symbols
returns-in-60-eq61-default c = at_second c.args.first c.args.second c.args.third 60 61 c.in-60-eq61-default.is-0
    c.in-60-eq61-default.is-1

pub returns-in-62-eq61-default : goal.returns-in-62-eq61-default
unfolding symbols
returns-in-62-eq61-default c = at_second c.args.first c.args.second c.args.third 62 61 c.in-62-eq61-default.is-0
    c.in-62-eq61-default.is-1

pub returns-in_default : goal.returns-in_default
returns-in_default c = absurd (several_are_four c.args.first c.requires c.in_default.is-0)
