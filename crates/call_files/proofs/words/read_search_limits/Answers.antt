use Rattle.call_files.proofs.WordLaws.{none_told, all_told, not_told, three_words}
use Rattle.call_files.proofs.words.read_search_limits.Goals as goal

pub returns-in-empty : goal.returns-in-empty
returns-in-empty c = none_told c.args.words.now c.in-empty.len_below

pub returns-in_ok-statements-in-len3 : goal.returns-in_ok-statements-in-len3
returns-in_ok-statements-in-len3 c =
    all_told c.args.words.now c.silent-item.result c.budget-item.result c.statements-item.result
    _ _ _
    (three_words _ _ _ _ c.in-len3.len_at_least c.in-len3.len_below c.silent-item.is
    c.budget-item.is c.statements-item.is)
    (rw c.as_str.ensures.value at c.in_ok-silent-in-len3.ensures)
    (rw c.as_str-in-len3.ensures.value at c.in_ok-budget-in-len3.ensures)
    (rw c.as_str-in-len3-2.ensures.value at c.in_ok-statements-in-len3.ensures)

pub returns-in_err-silent-in-len3 : goal.returns-in_err-silent-in-len3
returns-in_err-silent-in-len3 c =
    not_told c.args.words.now c.silent-item.result c.budget-item.result c.statements-item.result _
    (three_words _ _ _ _ c.in-len3.len_at_least c.in-len3.len_below c.silent-item.is
    c.budget-item.is c.statements-item.is)
    c.from_residual.ensures
    (λ are. (rw c.as_str.ensures.value at c.in_err-silent-in-len3.ensures) are.silent are.first)

pub returns-in_err-budget-in-len3 : goal.returns-in_err-budget-in-len3
returns-in_err-budget-in-len3 c =
    not_told c.args.words.now c.silent-item.result c.budget-item.result c.statements-item.result _
    (three_words _ _ _ _ c.in-len3.len_at_least c.in-len3.len_below c.silent-item.is
    c.budget-item.is c.statements-item.is)
    c.from_residual-in_err-budget-in-len3.ensures
    (λ are. (rw c.as_str-in-len3.ensures.value at c.in_err-budget-in-len3.ensures) are.budget
    are.second)

pub returns-in_err-statements-in-len3 : goal.returns-in_err-statements-in-len3
returns-in_err-statements-in-len3 c =
    not_told c.args.words.now c.silent-item.result c.budget-item.result c.statements-item.result _
    (three_words _ _ _ _ c.in-len3.len_at_least c.in-len3.len_below c.silent-item.is
    c.budget-item.is c.statements-item.is)
    c.from_residual-in_err-statements-in-len3.ensures
    (λ are. (rw c.as_str-in-len3-2.ensures.value at c.in_err-statements-in-len3.ensures)
    are.statements are.third)
