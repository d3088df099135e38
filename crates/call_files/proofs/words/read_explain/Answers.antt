use Rattle.call_files.proofs.WordLaws.{is_explain, is_explain_of}
use Rattle.call_files.proofs.words.read_explain.Goals as goal

pub returns-in-Some-clause-asked : goal.returns-in-Some-clause-asked
returns-in-Some-clause-asked c = is_explain _ c.in-Some.limits c.requires c.in-Some.ensures

pub returns-in-None-clause-refused : goal.returns-in-None-clause-refused
returns-in-None-clause-refused c = λ request asked.
    let of : _ = is_explain_of _ c.requires request asked in
    c.in-None.ensures of.silent of.budget of.statements of.are
