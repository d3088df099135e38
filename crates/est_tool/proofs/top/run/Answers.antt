use Rattle.std.proofs.Common.{subst}
use Rattle.call_files.specs.Requests.{IsCommand}
use Rattle.est_tool.proofs.ResultLaws.{obeyed_reportable, obeyed_result, usage_same}
use Rattle.est_tool.proofs.ResultLaws.{watch_asked, watched_result}
use Rattle.est_tool.proofs.top.run.Goals as goal

pub returns-in-Watch : goal.returns-in-Watch
returns-in-Watch g c =
    watched_result c.args.words.now c.as_str.result.now c.in-Watch.limits.silent
    c.in-Watch.limits.budget c.in-Watch.limits.statements _ _ _ _
    (watch_asked c.args.words.now c.in-Watch.limits c.as_str.result.now c.index-words-1.result
    (subst (λ command. IsCommand c.args.words.now command) c.in-Watch.is c.in-Ok.ensures.asked)
    c.index-words-1.is c.as_str.ensures.value)
    c.watch_file.ensures

pub deliver-requires : goal.deliver-requires
deliver-requires g c = obeyed_reportable _ _ c.obey.result c.obey.ensures

pub returns-in_default : goal.returns-in_default
returns-in_default g c = obeyed_result _ _ _ _ c.obey.result c.deliver.result c.obey.ensures
    c.deliver.ensures

pub returns-in-Err : goal.returns-in-Err
returns-in-Err g c = usage_same c.args.words.now _ _ _ _ c.in-Err.ensures.refused
