use Rattle.std.proofs.Common.{◌∙◌, subst}
use Rattle.est_syntax.specs.declared.body.Block.{out-Block}
use Rattle.est_meaning.specs.rule_scope.declared.declaration.Sort.TheVariants as sort
use Rattle.est_meaning.specs.rule_scope.Outline.{Outline}
use Rattle.est_meaning.specs.mean_blocks.AnswersOfCalls.{Says}
use Rattle.est_meaning.specs.mean_blocks.FunctionCalls.{frame_of}
use Rattle.est_meaning.specs.mean_blocks.NamesInRuns.{places_of}
use Rattle.plain_steps.proofs.FiredSteps.{says_unset}
use Rattle.plain_steps.proofs.choice.own_frame.Goals as goal

pub returns : goal.returns
returns c x h = says_unset c.args.text.now.outline c.as_slice.result.now
    (places_of c.args.text.now.outline sort.Variable (out-Block x.block).place)
    c.new.result c.frame_of.result (c.as_slice.ensures ∙ h.own) c.new.ensures
    (subst (λ (o : Outline). Says (frame_of o c.as_slice.result.now c.new.result)
    c.frame_of.result) c.outline.ensures c.frame_of.ensures)
