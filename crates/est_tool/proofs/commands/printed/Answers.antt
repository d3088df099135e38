use Rattle.std.proofs.Common.{refl, sym, subst}
use Rattle.est_print.specs.PrintedText.{IsOfSentence, IsPrintedText}
use Rattle.est_tool.proofs.WorkLaws.{of_sentence}
use Rattle.est_tool.proofs.commands.printed.Goals as goal

pub print_spec-requires : goal.print_spec-requires
print_spec-requires c = subst IsOfSentence (sym c.spec.ensures.same)
    (of_sentence c.args.checked.now c.spec.ensures.sentence)

pub returns : goal.returns
returns c = (
  refl,
  subst (λ s. IsPrintedText s c.in_ok-text.text.items) c.spec.ensures.same
      c.in_ok-text.ensures,
)
