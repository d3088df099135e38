use Rattle.call_files.specs.FileTexts.{OfExplanation, RefusesExplanation}
use Rattle.std.proofs.Common.{[], ◌∷◌}
use Rattle.est_tool.specs.Ends.{at_explanation}
use Rattle.est_tool.specs.Started.{three}
use Rattle.est_tool.proofs.WorkLaws.{stops_at, ends_work, replay_reports}
use Rattle.est_tool.proofs.commands.replay_explanation.Goals as goal

pub returns-in_err-explanation : goal.returns-in_err-explanation
returns-in_err-explanation g c =
    stops_at OfExplanation RefusesExplanation (_ ∷ _ ∷ []) _ _ c.from_residual.result _
    c.from_residual.ensures c.in_err-explanation.ensures.reads
    (three _ _ c.requires.checked c.requires.traced)
    (λ end at. at_explanation _ _ end c.requires.checked c.requires.traced
    at)

pub returns : goal.returns
returns g c =
    ends_work OfExplanation RefusesExplanation (_ ∷ _ ∷ []) _ _ _ c.judged.result _
    c.in_ok-explanation.ensures.reads c.judged.ensures
    (three _ _ c.requires.checked c.requires.traced)
    (replay_reports _ _ _ _ _ _ _ _ _ c.requires.checked c.requires.traced
    c.in_ok-explanation.ensures.reads.good)
