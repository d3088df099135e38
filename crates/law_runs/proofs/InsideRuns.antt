-- What holds of the runs of sentences.
use Rattle.law_runs.proofs.OrderlyRuns.{runs_stay_orderly}
use Rattle.law_runs.proofs.YoungerRuns.{runs_lead_to_younger, runs_descend}
use Rattle.law_runs.specs.InsideLaws.{SentencesStayOrderly, SentencesLeadToYounger}
use Rattle.law_runs.specs.InsideLaws.{SentencesDescend}
use Rattle.law_runs.proofs.InsideSentences.{sentences_begin_with_init, sentences_stand_inside}

pub sentences_stay_orderly : SentencesStayOrderly
sentences_stay_orderly c run p s begun r =
    runs_stay_orderly c run p (sentences_begin_with_init c.spec s) begun r

pub sentences_lead_to_younger : SentencesLeadToYounger
sentences_lead_to_younger c run p s begun r =
    runs_lead_to_younger c run p (sentences_begin_with_init c.spec s)
    (sentences_stand_inside c.spec s) begun r

pub sentences_descend : SentencesDescend
sentences_descend c run p s begun r q =
    runs_descend c run p (sentences_begin_with_init c.spec s) (sentences_stand_inside c.spec s)
    begun r q
