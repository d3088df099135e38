use Rattle.est_explanation.proofs.Comments.{comment_lines_are_comments}
use Rattle.est_explanation.proofs.ReadBack.{read_back}
use Rattle.est_explanation.proofs.laws.comments_are_skipped.Goals as goal

pub returns : goal.returns
returns c = record { skipped = read_back; lines = comment_lines_are_comments }
