-- Rows of a tree and their lists are evaluated in one way.
use Rattle.mean_blocks.specs.ListLaws.{ExpressionsOfRows, StatementsOfRows}
use Rattle.mean_blocks.proofs.ExpressionLayers.{sums_row, products_row, selected_row, values_row}
use Rattle.mean_blocks.proofs.ExpressionLayers.{required_row, members_row, components_row}
use Rattle.mean_blocks.proofs.ExpressionLayers.{subscripts_row}
use Rattle.mean_blocks.proofs.StatementLayers.{statements_row, arms_row}

pub expressions_of_rows : ExpressionsOfRows
expressions_of_rows = record {
  sums = sums_row;
  products = products_row;
  selectors = selected_row;
  values = values_row;
  required = required_row;
  members = members_row;
  components = components_row;
  subscripts = subscripts_row;
}

pub statements_of_rows : StatementsOfRows
statements_of_rows = record { statements = statements_row; arms = arms_row }
