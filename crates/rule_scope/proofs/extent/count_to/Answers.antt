use Rattle.std.proofs.Common.{leb, leb-true, rules}
use Rattle.std.proofs.lemmas.List.Sorted.{IsPartitionPoint-from_clause, IsPartitionedBy-leb}
use Rattle.rule_scope.specs.declared.declaration.Extent.{Extent}
use Rattle.rule_scope.proofs.Extents.{below_leb}
use Rattle.rule_scope.proofs.extent.count_to.Goals as goal

pub returns-clause-count : goal.returns-clause-count
returns-clause-count c =
    let parted = IsPartitionedBy-leb (λ (e : Extent). e.from) _ c.args.place c.requires in
    let point = IsPartitionPoint-from_clause (λ (e : Extent). leb e.from c.args.place) _ _
    c.partition_point.ensures.partitioned parted (λ a r q k. search rules) in
    (λ k d l h. leb-true _ _ (point.0 k d l h), λ k d l h. below_leb _ _ (point.1 k d l h))
