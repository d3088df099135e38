use Rattle.call_files.proofs.WordLaws.{named, unnamed, is_for_file, is_for_file_of}
use Rattle.call_files.proofs.words.read_file.Goals as goal

pub returns-in-len2-clause-asked : goal.returns-in-len2-clause-asked
returns-in-len2-clause-asked c =
    is_for_file c.args.command _ c.specification-item.result c.requires c.in-len2.len_at_least
    c.in-len2.len_below c.specification-item.is
    (named c.specification-item.result _ c.is_empty.ensures c.if-not-is_empty.true)

pub returns-in_default-2-clause-refused : goal.returns-in_default-2-clause-refused
returns-in_default-2-clause-refused c = λ request asked.
    (is_for_file_of c.args.command _ c.requires request asked).named c.specification-item.result
    c.specification-item.is
    (unnamed c.specification-item.result _ c.is_empty.ensures c.if-not-is_empty.false)
