use Rattle.text_reader.proofs.Bytes.{number_bytes}
use Rattle.text_reader.proofs.reader.Reader.value.Goals as goal

pub value-requires : goal.value-requires
value-requires c = number_bytes c.spelled.result.now c.take.ensures c.if-is_well.ensures
    c.spelled.ensures
