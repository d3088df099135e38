use Rattle.text_reader.proofs.Bytes.{character_bytes}
use Rattle.text_reader.proofs.reader.Reader.character.Goals as goal

pub bounds-spelled-1 : goal.bounds-spelled-1
bounds-spelled-1 c = character_bytes c.spelled.result.now c.take.ensures c.if-is_well.ensures
    c.spelled.ensures
