use Rattle.text_reader.proofs.Bytes.{character_there}
use Rattle.text_reader.proofs.reader.Reader.code_here.Goals as goal

pub bounds-spelled-1 : goal.bounds-spelled-1
bounds-spelled-1 c = character_there c.args.self.now.tokens.now c.args.self.now.at
    c.spelled.result.now c.if-not-stands.ensures.test c.spelled.ensures
