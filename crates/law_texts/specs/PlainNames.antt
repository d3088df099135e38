-- Names that are spelled as the lexer reads them.
use Rattle.std.specs.Prelude.{◌≡◌, ℕ, true, List, None}
use Rattle.std.specs.Str.{str_to_ascii_lowercase}
use Rattle.est_lexer.specs.Spellings.{is_identifier, word_kind}

-- These bytes are an identifier in lower case that is no word.
pub record IsPlainName (bytes : List ℕ) : Type 0 where
  pub identifier : is_identifier bytes ≡ true
  pub no_word : word_kind bytes ≡ None
  pub lower : str_to_ascii_lowercase bytes ≡ bytes
