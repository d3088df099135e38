-- What the small steps of a printer do to it.
use Rattle.std.specs.Prelude.{◌≡◌, ℕ, ◌+◌, false, List, [], ◌∷◌, ◌++◌, length, Option, Some, None}
use Rattle.est_lexer.specs.declared.kind.Token.{Token}
use Rattle.est_lexer.specs.declared.kind.TokenKind.{TokenKind}
use Rattle.text_printer.specs.declared.printer.Printer.{Printer}
use Rattle.text_printer.specs.Spacing.{gap_before, open_after}
use Rattle.text_printer.specs.PlainSpelling.{IsSpelledPlainly}

-- how many tokens are printed
abbrev pub count : Printer → ℕ
count P = length P.tokens.items

-- what stands between what is printed and a token of this kind after it
abbrev pub gap : Printer → TokenKind → List ℕ
gap P kind = gap_before P.last P.nested kind

-- the token of this kind and these bytes that comes next
abbrev pub next_token : Printer → TokenKind → List ℕ → Token
next_token P kind bytes = record {
  kind = kind;
  start = length P.text.items + length (gap P kind);
  length = length bytes;
}

-- A token of this kind and these bytes is printed last.
pub record Put (kind : TokenKind) (bytes : List ℕ) (old new : Printer) : Type 0 where
  pub well : old.spent ≡ false
  pub text : new.text.items ≡ old.text.items ++ (gap old kind ++ bytes)
  pub tokens : new.tokens.items ≡ old.tokens.items ++ next_token old kind bytes ∷ []
  pub last : new.last ≡ Some kind
  pub nested : new.nested ≡ open_after old.nested kind

-- A token of this kind and these bytes is printed last, if memory suffices.
pub record Puts (kind : TokenKind) (bytes : List ℕ) (old new : Printer) : Type 0 where
  pub put : new.spent ≡ false → Put kind bytes old new

-- A token of this kind is printed last, spelled in the one way, if memory suffices.
pub record PutsKind (kind : TokenKind) (old new : Printer) : Type 0 where
  pub bytes : List ℕ
  pub spelled : IsSpelledPlainly kind bytes
  pub puts : Puts kind bytes old new

-- Nothing is printed.
pub record Starts (new : Printer) : Type 0 where
  pub text : new.text.items ≡ []
  pub tokens : new.tokens.items ≡ []
  pub last : new.last ≡ None
  pub nested : new.nested ≡ 0
  pub well : new.spent ≡ false

-- What is printed, token by token, with the last kind and how many round brackets are open.
pub data Laid : List ℕ → List Token → Option TokenKind → ℕ → Type 0 where
  l_none : Laid [] [] None 0
  l_more : {text : List ℕ} {tokens : List Token} {last : Option TokenKind} {nested : ℕ}
      (kind : TokenKind) (bytes : List ℕ) → Laid text tokens last nested
      → Laid (text ++ (gap_before last nested kind ++ bytes)) (tokens ++ record {
        kind = kind;
        start = length text + length (gap_before last nested kind);
        length = length bytes;
      } ∷ []) (Some kind) (open_after nested kind)

-- a printer has printed tokens one by one
pub record IsLaid (P : Printer) : Type 0 where
  pub laid : Laid P.text.items P.tokens.items P.last P.nested

-- What was printed ends with a line feed.
pub record Ends (printer : Printer) (text : List ℕ) : Type 0 where
  pub well : printer.spent ≡ false
  pub text_is : text ≡ printer.text.items ++ 10 ∷ []
