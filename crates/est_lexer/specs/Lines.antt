use Rattle.std.specs.Prelude.{ℕ, Bool, List, ◌+◌, ◌==◌, not, take, count_by}
use Rattle.std.specs.List.{suffix_len}

-- A line feed ends a line.
abbrev pub is_line_feed : ℕ → Bool
is_line_feed b = b == 10

-- The line of an offset: one more than the line feeds before it.
abbrev pub line_at : List ℕ → ℕ → ℕ
line_at text offset = 1 + count_by is_line_feed (take offset text)

-- The column of an offset: one more than the bytes after the last line feed before it.
abbrev pub column_at : List ℕ → ℕ → ℕ
column_at text offset = 1 + suffix_len (λ b. not (is_line_feed b)) (take offset text)
