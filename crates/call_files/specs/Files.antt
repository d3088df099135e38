-- The files that a call reads.
use Rattle.std.specs.Prelude.{ℕ, List, codes}
use Rattle.est_trace.specs.est_check.Small.{most_parts}
use Rattle.call_files.specs.declared.file.File.{File}
use Rattle.call_files.specs.declared.file.File.TheVariants.{Specification, Trace, Explanation}

-- the word for a file in reports
abbrev pub word_of : File → List ℕ
word_of Specification = codes "specification"
word_of Trace = codes "trace"
word_of Explanation = codes "explanation"

-- the most bytes that a file may have
abbrev pub limit_of : File → ℕ
limit_of Specification = most_parts
limit_of Trace = 8388608
limit_of Explanation = 134217728
