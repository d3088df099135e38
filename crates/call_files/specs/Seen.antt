-- What is seen of the files and of the output of a call.
use Rattle.std.specs.Prelude.{ℕ, List, Option}

-- What a shelf tells at a moment: the bytes that it holds under each name, how many faults there
-- were of each, which names were started so far, and how many bytes were taken of the last one.
pub record Shelved : Type 0 where
  pub told : List ℕ → Option (List ℕ)
  pub faults : List ℕ → ℕ
  pub started : List (List ℕ)
  pub taken : ℕ

-- what an output tells at a moment: the bytes written so far, and how many faults there were
pub record Sunk : Type 0 where
  pub written : Option (List ℕ)
  pub faults : ℕ

-- what a shelf tells before a call and after it
pub record Seen : Type 0 where
  pub before : Shelved
  pub after : Shelved

-- what an output tells before a call and after it
pub record Sent : Type 0 where
  pub before : Sunk
  pub after : Sunk

-- what a shelf tells, from its parts
abbrev pub shelved : (List ℕ → Option (List ℕ)) → (List ℕ → ℕ) → List (List ℕ) → ℕ → Shelved
shelved told faults started taken =
    record { told = told; faults = faults; started = started; taken = taken }

-- what is seen of a shelf, from the two moments
abbrev pub seen : Shelved → Shelved → Seen
seen before after = record { before = before; after = after }

-- what is seen of an output, from its parts at the two moments
abbrev pub sent : Option (List ℕ) → ℕ → Option (List ℕ) → ℕ → Sent
sent written faults written' faults' = record {
  before = record { written = written; faults = faults };
  after = record { written = written'; faults = faults' };
}
