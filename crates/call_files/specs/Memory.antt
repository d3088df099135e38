-- What a shelf in memory holds, and how it stands.
use Rattle.std.specs.Prelude.{◌≡◌, ◌≢◌, ℕ, ◌≤◌, ◌⊎◌, List, [], Bool, false}
use Rattle.std.specs.Prelude.{Option, Some, drop, is_some, unwrap_or}
use Rattle.std.specs.List.{slice_get}
use Rattle.std.specs.Option.{option_and_then}
use Rattle.call_files.specs.declared.memory.MemShelf.{MemShelf}
use Rattle.call_files.specs.CallNumbers.{next_number}
use Rattle.call_files.specs.FaultCounts.{last_count}
use Rattle.call_files.specs.MemoryFiles.{place_of, name_at, bytes_at, count_at, count_within}

-- whether a file has this name
abbrev pub holds : MemShelf → List ℕ → Bool
holds shelf name = is_some (bytes_at shelf.files.items (place_of shelf.files.items name))

-- the bytes of the file of this name, and none where no file has it
abbrev pub bytes_under : MemShelf → List ℕ → List ℕ
bytes_under shelf name = unwrap_or (bytes_at shelf.files.items (place_of shelf.files.items name)) []

-- the same, which a shelf in memory always tells
abbrev pub told_under : MemShelf → List ℕ → Option (List ℕ)
told_under shelf name = Some (bytes_under shelf name)

-- the count of a name: that of its file, or the one count of all names that no file has
abbrev pub count_under : MemShelf → List ℕ → ℕ
count_under shelf name =
    unwrap_or (count_at shelf.files.items (place_of shelf.files.items name)) shelf.missing.value

-- the name that is read
abbrev pub started_name : MemShelf → Option (List ℕ)
started_name shelf = option_and_then (name_at shelf.files.items) shelf.started

-- this name is read
abbrev pub Reads : MemShelf → List ℕ → Type 0
Reads shelf name = started_name shelf ≡ Some name

-- the bytes that are left of the file that is read, and none where no file is read
abbrev pub rest_of : MemShelf → List ℕ
rest_of shelf =
    drop shelf.taken (unwrap_or (option_and_then (bytes_at shelf.files.items) shelf.started) [])

-- the count of a name is a number of 64 bits
pub count_under_within : (shelf : MemShelf) (name : List ℕ) → count_under shelf name ≤ last_count
count_under_within shelf name =
    count_within (slice_get shelf.files.items (place_of shelf.files.items name)) shelf.missing

-- how many bytes were taken from the file that was started last
abbrev pub taken_from : MemShelf → ℕ
taken_from shelf = shelf.taken

-- whether its end was seen
abbrev pub end_seen : MemShelf → Bool
end_seen shelf = shelf.ended

-- the number of the last call
abbrev pub made_by : MemShelf → ℕ
made_by shelf = shelf.calls.made

-- the numbers of the calls that fail
abbrev pub failing_of : MemShelf → List ℕ
failing_of shelf = shelf.calls.failing.items

-- the most bytes that a call gives
abbrev pub chunk_of : MemShelf → ℕ
chunk_of shelf = shelf.chunk

-- the names that were started, in order
abbrev pub names_started : MemShelf → List (List ℕ)
names_started shelf = shelf.trail.names

-- how often bytes were asked for since the last start
abbrev pub times_asked : MemShelf → ℕ
times_asked shelf = shelf.trail.asked

-- nothing was started or asked for
pub record SameCalls (old new : MemShelf) : Type 0 where
  pub started : names_started new ≡ names_started old
  pub asked : times_asked new ≡ times_asked old

-- one call was numbered, and the rest of the plan stays
pub record NumbersCall (old new : MemShelf) : Type 0 where
  pub made : made_by new ≡ next_number (made_by old)
  pub failing : failing_of new ≡ failing_of old
  pub chunk : chunk_of new ≡ chunk_of old

-- no call was numbered, and the plan stays
pub record SamePlan (old new : MemShelf) : Type 0 where
  pub made : made_by new ≡ made_by old
  pub failing : failing_of new ≡ failing_of old
  pub chunk : chunk_of new ≡ chunk_of old

-- the same names are held, each with the same bytes
pub record SameFiles (old new : MemShelf) : Type 0 where
  pub names : (name : List ℕ) → holds new name ≡ holds old name
  pub bytes : (name : List ℕ) → bytes_under new name ≡ bytes_under old name

-- all names but this one are held as they were, each with the bytes that it had
pub record SameOtherFiles (old new : MemShelf) (name : List ℕ) : Type 0 where
  pub names : (other : List ℕ) → other ≢ name → holds new other ≡ holds old other
  pub bytes : (other : List ℕ) → other ≢ name → bytes_under new other ≡ bytes_under old other

-- the same name is read, at the same place of its bytes
pub record SameReading (old new : MemShelf) : Type 0 where
  pub name : started_name new ≡ started_name old
  pub rest : rest_of new ≡ rest_of old
  pub taken : taken_from new ≡ taken_from old
  pub ended : end_seen new ≡ end_seen old

-- two names have one count: they are one name, or no file has either
abbrev pub ShareCount : MemShelf → List ℕ → List ℕ → Type 0
ShareCount shelf a b = (a ≡ b) ⊎ ((holds shelf a ≡ false) × (holds shelf b ≡ false))

-- the count of each name is as it was, but for those that have one count with this one
abbrev pub SameOtherCounts : MemShelf → MemShelf → List ℕ → Type 0
SameOtherCounts old new name = (other : List ℕ) → (ShareCount old other name → ⊥)
    → count_under new other ≡ count_under old other
