-- Files in memory by their places.
use Rattle.std.specs.Prelude.{◌≡◌, ◌≢◌, ℕ, ◌<◌, ◌≤◌, List, Option, None, Some, length, unwrap_or}
use Rattle.std.specs.List.{position_or_len, slice_get}
use Rattle.std.specs.Option.{option_map}
use Rattle.std.specs.String.{string_bytes}
use Rattle.std.specs.Str.{bytes_eq}
use Rattle.call_files.specs.FaultCounts.{last_count, Rose, GoesOn}
use Rattle.call_files.specs.declared.counting.Count.{Count}
use Rattle.call_files.specs.declared.memory_file.MemFile.{MemFile}

-- the place of the file of this name, and the number of files where there is none
abbrev pub place_of : List MemFile → List ℕ → ℕ
place_of files name = position_or_len (λ file. bytes_eq (string_bytes file.name) name) files

-- the file of this name
abbrev pub file_of : List MemFile → List ℕ → Option MemFile
file_of files name = slice_get files (place_of files name)

-- the name of the file at a place
abbrev pub name_at : List MemFile → ℕ → Option (List ℕ)
name_at files place = option_map (λ file. string_bytes file.name) (slice_get files place)

-- the bytes of the file at a place
abbrev pub bytes_at : List MemFile → ℕ → Option (List ℕ)
bytes_at files place = option_map (λ file. file.bytes.items) (slice_get files place)

-- the count of faults of the file at a place
abbrev pub count_at : List MemFile → ℕ → Option ℕ
count_at files place = option_map (λ file. file.faults.value) (slice_get files place)

-- the count of the file at one place rose, and all else is as it was
pub record RaisesAt (old : List MemFile) (place : ℕ) (new : List MemFile) : Type 0 where
  pub length_is : length new ≡ length old
  pub places : (name : List ℕ) → place_of new name ≡ place_of old name
  pub names : (i : ℕ) → name_at new i ≡ name_at old i
  pub bytes : (i : ℕ) → bytes_at new i ≡ bytes_at old i
  pub counts : (i : ℕ) → i ≢ place → count_at new i ≡ count_at old i
  pub goes_on : (i n : ℕ) → GoesOn (unwrap_or (count_at old i) n) (unwrap_or (count_at new i) n)
  pub rose : (n : ℕ) → Rose (unwrap_or (count_at old place) n) (unwrap_or (count_at new place) n)

-- the file at one place has these bytes, and all else is as it was
pub record ReplacesAt (old : List MemFile) (place : ℕ) (bytes : List ℕ)
    (new : List MemFile) : Type 0 where
  pub length_is : length new ≡ length old
  pub places : (name : List ℕ) → place_of new name ≡ place_of old name
  pub names : (i : ℕ) → name_at new i ≡ name_at old i
  pub counts : (i : ℕ) → count_at new i ≡ count_at old i
  pub others : (i : ℕ) → i ≢ place → bytes_at new i ≡ bytes_at old i
  pub replaced : bytes_at new place ≡ Some bytes

-- a file was put after the others
pub record AddsFile (old : List MemFile) (file : MemFile) (new : List MemFile) : Type 0 where
  pub added : file_of new (string_bytes file.name) ≡ Some file
  pub others : (other : List ℕ) → other ≢ string_bytes file.name
      → file_of new other ≡ file_of old other
  pub files : (i : ℕ) → i < length old → slice_get new i ≡ slice_get old i
  pub places : (name : List ℕ) → place_of old name < length old
      → place_of new name ≡ place_of old name
  pub length_is : length old ≤ length new

-- a count is a number of 64 bits
pub count_within : (file : Option MemFile) (missing : Count)
    → unwrap_or (option_map (λ f. f.faults.value) file) missing.value ≤ last_count
count_within None missing = missing.within
count_within (Some f) missing = f.faults.within
