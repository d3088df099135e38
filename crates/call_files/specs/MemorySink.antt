-- What an output in memory has taken, and how it stands.
use Rattle.std.specs.Prelude.{◌≡◌, ℕ, ◌-◌, ◌≤◌, List, Option, Some, length}
use Rattle.call_files.specs.declared.memory_sink.MemSink.{MemSink}
use Rattle.call_files.specs.CallNumbers.{next_number}
use Rattle.call_files.specs.FaultCounts.{last_count}

-- the bytes that were written
abbrev pub bytes_in : MemSink → List ℕ
bytes_in sink = sink.written.items

-- the same, which an output in memory always tells
abbrev pub told_in : MemSink → Option (List ℕ)
told_in sink = Some (bytes_in sink)

-- the room that is left
abbrev pub room_left : MemSink → ℕ
room_left sink = sink.room - length (bytes_in sink)

-- the count of faults
abbrev pub count_in : MemSink → ℕ
count_in sink = sink.faults.value

-- the count is a number of 64 bits
pub count_in_within : (sink : MemSink) → count_in sink ≤ last_count
count_in_within sink = sink.faults.within

-- the number of the last call
abbrev pub made_in : MemSink → ℕ
made_in sink = sink.calls.made

-- the numbers of the calls that fail
abbrev pub failing_in : MemSink → List ℕ
failing_in sink = sink.calls.failing.items

-- the most bytes that a call takes
abbrev pub chunk_in : MemSink → ℕ
chunk_in sink = sink.chunk

-- one call was numbered, and the rest of the plan stays
pub record NumbersPut (old new : MemSink) : Type 0 where
  pub made : made_in new ≡ next_number (made_in old)
  pub failing : failing_in new ≡ failing_in old
  pub chunk : chunk_in new ≡ chunk_in old
