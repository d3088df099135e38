-- The words that are drawn: those of the generator, in order.
use Rattle.std.specs.Prelude.{◌≡◌, ℕ}
use Rattle.rand_core.specs.Steps.{stream_of, steps_u32}
use Rattle.rand_core.specs.Stream.{Stream, next_u32}
use Rattle.rand_pcg.specs.Lcg.{Lcg, started, increment_of}
use Rattle.rand_pcg.specs.Pcg.{multiplier_64, pcg32}

-- the words that a generator gives from now on
abbrev pub stream_at : Lcg → Stream
stream_at g = stream_of (steps_u32 pcg32) g

-- the words of a seed: those of the stream 0 of PCG's XSH RR 64/32 (O'Neill, "PCG: a family of
-- simple fast space-efficient statistically good algorithms for random number generation")
abbrev pub words_of : ℕ → Stream
words_of seed = stream_at (started 64 multiplier_64 seed (increment_of 64 0))

-- the next word is this one, and these are left
abbrev pub IsDrawn : Stream → ℕ → Stream → Type 0
IsDrawn words w left = (w, left) ≡ next_u32 words
