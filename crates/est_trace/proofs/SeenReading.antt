-- A departure by what was seen of its values, as it is read.
use Rattle.std.proofs.Common.{◌≡◌, ℕ, List, refl, Some, None}
use Rattle.std.specs.Option.{IsSomeAnd}
use Rattle.est_syntax.specs.declared.kind.Kind.{Kind}
use Rattle.est_seen.specs.declared.seen.Seen.{Seen}
use Rattle.est_meaning.specs.declared.trace.Expected.{Expected}
use Rattle.text_reader.specs.declared.reader.Reader.{Reader}
use Rattle.text_reader.specs.declared.outcome.Outcome.TheVariants.{Well}
use Rattle.text_reader.specs.Moving.{Still}
use Rattle.text_reader.proofs.Going.{goes_still}
use Rattle.text_values.specs.TraceGrammar.{seen_parameters}
use Rattle.text_values.specs.SeenShapes.{ShowsSeen}
use Rattle.text_values.specs.ValueReading.{Reads}
use Rattle.text_values.specs.ValueShapes.{AreBracketed}
use Rattle.est_trace.specs.TraceShapes.{IsSeenAs, ShowsPartly}
use Rattle.est_trace.proofs.Readings.{reads_as}

module _ (ks : List Kind) (k m : ℕ) (xs : List Seen) where
  pub seen_departs : (x : Expected) {A B : Reader}
      → Reads (seen_parameters ks) (λ t. AreBracketed ShowsSeen ks xs t) A B
      → IsSeenAs k m xs x
      → Reads (seen_parameters ks)
      (λ t. IsSomeAnd (Some x) (λ y. ShowsPartly k m y ks t)) A B
  seen_departs x r s =
      reads_as r (λ w t h. record { seen = xs; seen_as = s; shown = h })

  pub seen_lost : {A B C : Reader}
      → Reads (seen_parameters ks) (λ t. AreBracketed ShowsSeen ks xs t) A B
      → Still B C → (C.outcome ≡ Well → ⊥)
      → Reads (seen_parameters ks)
      (λ t. IsSomeAnd None (λ y. ShowsPartly k m y ks t)) A C
  seen_lost r q n = record {
    shape = r.shape;
    goes = goes_still r.goes q (λ w. refl);
    is = λ w. absurd (n w);
  }
