-- One file among others is changed.
use Rattle.std.proofs.Common.{◌≡◌, ◌≢◌, ℕ, ◌<◌, zero, suc, List, [], ◌∷◌, length, set}
use Rattle.std.proofs.Common.{get_or, Some, arith, ap, refl, sym, ◌∙◌, length-set}
use Rattle.std.specs.List.{slice_get}
use Rattle.std.specs.Option.{option_map}
use Rattle.std.specs.Prelude.{unwrap_or}
use Rattle.std.specs.String.{string_bytes}
use Rattle.std.specs.Str.{bytes_eq}
use Rattle.std.proofs.lemmas.List.Folds.{position_or_len-set}
use Rattle.std.proofs.lemmas.Option.{slice_get-get_or}
use Rattle.call_files.specs.FaultCounts.{Rose, GoesOn}
use Rattle.call_files.specs.declared.memory_file.MemFile.{MemFile}
use Rattle.call_files.specs.MemoryFiles.{RaisesAt, ReplacesAt, count_at}

-- what is seen of the element that was put in place of one that is seen alike
slice_get-set_alike : {X Y : Type 0} (view : X → Y) (xs : List X) (i j : ℕ) (y : X)
    → view y ≡ view (get_or xs i y)
    → option_map view (slice_get (set xs i y) j) ≡ option_map view (slice_get xs j)
slice_get-set_alike view [] i j y e = refl
slice_get-set_alike view (x ∷ xs) zero zero y e = ap (λ v. Some v) e
slice_get-set_alike view (x ∷ xs) zero (suc j) y e = refl
slice_get-set_alike view (x ∷ xs) (suc i) zero y e = refl
slice_get-set_alike view (x ∷ xs) (suc i) (suc j) y e = slice_get-set_alike view xs i j y e

-- the element at another place
slice_get-set_other : {X : Type 0} (xs : List X) (i j : ℕ) (y : X) → j ≢ i
    → slice_get (set xs i y) j ≡ slice_get xs j
slice_get-set_other [] i j y ne = refl
slice_get-set_other (x ∷ xs) zero zero y ne = absurd (ne refl)
slice_get-set_other (x ∷ xs) zero (suc j) y ne = refl
slice_get-set_other (x ∷ xs) (suc i) zero y ne = refl
slice_get-set_other (x ∷ xs) (suc i) (suc j) y ne = slice_get-set_other xs i j y
    (λ e. ne (ap (λ n. suc n) e))

-- the element at this place
slice_get-set_same : {X : Type 0} (xs : List X) (i : ℕ) (y : X) → i < length xs
    → slice_get (set xs i y) i ≡ Some y
slice_get-set_same [] i y h = absurd (omega arith)
slice_get-set_same (x ∷ xs) zero y h = refl
slice_get-set_same (x ∷ xs) (suc i) y h = slice_get-set_same xs i y (omega arith)

-- the counts of the elements, where one rose
GoesOn-set : (files : List MemFile) (place i n : ℕ) (file : MemFile)
    → GoesOn (get_or files place file).faults.value file.faults.value
    → GoesOn (unwrap_or (count_at files i) n) (unwrap_or (count_at (set files place file) i) n)
GoesOn-set [] place i n file g = record { never_falls = omega arith; stays_last = λ h. h }
GoesOn-set (f ∷ fs) zero zero n file g = g
GoesOn-set (f ∷ fs) zero (suc i) n file g = record {
  never_falls = omega arith;
  stays_last = λ h. h;
}
GoesOn-set (f ∷ fs) (suc place) zero n file g = record {
  never_falls = omega arith;
  stays_last = λ h. h;
}
GoesOn-set (f ∷ fs) (suc place) (suc i) n file g = GoesOn-set fs place i n file g

Rose-set : (files : List MemFile) (place n : ℕ) (file : MemFile) → place < length files
    → Rose (get_or files place file).faults.value file.faults.value
    → Rose (unwrap_or (count_at files place) n) (unwrap_or (count_at (set files place file) place)
    n)
Rose-set [] place n file h r = absurd (omega arith)
Rose-set (f ∷ fs) zero n file h r = r
Rose-set (f ∷ fs) (suc place) n file h r = Rose-set fs place n file (omega arith) r

-- what stands at a place that there is, whatever stands for a missing one
get_or_there : (files : List MemFile) (place : ℕ) (old new : MemFile) → place < length files
    → old ≡ get_or files place old → get_or files place new ≡ old
get_or_there files place old new h at =
    let p = slice_get-get_or files place old h in
    let q = slice_get-get_or files place new h in
    let e : Some (get_or files place new) ≡ Some (get_or files place old) = sym q ∙ p in
    let d : get_or files place new ≡ get_or files place old = cc in
    d ∙ sym at

-- the count of one file rose
pub RaisesAt-set : (files : List MemFile) (place : ℕ) (old new : MemFile) → place < length files
    → old ≡ get_or files place old → new.name ≡ old.name → new.bytes ≡ old.bytes
    → Rose old.faults.value new.faults.value → GoesOn old.faults.value new.faults.value
    → RaisesAt files place (set files place new)
RaisesAt-set files place old new h at name bytes rose goes_on =
    let there : get_or files place new ≡ old = get_or_there files place old new h at in
    let same_name : string_bytes new.name ≡ string_bytes (get_or files place new).name =
    ap (λ n. string_bytes n) name ∙ ap (λ (f : MemFile). string_bytes f.name) (sym there) in
    let same_bytes : new.bytes.items ≡ (get_or files place new).bytes.items =
    ap (λ b. b.items) bytes ∙ ap (λ (f : MemFile). f.bytes.items) (sym there) in
    record {
      length_is = length-set files place new;
      places = λ n. position_or_len-set (λ file. bytes_eq (string_bytes file.name) n) files place
          new new (ap (λ (m : List ℕ). bytes_eq m n) same_name);
      names = λ i. slice_get-set_alike (λ f. string_bytes f.name) files place i new same_name;
      bytes = λ i. slice_get-set_alike (λ f. f.bytes.items) files place i new same_bytes;
      counts = λ i ne. ap (λ o. option_map (λ (f : MemFile). f.faults.value) o)
          (slice_get-set_other files place i new ne);
      goes_on = λ i n. GoesOn-set files place i n new (rw there goes_on);
      rose = λ n. Rose-set files place n new h (rw there rose);
    }

-- one file has other bytes
pub ReplacesAt-set : (files : List MemFile) (place : ℕ) (old new : MemFile) → place < length files
    → old ≡ get_or files place old → new.name ≡ old.name → new.faults.value ≡ old.faults.value
    → ReplacesAt files place new.bytes.items (set files place new)
ReplacesAt-set files place old new h at name faults =
    let there : get_or files place new ≡ old = get_or_there files place old new h at in
    let same_name : string_bytes new.name ≡ string_bytes (get_or files place new).name =
    ap (λ n. string_bytes n) name ∙ ap (λ (f : MemFile). string_bytes f.name) (sym there) in
    let same_count : new.faults.value ≡ (get_or files place new).faults.value =
    faults ∙ ap (λ (f : MemFile). f.faults.value) (sym there) in
    record {
      length_is = length-set files place new;
      places = λ n. position_or_len-set (λ file. bytes_eq (string_bytes file.name) n) files place
          new new (ap (λ (m : List ℕ). bytes_eq m n) same_name);
      names = λ i. slice_get-set_alike (λ f. string_bytes f.name) files place i new same_name;
      counts = λ i. slice_get-set_alike (λ f. f.faults.value) files place i new same_count;
      others = λ i ne. ap (λ o. option_map (λ (f : MemFile). f.bytes.items) o)
          (slice_get-set_other files place i new ne);
      replaced = ap (λ o. option_map (λ (f : MemFile). f.bytes.items) o)
          (slice_get-set_same files place new h);
    }
