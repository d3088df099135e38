-- Names and places of files in memory.
use Rattle.std.proofs.Common.{◌≡◌, ◌≢◌, ℕ, ◌+◌, ◌<◌, ◌≤◌, zero, suc, List, [], ◌∷◌, ◌++◌, length}
use Rattle.std.proofs.Common.{get_or, Bool, true, false, Option, Some, None, IfSome, IfNone}
use Rattle.std.proofs.Common.{arith, ap, refl, sym, ◌∙◌, length-append, ◌⊎◌, inl, inr, cond}
use Rattle.std.specs.List.{slice_get, position, position_or_len}
use Rattle.std.specs.Option.{option_map, option_and_then}
use Rattle.std.specs.Prelude.{nat_lt, nat_eq, unwrap_or, is_some}
use Rattle.std.specs.String.{string_bytes}
use Rattle.std.specs.Str.{bytes_eq}
use Rattle.std.proofs.lemmas.List.Folds.{position_or_len_push}
use Rattle.std.proofs.lemmas.List.Sums.{prefix_len-le-length, passes_at_first}
use Rattle.std.proofs.lemmas.Option.{slice_get-get_or, slice_get_past, same_Some}
use Rattle.std.proofs.lemmas.Slice.Eq.{bytes_eq-Decides}
use Rattle.std.proofs.lemmas.Bool.Decides.{nat_tests}
use Rattle.call_files.specs.declared.memory_file.MemFile.{MemFile}
use Rattle.call_files.specs.MemoryFiles.{place_of, file_of, name_at, bytes_at}
use Rattle.call_files.specs.MemoryFiles.{count_at, AddsFile, ReplacesAt, RaisesAt}

-- two texts that are not equal
differs_from : (a b : List ℕ) → a ≢ b → bytes_eq a b ≡ false
differs_from a b ne = differs_by (bytes_eq a b) (λ e. ne ((bytes_eq-Decides a b).0 e))
  where
    differs_by : (t : Bool) → (t ≡ true → ⊥) → t ≡ false
    differs_by true h = absurd (h refl)
    differs_by false h = refl

-- the place of a name is one of the files, or their number
pub place_of-le : (files : List MemFile) (name : List ℕ) → place_of files name ≤ length files
place_of-le files name = prefix_len-le-length _ files

-- what `position` found
none_at_end : (n l : ℕ) → n ≤ l → None ≡ cond (nat_lt n l) (Some n) None → n ≡ l
none_at_end n l h e = grind (arith, nat_tests)

some_within : (n l i : ℕ) → Some i ≡ cond (nat_lt n l) (Some n) None → (i ≡ n) × (i < l)
some_within n l i e = grind (arith, nat_tests)

position_none : {X : Type 0} (p : X → Bool) (xs : List X) (r : Option ℕ) → r ≡ position p xs
    → IfNone r (position_or_len p xs ≡ length xs)
position_none p xs None e = none_at_end (position_or_len p xs) (length xs)
    (prefix_len-le-length _ xs) e
position_none p xs (Some i) e = tt

position_some : {X : Type 0} (p : X → Bool) (xs : List X) (r : Option ℕ) → r ≡ position p xs
    → IfSome r (λ i. (i ≡ position_or_len p xs) × (i < length xs))
position_some p xs None e = tt
position_some p xs (Some i) e = some_within (position_or_len p xs) (length xs) i e

pub no_place : (files : List MemFile) (name : List ℕ) (r : Option ℕ)
    → r ≡ position (λ file. bytes_eq (string_bytes file.name) name) files
    → IfNone r (place_of files name ≡ length files)
no_place files name r e = position_none (λ file. bytes_eq (string_bytes file.name) name) files r e

pub some_place : (files : List MemFile) (name : List ℕ) (r : Option ℕ)
    → r ≡ position (λ file. bytes_eq (string_bytes file.name) name) files
    → IfSome r (λ i. (i ≡ place_of files name) × (i < length files))
some_place files name r e = position_some (λ file. bytes_eq (string_bytes file.name) name) files r e

-- the file at the place of a name has this name
pub name_at-place_of : (files : List MemFile) (name : List ℕ) → place_of files name < length files
    → name_at files (place_of files name) ≡ Some name
name_at-place_of [] name h = absurd (omega arith)
name_at-place_of (f ∷ fs) name h =
    let p : MemFile → Bool = λ file. bytes_eq (string_bytes file.name) name in
    let at = get_or (f ∷ fs) (place_of (f ∷ fs) name) f in
    let same : string_bytes at.name ≡ name = (bytes_eq-Decides (string_bytes at.name) name).0
    (passes_at_first p (f ∷ fs) f h) in
    ap (λ o. option_map (λ (file : MemFile). string_bytes file.name) o)
    (slice_get-get_or (f ∷ fs) (place_of (f ∷ fs) name) f h)
    ∙ ap (λ (n : List ℕ). Some n) same

-- a file stands at each place below their number
pub name_at_there : (files : List MemFile) (i : ℕ) → i < length files → (name : List ℕ)
    × (name_at files i ≡ Some name)
name_at_there [] i h = absurd (omega arith)
name_at_there (f ∷ fs) zero h = (string_bytes f.name, refl)
name_at_there (f ∷ fs) (suc i) h = name_at_there fs i (omega arith)

pub bytes_at_there : (files : List MemFile) (i : ℕ) → i < length files → (bytes : List ℕ)
    × (bytes_at files i ≡ Some bytes)
bytes_at_there [] i h = absurd (omega arith)
bytes_at_there (f ∷ fs) zero h = (f.bytes.items, refl)
bytes_at_there (f ∷ fs) (suc i) h = bytes_at_there fs i (omega arith)

-- the default counts for nothing where there is a file
pub count_at_default : (files : List MemFile) (i m n : ℕ) → i < length files
    → unwrap_or (count_at files i) m ≡ unwrap_or (count_at files i) n
count_at_default [] i m n h = absurd (omega arith)
count_at_default (f ∷ fs) zero m n h = refl
count_at_default (f ∷ fs) (suc i) m n h = count_at_default fs i m n (omega arith)

-- elements of a list with one more after
slice_get-append_before : {X : Type 0} (xs ys : List X) (i : ℕ) → i < length xs
    → slice_get (xs ++ ys) i ≡ slice_get xs i
slice_get-append_before [] ys i h = absurd (omega arith)
slice_get-append_before (x ∷ xs) ys zero h = refl
slice_get-append_before (x ∷ xs) ys (suc i) h = slice_get-append_before xs ys i (omega arith)

slice_get-append_at : {X : Type 0} (xs : List X) (y : X)
    → slice_get (xs ++ y ∷ []) (length xs) ≡ Some y
slice_get-append_at [] y = refl
slice_get-append_at (x ∷ xs) y = slice_get-append_at xs y

slice_get-append_past : {X : Type 0} (xs : List X) (y : X)
    → slice_get (xs ++ y ∷ []) (length xs + 1) ≡ None
slice_get-append_past xs y = slice_get_past (xs ++ y ∷ []) (length xs + 1)
    (let e = length-append xs (y ∷ []) in omega arith)

-- a name that no file has is at no place
no_file : (files : List MemFile) (name : List ℕ) → place_of files name ≡ length files
    → file_of files name ≡ None
no_file files name e = slice_get_past files (place_of files name) (omega arith)

-- a file was put after the others
place_of-push : (files : List MemFile) (file : MemFile) (name : List ℕ) (n : ℕ) (b : Bool)
    → n ≡ place_of files name → n ≤ length files → b ≡ bytes_eq (string_bytes file.name) name
    → (n < length files → place_of (files ++ file ∷ []) name ≡ n)
    × (n ≡ length files → b ≡ true → place_of (files ++ file ∷ []) name ≡ length files)
    × (n ≡ length files → b ≡ false → place_of (files ++ file ∷ []) name ≡ length files + 1)
place_of-push files file name n b e h t =
    let p : MemFile → Bool = λ f. bytes_eq (string_bytes f.name) name in
    let push : place_of (files ++ file ∷ []) name
    ≡ cond (nat_eq (place_of files name) (length files)) (length files + cond (p file) 0 1)
    (place_of files name) =
    position_or_len_push p files file in
    (grind (arith, nat_tests), grind (arith, nat_tests), grind (arith, nat_tests))

added_file : (files : List MemFile) (file : MemFile) → place_of files (string_bytes file.name)
    ≡ length files
    → file_of (files ++ file ∷ []) (string_bytes file.name) ≡ Some file
added_file files file last =
    let name = string_bytes file.name in
    let same : bytes_eq name name ≡ true = (bytes_eq-Decides name name).1 refl in
    let at : place_of (files ++ file ∷ []) name ≡ length files =
    (place_of-push files file name (place_of files name) (bytes_eq name name) refl
    (place_of-le files name) refl).1 last same in
    ap (λ (i : ℕ). slice_get (files ++ file ∷ []) i) at ∙ slice_get-append_at files file

other_file : (files : List MemFile) (file : MemFile) (other : List ℕ)
    → other ≢ string_bytes file.name
    → (place_of files other < length files) ⊎ (place_of files other ≡ length files)
    → file_of (files ++ file ∷ []) other ≡ file_of files other
other_file files file other ne (inl less) =
    let push = place_of-push files file other (place_of files other)
    (bytes_eq (string_bytes file.name) other) refl (place_of-le files other) refl in
    ap (λ (i : ℕ). slice_get (files ++ file ∷ []) i) (push.0 less) ∙ slice_get-append_before files
    (file ∷ []) (place_of files other) less
other_file files file other ne (inr last) =
    let push = place_of-push files file other (place_of files other)
    (bytes_eq (string_bytes file.name) other) refl (place_of-le files other) refl in
    let differs : bytes_eq (string_bytes file.name) other ≡ false =
    differs_from (string_bytes file.name) other (λ e. ne (sym e)) in
    ap (λ (i : ℕ). slice_get (files ++ file ∷ []) i) (push.2 last differs)
    ∙ slice_get-append_past files file ∙ sym (no_file files other last)

-- one of two
below_or_at : (m n : ℕ) → m ≤ n → (m < n) ⊎ (m ≡ n)
below_or_at m n h = grind (arith, nat_tests)

pub AddsFile-push : (files : List MemFile) (file : MemFile)
    → place_of files (string_bytes file.name) ≡ length files
    → AddsFile files file (files ++ file ∷ [])
AddsFile-push files file last = record {
  added = added_file files file last;
  others = λ other ne. other_file files file other ne (below_or_at _ _ (place_of-le files other));
  files = λ i h. slice_get-append_before files (file ∷ []) i h;
  places = λ name h. (place_of-push files file name (place_of files name)
      (bytes_eq (string_bytes file.name) name) refl (place_of-le files name) refl).0 h;
  length_is = let e = length-append files (file ∷ []) in omega arith;
}

-- the counts of all names, where a file with the count of those that no file had was added
added_counts_by : (old : List MemFile) (file : MemFile) (new : List MemFile) (n : ℕ) (each : List ℕ)
    (b : Bool)
    → AddsFile old file new → place_of old (string_bytes file.name) ≡ length old
    → file.faults.value ≡ n
    → b ≡ bytes_eq each (string_bytes file.name)
    → unwrap_or (count_at new (place_of new each)) n ≡ unwrap_or (count_at old (place_of old each))
    n
added_counts_by old file new n each true adds last count e =
    let same : each ≡ string_bytes file.name = (bytes_eq-Decides each (string_bytes file.name)).0
    (sym e) in
    let after : file_of new each ≡ Some file = ap (λ (m : List ℕ). file_of new m) same
    ∙ adds.added in
    let before : file_of old each ≡ None = ap (λ (m : List ℕ). file_of old m) same
    ∙ no_file old (string_bytes file.name) last in
    let value : Option MemFile → ℕ = λ o. unwrap_or (option_map (λ f. f.faults.value) o) n in
    ap value after ∙ count ∙ sym (ap value before)
added_counts_by old file new n each false adds last count e =
    let differs : each ≢ string_bytes file.name = λ same. let t : true ≡ false =
    sym ((bytes_eq-Decides each (string_bytes file.name)).1 same) ∙ sym e in cc in
    let value : Option MemFile → ℕ = λ o. unwrap_or (option_map (λ f. f.faults.value) o) n in
    ap value (adds.others each differs)

pub added_counts : (old : List MemFile) (file : MemFile) (new : List MemFile) (n : ℕ)
    (each : List ℕ)
    → AddsFile old file new → place_of old (string_bytes file.name) ≡ length old
    → file.faults.value ≡ n
    → unwrap_or (count_at new (place_of new each)) n ≡ unwrap_or (count_at old (place_of old each))
    n
added_counts old file new n each adds last count = added_counts_by old file new n each
    (bytes_eq each (string_bytes file.name)) adds last count refl

-- the bytes of another name, where those of one were replaced
pub replaced_others : (old : List MemFile) (place : ℕ) (bytes : List ℕ) (new : List MemFile)
    (name other : List ℕ)
    → ReplacesAt old place bytes new → place ≡ place_of old name → place < length old → other ≢ name
    → bytes_at new (place_of new other) ≡ bytes_at old (place_of old other)
replaced_others old place bytes new name other r at h ne =
    let apart : place_of old other ≢ place = λ e.
    let first : name_at old (place_of old name) ≡ Some name = name_at-place_of old name
    (omega arith) in
    let second : name_at old (place_of old other) ≡ Some other = name_at-place_of old other
    (omega arith) in
    let both : Some other ≡ Some name = cc in
    ne (same_Some other name both)
    in ap (λ (i : ℕ). bytes_at new i) (r.places other) ∙ r.others (place_of old other) apart

-- the name and the bytes of the file that is read, where another one was replaced
pub replaced_name : (old new : List MemFile) (started : Option ℕ)
    → ((i : ℕ) → name_at new i ≡ name_at old i)
    → option_and_then (name_at new) started ≡ option_and_then (name_at old) started
replaced_name old new None h = refl
replaced_name old new (Some i) h = h i

pub replaced_rest : (old new : List MemFile) (place : ℕ) (started : Option ℕ)
    → ((i : ℕ) → i ≢ place → bytes_at new i ≡ bytes_at old i)
    → started ≢ Some place → option_and_then (bytes_at new) started ≡ option_and_then (bytes_at old)
    started
replaced_rest old new place None h ne = refl
replaced_rest old new place (Some i) h ne = h i (λ e. ne (ap (λ (n : ℕ). Some n) e))

-- a file that is started is the first of its name
pub first_started : (files : List MemFile) (name : List ℕ) (place x : ℕ) (read : List ℕ)
    → place ≡ place_of files name → place < length files → Some place ≡ Some x
    → name_at files x ≡ Some read → place_of files read ≡ x
first_started files name place x read at h e n =
    let same : place ≡ x = same_Some place x e in
    let there : name_at files (place_of files name) ≡ Some name = name_at-place_of files name
    (omega arith) in
    let both : Some read ≡ Some name = cc in
    let names : read ≡ name = same_Some read name both in
    cc

-- a name at a place below the number of files is held
pub held_at : (files : List MemFile) (i : ℕ) → i < length files → is_some (bytes_at files i) ≡ true
held_at [] i h = absurd (omega arith)
held_at (f ∷ fs) zero h = refl
held_at (f ∷ fs) (suc i) h = held_at fs i (omega arith)

-- names at one place have one count
one_place_by : (files : List MemFile) (a b : List ℕ) → place_of files a ≡ place_of files b
    → (place_of files a < length files) ⊎ (place_of files a ≡ length files)
    → (a ≡ b) ⊎ ((is_some (bytes_at files (place_of files a)) ≡ false)
    × (is_some (bytes_at files (place_of files b)) ≡ false))
one_place_by files a b e (inl less) =
    let first : name_at files (place_of files a) ≡ Some a = name_at-place_of files a less in
    let second : name_at files (place_of files b) ≡ Some b = name_at-place_of files b (omega arith)
    in
    let both : Some a ≡ Some b = cc in
    inl (same_Some a b both)
one_place_by files a b e (inr last) =
    let missing : Option MemFile → Bool = λ o. is_some (option_map (λ f. f.bytes.items) o) in
    inr (ap missing (no_file files a last), ap missing (no_file files b (sym e ∙ last)))

pub one_place : (files : List MemFile) (a b : List ℕ) → place_of files a ≡ place_of files b
    → (a ≡ b) ⊎ ((is_some (bytes_at files (place_of files a)) ≡ false)
    × (is_some (bytes_at files (place_of files b)) ≡ false))
one_place files a b e = one_place_by files a b e (below_or_at _ _ (place_of-le files a))

-- the count of another name, where that of one rose
pub raised_others : (old new : List MemFile) (place : ℕ) (name other : List ℕ) (n : ℕ)
    → RaisesAt old place new → place_of old name ≡ place
    → ((other ≡ name) ⊎ ((is_some (bytes_at old (place_of old other)) ≡ false)
    × (is_some (bytes_at old (place_of old name)) ≡ false)) → ⊥)
    → unwrap_or (count_at new (place_of new other)) n
    ≡ unwrap_or (count_at old (place_of old other)) n
raised_others old new place name other n r at apart =
    ap (λ (i : ℕ). unwrap_or (count_at new i) n) (r.places other)
    ∙ ap (λ (o : Option ℕ). unwrap_or o n) (r.counts (place_of old other)
    (λ e. apart (one_place old other name (e ∙ sym at))))
