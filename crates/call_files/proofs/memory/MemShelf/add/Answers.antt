use Rattle.std.proofs.Common.{◌≡◌, ◌≢◌, ℕ, List, [], Option, Some}
use Rattle.std.proofs.Common.{length, drop, arith, ◌∙◌, ap, refl, rules}
use Rattle.std.specs.Prelude.{is_some, unwrap_or}
use Rattle.std.specs.Option.{option_and_then}
use Rattle.std.specs.String.{string_bytes}
use Rattle.call_files.specs.declared.memory_file.MemFile.{MemFile}
use Rattle.call_files.specs.MemoryFiles.{place_of, name_at, bytes_at}
use Rattle.call_files.proofs.PlaceLaws.{replaced_others, replaced_name, replaced_rest}
use Rattle.call_files.proofs.PlaceLaws.{name_at-place_of, added_counts}
use Rattle.call_files.proofs.memory.MemShelf.add.Goals as goal

pub returns-in-Some-clause-others : goal.returns-in-Some-clause-others
returns-in-Some-clause-others c =
    let found = c.in-Some.ensures.some in
    let old = c.args.self.now.files.items in
    let new = c.replace_at.new.files.items in
    let same : (other : List ℕ) → other ≢ c.args.name.now
    → bytes_at new (place_of new other) ≡ bytes_at old (place_of old other) =
    λ other ne. replaced_others old c.in-Some.place c.in_ok-bytes.bytes.items new c.args.name.now
    other c.replace_at.ensures found.0 found.1 ne in
    record {
      names = λ other ne. ap (λ (o : Option (List ℕ)). is_some o) (same other ne);
      bytes = λ other ne. ap (λ (o : Option (List ℕ)). unwrap_or o []) (same other ne);
    }

pub returns-in-Some-clause-reading : goal.returns-in-Some-clause-reading
returns-in-Some-clause-reading c = λ unread.
    let found = c.in-Some.ensures.some in
    let at = found.0 in
    let less = found.1 in
    let old = c.args.self.now.files.items in
    let new = c.replace_at.new.files.items in
    let started = c.args.self.now.started in
    let named : name_at old c.in-Some.place ≡ Some c.args.name.now =
    ap (λ (i : ℕ). name_at old i) at ∙ name_at-place_of old c.args.name.now (omega arith) in
    let apart : started ≢ Some c.in-Some.place =
    λ e. unread (ap (λ (o : Option ℕ). option_and_then (name_at old) o) e ∙ named) in
    let stays : c.without_place-self.result ≡ started = c.without_place-self.ensures.stays apart in
    record {
      name = ap (λ (o : Option ℕ). option_and_then (name_at new) o) stays
          ∙ replaced_name old new started c.replace_at.ensures.names;
      rest = ap (λ (o : Option (List ℕ)). drop c.args.self.now.taken (unwrap_or o []))
          (ap (λ (o : Option ℕ). option_and_then (bytes_at new) o) stays
          ∙ replaced_rest old new c.in-Some.place started c.replace_at.ensures.others apart);
      taken = refl;
      ended = refl;
    }

pub returns-in_ok-add_last-in-None-clause-counts : goal.returns-in_ok-add_last-in-None-clause-counts
returns-in_ok-add_last-in-None-clause-counts c = λ each.
    let old = c.args.self.now.files.items in
    let file : MemFile = record {
      name = c.in_ok-name-in-None.name;
      bytes = c.in_ok-bytes.bytes;
      faults = c.copy-faults.result;
    } in
    let none : place_of old c.args.name.now ≡ length old = search rules in
    let none_named : place_of old (string_bytes file.name) ≡ length old =
    ap (λ (n : List ℕ). place_of old n) c.in_ok-name-in-None.ensures.ok ∙ none in
    added_counts old file c.add_last.new.files.items c.args.self.now.missing.value each
    c.in_ok-add_last-in-None.ensures.ok none_named c.copy-faults.ensures
