use Rattle.std.proofs.Common.{◌≡◌, ◌≢◌, ◌<◌, ℕ, true, false, length}
use Rattle.std.proofs.Common.{arith, ap, refl, sym, ◌∙◌, rules}
use Rattle.std.proofs.lemmas.Option.{same_Some}
use Rattle.call_files.specs.MemoryFiles.{place_of}
use Rattle.call_files.specs.CallNumbers.{is_listed}
use Rattle.call_files.specs.Memory.{holds, failing_of}
use Rattle.call_files.proofs.PlaceLaws.{one_place, place_of-le, count_at_default}
use Rattle.call_files.proofs.PlaceLaws.{name_at-place_of, first_started, held_at, raised_others}
use Rattle.call_files.proofs.memory.MemShelfShelf.start.Goals as goal

pub returns-in_default-clause-one_count : goal.returns-in_default-clause-one_count
returns-in_default-clause-one_count c = λ other apart.
    let files = c.args.self.now.files.items in
    let ne : place_of files other ≢ place_of files c.args.name.now =
    λ e. apart (one_place files other c.args.name.now e) in
    let none : place_of files c.args.name.now ≡ length files = search rules in
    let le = place_of-le files other in
    let less : place_of files other < length files = omega arith in
    count_at_default files (place_of files other) _ _ less

pub invariant_of-self-2 : goal.invariant_of-self-2
invariant_of-self-2 c =
    let files = c.args.self.now.files.items in
    let found = c.in-Some.ensures.some in
    record {
      chunked = c.args.self.now.chunked;
      held = λ x e. let same = same_Some c.in-Some.place x e in let less = found.1 in omega arith;
      first = λ x e read n. first_started files c.args.name.now c.in-Some.place x read found.0
          found.1 e n;
      not_past_end = λ x e bytes b. omega arith;
    }

pub returns-clause-reads : goal.returns-clause-reads
returns-clause-reads c =
    let found = c.in-Some.ensures.some in
    let at = found.0 in
    let less = found.1 in
    rw found.0 (name_at-place_of c.args.self.now.files.items c.args.name.now (omega arith))

pub returns-clause-answer : goal.returns-clause-answer
returns-clause-answer c =
    let found = c.in-Some.ensures.some in
    let at = found.0 in
    let less = found.1 in
    let held : holds c.args.self.now c.args.name.now ≡ true = held_at c.args.self.now.files.items
    (place_of c.args.self.now.files.items c.args.name.now) (omega arith) in
    let listed : is_listed (failing_of c.args.self.now) c.next_fails-fails.new.self.made ≡ false =
    ap (λ (n : ℕ). is_listed (failing_of c.args.self.now) n) c.next_fails-fails.ensures.made
    ∙ sym c.next_fails-fails.ensures.listed ∙ c.if-fails.false in
    rw (held, listed) refl

pub returns-then-fails-clause-one_count : goal.returns-then-fails-clause-one_count
returns-then-fails-clause-one_count c = λ other apart.
    raised_others c.args.self.now.files.items c.raise_at.new.files.items c.in-Some.place
    c.args.name.now other c.args.self.now.missing.value
    c.raise_at.ensures (sym c.in-Some.ensures.some.0) apart
