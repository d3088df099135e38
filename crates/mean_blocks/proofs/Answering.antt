-- How the answer of an evaluation follows from those of its parts.
use Rattle.std.proofs.Common.{◌≡◌, ap, sym, subst, Result, Ok, Err}
use Rattle.mean_blocks.specs.declared.fault.BlockFault.{BlockFault}
use Rattle.mean_blocks.specs.declared.stop.Stop.{Stop}
use Rattle.mean_blocks.specs.declared.stop.Stop.TheVariants as stop
use Rattle.mean_blocks.specs.Outcome.{Outcome, Done, onward, lift}
use Rattle.mean_blocks.specs.AnswersOfCalls.{Answers, Says, IsMemory}

-- where a part stops, the whole stops
pub answers_stop : {S A B : Type 0} (o : Outcome S A) (go : A → S → Outcome S B) (e : Stop)
    (s t : S) → Answers o (Err e) s → Answers (onward o go) (Err e) t
answers_stop o go (stop.Fault f) s t h = ap (λ p. onward p go) h
answers_stop o go stop.Limit s t h = ap (λ p. onward p go) h
answers_stop o go (stop.Memory e) s t h = tt

-- where a part is done, the rest decides
pub onward_done : {S A B : Type 0} (o : Outcome S A) (go : A → S → Outcome S B) (a : A) (s : S)
    → o ≡ Done a s → onward o go ≡ go a s
onward_done o go a s h = ap (λ p. onward p go) h

-- what answers an outcome answers an equal one
pub answers_by : {S A : Type 0} (o p : Outcome S A) (r : Result A Stop) (s : S) → p ≡ o
    → Answers o r s → Answers p r s
answers_by o p r s q h = subst (λ x. Answers x r s) (sym q) h

-- that memory ran out answers anything
pub memory_answers : {S A : Type 0} (o : Outcome S A) (e : Stop) (s : S) → IsMemory e
    → Answers o (Err e) s
memory_answers o (stop.Memory e) s h = tt
memory_answers o (stop.Fault f) s h = absurd h
memory_answers o stop.Limit s h = absurd h

-- what is said of a result answers its evaluation
pub says_answers : {S A : Type 0} (x : Result A BlockFault) (r : Result A Stop) (s : S) → Says x r
    → Answers (lift x s) r s
says_answers x (Ok a) s h = ap (λ y. lift y s) h
says_answers x (Err (stop.Fault f)) s h = ap (λ y. lift y s) h
says_answers x (Err stop.Limit) s h = absurd h
says_answers x (Err (stop.Memory e)) s h = tt
