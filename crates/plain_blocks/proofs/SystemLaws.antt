-- Statements that evaluate and then change the system.
use Rattle.std.proofs.Common.{◌≡◌, refl, sym, ap, ◌∙◌, subst, ℕ, suc, ◌<◌, List, [], length}
use Rattle.std.proofs.Common.{get_or, drop, Bool, false, Some, Result, Ok, Err}
use Rattle.plain_effects.specs.plain_systems.declared.system.Working.{Working}
use Rattle.plain_effects.specs.plain_systems.HeldSystems.{state_of, LooksSame}
use Rattle.est_syntax.specs.declared.body.FirstPart.{FirstPart}
use Rattle.est_syntax.specs.declared.statement.Sending.{Sending}
use Rattle.mean_blocks.specs.rule_scope.declared.declaration.Sort.TheVariants as sort
use Rattle.mean_blocks.specs.declared.stop.Stop.{Stop}
use Rattle.mean_blocks.specs.declared.stop.Stop.TheVariants as stop
use Rattle.mean_blocks.specs.AnswersOfCalls.{Answers}
use Rattle.mean_blocks.specs.FunctionCalls.{frame_of}
use Rattle.mean_blocks.specs.GlobalSituation.{Frame}
use Rattle.mean_blocks.specs.NamesInRuns.{places_of}
use Rattle.mean_blocks.specs.Outcome.{Outcome, Done, onward, ◌>>=◌, ◌>>◌, lift}
use Rattle.mean_blocks.specs.StatementEffects.{initialized, first_reached, all_sent}
use Rattle.mean_blocks.specs.TextByPlace.{first_region, first_statements}
use Rattle.mean_blocks.specs.WorkingState.{State, View, Counts, Does, counting, evaluated}
use Rattle.mean_blocks.specs.WorkingState.{changes}
use Rattle.mean_blocks.specs.WorkingState as semantics
use Rattle.mean_blocks.specs.WriteEffects.{acts, framed}
use Rattle.mean_blocks.proofs.Answering.{answers_by, answers_stop}
use Rattle.plain_effects.specs.plain_operands.declared.site.Site.{Site}
use Rattle.plain_effects.specs.plain_operands.ExecutionSites.{site_of, view_of}
use Rattle.plain_effects.specs.SystemSteps.{sent_one}
use Rattle.plain_blocks.proofs.LoopSteps.{drop_item, view_same, looks_after}
use Rattle.plain_blocks.proofs.StatementSteps.{state_same}

-- what no function does is done where this is none
pub acted : (b : Bool) (m : Does) (s t : State) (r : Result (Unit {0}) Stop) → b ≡ false
    → Answers (m s) r t → Answers (acts b m s) r t
acted b m s t r h k = answers_by (m s) (acts b m s) r t (ap (λ x. acts x m s) h) k

stopped : {A B : Type 0} (o : Outcome ℕ A) (s : State) (go : A → State → Outcome State B) (e : Stop)
    (l : ℕ) (t : State) → Answers o (Err e) l → Answers (onward (counting s o) go) (Err e) t
stopped o s go (stop.Fault f) l t h = ap (λ p. onward (counting s p) go) h
stopped o s go stop.Limit l t h = ap (λ p. onward (counting s p) go) h
stopped o s go (stop.Memory e) l t h = tt

-- one evaluation, and a change
pub one_answers : {A : Type 0} (f : View → Counts A) (go : A → Does) (d : Site) (w u x : Working)
    (n k : ℕ) (a : A) (r : Result (Unit {0}) Stop) → f (view_of d w) n ≡ Done a k → LooksSame w u
    → ((j : ℕ) → Answers (go a (state_of u j)) r (state_of x j))
    → Answers ((evaluated (site_of d) f >>= go) (state_of w n)) r (state_of x k)
one_answers f go d w u x n k a r h l m = answers_by (go a (state_of w k))
    ((evaluated (site_of d) f >>= go) (state_of w n)) r (state_of x k)
    (ap (λ o. onward (counting (state_of w n) o) go) h)
    (subst (λ s. Answers (go a s) r (state_of x k)) (state_same w u k l) (m k))

-- two evaluations, and what is done after them
module _ {A B : Type 0} (f : View → Counts A) (g : View → Counts B) (go : A → B → Does) (d : Site)
    (w u : Working) (n k l : ℕ) (a : A) (h : f (view_of d w) n ≡ Done a k) (same : LooksSame w u)
  where
    pub two_answers : (x : Working) (b : B) (r : Result (Unit {0}) Stop) (t : State)
        → g (view_of d u) k ≡ Done b l → LooksSame u x → Answers (go a b (state_of x l)) r t
        → Answers ((evaluated (site_of d) f >>= λ a. evaluated (site_of d) g >>= go a) (state_of w n))
        r t
    two_answers x b r t i q m = answers_by (go a b (state_of w l))
        ((evaluated (site_of d) f >>= λ a. evaluated (site_of d) g >>= go a) (state_of w n)) r t
        (ap (λ o. onward (counting (state_of w n) o) (λ a. evaluated (site_of d) g >>= go a)) h
        ∙ ap (λ o. onward (counting (state_of w k) o) (go a))
        (ap (λ v. g v k) (sym (view_same d w u same)) ∙ i))
        (subst (λ s. Answers (go a b s) r t) (state_same w x l (looks_after w u x same q)) m)

    pub two_stops : (e : Stop) (t : State) → Answers (g (view_of d u) k) (Err e) l
        → Answers ((evaluated (site_of d) f >>= λ a. evaluated (site_of d) g >>= go a) (state_of w n))
        (Err e) t
    two_stops e t i = answers_by (onward (counting (state_of w k) (g (view_of d w) k)) (go a))
        ((evaluated (site_of d) f >>= λ a. evaluated (site_of d) g >>= go a) (state_of w n)) (Err e) t
        (ap (λ o. onward (counting (state_of w n) o) (λ a. evaluated (site_of d) g >>= go a)) h)
        (stopped (g (view_of d w) k) (state_of w k) (go a) e l t
        (subst (λ v. Answers (g v k) (Err e) l) (view_same d w u same) i))

-- an initialize part up to its first state
pub initialized_runs : (n : ℕ) (f : FirstPart) (site : semantics.Site) (s t : State) (frame : Frame)
    → frame_of site.text.outline (places_of site.text.outline sort.Variable (first_region f)) []
    ≡ Ok frame → framed frame (site.deeper n false (first_statements f)) s ≡ Done tt t
    → initialized n (Some f) site s
    ≡ changes (λ s. Ok (first_reached site.text.outline n f s)) t
initialized_runs n f site s t frame h k =
    ap (λ x. (lift x >>= λ frame. framed frame (site.deeper n false (first_statements f))
    >> changes (λ s. Ok (first_reached site.text.outline n f s))) s) h
    ∙ ap (λ o. onward o (λ _. changes (λ s. Ok (first_reached site.text.outline n f s)))) k

-- interactions of an output, one of which stops
pub sent_stop : (xs : List Sending) (i : ℕ) (x d : Sending) (site : semantics.Site) (s t : State)
    (e : Stop) → i < length xs → x ≡ get_or xs i d → Answers (sent_one x site s) (Err e) t
    → Answers (all_sent (drop i xs) site s) (Err e) t
sent_stop xs i x d site s t e h q k = answers_by
    (onward (sent_one x site s) (λ _. all_sent (drop (suc i) xs) site))
    (all_sent (drop i xs) site s) (Err e) t
    (ap (λ l. all_sent l site s) (drop_item xs i (suc i) x d h q refl))
    (answers_stop (sent_one x site s) (λ _. all_sent (drop (suc i) xs) site) e t t k)
