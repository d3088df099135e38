-- Names with subscripts that statements name, and instances that begin.
use Rattle.std.proofs.Common.{◌≡◌, sym, ap, ◌∙◌, ℕ, List, [], Some, Err}
use Rattle.std.specs.Prelude.{ℤ}
use Rattle.est_syntax.specs.declared.body.Body.{Body, out-Body}
use Rattle.est_syntax.specs.declared.expression.Access.{Access}
use Rattle.est_syntax.specs.declared.name.Used.{Used}
use Rattle.mean_blocks.specs.declared.frame.Slot.{Slot}
use Rattle.mean_blocks.specs.declared.situation.Element.{Element}
use Rattle.mean_blocks.specs.declared.stop.Stop.{Stop}
use Rattle.mean_blocks.specs.AnswersOfCalls.{Answers}
use Rattle.mean_blocks.specs.ExpressionValues.{subscripts_in}
use Rattle.mean_blocks.specs.InstanceEffects.{born}
use Rattle.mean_blocks.specs.InstancePoints.{accessed}
use Rattle.mean_blocks.specs.NamesInRuns.{declared_at, dims_at}
use Rattle.mean_blocks.specs.Outcome.{Done, onward, ◌>>=◌, ◌>>◌, known}
use Rattle.mean_blocks.specs.StatementEffects.{initialized}
use Rattle.mean_blocks.specs.TextByPlace.{body_at}
use Rattle.mean_blocks.specs.WorkingState.{State, Site, View, Counts, changes}
use Rattle.mean_blocks.proofs.Answering.{answers_by, answers_stop}
use Rattle.plain_effects.specs.SystemSteps.{begun_by}

-- what is declared under a name, with its subscripts
pub accessed_runs : {A : Type 0} (a : Access) (go : ℕ → List ℤ → Counts A) (v : View) (n m p : ℕ)
    (zs : List ℤ) → Some p ≡ declared_at v.site.text.outline a.name
    → subscripts_in a.index (dims_at v.site.text.outline p) [] v n ≡ Done zs m
    → accessed a go v n ≡ go p zs m
accessed_runs a go v n m p zs h k =
    ap (λ q. (known q
    >>= λ p. subscripts_in a.index (dims_at v.site.text.outline p) [] v >>= go p) n) (sym h)
    ∙ ap (λ o. onward o (go p)) k

-- an instance that cannot begin
pub begun_stops : (e : Element) (body : Used) (xs : List Slot) (site : Site) (s : State) (p : ℕ)
    (x : Body) (f : Stop) (t u : State) → Some p ≡ declared_at site.text.outline body
    → Some x ≡ body_at site.text p
    → Answers (changes (born site.text site.instance e p xs) s) (Err f) t
    → Answers (begun_by e body xs site s) (Err f) u
begun_stops e body xs site s p x f t u h k l = answers_by
    (onward (changes (born site.text site.instance e p xs) s)
    (λ _. initialized s.situation.next (out-Body x).first site)) (begun_by e body xs site s) (Err f)
    u
    (ap (λ q. (known q >>= λ b. known (body_at site.text b) >>= λ x.
    λ s. (changes (born site.text site.instance e b xs)
    >> initialized s.situation.next (out-Body x).first site) s) s) (sym h)
    ∙ ap (λ q. (known q >>= λ x. λ s. (changes (born site.text site.instance e p xs)
    >> initialized s.situation.next (out-Body x).first site) s) s) (sym k))
    (answers_stop (changes (born site.text site.instance e p xs) s)
    (λ _. initialized s.situation.next (out-Body x).first site) f t u l)
