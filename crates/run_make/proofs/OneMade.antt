-- One thing is made of one seed.
use Rattle.std.proofs.Common.{◌≡◌, refl, sym, ap, subst, ◌∙◌, ℕ, ◌+◌, ◌/◌, ◌%◌, ◌<◌, ◌≤◌, ◌⊎◌}
use Rattle.std.proofs.Common.{inl, inr, arith, List, [], ◌∷◌, length, slice_get, Some}
use Rattle.std.proofs.Common.{reverse}
use Rattle.std.proofs.lemmas.List.{reverse-reverse}
use Rattle.std.proofs.lemmas.Option.{same_Some}
use Rattle.rand_core.specs.Stream.{Stream}
use Rattle.est_syntax.specs.Least.{IsIn}
use Rattle.est_syntax.specs.declared.ports.Port.{Port}
use Rattle.est_syntax.specs.declared.ports.Signal.{Signal}
use Rattle.est_syntax.proofs.Members.{in_at}
use Rattle.est_meaning.specs.rule_declares.PortList.{ports_of}
use Rattle.est_meaning.specs.mean_blocks.GlobalSituation.{Situation}
use Rattle.est_meaning.specs.mean_blocks.Outcome.{Done, Fault}
use Rattle.est_meaning.specs.mean_blocks.TextByPlace.{text_of}
use Rattle.est_meaning.specs.declared.event.Event.{Event}
use Rattle.est_meaning.specs.declared.event.Event.TheVariants as event
use Rattle.est_meaning.specs.declared.event.Interaction.{Interaction}
use Rattle.est_meaning.specs.declared.firing.Firing.{Firing}
use Rattle.est_meaning.specs.FiringSteps.{outcome}
use Rattle.est_meaning.specs.RecordedTraces.{known_trace}
use Rattle.est_meaning.specs.TransitionSelection.{IsSettled}
use Rattle.est_meaning.proofs.Steps.{possible_settled, steps_unique}
use Rattle.est_meaning.specs.FiringOrder.{FiringBefore, IsBeforeAll, IsAscending}
use Rattle.est_meaning.specs.PossibleFirings.{AreOptions}
use Rattle.est_meaning.specs.declared.run.Move.{Move}
use Rattle.run_make.specs.declared.made.Made.TheVariants as made
use Rattle.run_make.specs.declared.arrivals.Arrival.{Arrival}
use Rattle.run_make.specs.Recipe.{Task, Standing, Chooses, HoldsBack, DrawsInteraction, DrawsTime}
use Rattle.run_make.specs.Recipe.{DrawsOutside, Draws, PassesLimit, Leads, Makes, IsMade}
use Rattle.run_make.specs.Recipe.{first_standing, after_step, after_fault, after_outside, OneIsMade}
use Rattle.run_make.specs.Recipe as recipe
use Rattle.est_meaning.specs.FiringSteps.{IsStep}
use Rattle.run_make.specs.Arrivals.{arrivals_of}
use Rattle.run_make.specs.DrawnValues.{DrawsValues}
use Rattle.run_make.specs.Words.{IsDrawn}
use Rattle.run_make.proofs.DrawnOnce.{word_once, values_once}

-- THE POSSIBLE FIRINGS

before_not : (f g : Firing) → FiringBefore f g → FiringBefore g f → ⊥
unfolding FiringBefore
before_not f g a b = grind arith

before_in : (f g : Firing) (fs : List Firing) → IsBeforeAll f fs → IsIn g fs → FiringBefore f g
before_in f g [] all at = absurd at
before_in f g (h ∷ fs) all at =
    elim at [
      | inl e ↦ subst (FiringBefore f) e all.0
      | inr later ↦ before_in f g fs all.1 later
    ]

heads_same : (f g : Firing) (fs gs : List Firing) → IsBeforeAll f fs → IsBeforeAll g gs
    → IsIn f (g ∷ gs) → IsIn g (f ∷ fs) → f ≡ g
heads_same f g fs gs all each a b =
    elim a [
      | inl e ↦ sym e
      | inr x ↦ elim b [
        | inl e ↦ e
        | inr y ↦ absurd (before_not g f (before_in g f gs each x) (before_in f g fs all y))
      ]
    ]

tail_in : (f g h : Firing) (fs gs : List Firing) → f ≡ g → IsBeforeAll f fs → IsIn h fs
    → IsIn h (g ∷ gs) → IsIn h gs
tail_in f g h fs gs e all at there =
    elim there [
      | inl is ↦ (let b : FiringBefore f h = before_in f h fs all at in
          let same : h ≡ f = sym is ∙ sym e in
          let c : FiringBefore f f = subst (FiringBefore f) same b in
          absurd (before_not f f c c))
      | inr later ↦ later
    ]

ascending_once : (fs gs : List Firing) → IsAscending fs → IsAscending gs
    → ((f : Firing) → IsIn f fs → IsIn f gs) → ((f : Firing) → IsIn f gs → IsIn f fs) → fs ≡ gs
ascending_once [] [] a b on back = refl
ascending_once [] (g ∷ gs) a b on back = absurd (back g (inl refl))
ascending_once (f ∷ fs) [] a b on back = absurd (on f (inl refl))
ascending_once (f ∷ fs) (g ∷ gs) a b on back =
    let head : f ≡ g = heads_same f g fs gs a.0 b.0 (on f (inl refl)) (back g (inl refl)) in
    let tail : fs ≡ gs = ascending_once fs gs a.1 b.1
    (λ h at. tail_in f g h fs gs head a.0 at (on h (inr at)))
    (λ h at. tail_in g f h gs fs (sym head) b.0 at (back h (inr at))) in
    λ i. head i ∷ tail i

options_once : (t : Task) (s : Situation) (fs gs : List Firing)
    → AreOptions t.limit (text_of t.spec) s fs → AreOptions t.limit (text_of t.spec) s gs → fs ≡ gs
options_once t s fs gs a b = ascending_once fs gs a.ascending b.ascending
    (λ f at. b.complete f (a.sound f at)) (λ f at. a.complete f (b.sound f at))

-- FIRINGS

chosen_once : (t : Task) (p : Standing) (w v : ℕ) (f g : Firing) → w ≡ v → Chooses t p w f
    → Chooses t p v g → f ≡ g
chosen_once t p w v f g e a b =
    let same : a.firings ≡ b.firings = options_once t p.situation a.firings b.firings a.options
    b.options in
    let at : slice_get a.firings (w / 4 % length a.firings)
    ≡ slice_get b.firings (v / 4 % length b.firings) =
    λ i. slice_get (same i) (e i / 4 % length (same i)) in
    same_Some f g (sym a.chosen ∙ at ∙ b.chosen)

chosen_not_held : (t : Task) (p : Standing) (w v : ℕ) (f : Firing) → w ≡ v → Chooses t p w f
    → HoldsBack t p v → ⊥
chosen_not_held t p w v f e a (recipe.unasked none) =
    none (subst (recipe.AsksToFire t p) e a.asks)
chosen_not_held t p w v f e a (recipe.impossible settled options) =
    options.complete f (a.options.sound f (in_at a.firings (w / 4 % length a.firings) f a.chosen))

chosen_settled : (t : Task) (p : Standing) (w : ℕ) (f : Firing) → Chooses t p w f
    → IsSettled t.limit (text_of t.spec) p.situation
chosen_settled t p w f a = possible_settled t.limit (text_of t.spec) p.situation f
    (a.options.sound f (in_at a.firings (w / 4 % length a.firings) f a.chosen))

-- WHAT THE OUTSIDE DOES

record SameEvent (e g : Event) (left more : Stream) : Type 0 where
  event_is : e ≡ g
  left_is : left ≡ more

interaction_once : (ports : List Port) (w v : ℕ) (words others left more : Stream)
    (i j : Interaction) → w ≡ v → words ≡ others → DrawsInteraction ports w words i left
    → DrawsInteraction ports v others j more
    → SameEvent (event.Arrives i) (event.Arrives j) left more
interaction_once ports w v words others left more i j e same a b =
    let list = arrivals_of ports in
    let at : a.arrival ≡ b.arrival = same_Some a.arrival b.arrival (sym a.chosen
    ∙ ap (λ n. slice_get list (n / 2 % length list)) e ∙ b.chosen) in
    let port : a.port ≡ b.port = same_Some a.port b.port (sym a.port_is
    ∙ ap (λ (x : Arrival). slice_get ports x.port) at ∙ b.port_is) in
    let signal : a.signal ≡ b.signal = same_Some a.signal b.signal (sym a.signal_is
    ∙ (λ k. slice_get (port k).signals (at k).signal) ∙ b.signal_is) in
    let d = subst (λ (x : Signal). DrawsValues x.kinds others j.values more) (sym signal)
    (b.values) in
    let d' = subst (λ (s : Stream). DrawsValues a.signal.kinds s j.values more) (sym same) d in
    let both = values_once a.signal.kinds words left more i.values j.values a.values d' in
    let number : i.port ≡ j.port = a.port_number ∙ ap (λ (x : Arrival). x.port) at
    ∙ sym b.port_number in
    let place : i.signal ≡ j.signal = a.signal_number ∙ ap (λ (x : Arrival). x.signal) at
    ∙ sym b.signal_number in
    record {
      event_is = (λ k. event.Arrives (record {
        port = number k;
        signal = place k;
        values = both.values k;
      }));
      left_is = both.left_is;
    }

none_chosen : (list : List Arrival) (n : ℕ) (a : Arrival) → list ≡ []
    → slice_get list (n % length list) ≡ Some a → ⊥
none_chosen [] n a e chosen = cc
none_chosen (x ∷ xs) n a e chosen = cc

-- a word by which an interaction arrives has no time pass
interaction_not_time : (ports : List Port) (w v units : ℕ) (words left : Stream) (i : Interaction)
    → w ≡ v → DrawsInteraction ports w words i left → DrawsTime ports v units → ⊥
interaction_not_time ports w v units words left i e a b =
    elim b.none [
      | inl odd ↦ (let even = a.even in absurd (omega arith))
      | inr none ↦ none_chosen (arrivals_of ports) (w / 2) a.arrival none a.chosen
    ]

outside_once : (ports : List Port) (words others left more : Stream) (e g : Event)
    → words ≡ others → DrawsOutside ports words e left → DrawsOutside ports others g more
    → SameEvent e g left more
outside_once ports words others left more e g same (recipe.arrives w next i d a)
    (recipe.arrives v after j f b) =
    let one = word_once others w v next after (subst (λ (s : Stream). IsDrawn s w next) same d) f in
    interaction_once ports w v next after left more i j one.word one.left_is a b
outside_once ports words others left more e g same (recipe.passes w units d a)
    (recipe.passes v more_units f b) =
    let one = word_once others w v left more (subst (λ (s : Stream). IsDrawn s w left) same d) f in
    let n : units ≡ more_units = a.units_are ∙ ap (λ x. x / 2 % 10 + 1) one.word
    ∙ sym b.units_are in
    record { event_is = ap (λ x. event.Passes x) n; left_is = one.left_is }
outside_once ports words others left more e g same (recipe.arrives w next i d a)
    (recipe.passes v units f b) =
    let one = word_once others w v next more (subst (λ (s : Stream). IsDrawn s w next) same d) f in
    absurd (interaction_not_time ports w v units next left i one.word a b)
outside_once ports words others left more e g same (recipe.passes w units d a)
    (recipe.arrives v next i f b) =
    let one = word_once others v w next left f (subst (λ (s : Stream). IsDrawn s w left) same d) in
    absurd (interaction_not_time ports v w units next more i one.word b a)

-- DRAWS

draws_once : (t : Task) (p q r : Standing) → Draws t p q → Draws t p r → q ≡ r
draws_once t p q r (recipe.fires w left f s outs d c step)
    (recipe.fires v more g u others e k other) =
    let one = word_once p.words w v left more d e in
    let same : f ≡ g = chosen_once t p w v f g one.word c k in
    let step' = subst (λ (h : Firing). IsStep t.limit (text_of t.spec) p.situation h u
    others) (sym same) other in
    let both = steps_unique t.limit (text_of t.spec) p.situation f s u outs others step step' in
    λ i. after_step p (one.left_is i) (same i) (both.0 i) (both.1 i)
draws_once t p q r (recipe.faults w left f fault d c x) (recipe.faults v more g other e k y) =
    ap (after_fault p) (word_once p.words w v left more d e).left_is
draws_once t p q r (recipe.happens w next left e d h x) (recipe.happens v after more g f k y) =
    let one = word_once p.words w v next after d f in
    let both = outside_once (ports_of t.spec) next after left more e g one.left_is x y in
    λ i. after_outside t p (both.left_is i) (both.event_is i)
draws_once t p q r (recipe.fires w left f s outs d c step) (recipe.faults v more g fault e k y) =
    let one = word_once p.words w v left more d e in
    let same : f ≡ g = chosen_once t p w v f g one.word c k in
    let o : outcome t.limit (text_of t.spec) p.situation g ≡ Done outs s =
    subst (λ (h : Firing). outcome t.limit (text_of t.spec) p.situation h ≡ Done outs s) same
    step.done in
    absurd cc
draws_once t p q r (recipe.faults w left f fault d c x) (recipe.fires v more g s outs e k step) =
    let one = word_once p.words w v left more d e in
    let same : f ≡ g = chosen_once t p w v f g one.word c k in
    let o : outcome t.limit (text_of t.spec) p.situation f ≡ Done outs s =
    subst (λ (h : Firing). outcome t.limit (text_of t.spec) p.situation h ≡ Done outs s)
    (sym same) step.done in
    absurd cc
draws_once t p q r (recipe.fires w left f s outs d c step) (recipe.happens v next more e x h y) =
    absurd (chosen_not_held t p w v f (word_once p.words w v left next d x).word c h)
draws_once t p q r (recipe.faults w left f fault d c z) (recipe.happens v next more e x h y) =
    absurd (chosen_not_held t p w v f (word_once p.words w v left next d x).word c h)
draws_once t p q r (recipe.happens v next more e x h y) (recipe.fires w left f s outs d c step) =
    absurd (chosen_not_held t p w v f (word_once p.words w v left next d x).word c h)
draws_once t p q r (recipe.happens v next more e x h y) (recipe.faults w left f fault d c z) =
    absurd (chosen_not_held t p w v f (word_once p.words w v left next d x).word c h)

-- where a limit is passed no draw leads on
passes_no_draw : (t : Task) (p q : Standing) → PassesLimit t p → Draws t p q → ⊥
passes_no_draw t p q (recipe.guards w left d asks off) (recipe.fires v more f s outs e c step) =
    off (chosen_settled t p v f c)
passes_no_draw t p q (recipe.guards w left d asks off) (recipe.faults v more f fault e c x) =
    off (chosen_settled t p v f c)
passes_no_draw t p q (recipe.guards w left d asks off)
    (recipe.happens v next more e x (recipe.unasked none) y) =
    none (subst (recipe.AsksToFire t p) (word_once p.words w v left next d x).word asks)
passes_no_draw t p q (recipe.guards w left d asks off)
    (recipe.happens v next more e x (recipe.impossible settled options) y) = off settled
passes_no_draw t p q (recipe.block w left f d c o) (recipe.fires v more g s outs e k step) =
    let same : f ≡ g = chosen_once t p w v f g (word_once p.words w v left more d e).word c k in
    let done : outcome t.limit (text_of t.spec) p.situation f ≡ Done outs s =
    subst (λ (h : Firing). outcome t.limit (text_of t.spec) p.situation h ≡ Done outs s)
    (sym same) step.done in
    absurd cc
passes_no_draw t p q (recipe.block w left f d c o) (recipe.faults v more g fault e k y) =
    let same : f ≡ g = chosen_once t p w v f g (word_once p.words w v left more d e).word c k in
    let faulted : outcome t.limit (text_of t.spec) p.situation f ≡ Fault fault =
    subst (λ (h : Firing). outcome t.limit (text_of t.spec) p.situation h ≡ Fault fault)
    (sym same) y in
    absurd cc
passes_no_draw t p q (recipe.block w left f d c o) (recipe.happens v next more e x h y) =
    chosen_not_held t p w v f (word_once p.words w v left next d x).word c h

-- CHAINS OF DRAWS

-- a chain is empty or begins with a draw
data Begins (t : Task) (count : ℕ) (p r : Standing) : Type 0 where
  empty : p ≡ r → Begins t count p r
  first : (q : Standing) → length p.events < count → Draws t p q → Leads t count q r
      → Begins t count p r

begins_on : (t : Task) (count : ℕ) (p q r : Standing) → Begins t count p q
    → length q.events < count → Draws t q r → Begins t count p r
begins_on t count p q r (empty e) short d =
    first r (subst (λ (x : Standing). length x.events < count) (sym e) short)
    (subst (λ (x : Standing). Draws t x r) (sym e) d) recipe.here
begins_on t count p q r (first n less x leads) short d =
    first n less x (recipe.further leads short d)

begins : (t : Task) (count : ℕ) (p r : Standing) → Leads t count p r → Begins t count p r
begins t count p r recipe.here = empty refl
begins t count p r (recipe.further {q = q} leads short d) =
    begins_on t count p q r (begins t count p q leads) short d

-- of two chains one goes on with the other
chains_meet : (t : Task) (count : ℕ) (p q r : Standing) → Leads t count p q → Leads t count p r
    → Leads t count q r ⊎ Leads t count r q
chains_meet t count p q r recipe.here other = inl other
chains_meet t count p q r (recipe.further {q = m} leads short d) other =
    elim (chains_meet t count p m r leads other) [
      | inl on ↦ goes (begins t count m r on)
      | inr back ↦ inr (recipe.further back short d)
    ]
  where
    goes : Begins t count m r → Leads t count q r ⊎ Leads t count r q
    goes (empty e) = inr (subst (λ (x : Standing). Leads t count x q) e
        (recipe.further recipe.here short d))
    goes (first n less x on) = inl (subst (λ (y : Standing). Leads t count y r)
        (sym (draws_once t m q n d x)) on)

-- a standing from which no draw leads on
abbrev IsEnd : Task → ℕ → Standing → Type 0
IsEnd t count p = (q : Standing) → length p.events < count → Draws t p q → ⊥

end_same : (t : Task) (count : ℕ) (p q : Standing) → IsEnd t count p → Leads t count p q → p ≡ q
end_same t count p q last leads = by (begins t count p q leads)
  where
    by : Begins t count p q → p ≡ q
    by (empty e) = e
    by (first n less d on) = absurd (last n less d)

ends_meet : (t : Task) (count : ℕ) (p q r : Standing) → Leads t count p q → Leads t count p r
    → IsEnd t count q → IsEnd t count r → q ≡ r
ends_meet t count p q r a b last end =
    elim (chains_meet t count p q r a b) [
      | inl on ↦ end_same t count q r last on
      | inr back ↦ sym (end_same t count r q end back)
    ]

enough_ends : (t : Task) (count : ℕ) (p : Standing) → count ≤ length p.events → IsEnd t count p
enough_ends t count p enough q short d = absurd (omega arith)

limit_ends : (t : Task) (count : ℕ) (p : Standing) → PassesLimit t p → IsEnd t count p
limit_ends t count p passes q short d = passes_no_draw t p q passes d

-- ONE THING

-- what is made from the start ends in one standing
makes_once : (t : Task) (seed count : ℕ) (p q : Standing) → Makes t seed count p
    → Makes t seed count q → IsEnd t count p → IsEnd t count q → p ≡ q
makes_once t seed count p q a b last end =
    let e : Done a.outs a.start ≡ Done b.outs b.start = sym a.ready ∙ b.ready in
    let start : a.start ≡ b.start = cc in
    let outs : a.outs ≡ b.outs = cc in
    let leads : Leads t count (first_standing seed a.start a.outs) q =
    subst (λ (x : Standing). Leads t count x q)
    (sym (λ i. first_standing seed (start i) (outs i))) b.leads in
    ends_meet t count (first_standing seed a.start a.outs) p q a.leads leads last end

run_same : (run more : List Move) (p q : Standing) → reverse run ≡ p.run → reverse more ≡ q.run
    → p ≡ q → run ≡ more
run_same run more p q a b e =
    sym (reverse-reverse run) ∙ ap reverse (a ∙ ap (λ (x : Standing). x.run) e ∙ sym b)
    ∙ reverse-reverse more

pub one_made : OneIsMade
one_made t seed count (made.Trace trace run) (made.Trace other more) a b =
    let e = makes_once t seed count a.last b.last a.makes b.makes
    (enough_ends t count a.last a.enough) (enough_ends t count b.last b.enough) in
    let traces : trace ≡ other = a.trace_is ∙ ap (λ (x : Standing). known_trace x.events) e
    ∙ sym b.trace_is in
    let runs : run ≡ more = run_same run more a.last b.last a.run_is b.run_is e in
    λ i. made.Trace (traces i) (runs i)
one_made t seed count (made.Limit run) (made.Limit more) a b =
    let e = makes_once t seed count a.last b.last a.makes b.makes
    (limit_ends t count a.last a.passes) (limit_ends t count b.last b.passes) in
    ap (λ (x : List Move). made.Limit x) (run_same run more a.last b.last a.run_is b.run_is e)
one_made t seed count (made.Trace trace run) (made.Limit more) a b =
    let e = makes_once t seed count a.last b.last a.makes b.makes
    (enough_ends t count a.last a.enough) (limit_ends t count b.last b.passes) in
    let many : length a.last.events ≡ length b.last.events =
    ap (λ (x : Standing). length x.events) e in
    let enough = a.enough in
    let short = b.short in
    absurd (omega arith)
one_made t seed count (made.Limit run) (made.Trace other more) a b =
    let e = makes_once t seed count a.last b.last a.makes b.makes
    (limit_ends t count a.last a.passes) (enough_ends t count b.last b.enough) in
    let many : length a.last.events ≡ length b.last.events =
    ap (λ (x : Standing). length x.events) e in
    let short = a.short in
    let enough = b.enough in
    absurd (omega arith)
one_made t seed count (made.NoStart f) (made.NoStart g) a b =
    let e : f ≡ g = cc in ap (λ x. made.NoStart x) e
one_made t seed count made.StartLimit made.StartLimit a b = refl
one_made t seed count (made.Trace trace run) (made.NoStart g) a b =
    let ready = a.makes.ready in absurd cc
one_made t seed count (made.Trace trace run) made.StartLimit a b =
    let ready = a.makes.ready in absurd cc
one_made t seed count (made.Limit run) (made.NoStart g) a b =
    let ready = a.makes.ready in absurd cc
one_made t seed count (made.Limit run) made.StartLimit a b =
    let ready = a.makes.ready in absurd cc
one_made t seed count (made.NoStart f) (made.Trace trace run) a b =
    let ready = b.makes.ready in absurd cc
one_made t seed count (made.NoStart f) (made.Limit run) a b =
    let ready = b.makes.ready in absurd cc
one_made t seed count made.StartLimit (made.Trace trace run) a b =
    let ready = b.makes.ready in absurd cc
one_made t seed count made.StartLimit (made.Limit run) a b =
    let ready = b.makes.ready in absurd cc
one_made t seed count (made.NoStart f) made.StartLimit a b = absurd cc
one_made t seed count made.StartLimit (made.NoStart g) a b = absurd cc
