-- What parts show that are printed by parts of the printer.
use Rattle.std.proofs.Common.{◌≡◌, List, [], ◌∷◌, map, length, get_or, refl, sym, ◌∙◌, ap, arith}
use Rattle.est_syntax.specs.declared.channel.ByPart.{ByPart}
use Rattle.est_syntax.specs.declared.channel.Channel.{Channel}
use Rattle.est_syntax.specs.declared.constant.Constant.{Constant}
use Rattle.est_syntax.specs.declared.name.Used.{Used}
use Rattle.est_syntax.specs.declared.type_text.TypeText.{Named, Range, out-TypeText}
use Rattle.est_syntax.specs.declared.type_text.TypeText.TheViews as texts
use Rattle.text_reader.specs.Grammar.{rule}
use Rattle.text_reader.specs.Going.{Shape, used}
use Rattle.text_reader.specs.Shown.{Shows, empty, first, given, node, nodes, nowhere, pair, s_pair}
use Rattle.text_productions.specs.Nodes as view
use Rattle.text_productions.specs.Nodes.{View, layer}
use Rattle.text_productions.specs.Productions as grammar
use Rattle.text_printer.specs.declared.printer.Printer.{Printer}
use Rattle.text_printer.specs.PlainNodes.{estelle}
use Rattle.text_printer.specs.Printing.{Prints}
use Rattle.text_printer.proofs.Printing.{never, never_nowhere, part}

pub short_named : (u : Used)
    → first (view.short_type (out-TypeText (Named u))) ≡ layer (view.a_type (Named u))
short_named u = rw (texts.outs-Named u) refl

pub short_range : (low high : Constant)
    → first (view.short_type (out-TypeText (Range low high))) ≡ layer (view.a_type (Range low high))
short_range low high = rw (texts.outs-Range low high) refl

-- CHANNELS

no_pair : (v : View) (t : Shape) → Shows layer (pair v nowhere) t → ⊥
no_pair v _ (s_pair j k) = elim k [ ]

two_nowhere : (us : List Used) (v : View) → (length us ≡ 2 → ⊥) → nowhere ≡ view.two_names us v
two_nowhere [] v h = refl
two_nowhere (a ∷ []) v h = refl
two_nowhere (a ∷ b ∷ []) v h = absurd (h refl)
two_nowhere (a ∷ b ∷ c ∷ us) v h = refl

-- a channel has two roles
pub channel_never : (c : Channel) {A : Printer} → (length c.roles ≡ 2 → ⊥)
    → Prints estelle (rule grammar.channel) (node (view.a_channel c)) A A
channel_never c h =
    let e : pair (used c.name) nowhere ≡ layer (view.a_channel c) =
    ap (pair (used c.name)) (two_nowhere c.roles (nodes (map view.a_by_part c.by)) h) in
    part e e (never (λ source read d a b u z j. no_pair (used c.name) u j))

one_nowhere : (us : List Used) (v : View) → (length us ≡ 1 → ⊥) → (length us ≡ 2 → ⊥)
    → nowhere ≡ view.roles us v
one_nowhere [] v h k = refl
one_nowhere (a ∷ []) v h k = absurd (h refl)
one_nowhere (a ∷ b ∷ []) v h k = absurd (k refl)
one_nowhere (a ∷ b ∷ c ∷ us) v h k = refl

-- one role of a channel sends, or both
pub by_never : (c : ByPart) {A : Printer} → (length c.roles ≡ 1 → ⊥) → (length c.roles ≡ 2 → ⊥)
    → Prints estelle (rule grammar.by_part) (node (view.a_by_part c)) A A
by_never c h k =
    let e : nowhere ≡ layer (view.a_by_part c) =
    one_nowhere c.roles (nodes (map view.an_interaction c.interactions)) h k in
    part e e never_nowhere

-- one name, and two
pub one_listed : (us : List Used) (a : Used) → length us ≡ 1 → a ≡ get_or us 0 a → us ≡ a ∷ []
one_listed [] a h e = absurd (omega arith)
one_listed (u ∷ []) a h e = ap (λ x. x ∷ []) (sym e)
one_listed (u ∷ v ∷ us) a h e = absurd (omega arith)

pub two_listed : (us : List Used) (a b : Used) → length us ≡ 2 → a ≡ get_or us 0 a
    → b ≡ get_or us 1 b → us ≡ a ∷ b ∷ []
two_listed [] a b h e f = absurd (omega arith)
two_listed (u ∷ []) a b h e f = absurd (omega arith)
two_listed (u ∷ v ∷ []) a b h e f =
    ap (λ x. x ∷ v ∷ []) (sym e) ∙ ap (λ x. a ∷ x ∷ []) (sym f)
two_listed (u ∷ v ∷ w ∷ us) a b h e f = absurd (omega arith)

pub channel_told : (c : Channel) (a b : Used) → c.roles ≡ a ∷ b ∷ []
    → pair (used c.name) (pair (used a) (pair (used b) (nodes (map view.a_by_part c.by))))
    ≡ layer (view.a_channel c)
channel_told c a b e = ap (λ us. pair (used c.name)
    (view.two_names us (nodes (map view.a_by_part c.by)))) (sym e)

pub one_told : (c : ByPart) (a : Used) → c.roles ≡ a ∷ []
    → pair (used a) (pair empty (nodes (map view.an_interaction c.interactions)))
    ≡ layer (view.a_by_part c)
one_told c a e =
    ap (λ us. view.roles us (nodes (map view.an_interaction c.interactions))) (sym e)

pub both_told : (c : ByPart) (a b : Used) → c.roles ≡ a ∷ b ∷ []
    → pair (used a) (pair (given (used b)) (nodes (map view.an_interaction c.interactions)))
    ≡ layer (view.a_by_part c)
both_told c a b e =
    ap (λ us. view.roles us (nodes (map view.an_interaction c.interactions))) (sym e)
