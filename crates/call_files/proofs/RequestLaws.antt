-- Words that ask to watch ask for one thing.
use Rattle.std.proofs.Common.{◌≡◌, ◌∙◌, ℕ, List, [], ◌∷◌, get_or, sym, ap, refl}
use Rattle.std.specs.Str.Parse.{digits_value}
use Rattle.call_files.specs.Requests.{Request, watch, Asks}
use Rattle.call_files.specs.Requests.{to_check, to_print, to_explain, to_replay, to_self_run}
use Rattle.call_files.specs.Requests.{to_ports, to_watch, AreSearchLimits, usual, told}
use Rattle.call_files.specs.Requests.{IsNumber, most_silent, most_budget, most_statements}
use Rattle.call_files.proofs.WordLaws.{check_or_watch, print_or_watch, ports_or_watch}

-- a word is of one number
pub one_number : (low high : ℕ) (word other : List ℕ) (a b : ℕ) → word ≡ other
    → IsNumber low high word a → IsNumber low high other b → a ≡ b
one_number low high word other a b same x y = x.valued ∙ ap (λ w. digits_value 10 w) same
    ∙ sym y.valued

-- words are of one triple of limits
pub one_search_limits : (words other : List (List ℕ)) (a b c d e f : ℕ) → words ≡ other
    → AreSearchLimits words a b c → AreSearchLimits other d e f → (a ≡ d) × (b ≡ e) × (c ≡ f)
one_search_limits words other _ _ _ _ _ _ same (usual p) (usual q) = (refl, refl, refl)
one_search_limits words other _ _ _ _ _ _ same (usual p) (told x y z d e f q k l m) = absurd cc
one_search_limits words other _ _ _ _ _ _ same (told x y z a b c p k l m) (usual q) = absurd cc
one_search_limits words other _ _ _ _ _ _ same (told x y z a b c p k l m)
    (told x' y' z' d e f q k' l' m') =
    let one : x ≡ x' = cc in
    let two : y ≡ y' = cc in
    let three : z ≡ z' = cc in (
      one_number 0 most_silent x x' a d one k k',
      one_number 0 most_budget y y' b e two l l',
      one_number 1 most_statements z z' c f three m m',
    )

-- a first word is the same however the words are told
pub first_is : (words rest : List (List ℕ)) (word : List ℕ) → words ≡ word ∷ rest
    → get_or words 0 [] ≡ word
first_is words rest word e = ap (λ ws. get_or ws 0 []) e

-- this request is to watch
abbrev IsToWatch : Request → Type 0
IsToWatch (watch specification silent budget statements) = Unit {0}
IsToWatch _ = ⊥

one_watch : (words : List (List ℕ)) (one other : Request) → IsToWatch one → Asks words one
    → Asks words other → one ≡ other
one_watch words _ other is (to_check name e named) asked = absurd is
one_watch words _ other is (to_print name e named) asked = absurd is
one_watch words _ other is (to_explain s t limits n b m e p q l) asked = absurd is
one_watch words _ other is (to_replay s t x limits n m e p q r l) asked = absurd is
one_watch words _ other is (to_self_run name x y n m e p q) asked = absurd is
one_watch words _ other is (to_ports s t limits n b m e p q l) asked = absurd is
one_watch words _ _ is (to_watch s limits n b m e p l) (to_check name f named) =
    absurd (check_or_watch _ (first_is words _ _ f) (first_is words _ _ e))
one_watch words _ _ is (to_watch s limits n b m e p l) (to_print name f named) =
    absurd (print_or_watch _ (first_is words _ _ f) (first_is words _ _ e))
one_watch words _ _ is (to_watch s limits n b m e p l)
    (to_explain s' t' limits' n' b' m' f p' q' l') = absurd cc
one_watch words _ _ is (to_watch s limits n b m e p l)
    (to_replay s' t' x' limits' n' m' f p' q' r' l') = absurd cc
one_watch words _ _ is (to_watch s limits n b m e p l) (to_self_run name x y n' m' f p' q') =
    absurd cc
one_watch words _ _ is (to_watch s limits n b m e p l)
    (to_ports s' t' limits' n' b' m' f p' q' l') =
    absurd (ports_or_watch _ (first_is words _ _ f) (first_is words _ _ e))
one_watch words _ _ is (to_watch s limits n b m e p l) (to_watch s' limits' n' b' m' f p' l') =
    let one : s ≡ s' = cc in
    let rest : limits ≡ limits' = cc in
    let same = one_search_limits limits limits' n b m n' b' m' rest l l' in
    λ i. watch (one i) (same.0 i) (same.1 i) (same.2 i)

-- words that ask to watch ask for nothing else
pub watch_one : (words : List (List ℕ)) (specification : List ℕ) (silent budget statements : ℕ)
    (other : Request) → Asks words (watch specification silent budget statements)
    → Asks words other → watch specification silent budget statements ≡ other
watch_one words s n b m other asked asked' =
    one_watch words (watch s n b m) other tt asked asked'
