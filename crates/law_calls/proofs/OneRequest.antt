-- Words ask for one thing at most.
use Rattle.std.proofs.Common.{◌≡◌, ℕ, List, sym, ap, refl}
use Rattle.call_files.specs.Requests.{check, print, explain, replay, selfrun, ports, to_ports}
use Rattle.call_files.specs.Requests.{to_check, to_print, to_explain, to_replay, to_self_run}
use Rattle.call_files.specs.Requests.{to_watch, AreLimits, left_out, given}
use Rattle.call_files.specs.Requests.{most_silent, most_statements, most_made, most_seed}
use Rattle.call_files.proofs.RequestLaws.{one_number, one_search_limits, first_is, watch_one}
use Rattle.call_files.proofs.WordLaws.{check_or_print, explain_or_self_run, check_or_ports}
use Rattle.call_files.proofs.WordLaws.{print_or_ports}
use Rattle.law_calls.specs.CallLaws.{OneRequest}

-- words are of one pair of limits
one_limits : (words other : List (List ℕ)) (a b c d : ℕ) → words ≡ other → AreLimits words a b
    → AreLimits other c d → (a ≡ c) × (b ≡ d)
one_limits words other _ _ _ _ same (left_out e) (left_out f) = (refl, refl)
one_limits words other _ _ _ _ same (left_out e) (given first second c d f p q) = absurd cc
one_limits words other _ _ _ _ same (given first second a b e m n) (left_out f) = absurd cc
one_limits words other _ _ _ _ same (given first second a b e m n) (given first' second' c d f p
    q) =
    let one : first ≡ first' = cc in
    let two : second ≡ second' = cc in (
      one_number 0 most_silent first first' a c one m p,
      one_number 1 most_statements second second' b d two n q,
    )

pub request_one : OneRequest
request_one words _ other (to_watch specification limits silent budget statements e p l) asked =
    watch_one words specification silent budget statements other
    (to_watch specification limits silent budget statements e p l) asked
request_one words one _ asked (to_watch specification limits silent budget statements e p l) =
    sym (watch_one words specification silent budget statements one
    (to_watch specification limits silent budget statements e p l) asked)
request_one words _ _ (to_check name e named) (to_check other f named') = let same : name ≡ other =
    cc in ap check same
request_one words _ _ (to_check name e named) (to_replay specification trace explanation limits
    silent statements f p q r l) = absurd cc
request_one words _ _ (to_replay specification trace explanation limits silent statements e p q r l)
    (to_check other f named) = absurd cc
request_one words _ _ (to_replay specification trace explanation limits silent statements e p q r l)
    (to_replay specification' trace' explanation' limits' silent' statements' f p' q' r' l') =
    let one : specification ≡ specification' = cc in
    let two : trace ≡ trace' = cc in
    let three : explanation ≡ explanation' = cc in
    let rest : limits ≡ limits' = cc in
    let same = one_limits limits limits' silent statements silent' statements' rest l l' in
    λ i. replay (one i) (two i) (three i) (same.0 i) (same.1 i)
request_one words _ _ (to_check name e named) (to_explain specification trace limits silent budget
    statements f p q l) = absurd cc
request_one words _ _ (to_explain specification trace limits silent budget statements e p q l)
    (to_check other f named) = absurd cc
request_one words _ _ (to_explain specification trace limits silent budget statements e p q l)
    (to_replay specification' trace' explanation' limits' silent' statements' f p' q' r' l') =
    absurd cc
request_one words _ _ (to_replay specification trace explanation limits silent statements e p q r l)
    (to_explain specification' trace' limits' silent' budget' statements' f p' q' l') = absurd cc
request_one words _ _ (to_explain specification trace limits silent budget statements e p q l)
    (to_explain specification' trace' limits' silent' budget' statements' f p' q' l') =
    let one : specification ≡ specification' = cc in
    let two : trace ≡ trace' = cc in
    let rest : limits ≡ limits' = cc in
    let same = one_search_limits limits limits' silent budget statements silent' budget' statements'
    rest l l' in
    λ i. explain (one i) (two i) (same.0 i) (same.1 i) (same.2 i)
request_one words _ _ (to_check name e named) (to_self_run other x y n m f p q) = absurd cc
request_one words _ _ (to_self_run other x y n m e p q) (to_check name f named) = absurd cc
request_one words _ _ (to_explain specification trace limits silent budget statements e p q l)
    (to_self_run other x y n m f p' q') =
    absurd (explain_or_self_run _ (first_is words _ _ e) (first_is words _ _ f))
request_one words _ _ (to_self_run other x y n m e p q)
    (to_explain specification trace limits silent budget statements f p' q' l) =
    absurd (explain_or_self_run _ (first_is words _ _ f) (first_is words _ _ e))
request_one words _ _ (to_replay specification trace explanation limits silent statements e p q r l)
    (to_self_run other x y n m f p' q') = absurd cc
request_one words _ _ (to_self_run other x y n m e p q)
    (to_replay specification trace explanation limits silent statements f p' q' r' l) = absurd cc
request_one words _ _ (to_self_run name x y n m e p q) (to_self_run name' x' y' n' m' f p' q') =
    let one : name ≡ name' = cc in
    let two : x ≡ x' = cc in
    let three : y ≡ y' = cc in
    let seed : n ≡ n' = one_number 0 most_seed x x' n n' two q.seeded q'.seeded in
    let count : m ≡ m' = one_number 0 most_made y y' m m' three q.counted q'.counted in
    λ i. selfrun (one i) (seed i) (count i)
request_one words _ _ (to_print name e named) (to_print other f named') = let same : name ≡ other =
    cc in ap print same
request_one words _ _ (to_print name e named) (to_check other f named') =
    absurd (check_or_print _ (first_is words _ _ f) (first_is words _ _ e))
request_one words _ _ (to_check name e named) (to_print other f named') =
    absurd (check_or_print _ (first_is words _ _ e) (first_is words _ _ f))
request_one words _ _ (to_print name e named)
    (to_explain specification trace limits silent budget statements f p q l) = absurd cc
request_one words _ _ (to_explain specification trace limits silent budget statements e p q l)
    (to_print other f named) = absurd cc
request_one words _ _ (to_print name e named)
    (to_replay specification trace explanation limits silent statements f p q r l) = absurd cc
request_one words _ _ (to_replay specification trace explanation limits silent statements e p q r l)
    (to_print other f named) = absurd cc
request_one words _ _ (to_print name e named) (to_self_run other x y n m f p q) = absurd cc
request_one words _ _ (to_self_run other x y n m e p q) (to_print name f named) = absurd cc
request_one words _ _ (to_ports specification lists limits silent budget statements e p q l)
    (to_ports specification' lists' limits' silent' budget' statements' f p' q' l') =
    let one : specification ≡ specification' = cc in
    let two : lists ≡ lists' = cc in
    let rest : limits ≡ limits' = cc in
    let same = one_search_limits limits limits' silent budget statements silent' budget' statements'
    rest l l' in
    λ i. ports (one i) (two i) (same.0 i) (same.1 i) (same.2 i)
request_one words _ _ (to_ports specification lists limits silent budget statements e p q l)
    (to_check name f named) =
    absurd (check_or_ports _ (first_is words _ _ f) (first_is words _ _ e))
request_one words _ _ (to_check name e named)
    (to_ports specification lists limits silent budget statements f p q l) =
    absurd (check_or_ports _ (first_is words _ _ e) (first_is words _ _ f))
request_one words _ _ (to_ports specification lists limits silent budget statements e p q l)
    (to_print name f named) =
    absurd (print_or_ports _ (first_is words _ _ f) (first_is words _ _ e))
request_one words _ _ (to_print name e named)
    (to_ports specification lists limits silent budget statements f p q l) =
    absurd (print_or_ports _ (first_is words _ _ e) (first_is words _ _ f))
request_one words _ _ (to_ports specification lists limits silent budget statements e p q l)
    (to_explain specification' trace limits' silent' budget' statements' f p' q' l') = absurd cc
request_one words _ _ (to_explain specification trace limits silent budget statements e p q l)
    (to_ports specification' lists limits' silent' budget' statements' f p' q' l') = absurd cc
request_one words _ _ (to_ports specification lists limits silent budget statements e p q l)
    (to_replay specification' trace explanation limits' silent' statements' f p' q' r' l') = absurd cc
request_one words _ _ (to_replay specification trace explanation limits silent statements e p q r l)
    (to_ports specification' lists limits' silent' budget' statements' f p' q' l') = absurd cc
request_one words _ _ (to_ports specification lists limits silent budget statements e p q l)
    (to_self_run name x y n m f p' q') = absurd cc
request_one words _ _ (to_self_run name x y n m e p q)
    (to_ports specification lists limits silent budget statements f p' q' l) = absurd cc
