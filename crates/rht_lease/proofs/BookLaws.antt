-- What follows for books: a command finds no lease exactly where the book has none; a sweep releases for each lease that has ended, and leaves
-- none of them.
use Rattle.std.proofs.Common.{◌≡◌, ℕ, zero, suc, ◌+◌, ◌&&◌, not, Bool, true, false, cond, Some, List, [], ◌∷◌, length, map, take, drop, ◌++◌, refl, sym, ◌∙◌, ap, subst, arith}
use Rattle.std.specs.Prelude.{◌↔◌, count_by, filter}
use Rattle.std.specs.List.{AllByRecursion, slice_get}
use Rattle.std.proofs.Math.Seq.{take-append_seam, drop-append-add}
use Rattle.std.proofs.lemmas.List.{length-map, length-append}
use Rattle.std.proofs.lemmas.List.Filters.{length-filter_both}
use Rattle.std.proofs.lemmas.List.Sums.{sum_by-cons}
use Rattle.std.proofs.lemmas.Option.{slice_get_within}
use Rattle.rht_model.specs.declared.history.Call.{Call}
use Rattle.rht_model.specs.declared.history.Call.TheVariants.{Release}
use Rattle.rht_model.specs.Endings.{Ending}
use Rattle.rht_lease.specs.declared.lease.Lease.{Lease}
use Rattle.rht_lease.specs.declared.lease.LeaseCall.{LeaseCall}
use Rattle.rht_lease.specs.declared.lease.LeaseCall.TheVariants as asks
use Rattle.rht_lease.specs.declared.lease.LeaseReply.TheVariants.{Renewed, NoLease}
use Rattle.rht_lease.specs.Answers.{Answer, IsOwnReply, IsBareReply, renew_reply, IsCancelAnswer, IsAnswer, AreAnswered, book_left, calls_in_turn}
use Rattle.rht_lease.specs.Books.{is_lease_of, has_lease, is_ended, release_of, sweep_calls, book_after, calls_for}
use Rattle.rht_lease.specs.Laws.{wants_none_of, MissesWhereNoneIs, AnswersByOwnCalls, HoldsWhatIsAsked, is_release_of, SweepsEachEnded, LeavesNoneEnded}
use Rattle.rht_workers.proofs.WorkerCommands.{one_if}
use Rattle.rht_lease.proofs.BookLemmas.{length-book_left}

-- ---- leases that are missed

-- a reply to a call doesn't say that there is no lease
own_misses : (answer : Answer) (endings : List Ending) → IsOwnReply answer endings → (answer.0 ≡ NoLease) ↔ (false ≡ true)
own_misses answer endings own = ((λ is. let both = sym own.plain ∙ is in absurd (cc)), (λ wants. absurd (cc)))

renew_misses : (has : Bool) (answer : Answer) (endings : List Ending) → IsBareReply (renew_reply has) answer endings
    → (answer.0 ≡ NoLease) ↔ (not has ≡ true)
renew_misses true answer endings bare =
    let is_renewed : answer.0 ≡ Renewed = ap (λ (a : Answer). a.0) bare.bare in
    ((λ is. let both = sym is_renewed ∙ is in absurd (cc)), (λ wants. absurd (cc)))
renew_misses false answer endings bare = ((λ is. refl), (λ wants. ap (λ (a : Answer). a.0) bare.bare))

cancel_misses : (has : Bool) (answer : Answer) (endings : List Ending) → IsCancelAnswer has answer endings
    → (answer.0 ≡ NoLease) ↔ (not has ≡ true)
cancel_misses true answer endings own = own_misses answer endings own
cancel_misses false answer endings bare = ((λ is. refl), (λ wants. ap (λ (a : Answer). a.0) bare.bare))

answer_misses : (leases : List Lease) (ask : LeaseCall) (answer : Answer) (endings : List Ending) → IsAnswer leases ask answer endings
    → (answer.0 ≡ NoLease) ↔ (wants_none_of leases ask ≡ true)
answer_misses leases (asks.Plain call) answer endings own = own_misses answer endings own
answer_misses leases (asks.Lease lease) answer endings own = own_misses answer endings own
answer_misses leases (asks.Renew lease) answer endings bare = renew_misses (has_lease lease.port lease.owner leases) answer endings bare
answer_misses leases (asks.Cancel port owner) answer endings is = cancel_misses (has_lease port owner leases) answer endings is
answer_misses leases (asks.Sweep now) answer endings swept =
    ((λ is. let both = sym (ap (λ (a : Answer). a.0) swept.counts) ∙ is in absurd (cc)), (λ wants. absurd (cc)))

-- by induction over the commands up to that one
misses_at : (leases : List Lease) (asked : List LeaseCall) (answers : List Answer) (endings : List Ending)
    → AreAnswered leases asked answers endings
    → (i : ℕ) (ask : LeaseCall) (answer : Answer) → slice_get asked i ≡ Some ask → slice_get answers i ≡ Some answer
    → (answer.0 ≡ NoLease) ↔ (wants_none_of (book_left leases (take i asked) (take i answers)) ask ≡ true)
misses_at leases [] answers endings are i ask answer here its = absurd (omega (arith, slice_get_within [] i ask here))
misses_at leases (first ∷ asked) [] endings are i ask answer here its = absurd are
misses_at leases (first ∷ asked) (one ∷ answers) endings are zero ask answer here its =
    let same : first ≡ ask = cc in
    let same_too : one ≡ answer = cc in
    subst (λ (a : LeaseCall). (answer.0 ≡ NoLease) ↔ (wants_none_of leases a ≡ true)) same
    (subst (λ (a : Answer). (a.0 ≡ NoLease) ↔ (wants_none_of leases first ≡ true)) same_too
    (answer_misses leases first one are.first are.first_is))
misses_at leases (first ∷ asked) (one ∷ answers) endings are (suc i) ask answer here its =
    misses_at (book_after leases first one.0) asked answers are.rest are.rest_is i ask answer here its

pub misses : MissesWhereNoneIs
misses asked answers endings are i ask answer here its = misses_at [] asked answers endings are i ask answer here its

-- ---- the calls of each command

-- an answer is by as many calls as the command stands for
cancel-many : (has : Bool) (port owner : ℕ) (answer : Answer) (endings : List Ending) → IsCancelAnswer has answer endings
    → length endings ≡ length (cond has (Release port owner ∷ []) [])
cancel-many true port owner answer endings own = ap length own.one
cancel-many false port owner answer endings bare = ap length bare.none

pub IsAnswer-many : (leases : List Lease) (ask : LeaseCall) (answer : Answer) (endings : List Ending) → IsAnswer leases ask answer endings
    → length endings ≡ length (calls_for leases ask)
IsAnswer-many leases (asks.Plain call) answer endings own = ap length own.one
IsAnswer-many leases (asks.Lease lease) answer endings own = ap length own.one
IsAnswer-many leases (asks.Renew lease) answer endings bare = ap length bare.none
IsAnswer-many leases (asks.Cancel port owner) answer endings is =
    cancel-many (has_lease port owner leases) port owner answer endings is
IsAnswer-many leases (asks.Sweep now) answer endings swept = swept.many

-- by induction over the commands up to that one
owns_at : (leases : List Lease) (asked : List LeaseCall) (answers : List Answer) (endings : List Ending)
    → AreAnswered leases asked answers endings
    → (i : ℕ) (ask : LeaseCall) (answer : Answer) → slice_get asked i ≡ Some ask → slice_get answers i ≡ Some answer
    → IsAnswer (book_left leases (take i asked) (take i answers)) ask answer
    (take (length (calls_for (book_left leases (take i asked) (take i answers)) ask))
    (drop (length (calls_in_turn leases (take i asked) (take i answers))) endings))
owns_at leases [] answers endings are i ask answer here its = absurd (omega (arith, slice_get_within [] i ask here))
owns_at leases (first ∷ asked) [] endings are i ask answer here its = absurd are
owns_at leases (first ∷ asked) (one ∷ answers) endings are zero ask answer here its =
    let same : first ≡ ask = cc in
    let same_too : one ≡ answer = cc in
    let own : are.first ≡ take (length (calls_for leases first)) endings =
    sym (take-append_seam are.first are.rest)
    ∙ ap (λ n. take n (are.first ++ are.rest)) (IsAnswer-many leases first one are.first are.first_is)
    ∙ ap (take (length (calls_for leases first))) (sym are.whole) in
    subst (λ (a : LeaseCall). IsAnswer leases a answer (take (length (calls_for leases a)) endings)) same
    (subst (λ (a : Answer). IsAnswer leases first a (take (length (calls_for leases first)) endings)) same_too
    (subst (IsAnswer leases first one) own are.first_is))
owns_at leases (first ∷ asked) (one ∷ answers) endings are (suc i) ask answer here its =
    let next = book_after leases first one.0 in
    let before = calls_in_turn next (take i asked) (take i answers) in
    let mine = calls_for (book_left next (take i asked) (take i answers)) ask in
    let many : length are.first + length before ≡ length (calls_for leases first ++ before) =
    ap (λ n. n + length before) (IsAnswer-many leases first one are.first are.first_is)
    ∙ sym (length-append (calls_for leases first) before) in
    let behind : drop (length before) are.rest ≡ drop (length (calls_for leases first ++ before)) endings =
    sym (drop-append-add are.first are.rest (length before))
    ∙ ap (λ n. drop n (are.first ++ are.rest)) many
    ∙ ap (drop (length (calls_for leases first ++ before))) (sym are.whole) in
    subst (IsAnswer (book_left next (take i asked) (take i answers)) ask answer) (ap (take (length mine)) behind)
    (owns_at next asked answers are.rest are.rest_is i ask answer here its)

pub owns : AnswersByOwnCalls
owns asked answers endings are i ask answer here its = owns_at [] asked answers endings are i ask answer here its

-- ---- what books hold

pub holds : HoldsWhatIsAsked
holds asked answers = omega (arith, length-book_left [] asked answers)

-- ---- sweeps

and_true : (test : Bool) → (test && true) ≡ test
and_true true = refl
and_true false = refl

and_false : (test : Bool) → (test && false) ≡ false
and_false true = refl
and_false false = refl

-- by induction over the leases
releases : (now : ℕ) (leases : List Lease) (port owner : ℕ)
    → count_by (is_release_of port owner) (sweep_calls now leases)
    ≡ count_by (λ lease. is_lease_of port owner lease && is_ended now lease) leases
releases now [] port owner = refl
releases now (lease ∷ leases) port owner = by_test (is_ended now lease) refl (releases now leases port owner)
  where
    by_test : (ended : Bool) → is_ended now lease ≡ ended
        → count_by (is_release_of port owner) (sweep_calls now leases)
        ≡ count_by (λ l. is_lease_of port owner l && is_ended now l) leases
        → count_by (is_release_of port owner) (map release_of (cond (is_ended now lease) (lease ∷ filter (is_ended now) leases) (filter (is_ended now) leases)))
        ≡ count_by (λ l. is_lease_of port owner l && is_ended now l) (lease ∷ leases)
    by_test true is behind =
        let calls : count_by (is_release_of port owner)
        (map release_of (cond (is_ended now lease) (lease ∷ filter (is_ended now) leases) (filter (is_ended now) leases)))
        ≡ one_if (is_lease_of port owner lease) + count_by (is_release_of port owner) (sweep_calls now leases) =
        ap (λ b. count_by (is_release_of port owner)
        (map release_of (cond b (lease ∷ filter (is_ended now) leases) (filter (is_ended now) leases)))) is
        ∙ sum_by-cons (λ (call : Call). one_if (is_release_of port owner call)) (release_of lease) (sweep_calls now leases) in
        let here : one_if (is_lease_of port owner lease && is_ended now lease) ≡ one_if (is_lease_of port owner lease) =
        ap (λ b. one_if (is_lease_of port owner lease && b)) is ∙ ap one_if (and_true (is_lease_of port owner lease)) in
        let first = sum_by-cons (λ (l : Lease). one_if (is_lease_of port owner l && is_ended now l)) lease leases in
        omega (arith, calls, here, first, behind)
    by_test false is behind =
        let calls : count_by (is_release_of port owner)
        (map release_of (cond (is_ended now lease) (lease ∷ filter (is_ended now) leases) (filter (is_ended now) leases)))
        ≡ count_by (is_release_of port owner) (sweep_calls now leases) =
        ap (λ b. count_by (is_release_of port owner)
        (map release_of (cond b (lease ∷ filter (is_ended now) leases) (filter (is_ended now) leases)))) is in
        let here : one_if (is_lease_of port owner lease && is_ended now lease) ≡ 0 =
        ap (λ b. one_if (is_lease_of port owner lease && b)) is ∙ ap one_if (and_false (is_lease_of port owner lease)) in
        let first = sum_by-cons (λ (l : Lease). one_if (is_lease_of port owner l && is_ended now l)) lease leases in
        omega (arith, calls, here, first, behind)

pub sweeps : SweepsEachEnded
sweeps now leases = (
  releases now leases,
  (let both = length-filter_both (is_ended now) (λ lease. not (is_ended now lease)) (λ lease. refl) leases in
      omega (arith, both, length-map (filter (is_ended now) leases) release_of)),
)

-- by induction over the leases
pub leaves : LeavesNoneEnded
leaves now [] = tt
leaves now (lease ∷ leases) = by_test (is_ended now lease) refl (leaves now leases)
  where
    by_test : (ended : Bool) → is_ended now lease ≡ ended
        → AllByRecursion (λ l. is_ended now l ≡ false) (filter (λ l. not (is_ended now l)) leases)
        → AllByRecursion (λ l. is_ended now l ≡ false)
        (cond (not (is_ended now lease)) (lease ∷ filter (λ l. not (is_ended now l)) leases) (filter (λ l. not (is_ended now l)) leases))
    by_test true is behind = rw is behind
    by_test false is behind =
        subst (λ b. AllByRecursion (λ l. is_ended now l ≡ false)
        (cond (not b) (lease ∷ filter (λ l. not (is_ended now l)) leases) (filter (λ l. not (is_ended now l)) leases))) (sym is)
        (is, behind)
