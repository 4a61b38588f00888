-- What a worker has done, with one command more: its book, the calls that its commands stand for, and their answers. And how many leases a
-- book has at most.
use Rattle.std.proofs.Common.{◌≡◌, ℕ, suc, ◌+◌, ◌≤◌, not, Bool, true, false, cond, List, [], ◌∷◌, ◌++◌, length, refl, sym, ◌∙◌, ap, append_assoc, arith}
use Rattle.std.specs.Prelude.{count_by}
use Rattle.std.proofs.lemmas.List.{append-nil, length_push}
use Rattle.std.proofs.lemmas.List.Sums.{sum_by-cons, length-filter, count_by-le-length}
use Rattle.rht_model.specs.declared.history.Reply.{Reply}
use Rattle.rht_model.specs.declared.history.Reply.TheVariants as replies
use Rattle.rht_model.specs.Endings.{Ending}
use Rattle.rht_workers.proofs.WorkerCommands.{one_if}
use Rattle.rht_lease.specs.declared.lease.Lease.{Lease}
use Rattle.rht_lease.specs.declared.lease.LeaseCall.{LeaseCall}
use Rattle.rht_lease.specs.declared.lease.LeaseCall.TheVariants as asks
use Rattle.rht_lease.specs.declared.lease.LeaseReply.{LeaseReply}
use Rattle.rht_lease.specs.declared.lease.LeaseReply.TheVariants as answers
use Rattle.rht_lease.specs.Answers.{Answer, IsAnswer, AreAnswered, book_left, calls_in_turn, is_lease}
use Rattle.rht_lease.specs.Books.{lease_of, is_lease_of, is_ended, renewed, cancelled, leased, leased_by, book_after, calls_for}

-- ---- one command more

-- each command has an answer
pub AreAnswered-length : (leases : List Lease) (asked : List LeaseCall) (answers : List Answer) (endings : List Ending)
    → AreAnswered leases asked answers endings → length asked ≡ length answers
AreAnswered-length leases [] [] endings are = refl
AreAnswered-length leases [] (answer ∷ answers) endings are = absurd are
AreAnswered-length leases (ask ∷ asked) [] endings are = absurd are
AreAnswered-length leases (ask ∷ asked) (answer ∷ answers) endings are =
    ap suc (AreAnswered-length (book_after leases ask answer.0) asked answers are.rest are.rest_is)

-- by induction over the commands before it
pub book_left-push : (leases : List Lease) (asked : List LeaseCall) (answers : List Answer) (ask : LeaseCall) (answer : Answer)
    → length asked ≡ length answers
    → book_left leases (asked ++ ask ∷ []) (answers ++ answer ∷ []) ≡ book_after (book_left leases asked answers) ask answer.0
book_left-push leases [] [] ask answer same = refl
book_left-push leases [] (first ∷ answers) ask answer same = absurd (omega (arith, same))
book_left-push leases (first ∷ asked) [] ask answer same = absurd (omega (arith, same))
book_left-push leases (first ∷ asked) (one ∷ answers) ask answer same =
    book_left-push (book_after leases first one.0) asked answers ask answer (omega (arith, same))

pub calls_in_turn-push : (leases : List Lease) (asked : List LeaseCall) (answers : List Answer) (ask : LeaseCall) (answer : Answer)
    → length asked ≡ length answers
    → calls_in_turn leases (asked ++ ask ∷ []) (answers ++ answer ∷ [])
    ≡ calls_in_turn leases asked answers ++ calls_for (book_left leases asked answers) ask
calls_in_turn-push leases [] [] ask answer same = append-nil (calls_for leases ask)
calls_in_turn-push leases [] (first ∷ answers) ask answer same = absurd (omega (arith, same))
calls_in_turn-push leases (first ∷ asked) [] ask answer same = absurd (omega (arith, same))
calls_in_turn-push leases (first ∷ asked) (one ∷ answers) ask answer same =
    let next = book_after leases first one.0 in
    ap (λ l. calls_for leases first ++ l) (calls_in_turn-push next asked answers ask answer (omega (arith, same)))
    ∙ sym (append_assoc (calls_for leases first) (calls_in_turn next asked answers) (calls_for (book_left next asked answers) ask))

pub AreAnswered-push : (leases : List Lease) (asked : List LeaseCall) (answers : List Answer) (endings : List Ending) (ask : LeaseCall)
    (answer : Answer) (more : List Ending) → AreAnswered leases asked answers endings
    → IsAnswer (book_left leases asked answers) ask answer more
    → AreAnswered leases (asked ++ ask ∷ []) (answers ++ answer ∷ []) (endings ++ more)
AreAnswered-push leases [] [] endings ask answer more are is = record {
  first = more;
  rest = [];
  whole = ap (λ l. l ++ more) are ∙ sym (append-nil more);
  first_is = is;
  rest_is = refl;
}
AreAnswered-push leases [] (first ∷ answers) endings ask answer more are is = absurd are
AreAnswered-push leases (first ∷ asked) [] endings ask answer more are is = absurd are
AreAnswered-push leases (first ∷ asked) (one ∷ answers) endings ask answer more are is = record {
  first = are.first;
  rest = are.rest ++ more;
  whole = ap (λ l. l ++ more) are.whole ∙ append_assoc are.first are.rest more;
  first_is = are.first_is;
  rest_is = AreAnswered-push (book_after leases first one.0) asked answers are.rest ask answer more are.rest_is is;
}

-- ---- how many leases there are

length-leased : (leases : List Lease) (lease : Lease) (reply : Reply) → length (leased leases lease reply) ≤ length leases + 1
length-leased leases lease (replies.Bound kick) = omega (arith, length_push leases lease)
length-leased leases lease _ = omega arith

length-leased_by : (leases : List Lease) (lease : Lease) (answer : LeaseReply) → length (leased_by leases lease answer) ≤ length leases + 1
length-leased_by leases lease (answers.Plain reply) = length-leased leases lease reply
length-leased_by leases lease _ = omega arith

length-renewed : (port owner last : ℕ) (leases : List Lease) → length (renewed port owner last leases) ≡ length leases
length-renewed port owner last [] = refl
length-renewed port owner last (lease ∷ leases) =
    by_test (is_lease_of port owner lease) (length-renewed port owner last leases)
  where
    by_test : (mine : Bool) → length (renewed port owner last leases) ≡ length leases
        → length (cond mine (lease_of port owner last ∷ leases) (lease ∷ renewed port owner last leases)) ≡ suc (length leases)
    by_test true same = refl
    by_test false same = ap suc same

length-cancelled : (port owner : ℕ) (leases : List Lease) → length (cancelled port owner leases) ≤ length leases
length-cancelled port owner [] = omega arith
length-cancelled port owner (lease ∷ leases) = by_test (is_lease_of port owner lease) (length-cancelled port owner leases)
  where
    by_test : (mine : Bool) → length (cancelled port owner leases) ≤ length leases
        → length (cond mine leases (lease ∷ cancelled port owner leases)) ≤ suc (length leases)
    by_test true fewer = omega arith
    by_test false fewer = omega (arith, fewer)

-- a command adds a lease at most, where it asks for one
pub length-book_after : (leases : List Lease) (ask : LeaseCall) (answer : LeaseReply)
    → length (book_after leases ask answer) ≤ length leases + one_if (is_lease ask)
length-book_after leases (asks.Plain call) answer = omega arith
length-book_after leases (asks.Lease lease) answer = length-leased_by leases lease answer
length-book_after leases (asks.Renew lease) answer = omega (arith, length-renewed lease.port lease.owner lease.last leases)
length-book_after leases (asks.Cancel port owner) answer = omega (arith, length-cancelled port owner leases)
length-book_after leases (asks.Sweep now) answer =
    omega (
      arith,
      length-filter (λ lease. not (is_ended now lease)) leases,
      count_by-le-length (λ lease. not (is_ended now lease)) leases,
    )

-- by induction over the commands
pub length-book_left : (leases : List Lease) (asked : List LeaseCall) (answers : List Answer)
    → length (book_left leases asked answers) ≤ length leases + count_by is_lease asked
length-book_left leases [] answers = omega arith
length-book_left leases (ask ∷ asked) [] = omega arith
length-book_left leases (ask ∷ asked) (answer ∷ answers) =
    omega (
      arith,
      length-book_left (book_after leases ask answer.0) asked answers,
      length-book_after leases ask answer.0,
      sum_by-cons (λ a. one_if (is_lease a)) ask asked,
    )
