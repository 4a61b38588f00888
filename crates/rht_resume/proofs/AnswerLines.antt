-- What stands at a place of answers and of workers: the line of the answer, and the worker's number.
use Rattle.std.proofs.Common.{◌≡◌, ℕ, zero, suc, ◌+◌, ◌<◌, ◌≤◌, List, [], ◌∷◌, length, take, get_or, Some, refl, sym, ap, ◌∙◌, arith}
use Rattle.std.specs.Prelude.{IfSome}
use Rattle.std.specs.List.{slice_get, enumerate_from, flat_map}
use Rattle.std.proofs.lemmas.List.{take_all}
use Rattle.std.proofs.lemmas.List.FromFn.{length-enumerate_from, get_or-enumerate_from}
use Rattle.std.proofs.lemmas.Option.{slice_get-get_or}
use Rattle.rht_resume.specs.declared.resume.ResumeReply.{ResumeReply}
use Rattle.rht_resume.specs.Answers.{Answer}
use Rattle.rht_resume.specs.Text.{answer_line, worker_text}

-- The answer at a place has this line.
pub record HasLine (worker : ℕ) (answers : List Answer) (i : ℕ) (line : List ℕ) : Type 0 where
  pub answer : Answer
  pub here : slice_get answers i ≡ Some answer
  pub same : line ≡ answer_line worker answer

-- by induction over the answers
pub answer_at : (worker : ℕ) (answers : List Answer) (i : ℕ) (reply : ResumeReply) (owners : List ℕ) (pairs : List (ℕ × ℕ))
    → i < length answers
    → IfSome (slice_get answers i) (λ answer. reply ≡ answer.reply) → IfSome (slice_get answers i) (λ answer. owners ≡ answer.owners)
    → IfSome (slice_get answers i) (λ answer. pairs ≡ answer.pairs)
    → HasLine worker answers i (answer_line worker (record { reply = reply; owners = owners; pairs = pairs }))
answer_at worker [] i reply owners pairs within same_reply same_owners same_pairs = absurd (omega (arith, within))
answer_at worker (answer ∷ answers) zero reply owners pairs within same_reply same_owners same_pairs = record {
  answer = answer;
  here = refl;
  same =
      ap (λ r. answer_line worker (record { reply = r; owners = owners; pairs = pairs })) same_reply
      ∙ ap (λ os. answer_line worker (record { reply = answer.reply; owners = os; pairs = pairs })) same_owners
      ∙ ap (λ ps. answer_line worker (record { reply = answer.reply; owners = answer.owners; pairs = ps })) same_pairs;
}
answer_at worker (answer ∷ answers) (suc i) reply owners pairs within same_reply same_owners same_pairs =
    let behind = answer_at worker answers i reply owners pairs (omega (arith, within)) same_reply same_owners same_pairs in
    record { answer = behind.answer; here = behind.here; same = behind.same }

-- workers are counted from 1
pub worker_at : (workers : List (List Answer)) (i : ℕ) (answers : List Answer) → i < length workers
    → answers ≡ get_or workers i answers → slice_get (enumerate_from 1 workers) i ≡ Some (i + 1, answers)
worker_at workers i answers within here =
    let counted : i < length (enumerate_from 1 workers) = omega (arith, within, length-enumerate_from 1 workers) in
    let number : 1 + i ≡ i + 1 = omega arith in
    slice_get-get_or (enumerate_from 1 workers) i (0, answers) counted
    ∙ ap {B = _} Some (get_or-enumerate_from 1 workers i (0, answers) within)
    ∙ ap (λ n. Some (n, get_or workers i answers)) number
    ∙ ap (λ own. Some (i + 1, own)) (sym here)

-- the lines of as many workers as there are, are those of all
pub all_workers : (workers : List (List Answer)) (i : ℕ) → length workers ≤ i
    → flat_map worker_text (take i (enumerate_from 1 workers)) ≡ flat_map worker_text (enumerate_from 1 workers)
all_workers workers i all =
    ap (flat_map worker_text) (take_all i (enumerate_from 1 workers) (omega (arith, all, length-enumerate_from 1 workers)))
