-- What stands at a place of replies and of workers: the line of the reply, and the worker's number.
use Rattle.std.proofs.Common.{◌≡◌, ℕ, zero, suc, ◌+◌, ◌<◌, false, List, [], ◌∷◌, ◌++◌, ◌≤◌, length, take, get_or, Some, refl, sym, ap, ◌∙◌, arith}
use Rattle.std.specs.Prelude.{IfSome}
use Rattle.std.specs.List.{slice_get, enumerate_from, flat_map}
use Rattle.std.proofs.lemmas.List.{take_all}
use Rattle.std.proofs.lemmas.List.FromFn.{length-enumerate_from, get_or-enumerate_from}
use Rattle.std.proofs.lemmas.Option.{slice_get-get_or}
use Rattle.rht_model.specs.declared.history.Reply.{Reply}
use Rattle.rht_model.specs.Endings.{Ending}
use Rattle.rht_model.specs.declared.bindings.Closed.{Closed}
use Rattle.rht_script.specs.Text.{reply_line, ending_line, worker_text, port_line, last_line, closed_text, run_text}

-- The ending at a place has this line.
pub record HasLine (worker : ℕ) (endings : List Ending) (i : ℕ) (line : List ℕ) : Type 0 where
  pub ending : Ending
  pub here : slice_get endings i ≡ Some ending
  pub same : line ≡ ending_line worker ending

-- by induction over the endings
pub line_at : (worker : ℕ) (endings : List Ending) (i : ℕ) (reply : Reply) (owners : List ℕ)
    (pairs : List (ℕ × ℕ))
    → i < length endings
    → IfSome (slice_get endings i) (λ ending. reply ≡ ending.answer.reply)
    → IfSome (slice_get endings i) (λ ending. owners ≡ ending.answer.owners)
    → IfSome (slice_get endings i) (λ ending. pairs ≡ ending.pairs)
    → HasLine worker endings i (reply_line worker reply owners pairs false)
line_at worker [] i reply owners pairs within same_reply same_owners same_pairs = absurd (omega arith)
line_at worker (ending ∷ endings) zero reply owners pairs within same_reply same_owners same_pairs = record {
  ending = ending;
  here = refl;
  same = ap (λ r. reply_line worker r owners pairs false) same_reply
      ∙ ap (λ os. reply_line worker ending.answer.reply os pairs false) same_owners
      ∙ ap (λ ps. reply_line worker ending.answer.reply ending.answer.owners ps false) same_pairs;
}
line_at worker (ending ∷ endings) (suc i) reply owners pairs within same_reply same_owners same_pairs =
    let behind = line_at worker endings i reply owners pairs (omega arith) same_reply same_owners
    same_pairs in
    record { ending = behind.ending; here = behind.here; same = behind.same }

-- workers are counted from 1
pub worker_at : (workers : List (List Ending)) (i : ℕ) (endings : List Ending) → i < length workers
    → endings ≡ get_or workers i endings
    → slice_get (enumerate_from 1 workers) i ≡ Some (i + 1, endings)
worker_at workers i endings within here =
    let counted : i < length (enumerate_from 1 workers) = omega (arith, length-enumerate_from 1 workers) in
    let number : 1 + i ≡ i + 1 = omega arith in
    slice_get-get_or (enumerate_from 1 workers) i (0, endings) counted
    ∙ ap {B = _} Some (get_or-enumerate_from 1 workers i (0, endings) within)
    ∙ ap (λ n. Some (n, get_or workers i endings)) number
    ∙ ap (λ es. Some (i + 1, es)) (sym here)

-- the lines of as many workers as there are, are those of all
pub all_workers : (workers : List (List Ending)) (i : ℕ) → length workers ≤ i
    → flat_map worker_text (take i (enumerate_from 1 workers)) ≡ flat_map worker_text
    (enumerate_from 1 workers)
all_workers workers i all =
    ap (flat_map worker_text) (take_all i (enumerate_from 1 workers)
    (omega (arith, length-enumerate_from 1 workers)))

-- the text of a run is the lines of its workers and those of what was closed
pub run_text-parts : (workers : List (List Ending)) (closed : Closed)
    → closed.keys ≡ length closed.bindings.pairs
    → flat_map worker_text (enumerate_from 1 workers) ++ closed_text closed ≡ run_text workers
    closed.bindings.pairs closed.size
run_text-parts workers closed counted =
    ap (λ keys. flat_map worker_text (enumerate_from 1 workers) ++ (flat_map port_line
    closed.bindings.pairs ++ last_line closed.size keys)) counted
