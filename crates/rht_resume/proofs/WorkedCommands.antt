-- A worker that does a command more: its answer, where its walk is, and the calls that it has served are those of all its commands.
use Rattle.std.proofs.Common.{◌≡◌, ℕ, ◌+◌, ◌<◌, Bool, Some, List, [], ◌∷◌, ◌++◌, length, take, get_or, eq-eqb, refl, sym, ◌∙◌, ap, subst}
use Rattle.std.proofs.lemmas.Bool.{ne_eqb}
use Rattle.std.proofs.lemmas.List.{take_more}
use Rattle.rht_model.specs.declared.history.Call.{Call}
use Rattle.rht_model.specs.declared.history.Reply.{Reply}
use Rattle.rht_model.specs.Endings.{replied}
use Rattle.rht_run.specs.declared.pass.Pass.{Pass}
use Rattle.rht_run.specs.declared.table.Table.{Table}
use Rattle.rht_run.specs.Served.{HasServed}
use Rattle.rht_run.specs.Passes.{IsNew}
use Rattle.rht_run.specs.Workers.{HasServedCalls}
use Rattle.rht_run.proofs.ServedWorkers.{HasServedCalls-new}
use Rattle.rht_workers.specs.WorkerCalls.{HasServedEach}
use Rattle.rht_workers.proofs.ServedEach.{HasServedEach-one, HasServedCalls-each}
use Rattle.rht_workers.proofs.WorkerCommands.{commands_of-own, commands_of-other}
use Rattle.rht_resume.specs.declared.resume.Piece.{Piece}
use Rattle.rht_resume.specs.declared.resume.ResumeCall.{ResumeCall}
use Rattle.rht_resume.specs.declared.resume.ResumeCall.TheVariants as asks
use Rattle.rht_resume.specs.declared.worker.Worker.{Worker}
use Rattle.rht_resume.specs.Answers.{plain_answer, next_answer, answer_by, answer_of, calls_for, spot_after, AreAnswered, calls_in_turn, spot_left, commands_of}
use Rattle.rht_resume.specs.Pieces.{Walking, start, begun, unbegun, spot_by, outcome_of}
use Rattle.rht_resume.specs.ServedPieces.{HasResumed, HasDone, IsWorking, outcome_with}
use Rattle.rht_resume.proofs.AnswerLemmas.{push-answered}
use Rattle.rht_resume.proofs.ServedCommands.{HasServedEach-next}

-- ---- one command of a worker

module _ {M : Type 0} (mix : ℕ → ℕ → ℕ → ℕ) (t : Table M) (auto : Bool) (old new : Worker M) where
  -- a call of the table
  pub HasDone-served : (call : Call) (reply : Reply) (owners : List ℕ) (pairs : List (ℕ × ℕ))
      → HasServed mix t auto call reply old.pass new.pass → owners ≡ new.pass.local.owners.items → pairs ≡ new.pass.local.pairs.items
      → new.replies ≡ old.replies ++ plain_answer (replied reply owners pairs) ∷ [] → new.resumed ≡ old.resumed
      → HasDone mix t auto (asks.Plain call) old new
  HasDone-served call reply owners pairs has owners_are pairs_are replies_are walk_is =
      let ending = replied reply new.pass.local.owners.items new.pass.local.pairs.items in
      record {
        endings = ending ∷ [];
        answer = plain_answer ending;
        answered = refl;
        replies =
            replies_are
            ∙ ap (λ os. old.replies ++ plain_answer (replied reply os pairs) ∷ []) owners_are
            ∙ ap (λ ps. old.replies ++ plain_answer (replied reply new.pass.local.owners.items ps) ∷ []) pairs_are;
        spot = ap (λ (w : Walking). w.spot) walk_is;
        nodes = ap (λ (w : Walking). w.nodes) walk_is;
        served = HasServedEach-one mix t auto call reply old.pass new.pass has;
      }

  -- a piece of its walk, which was at this spot or began anew
  pub HasDone-next : (limit : ℕ) (from : Walking) (piece : Piece) (pairs : List (ℕ × ℕ)) → begun from.spot ≡ begun old.resumed.spot
      → from.nodes ≡ old.resumed.nodes → HasResumed mix t limit from new.resumed piece old.pass new.pass → pairs ≡ new.resumed.pairs
      → new.replies ≡ old.replies ++ next_answer piece pairs ∷ [] → HasDone mix t auto (asks.Next limit) old new
  HasDone-next limit from piece pairs spot_is nodes_are has pairs_are replies_are =
      let outcome : outcome_of limit (begun old.resumed.spot) has.endings ≡ Some (outcome_with piece new.resumed) =
      ap (λ s. outcome_of limit s has.endings) (sym spot_is) ∙ has.outcome in
      record {
        endings = has.endings;
        answer = next_answer piece new.resumed.pairs;
        answered = ap answer_by outcome;
        replies = replies_are ∙ ap (λ ps. old.replies ++ next_answer piece ps ∷ []) pairs_are;
        spot = sym (ap spot_by outcome);
        nodes = has.nodes ∙ nodes_are;
        served =
            subst (λ s. HasServedEach mix t auto (calls_for (Some s) (asks.Next limit) has.endings) has.endings old.pass new.pass) spot_is
            (HasServedEach-next mix t auto limit from new.resumed piece old.pass new.pass has);
      }

-- ---- a worker's commands

module _ {M : Type 0} (mix : ℕ → ℕ → ℕ → ℕ) (t : Table M) (auto : Bool) (number : ℕ) where
  -- a new worker has done none
  pub IsWorking-none : (pass : Pass M) (worker : Worker M) (nodes : ℕ) → IsNew mix t number pass → worker.pass ≡ pass
      → worker.resumed ≡ unbegun nodes → worker.replies ≡ [] → nodes ≡ t.env.config.nodes → IsWorking mix t auto [] number worker
  IsWorking-none pass worker nodes new pass_is walk_is replies_are nodes_are = record {
    done = record {
      endings = [];
      answered = subst (λ own. AreAnswered (Some start) [] own []) (sym replies_are) refl;
      served =
          subst (λ (p : Pass M). HasServedCalls mix t auto number [] p []) (sym pass_is) (HasServedCalls-new mix t auto number pass new);
    };
    spot = ap (λ (w : Walking). w.spot) walk_is;
    nodes = ap (λ (w : Walking). w.nodes) walk_is ∙ nodes_are;
  }

  -- and then it has done one more
  pub IsWorking-more : (asked : List ResumeCall) (ask : ResumeCall) (before after : Worker M)
      → IsWorking mix t auto asked number before → HasDone mix t auto ask before after
      → IsWorking mix t auto (asked ++ ask ∷ []) number after
  IsWorking-more asked ask before after working has =
      let done = working.done in
      let endings = done.endings ++ has.endings in
      let answered : answer_of (spot_left (Some start) asked done.endings) ask has.endings ≡ Some has.answer =
      ap (λ s. answer_of s ask has.endings) (sym working.spot) ∙ has.answered in
      let pushed = push-answered (Some start) asked before.replies done.endings ask has.answer has.endings done.answered answered in
      let calls : calls_in_turn (Some start) (asked ++ ask ∷ []) endings
      ≡ calls_in_turn (Some start) asked done.endings ++ calls_for before.resumed.spot ask has.endings =
      pushed.calls
      ∙ ap (λ s. calls_in_turn (Some start) asked done.endings ++ calls_for s ask has.endings) (sym working.spot) in
      record {
        done = record {
          endings = endings;
          answered = subst (λ own. AreAnswered (Some start) (asked ++ ask ∷ []) own endings) (sym has.replies) pushed.answered;
          served =
              subst (λ cs. HasServedCalls mix t auto number cs after.pass endings) (sym calls)
              (HasServedCalls-each mix t auto number (calls_in_turn (Some start) asked done.endings)
              (calls_for before.resumed.spot ask has.endings) done.endings has.endings before.pass after.pass done.served has.served);
        };
        spot = has.spot ∙ ap (λ s. spot_after s ask has.endings) working.spot ∙ sym pushed.spot_is;
        nodes = has.nodes ∙ working.nodes;
      }

  -- the command at a place, where it is the worker's own, and where it is another's
  module _ (items : List (ℕ × ResumeCall)) (i : ℕ) (here : ℕ × ResumeCall) (is : here ≡ get_or items i here) (within : i < length items) where
    one_more : take (i + 1) items ≡ take i items ++ here ∷ []
    one_more = take_more items i here within ∙ ap (λ (c : ℕ × ResumeCall). take i items ++ c ∷ []) (sym is)

    pub IsWorking-own : (before after : Worker M) → here.0 ≡ number + 1
        → IsWorking mix t auto (commands_of (number + 1) (take i items)) number before → HasDone mix t auto here.1 before after
        → IsWorking mix t auto (commands_of (number + 1) (take (i + 1) items)) number after
    IsWorking-own before after own working has =
        let commands : commands_of (number + 1) (take (i + 1) items) ≡ commands_of (number + 1) (take i items) ++ here.1 ∷ [] =
        ap (commands_of (number + 1)) one_more
        ∙ commands_of-own (number + 1) (take i items) here (eq-eqb here.0 (number + 1) own) in
        subst (λ cs. IsWorking mix t auto cs number after) (sym commands)
        (IsWorking-more (commands_of (number + 1) (take i items)) here.1 before after working has)

    pub IsWorking-other : (worker : Worker M) → (here.0 ≡ number + 1 → ⊥)
        → IsWorking mix t auto (commands_of (number + 1) (take i items)) number worker
        → IsWorking mix t auto (commands_of (number + 1) (take (i + 1) items)) number worker
    IsWorking-other worker other working =
        let commands : commands_of (number + 1) (take (i + 1) items) ≡ commands_of (number + 1) (take i items) =
        ap (commands_of (number + 1)) one_more
        ∙ commands_of-other (number + 1) (take i items) here (ne_eqb here.0 (number + 1) other) in
        subst (λ cs. IsWorking mix t auto cs number worker) (sym commands) working

  -- the worker under another name
  pub IsWorking-same : (asked : List ResumeCall) (worker now : Worker M) → now ≡ worker → IsWorking mix t auto asked number worker
      → IsWorking mix t auto asked number now
  IsWorking-same asked worker now is working = subst (λ (w : Worker M). IsWorking mix t auto asked number w) (sym is) working
