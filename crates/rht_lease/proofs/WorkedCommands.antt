-- A worker that does a command more: its answer, its book, and the calls that it has served are those of all its commands. And its book isn't
-- full where it asks for a further lease.
use Rattle.std.proofs.Common.{◌≡◌, ℕ, ◌+◌, ◌<◌, ◌==◌, ◌&&◌, Bool, true, cond, List, [], ◌∷◌, ◌++◌, length, take, get_or, eq-eqb, refl, sym, ◌∙◌, ap, subst, arith}
use Rattle.std.proofs.lemmas.Bool.{ne_eqb}
use Rattle.std.proofs.lemmas.List.{take_more}
use Rattle.std.proofs.lemmas.List.Sums.{sum_by-take-le, count_by_more_yes}
use Rattle.rht_model.specs.declared.history.Call.{Call}
use Rattle.rht_model.specs.declared.history.Reply.{Reply}
use Rattle.rht_model.specs.Endings.{Ending, replied}
use Rattle.rht_core.specs.Locals.{is_idle}
use Rattle.rht_run.specs.declared.pass.Pass.{Pass}
use Rattle.rht_run.specs.declared.table.Table.{Table}
use Rattle.rht_run.specs.Passes.{IsPassOf}
use Rattle.rht_run.specs.Served.{HasServed}
use Rattle.rht_run.specs.Passes.{IsNew}
use Rattle.rht_run.specs.Workers.{HasServedCalls}
use Rattle.rht_run.proofs.ServedWorkers.{HasServedCalls-new}
use Rattle.rht_workers.specs.WorkerCalls.{HasServedEach}
use Rattle.rht_workers.proofs.ServedEach.{HasServedEach-none, HasServedEach-one, HasServedCalls-each}
use Rattle.rht_workers.proofs.WorkerCommands.{commands_of-own, commands_of-other, count-commands_of}
use Rattle.rht_lease.specs.declared.lease.Lease.{Lease}
use Rattle.rht_lease.specs.declared.lease.LeaseCall.{LeaseCall}
use Rattle.rht_lease.specs.declared.lease.LeaseCall.TheVariants as asks
use Rattle.rht_lease.specs.declared.lease.LeaseReply.{LeaseReply}
use Rattle.rht_lease.specs.declared.lease.LeaseReply.TheVariants.{Plain}
use Rattle.rht_lease.specs.declared.lease.LeaseReply.TheVariants as answers
use Rattle.rht_lease.specs.declared.lease.Swept.{Swept}
use Rattle.rht_lease.specs.declared.worker.Worker.{Worker}
use Rattle.rht_lease.specs.Answers.{IsOwnReply, IsAnswer, AreAnswered, book_left, calls_in_turn, commands_of, is_lease, own_leases}
use Rattle.rht_lease.specs.Books.{LeaseBook, empty_book, with_leases, IsFull, lasting, book_after, sweep_calls, calls_for}
use Rattle.rht_lease.specs.Scripts.{is_plain_call}
use Rattle.rht_lease.specs.ServedLeases.{HasSwept, HasDone, IsWorking}
use Rattle.rht_lease.proofs.BookLemmas.{AreAnswered-length, book_left-push, calls_in_turn-push, AreAnswered-push, length-book_left}
use Rattle.rht_lease.proofs.ServedCommands.{Serves-many, IsOwnReply-served}

-- ---- one command of a worker

module _ {M : Type 0} (mix : ℕ → ℕ → ℕ → ℕ) (t : Table M) (auto : Bool) (ask : LeaseCall) (before after : Worker M) where
  -- it stands for one call, and is answered as that is
  pub HasDone-served : (call : Call) (reply : Reply) (owners : List ℕ) → calls_for before.book.leases ask ≡ call ∷ []
      → is_plain_call call ≡ true → HasServed mix t auto call reply before.pass after.pass → owners ≡ after.pass.local.owners.items
      → after.replies ≡ before.replies ++ (Plain reply, owners) ∷ []
      → after.book ≡ with_leases before.book (book_after before.book.leases ask (Plain reply))
      → ((endings : List Ending) → IsOwnReply (Plain reply, owners) endings
      → IsAnswer before.book.leases ask (Plain reply, owners) endings)
      → HasDone mix t auto ask before after
  HasDone-served call reply owners calls plain has owners_are replies_are book_is answers_so =
      let endings = replied reply after.pass.local.owners.items after.pass.local.pairs.items ∷ [] in
      record {
        answer = (Plain reply, owners);
        replies = replies_are;
        book = book_is;
        endings = endings;
        served =
            subst (λ cs. HasServedEach mix t auto cs endings before.pass after.pass) (sym calls)
            (HasServedEach-one mix t auto call reply before.pass after.pass has);
        answered =
            answers_so endings (IsOwnReply-served mix t auto call reply owners before.pass after.pass plain has owners_are);
      }

  -- it stands for no call, and its answer is this one
  pub HasDone-bare : (answer : LeaseReply) → calls_for before.book.leases ask ≡ [] → after.pass ≡ before.pass
      → IsPassOf mix t before.pass → is_idle before.pass.local ≡ true
      → after.replies ≡ before.replies ++ (answer, []) ∷ []
      → after.book ≡ with_leases before.book (book_after before.book.leases ask answer)
      → IsAnswer before.book.leases ask (answer, []) [] → HasDone mix t auto ask before after
  HasDone-bare answer calls pass_is of_table idle replies_are book_is answered = record {
    answer = (answer, []);
    replies = replies_are;
    book = book_is;
    endings = [];
    served =
        subst (λ (p : Pass M). HasServedEach mix t auto (calls_for before.book.leases ask) [] before.pass p) (sym pass_is)
        (subst (λ cs. HasServedEach mix t auto cs [] before.pass before.pass) (sym calls)
        (HasServedEach-none mix t auto before.pass of_table idle));
    answered = answered;
  }

-- and a sweep stands for its releases
pub HasDone-swept : {M : Type 0} (mix : ℕ → ℕ → ℕ → ℕ) (t : Table M) (auto : Bool) (now : ℕ) (before after : Worker M) (swept : Swept)
    → HasSwept mix t auto (sweep_calls now before.book.leases) swept before.pass after.pass
    → after.replies ≡ before.replies ++ (answers.Swept swept, []) ∷ []
    → after.book ≡ with_leases before.book (lasting now before.book.leases) → HasDone mix t auto (asks.Sweep now) before after
HasDone-swept mix t auto now before after swept has replies_are book_is = record {
  answer = (answers.Swept swept, []);
  replies = replies_are;
  book = book_is;
  endings = has.endings;
  served = has.served;
  answered = record {
    counts = ap (λ (s : Swept). (answers.Swept s, [])) has.counts;
    many = sym (Serves-many auto (sweep_calls now before.book.leases) has.endings has.served.more has.served.serves);
    each =
        subst (λ (s : Swept). s.released + s.absent ≡ length (sweep_calls now before.book.leases)) has.counts has.each;
  };
}

-- ---- a worker's commands

module _ {M : Type 0} (mix : ℕ → ℕ → ℕ → ℕ) (t : Table M) (auto : Bool) (number : ℕ) where
  -- a new worker has done none
  pub IsWorking-none : (pass : Pass M) (worker : Worker M) (capacity : ℕ) → IsNew mix t number pass → worker.pass ≡ pass
      → worker.book ≡ empty_book capacity → worker.replies ≡ [] → IsWorking mix t auto [] number worker
  IsWorking-none pass worker capacity new pass_is book_is replies_are = record {
    leased = record {
      endings = [];
      answered = subst (λ own. AreAnswered [] [] own []) (sym replies_are) refl;
      served =
          subst (λ (p : Pass M). HasServedCalls mix t auto number [] p []) (sym pass_is) (HasServedCalls-new mix t auto number pass new);
    };
    book = ap (λ (b : LeaseBook). b.leases) book_is;
  }

  -- and then it has done one more
  pub IsWorking-more : (asked : List LeaseCall) (ask : LeaseCall) (before after : Worker M)
      → IsWorking mix t auto asked number before → HasDone mix t auto ask before after
      → IsWorking mix t auto (asked ++ ask ∷ []) number after
  IsWorking-more asked ask before after working has =
      let leased = working.leased in
      let same = AreAnswered-length [] asked before.replies leased.endings leased.answered in
      let longer = before.replies ++ has.answer ∷ [] in
      let endings = leased.endings ++ has.endings in
      let calls : calls_in_turn [] (asked ++ ask ∷ []) longer
      ≡ calls_in_turn [] asked before.replies ++ calls_for before.book.leases ask =
      calls_in_turn-push [] asked before.replies ask has.answer same
      ∙ ap (λ b. calls_in_turn [] asked before.replies ++ calls_for b ask) (sym working.book) in
      record {
        leased = record {
          endings = endings;
          answered =
              subst (λ own. AreAnswered [] (asked ++ ask ∷ []) own endings) (sym has.replies)
              (AreAnswered-push [] asked before.replies leased.endings ask has.answer has.endings leased.answered
              (subst (λ b. IsAnswer b ask has.answer has.endings) working.book has.answered));
          served =
              subst (λ own. HasServedCalls mix t auto number (calls_in_turn [] (asked ++ ask ∷ []) own) after.pass endings) (sym has.replies)
              (subst (λ cs. HasServedCalls mix t auto number cs after.pass endings) (sym calls)
              (HasServedCalls-each mix t auto number (calls_in_turn [] asked before.replies) (calls_for before.book.leases ask)
              leased.endings has.endings before.pass after.pass leased.served has.served));
        };
        book =
            ap (λ (b : LeaseBook). b.leases) has.book
            ∙ ap (λ b. book_after b ask has.answer.0) working.book
            ∙ sym (book_left-push [] asked before.replies ask has.answer same)
            ∙ ap (λ own. book_left [] (asked ++ ask ∷ []) own) (sym has.replies);
      }

  -- the command at a place, where it is the worker's own, and where it is another's
  module _ (items : List (ℕ × LeaseCall)) (i : ℕ) (here : ℕ × LeaseCall) (is : here ≡ get_or items i here) (within : i < length items) where
    one_more : take (i + 1) items ≡ take i items ++ here ∷ []
    one_more = take_more items i here within ∙ ap (λ (c : ℕ × LeaseCall). take i items ++ c ∷ []) (sym is)

    pub IsWorking-own : (before after : Worker M) → here.0 ≡ number + 1
        → IsWorking mix t auto (commands_of (number + 1) (take i items)) number before → HasDone mix t auto here.1 before after
        → IsWorking mix t auto (commands_of (number + 1) (take (i + 1) items)) number after
    IsWorking-own before after own working has =
        let commands : commands_of (number + 1) (take (i + 1) items) ≡ commands_of (number + 1) (take i items) ++ here.1 ∷ [] =
        ap (commands_of (number + 1)) one_more
        ∙ commands_of-own (number + 1) (take i items) here (eq-eqb here.0 (number + 1) own) in
        subst (λ cs. IsWorking mix t auto cs number after) (sym commands)
        (IsWorking-more (commands_of (number + 1) (take i items)) here.1 before after working has)

    pub IsWorking-other : (worker : Worker M) → (here.0 ≡ number + 1 → ⊥)
        → IsWorking mix t auto (commands_of (number + 1) (take i items)) number worker
        → IsWorking mix t auto (commands_of (number + 1) (take (i + 1) items)) number worker
    IsWorking-other worker other working =
        let commands : commands_of (number + 1) (take (i + 1) items) ≡ commands_of (number + 1) (take i items) =
        ap (commands_of (number + 1)) one_more
        ∙ commands_of-other (number + 1) (take i items) here (ne_eqb here.0 (number + 1) other) in
        subst (λ cs. IsWorking mix t auto cs number worker) (sym commands) working

  -- the worker under another name
  pub IsWorking-same : (asked : List LeaseCall) (worker now : Worker M) → now ≡ worker → IsWorking mix t auto asked number worker
      → IsWorking mix t auto asked number now
  IsWorking-same asked worker now is working = subst (λ (w : Worker M). IsWorking mix t auto asked number w) (sym is) working

  -- so its book isn't full where it asks for a further lease
  pub IsWorking-room : (items : List (ℕ × LeaseCall)) (i : ℕ) (default : ℕ × LeaseCall) (lease : Lease) (worker : Worker M) → i < length items
      → (get_or items i default).0 ≡ number + 1 → (get_or items i default).1 ≡ asks.Lease lease
      → IsWorking mix t auto (commands_of (number + 1) (take i items)) number worker
      → worker.book.capacity ≡ own_leases (number + 1) items → IsFull worker.book → ⊥
  IsWorking-room items i default lease worker within own is working room full =
      let mine : ℕ × LeaseCall → Bool = λ (c : ℕ × LeaseCall). (c.0 == number + 1) && is_lease c.1 in
      let so_far = length-book_left [] (commands_of (number + 1) (take i items)) worker.replies in
      let counted = count-commands_of is_lease (number + 1) (take i items) in
      let here : mine (get_or items i default) ≡ true =
      ap (λ b. b && is_lease (get_or items i default).1) (eq-eqb (get_or items i default).0 (number + 1) own)
      ∙ ap is_lease is in
      let more = count_by_more_yes mine items i default within here in
      let few = sum_by-take-le (λ c. cond (mine c) 1 0) items (i + 1) in
      let many = ap length working.book in
      absurd (omega (arith, so_far, counted, more, few, many, room, full))
