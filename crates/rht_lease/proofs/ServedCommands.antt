-- How a pass gets on by the calls that commands stand for: what they have added to its finished calls is served behind the others. So does a
-- sweep, release by release, each of which is counted by its reply.
use Rattle.std.proofs.Common.{◌≡◌, ℕ, suc, ◌+◌, Bool, true, false, cond, List, [], ◌∷◌, ◌++◌, length, refl, sym, ◌∙◌, ap, subst, arith}
use Rattle.std.specs.Prelude.{Option}
use Rattle.std.specs.List.{AllByRecursion}
use Rattle.std.proofs.lemmas.List.{length_push}
use Rattle.std.proofs.lemmas.List.Sums.{sum_by-append}
use Rattle.rht_words.proofs.EachElement.{AllByRecursion-cut}
use Rattle.rht_model.specs.declared.history.Call.{Call}
use Rattle.rht_model.specs.declared.history.Call.TheVariants.{Bind, Find, All, Release, Rebind, Walk, Work, Tidy, Count}
use Rattle.rht_model.specs.declared.history.Cursor.{Cursor}
use Rattle.rht_model.specs.declared.history.Reply.{Reply}
use Rattle.rht_model.specs.declared.history.Reply.TheVariants as replies
use Rattle.rht_model.specs.declared.finished.Finished.{Finished}
use Rattle.rht_model.specs.Endings.{Ending, ended_with, replied}
use Rattle.rht_core.specs.Locals.{is_idle}
use Rattle.rht_core.specs.Replies.{IsReplyTo, ArePairsWith, IsRightlyAnswered}
use Rattle.rht_core.specs.Serving.{Serves}
use Rattle.rht_core.proofs.Histories.ToldEntries.{tries-last}
use Rattle.rht_run.specs.declared.pass.Pass.{Pass}
use Rattle.rht_run.specs.declared.table.Table.{Table}
use Rattle.rht_run.specs.Passes.{IsPassOf, book_of}
use Rattle.rht_run.specs.Served.{HasServed}
use Rattle.rht_run.proofs.CallSteps.{answers}
use Rattle.rht_workers.proofs.ServedEach.{HasServedEach-none, HasServedEach-one, HasServedEach-then}
use Rattle.rht_lease.specs.declared.lease.LeaseReply.TheVariants.{Plain}
use Rattle.rht_lease.specs.declared.lease.Swept.{Swept}
use Rattle.rht_lease.specs.Answers.{is_released, is_absent, swept_of, counting, IsOwnReply}
use Rattle.rht_lease.specs.Scripts.{is_plain_call}
use Rattle.rht_lease.specs.ServedLeases.{HasSwept}

-- as many calls are served as have ended
pub Serves-many : (auto : Bool) (calls : List Call) (endings : List Ending) (done : List Finished) → Serves auto calls endings done
    → length calls ≡ length endings
Serves-many auto [] [] done serves = refl
Serves-many auto [] (e ∷ endings) done serves = absurd serves
Serves-many auto (own ∷ calls) [] done serves = absurd serves
Serves-many auto (own ∷ calls) (e ∷ endings) done serves =
    ap suc (Serves-many auto calls endings serves.rest serves.rest_is)

module _ {M : Type 0} (mix : ℕ → ℕ → ℕ → ℕ) (t : Table M) (auto : Bool) where
  -- the command's own call was answered as such a call is
  its_answer : (call : Call) (reply : Reply) (before now : Pass M) → HasServed mix t auto call reply before now
      → IsRightlyAnswered (ended_with call (replied reply now.local.owners.items now.local.pairs.items))
  its_answer call reply before now has =
      let all = subst (AllByRecursion IsRightlyAnswered) has.finished (answers mix t now has.pass).finished in
      let more = (AllByRecursion-cut IsRightlyAnswered (book_of before).finished has.more all).1 in
      let parts = subst (AllByRecursion IsRightlyAnswered) has.made.whole more in
      tries-last IsRightlyAnswered call (replied reply now.local.owners.items now.local.pairs.items) has.made.tries has.made.are_tries
      (AllByRecursion-cut IsRightlyAnswered has.made.tries has.made.behind parts).0

-- no call that lease scripts have is answered as a walk is
plain-not_walked : (call : Call) (len : ℕ) (next : Option Cursor) → is_plain_call call ≡ true → IsReplyTo call (replies.Walked len next) → ⊥
plain-not_walked (Bind port owner true) len next plain right = right
plain-not_walked (Bind port owner false) len next plain right = right
plain-not_walked (Find port) len next plain right = right
plain-not_walked (All port) len next plain right = right
plain-not_walked (Release port owner) len next plain right = right
plain-not_walked (Rebind port owner new) len next plain right = right
plain-not_walked (Walk from limit) len next plain right = absurd (cc)
plain-not_walked Work len next plain right = right
plain-not_walked Tidy len next plain right = right
plain-not_walked Count len next plain right = right

-- and any other reply comes without pairs
no_pairs : (call : Call) (reply : Reply) (pairs : List (ℕ × ℕ)) → is_plain_call call ≡ true → IsReplyTo call reply → ArePairsWith reply pairs
    → pairs ≡ []
no_pairs call (replies.Walked len next) pairs plain right are = absurd (plain-not_walked call len next plain right)
no_pairs call _ pairs plain right are = are

-- so the reply and the owners tell how the call ended
pub IsOwnReply-served : {M : Type 0} (mix : ℕ → ℕ → ℕ → ℕ) (t : Table M) (auto : Bool) (call : Call) (reply : Reply) (owners : List ℕ)
    (before now : Pass M) → is_plain_call call ≡ true → HasServed mix t auto call reply before now → owners ≡ now.local.owners.items
    → IsOwnReply (Plain reply, owners) (replied reply now.local.owners.items now.local.pairs.items ∷ [])
IsOwnReply-served mix t auto call reply owners before now plain has owners_are =
    let answer = its_answer mix t auto call reply before now has in
    let none = no_pairs call reply now.local.pairs.items plain answer.reply answer.pairs in
    record {
      reply = reply;
      plain = refl;
      one =
          ap (λ l. replied reply l now.local.pairs.items ∷ []) (sym owners_are)
          ∙ ap (λ l. replied reply owners l ∷ []) none;
    }

-- ---- a sweep

abbrev released : Ending → ℕ
released ending = cond (is_released ending.answer.reply) 1 0

abbrev absent : Ending → ℕ
absent ending = cond (is_absent ending.answer.reply) 1 0

same_swept : (r a r' a' : ℕ) → r ≡ r' → a ≡ a'
    → (let this : Swept = record { released = r; absent = a } in this) ≡ record { released = r'; absent = a' }
same_swept r a r' a' same_r same_a = λ i. record { released = same_r i; absent = same_a i }

-- a release more is counted by its reply
swept_of-push : (endings : List Ending) (reply : Reply) (owners : List ℕ) (pairs : List (ℕ × ℕ))
    → counting (swept_of endings) reply ≡ swept_of (endings ++ replied reply owners pairs ∷ [])
swept_of-push endings (replies.Released kick) owners pairs =
    let last = replied (replies.Released kick) owners pairs ∷ [] in
    same_swept _ _ _ _ (omega (arith, sum_by-append released endings last)) (omega (arith, sum_by-append absent endings last))
swept_of-push endings replies.Absent owners pairs =
    let last = replied replies.Absent owners pairs ∷ [] in
    same_swept _ _ _ _ (omega (arith, sum_by-append released endings last)) (omega (arith, sum_by-append absent endings last))
swept_of-push endings other owners pairs =
    let last = replied other owners pairs ∷ [] in
    same_swept (swept_of endings).released (swept_of endings).absent (swept_of (endings ++ last)).released
    (swept_of (endings ++ last)).absent (omega (arith, sum_by-append released endings last)) (omega (arith, sum_by-append absent endings last))

-- and by one of the two counts
counting-each : (swept : Swept) (port owner : ℕ) (reply : Reply) → IsReplyTo (Release port owner) reply
    → (counting swept reply).released + (counting swept reply).absent ≡ swept.released + swept.absent + 1
counting-each swept port owner (replies.Released kick) right = omega arith
counting-each swept port owner replies.Absent right = omega arith
counting-each swept port owner _ right = absurd right

module _ {M : Type 0} (mix : ℕ → ℕ → ℕ → ℕ) (t : Table M) (auto : Bool) where
  -- at first nothing is released
  pub HasSwept-none : (pass : Pass M) → IsPassOf mix t pass → is_idle pass.local ≡ true
      → HasSwept mix t auto [] (record { released = 0; absent = 0 }) pass pass
  HasSwept-none pass of_table idle = record {
    endings = [];
    served = HasServedEach-none mix t auto pass of_table idle;
    counts = refl;
    each = refl;
  }

  -- and then a release more
  pub HasSwept-more : (calls : List Call) (port owner : ℕ) (swept : Swept) (reply : Reply) (before now after : Pass M)
      → HasSwept mix t auto calls swept before now → HasServed mix t auto (Release port owner) reply now after
      → IsReplyTo (Release port owner) reply
      → HasSwept mix t auto (calls ++ Release port owner ∷ []) (counting swept reply) before after
  HasSwept-more calls port owner swept reply before now after has more right = record {
    endings = has.endings ++ replied reply after.local.owners.items after.local.pairs.items ∷ [];
    served =
        HasServedEach-then mix t auto calls (Release port owner ∷ []) has.endings
        (replied reply after.local.owners.items after.local.pairs.items ∷ []) before now after has.served
        (HasServedEach-one mix t auto (Release port owner) reply now after more);
    counts =
        ap (λ (s : Swept). counting s reply) has.counts
        ∙ swept_of-push has.endings reply after.local.owners.items after.local.pairs.items;
    each =
        (let all = has.each in
        omega (arith, all, counting-each swept port owner reply right, length_push calls (Release port owner)));
  }

  -- the same under other names
  pub HasSwept-same : (calls more : List Call) (swept now : Swept) (before after last : Pass M) → more ≡ calls → now ≡ swept → last ≡ after
      → HasSwept mix t auto calls swept before after → HasSwept mix t auto more now before last
  HasSwept-same calls more swept now before after last calls_are swept_is pass_is has =
      subst (λ (p : Pass M). HasSwept mix t auto more now before p) (sym pass_is)
      (subst (λ (s : Swept). HasSwept mix t auto more s before after) (sym swept_is)
      (subst (λ cs. HasSwept mix t auto cs swept before after) (sym calls_are) has))
