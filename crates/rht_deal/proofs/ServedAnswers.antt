-- A worker that does a command more. Its pass has served that behind the others, and it keeps what the command was answered: the reply with its
-- owners, and no pairs, since no command that is dealt is a walk.
use Rattle.std.proofs.Common.{◌≡◌, ℕ, zero, suc, ◌+◌, ◌-◌, ◌<◌, ◌==◌, ◌&&◌, Bool, true, false, List, [], ◌∷◌, ◌++◌, length, map, get_or, refl, sym, ◌∙◌, ap, subst, arith}
use Rattle.std.specs.Prelude.{Option}
use Rattle.std.specs.List.{AllByRecursion, list_all}
use Rattle.std.proofs.lemmas.List.{map_push}
use Rattle.rht_words.proofs.EachElement.{AllByRecursion-push, AllByRecursion-cut}
use Rattle.rht_model.specs.declared.history.Call.{Call}
use Rattle.rht_model.specs.declared.history.Call.TheVariants.{Bind, Find, All, Release, Rebind, Walk, Work, Tidy, Count}
use Rattle.rht_model.specs.declared.history.Cursor.{Cursor}
use Rattle.rht_model.specs.declared.history.Reply.{Reply}
use Rattle.rht_model.specs.declared.history.Reply.TheVariants as replies
use Rattle.rht_model.specs.Endings.{ended_with, replied}
use Rattle.rht_core.specs.Replies.{IsReplyTo, ArePairsWith, IsRightlyAnswered}
use Rattle.rht_core.proofs.Histories.ToldEntries.{tries-last}
use Rattle.rht_run.specs.declared.pass.Pass.{Pass}
use Rattle.rht_run.specs.declared.table.Table.{Table}
use Rattle.rht_run.specs.Passes.{book_of}
use Rattle.rht_run.specs.Served.{HasServed}
use Rattle.rht_run.specs.Workers.{HasServedCalls}
use Rattle.rht_run.proofs.CallSteps.{answers}
use Rattle.rht_run.proofs.ServedWorkers.{HasServedCalls-more}
use Rattle.rht_script.specs.declared.script.Script.{Script}
use Rattle.rht_script.specs.Sound.{has_sound_numbers}
use Rattle.rht_script.specs.Dealt.{is_dealt_call, is_dealt_command, nobody, IsDealtScript}
use Rattle.rht_script.specs.declared.done.Done.{Done}
use Rattle.rht_deal.specs.declared.worker.Worker.{Worker}
use Rattle.rht_deal.specs.DoneCommands.{ending_of, numbers_of, calls_at}
use Rattle.rht_deal.specs.Numbers.{AreRising}
use Rattle.rht_deal.specs.Workers.{IsWorking}
use Rattle.rht_deal.proofs.NumberRule.{rising-push}

-- ---- no pairs

-- no command that is dealt is answered as a walk is
dealt-not_walked : (call : Call) (len : ℕ) (next : Option Cursor) → is_dealt_call call ≡ true → IsReplyTo call (replies.Walked len next) → ⊥
dealt-not_walked (Bind port owner true) len next dealt right = right
dealt-not_walked (Bind port owner false) len next dealt right = right
dealt-not_walked (Find port) len next dealt right = right
dealt-not_walked (All port) len next dealt right = right
dealt-not_walked (Release port owner) len next dealt right = right
dealt-not_walked (Rebind port owner new) len next dealt right = right
dealt-not_walked (Walk from limit) len next dealt right = absurd (cc)
dealt-not_walked Work len next dealt right = right
dealt-not_walked Tidy len next dealt right = right
dealt-not_walked Count len next dealt right = right

-- and any other reply comes without pairs
no_pairs : (call : Call) (reply : Reply) (pairs : List (ℕ × ℕ)) → is_dealt_call call ≡ true → IsReplyTo call reply → ArePairsWith reply pairs
    → pairs ≡ []
no_pairs call (replies.Walked len next) pairs dealt right are = absurd (dealt-not_walked call len next dealt right)
no_pairs call _ pairs dealt right are = are

module _ {M : Type 0} (mix : ℕ → ℕ → ℕ → ℕ) (t : Table M) (auto : Bool) (call : Call) (reply : Reply) (before now : Pass M)
    (has : HasServed mix t auto call reply before now) where
  -- the command's own call was answered as such a call is
  its_answer : IsRightlyAnswered (ended_with call (replied reply now.local.owners.items now.local.pairs.items))
  its_answer =
      let all = subst (AllByRecursion IsRightlyAnswered) has.finished (answers mix t now has.pass).finished in
      let more = (AllByRecursion-cut IsRightlyAnswered (book_of before).finished has.more all).1 in
      let parts = subst (AllByRecursion IsRightlyAnswered) has.made.whole more in
      tries-last IsRightlyAnswered call (replied reply now.local.owners.items now.local.pairs.items) has.made.tries has.made.are_tries
      (AllByRecursion-cut IsRightlyAnswered has.made.tries has.made.behind parts).0

  pub served-pairs : is_dealt_call call ≡ true → now.local.pairs.items ≡ []
  served-pairs dealt = no_pairs call reply now.local.pairs.items dealt its_answer.reply its_answer.pairs

-- ---- a command of the script

-- two tests pass where both do
and_from-true : (x y : Bool) → (x && y) ≡ true → (x ≡ true) × (y ≡ true)
and_from-true true y both = (refl, both)
and_from-true false y both = absurd (cc)

-- what is so of all commands is so of the one at a place
list_all-at : {X : Type 0} (p : X → Bool) (xs : List X) (i : ℕ) (default : X) → list_all p xs ≡ true → i < length xs
    → p (get_or xs i default) ≡ true
list_all-at p [] i default all below = absurd (omega (arith, below))
list_all-at p (x ∷ xs) zero default all below = (and_from-true (p x) (list_all p xs) all).0
list_all-at p (x ∷ xs) (suc i) default all below =
    list_all-at p xs i default (and_from-true (p x) (list_all p xs) all).1 (omega (arith, below))

-- a place within a list has the same whatever stands for what isn't there
get_or-within : {X : Type 0} (xs : List X) (i : ℕ) (a b : X) → i < length xs → get_or xs i a ≡ get_or xs i b
get_or-within [] i a b below = absurd (omega (arith, below))
get_or-within (x ∷ xs) zero a b below = refl
get_or-within (x ∷ xs) (suc i) a b below = get_or-within xs i a b (omega (arith, below))

-- the call of a command of a dealt script, which any worker may do
pub dealt-at : (script : Script) (place : ℕ) (command : ℕ × Call) → IsDealtScript script → place < length script.commands.items
    → command ≡ get_or script.commands.items place command
    → ((get_or script.commands.items place (0, Count)).1 ≡ command.1) × (is_dealt_call command.1 ≡ true)
dealt-at script place command dealt within is =
    let commands = script.commands.items in
    let one : is_dealt_command script.form script.config (get_or commands place command) ≡ true =
    list_all-at (is_dealt_command script.form script.config) commands place command dealt.commands within in
    let its : is_dealt_command script.form script.config command ≡ true =
    ap (is_dealt_command script.form script.config) is ∙ one in
    let behind = (and_from-true (command.0 == nobody) _ its).1 in (
      ap (λ (c : ℕ × Call). c.1) (get_or-within commands place (0, Count) command within ∙ sym is),
      (and_from-true (is_dealt_call command.1) _ (and_from-true (has_sound_numbers script.form command.1) _ behind).1).0,
    )

-- ---- one command more

module _ {M : Type 0} (mix : ℕ → ℕ → ℕ → ℕ) (t : Table M) (script : Script) (before after : Worker M) (number : ℕ) (call : Call)
    (reply : Reply) (pass : Pass M) (owners : List ℕ) (working : IsWorking mix t script before) where
  abbrev done : Done
  done = record { worker = before.number; number = number; reply = reply; owners = owners }

  pub IsWorking-more : (get_or script.commands.items (number - 1) (0, Count)).1 ≡ call → is_dealt_call call ≡ true
      → AllByRecursion (λ that. that < number) (numbers_of before.done.items)
      → HasServed mix t script.auto call reply before.pass pass → owners ≡ pass.local.owners.items
      → after.done.items ≡ before.done.items ++ done ∷ [] → after.pass ≡ pass → after.number ≡ before.number
      → IsWorking mix t script after
  IsWorking-more call_is dealt rises has owners_are done_are pass_is number_is =
      let commands = script.commands.items in
      let numbers : numbers_of after.done.items ≡ numbers_of before.done.items ++ number ∷ [] =
      ap numbers_of done_are ∙ map_push (λ (d : Done). d.number) before.done.items done in
      let calls : calls_at commands (numbers_of after.done.items) ≡ calls_at commands (numbers_of before.done.items) ++ call ∷ [] =
      ap (calls_at commands) numbers ∙ map_push (λ n. (get_or commands (n - 1) (0, Count)).1) (numbers_of before.done.items) number
      ∙ ap (λ c. calls_at commands (numbers_of before.done.items) ++ c ∷ []) call_is in
      let ending : ending_of done ≡ replied reply pass.local.owners.items pass.local.pairs.items =
      ap (λ l. replied reply l []) owners_are
      ∙ ap (λ l. replied reply pass.local.owners.items l)
      (sym (served-pairs mix t script.auto call reply before.pass pass has dealt)) in
      let endings : map ending_of after.done.items
      ≡ map ending_of before.done.items ++ replied reply pass.local.owners.items pass.local.pairs.items ∷ [] =
      ap (map ending_of) done_are ∙ map_push ending_of before.done.items done
      ∙ ap (λ e. map ending_of before.done.items ++ e ∷ []) ending in
      let served = HasServedCalls-more mix t script.auto before.pass.number (calls_at commands (numbers_of before.done.items)) call reply
      before.pass pass (map ending_of before.done.items) has working.served in
      record {
        served =
            subst (λ (p : Pass M). HasServedCalls mix t script.auto p.number (calls_at commands (numbers_of after.done.items)) p
            (map ending_of after.done.items)) (sym pass_is)
            (subst (λ (n : ℕ). HasServedCalls mix t script.auto n (calls_at commands (numbers_of after.done.items)) pass
            (map ending_of after.done.items)) (sym has.same.number)
            (subst (λ cs. HasServedCalls mix t script.auto before.pass.number cs pass (map ending_of after.done.items)) (sym calls)
            (subst (λ es. HasServedCalls mix t script.auto before.pass.number (calls_at commands (numbers_of before.done.items) ++ call ∷ [])
            pass es) (sym endings) served)));
        counted = number_is ∙ working.counted ∙ ap (λ n. n + 1) (sym (ap (λ (p : Pass M). p.number) pass_is ∙ has.same.number));
        own =
            subst (λ ds. AllByRecursion (λ (d : Done). d.worker ≡ after.number) ds) (sym done_are)
            (subst (λ (n : ℕ). AllByRecursion (λ (d : Done). d.worker ≡ n) (before.done.items ++ done ∷ [])) (sym number_is)
            (AllByRecursion-push (λ (d : Done). d.worker ≡ before.number) before.done.items done working.own refl));
        rising =
            subst AreRising (sym numbers) (rising-push (numbers_of before.done.items) number working.rising rises);
      }
