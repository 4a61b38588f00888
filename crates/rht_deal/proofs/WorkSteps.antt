-- A worker that takes numbers from the queue, one after another. What it has done is among what its pass of the queue has taken; so the next
-- number, which is above all that pass has taken, is above all that the worker has done.
use Rattle.std.proofs.Common.{◌≡◌, ℕ, ◌+◌, ◌<◌, List, [], ◌∷◌, ◌++◌, map, refl, sym, ◌∙◌, ap, subst, append_assoc, arith}
use Rattle.std.specs.List.{AllByRecursion}
use Rattle.std.proofs.lemmas.List.{append-nil}
use Rattle.std.proofs.lemmas.List.Sums.{sum_by_push}
use Rattle.rht_run.specs.declared.pass.Pass.{Pass}
use Rattle.rht_run.specs.declared.table.Table.{Table}
use Rattle.rht_run.specs.Passes.{IsNew}
use Rattle.rht_run.specs.Workers.{HasServedCalls}
use Rattle.rht_run.proofs.ServedWorkers.{HasServedCalls-new}
use Rattle.rht_script.specs.declared.script.Script.{Script}
use Rattle.rht_script.specs.declared.done.Done.{Done}
use Rattle.rht_deal.specs.declared.numbers.Hand.{Hand}
use Rattle.rht_deal.specs.declared.worker.Worker.{Worker}
use Rattle.rht_deal.specs.DoneCommands.{ending_of, numbers_of, calls_at}
use Rattle.rht_deal.specs.Numbers.{hand, AreRising, Took}
use Rattle.rht_deal.specs.Workers.{IsWorking, AreAmong, HasTaken}
use Rattle.rht_deal.proofs.NumberLists.{AllByRecursion-among}

-- ---- numbers among others

AreAmong-push : (these those : List ℕ) (number : ℕ) → AreAmong these those → AreAmong (these ++ number ∷ []) (those ++ number ∷ [])
AreAmong-push these those number among h =
    let less = among h in
    omega (arith, less, sum_by_push h these number, sum_by_push h those number)

pub AreAmong-none : (those : List ℕ) → AreAmong [] those
AreAmong-none those h = omega arith

-- ---- a worker at work

module _ {M : Type 0} where
  -- what a worker has done since then, and what its pass of the queue has taken
  pub record IsAtWork (mix : ℕ → ℕ → ℕ → ℕ) (t : Table M) (script : Script) (first worker : Worker M) (old new : Hand) : Type 0 where
    pub working : IsWorking mix t script worker
    pub taken : HasTaken first worker old new
    pub among : AreAmong (numbers_of worker.done.items) new.taken

  HasTaken-none : (worker : Worker M) (v : Hand) → HasTaken worker worker v v
  HasTaken-none worker v = record {
    more = [];
    done = sym (append-nil (numbers_of worker.done.items));
    taken = ap (hand v.parts v.pushed) (sym (append-nil v.taken));
    same = refl;
  }

  module _ (mix : ℕ → ℕ → ℕ → ℕ) (t : Table M) (script : Script) (first : Worker M) (old : Hand) where
    -- at first it has done nothing since then
    pub IsAtWork-begun : IsWorking mix t script first → AreAmong (numbers_of first.done.items) old.taken
        → IsAtWork mix t script first first old old
    IsAtWork-begun working among = record { working = working; taken = HasTaken-none first old; among = among }

    module _ (before : Worker M) (mid : Hand) (number : ℕ) (new : Hand) (at : IsAtWork mix t script first before old mid)
        (took : Took mid number new) where
      -- the number that was taken is above all that it has done
      pub IsAtWork-rises : AllByRecursion (λ that. that < number) (numbers_of before.done.items)
      IsAtWork-rises = AllByRecursion-among number (numbers_of before.done.items) mid.taken at.among took.rises

      -- and once it has done that command it is at work as before
      pub IsAtWork-more : (after : Worker M) → IsWorking mix t script after
          → numbers_of after.done.items ≡ numbers_of before.done.items ++ number ∷ [] → after.number ≡ before.number
          → IsAtWork mix t script first after old new
      IsAtWork-more after working done same =
          let more = at.taken.more in
          record {
            working = working;
            taken = record {
              more = more ++ number ∷ [];
              done =
                  done ∙ ap (λ l. l ++ number ∷ []) at.taken.done
                  ∙ append_assoc (numbers_of first.done.items) more (number ∷ []);
              taken =
                  took.after_is ∙ ap (λ (v : Hand). hand v.parts v.pushed (v.taken ++ number ∷ [])) at.taken.taken
                  ∙ ap (hand old.parts old.pushed) (append_assoc old.taken more (number ∷ []));
              same = same ∙ at.taken.same;
            };
            among =
                subst (AreAmong (numbers_of after.done.items)) (sym (ap (λ (v : Hand). v.taken) took.after_is))
                (subst (λ l. AreAmong l (mid.taken ++ number ∷ [])) (sym done)
                (AreAmong-push (numbers_of before.done.items) mid.taken number at.among));
          }

  -- a worker that is made of a new pass has done nothing
  pub IsWorking-new : (mix : ℕ → ℕ → ℕ → ℕ) (t : Table M) (script : Script) (number : ℕ) (pass : Pass M) (worker : Worker M)
      → IsNew mix t number pass → worker.pass ≡ pass → worker.number ≡ number + 1 → worker.done.items ≡ []
      → IsWorking mix t script worker
  IsWorking-new mix t script number pass worker new pass_is number_is none =
      let commands = script.commands.items in
      let own : worker.pass.number ≡ number = ap (λ (p : Pass M). p.number) pass_is ∙ new.number in
      record {
        served =
            subst (λ (p : Pass M). HasServedCalls mix t script.auto p.number (calls_at commands (numbers_of worker.done.items)) p
            (map ending_of worker.done.items)) (sym pass_is)
            (subst (λ (n : ℕ). HasServedCalls mix t script.auto n (calls_at commands (numbers_of worker.done.items)) pass
            (map ending_of worker.done.items)) (sym new.number)
            (subst (λ (ds : List Done). HasServedCalls mix t script.auto number (calls_at commands (numbers_of ds)) pass (map ending_of ds))
            (sym none) (HasServedCalls-new mix t script.auto number pass new)));
        counted = number_is ∙ ap (λ n. n + 1) (sym own);
        own = subst (λ (ds : List Done). AllByRecursion (λ (d : Done). d.worker ≡ worker.number) ds) (sym none) tt;
        rising = subst (λ (ds : List Done). AreRising (numbers_of ds)) (sym none) tt;
      }
