-- How a pass gets on by the calls that commands stand for: what they have added to its finished calls is served behind the others.
use Rattle.std.proofs.Common.{◌≡◌, ℕ, Bool, true, List, [], ◌∷◌, ◌++◌, refl, sym, ◌∙◌, ap, subst, append_assoc}
use Rattle.std.proofs.lemmas.List.{append-nil}
use Rattle.rht_model.specs.declared.history.Call.{Call}
use Rattle.rht_model.specs.declared.history.Reply.{Reply}
use Rattle.rht_model.specs.declared.finished.Finished.{Finished}
use Rattle.rht_model.specs.Endings.{Ending, replied}
use Rattle.rht_core.specs.Locals.{is_idle}
use Rattle.rht_core.specs.Serving.{Serves}
use Rattle.rht_run.specs.declared.pass.Pass.{Pass}
use Rattle.rht_run.specs.declared.table.Table.{Table}
use Rattle.rht_run.specs.Passes.{IsPassOf, book_of}
use Rattle.rht_run.specs.Served.{HasServed}
use Rattle.rht_run.specs.Workers.{HasServedCalls}
use Rattle.rht_workers.specs.WorkerCalls.{HasServedEach}

-- By induction over the first commands.
Serves-append : (auto : Bool) (calls : List Call) (endings : List Ending) (done : List Finished) (more_calls : List Call)
    (more_endings : List Ending) (more : List Finished) → Serves auto calls endings done → Serves auto more_calls more_endings more
    → Serves auto (calls ++ more_calls) (endings ++ more_endings) (done ++ more)
Serves-append auto [] [] done more_calls more_endings more serves behind =
    subst (Serves auto more_calls more_endings) (ap (λ l. l ++ more) (sym serves)) behind
Serves-append auto [] (e ∷ endings) done more_calls more_endings more serves behind = absurd serves
Serves-append auto (own ∷ calls) [] done more_calls more_endings more serves behind = absurd serves
Serves-append auto (own ∷ calls) (e ∷ endings) done more_calls more_endings more serves behind = record {
  first = serves.first;
  rest = serves.rest ++ more;
  whole = ap (λ l. l ++ more) serves.whole ∙ append_assoc serves.first serves.rest more;
  first_is = serves.first_is;
  rest_is = Serves-append auto calls endings serves.rest more_calls more_endings more serves.rest_is behind;
}

module _ {M : Type 0} (mix : ℕ → ℕ → ℕ → ℕ) (t : Table M) (auto : Bool) where
  -- no call
  pub HasServedEach-none : (pass : Pass M) → IsPassOf mix t pass → is_idle pass.local ≡ true → HasServedEach mix t auto [] [] pass pass
  HasServedEach-none pass of_table idle = record {
    pass = of_table;
    same = record { table = refl; number = refl };
    idle = idle;
    more = [];
    finished = sym (append-nil (book_of pass).finished);
    serves = refl;
  }

  -- one call
  pub HasServedEach-one : (call : Call) (reply : Reply) (before now : Pass M) → HasServed mix t auto call reply before now
      → HasServedEach mix t auto (call ∷ []) (replied reply now.local.owners.items now.local.pairs.items ∷ []) before now
  HasServedEach-one call reply before now has = record {
    pass = has.pass;
    same = has.same;
    idle = has.idle;
    more = has.more;
    finished = has.finished;
    serves = record { first = has.more; rest = []; whole = sym (append-nil has.more); first_is = has.made; rest_is = refl };
  }

  -- and calls behind others
  pub HasServedEach-then : (calls more_calls : List Call) (endings more_endings : List Ending) (before now after : Pass M)
      → HasServedEach mix t auto calls endings before now → HasServedEach mix t auto more_calls more_endings now after
      → HasServedEach mix t auto (calls ++ more_calls) (endings ++ more_endings) before after
  HasServedEach-then calls more_calls endings more_endings before now after first behind = record {
    pass = behind.pass;
    same = record {
      table = behind.same.table ∙ first.same.table;
      number = behind.same.number ∙ first.same.number;
    };
    idle = behind.idle;
    more = first.more ++ behind.more;
    finished =
        behind.finished ∙ ap (λ l. l ++ behind.more) first.finished
        ∙ append_assoc (book_of before).finished first.more behind.more;
    serves = Serves-append auto calls endings first.more more_calls more_endings behind.more first.serves behind.serves;
  }

  -- calls behind all that a pass has served
  pub HasServedCalls-each : (number : ℕ) (calls more_calls : List Call) (endings more_endings : List Ending) (before now : Pass M)
      → HasServedCalls mix t auto number calls before endings → HasServedEach mix t auto more_calls more_endings before now
      → HasServedCalls mix t auto number (calls ++ more_calls) now (endings ++ more_endings)
  HasServedCalls-each number calls more_calls endings more_endings before now served each = record {
    pass_of = each.pass;
    number_is = each.same.number ∙ served.number_is;
    idle = each.idle;
    serves =
        subst (Serves auto (calls ++ more_calls) (endings ++ more_endings)) (sym each.finished)
        (Serves-append auto calls endings (book_of before).finished more_calls more_endings each.more served.serves each.serves);
  }
