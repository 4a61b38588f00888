-- What a run leaves that serves a script is printed as a text of the form `run` or `gen`; and its replies can be counted.
use Rattle.std.proofs.Common.{◌≡◌, ◌≢◌, ℕ, suc, ◌+◌, ◌<◌, ◌≤◌, Bool, true, false, List, [], ◌∷◌, length, Option, refl, sym, ap, subst, arith}
use Rattle.std.specs.Prelude.{◌==◌, if◌then◌else◌, slice_index_or}
use Rattle.std.specs.List.{AllByRecursion}
use Rattle.std.proofs.lemmas.List.{get_or_default}
use Rattle.rht_words.specs.declared.config.Config.{Config}
use Rattle.rht_words.specs.declared.config.Hash.{Hash}
use Rattle.rht_policy.specs.Mix.{mix_named}
use Rattle.rht_model.specs.declared.bindings.Closed.{Closed}
use Rattle.rht_model.specs.declared.history.Call.{Call}
use Rattle.rht_model.specs.declared.history.Reply.TheVariants.{NoNode}
use Rattle.rht_words.proofs.EachElement.{AllByRecursion-weaker}
use Rattle.rht_core.specs.ToldHistories.{IsOutnumbered}
use Rattle.rht_forms.specs.GenText.{IsGenText}
use Rattle.rht_forms.proofs.GenNodes.{not_outnumbered}
use Rattle.rht_forms.proofs.GenCounts.{counts_commands}
use Rattle.rht_model.specs.declared.finished.Finished.{Finished}
use Rattle.rht_model.specs.Endings.{Ending}
use Rattle.rht_core.specs.Serving.{Serves, calls_of, IsServedRun}
use Rattle.rht_run.specs.ServedRuns.{tag_of, HasRun}
use Rattle.rht_run.proofs.ServingRuns.{HasRun-served}
use Rattle.rht_registry.proofs.SoundCommands.{IsCommandFor, calls_of-one}
use Rattle.rht_script.specs.Generated.{generated_said}
use Rattle.rht_script.specs.Grammar.{Said}
use Rattle.rht_script.specs.Text.{run_text}
use Rattle.rht_script.specs.SummaryText.{summary_line, AreCountable}
use Rattle.rht_forms.specs.declared.form.Form.TheVariants.{Run, Gen}
use Rattle.rht_forms.specs.Input.{IsScriptRead}
use Rattle.rht_forms.specs.Forms.{Prints}
use Rattle.rht_forms.specs.RunText.{whole_text, summary_text, IsRunText}

-- what is printed of what was served is the text of a run
IsRunText-served : (printed : List (List Ending) → Closed → List ℕ) (said : Said) (endings : List (List Ending)) (closed : Closed)
    → AllByRecursion (IsCommandFor said.config) said.commands → HasRun said.config said.auto said.commands endings closed
    → IsRunText printed said (printed endings closed)
IsRunText-served printed said endings closed all run = record {
  endings = endings;
  closed = closed;
  run = run;
  in_script_order = λ one. sym (calls_of-one said.config said.commands one all);
  written = refl;
}

-- which the form prints, be it `run`
pub Prints-run : (left left_after : Option (List ℕ)) (said : Said) (endings : List (List Ending)) (closed : Closed)
    → IsScriptRead left left_after said → AllByRecursion (IsCommandFor said.config) said.commands
    → HasRun said.config said.auto said.commands endings closed
    → Prints Run left left_after (run_text endings closed.bindings.pairs closed.size)
unfolding Prints
Prints-run left left_after said endings closed read all run =
    record { said = said; read = read; is_text = IsRunText-served whole_text said endings closed all run }

-- or `gen`, whose script has nodes enough, and whose endings are counted as its commands are
gen_text : (number : ℕ) (text : List ℕ) → AllByRecursion (IsCommandFor (generated_said number).config) (generated_said number).commands
    → IsRunText (summary_text number) (generated_said number) text → IsGenText number text
gen_text number text sound done =
    let told = done.run.tells.told in
    record {
      done = done;
      no_node = λ caller.
          AllByRecursion-weaker
          (λ (call : Finished). call.reply ≡ NoNode → IsOutnumbered (generated_said number).config (generated_said number).commands)
          (λ (call : Finished). call.reply ≢ NoNode) (λ call so is. not_outnumbered number (generated_said number) refl (so is))
          (told.dones caller) (told.no_node caller);
      counts = counts_commands number done.endings done.closed sound done.run;
    }

pub Prints-gen : (number : ℕ) (left : Option (List ℕ)) (said : Said) (endings : List (List Ending)) (closed : Closed)
    → said ≡ generated_said number → AllByRecursion (IsCommandFor said.config) said.commands
    → HasRun said.config said.auto said.commands endings closed
    → Prints (Gen number) left left (summary_line number endings closed.bindings.pairs)
unfolding Prints
Prints-gen number left said endings closed says all run = (
  refl,
  gen_text number (summary_line number endings closed.bindings.pairs)
      (subst (λ (s : Said). AllByRecursion (IsCommandFor s.config) s.commands) says all)
      (subst (λ (s : Said). IsRunText (summary_text number) s (summary_line number endings closed.bindings.pairs)) says
      (IsRunText-served (summary_text number) said endings closed all run)),
)

-- ---- what all of that rests on

-- what was served by the hash that the config names is a run of which that is so
pub HasRun-hash : (hash : Hash) (config : Config) (auto : Bool) (commands : List (ℕ × Call)) (endings : List (List Ending))
    (closed : Closed) → config.hash ≡ hash
    → IsServedRun (tag_of hash) (mix_named config) config auto commands endings closed
    → HasRun config auto commands endings closed
HasRun-hash hash config auto commands endings closed is served =
    HasRun-served config auto commands endings closed
    (subst (λ (h : Hash). IsServedRun (tag_of h) (mix_named config) config auto commands endings closed) (sym is) served)

-- as many ports are closed as are listed
pub closed-keys : (config : Config) (auto : Bool) (commands : List (ℕ × Call)) (endings : List (List Ending)) (closed : Closed)
    → HasRun config auto commands endings closed → closed.keys ≡ length closed.bindings.pairs
closed-keys config auto commands endings closed run = run.served.closed_is.keys

-- ---- how many replies there are

-- as many calls end as are made for commands, by induction over the calls
length-served : (auto : Bool) (calls : List Call) (endings : List Ending) (done : List Finished) → Serves auto calls endings done
    → length endings ≡ length calls
length-served auto [] [] done serves = refl
length-served auto [] (ending ∷ endings) done serves = absurd serves
length-served auto (call ∷ calls) [] done serves = absurd serves
length-served auto (call ∷ calls) (ending ∷ endings) done serves =
    ap suc (length-served auto calls endings serves.rest serves.rest_is)

-- a worker has no more calls than there are commands
with_or_without : (b : Bool) (call : Call) (calls : List Call) (n : ℕ) → length calls ≤ n
    → length (if b then call ∷ calls else calls) ≤ suc n
with_or_without true call calls n few = omega (arith, few)
with_or_without false call calls n few = omega (arith, few)

length-calls_of : (worker : ℕ) (commands : List (ℕ × Call)) → length (calls_of worker commands) ≤ length commands
length-calls_of worker [] = omega arith
length-calls_of worker (command ∷ commands) =
    with_or_without (command.0 == worker) command.1 (calls_of worker commands) (length commands) (length-calls_of worker commands)

-- so where there are few commands the replies can be counted
pub countable : (config : Config) (auto : Bool) (commands : List (ℕ × Call)) (endings : List (List Ending)) (closed : Closed)
    → config.callers ≤ 65536 → length commands ≤ 4294967296 → HasRun config auto commands endings closed → AreCountable endings
countable config auto commands endings closed callers few run = record {
  workers = omega (arith, run.served.workers, callers);
  replies = λ i default within.
      let below : i < config.callers = omega (arith, within, run.served.workers) in
      let own = length-served auto (calls_of (i + 1) commands) (slice_index_or endings i []) _ (run.served.each i below).serves in
      let calls = length-calls_of (i + 1) commands in
      let same = ap {B = ℕ} length (get_or_default endings i default [] within) in
      omega (arith, own, calls, same, few);
}
