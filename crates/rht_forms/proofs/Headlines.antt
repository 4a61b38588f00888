-- The headline, of a text that `run` has printed: what stands behind the text (`HasRun`) says it, and the laws of every run say the rest.
use Rattle.std.proofs.Common.{◌≡◌, ℕ, Bool, List, Option, Result, Ok, Err, refl, sym, ap, ◌∙◌, subst, arith}
use Rattle.std.specs.Io.KnownBytes.{Appends}
use Rattle.rht_words.specs.declared.config.Config.{Config}
use Rattle.rht_policy.specs.Mix.{mix_named}
use Rattle.rht_model.specs.declared.bindings.Closed.{Closed}
use Rattle.rht_model.specs.declared.history.Call.{Call}
use Rattle.rht_model.specs.declared.history.Entry.{Entry}
use Rattle.rht_model.specs.Endings.{Ending}
use Rattle.rht_model.specs.Histories.{IsLegal, bindings_left}
use Rattle.rht_model.specs.Listing.{Lists}
use Rattle.rht_model.specs.Multimap.{unbound}
use Rattle.rht_core.specs.Serving.{IsServedRun}
use Rattle.rht_core.specs.ToldHistories.{entries_by, entries_of_finished}
use Rattle.rht_core.proofs.Finding.LookupLaws.{finds_what_stays}
use Rattle.rht_core.proofs.Returning.SafeInRuns.{safe}
use Rattle.rht_run.specs.ServedRuns.{tag_of}
use Rattle.rht_script.specs.declared.script.ScriptFault.{ScriptFault}
use Rattle.rht_forms.specs.declared.form.Form.{Form}
use Rattle.rht_forms.specs.declared.form.Form.TheVariants.{Run}
use Rattle.rht_forms.specs.declared.ending.Failure.{Failure}
use Rattle.rht_forms.specs.declared.ending.Failure.TheVariants.{Fault, Read, Write, Memory}
use Rattle.rht_forms.specs.Endings.{IsDone, Serves, ending_of, status_of}
use Rattle.rht_forms.specs.Forms.{Prints, IsFaultOf}
use Rattle.rht_forms.specs.Headline.{FindsAndSpares, Headline}

-- so it is of every run that serves commands
finds_and_spares : (config : Config) (auto : Bool) (commands : List (ℕ × Call)) (endings : List (List Ending)) (closed : Closed)
    → (such : IsServedRun (tag_of config.hash) (mix_named config) config auto commands endings closed)
    → FindsAndSpares (tag_of config.hash) (mix_named config) such.env such.events
finds_and_spares config auto commands endings closed such =
    let M : Type 0 = tag_of config.hash in
    record {
      found = λ c. finds_what_stays M (mix_named config) such.env such.events c such.admitted;
      safe = safe M (mix_named config) such.env such.events such.admitted;
    }

Headline-printed : (left left_after held held_after : Option (List ℕ)) (text : List ℕ) → Prints Run left left_after text
    → Appends held held_after text → Headline left left_after held held_after
unfolding Prints
Headline-printed left left_after held held_after text printed written =
    let said = printed.said in
    let done = printed.is_text in
    let tells = done.run.tells in
    record {
      script = said;
      read = printed.read;
      replies = done.endings;
      last = done.closed;
      printed = subst (λ (t : List ℕ). Appends held held_after t) done.written written;
      run = done.run.served;
      history = tells.numbered;
      legal = subst (λ (h : List Entry). IsLegal said.config.kind h) tells.without_numbers tells.told.legal;
      fits = tells.fits;
      calls = λ c. ap (entries_by c) (sym tells.without_numbers) ∙ tells.told.entries c
          ∙ ap (entries_of_finished c) (tells.dones_are c);
      leaves = subst (λ (h : List Entry). Lists done.closed.bindings.pairs (bindings_left said.config.kind unbound h))
          tells.without_numbers tells.told.leaves;
      every = λ such. finds_and_spares said.config said.auto said.commands done.endings done.closed such;
    }

-- what a form has printed where it ends with status 0
pub IsDone-served : {S O : Type 0} (left : S → Option (List ℕ)) (sfaults : S → ℕ) (held : O → Option (List ℕ)) (ofaults : O → ℕ)
    (form : Form) (s s' : S) (o o' : O) (served : Result (Unit {0}) Failure)
    → Serves left sfaults held ofaults form s s' o o' served → status_of (ending_of served) ≡ 0
    → IsDone form (left s) (left s') (held o) (held o')
IsDone-served left sfaults held ofaults form s s' o o' (Ok all) serves zero = serves
IsDone-served left sfaults held ofaults form s s' o o' (Err (Fault fault)) serves zero = absurd (omega (arith, zero))
IsDone-served left sfaults held ofaults form s s' o o' (Err Read) serves zero = absurd (omega (arith, zero))
IsDone-served left sfaults held ofaults form s s' o o' (Err Write) serves zero = absurd (omega (arith, zero))
IsDone-served left sfaults held ofaults form s s' o o' (Err Memory) serves zero = absurd (omega (arith, zero))

-- and what it has read where it ends with status 2
pub IsFaultOf-served : {S O : Type 0} (left : S → Option (List ℕ)) (sfaults : S → ℕ) (held : O → Option (List ℕ)) (ofaults : O → ℕ)
    (form : Form) (s s' : S) (o o' : O) (served : Result (Unit {0}) Failure)
    → Serves left sfaults held ofaults form s s' o o' served → status_of (ending_of served) ≡ 2
    → (fault : ScriptFault) × (served ≡ Err (Fault fault)) × IsFaultOf form (left s) (left s') fault × (o' ≡ o)
IsFaultOf-served left sfaults held ofaults form s s' o o' (Ok all) serves two = absurd (omega (arith, two))
IsFaultOf-served left sfaults held ofaults form s s' o o' (Err (Fault fault)) serves two = (fault, refl, serves.0, serves.1)
IsFaultOf-served left sfaults held ofaults form s s' o o' (Err Read) serves two = absurd (omega (arith, two))
IsFaultOf-served left sfaults held ofaults form s s' o o' (Err Write) serves two = absurd (omega (arith, two))
IsFaultOf-served left sfaults held ofaults form s s' o o' (Err Memory) serves two = absurd (omega (arith, two))

-- for `run` that is the headline
pub Headline-served : {S O : Type 0} (left : S → Option (List ℕ)) (sfaults : S → ℕ) (held : O → Option (List ℕ)) (ofaults : O → ℕ)
    (form : Form) (s s' : S) (o o' : O) (served : Result (Unit {0}) Failure)
    → Serves left sfaults held ofaults form s s' o o' served → Run ≡ form → status_of (ending_of served) ≡ 0
    → Headline (left s) (left s') (held o) (held o')
Headline-served left sfaults held ofaults form s s' o o' served serves is zero =
    let done = IsDone-served left sfaults held ofaults form s s' o o' served serves zero in
    Headline-printed (left s) (left s') (held o) (held o') done.text
    (subst (λ (f : Form). Prints f (left s) (left s') done.text) (sym is) done.printed) done.written
