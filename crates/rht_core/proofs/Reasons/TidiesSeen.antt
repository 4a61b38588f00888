-- What the operations of a tidying have seen, by its state: they have loaded section words, and then given back the nodes before its place.
use Rattle.std.proofs.Common.{◌≡◌, ℕ, zero, suc, ◌+◌, ◌%◌, ◌<◌, ◌++◌, ◌∷◌, ◌==◌, List, [], length, length-append, get_or, map, Option, Some, None, refl, sym, ap, ◌∙◌, subst, append_assoc, arith}
use Rattle.std.specs.Prelude.{nat_lt, if◌then◌else◌}
use Rattle.std.proofs.lemmas.Bool.{eqb-true}
use Rattle.std.proofs.lemmas.List.{append-nil, map-append}
use Rattle.rht_words.specs.declared.geometry.Geometry.{Geometry}
use Rattle.rht_words.specs.declared.machine.Next.TheVariants.{Go, Done}
use Rattle.rht_words.specs.Machines.{GoesOrEnds}
use Rattle.rht_words.proofs.EachElement.{AllByRecursion-push}
use Rattle.rht_model.specs.declared.history.Reply.TheVariants.{Pending}
use Rattle.rht_grace.specs.Batch.{BatchModel, with_word, first_odd}
use Rattle.rht_grace.specs.Tidy.{give_of, plan_at, after_at, asking, asked_at, begun}
use Rattle.rht_grace.specs.TidyLaws.{LoadsSection}
use Rattle.rht_grace.specs.declared.tidy.TidyAt.{TidyAt}
use Rattle.rht_grace.specs.declared.tidy.TidyAt.TheVariants as at
use Rattle.rht_grace.proofs.OddWords.{first_odd-Some}
use Rattle.rht_grace.proofs.TidyRuns.{begun-some, begun-none}
use Rattle.rht_core.specs.Jobs.{tidied}
use Rattle.rht_core.specs.Tidyings.{IsTidyingIn}
use Rattle.rht_core.specs.TidyCauses.{LoadSections, HasGiven, SawForTidy}
use Rattle.rht_core.specs.Traces.{Did}
use Rattle.rht_core.proofs.Machines.TidyRanges.{Came, giving-so, asking-so, waiting_low}
use Rattle.rht_ghost.proofs.Theory.Steps.{by_test}

module _ (g : Geometry) where
  -- who is asked was in a section when its word was kept
  abbrev pub SawAtTidy : BatchModel → TidyAt → List Did → Type 0
  SawAtTidy batch (at.Keeping caller) steps = LoadSections g steps
  SawAtTidy batch (at.Asking caller) steps = LoadSections g steps × (get_or batch.kept caller 0 % 2 ≡ 1)
  SawAtTidy batch (at.Giving index) steps = HasGiven g index steps

  abbrev SawNext : List Did → Came → Type 0
  SawNext steps (batch, state, Go) = SawAtTidy batch state steps
  SawNext steps (batch, state, Done reply) = SawForTidy g reply steps

  -- before the first node is given back
  none_given : (count : ℕ) (steps : List Did) → LoadSections g steps → 0 ≡ count → HasGiven g count steps
  none_given count steps loads none = record {
    asking = steps;
    giving = [];
    split = sym (append-nil steps);
    asks = loads;
    nodes = [];
    among = tt;
    gives = refl;
    counted = none;
  }

  asking_saw : (batch : BatchModel) (from : ℕ) (steps : List Did) → LoadSections g steps → SawNext steps (asking batch from)
  asking_saw batch from steps loads =
      asking-so (SawNext steps) batch from (λ caller there odd. (loads, odd)) (λ some. none_given 0 steps loads refl)
      (λ none. none_given (length batch.waiting) steps loads (omega (arith, none)))

  -- an operation leads on
  tidy_came : (batch : BatchModel) (state : TidyAt) (steps : List Did) (did : Did) → IsTidyingIn g batch state → did.op ≡ plan_at g batch state
      → SawAtTidy batch state steps → SawNext (steps ++ did ∷ []) (after_at g batch state did.old)
  tidy_came batch (at.Keeping caller) steps did within is saw =
      let all = steps ++ did ∷ [] in
      let next = with_word batch caller did.old in
      let loads : LoadSections g all =
      AllByRecursion-push (λ (did : Did). LoadsSection g did.op) steps did saw (record { caller = caller; there = within.at_in; loads = is }) in
      by_test (λ t. SawNext all (if t then (next, at.Keeping (caller + 1), Go) else asking next 0)) (nat_lt (caller + 1) g.callers)
      (λ low. loads) (λ past. asking_saw next 0 all loads)
  tidy_came batch (at.Asking caller) steps did within is saw =
      let all = steps ++ did ∷ [] in
      let next = with_word batch caller 0 in
      let loads : LoadSections g all =
      AllByRecursion-push (λ (did : Did). LoadsSection g did.op) steps did saw.0 (record { caller = caller; there = within.at_in; loads = is }) in
      by_test (λ t. SawNext all (if t then (batch, at.Asking caller, Done (Pending caller did.old)) else asking next (caller + 1)))
      (did.old == get_or batch.kept caller 0)
      (λ kept. record {
        before = steps;
        last = did;
        are = refl;
        asks = saw.0;
        caller_in = within.at_in;
        loads = is;
        found = refl;
        odd = ap (λ word. word % 2) (eqb-true did.old (get_or batch.kept caller 0) kept) ∙ saw.1;
      })
      (λ other. asking_saw next (caller + 1) all loads)
  tidy_came batch (at.Giving index) steps did within is saw =
      let n = get_or batch.waiting index 0 in
      let all = steps ++ did ∷ [] in
      let low = within.at_in in
      let longer = length-append saw.nodes (n ∷ []) in
      let counted = saw.counted in
      let given : (count : ℕ) → index + 1 ≡ count → HasGiven g count all = λ count same. record {
        asking = saw.asking;
        giving = saw.giving ++ did ∷ [];
        split = ap (λ s. s ++ did ∷ []) saw.split ∙ append_assoc saw.asking saw.giving (did ∷ []);
        asks = saw.asks;
        nodes = saw.nodes ++ n ∷ [];
        among = AllByRecursion-push (λ node. node < g.nodes) saw.nodes n saw.among (waiting_low g batch (at.Giving index) index within);
        gives =
            map-append (λ (did : Did). did.op) saw.giving (did ∷ [])
            ∙ ap (λ ops. ops ++ did.op ∷ []) saw.gives
            ∙ ap (λ op. map (give_of g) saw.nodes ++ op ∷ []) is
            ∙ sym (map-append (give_of g) saw.nodes (n ∷ []));
        counted = omega (arith, longer, counted, same);
      } in
      giving-so (SawNext all) batch (index + 1) (λ more. given (index + 1) refl) (λ past. given (length batch.waiting) (omega (arith, low, past)))

  pub tidy-saw : (batch : BatchModel) (state : TidyAt) (steps : List Did) (did : Did) → IsTidyingIn g batch state
      → did.op ≡ plan_at g batch state
      → SawAtTidy batch state steps
      → GoesOrEnds (λ (next : BatchModel × TidyAt). SawAtTidy next.0 next.1 (steps ++ did ∷ [])) (λ reply. SawForTidy g reply (steps ++ did ∷ []))
      (tidied (after_at g batch state did.old))
  tidy-saw batch state steps did within is saw =
      go (after_at g batch state did.old) (tidy_came batch state steps did within is saw)
    where
      go : (came : Came) → SawNext (steps ++ did ∷ []) came
          → GoesOrEnds (λ (next : BatchModel × TidyAt). SawAtTidy next.0 next.1 (steps ++ did ∷ []))
          (λ reply. SawForTidy g reply (steps ++ did ∷ [])) (tidied came)
      go (next, after, Go) seen = seen
      go (next, after, Done reply) seen = seen

  -- at its beginning it has made none
  pub first_tidy-saw : (batch : BatchModel) → SawAtTidy (begun batch).0 (begun batch).1 []
  first_tidy-saw batch = go (length batch.waiting) refl
    where
      waits : (found : Option ℕ) → first_odd batch.kept 0 ≡ found → SawAtTidy batch (asked_at found) []
      waits None is = none_given 0 [] tt refl
      waits (Some caller) is = let odd = first_odd-Some batch.kept 0 caller is in (tt, odd.odd)

      go : (count : ℕ) → length batch.waiting ≡ count → SawAtTidy (begun batch).0 (begun batch).1 []
      go zero none =
          subst (λ (b : BatchModel × TidyAt). SawAtTidy b.0 b.1 []) (sym (begun-none batch none)) tt
      go (suc count) some =
          subst (λ (b : BatchModel × TidyAt). SawAtTidy b.0 b.1 []) (sym (begun-some batch (omega (arith, some))))
          (waits (first_odd batch.kept 0) refl)
