-- What a caller's tidyings have to hand out as bindings is what they have to hand out as calls: of each removal its binding.
-- For a call takes out one binding exactly where its reply says so, and so as many are due of the one as of the other.
use Rattle.std.proofs.Common.{◌≡◌, ℕ, List, [], ◌∷◌, ◌++◌, length, map, Bool, true, false, refl, sym, ◌∙◌, ap, subst, arith}
use Rattle.std.specs.Prelude.{if◌then◌else◌}
use Rattle.std.specs.List.{AllByRecursion, flat_map}
use Rattle.std.proofs.lemmas.List.{append-nil, nil_from_length}
use Rattle.std.proofs.lemmas.List.Concat.{flat_map-append}
use Rattle.rht_words.specs.declared.env.Env.{Env}
use Rattle.rht_words.proofs.EachElement.{AllByRecursion-append}
use Rattle.rht_words.proofs.Members.{one_if}
use Rattle.rht_model.specs.declared.finished.Finished.{Finished}
use Rattle.rht_model.specs.declared.history.Reply.{Reply}
use Rattle.rht_model.specs.declared.history.Reply.TheVariants.{Clear, Pending}
use Rattle.rht_model.specs.Replies.{takes_out}
use Rattle.rht_grace.specs.TidyLaws.{due_of, left_of}
use Rattle.rht_core.specs.declared.event.Event.{Event}
use Rattle.rht_core.specs.Removals.{Removals, no_removals, removed_by, removals_from, binding_of, binding_taken, AreRemoved}
use Rattle.rht_core.specs.Traces.{Past, traced_of}
use Rattle.rht_core.proofs.Counting.FullTables.{taken}
use Rattle.rht_core.proofs.Returning.RemovalsInRuns.{taken-long, ended-right}
use Rattle.rht_core.proofs.Returning.RemovalsWait.{IsRight, left-so}

-- the bindings of these calls
abbrev bindings : List Past → List (ℕ × ℕ)
bindings calls = flat_map binding_of calls

abbrev both : Removals Past → Removals (ℕ × ℕ)
both r = record { fresh = bindings r.fresh; due = bindings r.due }

-- the call took one out
abbrev TookOne : Past → Type 0
TookOne past = length (binding_of past) ≡ 1

-- so none is due of the one where none is of the other
by_first : (So : List (ℕ × ℕ) → Type 0) (call : Past) (calls : List Past) → TookOne call
    → ((first : ℕ × ℕ) (rest : List (ℕ × ℕ)) → So (first ∷ rest)) → So (bindings (call ∷ calls))
by_first So call calls one some = go (binding_of call) refl
  where
    go : (own : List (ℕ × ℕ)) → binding_of call ≡ own → So (binding_of call ++ bindings calls)
    go [] is = absurd (let none = sym one ∙ ap length is in omega (arith, none))
    go (first ∷ rest) is = subst (λ l. So (l ++ bindings calls)) (sym is) (some first (rest ++ bindings calls))

due-same : (fresh due : List Past) → AllByRecursion TookOne due → due_of (bindings fresh) (bindings due) ≡ bindings (due_of fresh due)
due-same fresh [] ones = refl
due-same fresh (call ∷ due) ones =
    by_first (λ l. due_of (bindings fresh) l ≡ l) call due ones.0 (λ first rest. refl)

left-same : (fresh due : List Past) → AllByRecursion TookOne due → left_of (bindings fresh) (bindings due) ≡ bindings (left_of fresh due)
left-same fresh [] ones = refl
left-same fresh (call ∷ due) ones =
    by_first (λ l. left_of (bindings fresh) l ≡ bindings fresh) call due ones.0 (λ first rest. refl)

due-so : {A : Type 0} (P : A → Type 0) (fresh due : List A) → AllByRecursion P fresh → AllByRecursion P due → AllByRecursion P (due_of fresh due)
due-so P fresh [] one other = one
due-so P fresh (x ∷ due) one other = other

-- the call itself, where it has removed a binding
abbrev itself : Bool → Past → List Past
itself took past = if took then past ∷ [] else []

itself-same : (past : Past) (took : Bool) → length (binding_of past) ≡ one_if took → binding_of past ≡ bindings (itself took past)
itself-same past true long = sym (append-nil (binding_of past))
itself-same past false long = nil_from_length (binding_of past) long

itself-one : (past : Past) (took : Bool) → length (binding_of past) ≡ one_if took → AllByRecursion TookOne (itself took past)
itself-one past true long = (long, tt)
itself-one past false long = tt

record TookOnes (r : Removals Past) : Type 0 where
  fresh : AllByRecursion TookOne r.fresh
  due : AllByRecursion TookOne r.due

-- behind a call
behind-same : (r : Removals Past) (past : Past) (reply : Reply) → TookOnes r → length (binding_of past) ≡ one_if (takes_out past.done.reply)
    → removed_by (both r) reply (binding_of past) ≡ both (removed_by r reply (itself (takes_out past.done.reply) past))
behind-same r past (Clear count) ones long = ap (λ l. record { fresh = l; due = [] }) (left-same r.fresh r.due ones.due)
behind-same r past (Pending caller section) ones long =
    λ i. record { fresh = left-same r.fresh r.due ones.due i; due = due-same r.fresh r.due ones.due i }
behind-same r past reply ones long =
    ap (λ l. record { fresh = l; due = bindings r.due })
    (ap (λ l. bindings r.fresh ++ l) (itself-same past (takes_out past.done.reply) long)
    ∙ sym (flat_map-append binding_of r.fresh (itself (takes_out past.done.reply) past)))

behind-ones : (r : Removals Past) (past : Past) (reply : Reply) → TookOnes r → length (binding_of past) ≡ one_if (takes_out past.done.reply)
    → TookOnes (removed_by r reply (itself (takes_out past.done.reply) past))
behind-ones r past (Clear count) ones long = record { fresh = left-so TookOne r.fresh r.due ones.fresh; due = tt }
behind-ones r past (Pending caller section) ones long =
    record { fresh = left-so TookOne r.fresh r.due ones.fresh; due = due-so TookOne r.fresh r.due ones.fresh ones.due }
behind-ones r past reply ones long = record {
  fresh =
      AllByRecursion-append TookOne r.fresh (itself (takes_out past.done.reply) past) ones.fresh (itself-one past (takes_out past.done.reply) long);
  due = ones.due;
}

module _ (M : Type 0) (mix : ℕ → ℕ → ℕ → ℕ) (env : Env) (events : List Event) (c : ℕ) where
  all-same : (r : Removals Past) (calls : List Past) → AllByRecursion (IsRight M mix env events c) calls → TookOnes r
      → removals_from (λ (done : Finished). done.reply) (λ (done : Finished). binding_taken done.call done.reply) (both r)
      (map (λ (past : Past). past.done) calls)
      ≡ both (removals_from (λ (past : Past). past.done.reply) (λ (past : Past). itself (takes_out past.done.reply) past) r calls)
  all-same r [] right ones = refl
  all-same r (past ∷ calls) right ones =
      let long = taken-long past.done.call past.done.reply right.0.reply in
      ap (λ s. removals_from (λ (done : Finished). done.reply) (λ (done : Finished). binding_taken done.call done.reply) s
      (map (λ (p : Past). p.done) calls)) (behind-same r past past.done.reply ones long)
      ∙ all-same (removed_by r past.done.reply (itself (takes_out past.done.reply) past)) calls right.1
      (behind-ones r past past.done.reply ones long)

pub are_removed : (M : Type 0) (mix : ℕ → ℕ → ℕ → ℕ) → AreRemoved M mix
are_removed M mix env events c i admitted =
    all-same M mix env events c no_removals _
    (taken (IsRight M mix env events c) i ((traced_of {M = M} mix env events).traces c).past (ended-right M mix env events c admitted))
    (record { fresh = tt; due = tt })
