-- Where all binds of a run, those that have ended and those in progress, are of some ports, no other port is ever bound.
-- A history fits the run, and each of its entries is of a call that has ended or of one in progress. So what its first entries leave binds
-- these ports alone, and that is what the words stand for. So many ports are bound at most, and the count of ports is at most these and
-- the callers.
use Rattle.std.proofs.Common.{◌≡◌, ◌≢◌, ℕ, zero, suc, ◌+◌, ◌≤◌, cond, nat_le, List, [], ◌∷◌, ◌++◌, length, take, length-append, refl, sym, ap, ◌∙◌, subst, inl, inr, arith}
use Rattle.std.specs.Prelude.{Option, Some, None, IfSome, is_some, ◌==◌}
use Rattle.std.specs.List.{AllByRecursion}
use Rattle.std.proofs.lemmas.Bool.{cases_lt, eqb-true, eq-eqb}
use Rattle.std.proofs.lemmas.List.{take_all}
use Rattle.rht_words.specs.declared.env.Env.{Env}
use Rattle.rht_words.specs.declared.config.Kind.{Kind}
use Rattle.rht_words.specs.Members.{In, NotIn, IsDistinct}
use Rattle.rht_words.specs.Places.{PortCount, word_at}
use Rattle.rht_words.proofs.Members.{count_by-range, count_below-most}
use Rattle.rht_model.specs.Answers.{bindings_after, owners_bound, owners_released, owners_rebound, is_refusal, port_of}
use Rattle.rht_model.specs.Histories.{left_by, bindings_left}
use Rattle.rht_model.specs.Multimap.{Multimap, unbound, with_owners}
use Rattle.rht_model.specs.declared.finished.Finished.{Finished}
use Rattle.rht_model.specs.declared.history.Call.{Call}
use Rattle.rht_model.specs.declared.history.Call.TheVariants.{Bind, Release, Rebind}
use Rattle.rht_model.specs.declared.history.Entry.{Entry}
use Rattle.rht_core.specs.declared.event.Event.{Event}
use Rattle.rht_core.proofs.Counting.RaisingCallers.{is_raising, raising}
use Rattle.rht_core.specs.FewPorts.{BindsAmong, AreCallsAmong}
use Rattle.rht_core.specs.Numbered.{Numbered, entries_of, numbered_to}
use Rattle.rht_core.specs.RunHistories.{AreOfCalls, about_bindings, bindings_behind, Fits}
use Rattle.rht_core.specs.Runs.{Core, World, local_of, run_of, IsAdmitted}
use Rattle.rht_stands.specs.StandsFor.{stands_for, AreBound}
use Rattle.rht_core.specs.Traces.{Past, Traced, traced_of}
use Rattle.rht_core.proofs.Events.InvariantRuns.{has_inv}
use Rattle.rht_ghost.proofs.Theory.Steps.{by_test}
use Rattle.rht_core.proofs.Tracing.TracedRuns.{world-traced_of}
use Rattle.rht_core.proofs.Tracing.TracesInRuns.{remembers}
use Rattle.rht_core.proofs.Counting.CountedRuns.{counted_by}
use Rattle.rht_core.proofs.Histories.FittingRuns.{opening-agree, fits}
use Rattle.rht_core.proofs.Histories.ToldEntries.{AllByRecursion-in_map}

-- ---- lists without a number twice

-- a list with a number is that number between two others
record IsAround (x : ℕ) (ys : List ℕ) : Type 0 where
  front : List ℕ
  rear : List ℕ
  split : ys ≡ front ++ x ∷ rear

around : (x : ℕ) (ys : List ℕ) → In x ys → IsAround x ys
around x [] there = absurd there
around x (y ∷ ys) (inl same) =
    record { front = []; rear = ys; split = ap (λ z. z ∷ ys) (sym same) }
around x (y ∷ ys) (inr there) =
    let rest = around x ys there in
    record { front = y ∷ rest.front; rear = rest.rear; split = ap (λ zs. y ∷ zs) rest.split }

-- without it the others are there still
still_in : (x z : ℕ) (front rear : List ℕ) → z ≢ x → In z (front ++ x ∷ rear) → In z (front ++ rear)
still_in x z [] rear other (inl same) = absurd (other same)
still_in x z [] rear other (inr there) = there
still_in x z (y ∷ front) rear other (inl same) = inl same
still_in x z (y ∷ front) rear other (inr there) = inr (still_in x z front rear other there)

all_still : (x : ℕ) (zs front rear : List ℕ) → NotIn x zs → AllByRecursion (λ z. In z (front ++ x ∷ rear)) zs
    → AllByRecursion (λ z. In z (front ++ rear)) zs
all_still x [] front rear none all = tt
all_still x (z ∷ zs) front rear none all =
    (still_in x z front rear (λ same. none.0 (sym same)) all.0, all_still x zs front rear none.1 all.1)

-- so different numbers of a list are no more than it has
pub few_among : (xs ys : List ℕ) → IsDistinct xs → AllByRecursion (λ x. In x ys) xs → length xs ≤ length ys
few_among [] ys distinct all = omega arith
few_among (x ∷ xs) ys distinct all =
    let at = around x ys all.0 in
    let rest = few_among xs (at.front ++ at.rear) distinct.1
    (all_still x xs at.front at.rear distinct.0 (subst (λ zs. AllByRecursion (λ z. In z zs) xs) at.split all.1)) in
    omega (arith, rest, ap length at.split, length-append at.front (x ∷ at.rear), length-append at.front at.rear)

-- ---- entries

module _ (ports : List ℕ) where
  abbrev EntryAmong : Numbered → Type 0
  EntryAmong x = BindsAmong ports x.entry.call

  -- what is so of each caller's entries is so of all
  own_rest : (c : ℕ) (x : Numbered) (xs : List Numbered) → AllByRecursion EntryAmong (entries_of c (x ∷ xs))
      → AllByRecursion EntryAmong (entries_of c xs)
  own_rest c x xs =
      by_test (λ t. AllByRecursion EntryAmong (cond t (x ∷ entries_of c xs) (entries_of c xs)) → AllByRecursion EntryAmong (entries_of c xs))
      (x.entry.caller == c) (λ t all. all.1) (λ f all. all)

  own_first : (x : Numbered) (xs : List Numbered) → AllByRecursion EntryAmong (entries_of x.entry.caller (x ∷ xs)) → EntryAmong x
  own_first x xs all =
      let own = entries_of x.entry.caller xs in
      (subst (λ t. AllByRecursion EntryAmong (cond t (x ∷ own) own)) (eq-eqb x.entry.caller x.entry.caller refl) all).0

  each_own : (xs : List Numbered) → ((c : ℕ) → AllByRecursion EntryAmong (entries_of c xs)) → AllByRecursion EntryAmong xs
  each_own [] all = tt
  each_own (x ∷ xs) all = (own_first x xs (all x.entry.caller), each_own xs (λ c. own_rest c x xs (all c)))

  -- the entries of a caller are those of its calls
  abbrev PastAmong : Past → Type 0
  PastAmong past = BindsAmong ports past.done.call

  about-among : (calls : List Past) → AllByRecursion PastAmong calls → AllByRecursion PastAmong (about_bindings calls)
  about-among [] all = tt
  about-among (past ∷ calls) all =
      by_test (λ t. AllByRecursion PastAmong (cond t (past ∷ about_bindings calls) (about_bindings calls)))
      (is_some (port_of past.done.call)) (λ t. (all.0, about-among calls all.1)) (λ f. about-among calls all.1)

  of_calls-among : (Changed : Type 0) (call : Option Call) (begin count : ℕ) (calls : List Past) (xs : List Numbered)
      → AreOfCalls Changed call begin count calls xs → AllByRecursion PastAmong calls → IfSome call (BindsAmong ports)
      → AllByRecursion EntryAmong xs
  of_calls-among Changed None begin count [] xs are all now = subst (AllByRecursion EntryAmong) (sym are) tt
  of_calls-among Changed (Some call) begin count [] [] are all now = tt
  of_calls-among Changed (Some call) begin count [] (x ∷ xs) are all now =
      (subst (BindsAmong ports) (sym are.1.same_call) now, subst (AllByRecursion EntryAmong) (sym are.2) tt)
  of_calls-among Changed call begin count (past ∷ calls) [] are all now = absurd are
  of_calls-among Changed call begin count (past ∷ calls) (x ∷ xs) are all now =
      (subst (BindsAmong ports) (sym are.0.call) all.0, of_calls-among Changed call begin count calls xs are.1 all.1 now)

  -- ---- what entries leave

  abbrev AreAmong : Multimap → Type 0
  AreAmong bindings = (port : ℕ) → bindings port ≢ [] → In port ports

  -- where the owners of one port are others, which are none where there were none
  others-among : (bindings : Multimap) (port : ℕ) (owners : List ℕ) → AreAmong bindings → (owners ≢ [] → In port ports)
      → AreAmong (with_owners bindings port owners)
  others-among bindings port owners among here other =
      by_test (λ t. (other == port) ≡ t → cond t owners (bindings other) ≢ [] → In other ports) (other == port)
      (λ t is some. subst (λ p. In p ports) (sym (eqb-true other port is)) (here some))
      (λ f is some. among other some) refl

  after-among : (kind : Kind) (bindings : Multimap) (call : Call) → AreAmong bindings → BindsAmong ports call
      → AreAmong (bindings_after kind bindings call)
  after-among kind bindings (Bind port owner once) among is =
      others-among bindings port (owners_bound kind owner (bindings port)) among (λ some. is)
  after-among kind bindings (Release port owner) among is =
      others-among bindings port (owners_released owner (bindings port)) among
      (λ some. among port (λ none. some (ap (owners_released owner) none)))
  after-among kind bindings (Rebind port owner new) among is =
      others-among bindings port (owners_rebound owner new (bindings port)) among
      (λ some. among port (λ none. some (ap (owners_rebound owner new) none)))
  after-among kind bindings _ among is = among

  left-among : (kind : Kind) (bindings : Multimap) (entries : List Entry) → AreAmong bindings
      → AllByRecursion (λ (e : Entry). BindsAmong ports e.call) entries → AreAmong (bindings_left kind bindings entries)
  left-among kind bindings [] among all = among
  left-among kind bindings (entry ∷ entries) among all =
      left-among kind (left_by kind bindings entry) entries
      (by_test (λ t. AreAmong (cond t bindings (bindings_after kind bindings entry.call))) (is_refusal entry.reply)
      (λ t. among) (λ f. after-among kind bindings entry.call among all.0)) all.1

  -- the first entries are of the same ports
  first-among : (i : ℕ) (xs : List Numbered) → AllByRecursion EntryAmong xs
      → AllByRecursion (λ (e : Entry). BindsAmong ports e.call) (numbered_to i xs)
  first-among i [] all = tt
  first-among i (x ∷ xs) all =
      by_test (λ t. AllByRecursion (λ (e : Entry). BindsAmong ports e.call) (cond t (x.entry ∷ numbered_to i xs) (numbered_to i xs)))
      (nat_le x.number i) (λ t. (all.0, first-among i xs all.1)) (λ f. first-among i xs all.1)

-- ---- runs

module _ (M : Type 0) (mix : ℕ → ℕ → ℕ → ℕ) (env : Env) (events : List Event) (admitted : IsAdmitted events)
    (ports : List ℕ) (among : (c : ℕ) → AreCallsAmong ports ((run_of {M = M} mix env events).books c)) where
  abbrev r : Traced M
  r = traced_of mix env events

  -- the calls of a trace are those of its book
  calls-among : (c : ℕ) → AllByRecursion (PastAmong ports) (r.traces c).past
  calls-among c =
      AllByRecursion-in_map (λ (done : Finished). BindsAmong ports done.call) (λ (past : Past). past.done) (r.traces c).past
      (subst (AllByRecursion (λ (done : Finished). BindsAmong ports done.call)) (sym ((remembers M mix env events admitted).traces c).past)
      (subst (λ (w : World M). AllByRecursion (λ (done : Finished). BindsAmong ports done.call) (w.books c).finished)
      (sym (world-traced_of M mix env events)) (among c).ended))

  progress-among : (c : ℕ) → IfSome (r.world.books c).call (BindsAmong ports)
  progress-among c =
      subst (λ (w : World M). IfSome (w.books c).call (BindsAmong ports)) (sym (world-traced_of M mix env events)) (among c).progress

  abbrev history : List Numbered
  history = (fits M mix env events admitted).0

  abbrev fitting : Fits M mix env events history
  fitting = (fits M mix env events admitted).1

  entries-among : AllByRecursion (EntryAmong ports) history
  entries-among =
      each_own ports history
      (λ c. of_calls-among ports _ (r.world.books c).call (r.traces c).begin (length events) (about_bindings (r.traces c).past)
      (entries_of c history) (fitting.calls c) (about-among ports (r.traces c).past (calls-among c)) (progress-among c))

  -- so after each event only these ports are bound
  so_far-among : (i : ℕ) → i ≤ length events → AreAmong ports (bindings_behind M mix env events i)
  so_far-among zero l port some = absurd (some (sym (opening-agree M mix env port)))
  so_far-among (suc i) l port some =
      left-among ports env.config.kind unbound (numbered_to i history) (λ p bound. absurd (bound refl))
      (first-among ports i history entries-among) port
      (λ none. some (ap (λ n. bindings_behind M mix env events n port) next ∙ sym (fitting.agrees i (omega (arith, l)) port) ∙ none))
    where
      next : suc i ≡ i + 1
      next = omega arith

  pub bound-among : (i : ℕ) → AreAmong ports (bindings_behind M mix env events i)
  bound-among i = elim (cases_lt (length events) i) [
    | inl past ↦
        let same : take (length events) events ≡ take i events =
        take_all (length events) events (omega arith) ∙ sym (take_all i events (omega (arith, past))) in
        subst (λ (first : List Event). AreAmong ports (stands_for env.geometry (run_of {M = M} mix env first).core.words)) same
        (so_far-among (length events) (omega arith))
    | inr within ↦ so_far-among i (omega (arith, within))
  ]

  pub few-bound : (i many : ℕ) → AreBound (bindings_behind M mix env events i) many → many ≤ length ports
  few-bound i many are =
      let few = few_among are.ports ports are.distinct (weaker are.ports are.bound) in
      let same = are.many in
      omega (arith, few, same)
    where
      weaker : (xs : List ℕ) → AllByRecursion (λ port. bindings_behind M mix env events i port ≢ []) xs
          → AllByRecursion (λ x. In x ports) xs
      weaker [] all = tt
      weaker (x ∷ xs) all = (bound-among i x all.0, weaker xs all.1)

-- the count of ports is at most the ports bound and the callers
pub count-few : (M : Type 0) (mix : ℕ → ℕ → ℕ → ℕ) (env : Env) (events : List Event) (most : ℕ)
    → IsAdmitted events
    → let words = (run_of {M = M} mix env events).core.words in
    ((many : ℕ) → AreBound (stands_for env.geometry words) many → many ≤ most)
    → word_at env.geometry words PortCount ≤ most + env.geometry.callers
count-few M mix env events most admitted few =
    let core : Core M = (run_of mix env events).core in
    let is = counted_by M mix env events admitted in
    let same = (has_inv env mix M events admitted).inv.same_env in
    let raisers : raising core ≤ core.env.geometry.callers =
    subst (λ n. n ≤ core.env.geometry.callers)
    (sym (count_by-range (λ c. is_raising (local_of core c).doing) core.env.geometry.callers))
    (count_below-most (λ c. is_raising (local_of core c).doing) core.env.geometry.callers) in
    let callers : core.env.geometry.callers ≡ env.geometry.callers = ap (λ (e : Env). e.geometry.callers) same in
    let bound = few is.bound is.all_bound.are in
    let count = is.counted in
    omega (arith, raisers, callers, bound, count)
