-- A call whose events stand together while no other caller is in one. Its trace remembers that it began at
-- its own event, and all other calls ended before that; so its entry is the last of a history that fits.
use Rattle.std.proofs.Common.{◌≡◌, ◌≢◌, ℕ, zero, suc, ◌<◌, ◌≤◌, ◌==◌, List, [], ◌∷◌, ◌++◌, length, replicate, Option, Some, None, Bool, true, false, cond, refl, sym, ap, ◌∙◌, subst, inl, inr, arith}
use Rattle.std.specs.Prelude.{IfSome, is_some}
use Rattle.std.specs.List.{AllByRecursion}
use Rattle.std.proofs.lemmas.Bool.{cases_eq, eq-eqb, ne_eqb}
use Rattle.std.proofs.lemmas.List.{append-nil, append_cancel_left}
use Rattle.rht_words.specs.declared.env.Env.{Env}
use Rattle.rht_words.specs.declared.op.Op.{Op}
use Rattle.rht_words.specs.Operations.{old_of}
use Rattle.rht_model.specs.declared.history.Call.{Call}
use Rattle.rht_model.specs.Endings.{Ending, ended_with}
use Rattle.rht_model.specs.Answers.{port_of}
use Rattle.rht_core.specs.declared.event.Event.{Event}
use Rattle.rht_core.specs.declared.event.Event.TheVariants.{Begin, Step}
use Rattle.rht_core.specs.declared.book.Book.{Book}
use Rattle.rht_callers.specs.declared.local.Doing.{Doing}
use Rattle.rht_callers.specs.Locals.{local_after, ending_of}
use Rattle.rht_core.specs.Runs.{View, local_of, beginning_in, planned_in, books_begun, books_stepped, book_after}
use Rattle.rht_core.specs.Traces.{Did, Past, Trace, Traced, trace_did, traces_begun, traces_stepped, traced_step, traced_from, traced_of, behind_call}
use Rattle.rht_core.specs.Numbered.{Numbered, NeverFalls, entries_of}
use Rattle.rht_core.specs.Alone.{call_events}
use Rattle.rht_core.specs.RunHistories.{IsEntryOf, AreOfCalls, about_bindings}
use Rattle.rht_core.proofs.Events.Worlds.{begin_other, step_other}
use Rattle.rht_core.proofs.Tracing.TracedRuns.{traced_opening, traced_from-append, count-traced_of, trace_begin_other, trace_step_other}
use Rattle.rht_core.proofs.Histories.NumberedEntries.{AllBelow}
use Rattle.rht_core.proofs.Histories.CallEnds.{AreEnded}

-- ---- the entries of one caller

-- where no call is in progress they are those of the calls that have ended
pub none-progress : (Change : Type 0) (now : Option Call) (begin count : ℕ) (calls : List Past)
    (xs : List Numbered) → now ≡ None → AreOfCalls Change now begin count calls xs → AreEnded calls xs
none-progress Change now begin count [] xs none of = let empty : xs ≡ [] = rw none at of in rw empty tt
none-progress Change now begin count (past ∷ calls) [] none of = of
none-progress Change now begin count (past ∷ calls) (x ∷ xs) none of =
    (of.0, none-progress Change now begin count calls xs none of.1)

-- calls that have ended by this event
abbrev pub AreEndedBy : ℕ → List Past → Type 0
AreEndedBy n calls = AllByRecursion (λ past. behind_call past ≤ n) calls

pub about-ended : (n : ℕ) (calls : List Past) → AreEndedBy n calls → AreEndedBy n (about_bindings calls)
about-ended n [] by = tt
about-ended n (past ∷ calls) by = go (is_some (port_of past.done.call)) (about-ended n calls by.1)
  where
    go : (t : Bool) → AreEndedBy n (about_bindings calls)
        → AreEndedBy n (cond t (past ∷ about_bindings calls) (about_bindings calls))
    go true rest = (by.0, rest)
    go false rest = rest

-- the entries of such calls have numbers below it
pub ended-below : (n : ℕ) (calls : List Past) (xs : List Numbered) → AreEndedBy n calls → AreEnded calls xs
    → AllBelow n xs
ended-below n [] [] by ended = tt
ended-below n [] (x ∷ xs) by ended = absurd ended
ended-below n (past ∷ calls) [] by ended = absurd ended
ended-below n (past ∷ calls) (x ∷ xs) by ended =
    let low = ended.0.ended in
    let end = by.0 in
    (omega (arith, low, end), ended-below n calls xs by.1 ended.1)

-- ---- the entry behind all others

-- the number of the first of these is below where those of its caller are
first-below : (n : ℕ) (x : Numbered) (xs : List Numbered) → AllBelow n (entries_of x.entry.caller (x ∷ xs))
    → x.number < n
first-below n x xs below =
    let c = x.entry.caller in
    let here : AllBelow n (x ∷ entries_of c xs) = rw (eq-eqb c c refl) at below in
    here.0

fewer-below : (n d : ℕ) (x : Numbered) (xs : List Numbered) → AllBelow n (entries_of d (x ∷ xs))
    → AllBelow n (entries_of d xs)
fewer-below n d x xs below = go (x.entry.caller == d) (entries_of d xs) below
  where
    go : (t : Bool) (own : List Numbered) → AllBelow n (cond t (x ∷ own) own) → AllBelow n own
    go true own b = b.1
    go false own b = b

module _ (n c : ℕ) (past : Past) where
  -- the last of these entries is that of this call, and those before it have numbers below this one
  pub record HasLast (xs : List Numbered) : Type 0 where
    pub before : List Numbered
    pub last : Numbered
    pub is : xs ≡ before ++ last ∷ []
    pub below : AllBelow n before
    pub caller : last.entry.caller ≡ c
    pub entry : IsEntryOf past last

  one-before : (x : Numbered) (xs : List Numbered) → x.number < n → HasLast xs → HasLast (x ∷ xs)
  one-before x xs low rest = record {
    before = x ∷ rest.before;
    last = rest.last;
    is = ap (λ l. x ∷ l) rest.is;
    below = (low, rest.below);
    caller = rest.caller;
    entry = rest.entry;
  }

  abbrev OthersBelow : List Numbered → Type 0
  OthersBelow xs = (d : ℕ) → d ≢ c → AllBelow n (entries_of d xs)

  -- behind an entry that isn't below the number there is none, where the caller has none there
  none-behind : (from : ℕ) (xs : List Numbered) → n ≤ from → NeverFalls from xs → OthersBelow xs
      → AreEnded [] (entries_of c xs) → xs ≡ []
  none-behind from [] high rising others ended = refl
  none-behind from (x ∷ xs) high rising others ended = elim (cases_eq x.entry.caller c) [
    | inl own ↦ let none : ⊥ = rw (eq-eqb x.entry.caller c own) at ended in absurd none
    | inr other ↦
        let low = first-below n x xs (others x.entry.caller other) in
        let from_on = rising.0 in
        absurd (omega (arith, low, from_on, high))
  ]

  -- where the caller's calls before it had ended, and all others' entries are below, the call's is the last
  pub has-last : n ≤ past.begin → (calls : List Past) (from : ℕ) (xs : List Numbered) → AreEndedBy n calls
      → NeverFalls from xs → OthersBelow xs → AreEnded (calls ++ past ∷ []) (entries_of c xs) → HasLast xs
  has-last high [] from [] by rising others ended = absurd ended
  has-last high (call ∷ calls) from [] by rising others ended = absurd ended
  has-last high calls from (x ∷ xs) by rising others ended = elim (cases_eq x.entry.caller c) [
    | inl own ↦
        first own calls by (rw (eq-eqb x.entry.caller c own) at ended)
        (λ rest low e. has-last high rest x.number xs low rising.1 fewer e)
    | inr other ↦
        one-before x xs (first-below n x xs (others x.entry.caller other))
        (has-last high calls x.number xs by rising.1 fewer (rw (ne_eqb x.entry.caller c other) at ended))
  ]
    where
      fewer : OthersBelow xs
      fewer d ne = fewer-below n d x xs (others d ne)

      first : x.entry.caller ≡ c → (all : List Past) → AreEndedBy n all
          → AreEnded (all ++ past ∷ []) (x ∷ entries_of c xs)
          → ((rest : List Past) → AreEndedBy n rest → AreEnded (rest ++ past ∷ []) (entries_of c xs)
          → HasLast xs) → HasLast (x ∷ xs)
      first own [] low now further =
          let begun = now.0.begun in
          let none = none-behind x.number xs (omega (arith, high, begun)) rising.1 fewer now.1 in
          record { before = []; last = x; is = ap (λ l. x ∷ l) none; below = tt; caller = own; entry = now.0 }
      first own (call ∷ rest) low now further =
          let number = now.0.ended in
          let end = low.0 in
          one-before x xs (omega (arith, number, end)) (further rest low.1 now.1)

-- ---- the events of the call

module _ (M : Type 0) (mix : ℕ → ℕ → ℕ → ℕ) (env : Env) (start : List Event) (c : ℕ) (call : Call) where
  -- the run before the call
  abbrev r0 : Traced M
  r0 = traced_of mix env start

  abbrev old : List Past
  old = (r0.traces c).past

  -- the call has ended, and its caller is in none
  pub record HasEnded (past : Past) (now : Option Call) : Type 0 where
    pub asked : past.done.call ≡ call
    pub begun : past.begin ≡ length start
    pub none : now ≡ None

  -- the calls that have ended since: none, and one in progress is this call; or this call alone
  abbrev AreSince : List Past → Option Call → ℕ → Type 0
  AreSince [] now begin = IfSome now (λ other. (other ≡ call) × (begin ≡ length start))
  AreSince (past ∷ []) now begin = HasEnded past now
  AreSince (past ∷ next ∷ more) now begin = ⊥

  abbrev IsSince : Book → Trace → Type 0
  IsSince book trace =
      (more : List Past) × (trace.past ≡ old ++ more) × AreSince more book.call trace.begin

  -- another caller is where it was
  pub record IsAsBefore (r : Traced M) (d : ℕ) : Type 0 where
    pub book : r.world.books d ≡ r0.world.books d
    pub trace : r.traces d ≡ r0.traces d

  pub record IsAlone (r : Traced M) : Type 0 where
    pub others : (d : ℕ) → d ≢ c → IsAsBefore r d
    own : IsSince (r.world.books c) (r.traces c)

  -- an operation of the caller
  did-since : (did : Did) (ending : Option Ending) (book : Book) (trace : Trace) → IsSince book trace
      → IsSince (book_after ending book) (trace_did book.call did ending trace)
  did-since did None book trace since = since
  did-since did (Some ending) book trace ([], is, progress) = go book.call progress
    where
      go : (now : Option Call) → AreSince [] now trace.begin
          → IsSince (book_after (Some ending) book) (trace_did now did (Some ending) trace)
      go None none = ([], append-nil trace.past ∙ is, tt)
      go (Some now) this =
          let steps = trace.steps ++ did ∷ [] in
          let past : Past = record { done = ended_with now ending; begin = trace.begin; steps = steps } in (
            past ∷ [],
            ap (λ calls. calls ++ past ∷ []) (is ∙ append-nil old),
            record { asked = this.0; begun = this.1; none = refl },
          )
  did-since did (Some ending) book trace (past ∷ [], is, this) = (
    past ∷ [],
    ap (λ now. (trace_did now did (Some ending) trace).past) this.none ∙ append-nil trace.past ∙ is,
    record { asked = this.asked; begun = this.begun; none = refl },
  )
  did-since did (Some ending) book trace (past ∷ next ∷ more, is, this) = absurd this

  alone-begin : (r0.world.books c).call ≡ None → IsAlone (traced_step mix r0 (Begin c call 0))
  alone-begin none = record {
    others = λ d ne. record {
      book = ap (λ (s : View M). s.book) (begin_other M mix r0.world c call 0 d ne);
      trace = trace_begin_other M mix r0 c call 0 d ne;
    };
    own = go (beginning_in r0.world.core c call 0);
  }
    where
      go : (machine : Option (Doing M))
          → IsSince (books_begun r0.world.books c call machine c) (traces_begun r0 c machine c)
      go None = ([], sym (append-nil old), rw none tt)
      go (Some machine) =
          rw (eq-eqb c c refl) ([], sym (append-nil old), (refl, count-traced_of M mix env start))

  alone-step : (r : Traced M) → IsAlone r → IsAlone (traced_step mix r (Step c))
  alone-step r alone = record {
    others = λ d ne.
        let was = alone.others d ne in
        record {
          book = ap (λ (s : View M). s.book) (step_other M mix r.world c d ne) ∙ was.book;
          trace = trace_step_other M mix r c d ne ∙ was.trace;
        };
    own = go (planned_in r.world.core c);
  }
    where
      go : (op : Option Op) → IsSince (books_stepped mix r.world c op c) (traces_stepped mix r c op c)
      go None = alone.own
      go (Some op) =
          let old = old_of r.world.core.words op in
          let next = local_after mix (local_of r.world.core c) old in
          let did : Did = record { index = r.count; op = op; old = old } in
          let ending = ending_of next.0 next.1 in
          rw (eq-eqb c c refl) (did-since did ending (r.world.books c) (r.traces c) alone.own)

  alone-steps : (count : ℕ) (r : Traced M) → IsAlone r
      → IsAlone (traced_from mix r (replicate count (Step c)))
  alone-steps zero r alone = alone
  alone-steps (suc count) r alone = alone-steps count (traced_step mix r (Step c)) (alone-step r alone)

  -- behind the events of the call
  pub alone-after : (count : ℕ) → (r0.world.books c).call ≡ None
      → IsAlone (traced_of mix env (start ++ call_events M mix c call count))
  alone-after count none =
      let opened = traced_opening M mix env in
      subst IsAlone (sym (traced_from-append M mix opened start (call_events M mix c call count)))
      (alone-steps count (traced_step mix r0 (Begin c call 0)) (alone-begin none))

  -- the one call that has ended since is this call
  pub has-ended : (r : Traced M) (past : Past) → IsAlone r → (r.traces c).past ≡ old ++ past ∷ []
      → HasEnded past (r.world.books c).call
  has-ended r past alone is =
      let (more, same, since) = alone.own in
      let one : more ≡ past ∷ [] = append_cancel_left old more (past ∷ []) (sym same ∙ is) in
      subst (λ calls. AreSince calls (r.world.books c).call (r.traces c).begin) one since
