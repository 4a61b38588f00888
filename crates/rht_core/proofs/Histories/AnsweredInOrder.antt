-- What the calls of one caller leave, and how they ended, where none about bindings is refused: lists alone, with no run.
--
-- Some first entries of which each but the last isn't refused leave what some first calls leave by the model: all of their calls, or all
-- but the last one's, where that one is refused. Each of these calls ended as the model answers it.
use Rattle.std.proofs.Common.{◌≡◌, ◌≢◌, ℕ, zero, suc, ◌+◌, ◌<◌, ◌≤◌, Bool, true, false, cond, List, [], ◌∷◌, ◌++◌, map, take, refl, sym, ◌∙◌, ap, subst, inl, inr, arith}
use Rattle.std.specs.Prelude.{Option, None, IfSome, is_some}
use Rattle.std.specs.List.{AllByRecursion}
use Rattle.std.proofs.lemmas.Bool.{cases_Bool, eq-eqb}
use Rattle.rht_words.specs.declared.config.Kind.{Kind}
use Rattle.rht_words.proofs.EachElement.{AllByRecursion-weaker}
use Rattle.rht_model.specs.declared.history.Call.{Call}
use Rattle.rht_model.specs.declared.history.Call.TheVariants.{Bind, Find, All, Release, Rebind, Walk, Work, Tidy, Count}
use Rattle.rht_model.specs.declared.history.Entry.{Entry}
use Rattle.rht_model.specs.declared.history.Reply.{Reply}
use Rattle.rht_model.specs.declared.history.Reply.TheVariants.{Found, Missing, Listed, Released, Absent, Rebound, NoNode}
use Rattle.rht_model.specs.Multimap.{Multimap}
use Rattle.rht_model.specs.Answers.{Answer, port_of, answer_of, bindings_after, is_refusal}
use Rattle.rht_model.specs.Endings.{Ending, ended_with}
use Rattle.rht_model.specs.Histories.{without_kick, IsAnswered, IsLegalAt, left_by, IsLegalFrom, bindings_left}
use Rattle.rht_model.proofs.Refusals.{is_refusal-MayRefuse}
use Rattle.rht_core.specs.Alone.{entry_done}
use Rattle.rht_core.specs.FewPorts.{IsBindTaken}
use Rattle.rht_core.specs.NeverRefused.{NoneRefused, bindings_after_all, EndsAsAnswered, EndAsAnswered}
use Rattle.rht_core.specs.Replies.{IsReplyTo, IsFindReply, IsAllReply, IsReleaseReply, IsRebindReply}
use Rattle.rht_core.specs.Numbered.{Numbered, history_of, entries_of}
use Rattle.rht_core.specs.RunHistories.{about_bindings}
use Rattle.rht_core.specs.Traces.{Past, AreInOrder, behind_call}
use Rattle.rht_core.proofs.Tracing.StepsInTraces.{from-behind}
use Rattle.rht_core.proofs.Histories.NumberedEntries.{AllBelow}
use Rattle.rht_core.proofs.Histories.CallEnds.{AreEnded}
use Rattle.rht_core.proofs.Histories.ToldEntries.{entries_told}

-- ---- calls that aren't refused

-- a call about bindings is refused for want of a node alone
abbrev pub IsRefusedForNode : Call → Reply → Type 0
IsRefusedForNode call reply = is_some (port_of call) ≡ true → is_refusal reply ≡ true → reply ≡ NoNode

find-no_refusal : (reply : Reply) → IsFindReply reply → is_refusal reply ≡ false
find-no_refusal (Found owner) is = refl
find-no_refusal Missing is = refl
find-no_refusal reply is = absurd is

all-no_refusal : (reply : Reply) → IsAllReply reply → is_refusal reply ≡ false
all-no_refusal (Listed len) is = refl
all-no_refusal reply is = absurd is

release-no_refusal : (reply : Reply) → IsReleaseReply reply → is_refusal reply ≡ false
release-no_refusal (Released kick) is = refl
release-no_refusal Absent is = refl
release-no_refusal reply is = absurd is

rebind-for_node : (reply : Reply) → IsRebindReply reply → is_refusal reply ≡ true → reply ≡ NoNode
rebind-for_node NoNode is refused = refl
rebind-for_node Rebound is refused = absurd (cc)
rebind-for_node Absent is refused = absurd (cc)
rebind-for_node reply is refused = absurd is

-- so is each where that is so of a bind, since the others have their kinds of replies
pub IsRefusedForNode-reply : (call : Call) (reply : Reply) → IsReplyTo call reply → IsBindTaken call reply → IsRefusedForNode call reply
IsRefusedForNode-reply (Bind port owner once) reply is taken about refused = taken refused
IsRefusedForNode-reply (Find port) reply is taken about refused = absurd (let none = find-no_refusal reply is in cc)
IsRefusedForNode-reply (All port) reply is taken about refused = absurd (let none = all-no_refusal reply is in cc)
IsRefusedForNode-reply (Release port owner) reply is taken about refused = absurd (let none = release-no_refusal reply is in cc)
IsRefusedForNode-reply (Rebind port owner new) reply is taken about refused = rebind-for_node reply is refused
IsRefusedForNode-reply _ reply is taken about refused = absurd (cc)

-- what is so of all replies is so of those of the entries
pub entries_told-replies : (P : Reply → Type 0) (c : ℕ) (calls : List Call) (endings : List Ending)
    → AllByRecursion (λ (e : Ending). P e.answer.reply) endings
    → AllByRecursion (λ (entry : Entry). P entry.reply) (entries_told c calls endings)
entries_told-replies P c [] endings all = tt
entries_told-replies P c (call ∷ calls) [] all = tt
entries_told-replies P c (call ∷ calls) (ending ∷ endings) all =
    go (is_some (port_of call)) (entries_told-replies P c calls endings all.1)
  where
    go : (t : Bool) → AllByRecursion (λ (entry : Entry). P entry.reply) (entries_told c calls endings)
        → AllByRecursion (λ (entry : Entry). P entry.reply)
        (cond t (entry_done c (ended_with call ending) ∷ entries_told c calls endings) (entries_told c calls endings))
    go true others = (all.0, others)
    go false others = others

-- all entries are the caller's
pub entries_told-caller : (c : ℕ) (calls : List Call) (endings : List Ending)
    → AllByRecursion (λ (entry : Entry). entry.caller ≡ c) (entries_told c calls endings)
entries_told-caller c [] endings = tt
entries_told-caller c (call ∷ calls) [] = tt
entries_told-caller c (call ∷ calls) (ending ∷ endings) = go (is_some (port_of call)) (entries_told-caller c calls endings)
  where
    go : (t : Bool) → AllByRecursion (λ (entry : Entry). entry.caller ≡ c) (entries_told c calls endings)
        → AllByRecursion (λ (entry : Entry). entry.caller ≡ c)
        (cond t (entry_done c (ended_with call ending) ∷ entries_told c calls endings) (entries_told c calls endings))
    go true others = (refl, others)
    go false others = others

-- ---- what entries leave

-- all of these but the last
abbrev pub AllButLast : {X : Type 0} → (X → Type 0) → List X → Type 0
AllButLast P [] = Unit {0}
AllButLast P (x ∷ []) = Unit {0}
AllButLast P (x ∷ y ∷ xs) = P x × AllButLast P (y ∷ xs)

-- the calls of entries
abbrev pub calls_in : List Entry → List Call
calls_in entries = map (λ entry. entry.call) entries

-- the entry isn't refused
abbrev pub IsTaken : Entry → Type 0
IsTaken entry = is_refusal entry.reply ≡ false

module _ (kind : Kind) where
  left_by-answered : (bindings : Multimap) (entry : Entry) → IsTaken entry → left_by kind bindings entry ≡ bindings_after kind bindings entry.call
  left_by-answered bindings entry answers = rw answers refl

  -- These are the bindings that the calls of so many first entries leave by the model. None of these entries is refused.
  pub record AreAfterEntries (before after : Multimap) (entries : List Entry) : Type 0 where
    pub count : ℕ
    pub is : after ≡ bindings_after_all kind before (take count (calls_in entries))
    pub answers : AllByRecursion IsTaken (take count entries)

  -- by induction over the first entries
  pub bindings_left-first : (before : Multimap) (low high : List Entry) → AllButLast IsTaken low
      → AreAfterEntries before (bindings_left kind before low) (low ++ high)
  bindings_left-first before [] high answers = record { count = 0; is = refl; answers = tt }
  bindings_left-first before (x ∷ []) high answers = go (is_refusal x.reply) refl
    where
      go : (t : Bool) → is_refusal x.reply ≡ t → AreAfterEntries before (cond t before (bindings_after kind before x.call)) (x ∷ high)
      go true refused = record { count = 0; is = refl; answers = tt }
      go false here = record { count = 1; is = refl; answers = (here, tt) }
  bindings_left-first before (x ∷ y ∷ low) high answers =
      let others = bindings_left-first (bindings_after kind before x.call) (y ∷ low) high answers.1 in
      record {
        count = suc others.count;
        is = ap (λ left. bindings_left kind left (y ∷ low)) (left_by-answered before x answers.0) ∙ others.is;
        answers = (answers.0, others.answers);
      }

  -- a call that isn't about bindings changes none, and has no answer
  after-other : (bindings : Multimap) (call : Call) → is_some (port_of call) ≡ false → bindings_after kind bindings call ≡ bindings
  after-other bindings (Bind port owner once) other = absurd (cc)
  after-other bindings (Release port owner) other = absurd (cc)
  after-other bindings (Rebind port owner new) other = absurd (cc)
  after-other bindings _ other = refl

  answer-other : (bindings : Multimap) (call : Call) → is_some (port_of call) ≡ false → answer_of kind bindings call ≡ None
  answer-other bindings (Walk from limit) other = refl
  answer-other bindings Work other = refl
  answer-other bindings Tidy other = refl
  answer-other bindings Count other = refl
  answer-other bindings _ other = absurd (cc)

  -- so it may end in any way
  ends-other : (bindings : Multimap) (call : Call) (ending : Ending) → is_some (port_of call) ≡ false → EndsAsAnswered kind bindings call ending
  ends-other bindings call ending other =
      subst
      (λ (o : Option Answer). IfSome o (λ answer. answer ≡ record { reply = without_kick ending.answer.reply; owners = ending.answer.owners }))
      (sym (answer-other bindings call other)) tt

  answered_as : (bindings : Multimap) (call : Call) (ending : Ending) → IsAnswered kind bindings (entry_done 0 (ended_with call ending))
      → EndsAsAnswered kind bindings call ending
  answered_as bindings call ending is =
      subst
      (λ (o : Option Answer). IfSome o (λ answer. answer ≡ record { reply = without_kick ending.answer.reply; owners = ending.answer.owners }))
      (sym is) refl

  is_answered : (bindings : Multimap) (entry : Entry) → is_refusal entry.reply ≡ false → IsLegalAt kind bindings entry
      → IsAnswered kind bindings entry
  is_answered bindings entry answers (inl is) = is
  is_answered bindings entry answers (inr refused) =
      absurd (let refuses = is_refusal-MayRefuse entry.call entry.reply refused.0 in cc)

  -- These are the bindings that so many first calls leave by the model, and each of these ended as it answers them.
  pub record AreAfterCalls (before after : Multimap) (calls : List Call) (endings : List Ending) : Type 0 where
    pub count : ℕ
    pub is : after ≡ bindings_after_all kind before (take count calls)
    pub answered : EndAsAnswered kind before (take count calls) (take count endings)

  -- So what the calls of some first entries leave, where none of these is refused, is what some first calls leave.
  pub after-told : (calls : List Call) (endings : List Ending) (before : Multimap) (count : ℕ)
      → IsLegalFrom kind before (entries_told 0 calls endings) → AllByRecursion IsTaken (take count (entries_told 0 calls endings))
      → AreAfterCalls before (bindings_after_all kind before (take count (calls_in (entries_told 0 calls endings)))) calls endings
  after-told calls endings before zero legal answers = record { count = 0; is = refl; answered = tt }
  after-told [] endings before (suc count) legal answers = record { count = 0; is = refl; answered = tt }
  after-told (call ∷ calls) [] before (suc count) legal answers = record { count = 0; is = refl; answered = tt }
  after-told (call ∷ calls) (ending ∷ endings) before (suc count) legal answers =
      go (is_some (port_of call)) refl legal answers (after-told calls endings)
    where
      entry : Entry
      entry = entry_done 0 (ended_with call ending)

      others_told : List Entry
      others_told = entries_told 0 calls endings

      -- the other calls, from what this one leaves
      AreAfterOthers : Type 0
      AreAfterOthers =
          (bindings : Multimap) (many : ℕ) → IsLegalFrom kind bindings others_told → AllByRecursion IsTaken (take many others_told)
          → AreAfterCalls bindings (bindings_after_all kind bindings (take many (calls_in others_told))) calls endings

      go : (t : Bool) → is_some (port_of call) ≡ t
          → IsLegalFrom kind before (cond t (entry ∷ others_told) others_told)
          → AllByRecursion IsTaken (take (suc count) (cond t (entry ∷ others_told) others_told))
          → AreAfterOthers
          → AreAfterCalls before (bindings_after_all kind before (take (suc count) (calls_in (cond t (entry ∷ others_told) others_told))))
          (call ∷ calls) (ending ∷ endings)
      go true about all answered told =
          let after = bindings_after kind before call in
          let rest = subst (λ bindings. IsLegalFrom kind bindings others_told) (left_by-answered before entry answered.0) all.1 in
          let others = told after count rest answered.1 in
          record {
            count = suc others.count;
            is = others.is;
            answered = (answered_as before call ending (is_answered before entry answered.0 all.0), others.answered);
          }
      go false other all answered told =
          let others = told before (suc count) all answered in
          let same = sym (after-other before call other) in
          record {
            count = suc others.count;
            is = others.is ∙ ap (λ left. bindings_after_all kind left (take others.count calls)) same;
            answered = (
              ends-other before call ending other,
              subst (λ left. EndAsAnswered kind left (take others.count calls) (take others.count endings)) same others.answered,
            );
          }

  -- ---- where no call is refused

  -- the entries leave what the model leaves of the calls, which ended as the model answers them
  pub record IsModelled (before : Multimap) (calls : List Call) (endings : List Ending) (entries : List Entry) : Type 0 where
    pub answered : EndAsAnswered kind before calls endings
    pub leaves : bindings_left kind before entries ≡ bindings_after_all kind before calls

  -- by induction over the calls
  pub answered_in_order : (calls : List Call) (endings : List Ending) (before : Multimap) → NoneRefused calls endings
      → IsLegalFrom kind before (entries_told 0 calls endings) → IsModelled before calls endings (entries_told 0 calls endings)
  answered_in_order [] [] before none legal = record { answered = tt; leaves = refl }
  answered_in_order [] (ending ∷ endings) before none legal = absurd none
  answered_in_order (call ∷ calls) [] before none legal = absurd none
  answered_in_order (call ∷ calls) (ending ∷ endings) before none legal =
      let after = bindings_after kind before call in
      go (is_some (port_of call)) refl legal
      (λ left same rest.
      answered_in_order calls endings after none.1 (subst (λ bindings. IsLegalFrom kind bindings (entries_told 0 calls endings)) same rest))
    where
      entry : Entry
      entry = entry_done 0 (ended_with call ending)

      -- the other calls, from what this one leaves
      AreOthers : Type 0
      AreOthers =
          (left : Multimap) → left ≡ bindings_after kind before call → IsLegalFrom kind left (entries_told 0 calls endings)
          → IsModelled (bindings_after kind before call) calls endings (entries_told 0 calls endings)

      go : (t : Bool) → is_some (port_of call) ≡ t
          → IsLegalFrom kind before (cond t (entry ∷ entries_told 0 calls endings) (entries_told 0 calls endings))
          → AreOthers
          → IsModelled before (call ∷ calls) (ending ∷ endings) (cond t (entry ∷ entries_told 0 calls endings) (entries_told 0 calls endings))
      go true about all others =
          let answers = none.0 about in
          let same = left_by-answered before entry answers in
          let rest = others (left_by kind before entry) same all.1 in
          record {
            answered = (answered_as before call ending (is_answered before entry answers all.0), rest.answered);
            leaves = ap (λ left. bindings_left kind left (entries_told 0 calls endings)) same ∙ rest.leaves;
          }
      go false other all others =
          let same = after-other before call other in
          let rest = others before (sym same) all in
          record {
            answered = (ends-other before call ending other, rest.answered);
            leaves = ap (λ left. bindings_left kind left (entries_told 0 calls endings)) (sym same) ∙ rest.leaves;
          }

-- ---- entries with numbers

-- where all entries are of one caller, its own are all
pub entries_of-all : (c : ℕ) (history : List Numbered) → AllByRecursion (λ (entry : Entry). entry.caller ≡ c) (history_of history)
    → entries_of c history ≡ history
entries_of-all c [] all = refl
entries_of-all c (x ∷ history) all =
    ap (λ t. cond t (x ∷ entries_of c history) (entries_of c history)) (eq-eqb x.entry.caller c all.0)
    ∙ ap (λ xs. x ∷ xs) (entries_of-all c history all.1)

-- calls that come one behind the other from an event on have entries from there on
numbers-from : (from : ℕ) (calls : List Past) (xs : List Numbered) → AreInOrder from calls → AreEnded (about_bindings calls) xs
    → AllByRecursion (λ x. from ≤ x.number) xs
numbers-from from [] [] order ended = tt
numbers-from from [] (x ∷ xs) order ended = absurd ended
numbers-from from (past ∷ calls) xs order ended =
    go (is_some (port_of past.done.call)) xs ended
    (λ ys rest.
    AllByRecursion-weaker (λ x. behind_call past ≤ x.number) (λ x. from ≤ x.number) (λ x high. omega (arith, behind, high)) ys
    (numbers-from (behind_call past) calls ys order.2 rest))
  where
    behind : from ≤ behind_call past
    behind = let begins = order.0 in let ends = from-behind (past.begin + 1) past.steps order.1 in omega (arith, begins, ends)

    go : (t : Bool) (ys : List Numbered) → AreEnded (cond t (past ∷ about_bindings calls) (about_bindings calls)) ys
        → ((zs : List Numbered) → AreEnded (about_bindings calls) zs → AllByRecursion (λ x. from ≤ x.number) zs)
        → AllByRecursion (λ x. from ≤ x.number) ys
    go true [] rest others = absurd rest
    go true (y ∷ ys) rest others = (let begins = order.0 in let begun = rest.0.begun in omega (arith, begins, begun), others ys rest.1)
    go false ys rest others = others ys rest

-- a call that isn't refused for want of a node isn't refused
pub not_refused : (call : Call) (reply : Reply) → IsRefusedForNode call reply → is_some (port_of call) ≡ true → reply ≢ NoNode
    → is_refusal reply ≡ false
not_refused call reply for_node about other = elim (cases_Bool (is_refusal reply)) [
  | inl refused ↦ absurd (other (for_node about refused))
  | inr answers ↦ answers
]

-- A call that has ended before this event is refused for want of a node alone.
abbrev pub IsTakenBefore : ℕ → Past → Type 0
IsTakenBefore n past = behind_call past < n → IsRefusedForNode past.done.call past.done.reply

-- So of the entries below the event each but the last isn't refused: its call ended before that of the next one began. By induction over
-- the calls.
pub answers-below : (from n : ℕ) (calls : List Past) (low high : List Numbered) → AreInOrder from calls
    → AreEnded (about_bindings calls) (low ++ high) → AllBelow n low → AllByRecursion (IsTakenBefore n) calls
    → AllByRecursion (λ (x : Numbered). x.entry.reply ≢ NoNode) low
    → AllButLast IsTaken (history_of low)
answers-below from n calls [] high order ended below taken some = tt
answers-below from n calls (x ∷ []) high order ended below taken some = tt
answers-below from n [] (x ∷ y ∷ low) high order ended below taken some = absurd ended
answers-below from n (past ∷ calls) (x ∷ y ∷ low) high order ended below taken some =
    go (is_some (port_of past.done.call)) refl ended
    (λ lows rest under found. answers-below (behind_call past) n calls lows high order.2 rest under taken.1 found)
  where
    -- so it is of the other calls
    AreOthers : Type 0
    AreOthers =
        (lows : List Numbered) → AreEnded (about_bindings calls) (lows ++ high) → AllBelow n lows
        → AllByRecursion (λ (z : Numbered). z.entry.reply ≢ NoNode) lows
        → AllButLast IsTaken (history_of lows)

    go : (t : Bool) → is_some (port_of past.done.call) ≡ t
        → AreEnded (cond t (past ∷ about_bindings calls) (about_bindings calls)) (x ∷ y ∷ low ++ high)
        → AreOthers
        → AllButLast (λ (entry : Entry). is_refusal entry.reply ≡ false) (x.entry ∷ y.entry ∷ history_of low)
    go true about rest others =
        let next = (numbers-from (behind_call past) calls (y ∷ low ++ high) order.2 rest.1).0 in
        let under = below.1.0 in
        let reply = rest.0.reply in
        let here = not_refused past.done.call past.done.reply (taken.0 (omega (arith, next, under))) about
        (λ none. some.0 (reply ∙ none)) in (
          ap is_refusal reply ∙ here,
          others (y ∷ low) rest.1 below.1 some.1,
        )
    go false other rest others = others (x ∷ y ∷ low) rest below some
