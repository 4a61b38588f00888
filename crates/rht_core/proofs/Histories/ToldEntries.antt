-- The entries of callers in a history, and those of calls that have ended: lists alone, with no run.
use Rattle.std.proofs.Common.{◌≡◌, ◌≢◌, ℕ, ◌<◌, ◌==◌, Bool, true, false, cond, List, [], ◌∷◌, ◌++◌, map, refl, sym, ◌∙◌, ap, subst, append_assoc, inl, inr, arith}
use Rattle.std.specs.Prelude.{is_some, ◌&&◌}
use Rattle.std.specs.List.{AllByRecursion}
use Rattle.std.proofs.lemmas.Bool.{cases_eq, cases_lt, eq-eqb, ne_eqb, eqb-true}
use Rattle.rht_words.proofs.EachElement.{AllByRecursion-cut}
use Rattle.rht_model.specs.declared.history.Call.{Call}
use Rattle.rht_model.specs.declared.history.Call.TheVariants.{Work}
use Rattle.rht_model.specs.declared.history.Entry.{Entry}
use Rattle.rht_model.specs.declared.history.Reply.{Reply}
use Rattle.rht_model.specs.declared.history.Reply.TheVariants.{NoNode}
use Rattle.rht_model.specs.declared.finished.Finished.{Finished}
use Rattle.rht_model.specs.Answers.{port_of}
use Rattle.rht_model.specs.Endings.{Ending, ended_with}
use Rattle.rht_core.specs.Alone.{entry_done}
use Rattle.rht_core.specs.Numbered.{Numbered, history_of, NeverFalls, entries_of}
use Rattle.rht_core.specs.Serving.{asks_for_work, AreBehind, AreTries, AreForCommand, IsCut, Serves}
use Rattle.rht_core.specs.Traces.{Past}
use Rattle.rht_core.specs.RunHistories.{about_bindings}
use Rattle.rht_core.specs.ToldHistories.{entries_of_finished, entries_by}
use Rattle.rht_core.proofs.Histories.NumberedEntries.{AllBelow}
use Rattle.rht_core.proofs.Histories.CallEnds.{AreEnded}

-- ---- the entries of one caller

-- without their numbers
pub entries_by-history_of : (c : ℕ) (history : List Numbered) → entries_by c (history_of history) ≡ history_of (entries_of c history)
entries_by-history_of c [] = refl
entries_by-history_of c (x ∷ history) = go (x.entry.caller == c) (entries_by-history_of c history)
  where
    go : (t : Bool) → entries_by c (history_of history) ≡ history_of (entries_of c history)
        → cond t (x.entry ∷ entries_by c (history_of history)) (entries_by c (history_of history))
        ≡ history_of (cond t (x ∷ entries_of c history) (entries_of c history))
    go true same = ap (λ rest. x.entry ∷ rest) same
    go false same = same

-- each is of that caller
abbrev AreOf : ℕ → List Numbered → Type 0
AreOf c xs = AllByRecursion (λ x. x.entry.caller ≡ c) xs

AreOf-entries_of : (c : ℕ) (history : List Numbered) → AreOf c (entries_of c history)
AreOf-entries_of c [] = tt
AreOf-entries_of c (x ∷ history) = go (x.entry.caller == c) refl (AreOf-entries_of c history)
  where
    go : (t : Bool) → (x.entry.caller == c) ≡ t → AreOf c (entries_of c history)
        → AreOf c (cond t (x ∷ entries_of c history) (entries_of c history))
    go true own are = (eqb-true x.entry.caller c own, are)
    go false other are = are

-- ---- the entries of calls that have ended

-- the entries of a caller's calls say how these ended
ended-entries : (c : ℕ) (calls : List Past) (xs : List Numbered) → AreOf c xs → AreEnded (about_bindings calls) xs
    → history_of xs ≡ entries_of_finished c (map (λ (p : Past). p.done) calls)
ended-entries c [] [] are ended = refl
ended-entries c [] (x ∷ xs) are ended = absurd ended
ended-entries c (past ∷ calls) xs are ended = go (is_some (port_of past.done.call)) xs are ended (ended-entries c calls)
  where
    go : (t : Bool) (ys : List Numbered) → AreOf c ys → AreEnded (cond t (past ∷ about_bindings calls) (about_bindings calls)) ys
        → ((zs : List Numbered) → AreOf c zs → AreEnded (about_bindings calls) zs
        → history_of zs ≡ entries_of_finished c (map (λ (p : Past). p.done) calls))
        → history_of ys ≡ cond t (entry_done c past.done ∷ entries_of_finished c (map (λ (p : Past). p.done) calls))
        (entries_of_finished c (map (λ (p : Past). p.done) calls))
    go true [] are ended others = absurd ended
    go true (y ∷ ys) are ended others =
        let of = ended.0 in
        let here : y.entry ≡ entry_done c past.done =
        (λ i. record { caller = are.0 i; call = of.call i; reply = of.reply i; owners = of.owners i }) in
        ap (λ (e : Entry). e ∷ history_of ys) here ∙ ap (λ es. entry_done c past.done ∷ es) (others ys are.1 ended.1)
    go false ys are ended others = others ys are ended

-- so the entries of a caller in a history are those of its calls that have ended
pub entries_by-ended : (c : ℕ) (calls : List Past) (history : List Numbered)
    → AreEnded (about_bindings calls) (entries_of c history)
    → entries_by c (history_of history) ≡ entries_of_finished c (map (λ (p : Past). p.done) calls)
entries_by-ended c calls history ended =
    entries_by-history_of c history ∙ ended-entries c calls (entries_of c history) (AreOf-entries_of c history) ended

-- ---- calls that serve commands

-- the entries of a caller whose commands ended so: one for each command about bindings, in their order
abbrev pub entries_told : ℕ → List Call → List Ending → List Entry
entries_told caller [] endings = []
entries_told caller (call ∷ calls) [] = []
entries_told caller (call ∷ calls) (ending ∷ endings) =
    cond (is_some (port_of call)) (entry_done caller (ended_with call ending) ∷ entries_told caller calls endings)
    (entries_told caller calls endings)

-- a command's calls come first: those until it has its reply, those behind them, and then those of the other commands
pub command_parts : (auto : Bool) (call : Call) (ending : Ending) (Others : List Finished → Type 0) (done : List Finished)
    → (cut : IsCut (AreForCommand auto call ending) Others done)
    → done ≡ cut.first_is.tries ++ (cut.first_is.behind ++ cut.rest)
command_parts auto call ending Others done cut =
    cut.whole ∙ ap (λ front. front ++ cut.rest) cut.first_is.whole
    ∙ append_assoc cut.first_is.tries cut.first_is.behind cut.rest

-- what is so of all these calls is so of the one with which the command ends
pub tries-last : (P : Finished → Type 0) (call : Call) (ending : Ending) (tries : List Finished) → AreTries call ending tries
    → AllByRecursion P tries → P (ended_with call ending)
tries-last P call ending [] are all = absurd are
tries-last P call ending (done ∷ []) are all = subst P are.0 all.0
tries-last P call ending (first ∷ tidy ∷ []) are all = absurd are
tries-last P call ending (first ∷ tidy ∷ done ∷ []) are all = subst P are.3 all.1.1.0
tries-last P call ending (first ∷ tidy ∷ done ∷ next ∷ dones) are all = absurd are

-- which is the last of them
pub tries-split : (call : Call) (ending : Ending) (tries : List Finished) → AreTries call ending tries
    → (earlier : List Finished) × (tries ≡ earlier ++ ended_with call ending ∷ [])
tries-split call ending [] are = absurd are
tries-split call ending (done ∷ []) are = ([], ap (λ d. d ∷ []) are.0)
tries-split call ending (first ∷ tidy ∷ []) are = absurd are
tries-split call ending (first ∷ tidy ∷ done ∷ []) are = (first ∷ tidy ∷ [], ap (λ d. first ∷ tidy ∷ d ∷ []) are.3)
tries-split call ending (first ∷ tidy ∷ done ∷ next ∷ dones) are = absurd are

-- the call found a node, or looked for none
abbrev pub FoundSome : Finished → Type 0
FoundSome done = done.reply ≢ NoNode

-- where each found one there is one try alone
tries-one : (call : Call) (ending : Ending) (tries : List Finished) → AreTries call ending tries → AllByRecursion FoundSome tries
    → tries ≡ ended_with call ending ∷ []
tries-one call ending [] are found = absurd are
tries-one call ending (done ∷ []) are found = ap (λ d. d ∷ []) are.0
tries-one call ending (first ∷ tidy ∷ []) are found = absurd are
tries-one call ending (first ∷ tidy ∷ done ∷ []) are found = absurd (found.0 are.1)
tries-one call ending (first ∷ tidy ∷ done ∷ next ∷ dones) are found = absurd are

-- and then the command's own call is the first
pub command_first : (auto : Bool) (call : Call) (ending : Ending) (Others : List Finished → Type 0) (done : List Finished)
    → (cut : IsCut (AreForCommand auto call ending) Others done) → AllByRecursion FoundSome done
    → done ≡ ended_with call ending ∷ cut.first_is.behind ++ cut.rest
command_first auto call ending Others done cut found =
    let parts = command_parts auto call ending Others done cut in
    let rest = cut.first_is.behind ++ cut.rest in
    let tried = AllByRecursion-cut FoundSome cut.first_is.tries rest (subst (AllByRecursion FoundSome) parts found) in
    parts ∙ ap (λ tries. tries ++ rest) (tries-one call ending cut.first_is.tries cut.first_is.are_tries tried.0)

-- what skips each `work` skips all that a worker makes by itself
behind_skipped : {A : Type 0} (f : List Finished → A)
    → ((d : Finished) (rest : List Finished) → d.call ≡ Work → f (d ∷ rest) ≡ f rest)
    → (asked : Bool) (behind rest : List Finished) → AreBehind asked behind → f (behind ++ rest) ≡ f rest
behind_skipped f skips true [] rest works = absurd works
behind_skipped f skips true (d ∷ []) rest works = skips d rest works.0
behind_skipped f skips true (d ∷ next ∷ behind) rest works =
    skips d (next ∷ behind ++ rest) works.0 ∙ behind_skipped f skips true (next ∷ behind) rest works.2
behind_skipped f skips false behind rest none = ap (λ front. f (front ++ rest)) none

-- what is so of a list is so of its end
pub AllByRecursion-behind : {X : Type 0} (P : X → Type 0) (front rest : List X) → AllByRecursion P (front ++ rest)
    → AllByRecursion P rest
AllByRecursion-behind P [] rest all = all
AllByRecursion-behind P (x ∷ front) rest all = AllByRecursion-behind P front rest all.1

-- no `work` has an entry
entries_of_finished-work : (c : ℕ) (d : Finished) (rest : List Finished) → d.call ≡ Work → entries_of_finished c (d ∷ rest) ≡ entries_of_finished c rest
entries_of_finished-work c d rest is =
    ap (λ call. cond (is_some (port_of call)) (entry_done c d ∷ entries_of_finished c rest) (entries_of_finished c rest)) is

module _ (auto : Bool) where
  -- where no call found that there is no node, their entries are those that the commands tell
  pub entries_of_finished-serves : (c : ℕ) (calls : List Call) (endings : List Ending) (done : List Finished)
      → Serves auto calls endings done → AllByRecursion FoundSome done → entries_of_finished c done ≡ entries_told c calls endings
  entries_of_finished-serves c [] [] done serves found = ap (entries_of_finished c) serves
  entries_of_finished-serves c [] (ending ∷ endings) done serves found = absurd serves
  entries_of_finished-serves c (call ∷ calls) [] done serves found = absurd serves
  entries_of_finished-serves c (call ∷ calls) (ending ∷ endings) done serves found =
      let behind = serves.first_is.behind in
      let first = command_first auto call ending (Serves auto calls endings) done serves found in
      let each : AllByRecursion FoundSome (ended_with call ending ∷ behind ++ serves.rest) = subst (AllByRecursion FoundSome) first found in
      let skips = behind_skipped (entries_of_finished c) (entries_of_finished-work c) (auto && asks_for_work call ending.answer.reply)
      behind serves.rest serves.first_is.works in
      ap (entries_of_finished c) first
      ∙ ap (λ rest. cond (is_some (port_of call)) (entry_done c (ended_with call ending) ∷ rest) rest)
      (skips
      ∙ entries_of_finished-serves c calls endings serves.rest serves.rest_is
      (AllByRecursion-behind FoundSome behind serves.rest each.1))

  -- and what is so of all their replies is so of the replies to the commands
  pub replies-serves : (P : Reply → Type 0) (calls : List Call) (endings : List Ending) (done : List Finished)
      → Serves auto calls endings done → AllByRecursion (λ (d : Finished). P d.reply) done
      → AllByRecursion (λ (e : Ending). P e.answer.reply) endings
  replies-serves P [] [] done serves all = tt
  replies-serves P [] (ending ∷ endings) done serves all = absurd serves
  replies-serves P (call ∷ calls) [] done serves all = absurd serves
  replies-serves P (call ∷ calls) (ending ∷ endings) done serves all =
      let Q : Finished → Type 0 = λ d. P d.reply in
      let tries = serves.first_is.tries in
      let behind = serves.first_is.behind in
      let parts = AllByRecursion-cut Q tries (behind ++ serves.rest)
      (subst (AllByRecursion Q) (command_parts auto call ending (Serves auto calls endings) done serves) all) in (
        tries-last Q call ending tries serves.first_is.are_tries parts.0,
        replies-serves P calls endings serves.rest serves.rest_is (AllByRecursion-behind Q behind serves.rest parts.1),
      )

-- no commands have no entries
pub entries_told-none : (c : ℕ) (calls : List Call) → entries_told c calls [] ≡ []
entries_told-none c [] = refl
entries_told-none c (call ∷ calls) = refl

-- what is so of a list of things made of others is so of what is made of each, and the other way round
pub AllByRecursion-of_map : {X Y : Type 0} (P : Y → Type 0) (f : X → Y) (xs : List X) → AllByRecursion (λ x. P (f x)) xs
    → AllByRecursion P (map f xs)
AllByRecursion-of_map P f [] all = tt
AllByRecursion-of_map P f (x ∷ xs) all = (all.0, AllByRecursion-of_map P f xs all.1)

pub AllByRecursion-in_map : {X Y : Type 0} (P : Y → Type 0) (f : X → Y) (xs : List X) → AllByRecursion P (map f xs)
    → AllByRecursion (λ x. P (f x)) xs
AllByRecursion-in_map P f [] all = tt
AllByRecursion-in_map P f (x ∷ xs) all = (all.0, AllByRecursion-in_map P f xs all.1)

-- ---- histories of one caller

-- where no other caller has an entry, the first one has all
pub all_first : (history : List Entry) → ((c : ℕ) → 0 < c → entries_by c history ≡ []) → entries_by 0 history ≡ history
all_first [] none = refl
all_first (entry ∷ history) none = elim (cases_eq entry.caller 0) [
  | inl own ↦
      let rest = all_first history (λ c more.
      let other : entry.caller ≢ c = (λ same. omega arith) in
      let skips : entries_by c (entry ∷ history) ≡ entries_by c history =
      ap (λ t. cond t (entry ∷ entries_by c history) (entries_by c history)) (ne_eqb entry.caller c other) in
      sym skips ∙ none c more) in
      ap (λ t. cond t (entry ∷ entries_by 0 history) (entries_by 0 history)) (eq-eqb entry.caller 0 own)
      ∙ ap (λ es. entry ∷ es) rest
  | inr other ↦
      let c = entry.caller in
      let has : entries_by c (entry ∷ history) ≡ entry ∷ entries_by c history =
      ap (λ t. cond t (entry ∷ entries_by c history) (entries_by c history)) (eq-eqb c c refl) in
      let empty : entry ∷ entries_by c history ≡ [] = sym has ∙ none c (omega arith) in
      absurd (cc)
]

-- ---- the entries below a number

-- where those of each caller are, all are
pub AllBelow-callers : (n : ℕ) (history : List Numbered) → ((c : ℕ) → AllBelow n (entries_of c history)) → AllBelow n history
AllBelow-callers n [] each = tt
AllBelow-callers n (x ∷ history) each = (here, AllBelow-callers n history (λ c. fewer (x.entry.caller == c) c (each c)))
  where
    fewer : (t : Bool) (c : ℕ) → AllBelow n (cond t (x ∷ entries_of c history) (entries_of c history))
        → AllBelow n (entries_of c history)
    fewer true c below = below.1
    fewer false c below = below

    here : x.number < n
    here =
        let c = x.entry.caller in
        let own : AllBelow n (x ∷ entries_of c history) =
        subst (λ t. AllBelow n (cond t (x ∷ entries_of c history) (entries_of c history))) (eq-eqb c c refl) (each c) in
        own.0

-- a history whose numbers never fall falls in two at any number
pub record IsSplitAt (n : ℕ) (history : List Numbered) : Type 0 where
  pub low : List Numbered
  pub high : List Numbered
  pub is : history ≡ low ++ high
  pub below : AllBelow n low
  pub rising : NeverFalls n high

pub split_at : (n from : ℕ) (history : List Numbered) → NeverFalls from history → IsSplitAt n history
split_at n from [] rising = record { low = []; high = []; is = refl; below = tt; rising = tt }
split_at n from (x ∷ history) rising = elim (cases_lt x.number n) [
  | inl low ↦
      let rest = split_at n x.number history rising.1 in
      record { low = x ∷ rest.low; high = rest.high; is = ap (λ xs. x ∷ xs) rest.is; below = (low, rest.below); rising = rest.rising }
  | inr high ↦ record { low = []; high = x ∷ history; is = refl; below = tt; rising = (high, rising.1) }
]
