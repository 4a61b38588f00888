-- A tidying stays in range, whatever word it finds, and works on words of the table.
use Rattle.std.proofs.Common.{◌≡◌, ℕ, zero, suc, ◌+◌, ◌%◌, ◌<◌, ◌≤◌, ◌++◌, length, get_or, ◌==◌, Option, Some, None, refl, sym, ◌∙◌, subst, arith}
use Rattle.std.specs.Prelude.{nat_lt, if◌then◌else◌}
use Rattle.std.specs.List.{AllByRecursion}
use Rattle.std.proofs.lemmas.Bool.{ltb-true, ltb-false}
use Rattle.std.proofs.lemmas.List.{length-set, append-nil}
use Rattle.rht_words.specs.declared.geometry.Geometry.{Geometry}
use Rattle.rht_words.specs.declared.machine.Next.{Next}
use Rattle.rht_words.specs.declared.machine.Next.TheVariants.{Go, Done}
use Rattle.rht_words.specs.Places.{Section}
use Rattle.rht_words.specs.Planned.{IsPlannedIn}
use Rattle.rht_words.proofs.PlannedWords.{planned_load}
use Rattle.rht_words.proofs.EachElement.{AllByRecursion-cut, AllByRecursion-get_or}
use Rattle.rht_model.specs.declared.history.Reply.{Reply}
use Rattle.rht_model.specs.declared.history.Reply.TheVariants.{Clear, Pending}
use Rattle.rht_arena.proofs.NodesPlanned.{planned_give}
use Rattle.rht_grace.specs.Batch.{BatchModel, IsBatch, turned, with_word, cleared, first_odd}
use Rattle.rht_grace.specs.Tidy.{plan_at, after_at, giving, ask, asking, asked_at, begun, IsTidyAtIn}
use Rattle.rht_grace.specs.declared.tidy.TidyAt.{TidyAt}
use Rattle.rht_grace.specs.declared.tidy.TidyAt.TheVariants as at
use Rattle.rht_grace.proofs.BatchNodes.{waiting-most}
use Rattle.rht_grace.proofs.OddWords.{first_odd-Some}
use Rattle.rht_grace.proofs.TidyRuns.{begun-some, begun-none}
use Rattle.rht_ghost.proofs.Theory.Steps.{by_test}
use Rattle.rht_core.specs.Tidyings.{IsTidyPlace, IsTidyingIn}

-- what comes after a state
abbrev pub Came : Type 0
Came = BatchModel × TidyAt × Next Reply

-- ---- the ways on

module _ (So : Came → Type 0) (batch : BatchModel) where
  -- the node at this place is given back next, or there is none
  pub giving-so : (index : ℕ) → (index < length batch.waiting → So (batch, at.Giving index, Go))
      → (length batch.waiting ≤ index → So (cleared batch, at.Keeping 0, Done (Clear (length batch.waiting)))) → So (giving batch index)
  giving-so index more none =
      by_test (λ t. So (if t then (batch, at.Giving index, Go) else (cleared batch, at.Keeping 0, Done (Clear (length batch.waiting)))))
      (nat_lt index (length batch.waiting)) (λ low. more (ltb-true index (length batch.waiting) low))
      (λ past. none (ltb-false index (length batch.waiting) past))

  -- a caller is asked, or nodes are given back from the first one on
  pub asking-so : (from : ℕ)
      → ((caller : ℕ) → caller < length batch.kept → get_or batch.kept caller 0 % 2 ≡ 1 → So (batch, at.Asking caller, Go))
      → (0 < length batch.waiting → So (batch, at.Giving 0, Go))
      → (length batch.waiting ≤ 0 → So (cleared batch, at.Keeping 0, Done (Clear (length batch.waiting)))) → So (asking batch from)
  asking-so from asks more none = go (first_odd batch.kept from) refl
    where
      go : (found : Option ℕ) → first_odd batch.kept from ≡ found → So (ask batch found)
      go None is = giving-so 0 more none
      go (Some caller) is = let odd = first_odd-Some batch.kept from caller is in asks caller odd.there odd.odd

module _ (g : Geometry) where
  abbrev IsRight : Came → Type 0
  IsRight came = IsTidyingIn g came.0 came.1

  some_callers : 0 < g.callers
  some_callers = let within = g.within.callers_within in omega (arith, within.0)

  abbrev Low : ℕ → Type 0
  Low node = node < g.nodes

  -- a batch of the table, with a word for each caller, in a state
  module _ (batch : BatchModel) (same : batch.geometry ≡ g) (among : AllByRecursion Low (batch.fresh ++ batch.waiting))
      (words : length batch.kept ≡ g.callers) where
    right_at : (state : TidyAt) → IsTidyPlace g batch state → IsTidyingIn g batch state
    right_at state at_in = record { same_geometry = same; among = among; words = words; at_in = at_in }

    right_cleared : IsTidyingIn g (cleared batch) (at.Keeping 0)
    right_cleared = record {
      same_geometry = same;
      among = subst (AllByRecursion Low) (sym (append-nil batch.fresh)) (AllByRecursion-cut Low batch.fresh batch.waiting among).0;
      words = words;
      at_in = some_callers;
    }

    giving_right : (index : ℕ) → IsRight (giving batch index)
    giving_right index = giving-so IsRight batch index (λ low. right_at (at.Giving index) low) (λ past. right_cleared)

    asking_right : (from : ℕ) → IsRight (asking batch from)
    asking_right from =
        asking-so IsRight batch from (λ caller there odd. right_at (at.Asking caller) (omega (arith, there, words)))
        (λ low. right_at (at.Giving 0) low) (λ none. right_cleared)

  word_right : (batch : BatchModel) (caller word : ℕ) → length batch.kept ≡ g.callers → length (with_word batch caller word).kept ≡ g.callers
  word_right batch caller word words = length-set batch.kept caller word ∙ words

  -- whatever word it finds
  pub tidying_stays : (batch : BatchModel) (state : TidyAt) (word : ℕ) → IsTidyingIn g batch state → IsRight (after_at g batch state word)
  tidying_stays batch (at.Keeping caller) word within =
      let next = with_word batch caller word in
      let words = word_right batch caller word within.words in
      by_test (λ t. IsRight (if t then (next, at.Keeping (caller + 1), Go) else asking next 0)) (nat_lt (caller + 1) g.callers)
      (λ low. right_at next within.same_geometry within.among words (at.Keeping (caller + 1)) (ltb-true (caller + 1) g.callers low))
      (λ past. asking_right next within.same_geometry within.among words 0)
  tidying_stays batch (at.Asking caller) word within =
      let next = with_word batch caller 0 in
      by_test (λ t. IsRight (if t then (batch, at.Asking caller, Done (Pending caller word)) else asking next (caller + 1)))
      (word == get_or batch.kept caller 0) (λ kept. within)
      (λ other. asking_right next within.same_geometry within.among (word_right batch caller 0 within.words) (caller + 1))
  tidying_stays batch (at.Giving index) word within = giving_right batch within.same_geometry within.among within.words (index + 1)

  -- and where it begins
  pub tidying_begins : (batch : BatchModel) → batch.geometry ≡ g → AllByRecursion Low (batch.fresh ++ batch.waiting)
      → length batch.kept ≡ g.callers
      → IsTidyingIn g (begun batch).0 (begun batch).1
  tidying_begins batch same among words = go (length batch.waiting) refl
    where
      waits : (found : Option ℕ) → first_odd batch.kept 0 ≡ found → 0 < length batch.waiting → IsTidyingIn g batch (asked_at found)
      waits None is some = right_at batch same among words (at.Giving 0) some
      waits (Some caller) is some =
          let odd = first_odd-Some batch.kept 0 caller is in
          let there = odd.there in
          right_at batch same among words (at.Asking caller) (omega (arith, there, words))

      go : (count : ℕ) → length batch.waiting ≡ count → IsTidyingIn g (begun batch).0 (begun batch).1
      go zero none =
          subst (λ (b : BatchModel × TidyAt). IsTidyingIn g b.0 b.1) (sym (begun-none batch none))
          (right_at (turned batch) same (AllByRecursion-cut Low batch.fresh batch.waiting among).0 words (at.Keeping 0) some_callers)
      go (suc count) some =
          subst (λ (b : BatchModel × TidyAt). IsTidyingIn g b.0 b.1) (sym (begun-some batch (omega (arith, some))))
          (waits (first_odd batch.kept 0) refl (omega (arith, some)))

  -- a sound batch's place is that of a node
  pub tidy_at_in : (batch : BatchModel) (state : TidyAt) → IsTidyingIn g batch state → IsBatch batch → IsTidyAtIn batch state
  tidy_at_in batch (at.Keeping caller) within sound = subst (λ (h : Geometry). caller < h.callers) (sym within.same_geometry) within.at_in
  tidy_at_in batch (at.Asking caller) within sound = subst (λ (h : Geometry). caller < h.callers) (sym within.same_geometry) within.at_in
  tidy_at_in batch (at.Giving index) within sound =
      let most = waiting-most batch sound in
      let low = within.at_in in
      (low, omega (arith, low, most))

  -- ---- on which words

  -- the node at a place is the table's
  pub waiting_low : (batch : BatchModel) (state : TidyAt) (index : ℕ) → IsTidyingIn g batch state → get_or batch.waiting index 0 < g.nodes
  waiting_low batch state index within =
      let some = g.within.nodes_within in
      AllByRecursion-get_or Low batch.waiting index 0 (omega (arith, some.0))
      (AllByRecursion-cut Low batch.fresh batch.waiting within.among).1

  pub planned_tidying : (batch : BatchModel) (state : TidyAt) → IsTidyingIn g batch state → IsPlannedIn g (plan_at g batch state)
  planned_tidying batch (at.Keeping caller) within =
      let callers = g.within.callers_within in
      let there = within.at_in in
      planned_load g (Section caller) (omega (arith, there, callers.1)) tt
  planned_tidying batch (at.Asking caller) within =
      let callers = g.within.callers_within in
      let there = within.at_in in
      planned_load g (Section caller) (omega (arith, there, callers.1)) tt
  planned_tidying batch (at.Giving index) within =
      planned_give g (record { geometry = g; node = get_or batch.waiting index 0 })
      (record { geometry_same = refl; node_in = waiting_low batch (at.Giving index) index within })
