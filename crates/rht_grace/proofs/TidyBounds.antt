-- How many operations a tidying makes at most. Of each state it is shown how many are left: one for each node that is still to be given
-- back, one for each caller that may still be asked, and before that one for each caller whose word is still to be kept.
use Rattle.std.proofs.Common.{◌≡◌, ℕ, zero, suc, ◌+◌, ◌-◌, ◌*◌, ◌<◌, ◌≤◌, List, [], ◌∷◌, length, get_or, Bool, true, false, ◌==◌, Option, Some, None, refl, sym, ap, subst, arith}
use Rattle.std.specs.Prelude.{nat_lt, if◌then◌else◌}
use Rattle.std.proofs.lemmas.Bool.{ltb-true}
use Rattle.std.proofs.lemmas.List.{nil_from_length}
use Rattle.rht_words.specs.declared.op.Op.{Op}
use Rattle.rht_words.specs.declared.geometry.Geometry.{Geometry}
use Rattle.rht_words.specs.declared.machine.Next.{Next}
use Rattle.rht_words.specs.declared.machine.Next.TheVariants.{Go, Done}
use Rattle.rht_words.specs.Machines.{Performed, Ran, ran, went_on}
use Rattle.rht_model.specs.declared.history.Reply.TheVariants.{Clear, Pending}
use Rattle.rht_grace.specs.Batch.{BatchModel, IsBatch, turned, with_word, cleared, first_odd}
use Rattle.rht_grace.specs.Tidy.{giving, ask, asking, asked_at, begun, tidy_new, tidy_plan, tidy_after}
use Rattle.rht_grace.specs.TidyLaws.{Tidied, with_batch, TidiesSoon}
use Rattle.rht_grace.specs.declared.tidy.TidyAt.{TidyAt}
use Rattle.rht_grace.specs.declared.tidy.TidyAt.TheVariants as at
use Rattle.rht_grace.proofs.BatchNodes.{IsBatch-with_word, IsBatch-turned, waiting-most}
use Rattle.rht_grace.proofs.OddWords.{first_odd-Some}
use Rattle.rht_grace.proofs.TidyRuns.{stepped, run_at, goes_on, did, by_step, begun-some, begun-none}

-- a machine that goes on has performed as many operations as it was told words
module _ {M R : Type 0} (plan : M → Op) (after : M → ℕ → M × Next R) where
  steps-of_olds : (m : M) (olds : List ℕ) → (ran plan after m olds).next ≡ Go
      → length (ran plan after m olds).steps ≡ length olds
  steps-of_olds m [] goes = refl
  steps-of_olds m (old ∷ olds) goes =
      by_next (record { op = plan m; old = old }) (after m old).1 (ran plan after (after m old).0 olds)
      (λ rest. steps-of_olds (after m old).0 olds rest) goes
    where
      by_next : (step : Performed) (next : Next R) (rest : Ran R) → (rest.next ≡ Go → length rest.steps ≡ length olds)
          → (went_on step next rest).next ≡ Go
          → length (went_on step next rest).steps ≡ length (old ∷ olds)
      by_next step Go rest same goes = let later = same goes in omega (arith, later)
      by_next step (Done answer) rest same goes = absurd (cc)

module _ (g : Geometry) where
  -- so many operations or fewer
  abbrev IsFew : ℕ → Ran Tidied → Type 0
  IsFew most run = length run.steps ≤ most

  -- ---- giving back

  giving_by : (olds : List ℕ) (batch : BatchModel) (index : ℕ) (more : Bool) → nat_lt index (length batch.waiting) ≡ more
      → (index < length batch.waiting → IsFew (length batch.waiting - index) (run_at g batch (at.Giving index) olds))
      → IsFew (length batch.waiting - index) (goes_on g (if more then (batch, at.Giving index, Go) else (cleared batch, at.Keeping 0, Done (Clear (length batch.waiting)))) olds)
  giving_by olds batch index true low later = later (ltb-true index (length batch.waiting) low)
  giving_by olds batch index false past later = omega arith

  gives_at : (olds : List ℕ) (batch : BatchModel) (index : ℕ) → index < length batch.waiting
      → IsFew (length batch.waiting - index) (run_at g batch (at.Giving index) olds)
  gives_at [] batch index low = omega arith
  gives_at (old ∷ olds) batch index low =
      by_step g (IsFew (length batch.waiting - index)) batch (at.Giving index) old olds
      (let rest = giving_by olds batch (index + 1) (nat_lt (index + 1) (length batch.waiting)) refl
      (gives_at olds batch (index + 1)) in
      omega (arith, rest, low))

  gives : (olds : List ℕ) (batch : BatchModel)
      → IsFew (length batch.waiting) (goes_on g (giving batch 0) olds)
  gives olds batch =
      let few = giving_by olds batch 0 (nat_lt 0 (length batch.waiting)) refl (gives_at olds batch 0) in
      omega (arith, few)

  -- ---- asking

  -- one for each caller from this one on, and one for each node
  abbrev asking_left : BatchModel → ℕ → ℕ
  asking_left batch from = (g.callers - from) + length batch.waiting

  asking_by : (olds : List ℕ) (batch : BatchModel) (from : ℕ) (found : Option ℕ) → first_odd batch.kept from ≡ found
      → ((caller : ℕ) → first_odd batch.kept from ≡ Some caller
      → IsFew (asking_left batch from) (run_at g batch (at.Asking caller) olds))
      → IsFew (asking_left batch from) (goes_on g (ask batch found) olds)
  asking_by olds batch from None found later = let few = gives olds batch in omega (arith, few)
  asking_by olds batch from (Some caller) found later = later caller found

  asked_by : (olds : List ℕ) (batch : BatchModel) (from caller old : ℕ) (same : Bool) → from ≤ caller → caller < g.callers
      → IsFew (asking_left batch (caller + 1)) (goes_on g (asking (with_word batch caller 0) (caller + 1)) olds)
      → IsFew (asking_left batch from) (stepped (did g batch (at.Asking caller) old) (goes_on g (if same then (batch, at.Asking caller, Done (Pending caller old)) else asking (with_word batch caller 0) (caller + 1)) olds))
  asked_by olds batch from caller old true low high later = omega (arith, low, high)
  asked_by olds batch from caller old false low high later = omega (arith, low, high, later)

  asks_at : (olds : List ℕ) (batch : BatchModel) (from caller : ℕ) → IsBatch batch → batch.geometry ≡ g
      → first_odd batch.kept from ≡ Some caller
      → IsFew (asking_left batch from) (run_at g batch (at.Asking caller) olds)
  asks_at [] batch from caller sound same found = omega arith
  asks_at (old ∷ olds) batch from caller sound same found =
      let first = first_odd-Some batch.kept from caller found in
      let callers = ap (λ (h : Geometry). h.callers) same in
      let next = with_word batch caller 0 in
      by_step g (IsFew (asking_left batch from)) batch (at.Asking caller) old olds
      (asked_by olds batch from caller old (old == get_or batch.kept caller 0) first.from_on
      (omega (arith, first.there, sound.callers, callers))
      (asking_by olds next (caller + 1) (first_odd next.kept (caller + 1)) refl
      (λ later is. asks_at olds next (caller + 1) later (IsBatch-with_word batch sound caller 0) same is)))

  asks : (olds : List ℕ) (batch : BatchModel) (from : ℕ) → IsBatch batch → batch.geometry ≡ g
      → IsFew (asking_left batch from) (goes_on g (asking batch from) olds)
  asks olds batch from sound same =
      asking_by olds batch from (first_odd batch.kept from) refl
      (λ caller found. asks_at olds batch from caller sound same found)

  -- ---- keeping

  abbrev keeping_left : BatchModel → ℕ → ℕ
  keeping_left batch caller = (g.callers - caller) + g.callers + length batch.waiting

  keeping_by : (olds : List ℕ) (batch : BatchModel) (caller : ℕ) (more : Bool) → IsBatch batch → batch.geometry ≡ g
      → nat_lt caller g.callers ≡ more
      → (caller < g.callers → IsFew (keeping_left batch caller) (run_at g batch (at.Keeping caller) olds))
      → IsFew (keeping_left batch caller) (goes_on g (if more then (batch, at.Keeping caller, Go) else asking batch 0) olds)
  keeping_by olds batch caller true sound same low later = later (ltb-true caller g.callers low)
  keeping_by olds batch caller false sound same past later =
      let few = asks olds batch 0 sound same in omega (arith, few)

  keeps_at : (olds : List ℕ) (batch : BatchModel) (caller : ℕ) → IsBatch batch → batch.geometry ≡ g → caller < g.callers
      → IsFew (keeping_left batch caller) (run_at g batch (at.Keeping caller) olds)
  keeps_at [] batch caller sound same low = omega arith
  keeps_at (old ∷ olds) batch caller sound same low =
      let next = with_word batch caller old in
      let after = IsBatch-with_word batch sound caller old in
      by_step g (IsFew (keeping_left batch caller)) batch (at.Keeping caller) old olds
      (let rest = keeping_by olds next (caller + 1) (nat_lt (caller + 1) g.callers) after same refl
      (λ high. keeps_at olds next (caller + 1) after same high) in
      omega (arith, rest, low))

  -- ---- a call

  begins_few : (olds : List ℕ) (batch : BatchModel) (found : Option ℕ) → IsBatch batch → batch.geometry ≡ g
      → first_odd batch.kept 0 ≡ found
      → 0 < length batch.waiting
      → IsFew (asking_left batch 0) (run_at g batch (asked_at found) olds)
  begins_few olds batch (Some caller) sound same found some = asks_at olds batch 0 caller sound same found
  begins_few olds batch None sound same found some = let few = gives_at olds batch 0 some in omega (arith, few)

  few_in : (olds : List ℕ) (batch : BatchModel) → IsBatch batch → batch.geometry ≡ g → (count : ℕ)
      → length batch.waiting ≡ count
      → IsFew (2 * g.callers + g.nodes) (run_at g (begun batch).0 (begun batch).1 olds)
  few_in olds batch sound same zero none =
      let turned_sound = IsBatch-turned batch sound (nil_from_length batch.waiting none) in
      let nodes = ap (λ (h : Geometry). h.nodes) same in
      let most = waiting-most (turned batch) turned_sound in
      let within = g.within.callers_within in
      let few = keeps_at olds (turned batch) 0 turned_sound same (omega (arith, within.0)) in
      subst (λ (b : BatchModel × TidyAt). IsFew (2 * g.callers + g.nodes) (run_at g b.0 b.1 olds))
      (sym (begun-none batch none)) (omega (arith, few, most, nodes))
  few_in olds batch sound same (suc count) some =
      let nodes = ap (λ (h : Geometry). h.nodes) same in
      let most = waiting-most batch sound in
      let few = begins_few olds batch (first_odd batch.kept 0) sound same refl (omega (arith, some)) in
      subst (λ (b : BatchModel × TidyAt). IsFew (2 * g.callers + g.nodes) (run_at g b.0 b.1 olds))
      (sym (begun-some batch (omega (arith, some)))) (omega (arith, few, most, nodes))

pub tidies_soon : TidiesSoon
tidies_soon batch olds sound =
    let g = batch.geometry in
    let few = few_in g olds batch sound refl (length batch.waiting) refl in
    record {
      few = omega (arith, few);
      ends = λ long goes. let as_many =
          steps-of_olds tidy_plan (λ m word. with_batch (tidy_after m word)) (tidy_new g batch) olds goes in
          absurd (omega (arith, few, long, as_many));
    }
