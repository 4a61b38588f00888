-- What a tidying has done when it answers: it has given back the nodes that were due, each once, or none.
--
-- A call has three parts, and of each it is shown what comes of it from one of its states on: the giving back, by induction over the
-- words that are found; the asking, behind which comes the giving back or the end; and the loads that are kept, behind which comes the
-- asking. Where a caller was asked and has another word, the word that is kept of it becomes 0. So what is shown of the callers behind it
-- is of other kept words, which are the same for these callers.
use Rattle.std.proofs.Common.{◌≡◌, ◌≢◌, ℕ, zero, suc, ◌+◌, ◌%◌, ◌<◌, ◌≤◌, ◌⊎◌, List, [], ◌∷◌, ◌++◌, length, map, take, get_or, set, append_assoc, append-nil, get_or-set_other, take_all, Bool, true, false, ◌==◌, Option, Some, None, refl, sym, ◌∙◌, ap, subst, inl, inr, arith}
use Rattle.std.specs.Prelude.{nat_lt, if◌then◌else◌}
use Rattle.std.specs.List.{Any, range_with_len}
use Rattle.std.proofs.lemmas.Bool.{ltb-true, ltb-false, eqb-true, eqb-false, cases_eq}
use Rattle.std.proofs.lemmas.List.{take_more_set}
use Rattle.rht_words.specs.declared.geometry.Geometry.{Geometry}
use Rattle.rht_words.specs.declared.machine.Next.TheVariants.{Go, Done}
use Rattle.rht_words.specs.Machines.{Performed, Ran}
use Rattle.rht_model.specs.declared.history.Reply.{Reply}
use Rattle.rht_model.specs.declared.history.Reply.TheVariants.{Clear, Pending}
use Rattle.rht_grace.specs.Batch.{BatchModel, IsBatch, turned, with_word, first_odd}
use Rattle.rht_grace.specs.Tidy.{load_of, give_of, giving, ask, asking, asked_at}
use Rattle.rht_grace.specs.TidyLaws.{Tidied, tidying_ran, ops_of, olds_of, LoadsSection, AreLoads, IsOver, Waits, AnswersRightly, EndsRightly, TidiesRightly}
use Rattle.rht_grace.specs.declared.tidy.TidyAt.{TidyAt}
use Rattle.rht_grace.specs.declared.tidy.TidyAt.TheVariants as at
use Rattle.rht_grace.proofs.BatchNodes.{IsBatch-cleared, IsBatch-with_word, IsBatch-turned}
use Rattle.rht_grace.proofs.OddWords.{IsFirstFrom, first_odd-Some, first_odd-None}
use Rattle.rht_grace.proofs.TidyGiving.{gives, gives_at}
use Rattle.rht_grace.proofs.TidyRuns.{stepped, run_at, goes_on, did, by_step, not_ended, same_end, begun-some}

-- one of some is one of more
any_here : {X : Type 0} (P : X → Type 0) (x : X) (xs : List X) → P x → Any P (x ∷ xs)
any_here P x xs holds = (0, x, omega arith, refl, holds)

any_later : {X : Type 0} (P : X → Type 0) (x : X) (xs : List X) → Any P xs → Any P (x ∷ xs)
any_later P x xs some = (suc some.0, some.1, omega (arith, some.2), some.3, some.4)

any_weaker : {X : Type 0} (P Q : X → Type 0) (xs : List X) → ((x : X) → P x → Q x) → Any P xs → Any Q xs
any_weaker P Q xs implies some = (some.0, some.1, some.2, some.3, implies some.1 some.4)

module _ (g : Geometry) where
  -- ---- asking

  -- the same as of a call, but that only the callers from one on were asked
  record ClearsFrom (nodes kept : List ℕ) (from count : ℕ) (after : BatchModel) (steps : List Performed) :
      Type 0 where
    asking : List Performed
    giving : List Performed
    split : steps ≡ asking ++ giving
    asks : AreLoads g asking
    over : (caller : ℕ) → from ≤ caller → caller < g.callers → IsOver kept asking caller
    gives : ops_of giving ≡ map (give_of g) nodes
    counted : count ≡ length nodes
    none_waits : after.waiting ≡ []

  record WaitsFrom (nodes kept : List ℕ) (from caller word : ℕ) (after : BatchModel) (steps : List Performed) :
      Type 0 where
    from_on : from ≤ caller
    waits : Waits g nodes kept caller word after steps

  abbrev AnswersFrom : List ℕ → List ℕ → ℕ → Reply → BatchModel → List Performed → Type 0
  AnswersFrom nodes kept from (Clear count) after steps = ClearsFrom nodes kept from count after steps
  AnswersFrom nodes kept from (Pending caller word) after steps = WaitsFrom nodes kept from caller word after steps
  AnswersFrom nodes kept from _ after steps = ⊥

  record Asked (batch : BatchModel) (from : ℕ) (end : Tidied) (steps : List Performed) : Type 0 where
    answers : AnswersFrom batch.waiting batch.kept from end.reply end.batch steps
    left : end.batch.fresh ≡ batch.fresh
    sound : IsBatch end.batch
    same : end.batch.geometry ≡ batch.geometry

  abbrev AsksOn : BatchModel → ℕ → Tidied → Ran Tidied → Type 0
  AsksOn batch from end run = run.next ≡ Done end → Asked batch from end run.steps

  -- where no odd word is kept from there on the nodes are given back
  none_odd : (olds : List ℕ) (batch : BatchModel) (from : ℕ) (end : Tidied) → IsBatch batch
      → first_odd batch.kept from ≡ None
      → AsksOn batch from end (goes_on g (giving batch 0) olds)
  none_odd olds batch from end sound none is =
      let gave = gives g olds batch 0 end is in
      let steps = (goes_on g (giving batch 0) olds).steps in
      subst (λ e. Asked batch from e steps) gave.is (record {
        answers = record {
          asking = [];
          giving = steps;
          split = refl;
          asks = tt;
          over = λ caller low there. inl (first_odd-None batch.kept from none caller low);
          gives = gave.ops;
          counted = refl;
          none_waits = refl;
        };
        left = refl;
        sound = IsBatch-cleared batch sound;
        same = refl;
      })

  asking_by : (olds : List ℕ) (batch : BatchModel) (from : ℕ) (end : Tidied) (found : Option ℕ) → IsBatch batch
      → first_odd batch.kept from ≡ found
      → ((caller : ℕ) → first_odd batch.kept from ≡ Some caller
      → AsksOn batch from end (run_at g batch (at.Asking caller) olds))
      → AsksOn batch from end (goes_on g (ask batch found) olds)
  asking_by olds batch from end None sound found later = none_odd olds batch from end sound found
  asking_by olds batch from end (Some caller) sound found later = later caller found

  -- the load of a caller's word, which is none of the others'
  loads_of : (batch : BatchModel) (caller old : ℕ) → caller < g.callers
      → LoadsSection g (did g batch (at.Asking caller) old).op
  loads_of batch caller old there = record { caller = caller; there = there; loads = refl }

  -- A caller had another word than the one that is kept of it, and what is shown of the callers behind it is of kept words where its
  -- own is 0.
  module _ (batch : BatchModel) (from caller old : ℕ) (rest : List Performed)
      (first : IsFirstFrom batch.kept from caller) (there : caller < g.callers)
      (changed : old ≢ get_or batch.kept caller 0) where
    abbrev step : Performed
    step = did g batch (at.Asking caller) old

    abbrev zeroed : List ℕ
    zeroed = set batch.kept caller 0

    other_kept : (other : ℕ) → other ≢ caller → get_or zeroed other 0 ≡ get_or batch.kept other 0
    other_kept other apart = get_or-set_other batch.kept caller other 0 0 apart

    over_now : (asking : List Performed) → IsOver batch.kept (step ∷ asking) caller
    over_now asking =
        inr (any_here (λ s. (s.op ≡ load_of caller) × (s.old ≢ get_or batch.kept caller 0)) step asking (refl, changed))

    over_later : (asking : List Performed) (other : ℕ) → other ≢ caller → IsOver zeroed asking other
        → IsOver batch.kept (step ∷ asking) other
    over_later asking other apart (inl even) =
        inl (subst (λ word. word % 2 ≡ 0) (other_kept other apart) even)
    over_later asking other apart (inr some) =
        inr (any_later (λ s. (s.op ≡ load_of other) × (s.old ≢ get_or batch.kept other 0)) step asking
        (any_weaker (λ s. (s.op ≡ load_of other) × (s.old ≢ get_or zeroed other 0))
        (λ s. (s.op ≡ load_of other) × (s.old ≢ get_or batch.kept other 0)) asking
        (λ s p. (p.0, λ same. p.1 (same ∙ sym (other_kept other apart)))) some))

    over_here : (asking : List Performed)
        → ((other : ℕ) → caller + 1 ≤ other → other < g.callers → IsOver zeroed asking other)
        → (other : ℕ) → from ≤ other → other < g.callers → IsOver batch.kept (step ∷ asking) other
    over_here asking over other low high = elim (cases_eq other caller) [
      | inl same ↦ subst (IsOver batch.kept (step ∷ asking)) (sym same) (over_now asking)
      | inr apart ↦ by_order (cases_lt other caller) apart
    ]
      where
        cases_lt : (a b : ℕ) → (a < b) ⊎ (b ≤ a)
        cases_lt a b = go (nat_lt a b) refl
          where
            go : (low : Bool) → nat_lt a b ≡ low → (a < b) ⊎ (b ≤ a)
            go true is = inl (ltb-true a b is)
            go false is = inr (ltb-false a b is)

        by_order : (other < caller) ⊎ (caller ≤ other) → other ≢ caller → IsOver batch.kept (step ∷ asking) other
        by_order (inl sooner) apart = inl (first.before other low sooner)
        by_order (inr later) apart = over_later asking other apart (over other (omega (arith, later, apart)) high)

    zeroed_own : (words : List ℕ) (at : ℕ) → get_or (set words at 0) at 0 ≡ 0
    zeroed_own [] at = refl
    zeroed_own (word ∷ words) zero = refl
    zeroed_own (word ∷ words) (suc at) = zeroed_own words at

    still_kept : (asking : List Performed) (after : BatchModel) (other : ℕ)
        → (get_or after.kept other 0 ≡ get_or zeroed other 0) ⊎ ((get_or after.kept other 0 ≡ 0) × IsOver zeroed asking other)
        → (get_or after.kept other 0 ≡ get_or batch.kept other 0)
        ⊎ ((get_or after.kept other 0 ≡ 0) × IsOver batch.kept (step ∷ asking) other)
    still_kept asking after other either = elim (cases_eq other caller) [
      | inl same ↦ inr (own same either, subst (IsOver batch.kept (step ∷ asking)) (sym same) (over_now asking))
      | inr apart ↦ elim either [
        | inl is ↦ inl (is ∙ other_kept other apart)
        | inr over ↦ inr (over.0, over_later asking other apart over.1)
      ]
    ]
      where
        own : other ≡ caller → (get_or after.kept other 0 ≡ get_or zeroed other 0) ⊎ ((get_or after.kept other 0 ≡ 0) × IsOver zeroed asking other)
            → get_or after.kept other 0 ≡ 0
        own same (inl is) = is ∙ subst (λ o. get_or zeroed o 0 ≡ 0) (sym same) (zeroed_own batch.kept caller)
        own same (inr over) = over.0

    clears-more : (count : ℕ) (after : BatchModel) → ClearsFrom batch.waiting zeroed (caller + 1) count after rest
        → ClearsFrom batch.waiting batch.kept from count after (step ∷ rest)
    clears-more count after clears = record {
      asking = step ∷ clears.asking;
      giving = clears.giving;
      split = ap (λ steps. step ∷ steps) clears.split;
      asks = (loads_of batch caller old there, clears.asks);
      over = over_here clears.asking clears.over;
      gives = clears.gives;
      counted = clears.counted;
      none_waits = clears.none_waits;
    }

    waits-more : (waited word : ℕ) (after : BatchModel)
        → WaitsFrom batch.waiting zeroed (caller + 1) waited word after rest
        → WaitsFrom batch.waiting batch.kept from waited word after (step ∷ rest)
    waits-more waited word after later =
        let waits = later.waits in
        let apart : waited ≢ caller = (λ same. omega (arith, same, later.from_on)) in
        record {
          from_on = omega (arith, later.from_on, first.from_on);
          waits = record {
            asking = step ∷ waits.asking;
            last = waits.last;
            split = ap (λ steps. step ∷ steps) waits.split;
            asks = (loads_of batch caller old there, waits.asks);
            there = waits.there;
            loads = waits.loads;
            found = waits.found;
            odd = waits.odd;
            was_kept = sym (other_kept waited apart) ∙ waits.was_kept;
            is_kept = waits.is_kept;
            others = λ other high. still_kept waits.asking after other (waits.others other high);
            wait = waits.wait;
          };
        }

    answers-more : (reply : Reply) (after : BatchModel)
        → AnswersFrom batch.waiting zeroed (caller + 1) reply after rest
        → AnswersFrom batch.waiting batch.kept from reply after (step ∷ rest)
    answers-more (Clear count) after clears = clears-more count after clears
    answers-more (Pending waited word) after waits = waits-more waited word after waits
    answers-more _ after never = absurd never

  -- one that has the very word that is kept ends the call
  same_word : (batch : BatchModel) (from caller old : ℕ) (end : Tidied) → IsBatch batch
      → IsFirstFrom batch.kept from caller
      → caller < g.callers
      → old ≡ get_or batch.kept caller 0
      → record { reply = Pending caller old; batch = batch } ≡ end
      → Asked batch from end (did g batch (at.Asking caller) old ∷ [])
  same_word batch from caller old end sound first there same is =
      subst (λ e. Asked batch from e (did g batch (at.Asking caller) old ∷ [])) is (record {
        answers = record {
          from_on = first.from_on;
          waits = record {
            asking = [];
            last = did g batch (at.Asking caller) old;
            split = refl;
            asks = tt;
            there = there;
            loads = refl;
            found = refl;
            odd = subst (λ word. word % 2 ≡ 1) (sym same) first.odd;
            was_kept = sym same;
            is_kept = sym same;
            others = λ other high. inl refl;
            wait = refl;
          };
        };
        left = refl;
        sound = sound;
        same = refl;
      })

  asked_by : (olds : List ℕ) (batch : BatchModel) (from caller old : ℕ) (end : Tidied) (same : Bool) → IsBatch batch
      → IsFirstFrom batch.kept from caller
      → caller < g.callers
      → (old == get_or batch.kept caller 0) ≡ same
      → AsksOn (with_word batch caller 0) (caller + 1) end
      (goes_on g (asking (with_word batch caller 0) (caller + 1)) olds)
      → AsksOn batch from end (stepped (did g batch (at.Asking caller) old) (goes_on g (if same then (batch, at.Asking caller, Done (Pending caller old)) else asking (with_word batch caller 0) (caller + 1)) olds))
  asked_by olds batch from caller old end true sound first there same later is =
      same_word batch from caller old end sound first there (eqb-true old (get_or batch.kept caller 0) same)
      (same_end (record { reply = Pending caller old; batch = batch }) end is)
  asked_by olds batch from caller old end false sound first there other later is =
      let rest = later is in
      record {
        answers = answers-more batch from caller old
            (goes_on g (asking (with_word batch caller 0) (caller + 1)) olds).steps first there
            (eqb-false old (get_or batch.kept caller 0) other) end.reply end.batch rest.answers;
        left = rest.left;
        sound = rest.sound;
        same = rest.same;
      }

  asks_at : (olds : List ℕ) (batch : BatchModel) (from caller : ℕ) (end : Tidied) → IsBatch batch
      → batch.geometry ≡ g
      → first_odd batch.kept from ≡ Some caller
      → AsksOn batch from end (run_at g batch (at.Asking caller) olds)
  asks_at [] batch from caller end sound same found = λ is. absurd (not_ended end is)
  asks_at (old ∷ olds) batch from caller end sound same found =
      let first = first_odd-Some batch.kept from caller found in
      let callers = ap (λ (h : Geometry). h.callers) same in
      let there : caller < g.callers = omega (arith, first.there, sound.callers, callers) in
      let next = with_word batch caller 0 in
      by_step g (AsksOn batch from end) batch (at.Asking caller) old olds
      (asked_by olds batch from caller old end (old == get_or batch.kept caller 0) sound first there refl
      (asking_by olds next (caller + 1) end (first_odd next.kept (caller + 1)) (IsBatch-with_word batch sound caller 0) refl
      (λ later is. asks_at olds next (caller + 1) later end (IsBatch-with_word batch sound caller 0) same is)))

  asks : (olds : List ℕ) (batch : BatchModel) (from : ℕ) (end : Tidied) → IsBatch batch → batch.geometry ≡ g
      → AsksOn batch from end (goes_on g (asking batch from) olds)
  asks olds batch from end sound same =
      asking_by olds batch from end (first_odd batch.kept from) sound refl
      (λ caller found. asks_at olds batch from caller end sound same found)

  -- ---- keeping

  -- the words that are kept in the end: those of the callers before, and those that were found
  record Kept (batch : BatchModel) (caller left : ℕ) (end : Tidied) (steps : List Performed) : Type 0 where
    kept : List ℕ
    keeping : List Performed
    behind : List Performed
    split : steps ≡ keeping ++ behind
    ops : ops_of keeping ≡ map load_of (range_with_len caller left)
    words : kept ≡ take caller batch.kept ++ olds_of keeping
    asked : Asked (record batch { kept = kept }) 0 end behind

  abbrev KeepsOn : BatchModel → ℕ → ℕ → Tidied → Ran Tidied → Type 0
  KeepsOn batch caller left end run = run.next ≡ Done end → Kept batch caller left end run.steps

  keeping_by : (olds : List ℕ) (batch : BatchModel) (caller left : ℕ) (end : Tidied) (more : Bool) → IsBatch batch
      → batch.geometry ≡ g
      → caller + left ≡ g.callers
      → nat_lt caller g.callers ≡ more
      → ((fewer : ℕ) → left ≡ suc fewer → KeepsOn batch caller left end (run_at g batch (at.Keeping caller) olds))
      → KeepsOn batch caller left end (goes_on g (if more then (batch, at.Keeping caller, Go) else asking batch 0) olds)
  keeping_by olds batch caller zero end true sound same sum low later is =
      absurd (omega (arith, ltb-true caller g.callers low, sum))
  keeping_by olds batch caller (suc fewer) end true sound same sum low later is = later fewer refl is
  keeping_by olds batch caller (suc fewer) end false sound same sum past later is =
      absurd (omega (arith, ltb-false caller g.callers past, sum))
  keeping_by olds batch caller zero end false sound same sum past later is =
      let callers = ap (λ (h : Geometry). h.callers) same in
      record {
        kept = batch.kept;
        keeping = [];
        behind = (goes_on g (asking batch 0) olds).steps;
        split = refl;
        ops = refl;
        words = sym (append-nil (take caller batch.kept)
            ∙ take_all caller batch.kept (omega (arith, sum, sound.callers, callers)));
        asked = asks olds batch 0 end sound same is;
      }

  keeps_at : (olds : List ℕ) (batch : BatchModel) (caller fewer : ℕ) (end : Tidied) → IsBatch batch
      → batch.geometry ≡ g
      → caller + suc fewer ≡ g.callers
      → KeepsOn batch caller (suc fewer) end (run_at g batch (at.Keeping caller) olds)
  keeps_at [] batch caller fewer end sound same sum = λ is. absurd (not_ended end is)
  keeps_at (old ∷ olds) batch caller fewer end sound same sum =
      let next = with_word batch caller old in
      let after = IsBatch-with_word batch sound caller old in
      let callers = ap (λ (h : Geometry). h.callers) same in
      by_step g (KeepsOn batch caller (suc fewer) end) batch (at.Keeping caller) old olds
      (λ is. let rest = keeping_by olds next (caller + 1) fewer end (nat_lt (caller + 1) g.callers) after same
      (omega (arith, sum)) refl
      (λ less so. keeps_later olds next (caller + 1) fewer less end after same (omega (arith, sum)) so
      (λ b c f. keeps_at olds b c f end)) is in
      let step = did g batch (at.Keeping caller) old in
      record {
        kept = rest.kept;
        keeping = step ∷ rest.keeping;
        behind = rest.behind;
        split = ap (λ steps. step ∷ steps) rest.split;
        ops = ap (λ ops. load_of caller ∷ ops) rest.ops;
        words = rest.words
            ∙ ap (λ front. front ++ olds_of rest.keeping)
            (take_more_set batch.kept caller old (omega (arith, sum, sound.callers, callers)))
            ∙ append_assoc (take caller batch.kept) (old ∷ []) (olds_of rest.keeping);
        asked = rest.asked;
      })
    where
      keeps_later : (olds : List ℕ) (batch : BatchModel) (caller left fewer : ℕ) (end : Tidied) → IsBatch batch
          → batch.geometry ≡ g
          → caller + left ≡ g.callers
          → left ≡ suc fewer
          → ((b : BatchModel) (c f : ℕ) → IsBatch b → b.geometry ≡ g → c + suc f ≡ g.callers
          → KeepsOn b c (suc f) end (run_at g b (at.Keeping c) olds))
          → KeepsOn batch caller left end (run_at g batch (at.Keeping caller) olds)
      keeps_later olds batch caller left fewer end sound same sum is keeps =
          subst (λ l. KeepsOn batch caller l end (run_at g batch (at.Keeping caller) olds)) (sym is)
          (keeps batch caller fewer sound same (omega (arith, sum, is)))

  -- ---- a call

  -- all callers were asked
  answers_rightly : (nodes kept : List ℕ) (reply : Reply) (after : BatchModel) (steps : List Performed)
      → AnswersFrom nodes kept 0 reply after steps
      → AnswersRightly g nodes kept reply after steps
  answers_rightly nodes kept (Clear count) after steps clears = record {
    asking = clears.asking;
    giving = clears.giving;
    split = clears.split;
    asks = clears.asks;
    over = λ caller there. clears.over caller (omega arith) there;
    gives = clears.gives;
    counted = clears.counted;
    none_waits = clears.none_waits;
  }
  answers_rightly nodes kept (Pending caller word) after steps waits = waits.waits
  answers_rightly nodes kept _ after steps never = absurd never

  -- one that keeps words first, since no node waited
  ends-kept : (fresh kept : List ℕ) (olds : List ℕ) (end : Tidied)
      → IsBatch (record { geometry = g; fresh = fresh; waiting = []; kept = kept })
      → (run_at g (record { geometry = g; fresh = []; waiting = fresh; kept = kept }) (at.Keeping 0) olds).next ≡ Done end
      → EndsRightly (record { geometry = g; fresh = fresh; waiting = []; kept = kept }) end
      (run_at g (record { geometry = g; fresh = []; waiting = fresh; kept = kept }) (at.Keeping 0) olds).steps
  ends-kept fresh kept olds end sound is =
      let batch : BatchModel = record { geometry = g; fresh = fresh; waiting = []; kept = kept } in
      let within = g.within.callers_within in
      let all =
      keeps_from g.callers refl (λ fewer sum. keeps_at olds (turned batch) 0 fewer end (IsBatch-turned batch sound refl)
      refl sum) is in
      record {
        kept = all.kept;
        keeping = all.keeping;
        behind = all.behind;
        split = all.split;
        keeps = (all.ops, all.words);
        answers = answers_rightly fresh all.kept end.reply end.batch all.behind all.asked.answers;
        left = all.asked.left;
        sound = all.asked.sound;
        same = all.asked.same;
      }
    where
      keeps_from : (callers : ℕ) → callers ≡ g.callers
          → ((fewer : ℕ) → 0 + suc fewer ≡ g.callers → KeepsOn (turned (record { geometry = g; fresh = fresh; waiting = []; kept = kept })) 0 (suc fewer) end (run_at g (turned (record { geometry = g; fresh = fresh; waiting = []; kept = kept })) (at.Keeping 0) olds))
          → KeepsOn (turned (record { geometry = g; fresh = fresh; waiting = []; kept = kept })) 0 callers end (run_at g (turned (record { geometry = g; fresh = fresh; waiting = []; kept = kept })) (at.Keeping 0) olds)
      keeps_from zero same keeps = let within = g.within.callers_within in absurd (omega (arith, within.0, same))
      keeps_from (suc fewer) same keeps = keeps fewer (omega (arith, same))

  -- and one that asks first, since some waited
  ends-asked : (batch : BatchModel) (node : ℕ) (nodes : List ℕ) (olds : List ℕ) (end : Tidied) → IsBatch batch
      → batch.geometry ≡ g
      → (found : Option ℕ)
      → first_odd batch.kept 0 ≡ found
      → 0 < length batch.waiting
      → AsksOn batch 0 end (run_at g batch (asked_at found) olds)
  ends-asked batch node nodes olds end sound same (Some caller) found some is =
      asks_at olds batch 0 caller end sound same found is
  ends-asked batch node nodes olds end sound same None found some is =
      let gave = gives_at g olds batch 0 end some is in
      let steps = (run_at g batch (at.Giving 0) olds).steps in
      subst (λ e. Asked batch 0 e steps) gave.is (record {
        answers = record {
          asking = [];
          giving = steps;
          split = refl;
          asks = tt;
          over = λ caller low there. inl (first_odd-None batch.kept 0 found caller low);
          gives = gave.ops;
          counted = refl;
          none_waits = refl;
        };
        left = refl;
        sound = IsBatch-cleared batch sound;
        same = refl;
      })

  ends : (fresh waiting kept : List ℕ) (olds : List ℕ) (end : Tidied)
      → IsBatch (record { geometry = g; fresh = fresh; waiting = waiting; kept = kept })
      → (tidying_ran (record { geometry = g; fresh = fresh; waiting = waiting; kept = kept }) olds).next ≡ Done end
      → EndsRightly (record { geometry = g; fresh = fresh; waiting = waiting; kept = kept }) end
      (tidying_ran (record { geometry = g; fresh = fresh; waiting = waiting; kept = kept }) olds).steps
  ends fresh [] kept olds end sound is = ends-kept fresh kept olds end sound is
  ends fresh (node ∷ nodes) kept olds end sound is =
      let batch : BatchModel = record { geometry = g; fresh = fresh; waiting = node ∷ nodes; kept = kept } in
      subst (λ (b : BatchModel × TidyAt). (run_at g b.0 b.1 olds).next ≡ Done end
      → EndsRightly batch end (run_at g b.0 b.1 olds).steps) (sym (begun-some batch (omega arith)))
      (λ ended. let asked =
      ends-asked batch node nodes olds end sound refl (first_odd kept 0) refl (omega arith) ended in
      record {
        kept = kept;
        keeping = [];
        behind = (run_at g batch (asked_at (first_odd kept 0)) olds).steps;
        split = refl;
        keeps = (refl, refl);
        answers = answers_rightly (node ∷ nodes) kept end.reply end.batch
            (run_at g batch (asked_at (first_odd kept 0)) olds).steps asked.answers;
        left = asked.left;
        sound = asked.sound;
        same = asked.same;
      })
      is

pub tidies_rightly : TidiesRightly
tidies_rightly batch olds end sound is = ends batch.geometry batch.fresh batch.waiting batch.kept olds end sound is
