-- A resizing that no other caller disturbed and that found nothing due leaves a table in which nothing is due.
-- From the opening of its section on its operations are loads, but for those on its section word and the work lock. So all words by which
-- it chose are at its end as it loaded them: the current table, which has no future and so is the only one in force and the last; its shape;
-- and the count, which is that of the ports bound, since nobody is in a call then. And each table that was retired as it began it has given
-- back, since each section word is even meanwhile.
use Rattle.std.proofs.Common.{◌≡◌, ◌≢◌, ℕ, suc, ◌+◌, ◌<◌, ◌≤◌, ◌==◌, Bool, true, false, min, List, [], ◌∷◌, ◌++◌, take, append_assoc, refl, sym, ap, ◌∙◌, subst, inl, inr, arith, ◌%◌}
use Rattle.std.specs.Prelude.{Option, Some, None}
use Rattle.std.specs.List.{AllByRecursion, Contains, Any}
use Rattle.std.proofs.lemmas.Bool.{cases_eq}
use Rattle.std.proofs.lemmas.List.Elements.{All-contains, All-from_recursion, Contains-append_left, Contains-append_right}
use Rattle.rht_words.specs.declared.op.Op.TheVariants.{Load}
use Rattle.rht_words.specs.declared.env.Env.{Env}
use Rattle.rht_words.specs.Links.{table_of, slot_of}
use Rattle.rht_words.specs.Operations.{op_place, word_after}
use Rattle.rht_words.specs.Places.{Address, CurrentTable, WorkLock, PortCount, EnrolledCallers, Section, Slot, ShapeWord, FutureWord, IsAddress, place_of, word_at, StateWord, LoadedSection}
use Rattle.rht_words.specs.Shapes.{unpacked, size_of}
use Rattle.rht_words.proofs.EachElement.{AllByRecursion-append, AllByRecursion-weaker}
use Rattle.rht_words.proofs.PlacesApart.{place_of-apart}
use Rattle.rht_policy.specs.Sizes.{shrunk_size}
use Rattle.rht_policy.specs.Thresholds.{is_above_75}
use Rattle.rht_model.specs.declared.history.Call.TheVariants.{Work}
use Rattle.rht_model.specs.declared.history.Reply.TheVariants.{Elsewhere, Idle, Moved, NoTable}
use Rattle.rht_model.specs.declared.history.Reply.{Reply}
use Rattle.rht_nest.specs.Tables.{is_nested}
use Rattle.rht_move.specs.Choice.{chosen, is_sparse}
use Rattle.rht_move.specs.declared.work.choice.Choice.{Choice}
use Rattle.rht_move.specs.declared.work.choice.Choice.TheVariants as choices
use Rattle.rht_core.specs.declared.event.Event.{Event}
use Rattle.rht_callers.specs.Locals.{is_idle}
use Rattle.rht_core.specs.Alone.{IsQuiet}
use Rattle.rht_stands.specs.StandsFor.{shape_of, tables_from}
use Rattle.rht_core.specs.Runs.{local_of, run_of, IsAdmitted, IsAdmittedEvent}
use Rattle.rht_core.specs.Traces.{Did, Past, traced_of, IsRising, behind_call, behind_steps}
use Rattle.rht_core.specs.Seen.{TurnsSection, words_before}
use Rattle.rht_core.specs.ResizeCauses.{Loaded}
use Rattle.rht_core.specs.WorkCauses.{AreFuturesRead, HasChosen, TakesWorkLock}
use Rattle.rht_core.specs.Worked.{IsSettled, HasReplaced, IsAloneDuring, words_behind, Worked, IsRetired, HaveOthersLeft}
use Rattle.rht_core.specs.Returned.{ReturnsSlot}
use Rattle.rht_core.specs.Replies.{IsReplyTo}
use Rattle.rht_core.proofs.Tracing.StepsInTraces.{rising_around, rising-within}
use Rattle.rht_core.proofs.Reasons.ReturnsSeen.{gave-apart}
use Rattle.rht_core.proofs.Reasons.ChoicesMade.{chosen_by}
use Rattle.rht_core.proofs.Reasons.WorksSeen.{IsBesideTables, IsIdle, SawIdle, IsPublished, SawReplaced, SawForWork}
use Rattle.rht_core.proofs.Reasons.CausesInRuns.{SawOf, past-saw}
use Rattle.rht_core.proofs.Counting.CountedRuns.{counted, at_rest}
use Rattle.rht_core.proofs.Counting.FullTables.{taken}
use Rattle.rht_core.proofs.Histories.LoneResizings.{moved_alone}
use Rattle.rht_core.proofs.Tracing.LoneCalls.{Spares, SparesWithin, steps_rising, begins_before, idle_at_end, loaded_at_end, loaded_at_begin, stored_at_end, same_over}
use Rattle.rht_core.proofs.Histories.ReturnedTables.{gives_retired_back}
use Rattle.rht_core.proofs.Tracing.TracedJobs.{IsEndedSo}
use Rattle.rht_core.proofs.Tracing.RepliesInRuns.{Holds, Answered, runs-right}
use Rattle.rht_core.proofs.Events.SectionsInRuns.{in_no_section}

-- ---- where nothing is due

-- a choice of nothing is one where a table is neither too full nor too empty, and is flat
pub record IsNoneDue (full sparse nested : Bool) : Type 0 where
  pub not_full : full ≡ false
  pub not_sparse : sparse ≡ false
  pub flat : nested ≡ false

pub chosen-none : (size smaller : ℕ) (full sparse alone nested : Bool)
    → chosen size smaller full sparse alone nested ≡ choices.Nothing → IsNoneDue full sparse nested
chosen-none size smaller true sparse alone nested is = absurd (cc)
chosen-none size smaller false true true nested is = absurd (cc)
chosen-none size smaller false true false true is = absurd (cc)
chosen-none size smaller false true false false is = absurd (cc)
chosen-none size smaller false false alone true is = absurd (cc)
chosen-none size smaller false false alone false is = record { not_full = refl; not_sparse = refl; flat = refl }

module _ (env : Env) (c : ℕ) where
  -- ---- which words the operations of such a call leave

  -- the operation is a load
  abbrev IsLoad : Did → Type 0
  IsLoad did = (place : ℕ) × (did.op ≡ Load place)

  loads-spare : (place : ℕ) (steps : List Did) → AllByRecursion IsLoad steps
      → AllByRecursion (Spares place) steps
  loads-spare place [] loads = tt
  loads-spare place (did ∷ steps) loads =
      (inr (ap (word_after did.old) loads.0.1), loads-spare place steps loads.1)

  futures-load : (root last : ℕ) (futures : List Did) → AreFuturesRead env.geometry root last futures
      → AllByRecursion IsLoad futures
  futures-load root last [] read = absurd read
  futures-load root last (did ∷ []) read = ((_, read.0.0.word.loads), tt)
  futures-load root last (did ∷ next ∷ dids) (slot, read, rest) =
      ((_, read.0.word.loads), futures-load slot last (next ∷ dids) rest)

  module _ (steps : List Did) (saw : SawIdle env c steps) where
    abbrev chose : HasChosen env c choices.Nothing steps
    chose = saw.chose

    abbrev idle : IsIdle env c (chosen_by env c choices.Nothing steps chose) chose.behind
    idle = saw.so

    -- those of the call, from the opening of its section on
    abbrev later : List Did
    later = chose.opening ∷ chose.current ∷ (chose.futures ++ chose.shape ∷ chose.count ∷ idle.future ∷ idle.rest)

    all_steps : steps ≡ (chose.lock ∷ chose.sooner) ++ later
    all_steps = chose.split
        ∙ append_assoc (chose.lock ∷ chose.sooner) (chose.opening ∷ chose.current ∷ chose.futures) (chose.shape ∷ chose.count ∷ chose.behind)
        ∙ ap
        (λ behind. (chose.lock ∷ chose.sooner)
        ++ chose.opening ∷ chose.current ∷ (chose.futures ++ chose.shape ∷ chose.count ∷ behind)) idle.behind_is

    -- they leave each word but that of the work lock and those of sections
    later_spare : (address : Address) → IsAddress env.geometry address → address ≢ WorkLock → ((k : ℕ) → address ≢ Section k)
        → AllByRecursion (Spares (place_of env.geometry address)) later
    later_spare address there other outside =
        let place = place_of env.geometry address in
        let rest : AllByRecursion (Spares place) idle.rest =
        AllByRecursion-weaker (IsBesideTables env c) (Spares place) aside idle.rest idle.beside in
        let end : AllByRecursion (Spares place) (chose.shape ∷ chose.count ∷ idle.future ∷ idle.rest) = (
          inr (ap (word_after chose.shape.old) chose.shape_read.word.loads),
          (
            inr (ap (word_after chose.count.old) chose.count_read.word.loads),
            (inr (ap (word_after idle.future.old) idle.future_read.word.loads), rest),
          ),
        ) in
        let futures = AllByRecursion-append (Spares place) chose.futures (chose.shape ∷ chose.count ∷ idle.future ∷ idle.rest)
        (loads-spare place chose.futures (futures-load chose.root chose.last chose.futures chose.futures_read)) end in
        (turned chose.opening chose.opens, (inr (ap (word_after chose.current.old) chose.current_read.word.loads), futures))
      where
        turned : (did : Did) → TurnsSection env.geometry c did → Spares (place_of env.geometry address) did
        turned did turns = inl (λ same. outside c
            (place_of-apart env.geometry address (Section c) there idle.few (sym same ∙ ap op_place turns)))

        aside : (did : Did) → IsBesideTables env c did → Spares (place_of env.geometry address) did
        aside did (inl on) = inl (λ same. other (place_of-apart env.geometry address WorkLock there tt (sym same ∙ on)))
        aside did (inr turns) = turned did turns

    -- and these are among them
    current_there : Contains later chose.current
    current_there = (1, omega arith, refl)

    behind_there : (did : Did) → Contains (chose.shape ∷ chose.count ∷ idle.future ∷ idle.rest) did → Contains later did
    behind_there did there =
        Contains-append_right (chose.opening ∷ chose.current ∷ chose.futures)
        (chose.shape ∷ chose.count ∷ idle.future ∷ idle.rest)
        did there

    future_there : (did : Did) → Contains chose.futures did → Contains later did
    future_there did (number, within, is) =
        Contains-append_left (chose.opening ∷ chose.current ∷ chose.futures)
        (chose.shape ∷ chose.count ∷ idle.future ∷ idle.rest) did (suc (suc number), omega (arith, within), is)

    later_there : (did : Did) → Contains later did → Contains steps did
    later_there did there =
        subst (λ s. Contains s did) (sym all_steps) (Contains-append_right (chose.lock ∷ chose.sooner) later did there)

module _ (M : Type 0) (mix : ℕ → ℕ → ℕ → ℕ) (env : Env) (events : List Event) (c : ℕ) (past : Past)
    (admitted : IsAdmitted events)
    (ended : Contains ((traced_of {M = M} mix env events).traces c).past past)
    (alone : IsAloneDuring M mix env events c past) where
  -- the words before the event with each number
  abbrev words_at : ℕ → List ℕ
  words_at = words_before M mix env events

  -- the words at the end of the call
  abbrev after : List ℕ
  after = (run_of {M = M} mix env (take (behind_call past) events)).core.words

  -- nobody is in a call then
  quiet : IsQuiet M mix env (take (behind_call past) events)
  quiet d = elim (cases_eq d c) [
    | inl same ↦
        subst (λ k. is_idle (local_of (run_of {M = M} mix env (take (behind_call past) events)).core k) ≡ true) (sym same)
        (idle_at_end M mix env events c past admitted ended alone)
    | inr other ↦ alone (behind_call past) d (begins_before M mix env events c past admitted ended alone) (omega arith) other
  ]

  module _ (saw : SawIdle env c past.steps) where
    abbrev found_later : List Did
    found_later = later env c past.steps saw

    -- What it loaded of a word that isn't one of the work lock, the enrolled callers or sections stands there at its end. The operations by
    -- which it gave tables back came before.
    stands : (address : Address) (value : ℕ) (did : Did) → Contains found_later did
        → Loaded env.geometry address value did → address ≢ WorkLock → ((k : ℕ) → address ≢ Section k) → address ≢ EnrolledCallers
        → word_at env.geometry after address ≡ value
    stands address value did there loaded unlocked outside other =
        loaded_at_end M mix env events c past admitted ended alone address value did (later_there env c past.steps saw did there) loaded other
        (subst (AllByRecursion P) (sym split) (AllByRecursion-append P sooner found_later earlier spared))
      where
        P : Did → Type 0
        P d = did.index ≤ d.index → d.index < behind_call past → Spares (place_of env.geometry address) d

        sooner : List Did
        sooner = saw.chose.lock ∷ saw.chose.sooner

        opening : Did
        opening = saw.chose.opening

        behind : List Did
        behind = saw.chose.current ∷ (saw.chose.futures ++ saw.chose.shape ∷ saw.chose.count ∷ saw.so.future ∷ saw.so.rest)

        split : past.steps ≡ sooner ++ found_later
        split = all_steps env c past.steps saw

        around : AllByRecursion (λ (d : Did). d.index < opening.index) sooner
            × AllByRecursion (λ (d : Did). opening.index < d.index) behind
        around =
            rising_around (past.begin + 1) sooner opening behind
            (subst (IsRising (past.begin + 1)) split (steps_rising M mix env events c past admitted ended alone))

        low : opening.index ≤ did.index
        low =
            let From : Did → Type 0 = λ d. opening.index ≤ d.index in
            let rest = AllByRecursion-weaker (λ (d : Did). opening.index < d.index) From (λ d more. omega (arith, more)) behind around.1 in
            All-contains From found_later did (All-from_recursion From found_later (omega arith, rest)) there

        earlier : AllByRecursion P sooner
        earlier =
            AllByRecursion-weaker (λ (d : Did). d.index < opening.index) P
            (λ d less first last. absurd (omega (arith, less, low, first))) sooner around.0

        spared : AllByRecursion P found_later
        spared =
            AllByRecursion-weaker (Spares (place_of env.geometry address)) P (λ d spares first last. spares) found_later
            (later_spare env c past.steps saw address loaded.word.there unlocked outside)

    abbrev root : ℕ
    root = saw.chose.root

    abbrev found_idle : IsIdle env c (chosen_by env c choices.Nothing past.steps saw.chose) saw.chose.behind
    found_idle = saw.so

    -- the current table's future, loaded last
    no_future : slot_of (word_at env.geometry after (Slot root FutureWord)) ≡ None
    no_future =
        ap slot_of
        (stands (Slot root FutureWord) found_idle.future.old found_idle.future
        (behind_there env c past.steps saw found_idle.future (2, omega arith, refl)) found_idle.future_read (λ e. cc) (λ k e. cc) (λ e. cc))
        ∙ found_idle.none

    -- so the search for the last table ended at the current one
    ends_there : (last : ℕ) (futures : List Did) → AreFuturesRead env.geometry root last futures
        → ((did : Did) → Contains futures did → Contains found_later did) → root ≡ last
    ends_there last [] read among = absurd read
    ends_there last (did ∷ []) read among = read.1
    ends_there last (did ∷ next ∷ dids) (slot, read, rest) among =
        let same = stands (Slot root FutureWord) did.old did (among did (0, omega arith, refl)) read.0 (λ e. cc) (λ k e. cc) (λ e. cc) in
        let both : ◌≡◌ {A = Option ℕ} None (Some slot) = sym no_future ∙ ap slot_of same ∙ read.1 in
        absurd (cc)

    last_is : root ≡ saw.chose.last
    last_is = ends_there saw.chose.last saw.chose.futures saw.chose.futures_read (future_there env c past.steps saw)

    -- what is due where so many ports are bound, in a table of this shape that is the only one
    abbrev choice_with : ℕ → ℕ → Choice
    choice_with shape ports =
        let size = size_of (unpacked shape) in
        chosen size (shrunk_size ports env.config.min) (is_above_75 ports size env.config.max) (is_sparse env ports size)
        (root == saw.chose.last) (is_nested shape)

    settled : IsSettled env after
    settled =
        let chose = saw.chose in
        let g = env.geometry in
        let before = taken IsAdmittedEvent (behind_call past) events admitted in
        let rest = at_rest M mix env (take (behind_call past) events) before quiet in
        let few = (counted M mix env (take (behind_call past) events) before).few in
        let most = env.geometry.within.nodes_within.1 in
        let ports = word_at g after PortCount in
        let counts : ports ≡ chose.count.old =
        stands PortCount chose.count.old chose.count (behind_there env c past.steps saw chose.count (1, omega arith, refl))
        chose.count_read (λ e. cc) (λ k e. cc) (λ e. cc) in
        let clamp : min chose.count.old 65536 ≡ ports = omega (arith, few, most, counts) in
        let current : table_of (word_at g after CurrentTable) ≡ root =
        ap table_of (stands CurrentTable chose.current.old chose.current (current_there env c past.steps saw) chose.current_read
        (λ e. cc) (λ k e. cc) (λ e. cc)) ∙ chose.root_is in
        let shape : shape_of g after root ≡ chose.shape.old =
        ap (λ s. word_at g after (Slot s ShapeWord)) last_is
        ∙ stands (Slot chose.last ShapeWord) chose.shape.old chose.shape
        (behind_there env c past.steps saw chose.shape (0, omega arith, refl)) chose.shape_read (λ e. cc) (λ k e. cc) (λ e. cc) in
        let size = size_of (unpacked (shape_of g after root)) in
        let none : IsNoneDue (is_above_75 ports size env.config.max) (is_sparse env ports size) (is_nested (shape_of g after root)) =
        chosen-none size (shrunk_size ports env.config.min) (is_above_75 ports size env.config.max) (is_sparse env ports size)
        (root == chose.last) (is_nested (shape_of g after root))
        (ap (λ s. choice_with s ports) shape
        ∙ ap (choice_with chose.shape.old) (sym clamp) ∙ chose.chosen) in
        record {
          ports = ports;
          bound = rest.counted;
          table = root;
          alone =
              ap (λ t. tables_from g after 8 (Some t)) current
              ∙ ap (λ next. root ∷ tables_from g after 7 next) no_future;
          flat = none.flat;
          not_full = none.not_full;
          not_sparse = none.not_sparse;
          unlocked = rest.none_held.no_work;
        }

  -- ---- another table

  module _ (again : Bool) (saw : SawReplaced env c again past.steps) where
    abbrev chosen_then : HasChosen env c saw.choice past.steps
    chosen_then = saw.since.chose

    abbrev published : IsPublished env c (chosen_by env c saw.choice past.steps chosen_then) chosen_then.behind
    published = saw.since.so.published

    abbrev lock : Did
    lock = chosen_then.lock

    -- what came before its section was opened
    abbrev sooner : List Did
    sooner = lock ∷ chosen_then.sooner

    abbrev opening : Did
    opening = chosen_then.opening

    abbrev current : Did
    current = chosen_then.current

    abbrev at : Did
    at = published.published.at

    -- what came behind the load of the current table, and what before the store of another one
    abbrev rest : List Did
    rest = chosen_then.futures ++ chosen_then.shape ∷ chosen_then.count ∷ chosen_then.behind

    abbrev before : List Did
    before = (sooner ++ (opening ∷ current ∷ chosen_then.futures)) ++ chosen_then.shape ∷ chosen_then.count ∷ published.published.before

    from_load : past.steps ≡ (sooner ++ opening ∷ []) ++ current ∷ rest
    from_load = chosen_then.split
        ∙ append_assoc sooner (opening ∷ current ∷ chosen_then.futures) (chosen_then.shape ∷ chosen_then.count ∷ chosen_then.behind)
        ∙ sym (append_assoc sooner (opening ∷ []) (current ∷ rest))

    to_store : past.steps ≡ before ++ at ∷ published.later
    to_store =
        let chose = chosen_then in
        let front = sooner ++ (opening ∷ current ∷ chose.futures) in
        chose.split ∙ ap (λ behind. front ++ chose.shape ∷ chose.count ∷ behind) published.published.split
        ∙ sym (append_assoc front (chose.shape ∷ chose.count ∷ published.published.before) (at ∷ published.later))

    stored_there : Contains past.steps at
    stored_there =
        subst (λ s. Contains s at) (sym to_store)
        (Contains-append_right before (at ∷ published.later) at (0, omega arith, refl))

    loaded_there : Contains past.steps current
    loaded_there =
        subst (λ s. Contains s current) (sym from_load)
        (Contains-append_right (sooner ++ opening ∷ []) (current ∷ rest) current (0, omega arith, refl))

    abbrev place : ℕ
    place = place_of env.geometry CurrentTable

    abbrev Leaves : ℕ → ℕ → Did → Type 0
    Leaves from to did = SparesWithin M mix env events c past admitted ended alone place from to did

    -- no operation stores which table is the current one before this is loaded
    none_before : AllByRecursion (Leaves past.begin current.index) past.steps
    none_before =
        let rising = rising_around (past.begin + 1) (sooner ++ opening ∷ []) current rest
        (subst (IsRising (past.begin + 1)) from_load (steps_rising M mix env events c past admitted ended alone)) in
        let P = Leaves past.begin current.index in
        let later : AllByRecursion P rest =
        AllByRecursion-weaker (λ (d : Did). current.index < d.index) P (λ d more first last. absurd (omega (arith, more, last)))
        rest rising.1 in
        let here : P current = λ first last. absurd (omega (arith, last)) in
        let first : P lock = λ from to. inl
        (λ same. let both = sym (ap op_place chosen_then.took.tries) ∙ same in absurd (omega (arith, both))) in
        let second : P opening = λ from to. inl
        (λ same. let both = sym (ap op_place chosen_then.opens) ∙ same in absurd (omega (arith, both))) in
        let gave : AllByRecursion P chosen_then.sooner =
        AllByRecursion-weaker (λ (d : Did). op_place d.op ≢ place) P (λ d apart from to. inl apart) chosen_then.sooner
        (gave-apart env.geometry chosen_then.sooner saw.since.gave) in
        subst (AllByRecursion P) (sym from_load)
        (AllByRecursion-append P (sooner ++ opening ∷ []) (current ∷ rest)
        (AllByRecursion-append P sooner (opening ∷ []) (first, gave) (second, tt)) (here, later))

    -- nor behind the store
    none_behind : AllByRecursion (Leaves (at.index + 1) (behind_call past)) past.steps
    none_behind =
        let rising = rising_around (past.begin + 1) before at published.later
        (subst (IsRising (past.begin + 1)) to_store (steps_rising M mix env events c past admitted ended alone)) in
        let P = Leaves (at.index + 1) (behind_call past) in
        let earlier : AllByRecursion P before =
        AllByRecursion-weaker (λ (d : Did). d.index < at.index) P (λ d less first last. absurd (omega (arith, less, first)))
        before rising.0 in
        let here : P at = λ first last. absurd (omega (arith, first)) in
        let behind : AllByRecursion P published.later =
        AllByRecursion-weaker (Spares place) P (λ d spares first last. spares) published.later published.leave in
        subst (AllByRecursion P) (sym to_store) (AllByRecursion-append P before (at ∷ published.later) earlier (here, behind))

    replaced : HasReplaced env.geometry past.steps (words_behind M mix env events past.begin) after
    replaced =
        let (number, within, is) = stored_there in
        let stored = published.published.stored in
        let now = stored_at_end M mix env events c past admitted ended alone CurrentTable published.table at stored_there tt
        stored.stores (λ e. cc) none_behind in
        let was = loaded_at_begin M mix env events c past admitted ended alone CurrentTable current.old current loaded_there
        chosen_then.current_read (λ e. cc) none_before in
        let table_in = stored.table_in in
        record {
          table = published.table;
          stored = (number, at, within, is, stored);
          current = ap table_of now ∙ omega (arith, table_in);
          another = λ same. published.another (sym chosen_then.root_is ∙ sym (ap table_of was) ∙ same);
        }

  -- what the operations of the call show
  saw_work : past.done.call ≡ Work → SawForWork env c words_at past.done.reply past.steps
  saw_work is =
      let calls = ((traced_of {M = M} mix env events).traces c).past in
      let P = λ (p : Past). SawOf env c words_at mix p.done.call p.done.reply p.steps in
      subst (λ call. SawOf env c words_at mix call past.done.reply past.steps) is
      (All-contains P calls past (All-from_recursion P calls (past-saw M mix env events c admitted)) ended)

  -- ---- retired tables

  replies_right : past.done.call ≡ Work → IsReplyTo Work past.done.reply
  replies_right is =
      let calls = ((traced_of {M = M} mix env events).traces c).past in
      let P = IsEndedSo M mix env (Holds M mix env) (Answered M mix env) in
      subst (λ call. IsReplyTo call past.done.reply) is
      (All-contains P calls past (All-from_recursion P calls (runs-right M mix env events c admitted).past) ended).reply

  -- the first of its operations took the work lock
  record HasTaken (steps : List Did) : Type 0 where
    lock : Did
    behind : List Did
    first : steps ≡ lock ∷ behind
    took : TakesWorkLock env.geometry lock

  chosen_first : (choice : Choice) (steps : List Did) → HasChosen env c choice steps → HasTaken steps
  chosen_first choice steps chose = record {
    lock = chose.lock;
    behind = (chose.sooner ++ (chose.opening ∷ chose.current ∷ chose.futures)) ++ chose.shape ∷ chose.count ∷ chose.behind;
    first = chose.split;
    took = chose.took;
  }

  -- but for one that found another caller at work
  works_first : (reply : Reply) → IsReplyTo Work reply → SawForWork env c words_at reply past.steps → reply ≢ Elsewhere → HasTaken past.steps
  works_first Elsewhere right saw other = absurd (other refl)
  works_first (NoTable size) right saw other = chosen_first (choices.Attach size) past.steps saw.chose
  works_first Idle right saw other = chosen_first choices.Nothing past.steps saw.chose
  works_first (Moved again) right saw other = elim saw [
    | inl has ↦ chosen_first has.choice past.steps has.since.chose
    | inr stops ↦ chosen_first stops.choice past.steps stops.chose
  ]
  works_first _ right saw other = absurd right

  module _ (work : past.done.call ≡ Work) (slot : ℕ) (retired : IsRetired env.geometry (words_behind M mix env events past.begin) slot)
      (first : HasTaken past.steps) where
    rising : IsRising (past.begin + 1) (first.lock ∷ first.behind)
    rising = subst (IsRising (past.begin + 1)) first.first (steps_rising M mix env events c past admitted ended alone)

    -- it was still retired as the work lock was taken
    retired_then : IsRetired env.geometry (words_behind M mix env events first.lock.index) slot
    retired_then =
        let place = place_of env.geometry (Slot slot StateWord) in
        let low = rising.0 in
        let lies = rising-within (past.begin + 1) (first.lock ∷ first.behind) rising in
        let high = lies.0.1 in
        let end : behind_steps (past.begin + 1) (first.lock ∷ first.behind) ≡ behind_call past =
        ap (behind_steps (past.begin + 1)) (sym first.first) in
        let P = SparesWithin M mix env events c past admitted ended alone place past.begin first.lock.index in
        let none : AllByRecursion P (first.lock ∷ first.behind) =
        AllByRecursion-weaker (λ (d : Did). first.lock.index ≤ d.index) P (λ d more from to. absurd (omega (arith, more, to)))
        (first.lock ∷ first.behind) (
          omega arith,
          AllByRecursion-weaker (λ (d : Did). first.lock.index < d.index) (λ (d : Did). first.lock.index ≤ d.index)
              (λ d more. omega (arith, more)) first.behind (rising_around (past.begin + 1) [] first.lock first.behind rising).1,
        ) in (
          retired.0,
          sym (same_over M mix env events c past admitted ended alone place past.begin first.lock.index (omega arith)
              (omega (arith, high, end)) (subst (AllByRecursion P) (sym first.first) none)
              (λ same. omega (arith, same)) (omega (arith, low)))
              ∙ retired.1,
        )

    -- nobody else is in a section
    others_left : (index : ℕ) → first.lock.index ≤ index → index ≤ behind_call past
        → HaveOthersLeft env.geometry (words_behind M mix env events index) c slot
    others_left index from upto other low ne =
        let low_index = rising.0 in
        let g = env.geometry in
        let words = words_behind M mix env events index in
        let before = taken IsAdmittedEvent index events admitted in
        let even = in_no_section env mix M (take index events) before other low (alone index other (omega (arith, from, low_index)) upto ne) in
        elim (cases_eq (word_at g words (Slot slot (LoadedSection other)) % 2) 0) [
          | inl kept_even ↦ inl kept_even
          | inr odd ↦ inr (λ same. odd (ap (λ w. w % 2) (sym same) ∙ even))
        ]

    returned_alone : Any (ReturnsSlot env.geometry slot) past.steps
    returned_alone =
        gives_retired_back M mix env events c slot past admitted ended work (record {
          lock = first.lock;
          behind = first.behind;
          first = first.first;
          took = first.took;
          retired = retired_then;
          left = others_left;
        })

pub worked : (M : Type 0) (mix : ℕ → ℕ → ℕ → ℕ) → Worked M mix
worked M mix env events c past admitted ended work alone =
    let saw = saw_work M mix env events c past admitted ended alone work in
    record {
      idle = λ is. settled M mix env events c past admitted ended alone
          (subst (λ reply. SawForWork env c (words_before M mix env events) reply past.steps) is saw);
      moved = λ again is. replaced M mix env events c past admitted ended alone again
          (moved_alone M mix env events c past admitted ended alone work again is);
      returned = λ other slot retired.
          returned_alone M mix env events c past admitted ended alone work slot retired
          (works_first M mix env events c past admitted ended alone past.done.reply
          (replies_right M mix env events c past admitted ended alone work) saw other);
    }
