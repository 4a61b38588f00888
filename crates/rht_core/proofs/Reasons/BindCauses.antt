-- Why each reply of a bind has its cause: by what its operations saw.
--
-- How the run stood at the event of an operation that loaded or raised the count of ports follows from the
-- law that each recorded operation stands in the run at its event. The count is at most the nodes there, so
-- the clamp under which a bind looks at it has changed nothing.
use Rattle.std.proofs.Common.{◌≡◌, ◌⊎◌, ℕ, ◌+◌, Bool, true, false, ◌↔◌, List, [], ◌∷◌, ◌++◌, min, refl, sym, ap, ◌∙◌, subst, inl, inr, arith, append_assoc}
use Rattle.std.specs.List.{AllByRecursion, Any}
use Rattle.std.proofs.lemmas.Bool.{leb-false}
use Rattle.std.proofs.lemmas.List.Elements.{All-from_recursion}
use Rattle.std.proofs.lemmas.List.Quantifiers.{Any-push}
use Rattle.rht_words.specs.declared.op.Op.TheVariants.{Load}
use Rattle.rht_words.specs.declared.env.Env.{Env}
use Rattle.rht_words.specs.declared.config.Kind.TheVariants.{Single, Listed}
use Rattle.rht_words.specs.Places.{PortCount, Slot, FutureWord, place_of}
use Rattle.rht_words.proofs.EachElement.{Any-append_left, AllByRecursion-cut}
use Rattle.rht_policy.specs.Thresholds.{is_above_75, is_above_100, is_above_max}
use Rattle.rht_policy.specs.Sizes.{most_ports}
use Rattle.rht_words.specs.Shapes.{unpacked, size_of}
use Rattle.rht_model.specs.declared.history.Reply.{Reply}
use Rattle.rht_model.specs.declared.history.Reply.TheVariants.{Bound, Exists, TooBig, Again, Busy, NoTable, NoNode}
use Rattle.rht_bind.specs.declared.bind.growth.Full.{Full}
use Rattle.rht_bind.specs.declared.bind.growth.Full.TheVariants as full
use Rattle.rht_core.specs.declared.event.Event.{Event}
use Rattle.rht_core.specs.Traces.{Did, Past, IsRising}
use Rattle.rht_core.specs.Runs.{IsAdmitted}
use Rattle.rht_core.specs.Laws.{IsRecorded}
use Rattle.rht_core.specs.Seen.{words_before}
use Rattle.rht_core.specs.ResizeCauses.{Loaded, AttachesSome, wanted_size, SawCrowded, WalkedFull}
use Rattle.rht_core.specs.RoomCauses.{SawRoom, HadRoom}
use Rattle.rht_core.specs.Causes.{IsRaise, IsDueBy, KicksRightly, SawTooBig, BindCause}
use Rattle.rht_core.proofs.Counting.FullTables.{counted_at}
use Rattle.rht_core.proofs.Reasons.AttachedTables.{IsNoAttach, AttachedSo}
use Rattle.rht_core.proofs.Reasons.RefusedBinds.{SawCrowd, SawWhy, SawOther, SawFullUp, Settled, IsFollowing}
use Rattle.rht_core.proofs.Counting.CountedNodes.{raise_few, load_few}
use Rattle.rht_core.proofs.Reasons.BindsSeen.{TooBigSeen, SawFor}
use Rattle.rht_core.proofs.Reasons.RaisesSeen.{Raised, due_by, SaysOfRaise}
use Rattle.rht_core.proofs.Reasons.RoomSeen.{LoadedRoom, some-raised}
use Rattle.rht_core.proofs.Reasons.TablesWalked.{IsNoRaise}
use Rattle.rht_core.proofs.Reasons.PagesMissed.{no_page-cause}

module _ (M : Type 0) (mix : ℕ → ℕ → ℕ → ℕ) (env : Env) (events : List Event) (c : ℕ)
    (admitted : IsAdmitted events) where
  -- the words before the event with each number
  abbrev words_at : ℕ → List ℕ
  words_at = words_before M mix env events

  abbrev IsRecordedHere : Did → Type 0
  IsRecordedHere did = IsRecorded M mix env events c did

  -- those behind one of them were recorded, and so was the one there that others come before and behind
  recorded_at : (steps before behind : List Did) (at : Did) → steps ≡ before ++ at ∷ behind → AllByRecursion IsRecordedHere steps
      → AllByRecursion IsRecordedHere before × IsRecordedHere at × AllByRecursion IsRecordedHere behind
  recorded_at steps before behind at split recorded =
      let parts = AllByRecursion-cut IsRecordedHere before (at ∷ behind) (subst (AllByRecursion IsRecordedHere) split recorded) in
      (parts.0, parts.1.0, parts.1.1)

  -- how the run stood at the event is known of each operation
  too_big : (port count : ℕ) (steps : List Did) → AllByRecursion IsRecordedHere steps
      → TooBigSeen env words_at mix port count steps → SawTooBig M mix env events c port count steps
  too_big port count steps recorded saw =
      let walked = saw.walked in
      let behind = (recorded_at steps walked.before walked.behind walked.at walked.split recorded).2 in
      let was = (recorded_at walked.behind saw.before saw.rest saw.at saw.split behind).1 in
      let full = saw.full in
      record {
        table = saw.table;
        shape = saw.shape;
        walked = walked;
        before = saw.before;
        at = saw.at;
        rest = saw.rest;
        split = saw.split;
        inside = saw.inside;
        unbound = saw.unbound;
        full = record {
          loaded = full.loaded;
          found = full.found;
          full = full.full;
          counted = counted_at M mix env events c count saw.at admitted full.loaded full.found was;
        };
      }

  -- no clamp of the count has changed whether the table is due
  kicked : (port : ℕ) (kick : Bool) (steps : List Did) → AllByRecursion IsRecordedHere steps
      → Raised env words_at mix port kick steps
      → KicksRightly env kick steps
  kicked port kick steps recorded raised =
      let walked = raised.walked in
      let shape = raised.shape in
      let behind = AllByRecursion-cut IsRecordedHere walked.before (walked.at ∷ walked.behind)
      (subst (AllByRecursion IsRecordedHere) walked.split recorded) in
      record {
        table = raised.table;
        shape = shape;
        walked = walked;
        unraised = raised.unraised;
        kicks = so_kicks raised.attached raised.so shape walked.behind behind.1.1 raised.each some;
        raised = λ single. elim some [
          | inl any ↦ any
          | inr none ↦ absurd (let both : Single ≡ Listed = sym single ∙ none.1 in cc)
        ];
      }
    where
      some : Any (IsRaise env.geometry) raised.walked.behind ⊎ ((kick ≡ raised.attached) × (env.config.kind ≡ Listed))
      some = elim raised.some [
        | inl seen ↦ inl (some-raised env words_at mix port raised.table raised.shape raised.walked.behind seen)
        | inr nothing ↦ inr (nothing.same, nothing.listed)
      ]

      unclamped : (shape : ℕ) (did : Did) → IsRecordedHere did → IsRaise env.geometry did
          → due_by env words_at shape did.old
          ≡ is_above_75 (did.old + 1) (size_of (unpacked shape)) env.config.max
      unclamped shape did was adds =
          let few = raise_few env mix M events c did admitted adds was in
          let most = env.geometry.within.nodes_within.1 in
          let same : min did.old 65535 ≡ did.old = omega (arith, few, most) in
          ap (λ count. is_above_75 (count + 1) (size_of (unpacked shape)) env.config.max) same

      due : (shape : ℕ) (steps : List Did) → AllByRecursion IsRecordedHere steps
          → AllByRecursion (SaysOfRaise env words_at false shape kick) steps → kick ≡ true
          → Any (IsRaise env.geometry) steps
          → Any (IsDueBy env shape) steps
      due shape steps recorded each is (k, did, within, at_k, adds) =
          let was = subst IsRecordedHere at_k (All-from_recursion IsRecordedHere steps recorded k did
          within) in
          let says = subst (SaysOfRaise env words_at false shape kick) at_k
          (All-from_recursion (SaysOfRaise env words_at false shape kick) steps each k did within) in (
            k,
            did,
            within,
            at_k,
            record {
              raised = adds;
              due = sym (unclamped shape did was adds) ∙
                  sym (says adds) ∙ is;
            },
          )

      by_due : (shape : ℕ) (steps : List Did) → AllByRecursion IsRecordedHere steps
          → AllByRecursion (SaysOfRaise env words_at false shape kick) steps → Any (IsDueBy env shape) steps
          → kick ≡ true
      by_due shape steps recorded each (k, did, within, at_k, by) =
          let was = subst IsRecordedHere at_k (All-from_recursion IsRecordedHere steps recorded k did
          within) in
          let says = subst (SaysOfRaise env words_at false shape kick) at_k
          (All-from_recursion (SaysOfRaise env words_at false shape kick) steps each k did within) in
          says by.raised ∙ unclamped shape did was by.raised ∙ by.due

      -- a bind that has attached a table says so, whatever it raises
      by_raise : (shape : ℕ) (steps : List Did)
          → AllByRecursion (SaysOfRaise env words_at true shape kick) steps
          → Any (IsRaise env.geometry) steps → kick ≡ true
      by_raise shape steps each (k, did, within, at_k, adds) =
          subst (SaysOfRaise env words_at true shape kick) at_k
          (All-from_recursion (SaysOfRaise env words_at true shape kick) steps each k did within) adds

      none_attached : AllByRecursion (IsNoAttach env.geometry) steps
          → Any (AttachesSome env.geometry) steps → ⊥
      none_attached none (k, did, within, at_k, attaches) =
          subst (IsNoAttach env.geometry) at_k
          (All-from_recursion (IsNoAttach env.geometry) steps none k did within) attaches

      so_kicks : (attached : Bool) → AttachedSo env.geometry attached steps → (shape : ℕ) (behind : List Did)
          → AllByRecursion IsRecordedHere behind
          → AllByRecursion (SaysOfRaise env words_at attached shape kick) behind
          → (Any (IsRaise env.geometry) behind ⊎ ((kick ≡ attached) × (env.config.kind ≡ Listed)))
          → (kick ≡ true) ↔ (Any (AttachesSome env.geometry) steps ⊎ Any (IsDueBy env shape) behind)
      so_kicks true so shape behind were each some = (
        λ is. inl so,
        λ either. elim some [
          | inl any ↦ by_raise shape behind each any
          | inr none ↦ none.0
        ],
      )
      so_kicks false so shape behind were each some = (
        (λ is. inr (elim some [
          | inl any ↦ due shape behind were each is any
          | inr none ↦ absurd (let both : true ≡ false = sym is ∙ none.0 in cc)
        ])),
        λ either. elim either [
          | inl any ↦ absurd (none_attached so any)
          | inr any ↦ by_due shape behind were each any
        ],
      )

  -- no clamp has changed a count that was loaded
  pub unclamped : (did : Did) → IsRecordedHere did → did.op ≡ Load (place_of env.geometry PortCount)
      → min did.old 65536 ≡ did.old
  unclamped did was loads =
      let few = load_few env mix M events c did admitted loads was in
      let most = env.geometry.within.nodes_within.1 in
      omega (arith, few, most)

  unclamped_some : (count : ℕ) (steps : List Did) → AllByRecursion IsRecordedHere steps
      → Any (Loaded env.geometry PortCount count) steps → min count 65536 ≡ count
  unclamped_some count steps recorded (k, did, within, is, loaded) =
      let was = subst IsRecordedHere is (All-from_recursion IsRecordedHere steps recorded k did within) in
      subst (λ n. min n 65536 ≡ n) loaded.found (unclamped did was loaded.word.loads)

  -- there is room by the count that was loaded
  saw_room : (port shape : ℕ) (steps : List Did) → AllByRecursion IsRecordedHere steps
      → Any (LoadedRoom env words_at mix port shape) steps → Any (SawRoom M mix env events c port shape) steps
  saw_room port shape steps recorded (k, did, low, is, loaded) =
      let was = subst IsRecordedHere is (All-from_recursion IsRecordedHere steps recorded k did low) in
      let same = unclamped did was loaded.loaded in (
        k,
        did,
        low,
        is,
        record {
          count = did.old;
          saw = record {
            loaded = loaded.loaded;
            found = refl;
            counted = counted_at M mix env events c did.old did admitted loaded.loaded refl was;
          };
          below = leb-false (most_ports env.config.max) did.old
              (subst (λ n. is_above_max n env.config.max ≡ false) same loaded.below);
          within = subst (λ n. is_above_100 n (size_of (unpacked shape)) env.config.max ≡ false) same loaded.within;
          unbound = loaded.unbound;
        },
      )

  none_raised : (steps : List Did) → AllByRecursion (IsNoRaise env.geometry) steps → Any (IsRaise env.geometry) steps → ⊥
  none_raised steps none (k, did, within, at_k, raises) =
      subst (IsNoRaise env.geometry) at_k (All-from_recursion (IsNoRaise env.geometry) steps none k did within) raises

  -- and where the count was raised there was
  had_room : (port : ℕ) (kick : Bool) (steps : List Did) → AllByRecursion IsRecordedHere steps
      → Raised env words_at mix port kick steps → HadRoom M mix env events c port steps
  had_room port kick steps recorded raised =
      let walked = raised.walked in
      let behind = (recorded_at steps walked.before walked.behind walked.at walked.split recorded).2 in
      record {
        table = raised.table;
        shape = raised.shape;
        walked = walked;
        room = λ some. elim raised.some [
          | inl seen ↦ record {
            before = seen.before;
            at = seen.at;
            rest = seen.rest;
            split = seen.split;
            raises = seen.raises;
            inside = seen.inside;
            first = seen.first;
            chain = seen.seen.short.chain;
            none = seen.seen.short.none;
            room = saw_room port raised.shape seen.before
                (recorded_at walked.behind seen.before seen.rest seen.at seen.split behind).0 seen.seen.room;
          }
          | inr nothing ↦ absurd (none_raised walked.behind nothing.unraised some)
        ];
      }

  -- a table is full by the count that was loaded, or its bucket has too many nodes
  pub crowded : (port table : ℕ) (why : Full) (shape : ℕ) (behind : List Did) → AllByRecursion IsRecordedHere behind
      → SawCrowd env words_at mix port table why shape behind → SawCrowded M mix env events c port table shape behind
  crowded port table full.Chain shape behind recorded saw = inl saw
  crowded port table full.Table shape behind recorded (k, did, within, is, above) =
      let was = subst IsRecordedHere is (All-from_recursion IsRecordedHere behind recorded k did within) in
      inr (
        k,
        did,
        within,
        is,
        record {
          count = did.old;
          saw = record {
            loaded = above.loaded;
            found = refl;
            counted = counted_at M mix env events c did.old did admitted above.loaded refl was;
          };
          above = subst (λ n. is_above_100 n (size_of (unpacked shape)) env.config.max ≡ true)
              (unclamped did was above.loaded) above.above;
          unbound = above.unbound;
        },
      )

  -- the operations before the one that settled a reply were recorded too, and so the table was full
  pub recorded_before : (port table : ℕ) (Saw : Full → ℕ → List Did → Type 0) (Last : Did → Type 0) (steps : List Did)
      → AllByRecursion IsRecordedHere steps → (settled : Settled env words_at mix port table Saw Last steps)
      → AllByRecursion IsRecordedHere settled.before
  recorded_before port table Saw Last steps recorded settled =
      let walked = settled.walked in
      let behind = (recorded_at steps walked.before walked.behind walked.at walked.split recorded).2 in
      (recorded_at walked.behind settled.before settled.rest settled.at settled.split behind).0

  abbrev pub walked_full : (port table : ℕ) (Saw : Full → ℕ → List Did → Type 0) (Last : Did → Type 0)
      (steps : List Did)
      → AllByRecursion IsRecordedHere steps → (settled : Settled env words_at mix port table Saw Last steps)
      → SawWhy env words_at mix port table settled.why settled.shape settled.before
      → WalkedFull M mix env events c port table steps
  walked_full port table Saw Last steps recorded settled is_full = record {
    shape = settled.shape;
    walked = settled.walked;
    before = settled.before;
    at = settled.at;
    rest = settled.rest;
    split = settled.split;
    inside = settled.inside;
    crowded =
        crowded port table settled.why settled.shape settled.before
        (recorded_before port table Saw Last steps recorded settled) is_full.crowd;
    unbound = is_full.unbound;
  }

  pub bind-cause : (port : ℕ) (past : Past) (reply : Reply) → SawFor env words_at mix port reply past.steps
      → AllByRecursion IsRecordedHere past.steps → IsRising (past.begin + 1) past.steps → BindCause M mix env events c port past reply
  bind-cause port past (Bound kick) saw recorded rising =
      (kicked port kick past.steps recorded saw, had_room port kick past.steps recorded saw)
  bind-cause port past (Exists owner) saw recorded rising = saw
  bind-cause port past NoNode saw recorded rising = saw
  bind-cause port past (TooBig count) saw recorded rising = too_big port count past.steps recorded saw
  bind-cause port past (Again table) saw recorded rising = record {
    table = saw.table;
    full =
        walked_full port saw.table (SawWhy env words_at mix port saw.table) (IsFollowing env words_at mix port saw.table table) past.steps
        recorded saw.settled
        saw.settled.saw;
    seen = saw.settled.last;
  }
  bind-cause port past (Busy root last) settled recorded rising =
      let none = Loaded env.geometry (Slot last FutureWord) 0 in
      let saw = settled.saw in
      let same =
      unclamped_some saw.count settled.before
      (recorded_before port last (SawOther env words_at mix port last root) none past.steps recorded settled) saw.counted in
      record {
        full =
            walked_full port last (SawOther env words_at mix port last root) none past.steps recorded settled saw.is_full;
        other = saw.other;
        current = saw.current;
        count = saw.count;
        counted = saw.counted;
        not_due =
            subst (λ n. is_above_75 n (size_of (unpacked settled.shape)) env.config.max ≡ false) same
            saw.not_due;
        none = settled.last;
      }
  bind-cause port past (NoTable size) (inr missed) recorded rising =
      inr (no_page-cause env words_at mix port size past.steps missed)
  bind-cause port past (NoTable size) (inl seen) recorded rising =
      let table = seen.table in
      let none = Loaded env.geometry (Slot table FutureWord) 0 in
      let settled = seen.settled in
      let saw = settled.saw in
      let wanted = saw.wanted in
      let same =
      unclamped_some wanted.count settled.before
      (recorded_before port table (SawFullUp env words_at mix port table size) none past.steps recorded settled)
      (subst (Any (Loaded env.geometry PortCount wanted.count))
      (append_assoc wanted.sooner (wanted.counting ∷ []) wanted.making ∙ sym wanted.parts)
      (Any-append_left (Loaded env.geometry PortCount wanted.count)
      (wanted.sooner ++ wanted.counting ∷ []) wanted.making
      (Any-push (Loaded env.geometry PortCount wanted.count) wanted.sooner wanted.counting
      wanted.counted))) in
      inl (record {
        table = table;
        full =
            walked_full port table (SawFullUp env words_at mix port table size) none past.steps recorded settled
            saw.is_full;
        sooner = wanted.sooner;
        counting = wanted.counting;
        making = wanted.making;
        parts = wanted.parts;
        count = wanted.count;
        counted = wanted.counted;
        wanted = wanted.wanted ∙ ap (wanted_size env settled.shape) same;
        grows = elim wanted.grows [
          | inl due ↦ inl (subst (λ n. is_above_75 n (size_of (unpacked settled.shape)) env.config.max ≡ true)
              same due)
          | inr current ↦ inr current
        ];
        room = saw.room;
        none = settled.last;
      })
  bind-cause port past _ saw recorded rising = absurd saw
