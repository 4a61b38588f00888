-- What a bind sees that misses a page on the way to its bucket: it loaded the table's future as none, where its port was bound nowhere or its
-- bucket was there, then the entry at which the way ends, since that leads to no page, and while it takes a page to enter there, each page before the one at which it stands was seen taken. So
-- where no page is free, each was.
use Rattle.std.proofs.Common.{◌≡◌, ℕ, ◌<◌, ◌==◌, true, List, [], ◌∷◌, ◌++◌, append_assoc, map, Option, Some, None, refl, sym, ap, ◌∙◌, subst, inl, inr}
use Rattle.std.specs.List.{AllByRecursion, Any}
use Rattle.std.proofs.lemmas.Bool.{cond_both}
use Rattle.std.proofs.lemmas.List.{map-append}
use Rattle.rht_words.specs.declared.env.Env.{Env}
use Rattle.rht_words.specs.declared.op.Op.{Op}
use Rattle.rht_words.specs.declared.op.Op.TheVariants.{Load}
use Rattle.rht_words.specs.declared.geometry.Geometry.{Geometry}
use Rattle.rht_words.specs.declared.machine.Next.{Next}
use Rattle.rht_words.specs.declared.machine.Next.TheVariants.{Go, Done}
use Rattle.rht_words.specs.Links.{page_of}
use Rattle.rht_words.specs.Machines.{Performed}
use Rattle.rht_words.specs.Places.{Slot, SeedWord, PageWord, place_of, word_at}
use Rattle.rht_words.specs.Shapes.{unpacked, size_of}
use Rattle.rht_words.proofs.EachElement.{Any-append_left, AllByRecursion-push}
use Rattle.rht_words.proofs.Memory.{Memory}
use Rattle.rht_policy.specs.Mix.{bucket_of}
use Rattle.rht_arena.specs.TakeRun.{TakeRunModel, first_run, take_run_plan, take_run_after, IsTakeRunAtIn}
use Rattle.rht_arena.specs.GiveRun.{GiveRunModel, give_run_after}
use Rattle.rht_arena.proofs.RunsSeen.{goes_on_in}
use Rattle.rht_nest.specs.Place.{PlaceModel, missing_behind, missing_none, missing_or_last, missing_at, nested_place}
use Rattle.rht_nest.specs.Tables.{is_nested}
use Rattle.rht_nest.specs.Grow.{grow_plan_at, grow_after_at, page_taken, page_entered, page_given, IsGrowAtIn}
use Rattle.rht_nest.specs.declared.grow.GrowAt.{GrowAt}
use Rattle.rht_nest.specs.declared.grow.GrowAt.TheVariants as grows
use Rattle.rht_core.specs.ResizeCauses.{IsNoKeyLoad, AreRunsTaken, MissesPage, SawNoPage, SawNoneBehind}
use Rattle.rht_stands.specs.StandsFor.{page_word}
use Rattle.rht_core.specs.Seen.{IsNoShapeLoad, LastWalked, TurnsNoSection}
use Rattle.rht_core.specs.Traces.{Did, performed_of}
use Rattle.rht_core.proofs.Reasons.QuietSteps.{UnturnedBehind, any_split}
use Rattle.rht_core.proofs.Reasons.UnboundSeen.{SeesNoFuture, unbound-missed}
use Rattle.rht_ghost.proofs.Theory.Ghosts.{Ghost}
use Rattle.rht_ghost.proofs.Theory.Wholes.{hash_in, Whole, IsThere, at-there}
use Rattle.rht_ghost.proofs.Theory.Passed.{hash-below}
use Rattle.rht_ghost.proofs.Theory.PlacesRead.{middle_behind, entries_in_words}
use Rattle.rht_ghost.proofs.Theory.WaysRead.{words_of_pages, nested_placed}
use Rattle.rht_ghost.proofs.Theory.Knowledge.{IsWay, IsOnWay}
use Rattle.rht_ghost.proofs.Theory.Steps.{mem}
use Rattle.rht_ghost.proofs.Pieces.OpenEntries.{open_on_way}
use Rattle.rht_core.proofs.Reasons.TablesWalked.{LastWalked-push, LoadedEarly}
use Rattle.rht_core.proofs.Reasons.MakesSeen.{SawRun, SawTaking, taken-saw, runs_taken-stay}
use Rattle.rht_core.proofs.Reasons.PagesTaken.{passes_in}
use Rattle.rht_core.proofs.Reasons.PortBuckets.{hash_in-words}

module _ (g : Geometry) where
  -- ---- while a page is taken

  abbrev pub SawGrowing : GrowAt → List Performed → Type 0
  SawGrowing (grows.Taking take) steps = SawRun g 1 take.at steps
  SawGrowing (grows.Entering page) steps = Unit {0}
  SawGrowing (grows.Giving there give) steps = Unit {0}

  -- once it has ended: where no page was free, each was seen taken
  abbrev pub SawGrown : GrowAt × Next (Option ℕ) → List Performed → Type 0
  SawGrown (state, Go) steps = SawGrowing state steps
  SawGrown (state, Done None) steps = AreRunsTaken g 1 0 [] steps
  SawGrown (state, Done (Some page)) steps = Unit {0}

  page_taken-saw : (r : TakeRunModel × Next (Option ℕ)) (steps : List Performed) → SawTaking g 1 r steps
      → SawGrown (page_taken r.0 r.1) steps
  page_taken-saw (take, Go) steps saw = saw
  page_taken-saw (take, Done None) steps saw = saw
  page_taken-saw (take, Done (Some page)) steps saw = tt

  entered-saw : (page word : ℕ) (steps : List Performed) → SawGrown (page_entered g page word) steps
  entered-saw page word steps = cond_both (word == 0) _ _ (λ r. SawGrown r steps) (λ t. tt) (λ f. tt)

  given-saw : (there : ℕ) (r : GiveRunModel × Next (Unit {0})) (steps : List Performed)
      → SawGrown (page_given there r.0 r.1) steps
  given-saw there (give, Go) steps = tt
  given-saw there (give, Done done) steps = tt

  -- each operation sees more
  pub grow-saw : (entry : ℕ) (state : GrowAt) (steps : List Performed) (step : Performed) → IsGrowAtIn g state
      → step.op ≡ grow_plan_at entry state → SawGrowing state steps
      → SawGrown (grow_after_at g state step.old) (steps ++ step ∷ [])
  grow-saw entry (grows.Taking take) steps step within is saw =
      let by_op : Op → Performed = λ o. record { op = o; old = step.old } in
      let same : step ≡ by_op (take_run_plan take) = ap by_op is in
      let range = subst (λ p. IsTakeRunAtIn g p take.at) within.one within.take_in.at_in in
      let passes = passes_in g 1 take step.old within.take_in.geometry_same within.one range in
      subst (λ s. SawGrown (grow_after_at g (grows.Taking take) step.old) (steps ++ s ∷ [])) (sym same)
      (page_taken-saw (take_run_after take step.old) (steps ++ by_op (take_run_plan take) ∷ [])
      (taken-saw g 1 take step.old steps (take_run_after take step.old)
      (goes_on_in g 1 take step.old within.take_in.geometry_same within.one range) passes passes.stands saw))
  grow-saw entry (grows.Entering page) steps step within is saw = entered-saw page step.old (steps ++ step ∷ [])
  grow-saw entry (grows.Giving there give) steps step within is saw =
      given-saw there (give_run_after give step.old) (steps ++ step ∷ [])

-- ---- behind the load of the entry

module _ (env : Env) (words_at : ℕ → List ℕ) where
  abbrev g : Geometry
  g = env.geometry

  -- The operations behind the load of the table's shape loaded its future as none, and then an entry that leads to no page, and what came
  -- behind that saw this of the pages.
  pub record MissedSeen (mix : ℕ → ℕ → ℕ → ℕ) (port table shape : ℕ) (Saw : List Performed → Type 0) (behind : List Did) : Type 0 where
    pub nested : is_nested shape ≡ true
    pub before : List Did
    pub at : Did
    pub taking : List Did
    pub split : behind ≡ before ++ at ∷ taking
    pub inside : AllByRecursion (TurnsNoSection g) before
    pub none : Any (SawNoneBehind g words_at port table) before
    pub entry : ℕ
    pub missing : MissesPage g words_at mix port table shape entry at
    pub taken : Saw (map performed_of taking)

  -- and none of them loaded a key
  pub record SeesMissing (mix : ℕ → ℕ → ℕ → ℕ) (port table shape : ℕ) (Saw : List Performed → Type 0) (behind : List Did) : Type 0 where
    pub seen : MissedSeen mix port table shape Saw behind
    pub no_key : AllByRecursion (IsNoKeyLoad g) behind

  -- the load of the entry
  pub begins-missing : (mix : ℕ → ℕ → ℕ → ℕ) (c port table shape entry : ℕ) (behind : List Did) (did : Did)
      → AllByRecursion (TurnsNoSection g) behind → UnturnedBehind g words_at c behind did.index → is_nested shape ≡ true
      → MissesPage g words_at mix port table shape entry did → IsNoKeyLoad g did
      → LoadedEarly g (SeesNoFuture g words_at mix c port table shape) None behind
      → SeesMissing mix port table shape (SawGrowing g (grows.Taking (first_run g 1))) (behind ++ did ∷ [])
  begins-missing mix c port table shape entry behind did inside calm nested missing no_key seen = record {
    seen = record {
      nested = nested;
      before = behind;
      at = did;
      taking = [];
      split = refl;
      inside = inside;
      none = any_split (SeesNoFuture g words_at mix c port table shape) (SawNoneBehind g words_at port table) behind
          (λ front early later is sees.
          unbound-missed g words_at mix c port table shape entry early did nested (calm front early later is) missing sees) seen.1;
      entry = entry;
      missing = missing;
      taken = (tt, refl);
    };
    no_key = AllByRecursion-push (IsNoKeyLoad g) behind did seen.0 no_key;
  }

  -- an operation behind it
  MissedSeen-push : (mix : ℕ → ℕ → ℕ → ℕ) (port table shape : ℕ) (Saw After : List Performed → Type 0) (behind : List Did) (did : Did)
      → ((steps : List Performed) → Saw steps → After (steps ++ performed_of did ∷ []))
      → MissedSeen mix port table shape Saw behind → MissedSeen mix port table shape After (behind ++ did ∷ [])
  MissedSeen-push mix port table shape Saw After behind did further saw = record {
    nested = saw.nested;
    before = saw.before;
    at = saw.at;
    taking = saw.taking ++ did ∷ [];
    split = ap (λ l. l ++ did ∷ []) saw.split ∙ append_assoc saw.before (saw.at ∷ saw.taking) (did ∷ []);
    inside = saw.inside;
    none = saw.none;
    entry = saw.entry;
    missing = saw.missing;
    taken = subst After (sym (map-append performed_of saw.taking (did ∷ [])))
        (further (map performed_of saw.taking) saw.taken);
  }

  pub SeesMissing-push : (mix : ℕ → ℕ → ℕ → ℕ) (port table shape : ℕ) (Saw After : List Performed → Type 0) (behind : List Did) (did : Did)
      → IsNoKeyLoad g did → ((steps : List Performed) → Saw steps → After (steps ++ performed_of did ∷ []))
      → SeesMissing mix port table shape Saw behind → SeesMissing mix port table shape After (behind ++ did ∷ [])
  SeesMissing-push mix port table shape Saw After behind did none further saw = record {
    seen = MissedSeen-push mix port table shape Saw After behind did further saw.seen;
    no_key = AllByRecursion-push (IsNoKeyLoad g) behind did saw.no_key none;
  }

  -- where a page was entered after all, the future was loaded as none
  pub missing-early : (mix : ℕ → ℕ → ℕ → ℕ) (c port table shape : ℕ) (Saw : List Performed → Type 0) (behind : List Did)
      → SeesMissing mix port table shape Saw behind
      → LoadedEarly g (SeesNoFuture g words_at mix c port table shape) None behind
  missing-early mix c port table shape Saw behind saw =
      let Sees = SeesNoFuture g words_at mix c port table shape in
      let seen = saw.seen in
      let sees = any_split (SawNoneBehind g words_at port table) Sees seen.before
      (λ front early later is saw. record { none = saw.none; unbound = inl saw.unbound }) seen.none in
      (saw.no_key, subst (Any Sees) (sym seen.split) (Any-append_left Sees seen.before (seen.at ∷ seen.taking) sees))

  -- A bind that is refused for want of a page has seen all that behind the load of the shape of the last table that it walked.
  pub record NoPageSeen (mix : ℕ → ℕ → ℕ → ℕ) (port size : ℕ) (steps : List Did) : Type 0 where
    pub table : ℕ
    pub shape : ℕ
    pub walked : LastWalked g table shape steps
    pub size_is : size ≡ size_of (unpacked shape)
    pub saw : MissedSeen mix port table shape (AreRunsTaken g 1 0 []) walked.behind

  -- and this stays seen
  pub NoPageSeen-push : (mix : ℕ → ℕ → ℕ → ℕ) (port size : ℕ) (steps : List Did) (did : Did) → IsNoShapeLoad g did
      → NoPageSeen mix port size steps → NoPageSeen mix port size (steps ++ did ∷ [])
  unfolding LastWalked-push
  NoPageSeen-push mix port size steps did none seen =
      let Taken = AreRunsTaken g 1 0 [] in
      record {
        table = seen.table;
        shape = seen.shape;
        walked = LastWalked-push g seen.table seen.shape steps did none seen.walked;
        size_is = seen.size_is;
        saw = MissedSeen-push mix port seen.table seen.shape Taken Taken seen.walked.behind did
            (λ taken. runs_taken-stay g 1 0 [] taken (performed_of did)) seen.saw;
      }

  -- So the port had no owner at the load of the future, which came before that of the entry.
  pub no_page-cause : (mix : ℕ → ℕ → ℕ → ℕ) (port size : ℕ) (steps : List Did)
      → NoPageSeen mix port size steps → SawNoPage g words_at mix port size steps
  no_page-cause mix port size steps seen =
      let saw = seen.saw in
      let walked = seen.walked in
      record {
        table = seen.table;
        shape = seen.shape;
        walked = walked;
        nested = saw.nested;
        size_is = seen.size_is;
        before = saw.before;
        at = saw.at;
        taking = saw.taking;
        split = saw.split;
        inside = saw.inside;
        unbound = saw.none;
        entry = saw.entry;
        missing = saw.missing;
        taken = saw.taken;
      }

  -- ---- the entry that was loaded

  module _ (mix : ℕ → ℕ → ℕ → ℕ) (words : List ℕ) (G : Ghost) (whole : Whole env mix (mem env mix words) G) where
    abbrev M : Memory
    M = mem env mix words

    -- the way to a bucket ends at an entry on it that leads to no page
    way_ends : (τ number : ℕ) → IsThere G τ → is_nested (G.table τ).shape ≡ true → (place : PlaceModel)
        → place.geometry ≡ g → IsWay env mix G number τ (G.table τ).shape place → page_of g.pages (M (PageWord place.entry)) ≡ None
        → missing_at (words_of_pages M) (nested_place g (G.table τ).shape number) ≡ Some place.entry
    way_ends τ number is_there nested place same way none =
        let read = words_of_pages M in
        let begins = nested_place g (G.table τ).shape number in
        elim way [
          | inl first ↦
              ap (missing_behind (missing_or_last read) begins)
              (ap (λ (m : PlaceModel). page_of g.pages (read m.entry)) (sym first) ∙ none)
              ∙ ap (λ (m : PlaceModel). Some m.entry) (sym first)
          | inr second ↦
              let leads = middle_behind env mix (G.table τ) G.page τ (whole.tables.each τ is_there).placed read
              (entries_in_words env mix M G whole τ is_there) (nested_placed env mix M G whole τ is_there nested) number second.page second.of
              second.part_is in
              ap (missing_behind (missing_or_last read) begins) leads
              ∙ ap (missing_or_last read) second.place_is
              ∙ ap (missing_behind missing_none place) (ap (λ (h : Geometry). page_of h.pages (read place.entry)) same ∙ none)
        ]

    -- by the words before the load the way to the port's bucket ends at the entry
    pub misses-page : {c : ℕ} (port slot shape : ℕ) (place : PlaceModel) (did : Did)
        → IsOnWay env mix c G port slot shape place None → words ≡ words_at did.index → place.geometry ≡ g
        → did.op ≡ Load (place_of g (PageWord place.entry)) → page_of g.pages (M (PageWord place.entry)) ≡ None
        → MissesPage g words_at mix port slot shape place.entry did
    misses-page port slot shape place did on now same is none =
        let j = place.entry in
        let at = on.shaped.passing.at in
        let τ = at.table in
        let number = hash_in env mix G port τ in
        let is_there = at-there at in
        let shape_is = on.shaped.shape_is in
        let number_is = hash_in-words env mix words G whole port slot shape at shape_is in
        let ends = way_ends τ number is_there on.to.nested place same on.to.way none in
        record {
          entry_in = (open_on_way env mix M G whole port slot shape place on).within;
          loads = is;
          bucket = number;
          bucket_is = subst (λ ws. number ≡ bucket_of mix port shape (word_at g ws (Slot slot SeedWord))) now number_is;
          within = subst (λ s. number < size_of (unpacked s)) shape_is (hash-below env mix M G whole port τ);
          ends = subst (λ ws. missing_at (page_word g ws) (nested_place g shape number) ≡ Some j) now
              (subst (λ s. missing_at (λ i. M (PageWord i)) (nested_place g s number) ≡ Some j) shape_is ends);
        }
