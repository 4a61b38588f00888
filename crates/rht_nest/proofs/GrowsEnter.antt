-- A page that the growing of a nested table answers is there, and none is answered exactly where each page was seen taken in its
-- turn.
--
-- The machine takes a page as `TakeRun` does. Where none is found it ends. Else its exchange is the last operation, where it
-- enters the page, or the last but one; neither that nor the giving back looks at a page's bit.
use Rattle.std.proofs.Common.{◌≡◌, ◌≢◌, ℕ, ◌+◌, ◌*◌, ◌/◌, List, [], ◌∷◌, ◌++◌, Some, None, inl, inr, refl, sym, ap, subst, arith}
use Rattle.std.specs.Prelude.{Option, ◌⊎◌, ◌↔◌, ◌==◌, nat_lt}
use Rattle.std.proofs.lemmas.Bool.{cond_both, eqb-true, eqb-false, ltb-true}
use Rattle.rht_words.specs.declared.machine.Next.{Next}
use Rattle.rht_words.specs.declared.machine.Next.TheVariants.{Go, Done}
use Rattle.rht_words.specs.declared.geometry.Geometry.{Geometry}
use Rattle.rht_words.specs.Machines.{Performed, Ran, went_on, ran}
use Rattle.rht_arena.specs.PageRuns.{IsRunIn}
use Rattle.rht_arena.specs.TakeRun.{TakeRunModel, first_run, take_run_plan, take_run_after}
use Rattle.rht_arena.specs.GiveRun.{GiveRunModel, give_run_new, give_run_plan}
use Rattle.rht_arena.specs.RunLaws.{run_taking_ran, RunWasTaken, AreRunsSeenInTurn}
use Rattle.rht_arena.proofs.RunsTaken.{taken_run_was_free}
use Rattle.rht_arena.proofs.RunsSeen.{none_where_runs_taken_in_turn}
use Rattle.rht_arena.proofs.RunsGiven.{gives_page}
use Rattle.rht_nest.specs.Grow.{GrowModel, grow_plan, grow_after, page_taken, page_there, page_given}
use Rattle.rht_nest.specs.GrowLaws.{growing_ran, entering, PageWasTaken, PageWasEntered, PageWasThere, GrownPageIsThere, NoneWherePagesTaken}
use Rattle.rht_nest.specs.declared.grow.GrowAt.{GrowAt}
use Rattle.rht_nest.specs.declared.grow.GrowAt.TheVariants as at
use Rattle.rht_nest.proofs.PieceRuns.{on_piece, behind, piece_ended}
use Rattle.rht_nest.proofs.TurnsJoined.{AreBlind, turn-before_blind}

module _ (g : Geometry) (entry : ℕ) where
  -- the growing, in a state
  abbrev growing : GrowAt → GrowModel
  growing state = record { geometry = g; entry = entry; at = state }

  -- what comes of it
  abbrev from : GrowAt → List ℕ → Ran (Option ℕ)
  from state olds = ran grow_plan grow_after (growing state) olds

  -- while it takes a page, and once that has ended
  abbrev taking : TakeRunModel → GrowModel
  taking take = growing (at.Taking take)

  abbrev took : TakeRunModel → Option ℕ → GrowModel × Next (Option ℕ)
  took take None = (taking take, Done None)
  took take (Some page) = (growing (at.Entering page), Go)

  on_take : (next : TakeRunModel × Next (Option ℕ))
      → (growing (page_taken next.0 next.1).0, (page_taken next.0 next.1).1)
      ≡ on_piece take_run_plan take_run_after grow_plan grow_after taking took next
  on_take (take, Go) = refl
  on_take (take, Done None) = refl
  on_take (take, Done (Some page)) = refl

  -- there is a page
  one_page : IsRunIn g 0 1
  one_page = let some = g.within.pages_within.0 in record { some = omega arith; within = omega (arith, some) }

  -- ---- once a page is taken

  -- the giving back of one page is one operation
  abbrev giving_step : ℕ → ℕ → Performed
  giving_step own last = record { op = give_run_plan (give_run_new g own 1); old = last }

  abbrev entering_step : ℕ → ℕ → Performed
  entering_step own found = record { op = entering entry own; old = found }

  record GaveBack (own there : ℕ) (answer : Option ℕ) (steps : List Performed) : Type 0 where
    last : ℕ
    there_is : answer ≡ Some there
    are : steps ≡ giving_step own last ∷ []

  giving_ends : (own there : ℕ) (olds : List ℕ) (answer : Option ℕ)
      → (from (at.Giving there (give_run_new g own 1)) olds).next ≡ Done answer
      → GaveBack own there answer (from (at.Giving there (give_run_new g own 1)) olds).steps
  giving_ends own there [] answer done = absurd (cc)
  giving_ends own there (last ∷ olds) answer done =
      let give = give_run_new g own 1 in
      cond_both {A = GiveRunModel × Next (Unit {0})} (nat_lt (64 * (own / 64 + 1)) (own + 1)) _ _
      (λ next. (went_on (giving_step own last) (page_given there next.0 next.1).1
      (from (page_given there next.0 next.1).0 olds)).next ≡ Done answer
      → GaveBack own there answer (went_on (giving_step own last) (page_given there next.0 next.1).1
      (from (page_given there next.0 next.1).0 olds)).steps)
      (λ t later. absurd (omega (arith, ltb-true (64 * (own / 64 + 1)) (own + 1) t)))
      (λ f is. record { last = last; there_is = cc; are = refl })
      done

  -- it is entered, or another one was there and it is given back
  record IsEntered (own : ℕ) (answer : Option ℕ) (steps : List Performed) : Type 0 where
    own_is : answer ≡ Some own
    are : steps ≡ entering_step own 0 ∷ []

  record IsGivenBack (own : ℕ) (answer : Option ℕ) (steps : List Performed) : Type 0 where
    found : ℕ
    last : ℕ
    other : found ≢ 0
    there : answer ≡ Some (page_there g found)
    are : steps ≡ entering_step own found ∷ giving_step own last ∷ []

  abbrev EndsThere : ℕ → Option ℕ → List Performed → Type 0
  EndsThere own answer steps = IsEntered own answer steps ⊎ IsGivenBack own answer steps

  entering_ends : (own : ℕ) (olds : List ℕ) (answer : Option ℕ)
      → (from (at.Entering own) olds).next ≡ Done answer
      → EndsThere own answer (from (at.Entering own) olds).steps
  entering_ends own [] answer done = absurd (cc)
  entering_ends own (found ∷ olds) answer done =
      let step = entering_step own found in
      let back = at.Giving (page_there g found) (give_run_new g own 1) in
      cond_both (found == 0) (at.Entering own, Done (Some own)) (back, Go)
      (λ (next : GrowAt × Next (Option ℕ)). (went_on step next.1 (from next.0 olds)).next ≡ Done answer
      → EndsThere own answer (went_on step next.1 (from next.0 olds)).steps)
      (λ t is. inl (record {
        own_is = cc;
        are = ap (λ o. entering_step own o ∷ []) (eqb-true found 0 t);
      }))
      (λ f later.
      let gave = giving_ends own (page_there g found) olds answer later in
      inr (record {
        found = found;
        last = gave.last;
        other = eqb-false found 0 f;
        there = gave.there_is;
        are = ap (λ steps. step ∷ steps) gave.are;
      }))
      done

  -- so a page is answered, and no operation looks at a page's bit
  ends_some : (own : ℕ) (answer : Option ℕ) (steps : List Performed) → EndsThere own answer steps → answer ≡ None → ⊥
  ends_some own answer steps (inl ends) none = let is = ends.own_is in cc
  ends_some own answer steps (inr ends) none = let is = ends.there in cc

  ends_blind : (own : ℕ) (answer : Option ℕ) (steps : List Performed) → EndsThere own answer steps → AreBlind steps
  ends_blind own answer steps (inl ends) = subst AreBlind (sym ends.are) (λ looks. looks, tt)
  ends_blind own answer steps (inr ends) = subst AreBlind (sym ends.are) (λ looks. looks, (λ looks. looks, tt))

  -- ---- the whole

  -- what is to be shown of the machine once its taking of a page has ended so
  record IsShown (run : Ran (Option ℕ)) : Type 0 where
    there :
        (page : ℕ) → run.next ≡ Done (Some page)
        → PageWasEntered g entry page run.steps ⊎ PageWasThere g entry page run.steps
    none :
        (answer : Option ℕ) → run.next ≡ Done answer
        → (answer ≡ None) ↔ AreRunsSeenInTurn g 1 0 run.steps

  was_taken : (page : ℕ) (steps : List Performed) → RunWasTaken g 1 page steps → PageWasTaken g page steps
  was_taken page steps was =
      let within = was.run.within in
      record {
        page_in = omega (arith, within);
        taken = was.taken page (record { from = omega arith; below = omega arith });
      }

  -- the page that was taken, behind these operations
  ends-there : (own page : ℕ) (before steps : List Performed) → PageWasTaken g own before
      → EndsThere own (Some page) steps
      → PageWasEntered g entry page (before ++ steps) ⊎ PageWasThere g entry page (before ++ steps)
  ends-there own page before steps was (inl ends) =
      let same : page ≡ own = let is = ends.own_is in cc in
      inl (subst (λ p. PageWasEntered g entry p (before ++ steps)) (sym same) (record {
        before = before;
        taken = was;
        are = ap (λ s. before ++ s) ends.are;
      }))
  ends-there own page before steps was (inr ends) =
      inr (record {
        before = before;
        own = own;
        found = ends.found;
        giving = giving_step own ends.last;
        taken = was;
        leads = ends.other;
        there = let is = ends.there in cc;
        given = gives_page g own 1 own (record { from = omega arith; below = omega arith }) (own / 64) ends.last refl;
        are = ap (λ s. before ++ s) ends.are;
      })

  shown : (first rest : List ℕ) (left : TakeRunModel) (answer : Option ℕ)
      → (run_taking_ran g 1 first).next ≡ Done answer
      → IsShown (behind take_run_plan take_run_after grow_plan grow_after taking took (run_taking_ran g 1 first).steps
      (took left answer) rest)
  shown first rest left None ended = record {
    there = λ page done. absurd (cc);
    none = λ answer done. (
      λ none. (none_where_runs_taken_in_turn g 1 first None one_page ended).0 refl,
      λ turn. cc,
    );
  }
  shown first rest left (Some own) ended =
      let before = (run_taking_ran g 1 first).steps in
      let steps = (from (at.Entering own) rest).steps in
      record {
        there = λ page done.
            ends-there own page before steps (was_taken own before (taken_run_was_free g 1 first own one_page ended))
            (entering_ends own rest (Some page) done);
        none = λ answer done.
            let ends = entering_ends own rest answer done in (
              λ none. absurd (ends_some own answer steps ends none),
              λ turn.
                  let seen = turn-before_blind g 1 0 before steps (ends_blind own answer steps ends) turn in
                  absurd (let some = (none_where_runs_taken_in_turn g 1 first (Some own) one_page ended).1 seen in cc),
            );
      }

  all_shown : (olds : List ℕ) (answer : Option ℕ) → (growing_ran g entry olds).next ≡ Done answer
      → IsShown (growing_ran g entry olds)
  all_shown olds answer done =
      let piece = piece_ended take_run_plan take_run_after grow_plan grow_after taking took (λ take. refl)
      (λ take old. on_take (take_run_after take old)) olds (first_run g 1) answer done in
      subst IsShown (sym piece.is) (shown piece.first piece.rest piece.left piece.answer piece.ended)

pub grown_page_is_there : GrownPageIsThere
grown_page_is_there g entry olds page done = (all_shown g entry olds (Some page) done).there page done

pub none_where_pages_taken : NoneWherePagesTaken
none_where_pages_taken g entry olds answer done = (all_shown g entry olds answer done).none answer done
