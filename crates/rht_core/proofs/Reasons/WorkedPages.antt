-- Where a making has seen no pages for a nested table, each page was seen taken at some operation, before which it was given back
-- wherever the call had taken it. So a making is refused (`kept-refused`) that keeps a page of a lost run, looks for single pages, and only
-- then gives that page back, though it saw each run taken (`runs_lost`) and behind that each page (`pages_looked`).
use Rattle.std.proofs.Common.{◌≡◌, ◌⊎◌, ℕ, zero, suc, ◌+◌, ◌<◌, ◌≤◌, List, [], ◌∷◌, ◌++◌, append_assoc, refl, sym, subst, inl, inr, arith}
use Rattle.std.specs.List.{AllByRecursion, Any}
use Rattle.std.specs.Int.{bit_not, w64}
use Rattle.std.proofs.lemmas.Bool.{cases_eq}
use Rattle.std.proofs.lemmas.List.{append-nil}
use Rattle.std.proofs.lemmas.Nat.Bits.{bit_at-zero}
use Rattle.rht_words.specs.declared.geometry.Geometry.{Geometry}
use Rattle.rht_words.specs.declared.op.Op.{Op}
use Rattle.rht_words.specs.declared.op.Op.TheVariants.{Load, And, Or}
use Rattle.rht_words.specs.Machines.{Performed}
use Rattle.rht_words.specs.Places.{PageMap, place_of}
use Rattle.rht_words.proofs.EachElement.{Any-append_left}
use Rattle.rht_arena.specs.RunLaws.{page_place, page_bit, TakesPage, GivesPage, SeesPageTaken}
use Rattle.rht_core.specs.ResizeCauses.{SeesRunLost, AreRunsTaken, IsGivenBack, AreRunsThenPagesTaken}
use Rattle.rht_core.proofs.Reasons.PagesTaken.{load_takes_none}

-- what is so of none of these is so of no one
pub none_is : {X : Type 0} (P : X → Type 0) (xs : List X) → AllByRecursion (λ x. P x → ⊥) xs → Any P xs → ⊥
none_is P [] none (k, x, within, is, p) = absurd (omega (arith, within))
none_is P (y ∷ xs) none (zero, x, within, is, p) = none.0 (subst P (sym is) p)
none_is P (y ∷ xs) none (suc k, x, within, is, p) = none_is P xs none.1 (k, x, omega (arith, within), is, p)

module _ (g : Geometry) (page : ℕ) where
  -- behind these operations one sees the page taken, before which it was given back wherever it was taken
  abbrev pub SeesUnheld : List Performed → List Performed → Type 0
  SeesUnheld before [] = ⊥
  SeesUnheld before (step ∷ steps) =
      (SeesPageTaken g page step × IsGivenBack g page before) ⊎ SeesUnheld (before ++ step ∷ []) steps

  given_back-append : (front behind : List Performed) → IsGivenBack g page front
      → AllByRecursion (λ step. TakesPage g page step → ⊥) behind → IsGivenBack g page (front ++ behind)
  given_back-append [] [] given none = tt
  given_back-append [] (step ∷ behind) given none =
      (λ takes. absurd (none.0 takes), given_back-append [] behind tt none.1)
  given_back-append (step ∷ front) behind given none = (
    λ takes. Any-append_left (GivesPage g page) front behind (given.0 takes),
    given_back-append front behind given.1 none,
  )

  -- what is seen behind the first of these operations is seen among all
  unheld-behind : (before flat nested : List Performed) → SeesUnheld (before ++ flat) nested → SeesUnheld before (flat ++ nested)
  unheld-behind before [] nested sees = subst (λ b. SeesUnheld b nested) (append-nil before) sees
  unheld-behind before (step ∷ flat) nested sees =
      inr (unheld-behind (before ++ step ∷ []) flat nested
      (subst (λ b. SeesUnheld b nested) (sym (append_assoc before (step ∷ []) flat)) sees))

  module _ (flat : List Performed) (given : IsGivenBack g page flat) (within : page < g.pages) where
    -- by induction over the operations on single pages
    tops-unheld : (next : ℕ) (before steps : List Performed) → next ≤ page → AreRunsTaken g 1 next before steps
        → SeesUnheld (flat ++ before) steps
    tops-unheld next before [] low past = absurd (omega (arith, low, past, within))
    tops-unheld next before (step ∷ steps) low (inl later) =
        inr (subst (λ b. SeesUnheld b steps) (sym (append_assoc flat before (step ∷ [])))
        (tops-unheld next (before ++ step ∷ []) steps low later))
    tops-unheld next before (step ∷ steps) low (inr (here, later)) = elim (cases_eq here.sees.page page) [
      | inl same ↦ inl (
        subst (λ p. SeesPageTaken g p step) same here.sees.sees,
        given_back-append flat before given
            (subst (λ p. AllByRecursion (λ other. TakesPage g p other → ⊥) before) same here.untaken),
      )
      | inr other ↦
          let from = here.sees.of_run.from in
          let below = here.sees.of_run.below in
          inr (subst (λ b. SeesUnheld b steps) (sym (append_assoc flat before (step ∷ [])))
          (tops-unheld (next + 1) (before ++ step ∷ []) steps (omega (arith, low, from, below, other)) later))
    ]

-- each page was seen taken at an operation before which the call didn't hold it
pub sees_unheld : (g : Geometry) (pages : ℕ) (steps : List Performed) (page : ℕ) → page < g.pages
    → AreRunsThenPagesTaken g pages steps → SeesUnheld g page [] steps
sees_unheld g pages steps page within none =
    subst (SeesUnheld g page []) (sym none.are)
    (unheld-behind g page [] none.flat none.nested
    (subst (λ b. SeesUnheld g page b none.nested) (append-nil none.flat)
    (tops-unheld g page none.flat (none.back page within) within 0 [] none.nested (omega arith) none.tops)))

-- ---- a making that keeps a page of a lost run

module _ (g : Geometry) where
  abbrev on_map : (ℕ → Op) → ℕ → Performed
  on_map op old = record { op = op (place_of g (PageMap 0)); old = old }

  -- Of 4 pages the last two are found free, and then page 3 alone when they are to be taken.
  abbrev lost : List Performed
  lost = on_map Load 12 ∷ on_map Load 12 ∷ on_map (λ place. And place (bit_not w64 12)) 8 ∷ []

  -- It is kept while single pages are looked for, and given back behind that.
  abbrev looks : List Performed
  looks = on_map Load 0 ∷ on_map Load 0 ∷ on_map Load 0 ∷ on_map Load 0 ∷ on_map (λ place. Or place 8) 0 ∷ []

  abbrev zero_word : Performed
  zero_word = on_map Load 0

  takes_none : (page : ℕ) → TakesPage g page zero_word → ⊥
  takes_none page takes = load_takes_none g (place_of g (PageMap 0)) page zero_word refl takes

  -- a load that finds no page free sees each of the first ones taken
  look : (page : ℕ) → page < 64 → (before : List Performed) → AllByRecursion (λ step. TakesPage g page step → ⊥) before
      → page_place g page ≡ place_of g (PageMap 0) → SeesRunLost g 1 page before zero_word
  look page low before none place = record {
    sees = record {
      page = page;
      of_run = record { from = omega arith; below = omega arith };
      sees = record { looks = tt; place = sym place; taken = bit_at-zero (page_bit page) };
    };
    untaken = none;
  }

  -- page 3 is held from where it is taken on, for as long as no operation gives it back
  keeps : (loads : List Performed) → AllByRecursion (λ step. GivesPage g 3 step → ⊥) loads → IsGivenBack g 3 (lost ++ loads) → ⊥
  keeps loads none given =
      none_is (GivesPage g 3) loads none (given.1.1.0 (record { place = refl; free = refl; clears = refl }))

  gives_none : GivesPage g 3 zero_word → ⊥
  gives_none gives = let set = gives.sets in absurd (cc)

  -- the first three operations find it free, the loads find it held, and the last operation is no look
  never_unheld : SeesUnheld g 3 [] (lost ++ looks) → ⊥
  never_unheld (inl (saw, given)) = let taken = saw.taken in absurd (cc)
  never_unheld (inr (inl (saw, given))) = let taken = saw.taken in absurd (cc)
  never_unheld (inr (inr (inl (saw, given)))) = let taken = saw.taken in absurd (cc)
  never_unheld (inr (inr (inr (inl (saw, given))))) = keeps [] tt given
  never_unheld (inr (inr (inr (inr (inl (saw, given)))))) = keeps (zero_word ∷ []) (gives_none, tt) given
  never_unheld (inr (inr (inr (inr (inr (inl (saw, given))))))) =
      keeps (zero_word ∷ zero_word ∷ []) (gives_none, (gives_none, tt)) given
  never_unheld (inr (inr (inr (inr (inr (inr (inl (saw, given)))))))) =
      keeps (zero_word ∷ zero_word ∷ zero_word ∷ []) (gives_none, (gives_none, (gives_none, tt))) given
  never_unheld (inr (inr (inr (inr (inr (inr (inr (inl (saw, given))))))))) = absurd (saw.looks)
  never_unheld (inr (inr (inr (inr (inr (inr (inr (inr none)))))))) = absurd none

  module _ (four : g.pages ≡ 4) where
    -- each run of two was seen taken in its turn
    pub runs_lost : AreRunsTaken g 2 0 [] lost
    runs_lost = inr (
      record {
        sees = record {
          page = 0;
          of_run = record { from = omega arith; below = omega arith };
          sees = record { looks = tt; place = refl; taken = refl };
        };
        untaken = tt;
      },
      inl (inr (
        record {
          sees = record {
            page = 2;
            of_run = record { from = omega arith; below = omega arith };
            sees = record { looks = tt; place = refl; taken = refl };
          };
          untaken = (λ takes. let clear = takes.clears in absurd (cc), ((λ takes. let clear = takes.clears in absurd (cc)), tt));
        },
        omega (arith, four),
      )),
    )

    -- and each page behind that, which no operation behind that had taken
    pub pages_looked : AreRunsTaken g 1 0 [] looks
    pages_looked = inr (
      look 0 (omega arith) [] tt refl,
      inr (
        look 1 (omega arith) (zero_word ∷ []) (takes_none 1, tt) refl,
        inr (
          look 2 (omega arith) (zero_word ∷ zero_word ∷ []) (takes_none 2, (takes_none 2, tt)) refl,
          inr (
            look 3 (omega arith) (zero_word ∷ zero_word ∷ zero_word ∷ []) (takes_none 3, (takes_none 3, (takes_none 3, tt)))
                refl,
            inl (omega (arith, four)),
          ),
        ),
      ),
    )

    -- but no operation sees page 3 taken while it isn't held
    pub kept-refused : AreRunsThenPagesTaken g 2 (lost ++ looks) → ⊥
    kept-refused none = never_unheld (sees_unheld g 2 (lost ++ looks) 3 (omega (arith, four)) none)
