-- The taking of a run has given back each page that it took, but those that it holds. So where it finds no run, it has given back all.
use Rattle.std.proofs.Common.{◌≡◌, ℕ, ◌<◌, List, [], ◌∷◌, ◌++◌, refl, sym, ◌∙◌, subst, arith}
use Rattle.std.specs.Prelude.{Bool, true, false, Option, ◌==◌, ◌&&◌, ◌||◌}
use Rattle.std.specs.List.{AllByRecursion}
use Rattle.std.specs.Int.{bit_at}
use Rattle.std.proofs.lemmas.Bool.{and_parts, and_from, eq-eqb, eqb-true, not-false}
use Rattle.std.proofs.lemmas.List.Quantifiers.{Any-push}
use Rattle.std.proofs.lemmas.Nat.Bits.{bit_at_and, bit_at_or, bit_at-lt}
use Rattle.rht_words.specs.declared.op.Op.TheVariants.{And, Or}
use Rattle.rht_words.specs.declared.geometry.Geometry.{Geometry}
use Rattle.rht_words.specs.declared.machine.Next.{Next}
use Rattle.rht_words.specs.Machines.{Performed}
use Rattle.rht_words.proofs.EachElement.{Any-append_left}
use Rattle.rht_words.proofs.MachineRuns.{performed}
use Rattle.rht_arena.specs.RunLaws.{page_place, page_bit, has_after, has_next, TakesPage, GivesPage}
use Rattle.rht_arena.specs.TakeRun.{TakeRunModel, take_run_plan, take_run_plan_at, take_run_after, has_page, IsTakeRunAtIn}
use Rattle.rht_arena.specs.declared.take_run.TakeRunAt.{TakeRunAt}
use Rattle.rht_arena.specs.declared.take_run.TakeRunAt.TheVariants.{MapWord, Claim, GiveBack}
use Rattle.rht_arena.proofs.RunsHeld.{holds_what_it_took}
use Rattle.rht_core.specs.ResizeCauses.{IsGivenBack}
use Rattle.rht_core.proofs.Reasons.PagesTaken.{TakesNoneFrom, load_takes_none}

-- both parts of what doesn't hold don't hold
neither : (a b : Bool) → (a || b) ≡ false → (a ≡ false) × (b ≡ false)
neither true b f = absurd (cc)
neither false b f = (refl, f)

module _ (g : Geometry) (page : ℕ) where
  -- what was given back is so behind an operation that doesn't take the page
  given_back-takes_none : (steps : List Performed) (step : Performed) → (TakesPage g page step → ⊥) → IsGivenBack g page steps
      → IsGivenBack g page (steps ++ step ∷ [])
  given_back-takes_none [] step none given = (λ takes. absurd (none takes), tt)
  given_back-takes_none (first ∷ steps) step none given = (
    λ takes. Any-append_left (GivesPage g page) steps (step ∷ []) (given.0 takes),
    given_back-takes_none steps step none given.1,
  )

  -- and whatever was taken is behind one that gives it back
  given_back-gives : (steps : List Performed) (step : Performed) → GivesPage g page step → IsGivenBack g page (steps ++ step ∷ [])
  given_back-gives [] step gives = (
    λ takes.
        let set = gives.sets in
        let clear = takes.clears in
        let both = sym set ∙ clear in
        absurd (omega (arith, both)),
    tt,
  )
  given_back-gives (first ∷ steps) step gives =
      (λ takes. Any-push (GivesPage g page) steps step gives, given_back-gives steps step gives)

  -- where none was taken there is nothing to give back
  pub given_back-none : (steps : List Performed) → page < g.pages → AllByRecursion (TakesNoneFrom g 0) steps
      → IsGivenBack g page steps
  given_back-none [] within none = tt
  given_back-none (step ∷ steps) within none =
      (λ takes. absurd (none.0 page (omega arith) within takes), given_back-none steps within none.1)

  -- an And, of a caller that had the page or not
  and-given : (place mask old : ℕ) (has : Bool) (steps : List Performed) → (has ≡ false → IsGivenBack g page steps)
      → has_after g page has old (And place mask) ≡ false
      → IsGivenBack g page (steps ++ record { op = And place mask; old = old } ∷ [])
  and-given place mask old has steps given lost =
      let step : Performed = record { op = And place mask; old = old } in
      let clears = (bit_at mask (page_bit page) == 0) && (bit_at old (page_bit page) == 1) in
      let parts = neither has ((place == page_place g page) && clears) lost in
      given_back-takes_none steps step
      (λ takes.
      let both = bit_at_and old mask (page_bit page) in
      let free = takes.free in
      let clear = takes.clears in
      let off : bit_at mask (page_bit page) ≡ 0 = omega (arith, both, free, clear, bit_at-lt mask (page_bit page)) in
      let took = and_from (place == page_place g page) clears (eq-eqb place (page_place g page) takes.place)
      (and_from (bit_at mask (page_bit page) == 0) (bit_at old (page_bit page) == 1) (eq-eqb (bit_at mask (page_bit page)) 0 off)
      (eq-eqb (bit_at old (page_bit page)) 1 free)) in
      let never = parts.1 in
      absurd (cc (took, never)))
      (given parts.0)

  -- an Or
  or-given : (place bits old : ℕ) (has : Bool) (steps : List Performed) → (has ≡ false → IsGivenBack g page steps)
      → has_after g page has old (Or place bits) ≡ false
      → IsGivenBack g page (steps ++ record { op = Or place bits; old = old } ∷ [])
  or-given place bits old false steps given lost =
      given_back-takes_none steps (record { op = Or place bits; old = old })
      (λ takes.
      let free = takes.free in
      let clear = takes.clears in
      absurd (omega (arith, free, clear, bit_at_or old bits (page_bit page))))
      (given refl)
  or-given place bits old true steps given lost =
      let set = bit_at bits (page_bit page) in
      let gave = and_parts (place == page_place g page) (set == 1) (not-false ((place == page_place g page) && (set == 1)) lost) in
      let on : set ≡ 1 = eqb-true set 1 gave.1 in
      given_back-gives steps (record { op = Or place bits; old = old }) (record {
        place = eqb-true place (page_place g page) gave.0;
        sets = omega (arith, on, bit_at_or old bits (page_bit page), bit_at-lt old (page_bit page));
      })

  -- an operation of the taking of a run
  taking-given : (pages : ℕ) (state : TakeRunAt) (old : ℕ) (has : Bool) (steps : List Performed)
      → (has ≡ false → IsGivenBack g page steps) → has_after g page has old (take_run_plan_at g pages state) ≡ false
      → IsGivenBack g page (steps ++ record { op = take_run_plan_at g pages state; old = old } ∷ [])
  taking-given pages (MapWord first index) old has steps given lost =
      let step : Performed = record { op = take_run_plan_at g pages (MapWord first index); old = old } in
      given_back-takes_none steps step (load_takes_none g _ page step refl) (given lost)
  taking-given pages (Claim first index) old has steps given lost = and-given _ _ old has steps given lost
  taking-given pages (GiveBack first index bits) old has steps given lost = or-given _ _ old has steps given lost

-- each page was given back but those that the taking holds
abbrev pub GaveBackBut : Geometry → ℕ → TakeRunAt → List Performed → Type 0
GaveBackBut g pages at steps = (page : ℕ) → page < g.pages → has_page pages at page ≡ false → IsGivenBack g page steps

-- and behind an operation of it
abbrev pub GaveBackThen : Geometry → ℕ → TakeRunModel × Next (Option ℕ) → List Performed → Type 0
GaveBackThen g pages next steps = (page : ℕ) → page < g.pages → has_next pages next page ≡ false → IsGivenBack g page steps

-- it stays so
gave_back : (m : TakeRunModel) (old : ℕ) (steps : List Performed) → IsTakeRunAtIn m.geometry m.pages m.at
    → GaveBackBut m.geometry m.pages m.at steps
    → GaveBackThen m.geometry m.pages (take_run_after m old) (steps ++ performed take_run_plan take_run_after m old ∷ [])
gave_back m old steps here gave page within lost =
    taking-given m.geometry page m.pages m.at old (has_page m.pages m.at page) steps (gave page within)
    (sym (holds_what_it_took m old page here) ∙ lost)

-- of a machine of this table that takes so many pages
pub gave_back_in : (g : Geometry) (pages : ℕ) (m : TakeRunModel) (old : ℕ) (steps : List Performed) → m.geometry ≡ g
    → m.pages ≡ pages → IsTakeRunAtIn g pages m.at → GaveBackBut g pages m.at steps
    → GaveBackThen g pages (take_run_after m old) (steps ++ performed take_run_plan take_run_after m old ∷ [])
gave_back_in g pages m old steps table many =
    let step = performed take_run_plan take_run_after m old in
    subst (λ p. IsTakeRunAtIn g p m.at → GaveBackBut g p m.at steps → GaveBackThen g p (take_run_after m old) (steps ++ step ∷ [])) many
    (subst (λ (h : Geometry). IsTakeRunAtIn h m.pages m.at → GaveBackBut h m.pages m.at steps
    → GaveBackThen h m.pages (take_run_after m old) (steps ++ step ∷ [])) table (gave_back m old steps))
