-- Giving a run back sets the bits of its pages, and no other page's.
use Rattle.std.proofs.Common.{◌≡◌, ℕ, ◌+◌, ◌*◌, ◌/◌, ◌%◌, ◌<◌, ◌≤◌, List, [], ◌∷◌, inl, inr, refl, sym, ap, arith}
use Rattle.std.proofs.lemmas.Bool.{cases_lt, cases_eq, cond_both, ltb-false}
use Rattle.std.proofs.lemmas.Nat.Bits.{bit_at_or, bit_at-lt}
use Rattle.std.specs.Prelude.{nat_lt}
use Rattle.std.specs.Int.{bit_at}
use Rattle.std.specs.List.{Any}
use Rattle.rht_words.specs.declared.machine.Next.{Next}
use Rattle.rht_words.specs.declared.machine.Next.TheVariants.{Done}
use Rattle.rht_words.specs.declared.geometry.Geometry.{Geometry}
use Rattle.rht_words.specs.Places.{PageMap, place_of}
use Rattle.rht_words.specs.Operations.{op_place, word_after}
use Rattle.rht_words.specs.Machines.{Performed, went_on, ran}
use Rattle.rht_arena.specs.PageRuns.{run_bits}
use Rattle.rht_arena.specs.GiveRun.{GiveRunModel, give_run_plan, give_run_after}
use Rattle.rht_arena.specs.RunLaws.{page_place, page_bit, IsOfRun, GivesPage, GivingRunSetsItsBits}
use Rattle.rht_arena.proofs.RunBits.{bit_at-run, bit_at-run_from, bit_at-run_until}
use Rattle.rht_arena.proofs.NodesInTurn.{Any-behind}

module _ (g : Geometry) (first pages : ℕ) where
  -- the giving back at a word of the map
  abbrev pub giving : ℕ → GiveRunModel
  giving index = record { geometry = g; first = first; pages = pages; index = index }

  module _ (page : ℕ) (of_run : IsOfRun first pages page) where
    -- the operation at the page's word sets its bit
    pub gives_page : (index old : ℕ) → page / 64 ≡ index
        → GivesPage g page (record { op = give_run_plan (giving index); old = old })
    gives_page index old is =
        let bits = run_bits first pages index in
        let bit = page % 64 in
        let from : first ≤ 64 * index + bit = omega (arith, of_run.from, is) in
        let until : 64 * index + bit < first + pages = omega (arith, of_run.below, is) in
        let set = bit_at-run first pages index bit (omega arith) from until in
        record {
          place = ap (λ w. place_of g (PageMap w)) (sym is);
          sets = omega (arith, bit_at_or old bits bit, set, bit_at-lt old bit);
        }

    -- By induction over the words that the operations find: the page's word is this one or one behind it.
    gives : (olds : List ℕ) (index : ℕ) → 64 * index ≤ page
        → (ran give_run_plan give_run_after (giving index) olds).next ≡ Done tt
        → Any (GivesPage g page) (ran give_run_plan give_run_after (giving index) olds).steps
    gives [] index low done = absurd (cc)
    gives (old ∷ olds) index low done =
        let step : Performed = record { op = give_run_plan (giving index); old = old } in
        cond_both {A = GiveRunModel × Next (Unit {0})} (nat_lt (64 * (index + 1)) (first + pages)) _ _
        (λ next. (went_on step next.1 (ran give_run_plan give_run_after next.0 olds)).next ≡ Done tt
        → Any (GivesPage g page) (went_on step next.1 (ran give_run_plan give_run_after next.0 olds)).steps)
        (λ more later. elim (cases_lt page (64 * (index + 1))) [
          | inl here ↦ (0, step, omega arith, refl, gives_page index old (omega (arith, here, low)))
          | inr behind ↦
              Any-behind (GivesPage g page) step (ran give_run_plan give_run_after (giving (index + 1)) olds).steps
              (gives olds (index + 1) behind later)
        ])
        (λ f last.
        let end : first + pages ≤ 64 * (index + 1) = ltb-false (64 * (index + 1)) (first + pages) f in
        (0, step, omega arith, refl, gives_page index old (omega (arith, of_run.below, end, low))))
        done

-- a bit that stands for no page of the run stays
leaves_other : (m : GiveRunModel) (old page : ℕ) → op_place (give_run_plan m) ≡ page_place m.geometry page
    → (IsOfRun m.first m.pages page → ⊥)
    → bit_at (word_after old (give_run_plan m)) (page_bit page) ≡ bit_at old (page_bit page)
leaves_other m old page is other =
    let bits = run_bits m.first m.pages m.index in
    let bit = page % 64 in
    let low : bit < 64 = omega arith in
    let same : page / 64 ≡ m.index = omega (arith, is) in
    elim (cases_eq (bit_at bits bit) 1) [
      | inl set ↦
          let from = bit_at-run_from m.first m.pages m.index bit low set in
          let until = bit_at-run_until m.first m.pages m.index bit low set in
          absurd (other (record { from = omega (arith, from, same); below = omega (arith, until, same) }))
      | inr clear ↦ omega (arith, bit_at_or old bits bit, clear, bit_at-lt bits bit)
    ]

pub giving_run_sets_its_bits : GivingRunSetsItsBits
giving_run_sets_its_bits = record {
  sets = λ g first pages olds done page of_run.
      gives g first pages page of_run olds (first / 64) (omega (arith, of_run.from)) done;
  leaves = leaves_other;
}
