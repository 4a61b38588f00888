-- The pages that the taking and the giving back of a run have, as lists, and what one operation makes of them.
use Rattle.std.proofs.Common.{◌≡◌, ◌⊎◌, ◌↔◌, ℕ, zero, suc, ◌+◌, ◌-◌, ◌*◌, ◌/◌, ◌%◌, ◌<◌, ◌≤◌, List, [], ◌∷◌, Option, Some, None, Bool, true, false, cond, bit_and, nat_lt, refl, sym, ◌∙◌, ap, subst, inl, inr, arith}
use Rattle.std.specs.Prelude.{◌==◌, ◌&&◌, nat_le}
use Rattle.std.specs.Int.{bit_at}
use Rattle.std.specs.List.{filter, range_with_len}
use Rattle.std.proofs.lemmas.Bool.{cases_lt, cond_both, eqb-true, ltb-true, ltb-false, leb-true, leb-false, le-leb, and_parts, and_from, or_cases, or_left, or_right, both_ways}
use Rattle.std.proofs.lemmas.Bool.Decides.{nat_tests}
use Rattle.std.proofs.lemmas.Nat.Bits.{bit_at_and, bit_at-lt, bit_at-zero}
use Rattle.rht_words.specs.declared.machine.Next.{Next}
use Rattle.rht_words.specs.declared.machine.Next.TheVariants.{Go, Done}
use Rattle.rht_words.specs.Members.{In}
use Rattle.rht_words.proofs.Members.{In-range_with_len, range_with_len-In}
use Rattle.rht_words.proofs.FilteredLists.{false_from, same_tests, filter-In, In-filter, filter-same, filter-none, range_with_len-from, below-In, In-below}
use Rattle.rht_arena.specs.PageRuns.{run_bits}
use Rattle.rht_arena.specs.GiveRun.{give_run_new, has_yet, pages_of_give_run}
use Rattle.rht_words.specs.declared.geometry.Geometry.{Geometry}
use Rattle.rht_arena.specs.TakeRun.{TakeRunModel, first_run, next_run, given_below, given_from, claimed, cleared, has_run, has_page, pages_of_take_run, IsRunAt}
use Rattle.rht_arena.specs.declared.take_run.TakeRunAt.TheVariants.{GiveBack}
use Rattle.rht_arena.proofs.RunBits.{bit_at-run, bit_at-run_from, bit_at-run_until}
use Rattle.rht_ghost.proofs.Theory.Ghosts.{has_bit}
use Rattle.rht_ghost.proofs.Moves.Pages.{has_bit-is, is_has_bit}

-- ---- lists by tests

-- from the first number on, and below the second
abbrev pub is_between : ℕ → ℕ → ℕ → Bool
is_between low high x = nat_le low x && nat_lt x high

pub between-is : (low high x : ℕ) → is_between low high x ≡ true → (low ≤ x) × (x < high)
between-is low high x is =
    let both = and_parts (nat_le low x) (nat_lt x high) is in
    (leb-true low x both.0, ltb-true x high both.1)

is-between : (low high x : ℕ) → low ≤ x → x < high → is_between low high x ≡ true
is-between low high x from below = grind (arith, nat_tests, from, below)

-- ---- the taking of a run

-- it begins with none
pub first_run-none : (g : Geometry) (pages : ℕ) → pages_of_take_run (first_run g pages) ≡ []
first_run-none g pages =
    filter-none (is_between 0 (64 * 0)) (range_with_len 0 g.pages)
    (λ x. false_from (is_between 0 (64 * 0) x)
    (λ is. let range = between-is 0 (64 * 0) x is in omega (arith, range.1)))

-- what it has behind an operation: once it has ended, the run or nothing
abbrev pub pages_behind : TakeRunModel × Next (Option ℕ) → List ℕ
pages_behind (n, Go) = pages_of_take_run n
pages_behind (n, Done None) = []
pages_behind (n, Done (Some first)) = range_with_len first n.pages

module _ (m : TakeRunModel) where
  abbrev pages : ℕ
  pages = m.pages

  abbrev all : ℕ
  all = m.geometry.pages

  -- the pages from the run's first on, in the words before this one
  abbrev pub before : ℕ → ℕ → List ℕ
  before first index = filter (is_between first (64 * index)) (range_with_len 0 all)

  before-is : (first index p : ℕ) → In p (before first index) → (p < all) × (first ≤ p) × (p < 64 * index)
  before-is first index p i =
      let member = filter-In (is_between first (64 * index)) p (range_with_len 0 all) i in
      let range = between-is first (64 * index) p member.1 in
      (In-below all p member.0, range.0, range.1)

  is-before : (first index p : ℕ) → p < all → first ≤ p → p < 64 * index → In p (before first index)
  is-before first index p l from below =
      In-filter (is_between first (64 * index)) p (range_with_len 0 all)
      (below-In all p l) (is-between first (64 * index) p from below)

  -- behind a run comes the next one, of which nothing was taken
  next_run-pages : (first : ℕ) → pages_behind (next_run m first) ≡ []
  next_run-pages first =
      cond_both (nat_le (first + 2 * pages) all) _ _ (λ r. pages_behind r ≡ [])
      (λ t. filter-none (is_between (first + pages) (64 * ((first + pages) / 64))) (range_with_len 0 all)
      (λ x. false_from (is_between (first + pages) (64 * ((first + pages) / 64)) x)
      (λ is. let range = between-is (first + pages) (64 * ((first + pages) / 64)) x is in
      omega (arith, range.0, range.1))))
      (λ f. refl)

  -- what is given back of the word before is what was taken of it
  given-pages : (first index : ℕ) → IsRunAt m.geometry pages first index → first < 64 * index → (x : ℕ)
      → has_page pages (GiveBack first (index - 1) (run_bits first pages (index - 1))) x
      ≡ is_between first (64 * index) x
  given-pages first index at later x =
      let i = index - 1 in
      let bits = run_bits first pages i in
      same_tests (has_page pages (GiveBack first i bits) x) (is_between first (64 * index) x)
      (λ is. elim (or_cases (is_between first (64 * i) x) (has_bit i bits x) is) [
        | inl earlier ↦
            let range = between-is first (64 * i) x earlier in
            is-between first (64 * index) x range.0 (omega (arith, range.1))
        | inr here ↦
            let bit = has_bit-is i bits x here in
            let from = bit_at-run_from first pages i (x % 64) (omega arith) bit.1 in
            is-between first (64 * index) x (omega (arith, from, bit.0)) (omega (arith, bit.0, later))
      ])
      (λ is.
      let range = between-is first (64 * index) x is in
      elim (cases_lt x (64 * i)) [
        | inl earlier ↦ or_left (is_between first (64 * i) x) (has_bit i bits x)
            (is-between first (64 * i) x range.0 earlier)
        | inr here ↦
            let word : x / 64 ≡ i = omega (arith, here, range.1) in
            let until = at.word.until in
            or_right (is_between first (64 * i) x) (has_bit i bits x)
            (is_has_bit i bits x word (bit_at-run first pages i (x % 64) (omega arith)
            (omega (arith, range.0, word)) (omega (arith, range.1, word, until))))
      ])

  -- so a run that was seen taken has still what was taken of it
  pub given_below-pages : (first index : ℕ) → IsRunAt m.geometry pages first index
      → pages_behind (given_below m first index) ≡ before first index
  given_below-pages first index at =
      cond_both (nat_le (64 * index) first) _ _ (λ r. pages_behind r ≡ before first index)
      (λ t.
      let low : 64 * index ≤ first = leb-true (64 * index) first t in
      next_run-pages first ∙ sym (filter-none (is_between first (64 * index)) (range_with_len 0 all)
      (λ x. false_from (is_between first (64 * index) x)
      (λ is. let range = between-is first (64 * index) x is in omega (arith, low, range.0, range.1)))))
      (λ f. filter-same (has_page pages (GiveBack first (index - 1) (run_bits first pages (index - 1))))
      (is_between first (64 * index)) (range_with_len 0 all)
      (given-pages first index at (leb-false (64 * index) first f)))

  -- ---- what an And takes

  -- the pages behind are those before, and those of these bits of this word
  abbrev pub IsMore : ℕ → ℕ → ℕ → List ℕ → Type 0
  IsMore first index bits after = (p : ℕ) → In p after ↔ (In p (before first index) ⊎ (has_bit index bits p ≡ true))

  module _ (first index : ℕ) (at : IsRunAt m.geometry pages first index) where
    abbrev run : ℕ
    run = run_bits first pages index

    -- a page of the run in this word, and the other way round
    bit_in_run : (p : ℕ) → has_bit index run p ≡ true → (p / 64 ≡ index) × (first ≤ p) × (p < first + pages)
    bit_in_run p there =
        let bit = has_bit-is index run p there in
        let from = bit_at-run_from first pages index (p % 64) (omega arith) bit.1 in
        let until = bit_at-run_until first pages index (p % 64) (omega arith) bit.1 in
        (bit.0, omega (arith, from, bit.0), omega (arith, until, bit.0))

    -- so is a page of what an And finds of it
    pub found_within : (word p : ℕ) → has_bit index (bit_and word run) p ≡ true → p < all
    found_within word p there =
        let bit = has_bit-is index (bit_and word run) p there in
        let of_run : has_bit index run p ≡ true = is_has_bit index run p bit.0
        (omega (arith, bit.1, bit_at_and word run (p % 64), bit_at-lt run (p % 64))) in
        let is = bit_in_run p of_run in
        let within = at.run.within in
        omega (arith, is.2, within)

    in_run-bit : (p : ℕ) → p / 64 ≡ index → first ≤ p → p < first + pages → has_bit index run p ≡ true
    in_run-bit p word from until =
        is_has_bit index run p word (bit_at-run first pages index (p % 64) (omega arith) (omega (arith, from, word))
        (omega (arith, until, word)))

    claimed-more : IsMore first index run (pages_behind (claimed m first index))
    claimed-more p =
        let within = at.run.within in
        let until_word = at.word.until in
        cond_both (nat_lt (64 * (index + 1)) (first + pages)) _ _
        (λ r. In p (pages_behind r) ↔ (In p (before first index) ⊎ (has_bit index run p ≡ true)))
        (λ t.
        let more : 64 * (index + 1) < first + pages = ltb-true (64 * (index + 1)) (first + pages) t in (
          λ i.
              let is = before-is first (index + 1) p i in
              elim (cases_lt p (64 * index)) [
                | inl earlier ↦ inl (is-before first index p is.0 is.1 earlier)
                | inr here ↦ inr (in_run-bit p (omega (arith, here, is.2)) is.1 (omega (arith, is.2, more)))
              ],
          λ some. elim some [
            | inl earlier ↦
                let is = before-is first index p earlier in
                is-before first (index + 1) p is.0 is.1 (omega (arith, is.2))
            | inr here ↦
                let is = bit_in_run p here in
                is-before first (index + 1) p (omega (arith, is.2, within)) is.1 (omega (arith, is.0))
          ],
        ))
        (λ f.
        let last : first + pages ≤ 64 * (index + 1) = ltb-false (64 * (index + 1)) (first + pages) f in (
          λ i.
              let from = range_with_len-from first pages p i in
              let until = range_with_len-In first pages p i in
              elim (cases_lt p (64 * index)) [
                | inl earlier ↦ inl (is-before first index p (omega (arith, until, within)) from earlier)
                | inr here ↦ inr (in_run-bit p (omega (arith, here, until, last)) from until)
              ],
          λ some. elim some [
            | inl earlier ↦
                let is = before-is first index p earlier in
                In-range_with_len first pages p is.1 (omega (arith, is.2, until_word))
            | inr here ↦ let is = bit_in_run p here in In-range_with_len first pages p is.1 is.2
          ],
        ))

    -- where the And lost the run, what it cleared is given back
    lost-more : (word : ℕ) → IsMore first index (bit_and word run)
        (pages_behind (given_from m first index (bit_and word run)))
    lost-more word p =
        let bits = bit_and word run in
        let within = at.run.within in
        cond_both (bits == 0) _ _
        (λ r. In p (pages_behind r) ↔ (In p (before first index) ⊎ (has_bit index bits p ≡ true)))
        (λ t.
        let none : bits ≡ 0 = eqb-true bits 0 t in
        let same = given_below-pages first index at in (
          λ i. inl (subst (In p) same i),
          λ some. elim some [
            | inl earlier ↦ subst (In p) (sym same) earlier
            | inr here ↦
                let bit = has_bit-is index bits p here in
                let zero : bit_at bits (p % 64) ≡ 0 = ap (λ w. bit_at w (p % 64)) none ∙ bit_at-zero (p % 64) in
                absurd (omega (arith, bit.1, zero))
          ],
        ))
        (λ f.
        let test = has_page pages (GiveBack first index bits) in (
          λ i.
              let member = filter-In test p (range_with_len 0 all) i in
              let l = In-below all p member.0 in
              elim (or_cases (is_between first (64 * index) p) (has_bit index bits p) member.1) [
                | inl earlier ↦
                    let range = between-is first (64 * index) p earlier in
                    inl (is-before first index p l range.0 range.1)
                | inr here ↦ inr here
              ],
          λ some. elim some [
            | inl earlier ↦
                let is = before-is first index p earlier in
                In-filter test p (range_with_len 0 all) (below-In all p is.0)
                (or_left (is_between first (64 * index) p) (has_bit index bits p)
                (is-between first (64 * index) p is.1 is.2))
            | inr here ↦
                let bit = has_bit-is index bits p here in
                let of_run : has_bit index run p ≡ true = is_has_bit index run p bit.0
                (omega (arith, bit.1, bit_at_and word run (p % 64), bit_at-lt run (p % 64))) in
                let is = bit_in_run p of_run in
                In-filter test p (range_with_len 0 all)
                (below-In all p (omega (arith, is.2, within)))
                (or_right (is_between first (64 * index) p) (has_bit index bits p) here)
          ],
        ))

    -- whatever the And found
    pub cleared-more : (word : ℕ) → IsMore first index (bit_and word run) (pages_behind (cleared m first index word))
    cleared-more word p =
        cond_both (has_run first pages index word) _ _
        (λ r. In p (pages_behind r) ↔ (In p (before first index) ⊎ (has_bit index (bit_and word run) p ≡ true)))
        (λ t.
        let every : bit_and word run ≡ run = eqb-true (bit_and word run) run t in
        subst (λ bits. In p (pages_behind (claimed m first index))
        ↔ (In p (before first index) ⊎ (has_bit index bits p ≡ true))) (sym every) (claimed-more p))
        (λ f. lost-more word p)

    -- ---- what an Or gives back

    module _ (bits : ℕ) (of_run : bit_and bits run ≡ bits) where
      bits_in_run : (p : ℕ) → has_bit index bits p ≡ true → (p / 64 ≡ index) × (first ≤ p) × (p < first + pages)
      bits_in_run p there =
          let bit = has_bit-is index bits p there in
          let same : bit_at (bit_and bits run) (p % 64) ≡ bit_at bits (p % 64) = ap (λ w. bit_at w (p % 64)) of_run in
          bit_in_run p (is_has_bit index run p bit.0
          (omega (arith, bit.1, same, bit_at_and bits run (p % 64), bit_at-lt run (p % 64))))

      pub given_within : (p : ℕ) → has_bit index bits p ≡ true → p < all
      given_within p there = let is = bits_in_run p there in let within = at.run.within in omega (arith, is.2, within)

      pub given-had : (p : ℕ) → has_bit index bits p ≡ true
          → In p (filter (has_page pages (GiveBack first index bits)) (range_with_len 0 all))
      given-had p there =
          let is = bits_in_run p there in
          let within = at.run.within in
          In-filter (has_page pages (GiveBack first index bits)) p (range_with_len 0 all)
          (below-In all p (omega (arith, is.2, within)))
          (or_right (is_between first (64 * index) p) (has_bit index bits p) there)

      pub given-less : (p : ℕ) → In p (pages_behind (given_below m first index))
          ↔ (In p (filter (has_page pages (GiveBack first index bits)) (range_with_len 0 all))
          × (has_bit index bits p ≡ false))
      given-less p =
          let same = given_below-pages first index at in
          let test = has_page pages (GiveBack first index bits) in (
            λ i.
                let is = before-is first index p (subst (In p) same i) in (
                  In-filter test p (range_with_len 0 all) (below-In all p is.0)
                      (or_left (is_between first (64 * index) p) (has_bit index bits p)
                      (is-between first (64 * index) p is.1 is.2)),
                  false_from (has_bit index bits p)
                      (λ there. let bit = has_bit-is index bits p there in omega (arith, bit.0, is.2)),
                ),
            λ both.
                let member = filter-In test p (range_with_len 0 all) both.0 in
                let l = In-below all p member.0 in
                elim (or_cases (is_between first (64 * index) p) (has_bit index bits p) member.1) [
                  | inl earlier ↦
                      let range = between-is first (64 * index) p earlier in
                      subst (In p) (sym same) (is-before first index p l range.0 range.1)
                  | inr here ↦ absurd (both_ways (has_bit index bits p) both.1 here)
                ],
          )

-- ---- the giving back of a run

-- none of the numbers of a range passes a test that none passes from its first on
filter-none_from : (t : ℕ → Bool) (a n : ℕ) → ((x : ℕ) → a ≤ x → t x ≡ false) → filter t (range_with_len a n) ≡ []
filter-none_from t a zero none = refl
filter-none_from t a (suc n) none =
    ap (λ b. cond b (a ∷ filter t (range_with_len (a + 1) n)) (filter t (range_with_len (a + 1) n)))
    (none a (omega arith)) ∙ filter-none_from t (a + 1) n (λ x l. none x (omega (arith, l)))

-- the numbers from the first on and below the second are a range, among those below a bound
filter_range : (t : ℕ → Bool) (a n first k : ℕ) → a ≤ first → first + k ≤ a + n
    → ((x : ℕ) → first ≤ x → x < first + k → t x ≡ true)
    → ((x : ℕ) → a ≤ x → (x < first) ⊎ (first + k ≤ x) → t x ≡ false)
    → filter t (range_with_len a n) ≡ range_with_len first k
filter_range t a n first zero low high there other = filter-none_from t a n
    (λ x l. other x l (elim (cases_lt x first) [ inl less ↦ inl less | inr more ↦ inr (omega (arith, more)) ]))
filter_range t a zero first (suc k) low high there other = absurd (omega (arith, low, high))
filter_range t a (suc n) first (suc k) low high there other = elim (cases_lt a first) [
  | inl less ↦
      ap (λ b. cond b (a ∷ filter t (range_with_len (a + 1) n)) (filter t (range_with_len (a + 1) n)))
      (other a (omega arith) (inl less))
      ∙ filter_range t (a + 1) n first (suc k) (omega (arith, less)) (omega (arith, high)) there
      (λ x l o. other x (omega (arith, l)) o)
  | inr more ↦
      let same : a ≡ first = omega (arith, low, more) in
      ap (λ b. cond b (a ∷ filter t (range_with_len (a + 1) n)) (filter t (range_with_len (a + 1) n)))
      (there a (omega (arith, same)) (omega (arith, same)))
      ∙ ap (λ f. f ∷ filter t (range_with_len (a + 1) n)) same
      ∙ ap (λ xs. first ∷ xs) (filter_range t (a + 1) n (first + 1) k (omega (arith, same)) (omega (arith, high, same))
      (λ x l u. there x (omega (arith, l)) (omega (arith, u)))
      (λ x l o. other x (omega (arith, l)) (elim o [
        | inl less ↦ absurd (omega (arith, l, less, same))
        | inr past ↦ inr (omega (arith, past))
      ])))
]

-- so to give back a run is to have its pages
pub given-range : (g : Geometry) (first pages : ℕ) → first + pages ≤ g.pages
    → pages_of_give_run (give_run_new g first pages) ≡ range_with_len first pages
given-range g first pages within =
    let give = give_run_new g first pages in
    filter_range (has_yet give) 0 g.pages first pages (omega arith) (omega (arith, within))
    (λ x from until. and_from (nat_le (64 * (first / 64)) x) (nat_le first x && nat_lt x (first + pages))
    (le-leb (64 * (first / 64)) x (omega (arith, from))) (is-between first (first + pages) x from until))
    (λ x l out. false_from (has_yet give x) (λ is.
    let both = and_parts (nat_le (64 * (first / 64)) x) (nat_le first x && nat_lt x (first + pages)) is in
    let range = between-is first (first + pages) x both.1 in
    elim out [
      | inl less ↦ omega (arith, less, range.0)
      | inr past ↦ omega (arith, past, range.1)
    ]))
