-- The pages of a table are those of its run, from its first page on; and those that its giving back has still to give, as it
-- begins, are the same.
use Rattle.std.proofs.Common.{◌≡◌, ℕ, zero, suc, ◌+◌, ◌-◌, ◌*◌, ◌/◌, ◌%◌, ◌<◌, ◌≤◌, max, min, Bool, true, false, cond, ◌∷◌, refl, ap, ◌∙◌, inl, inr, arith}
use Rattle.std.specs.Prelude.{◌&&◌, nat_le, nat_lt}
use Rattle.std.specs.List.{filter, range_with_len}
use Rattle.std.proofs.lemmas.Bool.{cases_lt}
use Rattle.std.proofs.lemmas.Bool.Decides.{nat_tests}
use Rattle.rht_words.specs.declared.geometry.Geometry.{Geometry}
use Rattle.rht_words.specs.Members.{In}
use Rattle.rht_words.proofs.Members.{range_with_len-In}
use Rattle.rht_words.specs.Shapes.{unpacked}
use Rattle.rht_nest.specs.Tables.{table_pages, pages_of_shape, run_first, run_pages, pages_of_table}
use Rattle.rht_nest.proofs.MakesStay.{table_pages-some}
use Rattle.rht_nest.specs.Make.{shape_made, pages_taken}
use Rattle.rht_nest.specs.Unmake.{unmake_new, pages_of_unmake}

-- a row of as many numbers from the same one on
row_same : (a b n m : ℕ) → a ≡ b → n ≡ m → range_with_len a n ≡ range_with_len b m
row_same a b n m first many = ap (λ x. range_with_len x n) first ∙ ap (range_with_len b) many

module _ (low first end : ℕ) (behind : low ≤ first) where
  -- the numbers of the run, which is behind the first number of its word
  abbrev in_run : ℕ → Bool
  in_run p = nat_le low p && (nat_le first p && nat_lt p end)

  not_from : (a : ℕ) → a < first → in_run a ≡ false
  not_from a before = grind (arith, nat_tests, before)

  is_in : (a : ℕ) → first ≤ a → a < end → in_run a ≡ true
  is_in a from below = grind (arith, nat_tests, from, below, behind)

  not_below : (a : ℕ) → end ≤ a → in_run a ≡ false
  not_below a above = grind (arith, nat_tests, above)

  -- By induction over the row: of its numbers those of the run are left.
  run_left : (a n : ℕ) → filter in_run (range_with_len a n)
      ≡ range_with_len (max a first) (min (a + n) end - max a first)
  run_left a zero =
      row_same (max a first) (max a first) 0 (min (a + zero) end - max a first) refl (omega arith)
  run_left a (suc n) =
      let rest = filter in_run (range_with_len (a + 1) n) in
      elim (cases_lt a first) [
        | inl before ↦
            ap (λ t. cond t (a ∷ rest) rest) (not_from a before)
            ∙ run_left (a + 1) n
            ∙ row_same (max (a + 1) first) (max a first) (min (a + 1 + n) end - max (a + 1) first)
            (min (a + suc n) end - max a first) (omega (arith, before)) (omega (arith, before))
        | inr from ↦ elim (cases_lt a end) [
          | inl below ↦
              ap (λ t. cond t (a ∷ rest) rest) (is_in a from below)
              ∙ ap (λ l. a ∷ l) (run_left (a + 1) n
              ∙ row_same (max (a + 1) first) (a + 1) (min (a + 1 + n) end - max (a + 1) first)
              (min (a + suc n) end - (a + 1)) (omega (arith, from)) (omega (arith, from)))
              ∙ row_same a (max a first) (suc (min (a + suc n) end - (a + 1))) (min (a + suc n) end - max a first)
              (omega (arith, from)) (omega (arith, from, below))
          | inr above ↦
              ap (λ t. cond t (a ∷ rest) rest) (not_below a above)
              ∙ run_left (a + 1) n
              ∙ row_same (max (a + 1) first) (max (a + 1) first) (min (a + 1 + n) end - max (a + 1) first) 0 refl
              (omega (arith, from, above))
              ∙ row_same (max a first) (max a first) 0 (min (a + suc n) end - max a first) refl
              (omega (arith, from, above))
        ]
      ]

-- a number of a row isn't below its first one
row_from : (a n x : ℕ) → In x (range_with_len a n) → a ≤ x
row_from a zero x i = absurd i
row_from a (suc n) x (inl same) = omega (arith, same)
row_from a (suc n) x (inr later) = let from = row_from (a + 1) n x later in omega (arith, from)

-- a table that is made takes as many pages as its shape says
pub pages_taken-shape : (exponent : ℕ) (nested : Bool) (page : ℕ)
    → table_pages (shape_made exponent nested page) ≡ pages_taken exponent nested
pages_taken-shape exponent true page =
    let entries : nat_lt 0 ((exponent - 1) % 6 + 1) ≡ true = grind (arith, nat_tests) in
    rw entries refl
pages_taken-shape exponent false page = refl

-- where a page of a table is
pub record IsOfTable (shape p : ℕ) : Type 0 where
  pub from : (unpacked shape).page ≤ p
  pub below : p < (unpacked shape).page + table_pages (unpacked shape)

pub page_of_table : (shape p : ℕ) → In p (pages_of_shape shape) → IsOfTable shape p
page_of_table shape p has = record {
  from = row_from (unpacked shape).page (table_pages (unpacked shape)) p has;
  below = range_with_len-In (unpacked shape).page (table_pages (unpacked shape)) p has;
}

module _ (g : Geometry) (shape : ℕ) where
  -- within the pages that there are, nothing of the run is cut off
  pub pages_of_table-shape : (unpacked shape).page + table_pages (unpacked shape) ≤ g.pages
      → pages_of_table g shape ≡ pages_of_shape shape
  pages_of_table-shape fits =
      let takes = table_pages-some (unpacked shape) in
      row_same (run_first g shape) (unpacked shape).page (run_pages g shape) (table_pages (unpacked shape))
      (omega (arith, fits, takes)) (omega (arith, fits, takes))

  pub pages_of_unmake-table : (slot : ℕ) → pages_of_unmake (unmake_new g slot shape).at ≡ pages_of_table g shape
  pages_of_unmake-table slot =
      let first = run_first g shape in
      let pages = run_pages g shape in
      let some = g.within.pages_within in
      let low : 64 * (first / 64) ≤ first = omega arith in
      run_left (64 * (first / 64)) first (first + pages) low 0 g.pages
      ∙ row_same (max 0 first) first (min (0 + g.pages) (first + pages) - max 0 first) pages (omega arith)
      (omega (arith, some))
