-- What the taking of a run holds changes by its operations: by an And the pages are taken whose bits it clears, and by an Or
-- those are given back whose bits it sets.
--
-- A page is held where it stands in the run below the machine's word (`in_part`), or in that word and among the bits that
-- are given back. An And adds what it found of the run's bits in its word, and an Or leaves what stands below its word.
use Rattle.std.proofs.Common.{◌≡◌, ℕ, ◌+◌, ◌-◌, ◌*◌, ◌/◌, ◌%◌, ◌^◌, ◌<◌, ◌≤◌, inl, inr, refl, sym, ap, ◌∙◌, bit_and, arith}
use Rattle.std.specs.Prelude.{Option, Bool, ◌⊎◌, true, false, not, ◌&&◌, ◌||◌, ◌==◌, nat_le, nat_lt}
use Rattle.std.proofs.lemmas.Bool.{cases_lt, cond_both, eqb-true, eq-eqb, ltb-true, ltb-false, leb-true, leb-false, lt-ltb, le-leb, and_parts, and_from, or_cases, or_left, or_right, false_from_ne_true}
use Rattle.std.proofs.lemmas.Nat.Bits.{bit_at_and, bit_at_not, bit_at-lt, bit_at-zero}
use Rattle.std.specs.Int.{bit_at, bit_not, w64}
use Rattle.rht_words.specs.declared.machine.Next.{Next}
use Rattle.rht_words.specs.Places.{PageMap, place_of}
use Rattle.rht_arena.specs.declared.take_run.TakeRunAt.{TakeRunAt}
use Rattle.rht_arena.specs.declared.take_run.TakeRunAt.TheVariants.{MapWord, Claim, GiveBack}
use Rattle.rht_arena.specs.PageRuns.{run_bits}
use Rattle.rht_arena.specs.TakeRun.{TakeRunModel, take_run_plan_at, take_run_after_at, next_run, given_below, given_from, claimed, has_run, has_page, IsRunAt, IsTakeRunAtIn}
use Rattle.rht_arena.specs.RunLaws.{page_place, has_after, has_next, HoldsWhatItTook}
use Rattle.rht_arena.proofs.RunBits.{run_bits-fits, bit_at-run, bit_at-run_from, bit_at-run_until}

-- two tests that hold together are one
same_truth : (a b : Bool) → (a ≡ true → b ≡ true) → (b ≡ true → a ≡ true) → a ≡ b
same_truth true b there back = sym (there refl)
same_truth false true there back = back refl
same_truth false false there back = refl

-- what is added to a part and taken away again leaves it, where it wasn't there before
added_and_taken : (part more : Bool) → (part ≡ true → more ≡ false) → ((part || more) && not more) ≡ part
added_and_taken true more apart = ap (λ b. not b) (apart refl)
added_and_taken false true apart = refl
added_and_taken false false apart = refl

-- and adding nothing leaves it
added_none : (part : Bool) → (part || false) ≡ part
added_none true = refl
added_none false = refl

module _ (page : ℕ) where
  abbrev bit : ℕ
  bit = page % 64

  -- the page stands from here on and below there
  abbrev in_part : ℕ → ℕ → Bool
  in_part first until = nat_le first page && nat_lt page until

  -- it stands in this word, and has its bit among these
  abbrev in_word : ℕ → ℕ → Bool
  in_word index bits = (page / 64 == index) && (bit_at bits bit == 1)

  in_part-from : (first until : ℕ) → first ≤ page → page < until → in_part first until ≡ true
  in_part-from first until low high =
      and_from (nat_le first page) (nat_lt page until) (le-leb first page low) (lt-ltb page until high)

  in_part-low : (first until : ℕ) → in_part first until ≡ true → first ≤ page
  in_part-low first until t = leb-true first page (and_parts (nat_le first page) (nat_lt page until) t).0

  in_part-high : (first until : ℕ) → in_part first until ≡ true → page < until
  in_part-high first until t = ltb-true page until (and_parts (nat_le first page) (nat_lt page until) t).1

  in_part-none : (first until : ℕ) → until ≤ first → in_part first until ≡ false
  in_part-none first until short =
      false_from_ne_true (in_part first until)
      (λ t. absurd (omega (arith, in_part-low first until t, in_part-high first until t, short)))

  in_word-word : (index bits : ℕ) → in_word index bits ≡ true → page / 64 ≡ index
  in_word-word index bits t =
      eqb-true (page / 64) index (and_parts (page / 64 == index) (bit_at bits bit == 1) t).0

  in_word-bit : (index bits : ℕ) → in_word index bits ≡ true → bit_at bits bit ≡ 1
  in_word-bit index bits t =
      eqb-true (bit_at bits bit) 1 (and_parts (page / 64 == index) (bit_at bits bit == 1) t).1

  in_word-from : (index bits : ℕ) → page / 64 ≡ index → bit_at bits bit ≡ 1 → in_word index bits ≡ true
  in_word-from index bits word set =
      and_from (page / 64 == index) (bit_at bits bit == 1) (eq-eqb (page / 64) index word)
      (eq-eqb (bit_at bits bit) 1 set)

  module _ (m : TakeRunModel) (first index : ℕ) where
    abbrev run : ℕ
    run = run_bits first m.pages index

    -- the run's pages below a word and those in it are those up to where the word or the run ends
    up_to : (until : ℕ) → 64 * index ≤ until → until ≤ 64 * (index + 1) → until ≤ first + m.pages
        → ((64 * (index + 1) ≤ until) ⊎ (first + m.pages ≤ until))
        → (in_part first (64 * index) || in_word index run) ≡ in_part first until
    up_to until begins low_word low_run ends =
        let below = in_part first (64 * index) in
        let here = in_word index run in
        let low : bit < 64 = omega arith in
        same_truth (below || here) (in_part first until)
        (λ t. elim (or_cases below here t) [
          | inl earlier ↦
              let high = in_part-high first (64 * index) earlier in
              in_part-from first until (in_part-low first (64 * index) earlier) (omega (arith, high, begins))
          | inr at ↦
              let word = in_word-word index run at in
              let set = in_word-bit index run at in
              let from = bit_at-run_from first m.pages index bit low set in
              let inside = bit_at-run_until first m.pages index bit low set in
              in_part-from first until (omega (arith, from, word)) (elim ends [
                | inl whole ↦ omega (arith, whole, word)
                | inr end ↦ omega (arith, end, inside, word)
              ])
        ])
        (λ t.
        let from = in_part-low first until t in
        let high = in_part-high first until t in
        elim (cases_lt page (64 * index)) [
          | inl earlier ↦ or_left below here (in_part-from first (64 * index) from earlier)
          | inr later ↦
              let word : page / 64 ≡ index = omega (arith, later, high, low_word) in
              let set = bit_at-run first m.pages index bit low (omega (arith, from, word))
              (omega (arith, high, low_run, word)) in
              or_right below here (in_word-from index run word set)
        ])

    -- a page in this word isn't one below it
    apart : (bits : ℕ) → in_part first (64 * index) ≡ true → in_word index bits ≡ false
    apart bits t =
        let high = in_part-high first (64 * index) t in
        false_from_ne_true (in_word index bits)
        (λ w.
        let word = in_word-word index bits w in
        absurd (omega (arith, high, word)))

  module _ (m : TakeRunModel) where
    abbrev held : TakeRunModel × Next (Option ℕ) → Bool
    held next = has_next m.pages next page

    -- at a new run nothing is held
    next_run-held : (first : ℕ) → held (next_run m first) ≡ false
    next_run-held first =
        cond_both (nat_le (first + 2 * m.pages) m.geometry.pages) _ _ (λ next. held next ≡ false)
        (λ t. in_part-none (first + m.pages) (64 * ((first + m.pages) / 64)) (omega arith))
        (λ f. refl)

    -- what is held below a word is given back from there on
    given_below-held : (first index : ℕ) → IsRunAt m.geometry m.pages first index
        → held (given_below m first index) ≡ in_part first (64 * index)
    given_below-held first index here =
        cond_both (nat_le (64 * index) first) _ _ (λ next. held next ≡ in_part first (64 * index))
        (λ t.
        let short : 64 * index ≤ first = leb-true (64 * index) first t in
        next_run-held first ∙ sym (in_part-none first (64 * index) short))
        (λ f.
        let more : first < 64 * index = leb-false (64 * index) first f in
        let same : 64 * (index - 1 + 1) ≡ 64 * index = omega (arith, more) in
        up_to m first (index - 1) (64 * index) (omega arith) (omega (arith, same)) (omega (arith, here.word.until))
        (inl (omega (arith, same))))

    -- and so are these bits, where there are any
    given_from-held : (first index bits : ℕ) → IsRunAt m.geometry m.pages first index
        → held (given_from m first index bits) ≡ (in_part first (64 * index) || in_word index bits)
    given_from-held first index bits here =
        cond_both (bits == 0) _ _
        (λ next. held next ≡ (in_part first (64 * index) || in_word index bits))
        (λ t.
        let zero : bits ≡ 0 = eqb-true bits 0 t in
        let none : in_word index bits ≡ false =
        false_from_ne_true (in_word index bits)
        (λ w.
        let clear : bit_at bits bit ≡ 0 = ap (λ b. bit_at b bit) zero ∙ bit_at-zero bit in
        absurd (omega (arith, clear, in_word-bit index bits w))) in
        given_below-held first index here
        ∙ (sym (added_none (in_part first (64 * index)))
        ∙ ap (λ b. in_part first (64 * index) || b) (sym none)))
        (λ f. refl)

    -- where all of them were taken they are held
    claimed-held : (first index : ℕ) → IsRunAt m.geometry m.pages first index
        → held (claimed m first index)
        ≡ (in_part first (64 * index) || in_word index (run_bits first m.pages index))
    claimed-held first index here =
        cond_both (nat_lt (64 * (index + 1)) (first + m.pages)) _ _
        (λ next. held next ≡ (in_part first (64 * index) || in_word index (run_bits first m.pages index)))
        (λ t.
        let more : 64 * (index + 1) < first + m.pages = ltb-true (64 * (index + 1)) (first + m.pages) t in
        sym (up_to m first index (64 * (index + 1)) (omega arith) (omega arith) (omega (arith, more))
        (inl (omega arith))))
        (λ f.
        let last : first + m.pages ≤ 64 * (index + 1) = ltb-false (64 * (index + 1)) (first + m.pages) f in
        sym (up_to m first index (first + m.pages) (omega (arith, here.word.until)) last (omega arith)
        (inr (omega arith))))

    -- the And takes those of the run's bits that it found set
    taken-held : (first index old : ℕ) → IsRunAt m.geometry m.pages first index
        → has_after m.geometry page (in_part first (64 * index)) old (take_run_plan_at m.geometry m.pages (Claim first index))
        ≡ (in_part first (64 * index) || in_word index (bit_and old (run_bits first m.pages index)))
    taken-held first index old here =
        let g = m.geometry in
        let bits = run_bits first m.pages index in
        let mask = bit_not w64 bits in
        let low : bit < 64 = omega arith in
        let fits : bits < 2 ^ 64 = run_bits-fits first m.pages index in
        let inverse = bit_at_not w64 bits bit fits low in
        let both = bit_at_and old bits bit in
        let place = place_of g (PageMap index) in
        let cleared = (bit_at mask bit == 0) && (bit_at old bit == 1) in
        let takes = (place == page_place g page) && cleared in
        ap (λ b. in_part first (64 * index) || b)
        (same_truth takes (in_word index (bit_and old bits))
        (λ t.
        let parts = and_parts (place == page_place g page) cleared t in
        let word : page / 64 ≡ index = omega (arith, eqb-true place (page_place g page) parts.0) in
        let cleared_both = and_parts (bit_at mask bit == 0) (bit_at old bit == 1) parts.1 in
        let off : bit_at mask bit ≡ 0 = eqb-true (bit_at mask bit) 0 cleared_both.0 in
        let on : bit_at old bit ≡ 1 = eqb-true (bit_at old bit) 1 cleared_both.1 in
        in_word-from index (bit_and old bits) word (omega (arith, off, on, inverse, both, bit_at-lt bits bit)))
        (λ w.
        let word = in_word-word index (bit_and old bits) w in
        let set = in_word-bit index (bit_and old bits) w in
        let off : bit_at mask bit ≡ 0 = omega (arith, set, inverse, both, bit_at-lt bits bit, bit_at-lt old bit) in
        let on : bit_at old bit ≡ 1 = omega (arith, set, both, bit_at-lt bits bit, bit_at-lt old bit) in
        and_from (place == page_place g page) cleared
        (eq-eqb place (page_place g page) (ap (λ i. place_of g (PageMap i)) (sym word)))
        (and_from (bit_at mask bit == 0) (bit_at old bit == 1) (eq-eqb (bit_at mask bit) 0 off)
        (eq-eqb (bit_at old bit) 1 on))))

    -- the Or gives back what it sets
    given-held : (first index bits old : ℕ)
        → has_after m.geometry page (in_part first (64 * index) || in_word index bits) old
        (take_run_plan_at m.geometry m.pages (GiveBack first index bits))
        ≡ in_part first (64 * index)
    given-held first index bits old =
        let g = m.geometry in
        let place = place_of g (PageMap index) in
        let part = in_part first (64 * index) in
        let gives = (place == page_place g page) && (bit_at bits bit == 1) in
        let same : gives ≡ in_word index bits =
        same_truth gives (in_word index bits)
        (λ t.
        let parts = and_parts (place == page_place g page) (bit_at bits bit == 1) t in
        let word : page / 64 ≡ index = omega (arith, eqb-true place (page_place g page) parts.0) in
        in_word-from index bits word (eqb-true (bit_at bits bit) 1 parts.1))
        (λ w.
        let word = in_word-word index bits w in
        and_from (place == page_place g page) (bit_at bits bit == 1)
        (eq-eqb place (page_place g page) (ap (λ i. place_of g (PageMap i)) (sym word)))
        (eq-eqb (bit_at bits bit) 1 (in_word-bit index bits w))) in
        ap (λ b. (part || in_word index bits) && not b) same
        ∙ added_and_taken part (in_word index bits) (apart m first index bits)

    -- By cases on the state.
    held_after : (state : TakeRunAt) (old : ℕ) → IsTakeRunAtIn m.geometry m.pages state
        → held (take_run_after_at m state old)
        ≡ has_after m.geometry page (has_page m.pages state page) old (take_run_plan_at m.geometry m.pages state)
    held_after (MapWord first index) old here =
        cond_both (has_run first m.pages index old) _ _ (λ next. held next ≡ in_part first (64 * index))
        (λ t. refl) (λ f. given_below-held first index here)
    held_after (Claim first index) old here =
        let bits = run_bits first m.pages index in
        cond_both (has_run first m.pages index old) _ _
        (λ next. held next
        ≡ has_after m.geometry page (in_part first (64 * index)) old (take_run_plan_at m.geometry m.pages (Claim first index)))
        (λ t.
        let all : bit_and old bits ≡ bits = eqb-true (bit_and old bits) bits t in
        claimed-held first index here
        ∙ (ap (λ b. in_part first (64 * index) || in_word index b) (sym all) ∙ sym (taken-held first index old here)))
        (λ f. given_from-held first index (bit_and old bits) here ∙ sym (taken-held first index old here))
    held_after (GiveBack first index bits) old here =
        given_below-held first index here.run ∙ sym (given-held first index bits old)

pub holds_what_it_took : HoldsWhatItTook
holds_what_it_took m old page here = held_after page m m.at old here
