-- What the bits that a call has turned come to where it takes pages or gives them back: they are those of its
-- pages.
use Rattle.std.proofs.Common.{◌≡◌, ◌↔◌, ℕ, ◌+◌, ◌*◌, ◌/◌, ◌%◌, ◌<◌, ◌==◌, Bool, true, false, List, refl, sym, ap, ◌∙◌, inl, inr, arith}
use Rattle.std.specs.Int.{bit_at}
use Rattle.std.proofs.lemmas.Bool.{cases_eq, eq-eqb, eqb-true, and_parts, and_from}
use Rattle.rht_words.specs.declared.env.Env.{Env}
use Rattle.rht_words.specs.declared.geometry.Geometry.{Geometry}
use Rattle.rht_words.specs.declared.op.Op.TheVariants.{Store}
use Rattle.rht_words.specs.Members.{In}
use Rattle.rht_words.specs.Operations.{op_place, old_of, word_after}
use Rattle.rht_words.specs.Places.{PageMap, place_of}
use Rattle.rht_words.proofs.Members.{one_if}
use Rattle.rht_model.specs.declared.history.Call.{Call}
use Rattle.rht_arena.specs.RunLaws.{page_place}
use Rattle.rht_ghost.proofs.Theory.Ghosts.{PageFree, PageHeld, has_bit}
use Rattle.rht_ghost.proofs.Theory.Steps.{bare, mem, DoesTakePages, DoesGivePages}
use Rattle.rht_ghost.proofs.Theory.Steps as moves
use Rattle.rht_ghost.proofs.Theory.Readiness.{ArePagesOf}
use Rattle.rht_core.proofs.Undoing.TurnedBits.{turned-far, turned-here, turned-same, pages_bit, IsPageAt, page_or_none, page_at}
use Rattle.rht_core.proofs.Undoing.GoingBack.{EvenBetween, unturned, comes, goes, sum_is, half_sum, clear_where, GoesBack, Kept, by_pages, HadOrTakes, leaves_bit, with_same}

module _ {env : Env} {mix : ℕ → ℕ → ℕ → ℕ} {words_at : ℕ → List ℕ} {call : Call}
    (step : GoesBack env mix words_at call) where
  abbrev g : Geometry
  g = env.geometry

  -- the bit stands where those of these pages do
  pub same_pages : (place bit : ℕ)
      → ((page : ℕ) → place ≡ place_of g (PageMap (page / 64)) → bit ≡ page % 64
      → In page step.before.pages ↔ In page step.after.pages)
      → pages_bit g step.after.pages place bit ≡ pages_bit g step.before.pages place bit
  same_pages place bit same = elim (page_or_none g step.before.pages place bit) [
    | inl none ↦ elim (page_or_none g step.after.pages place bit) [
      | inl none_then ↦ ap one_if (none_then ∙ sym none)
      | inr then ↦
          let here = (same then.page then.there then.bit_is).1 then.has in
          ap one_if (page_at g step.after.pages then.page place bit then.has then.there then.bit_is
          ∙ sym (page_at g step.before.pages then.page place bit here then.there then.bit_is))
    ]
    | inr is ↦
        let here = (same is.page is.there is.bit_is).0 is.has in
        ap one_if (page_at g step.after.pages is.page place bit here is.there is.bit_is
        ∙ sym (page_at g step.before.pages is.page place bit is.has is.there is.bit_is))
  ]

  none_of : (pages : List ℕ) (place bit : ℕ) → (IsPageAt g pages place bit → ⊥)
      → pages_bit g pages place bit ≡ 0
  none_of pages place bit not_so = elim (page_or_none g pages place bit) [
    | inl none ↦ ap one_if none
    | inr is ↦ absurd (not_so is)
  ]

  module _ (index pages_bits : ℕ) (on : op_place step.did.op ≡ place_of g (PageMap index)) where
    -- a page with its bit in this word of the map
    in_word : (page place : ℕ) → op_place step.did.op ≡ place → place ≡ place_of g (PageMap (page / 64))
        → page / 64 ≡ index
    in_word page place at there = omega (arith, at, there, on)

    bit_of_page : (page place bit : ℕ) → op_place step.did.op ≡ place
        → place ≡ place_of g (PageMap (page / 64))
        → bit ≡ page % 64 → bit_at pages_bits bit ≡ 1 → has_bit index pages_bits page ≡ true
    bit_of_page page place bit at there is set =
        and_from (page / 64 == index) (bit_at pages_bits (page % 64) == 1)
        (eq-eqb (page / 64) index (in_word page place at there))
        (eq-eqb (bit_at pages_bits (page % 64)) 1 (ap (bit_at pages_bits) (sym is) ∙ set))

    -- a page of these bits stands there alone
    only_there : (page place bit : ℕ) → has_bit index pages_bits page ≡ true
        → place ≡ place_of g (PageMap (page / 64))
        → bit ≡ page % 64 → (op_place step.did.op ≡ place) × (bit_at pages_bits bit ≡ 1)
    only_there page place bit has there is =
        let parts = and_parts (page / 64 == index) (bit_at pages_bits (page % 64) == 1) has in
        let in_it = eqb-true (page / 64) index parts.0 in (
          omega (arith, on, there, in_it),
          ap (bit_at pages_bits) is ∙ eqb-true (bit_at pages_bits (page % 64)) 1 parts.1,
        )

    -- the page whose bit this is
    abbrev page_of : ℕ → ℕ
    page_of bit = 64 * index + bit

    there_is : (place bit : ℕ) → bit < 64 → op_place step.did.op ≡ place
        → (place ≡ place_of g (PageMap (page_of bit / 64))) × (bit ≡ page_of bit % 64)
    there_is place bit low at =
        let same : page_of bit / 64 ≡ index = omega (arith, low) in
        (omega (arith, at, on, same), omega (arith, low))

  pub take_pages : (index pages_bits : ℕ) → ArePagesOf env mix step.ghost index pages_bits PageFree
      → DoesTakePages g index pages_bits step.did.op step.did.old step.before (bare step.after) → Kept step
  take_pages index pages_bits free does =
      with_same step does.holds refl refl had (λ place bit low.
      inr (by_pages step does.holds place bit (changes place bit low)))
    where
      clears : moves.ClearsBits g index pages_bits step.did.op step.did.old
      clears = does.clears

      had : HadOrTakes step
      had page i = elim ((does.pages page).0 i) [
        | inl before ↦ inl (leaves_bit step page before (λ at. clears.others (page % 64) (omega arith) (λ set.
            let has =
            bit_of_page index pages_bits clears.on page (page_place g page) (page % 64) at refl refl set in
            let free_one = free.owned page has in
            let mine_one = step.may.mine page before in
            let both_ways = sym free_one ∙ mine_one in
            cc)))
        | inr has ↦
            let at =
            only_there index pages_bits clears.on page (page_place g page) (page % 64) has refl refl in
            let low : page % 64 < 64 = omega arith in
            inr (record {
              page_in = free.among page has;
              takes = record {
                place = at.0;
                free = clears.found (page % 64) low at.1;
                clears = clears.cleared (page % 64) low at.1;
              };
            })
      ]

      stays : (place bit : ℕ) → (op_place step.did.op ≡ place → bit_at pages_bits bit ≡ 1 → ⊥)
          → pages_bit g step.after.pages place bit ≡ pages_bit g step.before.pages place bit
      stays place bit not_so = same_pages place bit (λ page there is. (
        λ i. (does.pages page).1 (inl i),
        λ i. elim ((does.pages page).0 i) [
          | inl before ↦ before
          | inr has ↦
              let at = only_there index pages_bits clears.on page place bit has there is in
              absurd (not_so at.0 at.1)
        ],
      ))

      changes : (place bit : ℕ) → bit < 64
          → EvenBetween step place bit (pages_bit g step.before.pages place bit)
          (pages_bit g step.after.pages place bit)
      changes place bit low = elim (cases_eq (op_place step.did.op) place) [
        | inr far ↦ unturned _ _ _ (turned-far place bit step.did far) (stays place bit (λ at set. far at))
        | inl at ↦ elim (cases_eq (bit_at pages_bits bit) 1) [
          | inr unset ↦
              unturned _ _ _ (turned-same place bit step.did (λ here. clears.others bit low unset))
              (stays place bit (λ here set. unset set))
          | inl set ↦
              let page = there_is index pages_bits clears.on place bit low at in
              let has =
              bit_of_page index pages_bits clears.on (64 * index + bit) place bit at page.0 page.1 set in
              let one = half_sum (bit_at step.did.old bit) (bit_at (word_after step.did.old step.did.op) bit)
              (sum_is _ _ (clears.found bit low set) (clears.cleared bit low set)) in
              let now = ap one_if (page_at g step.after.pages (64 * index + bit) place bit
              ((does.pages (64 * index + bit)).1 (inr has)) page.0 page.1) in
              comes _ _ _ (turned-here place bit step.did at ∙ one ∙ sym now)
              (none_of step.before.pages place bit (λ is.
              let free_one = free.owned is.page
              (bit_of_page index pages_bits clears.on is.page place bit at is.there is.bit_is set) in
              let mine_one = step.may.mine is.page is.has in
              let both_ways = sym free_one ∙ mine_one in
              cc))
        ]
      ]

  pub give_pages : (index pages_bits : ℕ)
      → ArePagesOf env mix step.ghost index pages_bits (PageHeld step.caller)
      → DoesGivePages g index pages_bits step.did.op step.did.old step.before (bare step.after) → Kept step
  give_pages index pages_bits mine does =
      with_same step does.holds refl refl had (λ place bit low.
      inr (by_pages step does.holds place bit (changes place bit low)))
    where
      sets : moves.SetsBits g index pages_bits step.did.op step.did.old
      sets = does.sets

      had : HadOrTakes step
      had page i =
          let parts = (does.pages page).0 i in
          inl (leaves_bit step page parts.0 (λ at. sets.others (page % 64) (omega arith) (λ set.
          let has =
          bit_of_page index pages_bits sets.on page (page_place g page) (page % 64) at refl refl set in
          let both_ways = sym parts.1 ∙ has in
          cc)))

      not_one : (page : ℕ) (t : Bool) → has_bit index pages_bits page ≡ t
          → (has_bit index pages_bits page ≡ true → ⊥)
          → has_bit index pages_bits page ≡ false
      not_one page true is not_so = absurd (not_so is)
      not_one page false is not_so = is

      stays : (place bit : ℕ) → (op_place step.did.op ≡ place → bit_at pages_bits bit ≡ 1 → ⊥)
          → pages_bit g step.after.pages place bit ≡ pages_bit g step.before.pages place bit
      stays place bit not_so = same_pages place bit (λ page there is. (
        λ i. (does.pages page).1 (
          i,
          not_one page (has_bit index pages_bits page) refl (λ has.
              let at = only_there index pages_bits sets.on page place bit has there is in not_so at.0 at.1),
        ),
        λ i. ((does.pages page).0 i).0,
      ))

      -- the bit of a page that the call has is clear
      clear : (place bit : ℕ) → bit < 64 → op_place step.did.op ≡ place → bit_at pages_bits bit ≡ 1
          → bit_at step.did.old bit ≡ 0
      clear place bit low at set =
          let page = there_is index pages_bits sets.on place bit low at in
          let p = 64 * index + bit in
          let has = bit_of_page index pages_bits sets.on p place bit at page.0 page.1 set in
          let there : step.did.old ≡ mem env mix step.words (PageMap (p / 64)) =
          step.found ∙ ap (λ o. old_at o) (at ∙ page.0) in
          clear_where step.did.old bit (λ one.
          let free = (step.whole.pages.bits p (mine.among p has)).0
          (sym (ap (bit_at (mem env mix step.words (PageMap (p / 64)))) page.1)
          ∙ ap (λ w. bit_at w bit) (sym there) ∙ one) in
          let held = mine.owned p has in
          let both_ways = sym held ∙ free in
          cc)
        where
          old_at : ℕ → ℕ
          old_at place = old_of step.words (Store place 0)

      changes : (place bit : ℕ) → bit < 64
          → EvenBetween step place bit (pages_bit g step.before.pages place bit)
          (pages_bit g step.after.pages place bit)
      changes place bit low = elim (cases_eq (op_place step.did.op) place) [
        | inr far ↦ unturned _ _ _ (turned-far place bit step.did far) (stays place bit (λ at set. far at))
        | inl at ↦ elim (cases_eq (bit_at pages_bits bit) 1) [
          | inr unset ↦
              unturned _ _ _ (turned-same place bit step.did (λ here. sets.others bit low unset))
              (stays place bit (λ here set. unset set))
          | inl set ↦
              let page = there_is index pages_bits sets.on place bit low at in
              let has =
              bit_of_page index pages_bits sets.on (64 * index + bit) place bit at page.0 page.1 set in
              let one = half_sum (bit_at step.did.old bit) (bit_at (word_after step.did.old step.did.op) bit)
              (sum_is _ _ (clear place bit low at set) (sets.set bit low set)) in
              let was = ap one_if (page_at g step.before.pages (64 * index + bit) place bit
              (does.had (64 * index + bit) has) page.0 page.1) in
              goes _ _ _ (turned-here place bit step.did at ∙ one ∙ sym was)
              (none_of step.after.pages place bit (λ is.
              let given = ((does.pages is.page).0 is.has).1 in
              let has_it = bit_of_page index pages_bits sets.on is.page place bit at is.there is.bit_is set in
              let both_ways = sym given ∙ has_it in
              cc))
        ]
      ]
