-- What the bits that a call has turned come to where it attaches the table that it holds, or enters a page:
-- those of the table's words and pages may be left turned, and so may those of the entry and of its page.
use Rattle.std.proofs.Common.{◌≡◌, ◌⊎◌, ℕ, ◌/◌, ◌%◌, List, [], None, refl, sym, ap, ◌∙◌, subst, inl, inr}
use Rattle.std.proofs.lemmas.Bool.{cases_eq}
use Rattle.rht_words.specs.declared.env.Env.{Env}
use Rattle.rht_words.specs.declared.geometry.Geometry.{Geometry}
use Rattle.rht_words.specs.Members.{In}
use Rattle.rht_words.specs.Operations.{op_place, old_of}
use Rattle.rht_words.specs.Places.{Slot, FutureWord, StateWord, PageMap, PageWord, place_of}
use Rattle.rht_words.proofs.Members.{one_if}
use Rattle.rht_model.specs.declared.history.Call.{Call}
use Rattle.rht_core.specs.Refused.{AttachedWith, IsOfSlot, IsOfPages, IsMissingEntry, EnteredWhenTaken}
use Rattle.rht_ghost.proofs.Theory.Steps.{bare, Holding, mem, DoesAttach, DoesEnter}
use Rattle.rht_ghost.proofs.Theory.Readiness.{IsEntering}
use Rattle.rht_core.proofs.Undoing.EnteredWords.{entering_missing}
use Rattle.rht_core.proofs.Undoing.TurnedBits.{one_bit-there, turned-far, slot_bit, pages_bit, page_or_none}
use Rattle.rht_core.proofs.Undoing.GoingBack.{by_none, unturned, GoesBack, every, Kept, MayBeLeft, MayEnter, by_pages, own_node, HadOrTakes, off_map, behind_map, with_same}
use Rattle.rht_core.proofs.Undoing.UndonePages.{same_pages}

module _ {env : Env} {mix : ℕ → ℕ → ℕ → ℕ} {words_at : ℕ → List ℕ} {call : Call}
    (step : GoesBack env mix words_at call) where
  abbrev g : Geometry
  g = env.geometry

  -- ---- a table that is attached

  pub attach : (slot : ℕ) → DoesAttach g slot step.did.op step.did.old step.before (bare step.after)
      → Kept step
  attach slot does =
      let with_pages = step.may.attaches does.last slot does.within does.attaching does.has in
      let node_same = ap (λ (x : Holding). x.node) does.holds in
      let none : step.after.slot ≡ None = ap (λ (x : Holding). x.slot) does.holds in
      let attached : AttachedWith g does.last slot with_pages.shape (every step) = record {
        before = step.steps;
        at = step.did;
        behind = [];
        split = refl;
        attaches = record {
          table_in = does.within;
          slot_in = step.so_far.slot_in slot does.has;
          exchanges = does.attaching;
          found = does.found;
        };
        stored = with_pages.stored;
      } in
      let left : (place bit : ℕ)
      → ((place ≡ place_of g (Slot does.last FutureWord)) ⊎ IsOfSlot g slot place
      ⊎ IsOfPages g with_pages.shape place bit)
      → MayBeLeft step place bit =
      λ place bit of_it. inl (inr (inr (inr (inl (
        with_pages.may,
        inl (record {
          table = does.last;
          slot = slot;
          shape = with_pages.shape;
          attached = attached;
          of_it = of_it;
        }),
      ))))) in
      record {
        own = λ place bit own. elim own [
          | inl node ↦ own_node step node_same place bit node
          | inr mine ↦
              let same : slot ≡ mine.slot = (let e = sym does.has ∙ mine.has in cc) in
              left place bit (inr (inl (record {
                word = mine.word;
                used = inl mine.of_table;
                there = mine.there ∙ ap (λ s. place_of g (Slot s mine.word)) (sym same);
              })))
        ];
        turn = λ place bit low. elim (cases_eq (op_place step.did.op) place) [
          | inl at ↦ inl (left place bit (inl (sym at ∙ ap op_place does.attaching)))
          | inr far ↦ elim (one_bit-there (place_of g (Slot slot StateWord)) 0 place bit) [
            | inl state ↦
                inl (left place bit (inr (inl (record { word = StateWord; used = inr refl; there = state }))))
            | inr no_state ↦ elim (page_or_none g step.before.pages place bit) [
              | inr page ↦ inl (left place bit (inr (inr (record {
                page = page.page;
                among = with_pages.among page.page page.has;
                has = with_pages.of_shape page.page page.has;
                there = page.there;
                bit_is = page.bit_is;
              }))))
              | inl no_page ↦
                  inr (by_none step does.holds place bit (turned-far place bit step.did far)
                  (ap (λ t. slot_bit g t place bit) does.has ∙ no_state) (ap one_if no_page))
            ]
          ]
        ];
        node_in = λ node some. step.so_far.node_in node (sym node_same ∙ some);
        slot_in = λ other some. absurd (let e = sym none ∙ some in cc);
        had = λ page i. absurd (subst (In page) (ap (λ (x : Holding). x.pages) does.holds) i);
      }

  -- ---- a page that is entered

  -- the bit is that of this page
  abbrev IsBitOf : ℕ → ℕ → ℕ → Type 0
  IsBitOf p place bit = (place ≡ place_of g (PageMap (p / 64))) × (bit ≡ p % 64)

  pub enter : (j p : ℕ) → IsEntering env mix step.caller j p step.ghost
      → DoesEnter g j p step.did.op step.did.old step.before (bare step.after) → Kept step
  enter j p ready does =
      with_same step does.holds refl refl had (λ place bit low.
      elim (cases_eq place (place_of g (PageWord j))) [
        | inl at ↦ inl (left place bit (inl at))
        | inr far ↦ elim (page_bit place bit) [
          | inl mine ↦ inl (left place bit (inr mine))
          | inr other ↦
              inr (by_pages step does.holds place bit
              (unturned _ _ _ (turned-far place bit step.did (λ at. far (sym at ∙ ap op_place does.entering)))
              (stays place bit other)))
        ]
      ])
    where
      had : HadOrTakes step
      had page i =
          inl (off_map step (λ q within at. behind_map env mix j q within
          (ap op_place (sym does.entering) ∙ at)) page
          ((does.pages page).0 i).0)

      unset : mem env mix step.words (PageWord j) ≡ 0
      unset = sym (ap (old_of step.words) does.entering) ∙ sym step.found ∙ does.found

      may : MayEnter g call step.steps step.ghost j
      may = step.may.enters j p does.entering does.had

      entered : EnteredWhenTaken g words_at j p (every step)
      entered = record {
        before = step.steps;
        at = step.did;
        behind = [];
        split = refl;
        enters = record { page_in = ready.among; entry_in = ready.within; exchanges = does.entering; found = does.found };
        missing =
            subst (λ ws. IsMissingEntry g ws j step.steps) (sym step.here)
            (entering_missing env mix step.caller j p step.words step.ghost step.steps step.whole ready unset may.came);
        took = step.so_far.took p does.had;
      }

      left : (place bit : ℕ) → ((place ≡ place_of g (PageWord j)) ⊎ IsBitOf p place bit)
          → MayBeLeft step place bit
      left place bit of_it = inl (inr (inr (inr (inl (
        may.may,
        inr (record {
          entry = j;
          page = p;
          entered = entered;
          of_it = of_it;
        }),
      )))))

      page_bit : (place bit : ℕ) → IsBitOf p place bit ⊎ (IsBitOf p place bit → ⊥)
      page_bit place bit = elim (cases_eq place (place_of g (PageMap (p / 64)))) [
        | inr far ↦ inr (λ is. far is.0)
        | inl at ↦ elim (cases_eq bit (p % 64)) [
          | inr other ↦ inr (λ is. other is.1)
          | inl same ↦ inl (at, same)
        ]
      ]

      stays : (place bit : ℕ) → (IsBitOf p place bit → ⊥)
          → pages_bit g step.after.pages place bit ≡ pages_bit g step.before.pages place bit
      stays place bit other = same_pages step place bit (λ page there is. (
        λ i. (does.pages page).1 (i, λ e. other (subst (λ q. IsBitOf q place bit) e (there, is))),
        λ i. ((does.pages page).0 i).0,
      ))
