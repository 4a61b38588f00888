-- What a call that may still be refused has undone so far: each bit of a word that it has turned an odd number of times is one of what it
-- holds, is in a word of its own node or slot, or may be left turned; or it gave back with it what was a retired table's.
use Rattle.std.proofs.Common.{◌≡◌, ◌⊎◌, ℕ, ◌+◌, ◌%◌, ◌<◌, List, [], ◌∷◌, ◌++◌, Some, None, refl, ap, ◌∙◌, inl, inr, arith}
use Rattle.std.proofs.lemmas.List.{append_assoc}
use Rattle.rht_words.specs.declared.geometry.Geometry.{Geometry}
use Rattle.rht_words.specs.declared.op.Op.TheVariants.{Exchange}
use Rattle.rht_words.specs.Links.{entry_of}
use Rattle.rht_words.specs.Members.{In}
use Rattle.rht_words.specs.Places.{Slot, SlotWord, PageWord, Node, NodeWord, place_of}
use Rattle.rht_words.proofs.EachElement.{AllByRecursion-push, Any-append_left}
use Rattle.rht_model.specs.declared.history.Call.{Call}
use Rattle.rht_arena.specs.RunLaws.{TakesPage, GivesPage}
use Rattle.rht_core.specs.Traces.{Did, performed_of}
use Rattle.rht_core.specs.Refused.{turned, IsTableWord, GivesBackNode, GivesBackSlot, IsOfNodeGiven, IsOfSlotGiven, IsOfAttached, PutsPage, HasTaken, EnteredWhenTaken, IsExcepted}
use Rattle.rht_ghost.proofs.Theory.Steps.{Holding}
use Rattle.rht_core.proofs.Undoing.TurnedBits.{held_bits}
use Rattle.rht_core.proofs.Undoing.GivenBack.{IsBalanced, returned-more, balanced-push}

pub one_more : (sum t x y : ℕ) → (sum + x) % 2 ≡ 0 → (t + x + y) % 2 ≡ 0 → (sum + t + y) % 2 ≡ 0
one_more sum t x y so_far now = omega (arith, so_far, now)

-- a page that was entered was entered by these operations and one more
pub entered-more : (g : Geometry) (words_at : ℕ → List ℕ) (entry page : ℕ) (steps : List Did) (did : Did)
    → EnteredWhenTaken g words_at entry page steps → EnteredWhenTaken g words_at entry page (steps ++ did ∷ [])
entered-more g words_at entry page steps did is = record {
  before = is.before;
  at = is.at;
  behind = is.behind ++ did ∷ [];
  split = ap (λ before. before ++ did ∷ []) is.split ∙ append_assoc is.before (is.at ∷ is.behind) (did ∷ []);
  enters = is.enters;
  missing = is.missing;
  took = is.took;
}

module _ (g : Geometry) (words_at : ℕ → List ℕ) (c : ℕ) (call : Call) where
  -- ---- what a call may have turned

  -- a word of the node that the call has
  pub record IsOfOwnNode (h : Holding) (place : ℕ) : Type 0 where
    pub node : ℕ
    pub has : h.node ≡ Some node
    pub word : NodeWord
    pub there : place ≡ place_of g (Node node word)

  -- a word of its slot
  pub record IsOfOwnSlot (h : Holding) (place : ℕ) : Type 0 where
    pub slot : ℕ
    pub has : h.slot ≡ Some slot
    pub word : SlotWord
    pub of_table : IsTableWord word
    pub there : place ≡ place_of g (Slot slot word)

  abbrev pub IsOwn : Holding → ℕ → Type 0
  IsOwn h place = IsOfOwnNode h place ⊎ IsOfOwnSlot h place

  abbrev pub IsLeft : Holding → List Did → ℕ → ℕ → Type 0
  IsLeft h steps place bit = IsExcepted g words_at c call steps place bit ⊎ IsOwn h place

  -- Of what a call holds after these operations: each bit is turned an odd number of times just where it is one of what the call holds, but
  -- for words of its own and for those that may be left, and for what was given back of retired tables; its node, its slot and its pages are
  -- there, and it has taken these.
  pub record Undoes (h : Holding) (steps : List Did) : Type 0 where
    pub even : (place bit : ℕ) → bit < 64
        → IsLeft h steps place bit ⊎ IsBalanced g words_at call None place bit steps (held_bits g c h place bit)
    pub node_in : (node : ℕ) → h.node ≡ Some node → node < g.nodes
    pub slot_in : (slot : ℕ) → h.slot ≡ Some slot → slot < 8
    pub pages_in : (page : ℕ) → In page h.pages → page < g.pages
    pub took : (page : ℕ) → In page h.pages → HasTaken g page steps

  -- ---- with one operation more

  module _ (steps : List Did) (did : Did) where
    abbrev all : List Did
    all = steps ++ did ∷ []

    node_given-more : (place : ℕ) → IsOfNodeGiven g steps place → IsOfNodeGiven g all place
    node_given-more place is = record {
      node = is.node;
      among = is.among;
      given = Any-append_left (GivesBackNode g is.node) steps (did ∷ []) is.given;
      word = is.word;
      there = is.there;
    }

    slot_given-more : (place : ℕ) → IsOfSlotGiven g steps place → IsOfSlotGiven g all place
    slot_given-more place is = record {
      slot = is.slot;
      within = is.within;
      given = Any-append_left (GivesBackSlot g is.slot) steps (did ∷ []) is.given;
      word = is.word;
      of_table = is.of_table;
      there = is.there;
    }

    attached-more : (place bit : ℕ) → IsOfAttached g steps place bit → IsOfAttached g all place bit
    attached-more place bit is =
        let has = is.attached in
        record {
          table = is.table;
          slot = is.slot;
          shape = is.shape;
          attached = record {
            before = has.before;
            at = has.at;
            behind = has.behind ++ did ∷ [];
            split =
                ap (λ before. before ++ did ∷ []) has.split
                ∙ append_assoc has.before (has.at ∷ has.behind) (did ∷ []);
            attaches = has.attaches;
            stored = has.stored;
          };
          of_it = is.of_it;
        }

    excepted-more : (place bit : ℕ) → IsExcepted g words_at c call steps place bit
        → IsExcepted g words_at c call all place bit
    excepted-more place bit (inl serial) = inl serial
    excepted-more place bit (inr (inl node)) = inr (inl (node_given-more place node))
    excepted-more place bit (inr (inr (inl slot))) = inr (inr (inl (slot_given-more place slot)))
    excepted-more place bit (inr (inr (inr (inl (may, inl attached))))) =
        inr (inr (inr (inl (may, inl (attached-more place bit attached)))))
    excepted-more place bit (inr (inr (inr (inl (may, inr entered))))) =
        inr (inr (inr (inl (
          may,
          inr (record {
            entry = entered.entry;
            page = entered.page;
            entered = entered-more g words_at entered.entry entered.page steps did entered.entered;
            of_it = entered.of_it;
          }),
        ))))
    excepted-more place bit (inr (inr (inr (inr own)))) = inr (inr (inr (inr own)))

    -- the call had this page, and the operation doesn't give it back
    pub record StillHas (h : Holding) (page : ℕ) : Type 0 where
      pub has : In page h.pages
      pub stays : GivesPage g page (performed_of did) → ⊥

    -- or the operation takes it
    pub record Takes (page : ℕ) : Type 0 where
      pub page_in : page < g.pages
      pub takes : TakesPage g page (performed_of did)

    -- what an operation has to do for that
    pub record Keeps (h h' : Holding) : Type 0 where
      pub own : (place bit : ℕ) → IsOwn h place → IsLeft h' all place bit
      pub turn : (place bit : ℕ) → bit < 64
          → IsLeft h' all place bit
          ⊎ ((turned place bit did + held_bits g c h place bit + held_bits g c h' place bit) % 2 ≡ 0)
      pub node_in : (node : ℕ) → h'.node ≡ Some node → node < g.nodes
      pub slot_in : (slot : ℕ) → h'.slot ≡ Some slot → slot < 8
      pub had : (page : ℕ) → In page h'.pages → StillHas h page ⊎ Takes page

    -- a page that they have taken they have still taken with one more that neither gives it back nor enters
    -- it
    still-taken : (page : ℕ) → HasTaken g page steps → (GivesPage g page (performed_of did) → ⊥)
        → ((entry : ℕ) → PutsPage g entry page did → ⊥) → HasTaken g page all
    still-taken page has stays unentered = record {
      before = has.before;
      at = has.at;
      behind = has.behind ++ did ∷ [];
      split =
          ap (λ before. before ++ did ∷ []) has.split
          ∙ append_assoc has.before (has.at ∷ has.behind) (did ∷ []);
      takes = has.takes;
      kept =
          AllByRecursion-push (λ step. GivesPage g page (performed_of step) → ⊥) has.behind did has.kept
          stays;
      unentered =
          AllByRecursion-push (λ step. (entry : ℕ) → PutsPage g entry page step → ⊥)
          has.behind did has.unentered unentered;
    }

    -- and so they have with one more that takes it
    now-taken : (page : ℕ) → TakesPage g page (performed_of did) → HasTaken g page all
    now-taken page takes =
        record {
          before = steps;
          at = did;
          behind = [];
          split = refl;
          takes = takes;
          kept = tt;
          unentered = tt;
        }

    -- where it enters a page of the call, this is none of its pages any more
    abbrev pub GoneWhereEntered : Holding → Holding → Type 0
    GoneWhereEntered h h' =
        (entry page : ℕ) → did.op ≡ Exchange (place_of g (PageWord entry)) 0 (entry_of page) → did.old ≡ 0
        → In page h.pages → In page h'.pages → ⊥

    pub Undoes-push : (h h' : Holding) → Undoes h steps → Keeps h h' → GoneWhereEntered h h' → Undoes h' all
    Undoes-push h h' so_far keeps gone = record {
      even = λ place bit low. elim (so_far.even place bit low) [
        | inl left ↦ inl (elim left [
          | inl excepted ↦ inl (excepted-more place bit excepted)
          | inr own ↦ keeps.own place bit own
        ])
        | inr even ↦ elim (keeps.turn place bit low) [
          | inl left ↦ inl left
          | inr now ↦ inr (balanced-push g words_at call None None place bit steps did (held_bits g c h place bit)
              (returned-more g words_at None place bit steps did) (held_bits g c h' place bit) now even)
        ]
      ];
      node_in = keeps.node_in;
      slot_in = keeps.slot_in;
      pages_in = λ page i. elim (keeps.had page i) [
        | inl still ↦ so_far.pages_in page still.has
        | inr now ↦ now.page_in
      ];
      took = λ page i. elim (keeps.had page i) [
        | inl still ↦
            still-taken page (so_far.took page still.has) still.stays
            (λ entry enters. gone entry page enters.exchanges enters.found still.has i)
        | inr now ↦ now-taken page now.takes
      ];
    }
