-- The owners that a walk has loaded, by its states: it loads one at a node's owner word alone.
use Rattle.rht_callers.specs.Locals.{turns_section, soft}
use Rattle.std.proofs.Common.{◌≡◌, ℕ, ◌+◌, ◌<◌, Bool, ◌&&◌, false, List, [], ◌∷◌, ◌++◌, refl, sym, ◌∙◌, ap, subst}
use Rattle.rht_words.specs.declared.op.Op.{Op}
use Rattle.rht_words.specs.declared.geometry.Geometry.{Geometry}
use Rattle.rht_words.specs.Places.{CurrentTable, Section, Slot, ShapeWord, SerialWord, FutureWord, Node, KeyWord, OwnerWord, ChainLink}
use Rattle.rht_words.proofs.PlacesApart.{address_at-place_of}
use Rattle.std.proofs.lemmas.Bool.{cond_both}
use Rattle.rht_grace.specs.Sections.{turning}
use Rattle.rht_walk.specs.Walk.{plan_at, IsWalkAtIn}
use Rattle.rht_walk.specs.declared.walk.WalkAt.{WalkAt}
use Rattle.rht_walk.specs.declared.walk.WalkAt.TheVariants as at
use Rattle.rht_core.specs.ListedOwners.{is_owner_word, loads_owner, owners_loaded}
use Rattle.rht_core.specs.Traces.{Did}
use Rattle.rht_core.proofs.Reasons.ListingsKept.{still_loaded, one_loaded, at_other, at_bucket, place_loads_none}
use Rattle.rht_core.proofs.Walking.OwnersLead.{loaded_after}

module _ (g : Geometry) (c : ℕ) (steps : List Did) (did : Did) where
  abbrev loaded : List ℕ
  loaded = owners_loaded g steps

  abbrev all : List ℕ
  all = owners_loaded g (steps ++ did ∷ [])

  none : (op : Op) → did.op ≡ op → loads_owner g op ≡ false → loaded ≡ all
  none op is loads = still_loaded g steps did loaded (subst (λ o. loads_owner g o ≡ false) (sym is) loads) refl

  -- one that turns the section loads none, nor does a load of its word
  turning_loads : (over : Bool) → c < 16 → loads_owner g (soft over (turning c)) ≡ false
  turning_loads over few =
      cond_both (turns_section (8 + c) 1 && over) _ _ (λ op. loads_owner g op ≡ false) (λ t. at_other g (Section c) few refl) (λ f. refl)

  -- with its operation a walk has loaded what the state says
  pub loaded_next : (over : Bool) → c < 16 → (state : WalkAt) → IsWalkAtIn g state → did.op ≡ soft over (plan_at g c state) → loaded_after state loaded did.old ≡ all
  loaded_next over few at.Opening within is = none _ is (turning_loads over few)
  loaded_next over few at.CurrentTable within is = none _ is (at_other g CurrentTable tt refl)
  loaded_next over few (at.Serial table) within is = none _ is (at_other g (Slot table SerialWord) (within, tt) refl)
  loaded_next over few (at.Shape table serial) within is = none _ is (at_other g (Slot table ShapeWord) (within, tt) refl)
  loaded_next over few (at.Entry visit way) within is = none _ is (place_loads_none g way within.way_in)
  loaded_next over few (at.Heading visit place) within is = none _ is (at_bucket g place within.place_in)
  loaded_next over few (at.Key chain node) within is = none _ is (at_other g (Node node KeyWord) within.node_in refl)
  loaded_next over few (at.Owner chain node port) within is =
      one_loaded g steps did loaded
      (ap (loads_owner g) is ∙ ap is_owner_word (address_at-place_of g (Node node OwnerWord) within.node_in)) refl
  loaded_next over few (at.Link chain node) within is = none _ is (at_other g (Node node ChainLink) within.node_in refl)
  loaded_next over few (at.StrangeEnd visit) within is = none _ is (at_other g (Slot visit.table FutureWord) (within.table_in, tt) refl)
  loaded_next over few (at.TableEnd table) within is = none _ is (at_other g (Slot table FutureWord) (within, tt) refl)
  loaded_next over few (at.Closing end) within is = none _ is (turning_loads over few)
