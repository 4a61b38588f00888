-- Why a tidying was answered as it was: so many nodes it gave back, or a caller was in the section still for which they wait.
use Rattle.std.specs.Prelude.{◌≡◌, ℕ, ◌%◌, ◌<◌, List, [], ◌∷◌, ◌++◌, length, map}
use Rattle.std.specs.List.{AllByRecursion}
use Rattle.rht_words.specs.declared.geometry.Geometry.{Geometry}
use Rattle.rht_model.specs.declared.history.Reply.{Reply}
use Rattle.rht_model.specs.declared.history.Reply.TheVariants.{Clear, Pending}
use Rattle.rht_grace.specs.Tidy.{load_of, give_of}
use Rattle.rht_grace.specs.TidyLaws.{LoadsSection}
use Rattle.rht_core.specs.Traces.{Did}

-- each of the operations loads a caller's section word
abbrev pub LoadSections : Geometry → List Did → Type 0
LoadSections g steps = AllByRecursion (λ did. LoadsSection g did.op) steps

-- The operations load section words, and then give so many nodes back, and do nothing else.
pub record HasGiven (g : Geometry) (count : ℕ) (steps : List Did) : Type 0 where
  pub asking : List Did
  pub giving : List Did
  pub split : steps ≡ asking ++ giving
  pub asks : LoadSections g asking
  pub nodes : List ℕ
  pub among : AllByRecursion (λ node. node < g.nodes) nodes
  pub gives : map (λ (did : Did). did.op) giving ≡ map (give_of g) nodes
  pub counted : length nodes ≡ count

-- The operations load section words, and the last one found this odd word of that caller.
pub record SawInSection (g : Geometry) (caller section : ℕ) (steps : List Did) : Type 0 where
  pub before : List Did
  pub last : Did
  pub are : steps ≡ before ++ last ∷ []
  pub asks : LoadSections g before
  pub caller_in : caller < g.callers
  pub loads : last.op ≡ load_of caller
  pub found : last.old ≡ section
  pub odd : section % 2 ≡ 1

-- why a tidying ended with this reply
abbrev pub SawForTidy : Geometry → Reply → List Did → Type 0
SawForTidy g (Clear count) steps = HasGiven g count steps
SawForTidy g (Pending caller section) steps = SawInSection g caller section steps
SawForTidy g _ steps = ⊥
