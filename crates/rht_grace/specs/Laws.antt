-- What those rely on who wait for read sections.
use Rattle.std.specs.Prelude.{◌≡◌, ◌≢◌, ℕ, ◌%◌}
use Rattle.rht_words.specs.Operations.{word_after}
use Rattle.rht_words.specs.Planned.{IsWord}
use Rattle.rht_grace.specs.Sections.{enter_plan, leave_plan}
use Rattle.rht_grace.specs.declared.sections.Enter.{Enter}
use Rattle.rht_grace.specs.declared.sections.Leave.{Leave}

-- an even section word becomes odd where its section is entered, and an odd one even where it is left
pub record TurnSections : Type 0 where
  pub enters : (m : Enter) (old : ℕ) → old % 2 ≡ 0 → word_after old (enter_plan m) % 2 ≡ 1
  pub leaves : (m : Leave) (old : ℕ) → old % 2 ≡ 1 → word_after old (leave_plan m) % 2 ≡ 0
  pub enter_changes : (m : Enter) (old : ℕ) → IsWord old → word_after old (enter_plan m) ≢ old
  pub leave_changes : (m : Leave) (old : ℕ) → IsWord old → word_after old (leave_plan m) ≢ old
