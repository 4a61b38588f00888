-- The options of words, one setting further.
use Rattle.std.proofs.Common.{◌≡◌, ℕ, Ok, List, ◌∷◌, refl}
use Rattle.rht_script.specs.declared.options.Setting.{Setting}
use Rattle.rht_script.specs.declared.options.Options.{Options}
use Rattle.rht_script.specs.TableLines.{setting_of, with_setting, options_from}

pub options_from-setting : (before after : Options) (setting : Setting) (name value : List ℕ)
    (words from_value behind : List (List ℕ))
    → words ≡ name ∷ from_value → from_value ≡ value ∷ behind → setting_of name value ≡ Ok setting
    → after ≡ with_setting before setting
    → options_from after behind ≡ options_from before words
options_from-setting before after setting name value words from_value behind first second set is =
    rw (first, second, set, is) refl
