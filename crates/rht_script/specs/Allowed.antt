-- Which options have numbers within their limits.
use Rattle.std.specs.Prelude.{IfSome}
use Rattle.rht_words.specs.Limits.{IsWithinLimits, node_limits, hint_limits, min_limits, max_limits, page_limits, caller_limits, seed_limits, rewalk_limits}
use Rattle.rht_script.specs.declared.options.Setting.{Setting}
use Rattle.rht_script.specs.declared.options.Setting.TheVariants.{Nodes, Hint, Min, Max, Pages, Workers, Seed, Rewalks, Form, Hashing, Shrink, Auto}
use Rattle.rht_script.specs.declared.options.Options.{Options}
use Rattle.rht_script.specs.PortWords.{IsForm}

-- the setting's number, where it has one, is within its limits
abbrev pub IsAllowed : Setting → Type 0
IsAllowed (Nodes number) = IsWithinLimits node_limits number
IsAllowed (Hint number) = IsWithinLimits hint_limits number
IsAllowed (Min number) = IsWithinLimits min_limits number
IsAllowed (Max number) = IsWithinLimits max_limits number
IsAllowed (Pages number) = IsWithinLimits page_limits number
IsAllowed (Workers number) = IsWithinLimits caller_limits number
IsAllowed (Seed number) = IsWithinLimits seed_limits number
IsAllowed (Rewalks number) = IsWithinLimits rewalk_limits number
IsAllowed (Form number) = IsForm number
IsAllowed (Hashing hash) = Unit {0}
IsAllowed (Shrink shrink) = Unit {0}
IsAllowed (Auto auto) = Unit {0}

-- Each number that is set is within its limits.
pub record AreAllowed (options : Options) : Type 0 where
  pub nodes : IfSome options.nodes (IsWithinLimits node_limits)
  pub hint : IfSome options.hint (IsWithinLimits hint_limits)
  pub min : IfSome options.min (IsWithinLimits min_limits)
  pub max : IfSome options.max (IsWithinLimits max_limits)
  pub pages : IfSome options.pages (IsWithinLimits page_limits)
  pub workers : IfSome options.workers (IsWithinLimits caller_limits)
  pub seed : IfSome options.seed (IsWithinLimits seed_limits)
  pub rewalks : IfSome options.rewalks (IsWithinLimits rewalk_limits)
  pub form : IfSome options.form IsForm
