-- In a run of the script of a number no command finds no node: `NoNode` comes only where more commands bind or rebind than there are
-- nodes, and of 20,000 commands 12,000 look up and 2,000 release, which leaves fewer than 8,192.
use Rattle.std.proofs.Common.{◌≡◌, ℕ, ◌+◌, ◌≤◌, List, [], ◌∷◌, length, subst, arith}
use Rattle.std.proofs.lemmas.List.Sums.{sum_by-cons}
use Rattle.rht_words.proofs.Members.{one_if}
use Rattle.rht_model.specs.declared.history.Call.{Call}
use Rattle.rht_model.specs.declared.history.Call.TheVariants.{Bind, Find, All, Release, Rebind, Walk, Work, Tidy, Count}
use Rattle.rht_core.specs.NodesUsed.{needs_node}
use Rattle.rht_core.specs.ToldHistories.{IsOutnumbered}
use Rattle.rht_script.specs.Grammar.{Said}
use Rattle.rht_script.specs.Generated.{generated_said, generated_commands, is_find, is_release, how_many}
use Rattle.rht_script.proofs.GeneratedCommands.{generated_counts}

-- no call is of two of these kinds
one_kind : (call : Call) → one_if (needs_node call) + (one_if (is_find call) + one_if (is_release call)) ≤ 1
one_kind (Bind port owner once) = omega arith
one_kind (Find port) = omega arith
one_kind (All port) = omega arith
one_kind (Release port owner) = omega arith
one_kind (Rebind port owner new) = omega arith
one_kind (Walk from limit) = omega arith
one_kind Work = omega arith
one_kind Tidy = omega arith
one_kind Count = omega arith

-- so those that need a node are no more than the others leave, by induction over the commands
few_need : (commands : List (ℕ × Call))
    → how_many needs_node commands + (how_many is_find commands + how_many is_release commands) ≤ length commands
few_need [] = omega arith
few_need (command ∷ commands) =
    let needs = sum_by-cons (λ (c : ℕ × Call). one_if (needs_node c.1)) command commands in
    let finds = sum_by-cons (λ (c : ℕ × Call). one_if (is_find c.1)) command commands in
    let releases = sum_by-cons (λ (c : ℕ × Call). one_if (is_release c.1)) command commands in
    omega (arith, needs, finds, releases, one_kind command.1, few_need commands)

pub not_outnumbered : (number : ℕ) (said : Said) → said ≡ generated_said number → ¬ IsOutnumbered said.config said.commands
not_outnumbered number said says more =
    let there : IsOutnumbered (generated_said number).config (generated_commands number) =
    subst (λ (s : Said). IsOutnumbered s.config s.commands) says more in
    let counts = generated_counts number in
    absurd (omega (arith, there, counts.all, counts.finds, counts.releases, few_need (generated_commands number)))
