use Rattle.std.proofs.Common.{ap, arith}
use Rattle.rht_words.specs.declared.config.Config.{Config}
use Rattle.rht_script.proofs.ConfigLemmas.{hint_within, pages_within}
use Rattle.rht_script.proofs.options.Options.config.Goals as goal

pub starting_size-requires : goal.starting_size-requires
starting_size-requires c =
    omega (
      arith,
      hint_within c.args.kind c.args.self c.requires,
      ap (λ (config : Config). config.hint)
          c.configured-config.ensures,
    )

pub overflow_mul-config : goal.overflow_mul-config
overflow_mul-config c =
    omega (
      arith,
      pages_within c.args.kind c.args.self c.requires,
      ap (λ (config : Config). config.pages)
          c.configured-config.ensures,
    )
