use Rattle.std.proofs.Common.{◌∙◌, sym}
use Rattle.rht_script.proofs.OptionLemmas.{options_from-setting}
use Rattle.rht_script.proofs.reader.options.Goals as goal

pub loop-name-preserved : goal.loop-name-preserved
loop-name-preserved c = record {
  value = options_from-setting c.loop-name.options c.with-options.result c.in_ok-setting.field-0
      c.in-Some.name.now c.in-Some-next.value.now
      c.loop-name.words c.next.new.self c.next-in-Some.new.self
      c.in-Some.ensures c.in-Some-next.ensures (sym c.in_ok-setting.ensures.value)
      c.with-options.ensures.value
      ∙ c.loop-name.invariant.value;
  allowed = c.with-options.ensures.allowed;
}
