use Rattle.rht_core.proofs.Counting.FreePages.{free_pages_blank, free_slots_unled}
use Rattle.rht_core.proofs.laws.free.Goals as goal

pub returns-clause-pages : goal.returns-clause-pages
returns-clause-pages g c = free_pages_blank g.row.M.Denot g.M.Mix.mix_of

pub returns-clause-slots : goal.returns-clause-slots
returns-clause-slots g c = free_slots_unled g.row.M.Denot g.M.Mix.mix_of
