use Rattle.std.proofs.Common.{◌≡◌, drop}
use Rattle.part_log.specs.Pages.{start_from}
use Rattle.part_log.proofs.paging.start_at.Given as goal

abbrev pub invariant-loop-info : goal.invariant-loop-info
invariant-loop-info l = record {
  counted : l.next ≡ l.info-index;
  rest : start_from l.settings.segment l.place 0 l.segments ≡ start_from l.settings.segment l.place l.info-index (drop l.info-index l.segments);
}
