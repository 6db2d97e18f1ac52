use Rattle.std.proofs.Common.{List, [], ◌∷◌, Option, ◌∙◌, ap}
use Rattle.part_log.specs.Records.{records_of}
use Rattle.part_log.specs.Scan.{found_of}
use Rattle.replica_core.specs.declared.index.IndexEntry.{IndexEntry}
use Rattle.replica_core.specs.Index.{noted_or, IsIndexed}
use Rattle.replica_core.proofs.IndexLemmas.{entry_in-one}
use Rattle.replica_core.proofs.Standing.{all_noted, its_cells, same_cells}
use Rattle.replica_core.proofs.replica.Replica.open.Goals as goal

pub invariant_of-result : goal.invariant_of-result
invariant_of-result g c = λ still. (
  c.in-Ok.ensures.table.2,
  record {
    good = c.in-Ok.ensures.table.0;
    indexed = λ t.
        let found = c.in-Ok.ensures.records t in
        record {
          placed = found.0;
          log = found.1;
          index = λ id. entry_in-one c.«open».new.collector.by_id.entries id ∙ all_noted c.new-index.result (found_of found.0) c.«open».new.collector found.3 id ∙ ap (λ (b : Option IndexEntry). noted_or b (found_of found.0) id) (c.new-index.ensures id);
        };
  },
)

pub returns-in-Ok-clause-cells : goal.returns-in-Ok-clause-cells
returns-in-Ok-clause-cells g c = λ t.
    let found = c.in-Ok.ensures.records t in
    let index = c.«open».new.collector in
    let indexed : IsIndexed c.in-Ok.log.table (g.D.Disk.content c.in-Ok.log.disk) (index.by_id.entries ∷ []) = record {
      placed = found.0;
      log = found.1;
      index = λ id. entry_in-one index.by_id.entries id ∙ all_noted c.new-index.result (found_of found.0) index found.3 id ∙ ap (λ (b : Option IndexEntry). noted_or b (found_of found.0) id) (c.new-index.ensures id);
    } in
    record { records = records_of found.0; stands = found.2; give = its_cells c.in-Ok.log.table (g.D.Disk.content c.in-Ok.log.disk) (index.by_id.entries ∷ []) c.in-Ok.ensures.table.0 indexed }

pub returns-in-Ok-clause-again : goal.returns-in-Ok-clause-again
returns-in-Ok-clause-again g c = λ t cells end stands.
    same_cells c.args.settings (g.D.Disk.content c.args.disk).seen _ cells _ end (returns-in-Ok-clause-cells g c t) stands
