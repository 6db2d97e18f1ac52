use Rattle.std.proofs.Common.{ℕ, ◌+◌, ◌-◌, List, [], ◌∷◌, ◌++◌, refl, sym, ◌∙◌, subst, arith}
use Rattle.disk_core.specs.Content.{range}
use Rattle.part_log.specs.declared.segment.SegmentInfo.{SegmentInfo}
use Rattle.part_log.specs.Records.{EndsHere, placed_from}
use Rattle.part_log.specs.Segments.{place_of}
use Rattle.part_log.specs.Log.{AllFit}
use Rattle.part_log.specs.Marks.{MarksOn}
use Rattle.part_log.specs.Scan.{AreRead, IsRead, TakesAll, found_of}
use Rattle.part_log.proofs.Lives.{fit-more, live_more}
use Rattle.part_log.proofs.reading.read_live.Goals as goal

pub returns-clause-fit : goal.returns-clause-fit
returns-clause-fit g c = λ fit.
    let extent = c.in_ok-extent.extent in
    let info : SegmentInfo = record { segment = c.args.live.now.segment; generation = c.args.live.now.generation; used = extent.used; first = extent.first } in
    subst (λ (l : List SegmentInfo). AllFit c.args.settings.now.segment l) (sym c.in_ok-add_info.ensures) (fit-more c.args.settings.now.segment c.args.segments.now.items info c.in_ok-extent.ensures.used fit)

pub returns-clause-more : goal.returns-clause-more
returns-clause-more g c =
    let extent = c.in_ok-extent.extent in
    let info : SegmentInfo = record { segment = c.args.live.now.segment; generation = c.args.live.now.generation; used = extent.used; first = extent.first } in
    (info, refl, c.in_ok-add_info.ensures)

pub returns-clause-read : goal.returns-clause-read
returns-clause-read g c = λ t parts read.
    let extent = c.in_ok-extent.extent in
    let info : SegmentInfo = record { segment = c.args.live.now.segment; generation = c.args.live.now.generation; used = extent.used; first = extent.first } in
    let segment = c.args.settings.now.segment in
    let seen = (g.D.Disk.content c.args.disk.now).seen in
    let scan = c.args.scan.now in
    let after = c.read_segment.new.scan in
    let start_is = c.place_of-start.ensures.place in
    let one = c.in_ok-extent.ensures.read t in
    let there = subst (λ (k : ℕ). IsRead k scan.next seen extent after.next one.0) start_is one.1 in
    let ends = subst (λ (k : ℕ). EndsHere (range (k + extent.used) (segment - extent.used) seen)) start_is (c.in_ok-extent.ensures.ended t) in (
      one.0,
      subst (λ (l : List SegmentInfo). AreRead segment seen l after.next (parts ++ one.0 ∷ [])) (sym c.in_ok-add_info.ensures)
          (live_more segment seen c.args.segments.now.items scan.next parts read info after.next one.0 there ends (omega (arith, g.met.D.Disk.whole c.args.disk.now t, c.requires.inside))),
      subst (λ (k : ℕ). TakesAll g.C.Collect.takes c.args.collector.now (found_of (placed_from k one.0)) c.read_segment.new.collector) start_is one.2,
      subst (λ (k : ℕ). MarksOn scan.marks.list.items (placed_from k one.0) after.marks.list.items) start_is one.3,
    )
