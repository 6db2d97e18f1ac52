use Rattle.std.proofs.Common.{◌≡◌, ℕ, false, List, sym, ◌∙◌, subst}
use Rattle.disk_core.specs.Content.{ChangesBy}
use Rattle.msg_format.specs.Records.{record_size}
use Rattle.part_log.specs.Records.{Placed, records_of}
use Rattle.part_log.specs.Images.{KeepsLog}
use Rattle.part_log.specs.Segments.{ChangesIn}
use Rattle.part_log.specs.Log.{LogTable, IsTable, IsLog, target_of, is_full, roomy_table}
use Rattle.part_log.proofs.Room.{nothing_kept, room_there, put_there, changes_there, if_ok_map}
use Rattle.part_log.proofs.Putting.{keeps_as_put, keeps_then_put}
use Rattle.part_log.proofs.Segments.{writes_twice}
use Rattle.part_log.proofs.Staying.{visible_there}
use Rattle.part_log.proofs.Tables.{table_of}
use Rattle.part_log.proofs.log.PartLog.append.Goals as goal

pub returns-then-self-clause-during : goal.returns-then-self-clause-during
returns-then-self-clause-during g c =
    let s = c.self.inside in
    let table : LogTable = table_of s.settings s.segments.items s.next_generation s.end s.slots s.tokens in
    let good : IsTable table = c.self.invariant.0 in
    rw (← c.self.view_is) (λ t placed log.
    keeps_as_put table table (target_of table (record_size c.args.entry.now)) c.args.entry.now (records_of placed) (g.D.Disk.content s.disk) (g.D.Disk.content s.disk) (g.D.Disk.content s.disk)
    (nothing_kept table (target_of table (record_size c.args.entry.now)) (g.D.Disk.content s.disk) placed good log))

pub returns-then-is_full-clause-during : goal.returns-then-is_full-clause-during
returns-then-is_full-clause-during g c =
    let s = c.self.inside in
    let table : LogTable = table_of s.settings s.segments.items s.next_generation s.end s.slots s.tokens in
    let good : IsTable table = c.self.invariant.0 in
    rw (← c.self.view_is) (λ t placed log.
    keeps_as_put table table (target_of table (record_size c.args.entry.now)) c.args.entry.now (records_of placed) (g.D.Disk.content s.disk) (g.D.Disk.content s.disk) (g.D.Disk.content s.disk)
    (nothing_kept table (target_of table (record_size c.args.entry.now)) (g.D.Disk.content s.disk) placed good log))

pub returns-in_err-rest-clause-during : goal.returns-in_err-rest-clause-during
returns-in_err-rest-clause-during g c =
    let s = c.self.inside in
    let table : LogTable = table_of s.settings s.segments.items s.next_generation s.end s.slots s.tokens in
    let good : IsTable table = c.self.invariant.0 in
    rw (← c.self.view_is) (λ t placed log.
    keeps_as_put table table (target_of table (record_size c.args.entry.now)) c.args.entry.now (records_of placed) (g.D.Disk.content s.disk) (g.D.Disk.content s.disk) (g.D.Disk.content s.disk)
    (nothing_kept table (target_of table (record_size c.args.entry.now)) (g.D.Disk.content s.disk) placed good log))

pub returns-in_err-make_room-clause-during : goal.returns-in_err-make_room-clause-during
returns-in_err-make_room-clause-during g c =
    let size_is : c.record_size-size.result ≡ record_size c.args.entry.now = c.record_size-size.ensures in
    let table = c.args.self.now.table in
    let target : ℕ = target_of table (record_size c.args.entry.now) in
    let old = g.D.Disk.content c.args.self.now.disk in
    let mid = g.D.Disk.content c.make_room.new.self.disk in
    let keeps : (t : g.D.Disk.tells) → (placed : List Placed) → IsLog table old placed → ChangesBy (KeepsLog table.settings target (records_of placed) table.end) old mid = λ t placed log.
    subst (λ (n : ℕ). ChangesBy (KeepsLog table.settings (target_of table n) (records_of placed) table.end) old mid) size_is (c.make_room.ensures.during t placed log) in
    λ t placed log. keeps_as_put table table target c.args.entry.now (records_of placed) old mid mid (keeps t placed log)

pub put_last-requires-clause-room : goal.put_last-requires-clause-room
put_last-requires-clause-room g c =
    let size_is : c.record_size-size.result ≡ record_size c.args.entry.now = c.record_size-size.ensures in
    let table = c.args.self.now.table in
    let target : ℕ = target_of table (record_size c.args.entry.now) in
    let old = g.D.Disk.content c.args.self.now.disk in
    let mid = g.D.Disk.content c.make_room.new.self.disk in
    let after : c.make_room.new.self.table ≡ roomy_table table (record_size c.args.entry.now) c.make_room.new.self.table.slots =
    subst (λ (n : ℕ). c.make_room.new.self.table ≡ roomy_table table n c.make_room.new.self.table.slots) size_is c.in_ok-make_room.ensures.table in
    room_there table c.make_room.new.self.table c.make_room.new.self.table.slots (record_size c.args.entry.now) after (subst (λ (n : ℕ). is_full table n ≡ false) size_is (sym c.is_full.ensures ∙ c.if-is_full.false))

pub returns-clause-during : goal.returns-clause-during
returns-clause-during g c =
    let size_is : c.record_size-size.result ≡ record_size c.args.entry.now = c.record_size-size.ensures in
    let table = c.args.self.now.table in
    let target : ℕ = target_of table (record_size c.args.entry.now) in
    let old = g.D.Disk.content c.args.self.now.disk in
    let mid = g.D.Disk.content c.make_room.new.self.disk in
    let keeps : (t : g.D.Disk.tells) → (placed : List Placed) → IsLog table old placed → ChangesBy (KeepsLog table.settings target (records_of placed) table.end) old mid = λ t placed log.
    subst (λ (n : ℕ). ChangesBy (KeepsLog table.settings (target_of table n) (records_of placed) table.end) old mid) size_is (c.make_room.ensures.during t placed log) in
    let new = g.D.Disk.content c.put_last.new.self.disk in
    let after : c.make_room.new.self.table ≡ roomy_table table (record_size c.args.entry.now) c.make_room.new.self.table.slots =
    subst (λ (n : ℕ). c.make_room.new.self.table ≡ roomy_table table n c.make_room.new.self.table.slots) size_is c.in_ok-make_room.ensures.table in
    λ t placed log.
    keeps_then_put table table target c.args.entry.now (records_of placed) old mid new (keeps t placed log)
    (put_there table c.make_room.new.self.table c.make_room.new.self.table.slots (record_size c.args.entry.now) after c.args.entry.now (records_of placed) mid new (c.put_last.ensures.during t placed (c.in_ok-make_room.ensures.roomy t placed log)))

pub returns-clause-put : goal.returns-clause-put
returns-clause-put g c =
    let size_is : c.record_size-size.result ≡ record_size c.args.entry.now = c.record_size-size.ensures in
    let table = c.args.self.now.table in
    let target : ℕ = target_of table (record_size c.args.entry.now) in
    let old = g.D.Disk.content c.args.self.now.disk in
    let mid = g.D.Disk.content c.make_room.new.self.disk in
    if_ok_map c.put_last.result _ _ c.put_last.ensures.put (λ place given t placed log. given t placed (c.in_ok-make_room.ensures.roomy t placed log))

pub returns-clause-outside : goal.returns-clause-outside
returns-clause-outside g c =
    let size_is : c.record_size-size.result ≡ record_size c.args.entry.now = c.record_size-size.ensures in
    let table = c.args.self.now.table in
    let target : ℕ = target_of table (record_size c.args.entry.now) in
    let old = g.D.Disk.content c.args.self.now.disk in
    let mid = g.D.Disk.content c.make_room.new.self.disk in
    let new = g.D.Disk.content c.put_last.new.self.disk in
    let after : c.make_room.new.self.table ≡ roomy_table table (record_size c.args.entry.now) c.make_room.new.self.table.slots =
    subst (λ (n : ℕ). c.make_room.new.self.table ≡ roomy_table table n c.make_room.new.self.table.slots) size_is c.in_ok-make_room.ensures.table in
    λ t. writes_twice table.settings.segment target old.seen mid.seen new.seen
    (subst (λ (n : ℕ). ChangesIn table.settings.segment (target_of table n) old.seen mid.seen) size_is (c.make_room.ensures.outside t))
    (changes_there table c.make_room.new.self.table c.make_room.new.self.table.slots (record_size c.args.entry.now) after mid.seen new.seen (c.put_last.ensures.outside t))

pub returns-then-self-clause-visible : goal.returns-then-self-clause-visible
returns-then-self-clause-visible g c =
    let s = c.self.inside in
    let table : LogTable = table_of s.settings s.segments.items s.next_generation s.end s.slots s.tokens in
    rw (← c.self.view_is) (λ t placed log. visible_there table c.self.invariant.0 (g.D.Disk.content s.disk) placed log)

pub returns-then-is_full-clause-visible : goal.returns-then-is_full-clause-visible
returns-then-is_full-clause-visible g c =
    let s = c.self.inside in
    let table : LogTable = table_of s.settings s.segments.items s.next_generation s.end s.slots s.tokens in
    rw (← c.self.view_is) (λ t placed log. visible_there table c.self.invariant.0 (g.D.Disk.content s.disk) placed log)

pub returns-in_err-rest-clause-visible : goal.returns-in_err-rest-clause-visible
returns-in_err-rest-clause-visible g c =
    let s = c.self.inside in
    let table : LogTable = table_of s.settings s.segments.items s.next_generation s.end s.slots s.tokens in
    rw (← c.self.view_is) (λ t placed log. visible_there table c.self.invariant.0 (g.D.Disk.content s.disk) placed log)
