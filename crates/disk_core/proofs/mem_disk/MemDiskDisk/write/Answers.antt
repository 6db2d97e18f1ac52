use Rattle.std.proofs.Common.{◌≡◌, ◌∙◌, ap, subst, refl, sym, IsTrue, List, ℕ, length}
use Rattle.std.specs.List.{list_all}
use Rattle.disk_core.specs.declared.unsynced.Overwritten.{Overwritten}
use Rattle.disk_core.specs.Content.{Writes}
use Rattle.disk_core.specs.Unsynced.{states_of, fits, AddsWrite}
use Rattle.disk_core.specs.UnsyncedLaws.{length-put_at}
use Rattle.disk_core.specs.MemDisk.{content_of}
use Rattle.disk_core.proofs.Calls.{content_at, wrote, tore, untouched}
use Rattle.disk_core.proofs.Unsynceds.{fit_added}
use Rattle.disk_core.proofs.mem_disk.MemDiskDisk.write.Goals as goal

pub returns-in_default-clause-told : goal.returns-in_default-clause-told
returns-in_default-clause-told c = λ t.
    let self = c.args.self.now in
    content_at (Writes c.args.at c.args.bytes.now _ (content_of self)) _ _ _ _ _ (states_of self.past) refl c.in_default.ensures.err refl (untouched _ c.args.at c.args.bytes.now (content_of self))

pub returns-then-listed-clause-told : goal.returns-then-listed-clause-told
returns-then-listed-clause-told c = λ t.
    let self = c.args.self.now in
    let added : AddsWrite c.args.at (length c.args.bytes.now) self.bytes.items self.unsynced.items c.keep_range-kept.new.unsynced.items =
    subst (λ (l : List ℕ). AddsWrite c.args.at (length c.args.bytes.now) l self.unsynced.items c.keep_range-kept.new.unsynced.items) c.deref.ensures.value c.in-Ok.ensures.ok in
    content_at (Writes c.args.at c.args.bytes.now _ (content_of self)) _ _ _ _ _ _ refl refl c.moment-past.ensures
    (tore c.args.at c.args.bytes.now self.bytes.items self.unsynced.items c.keep_range-kept.new.unsynced.items (states_of self.past) c.requires added _)

pub invariant_of-self-2 : goal.invariant_of-self-2
invariant_of-self-2 c =
    let self = c.args.self.now in
    let new : List Overwritten = c.keep_range-kept.new.unsynced.items in
    let added : AddsWrite c.args.at (length c.args.bytes.now) self.bytes.items self.unsynced.items new =
    subst (λ (l : List ℕ). AddsWrite c.args.at (length c.args.bytes.now) l self.unsynced.items new) c.deref.ensures.value c.in-Ok.ensures.ok in
    let long : length c.write_over.new.buf.items ≡ length self.bytes.items = ap (λ (l : List ℕ). length l) c.write_over.ensures ∙ length-put_at self.bytes.items c.args.at c.args.bytes.now in
    record {
      fit = subst (λ (n : ℕ). IsTrue (list_all (fits n) new)) (sym long)
          (fit_added c.args.at (length c.args.bytes.now) self.bytes.items self.unsynced.items new c.requires added self.fit);
    }

pub returns-clause-told : goal.returns-clause-told
returns-clause-told c = λ t.
    let self = c.args.self.now in
    let added : AddsWrite c.args.at (length c.args.bytes.now) self.bytes.items self.unsynced.items c.keep_range-kept.new.unsynced.items =
    subst (λ (l : List ℕ). AddsWrite c.args.at (length c.args.bytes.now) l self.unsynced.items c.keep_range-kept.new.unsynced.items) c.deref.ensures.value c.in-Ok.ensures.ok in
    content_at (Writes c.args.at c.args.bytes.now _ (content_of self)) _ _ _ _ _ _ c.write_over.ensures refl c.moment-past.ensures
    (wrote c.args.at c.args.bytes.now self.bytes.items self.unsynced.items c.keep_range-kept.new.unsynced.items (states_of self.past) c.requires added _)

pub returns-clause-size : goal.returns-clause-size
returns-clause-size c = ap (λ (l : List ℕ). length l) c.write_over.ensures ∙ length-put_at c.args.self.now.bytes.items c.args.at c.args.bytes.now
