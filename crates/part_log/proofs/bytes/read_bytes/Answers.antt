use Rattle.std.proofs.Common.{◌≡◌, ℕ, ◌+◌, ◌-◌, List, length, take, drop, ◌∙◌, ap, arith}
use Rattle.std.proofs.lemmas.List.{take_at}
use Rattle.disk_core.specs.Content.{range}
use Rattle.part_log.proofs.Wholes.{both_parts}
use Rattle.part_log.proofs.bytes.read_bytes.Goals as goal

pub returns-clause-bytes : goal.returns-clause-bytes
returns-clause-bytes g c = λ t.
    let buffer = c.in_ok-bytes.bytes in
    let filled = c.fill_behind.new.buffer in
    let n : ℕ = length c.args.front.now in
    let seen = (g.D.Disk.content c.args.disk.now).seen in
    let long : length buffer.items ≡ c.args.count = c.in_ok-bytes.ensures.length in
    let same : length filled ≡ length buffer.items = c.fill_behind.ensures.length ∙ ap (λ (l : List ℕ). length l) c.deref_mut.ensures.value in
    let first : take n filled ≡ c.args.front.now = c.fill_behind.ensures.front ∙ ap (λ (l : List ℕ). take n l) c.deref_mut.ensures.value ∙ c.in_ok-bytes.ensures.front in
    let rest : drop n filled ≡ range (c.args.place + n) (c.args.count - n) seen =
    c.in_ok-fill_behind.ensures.rest t ∙ ap (λ (k : ℕ). range (c.args.place + n) (k - n) seen) (ap (λ (l : List ℕ). length l) c.deref_mut.ensures.value ∙ long) in
    take_at filled (drop (length filled) buffer.items) buffer.len (omega (arith, same, buffer.ok))
    ∙ both_parts c.args.place c.args.count c.args.front.now filled seen c.requires.within (c.requires.held t) first rest
